-- The values of an entry, one by one, each one a step of the feed.
use Rattle.std.proofs.Common.{◌≡◌, ℕ, zero, suc, ◌+◌, ◌-◌, ◌<◌, ◌≤◌, Bool, true, false, List, [], ◌∷◌, ◌++◌, length, take, drop, map, slice_get, slice_index_or, Option, Some, None, refl, sym, ap, subst, ◌∙◌, arith, inr, length-append, length-drop}
use Rattle.std.proofs.lemmas.List.{length-take-le, drop-drop}
use Rattle.std.proofs.lemmas.Bool.{eqb-true}
use Rattle.std.specs.Prelude.{◌==◌, is_some}
use Rattle.dw_leb.specs.Number.{Unsigned}
use Rattle.dw_leb.specs.Decide.{AreBytes}
use Rattle.dw_leb.specs.Reader.{Found}
use Rattle.dw_form.specs.Form.{Attribute}
use Rattle.dw_form.specs.Pieces.{via_bytes}
use Rattle.dw_abbrev.specs.PairView.{pair_of}
use Rattle.dw_abbrev.specs.declared.pair.Pair.{Pair as RustPair}
use Rattle.dw_abbrev.specs.Table.{Pair, Declaration, Table, declared}
use Rattle.dw_tree.specs.Tree.{Forest, declared_pairs}
use Rattle.dw_tree.specs.Place.{Frame, Spot, UnfinishedEntry}
use Rattle.dw_tree.specs.Steps.{next_pair, partial_in, settled, settle_by, settle, value_at}
use Rattle.dw_unit.specs.Draft.{Drafted, given, tree_in}
use Rattle.dw_feed.specs.declared.step.Step.TheVariants as steps
use Rattle.dw_feed.specs.BodyFeed.{PartialUnit, pairs_left, part}
use Rattle.dw_feed.specs.BodyView.{drafted, coming}
use Rattle.dw_feed.specs.EntrySteps.{NoneKept, NextSays, TakesOn}
use Rattle.dw_feed.specs.FeedInvariant.{Keeps, context, frames_of, chain_of, body_so_far, left, moved_to}
use Rattle.dw_feed.specs.FeedSteps.{At, at_first}
use Rattle.dw_feed.specs.FieldReader.{PlaceBehind, Follows, follows}
use Rattle.dw_feed.specs.FieldSteps.{HasPart, FieldPart, Waits, StepSays, code_part}
use Rattle.dw_feed.specs.PlainFeed.{field_at, root_if_whole, whole_at}
use Rattle.dw_feed.specs.ValueSteps.{behind_value, part_free}
use Rattle.dw_feed.specs.FieldTurns.{turns}
use Rattle.dw_feed.proofs.Turns.{none_part, none_partial, goes_at, goes_has, goes_less}

-- ---- the pairs that are left

-- behind the values that an entry was given
pub settled_left : (t : Table) (s : Spot) (code : Unsigned) (vs : List Attribute) → pairs_left t (settle t s code vs).unfinished ≡ drop (length vs) (declared_pairs (declared t code.value))
settled_left t s code vs = by (declared t code.value) refl
  where
    past : {X : Type 0} (xs : List X) (n : ℕ) → n ≡ length xs → [] ≡ drop n xs
    past [] zero e = refl
    past [] (suc n) e = refl
    past (x ∷ xs) zero e = absurd (omega (arith, e))
    past (x ∷ xs) (suc n) e = past xs n (omega (arith, e))

    none_left : {X : Type 0} (n : ℕ) → drop {A = X} n [] ≡ []
    none_left zero = refl
    none_left (suc n) = refl

    full : (d : Declaration) (children b : Bool) → (length vs == length d.pairs) ≡ b → declared t code.value ≡ Some d → pairs_left t (settled b children s code vs).unfinished ≡ drop (length vs) d.pairs
    full d true true e known = past d.pairs (length vs) (eqb-true (length vs) (length d.pairs) e)
    full d false true e known = past d.pairs (length vs) (eqb-true (length vs) (length d.pairs) e)
    full d children false e known = ap (λ (o : Option Declaration). drop (length vs) (declared_pairs o)) known

    by : (o : Option Declaration) → declared t code.value ≡ o → pairs_left t (settle_by o s code vs).unfinished ≡ drop (length vs) (declared_pairs o)
    by None e = sym (none_left (length vs))
    by (Some d) e = full d d.children (length vs == length d.pairs) refl e

-- ---- one value

-- the draft of a feed that has nothing of the field is changed
pub draft_is : (f : Drafted → Drafted) (g : PartialUnit) (d new : Drafted) (n : ℕ) (named : Option Unsigned) (to_come : ℕ) (pending : List ℕ) → coming d n named to_come pending ≡ g → NoneKept g → new ≡ f d
    → coming new n named to_come pending ≡ coming (f (drafted g)) g.unit_length None 0 []
draft_is f g d new n named to_come pending view none_kept e =
    ap (λ (x : Drafted). coming x n named to_come pending) e
    ∙ ap (λ (u : PartialUnit). coming (f (drafted u)) u.unit_length u.named u.to_come u.pending) view
    ∙ ap (λ (o : Option Unsigned). coming (f (drafted g)) g.unit_length o g.to_come g.pending) none_kept.unnamed
    ∙ ap (λ (m : ℕ). coming (f (drafted g)) g.unit_length None m g.pending) none_kept.none_to_come
    ∙ ap (λ (bs : List ℕ). coming (f (drafted g)) g.unit_length None 0 bs) none_kept.none_pending

-- a value is given to it
pub next_given : (g : PartialUnit) (d new : Drafted) (n : ℕ) (named : Option Unsigned) (to_come : ℕ) (pending : List ℕ) → coming d n named to_come pending ≡ g → NoneKept g → (v : Attribute) → new ≡ given v d
    → coming new n named to_come pending ≡ moved_to (given v (drafted g)).place g.padding g
next_given g d new n named to_come pending view none_kept v e = draft_is (given v) g d new n named to_come pending view none_kept e

pub next_unchanged : (g : PartialUnit) (d new : Drafted) (n : ℕ) (named : Option Unsigned) (to_come : ℕ) (pending : List ℕ) → coming d n named to_come pending ≡ g → new ≡ d → coming new n named to_come pending ≡ g
next_unchanged g d new n named to_come pending view e = ap (λ (x : Drafted). coming x n named to_come pending) e ∙ view

-- behind one value more the pairs behind the first are left
pub given_left : (g : PartialUnit) (v : Attribute) → pairs_left g.table (given v (drafted g)).place.unfinished ≡ drop 1 (pairs_left g.table g.place.unfinished)
given_left g v = by g.place.unfinished refl
  where
    by : (o : Option UnfinishedEntry) → g.place.unfinished ≡ o → pairs_left g.table (value_at v (tree_in (drafted g)) o).place.unfinished ≡ drop 1 (pairs_left g.table o)
    by None e = ap (pairs_left g.table) e
    by (Some r) e =
        let n : length (r.values ++ v ∷ []) ≡ length r.values + 1 = length-append r.values (v ∷ []) in
        settled_left g.table g.place.spot r.code (r.values ++ v ∷ [])
        ∙ ap (λ (m : ℕ). drop m (declared_pairs (declared g.table r.code.value))) n
        ∙ sym (drop-drop 1 (length r.values) (declared_pairs (declared g.table r.code.value)))

-- no entry is closed by a value
pub above_kept : (t : Table) (s : Spot) (code : Unsigned) (vs : List Attribute) → length s.above ≤ length (settle t s code vs).spot.above
above_kept t s code vs = by (declared t code.value)
  where
    full : (b children : Bool) → length s.above ≤ length (settled b children s code vs).spot.above
    full true true = omega arith
    full true false = omega arith
    full false children = omega arith

    by : (o : Option Declaration) → length s.above ≤ length (settle_by o s code vs).spot.above
    by None = omega arith
    by (Some d) = full (length vs == length d.pairs) d.children

given_above : (g : PartialUnit) (v : Attribute) → length (frames_of g) ≤ length (given v (drafted g)).place.spot.above
given_above g v = by g.place.unfinished
  where
    by : (o : Option UnfinishedEntry) → length (frames_of g) ≤ length (value_at v (tree_in (drafted g)) o).place.spot.above
    by None = omega arith
    by (Some r) = above_kept g.table g.place.spot r.code (r.values ++ v ∷ [])

-- below an open entry the unit isn't whole
pub below_open : (g : PartialUnit) → 0 < length (frames_of g) → is_some (root_if_whole g) ≡ false
below_open g inside = by (frames_of g) (chain_of g) g.place.unfinished (left g) inside
  where
    by : (fs : List Frame) (ts : Forest) (o : Option UnfinishedEntry) (lim : ℕ) → 0 < length fs → is_some (whole_at fs ts o lim) ≡ false
    by [] ts o lim h = absurd (omega (arith, h))
    by (f ∷ fs) ts o lim h = refl

-- ---- fields that were taken, one behind the other

turns_less_or : (new g g0 : PartialUnit) (size over rest b : ℕ) → size ≡ over → turns new over < turns g rest → turns g rest ≤ turns g0 b → turns new size ≤ turns g0 b
turns_less_or new g g0 size over rest b is less few = by (turns new over) (turns g rest) (turns g0 b) (turns new size) (ap (turns new) is) less few
  where
    by : (x y z w : ℕ) → w ≡ x → x < y → y ≤ z → w ≤ z
    by x y z w e h k = omega (arith, e, h, k)

module _ (g0 : PartialUnit) (b : List ℕ) (keeps : Keeps g0) (none_there : part g0 ≡ []) (fit : AreBytes b) where
  at_start : At g0 b g0 (part g0 ++ b)
  at_start = at_first g0 b keeps (subst (λ (bs : List ℕ). AreBytes (bs ++ b)) (sym none_there) fit) (inr none_there)

  module _ (g : PartialUnit) (rest : List ℕ) (on : TakesOn g0 b g rest) where
    here : At g0 b g (part g ++ rest)
    here = on.at g0 b at_start

    pub on_keeps : Keeps g
    on_keeps = here.keeps

    waits : Waits g
    waits = inr on.none_there

    rest_fit : AreBytes rest
    rest_fit = subst (λ (bs : List ℕ). AreBytes (bs ++ rest)) on.none_there here.fit

    -- one field more, the unit not whole behind it
    module _ (size : ℕ) (new : PartialUnit) (q : PlaceBehind) (found : field_at g rest (left g) ≡ Found q size) (there : size ≤ length rest) (moved : new ≡ moved_to q.0 q.1 g) (on_from : is_some (root_if_whole new) ≡ false) where
      abbrev over : ℕ
      over = length rest - size

      step_found : StepSays g (part g ++ rest) (steps.Found over) new
      step_found = subst (λ (bs : List ℕ). StepSays g (bs ++ rest) (steps.Found over) new) (sym on.none_there) (q, size, found, omega (arith, there), moved)

      own_size : length rest - over ≡ size
      own_size = omega (arith, there)

      size_is : length (drop size rest) ≡ over
      size_is = length-drop size rest

      less : turns new over < turns g (length rest)
      less = goes_less g0 b g rest here waits over new step_found

      pub on_step : TakesOn g0 b new (drop size rest)
      on_step = record {
        at = λ g1 piece a. subst (λ (n : ℕ). At g1 piece new (part new ++ drop n rest)) own_size (goes_at g1 piece g rest (on.at g1 piece a) waits over new step_found on_from);
        has = goes_has g0 b g rest here waits over new step_found;
        none_there = none_part g0 b g rest here waits over new step_found;
        same_table = ap (λ (u : PartialUnit). u.table) moved ∙ on.same_table;
        within = omega (arith, length-drop size rest, on.within);
        fewer = turns_less_or new g g0 (length (drop size rest)) over (length rest) (length b) size_is less on.fewer;
      }

      leads : Follows (context g) g.table g.place g.padding rest (left g) size q
      leads = follows (context g) g.table (frames_of g) (chain_of g) g.place.unfinished g.padding rest (left g) rest_fit here.keeps.stands q size found

      pub step_within : size ≤ left g
      step_within = leads.1

      pub step_left : left new ≡ left g - size
      step_left =
          let all = ap length leads.0.1 in
          omega (arith, ap left moved, all, length-append (body_so_far g) (take size rest), length-take-le size rest there)

      pub step_none_kept : NoneKept new
      step_none_kept = record { unnamed = ap (λ (u : PartialUnit). u.named) moved; none_to_come = ap (λ (u : PartialUnit). u.to_come) moved; none_pending = ap (λ (u : PartialUnit). u.pending) moved }

      pub step_free : partial_in new.place.unfinished ≡ None
      step_free = none_partial g0 b g rest here waits over new step_found

    module _ (inside : 0 < length (frames_of g)) (size : ℕ) (new : PartialUnit) (says : NextSays g rest (Some size) new) where
      pub inside_with : 0 < length (frames_of new)
      inside_with = omega (arith, inside, given_above g says.0, ap (λ (u : PartialUnit). length (frames_of u)) says.3)

      not_whole : is_some (root_if_whole new) ≡ false
      not_whole = below_open new inside_with

      pub left_pairs : pairs_left new.table new.place.unfinished ≡ drop 1 (pairs_left g.table g.place.unfinished)
      left_pairs = ap (λ (u : PartialUnit). pairs_left u.table u.place.unfinished) says.3 ∙ given_left g says.0

      pub on_with : TakesOn g0 b new (drop size rest)
      on_with = on_step size new (behind_value g says.0) says.1 says.2 says.3 not_whole

      -- ---- what the loop over the pairs keeps beside

      pub size_within : size ≤ left g
      size_within = step_within size new (behind_value g says.0) says.1 says.2 says.3 not_whole

      pub left_with : left new ≡ left g - size
      left_with = step_left size new (behind_value g says.0) says.1 says.2 says.3 not_whole

      pub none_kept_with : NoneKept new
      none_kept_with = step_none_kept size new (behind_value g says.0) says.1 says.2 says.3 not_whole

      pub free_with : partial_in new.place.unfinished ≡ None
      free_with = step_free size new (behind_value g says.0) says.1 says.2 says.3 not_whole

      pub context_with : context new ≡ context g
      context_with = ap context says.3

      pub pairs_with : (ps : List RustPair) (i : ℕ) → pairs_left g.table g.place.unfinished ≡ drop i (map pair_of ps) → pairs_left new.table new.place.unfinished ≡ drop (i + 1) (map pair_of ps)
      pairs_with ps i e = left_pairs ∙ ap (drop 1) e ∙ drop-drop 1 i (map pair_of ps)

-- ---- runs of fields, one behind the other

-- nothing was taken
pub on_none : (g : PartialUnit) (b : List ℕ) → HasPart g → part g ≡ [] → TakesOn g b g b
on_none g b has none_there = record { at = λ g0 piece a. a; has = has; none_there = none_there; same_table = refl; within = omega arith; fewer = omega arith }

pub on_more : (g : PartialUnit) (b : List ℕ) (h : PartialUnit) (c : List ℕ) (new : PartialUnit) (rest : List ℕ) → TakesOn g b h c → TakesOn h c new rest → TakesOn g b new rest
on_more g b h c new rest first second = record {
  at = λ g0 piece a. second.at g0 piece (first.at g0 piece a);
  has = second.has;
  none_there = second.none_there;
  same_table = second.same_table ∙ first.same_table;
  within = omega (arith, first.within, second.within);
  fewer = le_from (turns new (length rest)) (turns h (length c)) (turns g (length b)) second.fewer first.fewer;
}
  where
    le_from : (x y z : ℕ) → x ≤ y → y ≤ z → x ≤ z
    le_from x y z h k = omega (arith, h, k)

-- ---- the next pair

next_item : (ps : List RustPair) (i : ℕ) (p : RustPair) → i < length ps → drop i (map pair_of ps) ≡ pair_of (slice_index_or ps i p) ∷ drop (suc i) (map pair_of ps)
next_item [] i p lt = absurd (omega (arith, lt))
next_item (q ∷ ps) zero p lt = refl
next_item (q ∷ ps) (suc i) p lt = next_item ps i p (omega (arith, lt))

pub first_of : (ps : List Pair) (n : ℕ) (p : Pair) (qs : List Pair) → drop n ps ≡ p ∷ qs → slice_get ps n ≡ Some p
first_of [] zero p qs e = absurd cc
first_of [] (suc n) p qs e = absurd cc
first_of (q ∷ ps) zero p qs e = cc
first_of (q ∷ ps) (suc n) p qs e = first_of ps n p qs e

pub next_is : (t : Table) (o : Option UnfinishedEntry) (ps : List RustPair) (i : ℕ) (p : RustPair) → pairs_left t o ≡ drop i (map pair_of ps) → i < length ps → p ≡ slice_index_or ps i p → next_pair t o ≡ Some (pair_of p)
next_is t o ps i p e lt is = by o (e ∙ next_item ps i p lt ∙ ap (λ (q : RustPair). pair_of q ∷ drop (suc i) (map pair_of ps)) (sym is))
  where
    by : (u : Option UnfinishedEntry) → pairs_left t u ≡ pair_of p ∷ drop (suc i) (map pair_of ps) → next_pair t u ≡ Some (pair_of p)
    by None h = absurd cc
    by (Some r) h = first_of (declared_pairs (declared t r.code.value)) (length r.values) (pair_of p) (drop (suc i) (map pair_of ps)) h

-- nothing is there of the field, where none of it is kept and no value is partial
pub none_part_of : (g : PartialUnit) → NoneKept g → partial_in g.place.unfinished ≡ None → part g ≡ []
none_part_of g none_kept between =
    part_free g between
    ∙ ap (λ (o : Option Unsigned). via_bytes o ++ g.pending) none_kept.unnamed
    ∙ none_kept.none_pending

-- nothing is kept of a code of which nothing is there
pub code_none_kept : (g : PartialUnit) → g.place.unfinished ≡ None → HasPart g → part g ≡ [] → NoneKept g
code_none_kept g free has none_there =
    let h : FieldPart g None = subst (FieldPart g) free has in
    record { unnamed = h.0; none_to_come = h.1; none_pending = sym (code_part g free h.0) ∙ none_there }

-- ---- in the loop over the fields

-- behind a field that was found nothing is kept
pub found_none_kept : (g : PartialUnit) (bytes : List ℕ) (n : ℕ) (new : PartialUnit) → StepSays g bytes (steps.Found n) new → NoneKept new
found_none_kept g bytes n new says = record {
  unnamed = ap (λ (u : PartialUnit). u.named) says.4;
  none_to_come = ap (λ (u : PartialUnit). u.to_come) says.4;
  none_pending = ap (λ (u : PartialUnit). u.pending) says.4;
}

pub found_table : (g : PartialUnit) (bytes : List ℕ) (n : ℕ) (new : PartialUnit) → StepSays g bytes (steps.Found n) new → new.table ≡ g.table
found_table g bytes n new says = ap (λ (u : PartialUnit). u.table) says.4

-- fewer fields may still come
pub turns_less : (new g old : PartialUnit) (rest b left : List ℕ) → turns new (length rest) ≤ turns g (length b) → turns g (length b) < turns old (length left) → turns new (length rest) < turns old (length left)
turns_less new g old rest b left more less = by (turns new (length rest)) (turns g (length b)) (turns old (length left)) more less
  where
    by : (x y z : ℕ) → x ≤ y → y < z → x < z
    by x y z h k = omega (arith, h, k)
