-- A null below an open entry, or a code with the first values of the entry that it begins: each field is a step of the feed.
use Rattle.std.proofs.Common.{◌≡◌, ◌≢◌, ℕ, zero, suc, ◌+◌, ◌-◌, ◌<◌, ◌≤◌, true, false, List, [], ◌∷◌, ◌++◌, length, take, drop, Option, Some, None, refl, sym, ap, subst, ◌∙◌, append_assoc, arith, length-append, length-drop}
use Rattle.std.specs.Prelude.{is_some}
use Rattle.std.proofs.lemmas.Bool.{eq-eqb, ne_eqb}
use Rattle.std.proofs.lemmas.List.{drop_at, drop-drop, take-append-drop, length-take-le}
use Rattle.dw_leb.specs.declared.errors.Reason.{Reason}
use Rattle.dw_leb.specs.Decide.{AreBytes}
use Rattle.dw_leb.specs.Number.{Unsigned}
use Rattle.dw_leb.specs.Reader.{Found, judged_outcome, refused_if}
use Rattle.dw_leb.specs.ReadNumber.{read_uleb}
use Rattle.dw_form.specs.declared.shape.Ctx.{Ctx}
use Rattle.dw_form.specs.Form.{Attribute, attribute}
use Rattle.dw_form.specs.ReadForm.{read_attribute}
use Rattle.dw_form.specs.DecideForm.{attribute_decides}
use Rattle.dw_abbrev.specs.Table.{Pair, Declaration, Table, declared, is_null}
use Rattle.dw_tree.specs.Tree.{Forest, declared_pairs, unknown, nesting}
use Rattle.dw_tree.specs.Place.{Frame, Place, UnfinishedEntry, leave}
use Rattle.dw_tree.specs.Steps.{next_pair, partial_in, settle, ArePlain}
use Rattle.dw_unit.specs.Draft.{begun, given, given_each, closed}
use Rattle.dw_feed.specs.Room.{has_room}
use Rattle.dw_feed.specs.BodyFeed.{PartialUnit, pairs_left, part}
use Rattle.dw_feed.specs.BodyView.{drafted, coming}
use Rattle.dw_feed.specs.EntrySteps.{NoneKept, NextSays, TakesOn, EntrySays}
use Rattle.dw_feed.specs.FeedInvariant.{Keeps, context, frames_of, chain_of, left, moved_to}
use Rattle.dw_feed.specs.FieldPlace.{PaddingFits}
use Rattle.dw_feed.specs.FieldReader.{PlaceBehind}
use Rattle.dw_feed.specs.FieldSteps.{HasPart, keeps_stands, code_meaning, behind_code, code_read}
use Rattle.dw_feed.specs.PlainFeed.{field_at, root_if_whole}
use Rattle.dw_feed.specs.ValueSteps.{value_read}
use Rattle.dw_feed.proofs.EntryLemmas.{settled_left, above_kept, below_open, on_none, on_step, step_left, step_none_kept, step_free, on_keeps, on_with, inside_with, left_pairs, left_with, none_kept_with, free_with, first_of}

-- ---- what a code below an open entry means

room_there : (n : ℕ) → n < nesting → has_room (nesting - n) ≡ true
room_there n h = by (nesting - n) (omega (arith, h))
  where
    by : (m : ℕ) → 0 < m → has_room m ≡ true
    by zero i = absurd (omega (arith, i))
    by (suc m) i = refl

is_known : (t : Table) (code : ℕ) (d : Declaration) → declared t code ≡ Some d → unknown t code ≡ None
is_known t code d e = rw e refl

null_meant : (t : Table) (fs : List Frame) (ts : Forest) (code : Unsigned) → 0 < length fs → is_null code ≡ true → code_meaning t fs ts code ≡ None
null_meant t [] ts code h e = absurd (omega (arith, h))
null_meant t (f ∷ fs) ts code h e = rw e refl

entry_meant : (t : Table) (fs : List Frame) (ts : Forest) (code : Unsigned) → 0 < length fs → is_null code ≡ false → length fs < nesting → (d : Declaration) → declared t code.value ≡ Some d → code_meaning t fs ts code ≡ None
entry_meant t [] ts code h e level d known = absurd (omega (arith, h))
entry_meant t (f ∷ fs) ts code h e level d known = rw (e, room_there (length (f ∷ fs)) level) (is_known t code.value d known)

-- no padding stands below an open entry
unpadded : (k : Ctx) (t : Table) (fs : List Frame) (ts : Forest) (o : Option UnfinishedEntry) (ws : List ℕ) → PaddingFits k t fs ts o ws → 0 < length fs → ws ≡ []
unpadded k t fs ts o [] h i = refl
unpadded k t [] ts o (w ∷ ws) h i = absurd (omega (arith, i))
unpadded k t (f ∷ fs) ts o (w ∷ ws) h i = absurd h

behind_null : (k : Ctx) (t : Table) (fs : List Frame) (ts : Forest) (ws : List ℕ) (code : Unsigned) → 0 < length fs → is_null code ≡ true → behind_code k t fs ts ws code ≡ (record { spot = leave code.width (record { above = fs; left = ts }); unfinished = None }, [])
behind_null k t [] ts ws code h e = absurd (omega (arith, h))
behind_null k t (f ∷ fs) ts ws code h e = rw e refl

behind_begun : (k : Ctx) (t : Table) (fs : List Frame) (ts : Forest) (ws : List ℕ) (code : Unsigned) → 0 < length fs → is_null code ≡ false → behind_code k t fs ts ws code ≡ (settle t (record { above = fs; left = ts }) code [], [])
behind_begun k t [] ts ws code h e = absurd (omega (arith, h))
behind_begun k t (f ∷ fs) ts ws code h e = rw e refl

-- ---- values, one behind the other

abbrev gives : List Attribute → PartialUnit → PartialUnit
gives [] g = g
gives (v ∷ vs) g = gives vs (moved_to (given v (drafted g)).place g.padding g)

gives_is : (vs : List Attribute) (p : Place) (ws : List ℕ) (g : PartialUnit) → coming (given_each vs (drafted (moved_to p ws g))) g.unit_length None 0 [] ≡ gives vs (moved_to p ws g)
gives_is [] p ws g = refl
gives_is (v ∷ vs) p ws g = gives_is vs (given v (drafted (moved_to p ws g))).place ws g

first_next : (t : Table) (o : Option UnfinishedEntry) (p : Pair) (ps : List Pair) → pairs_left t o ≡ p ∷ ps → next_pair t o ≡ Some p
first_next t None p ps e = absurd cc
first_next t (Some r) p ps e = first_of (declared_pairs (declared t r.code.value)) (length r.values) p ps e

module _ (g0 : PartialUnit) (b : List ℕ) (keeps : Keeps g0) (none_there : part g0 ≡ []) (fit : AreBytes b) where
  record Given (g : PartialUnit) (rest : List ℕ) : Type 0 where
    pub on : TakesOn g0 b g rest
    pub inside : 0 < length (frames_of g)
    pub none_kept : NoneKept g
    pub free : partial_in g.place.unfinished ≡ None

  values_on : (ps : List Pair) (vs : List Attribute) (bytes after : List ℕ) (g : PartialUnit) (rest : List ℕ) → Given g rest → pairs_left g.table g.place.unfinished ≡ ps → ArePlain (context g) ps vs bytes → rest ≡ bytes ++ after → length bytes ≤ left g
      → Given (gives vs g) after
  values_on ps [] bytes after g rest i are plain e within = subst (Given g) (e ∙ ap (λ (bs : List ℕ). bs ++ after) plain) i
  values_on [] (v ∷ vs) bytes after g rest i are plain e within = absurd plain
  values_on (p ∷ ps) (v ∷ vs) bytes after g rest i are plain e within =
      let own : List ℕ = (attribute (context g) p.form.value p.constant).spell v in
      let more : List ℕ = plain.1.0 in
      let split : rest ≡ own ++ (more ++ after) = e ∙ ap (λ (bs : List ℕ). bs ++ after) plain.1.1 ∙ append_assoc own more after in
      let sized : length bytes ≡ length own + length more = ap length plain.1.1 ∙ length-append own more in
      let read : read_attribute (context g) p.form.value p.constant rest (left g) ≡ Found v (length own) =
      ap (λ (bs : List ℕ). read_attribute (context g) p.form.value p.constant bs (left g)) split ∙ (attribute_decides (context g) p.form.value p.constant).takes v (more ++ after) (left g) plain.0.0 (omega (arith, sized, within)) in
      let new : PartialUnit = moved_to (given v (drafted g)).place g.padding g in
      let stands = keeps_stands g (on_keeps g0 b keeps none_there fit g rest i.on) in
      let says : NextSays g rest (Some (length own)) new = (v, value_read g p stands (first_next g.table g.place.unfinished p ps are) rest (Found v (length own)) read, omega (arith, ap length split, length-append own (more ++ after)), refl) in
      let lim = left_with g0 b keeps none_there fit g rest i.on i.inside (length own) new says in
      values_on ps vs more after new (drop (length own) rest) (record {
        on = on_with g0 b keeps none_there fit g rest i.on i.inside (length own) new says;
        inside = inside_with g0 b keeps none_there fit g rest i.on i.inside (length own) new says;
        none_kept = none_kept_with g0 b keeps none_there fit g rest i.on i.inside (length own) new says;
        free = free_with g0 b keeps none_there fit g rest i.on i.inside (length own) new says;
      }) (left_pairs g0 b keeps none_there fit g rest i.on i.inside (length own) new says ∙ ap (drop 1) are) plain.1.2 (ap (drop (length own)) split ∙ drop_at own (more ++ after) (length own) refl) (omega (arith, lim, sized, within))

-- ---- a code or null that was read

module _ (g : PartialUnit) (keeps : Keeps g) (has : HasPart g) (none_there : part g ≡ []) (free : g.place.unfinished ≡ None) (inside : 0 < length (frames_of g))
    (b : List ℕ) (fit : AreBytes b) (code : Unsigned) (read : read_uleb b (left g) ≡ Found code code.width) (some : 0 < code.width) (room : code.width ≤ length b) where
  no_padding : g.padding ≡ []
  no_padding = unpadded (context g) g.table (frames_of g) (chain_of g) g.place.unfinished g.padding keeps.stands.padding_fits inside

  abbrev behind : PlaceBehind
  behind = behind_code (context g) g.table (frames_of g) (chain_of g) g.padding code

  on : TakesOn g b g b
  on = on_none g b has none_there

  code_found : code_meaning g.table (frames_of g) (chain_of g) code ≡ None → field_at g b (left g) ≡ Found behind code.width
  code_found meant =
      code_read g free b (Found code code.width)
      (ap (judged_outcome (code_meaning g.table (frames_of g) (chain_of g))) read ∙ ap (λ (o : Option Reason). refused_if o code code.width) meant)

  -- a null that doesn't close the root
  pub null_says : code.value ≡ 0 → 1 < length (frames_of g) → (new : PartialUnit) → new ≡ moved_to (closed code.width (drafted g)).place g.padding g → EntrySays g b (Some code.width) new
  null_says zero_is deep new is =
      let null : is_null code ≡ true = eq-eqb code.value 0 zero_is in
      let found = code_found (null_meant g.table (frames_of g) (chain_of g) code inside null) in
      let q : behind ≡ ((closed code.width (drafted g)).place, g.padding) = behind_null (context g) g.table (frames_of g) (chain_of g) g.padding code inside null ∙ ap (λ (ws : List ℕ). ((closed code.width (drafted g)).place, ws)) (sym no_padding) in
      let moved : new ≡ moved_to behind.0 behind.1 g = is ∙ ap (λ (x : PlaceBehind). moved_to x.0 x.1 g) (sym q) in
      let opened : 0 < length (frames_of new) = omega (arith, ap (λ (u : PartialUnit). length (frames_of u)) is, closed_above (frames_of g) (chain_of g) code.width deep) in
      (some, room, on_step g b keeps none_there fit g b on code.width new behind found room moved (below_open new opened), step_none_kept g b keeps none_there fit g b on code.width new behind found room moved (below_open new opened), step_free g b keeps none_there fit g b on code.width new behind found room moved (below_open new opened))
    where
      closed_above : (fs : List Frame) (ts : Forest) (w : ℕ) → 1 < length fs → 0 < length (leave w (record { above = fs; left = ts })).above
      closed_above [] ts w h = absurd (omega (arith, h))
      closed_above (f ∷ fs) ts w h = omega (arith, h)

  module _ (d : Declaration) (known : declared g.table code.value ≡ Some d) (ne : code.value ≢ 0) (level : length (frames_of g) < nesting) where
    null_not : is_null code ≡ false
    null_not = ne_eqb code.value 0 ne

    begins : field_at g b (left g) ≡ Found behind code.width
    begins = code_found (entry_meant g.table (frames_of g) (chain_of g) code inside null_not level d known)

    abbrev first : PartialUnit
    first = moved_to (begun code (drafted g)).place g.padding g

    first_is : first ≡ moved_to behind.0 behind.1 g
    first_is = ap (λ (x : PlaceBehind). moved_to x.0 x.1 g) (ap (λ (ws : List ℕ). ((begun code (drafted g)).place, ws)) no_padding ∙ sym (behind_begun (context g) g.table (frames_of g) (chain_of g) g.padding code inside null_not))

    opened : 0 < length (frames_of first)
    opened = omega (arith, inside, above_kept g.table g.place.spot code [])

    not_whole : is_some (root_if_whole first) ≡ false
    not_whole = below_open first opened

    first_pairs : pairs_left first.table first.place.unfinished ≡ d.pairs
    first_pairs = settled_left g.table g.place.spot code [] ∙ ap declared_pairs known

    -- with the first values, as they stand there
    pub begun_says : (vs : List Attribute) (size : ℕ) → size ≤ length (drop code.width b) → code.width + size ≤ left g → ArePlain (context g) d.pairs vs (take size (drop code.width b)) → (new : PartialUnit) → new ≡ coming (given_each vs (begun code (drafted g))) g.unit_length None 0 []
        → EntrySays g b (Some (code.width + size)) new
    begun_says vs size there within plain new is =
        let rest : List ℕ = drop code.width b in
        let after : List ℕ = drop size rest in
        let sized = length-take-le size rest there in
        let lim = step_left g b keeps none_there fit g b on code.width first behind begins room first_is not_whole in
        let start : Given g b keeps none_there fit first rest = record {
          on = on_step g b keeps none_there fit g b on code.width first behind begins room first_is not_whole;
          inside = opened;
          none_kept = step_none_kept g b keeps none_there fit g b on code.width first behind begins room first_is not_whole;
          free = step_free g b keeps none_there fit g b on code.width first behind begins room first_is not_whole;
        } in
        let all : Given g b keeps none_there fit (gives vs first) after = values_on g b keeps none_there fit d.pairs vs (take size rest) after first rest start first_pairs plain (sym (take-append-drop size rest)) (omega (arith, sized, lim, within)) in
        let same : new ≡ gives vs first = is ∙ gives_is vs (begun code (drafted g)).place g.padding g in
        let end : after ≡ drop (code.width + size) b = drop-drop size code.width b in
        let whole : Given g b keeps none_there fit new (drop (code.width + size) b) = subst (λ (u : PartialUnit). Given g b keeps none_there fit u (drop (code.width + size) b)) (sym same) (subst (Given g b keeps none_there fit (gives vs first)) end all) in
        (omega (arith, some), omega (arith, there, room, length-drop code.width b), whole.on, whole.none_kept, whole.free)

    -- without them
    pub begun_alone_says : code.width ≤ left g → (new : PartialUnit) → new ≡ coming (begun code (drafted g)) g.unit_length None 0 [] → EntrySays g b (Some code.width) new
    begun_alone_says within new is =
        let size : code.width + 0 ≡ code.width = omega arith in
        subst (λ (n : ℕ). EntrySays g b (Some n) new) size (begun_says [] 0 (omega arith) (omega (arith, within)) refl new is)
