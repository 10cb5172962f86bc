-- Fewer fields may still come behind each that is found.
use Rattle.std.proofs.Common.{◌≡◌, ◌⊎◌, ℕ, zero, suc, ◌+◌, ◌-◌, ◌*◌, ◌<◌, ◌≤◌, Bool, true, false, List, [], ◌∷◌, ◌++◌, length, take, drop, Option, Some, None, refl, sym, ap, subst, ◌∙◌, arith, inl, inr, length-append, length-drop}
use Rattle.std.proofs.lemmas.List.{length-take-le}
use Rattle.std.specs.Prelude.{◌==◌, is_some, if◌then◌else◌}
use Rattle.dw_leb.specs.declared.errors.Reason.{Reason}
use Rattle.dw_leb.specs.Part.{Taken, judged}
use Rattle.dw_leb.specs.Number.{Unsigned, uleb}
use Rattle.dw_leb.specs.DecideNumber.{uleb_some, uleb_decides}
use Rattle.dw_leb.specs.Decide.{AreBytes, Says, found_value, judged_decides}
use Rattle.dw_leb.specs.Reader.{Outcome, Found, Broken, mapped, made, checked}
use Rattle.dw_leb.specs.ReadNumber.{read_uleb}
use Rattle.dw_leb.specs.Moments.{fewer_or_enough}
use Rattle.dw_form.specs.declared.shape.Ctx.{Ctx}
use Rattle.dw_form.specs.Form.{Attribute, shape}
use Rattle.dw_form.specs.Pieces.{form_in}
use Rattle.dw_form.specs.ReadForm.{read_attribute}
use Rattle.dw_abbrev.specs.Table.{Pair, Declaration, Table, declared, declared_in, is_null}
use Rattle.dw_tree.specs.Tree.{Tree, Forest, none, more, declared_pairs, bad_root, bad_child, not_null, nesting}
use Rattle.dw_tree.specs.Place.{Frame, Spot, PartialValue, UnfinishedEntry}
use Rattle.dw_tree.specs.Steps.{next_pairs, partial_in, settled, settle_by, settle}
use Rattle.dw_feed.specs.Room.{has_room}
use Rattle.dw_feed.specs.declared.step.Step.TheVariants as steps
use Rattle.dw_feed.specs.declared.progress.Progress.TheVariants as answers
use Rattle.dw_feed.specs.BodyFeed.{PartialUnit, Reading, Refused, Finished, pairs_left, value_part, part}
use Rattle.dw_feed.specs.FeedInvariant.{context, frames_of, chain_of, body_so_far, left, wanted, moved_to}
use Rattle.dw_feed.specs.FeedSteps.{At, RanSays, found_wants, done_says, goes_on, more_says, field_fault_says, at_same_field}
use Rattle.dw_feed.specs.FieldReader.{PlaceBehind, by_code, read_value, read_field, follows}
use Rattle.dw_feed.specs.PartialValues.{none_kept}
use Rattle.dw_feed.specs.PlainFeed.{field_at, ran, fault_at, root_if_whole, unit_with}
use Rattle.dw_feed.specs.FieldTurns.{longest_of, longest, turns}
use Rattle.dw_feed.specs.FieldSteps.{Waits, Standing, HasPart, HoldsPart, HasNext, FieldPart, ValuePart, StepSays, keeps_stands, next_here, has_moment, same_wants}

-- with a byte less
pub byte_less : (m n a b l : ℕ) → m < n → a ≤ l → m * suc l + a < n * suc l + b
byte_less zero (suc n) a b l h le = omega (arith, le)
byte_less (suc m) (suc n) a b l h le = let i = byte_less m n a b l (omega (arith, h)) le in omega (arith, i)
byte_less m zero a b l h le = absurd (omega (arith, h))

-- with a value less
pub value_less : (m n a b l : ℕ) → m ≤ n → a < b → m * suc l + a < n * suc l + b
value_less zero n a b l h lt = omega (arith, lt)
value_less (suc m) zero a b l h lt = absurd (omega (arith, h))
value_less (suc m) (suc n) a b l h lt = let i = value_less m n a b l (omega (arith, h)) lt in omega (arith, i)

-- ---- the place behind a field

declared_short : (ds : List Declaration) (code : ℕ) (d : Declaration) → declared_in ds code ≡ Some d → length d.pairs ≤ longest_of ds
declared_short [] code d e = absurd cc
declared_short (x ∷ ds) code d e = by (code == x.code.value) (declared_short ds code d) e
  where
    by : (v : Bool) → (declared_in ds code ≡ Some d → length d.pairs ≤ longest_of ds) → (if v then Some x else declared_in ds code) ≡ Some d → length d.pairs ≤ longest_of (x ∷ ds)
    by true r h = let same : x ≡ d = cc in omega (arith, ap (λ (y : Declaration). length y.pairs) same)
    by false r h = let l = r h in omega (arith, l)

module _ (t : Table) where
  abbrev pub pairs_of : Option UnfinishedEntry → ℕ
  pairs_of o = length (pairs_left t o)

  pairs_few : (code : ℕ) → length (declared_pairs (declared t code)) ≤ longest t
  pairs_few code = by (declared t code) refl
    where
      by : (o : Option Declaration) → declared t code ≡ o → length (declared_pairs o) ≤ longest t
      by None e = omega arith
      by (Some d) e = declared_short t.declarations code d e

  -- an entry that is given values: none of a partial one is there
  pub settled_free : (s : Spot) (code : Unsigned) (vs : List Attribute) → partial_in (settle t s code vs).unfinished ≡ None
  settled_free s code vs = by (declared t code.value)
    where
      by_full : (full children : Bool) → partial_in (settled full children s code vs).unfinished ≡ None
      by_full true true = refl
      by_full true false = refl
      by_full false children = refl

      by : (o : Option Declaration) → partial_in (settle_by o s code vs).unfinished ≡ None
      by None = refl
      by (Some d) = by_full (length vs == length d.pairs) d.children

  pub settled_pairs : (s : Spot) (code : Unsigned) (vs : List Attribute) → pairs_of (settle t s code vs).unfinished ≤ length (declared_pairs (declared t code.value)) - length vs
  settled_pairs s code vs = by (declared t code.value) refl
    where
      by_full : (full children : Bool) → pairs_of (settled full children s code vs).unfinished ≤ length (declared_pairs (declared t code.value)) - length vs
      by_full true true = omega arith
      by_full true false = omega arith
      by_full false children = omega (arith, length-drop (length vs) (declared_pairs (declared t code.value)))

      by : (o : Option Declaration) → declared t code.value ≡ o → pairs_of (settle_by o s code vs).unfinished ≤ length (declared_pairs (declared t code.value)) - length vs
      by None e = omega arith
      by (Some d) e = by_full (length vs == length d.pairs) d.children

-- Behind a field nothing is there of the next one. The field had a byte, or one value less is to come.
pub record Progresses (t : Table) (o : Option UnfinishedEntry) (q : PlaceBehind) (size : ℕ) : Type 0 where
  pub free : partial_in q.0.unfinished ≡ None
  pub fewer : ((0 < size) × (pairs_of t q.0.unfinished ≤ longest t)) ⊎ (pairs_of t q.0.unfinished < pairs_of t o)

module _ (k : Ctx) (t : Table) where
  code_progress : (meaning : Unsigned → Option Reason) (f : Unsigned → PlaceBehind) (o : Option UnfinishedEntry) → ((code : Unsigned) → partial_in (f code).0.unfinished ≡ None) → ((code : Unsigned) → pairs_of t (f code).0.unfinished ≤ longest t)
      → (bytes : List ℕ) (lim : ℕ) → AreBytes bytes → (q : PlaceBehind) (size : ℕ) → made f (checked read_uleb meaning) bytes lim ≡ Found q size → Progresses t o q size
  code_progress meaning f o free few bytes lim fit q size e =
      by (checked read_uleb meaning bytes lim) refl e
    where
      by : (r : Outcome Unsigned) → checked read_uleb meaning bytes lim ≡ r → mapped f r ≡ Found q size → Progresses t o q size
      by (Found code n) h m =
          let p = found_value (f code) q n size m in
          let g : Taken (judged uleb meaning) bytes lim code n = subst (Says (judged uleb meaning) bytes lim) h ((judged_decides uleb read_uleb meaning uleb_decides).says bytes lim fit) in
          subst (λ (x : PlaceBehind). Progresses t o x size) p.0 (record { free = free code; fewer = inl (omega (arith, p.1, g.is_size, uleb_some code g.fits.0), few code) })
      by (Broken own reason) h m = absurd cc

  by_code_free : (b : Bool) (s : Spot) (code : Unsigned) → partial_in (by_code k t b s code).0.unfinished ≡ None
  by_code_free true s code = refl
  by_code_free false s code = settled_free t s code []

  by_code_few : (b : Bool) (s : Spot) (code : Unsigned) → pairs_of t (by_code k t b s code).0.unfinished ≤ longest t
  by_code_few true s code = omega arith
  by_code_few false s code = omega (arith, settled_pairs t s code [], pairs_few t code.value)

  value_progress : (fs : List Frame) (ts : Forest) (r : UnfinishedEntry) (ps : List Pair) → next_pairs t r ≡ ps → 0 < length ps → (bytes : List ℕ) (lim : ℕ) (q : PlaceBehind) (size : ℕ) → read_value k t fs ts r ps bytes lim ≡ Found q size → Progresses t (Some r) q size
  value_progress fs ts r [] same some bytes lim q size e = absurd (omega (arith, some))
  value_progress fs ts r (p ∷ ps) same some bytes lim q size e = by (read_attribute k p.form.value p.constant bytes lim) e
    where
      f : Attribute → PlaceBehind
      f v = (settle t (record { above = fs; left = ts }) r.code (r.values ++ v ∷ []), [])

      by : (o : Outcome Attribute) → mapped f o ≡ Found q size → Progresses t (Some r) q size
      by (Found v n) m =
          let x = found_value (f v) q n size m in
          subst (λ (y : PlaceBehind). Progresses t (Some r) y size) x.0 (record {
            free = settled_free t (record { above = fs; left = ts }) r.code (r.values ++ v ∷ []);
            fewer = inr (omega (arith, settled_pairs t (record { above = fs; left = ts }) r.code (r.values ++ v ∷ []), length-append r.values (v ∷ []), ap length same, some, length-drop (length r.values) (declared_pairs (declared t r.code.value))));
          })
      by (Broken own reason) m = absurd cc

  pub progresses : (fs : List Frame) (ts : Forest) (o : Option UnfinishedEntry) (ws bytes : List ℕ) (lim : ℕ) → AreBytes bytes → HasNext t o → (q : PlaceBehind) (size : ℕ) → read_field k t fs ts o ws bytes lim ≡ Found q size → Progresses t o q size
  progresses [] none (Some r) ws bytes lim fit next q size e = value_progress [] none r (next_pairs t r) refl next bytes lim q size e
  progresses [] (more x ts) (Some r) ws bytes lim fit next q size e = value_progress [] (more x ts) r (next_pairs t r) refl next bytes lim q size e
  progresses (f ∷ fs) ts (Some r) ws bytes lim fit next q size e = value_progress (f ∷ fs) ts r (next_pairs t r) refl next bytes lim q size e
  progresses [] none None ws bytes lim fit next q size e = code_progress (bad_root t) _ None (λ code. settled_free t (record { above = []; left = none }) code []) (λ code. omega (arith, settled_pairs t (record { above = []; left = none }) code [], pairs_few t code.value)) bytes lim fit q size e
  progresses [] (more x ts) None ws bytes lim fit next q size e = code_progress not_null _ None (λ code. refl) (λ code. omega arith) bytes lim fit q size e
  progresses (f ∷ fs) ts None ws bytes lim fit next q size e = code_progress (bad_child t (has_room (nesting - length (f ∷ fs)))) _ None (λ code. by_code_free (is_null code) (record { above = f ∷ fs; left = ts }) code) (λ code. by_code_few (is_null code) (record { above = f ∷ fs; left = ts }) code) bytes lim fit q size e

-- ---- a step that found its field

drop_part : (xs ys : List ℕ) (n : ℕ) → drop (length xs + n) (xs ++ ys) ≡ drop n ys
drop_part [] ys n = let e : 0 + n ≡ n = omega arith in ap (λ (m : ℕ). drop m ys) e
drop_part (x ∷ xs) ys n = let e : length (x ∷ xs) + n ≡ suc (length xs + n) = omega arith in ap (λ (m : ℕ). drop m (x ∷ (xs ++ ys))) e ∙ drop_part xs ys n

module _ (g0 : PartialUnit) (piece : List ℕ) (g : PartialUnit) (rest : List ℕ) (at : At g0 piece g (part g ++ rest)) (waits : Waits g) where
  abbrev bytes : List ℕ
  bytes = part g ++ rest

  module _ (over : ℕ) (new : PartialUnit) (says : StepSays g (part g ++ rest) (steps.Found over) new) where
    abbrev q : PlaceBehind
    q = says.0

    abbrev size : ℕ
    size = says.1

    seen : field_at g bytes (left g) ≡ Found q size
    seen = says.2

    all : over + size ≡ length bytes
    all = says.3

    progress : Progresses g.table g.place.unfinished q size
    progress = progresses (context g) g.table (frames_of g) (chain_of g) g.place.unfinished g.padding bytes (left g) at.fit (next_here g (keeps_stands g at.keeps)) q size seen

    -- the bytes that were there were its own
    own : (length (part g) < size) ⊎ (part g ≡ [])
    own = by waits
      where
        by : Waits g → (length (part g) < size) ⊎ (part g ≡ [])
        by (inr e) = inr e
        by (inl short) = elim (fewer_or_enough (length (part g)) size) [
          | inl less ↦ inl less
          | inr enough ↦ absurd (omega (arith, short, (has_moment g).early (part g) rest (left g) (omega (arith, enough, (found_wants g bytes q size seen).0))))
        ]

    own_size : length (part g) ≤ size
    own_size = by own
      where
        by : (length (part g) < size) ⊎ (part g ≡ []) → length (part g) ≤ size
        by (inl h) = omega (arith, h)
        by (inr e) = omega (arith, ap length e)

    pub over_within : over ≤ length rest
    over_within = omega (arith, all, own_size, length-append (part g) rest)

    rest_is : drop size bytes ≡ drop (length rest - over) rest
    rest_is = let n : size ≡ length (part g) + (length rest - over) = omega (arith, all, own_size, length-append (part g) rest) in ap (λ (m : ℕ). drop m bytes) n ∙ drop_part (part g) rest (length rest - over)

    over_is : length (drop size bytes) ≡ over
    over_is = omega (arith, all, length-drop size bytes)

    pub behind_stands : Standing new
    behind_stands =
        let to = follows (context g) g.table (frames_of g) (chain_of g) g.place.unfinished g.padding bytes (left g) at.fit at.keeps.stands q size seen in
        let le = (found_wants g bytes q size seen).1 in
        subst Standing (sym says.4) (record {
          head = at.keeps.head;
          stands = to.0.0;
          within = omega (arith, ap length to.0.1, length-append (body_so_far g) (take size bytes), length-take-le size bytes le, to.1, at.keeps.within);
        })

    pub whole_says : is_some (root_if_whole new) ≡ true → (x : Tree) × (root_if_whole new ≡ Some x) × Standing new × RanSays g0 piece (ran (answers.Done (unit_with new x)) Finished over)
    whole_says h = by (root_if_whole new) refl h
      where
        by : (o : Option Tree) → root_if_whole new ≡ o → is_some o ≡ true → (x : Tree) × (root_if_whole new ≡ Some x) × Standing new × RanSays g0 piece (ran (answers.Done (unit_with new x)) Finished over)
        by None e h = absurd cc
        by (Some x) e h = (x, e, behind_stands, subst (λ (u : PartialUnit). RanSays g0 piece (ran (answers.Done (unit_with u x)) Finished over)) (sym says.4) (subst (λ (n : ℕ). RanSays g0 piece (ran (answers.Done (unit_with (moved_to q.0 q.1 g) x)) Finished n)) over_is (done_says g0 piece g bytes at q size seen x (ap root_if_whole (sym says.4) ∙ e))))

    none_whole : is_some (root_if_whole new) ≡ false → root_if_whole new ≡ None
    none_whole h = by (root_if_whole new) h
      where
        by : (o : Option Tree) → is_some o ≡ false → o ≡ None
        by None h = refl
        by (Some x) h = absurd cc

    pub none_part : part new ≡ []
    none_part = ap part says.4 ∙ ap (λ (o : Option PartialValue). value_part (moved_to q.0 q.1 g) o ++ []) progress.free

    pub goes_at : is_some (root_if_whole new) ≡ false → At g0 piece new (part new ++ drop (length rest - over) rest)
    goes_at h =
        subst (At g0 piece new) (rest_is ∙ ap (λ (bs : List ℕ). bs ++ drop (length rest - over) rest) (sym none_part)) (subst (λ (u : PartialUnit). At g0 piece u (drop size bytes)) (sym says.4) (goes_on g0 piece g bytes at q size seen (ap root_if_whole (sym says.4) ∙ none_whole h)))

    pub none_partial : partial_in new.place.unfinished ≡ None
    none_partial = ap (λ (u : PartialUnit). partial_in u.place.unfinished) says.4 ∙ progress.free

    pub goes_has : HasPart new
    goes_has = subst HasPart (sym says.4) (by q.0.unfinished progress.free (next_here (moved_to q.0 q.1 g) (subst Standing says.4 behind_stands)))
      where
        by_pairs : (ps : List Pair) → 0 < length ps → ValuePart (moved_to q.0 q.1 g) ps None
        by_pairs [] h = absurd (omega (arith, h))
        by_pairs (p ∷ ps) h = (refl, tt, λ u e. absurd cc, none_kept (shape (form_in p.form.value None) (context g).address_size (context g).format) (left (moved_to q.0 q.1 g)))

        by : (o : Option UnfinishedEntry) → partial_in o ≡ None → HasNext g.table o → FieldPart (moved_to q.0 q.1 g) o
        by None e h = (refl, refl)
        by (Some r) e h = subst (ValuePart (moved_to q.0 q.1 g) (next_pairs g.table r)) (sym e) (by_pairs (next_pairs g.table r) h)

    pub goes_less : turns new over < turns g (length rest)
    goes_less = subst (λ (u : PartialUnit). turns u over < turns g (length rest)) (sym says.4) (by own progress.fewer)
      where
        by : (length (part g) < size) ⊎ (part g ≡ []) → ((0 < size) × (pairs_of g.table q.0.unfinished ≤ longest g.table)) ⊎ (pairs_of g.table q.0.unfinished < pairs_of g.table g.place.unfinished) → turns (moved_to q.0 q.1 g) over < turns g (length rest)
        by o (inr less) = value_less over (length rest) (pairs_of g.table q.0.unfinished) (pairs_of g.table g.place.unfinished) (longest g.table) over_within less
        by (inl more_bytes) (inl h) = byte_less over (length rest) (pairs_of g.table q.0.unfinished) (pairs_of g.table g.place.unfinished) (longest g.table) (omega (arith, all, more_bytes, length-append (part g) rest)) h.1
        by (inr e) (inl h) = byte_less over (length rest) (pairs_of g.table q.0.unfinished) (pairs_of g.table g.place.unfinished) (longest g.table) (omega (arith, all, h.0, ap length e, length-append (part g) rest)) h.1

  -- ---- a step that stops

  pub wanting_says : (new : PartialUnit) → StepSays g (part g ++ rest) steps.Wanting new → RanSays g0 piece (ran answers.More (Reading new) 0) × HoldsPart new
  wanting_says new says = (more_says g0 piece new bytes (at_same_field g0 piece g new bytes says.0 at) says.1 (omega (arith, says.2, same_wants g new says.0 (next_here g (keeps_stands g at.keeps)) bytes)), says.3)

  pub refused_says : (over : ℕ) (reason : Reason) (new : PartialUnit) → StepSays g (part g ++ rest) (steps.Refused over reason) new → RanSays g0 piece (ran (answers.Fault (fault_at g reason)) (Refused (fault_at g reason)) over)
  refused_says over reason new says =
      let n : length bytes - wanted g bytes ≡ over = omega (arith, says.3) in
      subst (λ (m : ℕ). RanSays g0 piece (ran (answers.Fault (fault_at g reason)) (Refused (fault_at g reason)) m)) n (field_fault_says g0 piece g bytes at says.0 reason says.1 says.2)
