-- Where the next byte of a tree under construction stands, after each step.
use Rattle.std.proofs.Common.{◌≡◌, ◌≢◌, ℕ, ◌+◌, List, [], ◌∷◌, ◌++◌, length, take, drop, refl, sym, ◌∙◌, ap, arith, length-append, append-nil, append_assoc, Bool, true, false, Option, Some, None, take_all}
use Rattle.std.proofs.lemmas.Bool.{eqb-true}
use Rattle.std.specs.Prelude.{IsSome, ◌==◌}
use Rattle.dw_leb.specs.Number.{Unsigned, uleb}
use Rattle.dw_leb.specs.DecideNumber.{length-uleb}
use Rattle.dw_form.specs.declared.shape.Ctx.{Ctx}
use Rattle.dw_form.specs.Form.{Attribute, attribute}
use Rattle.dw_abbrev.specs.Table.{Pair, Declaration, Table, declared, zero_of}
use Rattle.dw_tree.specs.Tree.{Forest, leaf, branch, values, declared_pairs}
use Rattle.dw_tree.specs.Row.{Token, leaf_row, branch_row, null_row, all_rows, rows_bytes, row_bytes}
use Rattle.dw_tree.specs.Place.{Frame, Spot, leave_from, rows_before, rows_before-push, UnfinishedEntry, Place}
use Rattle.dw_tree.specs.Steps.{Growing, settled, settle_by, settle, begun_at, with_value, value_at, closed_at, end_of, unfinished_bytes, first_values, FirstsFit, FirstFits, first_bytes, NextFits, next_bytes}

module _ (k : Ctx) (t : Table) where
  pub bytes_push : (xs : List Token) (x : Token)
      → length (rows_bytes k t (xs ++ x ∷ [])) ≡ length (rows_bytes k t xs) + length (row_bytes k t x)
  bytes_push [] x = let e = ap length (append-nil (row_bytes k t x)) in omega (arith, e)
  bytes_push (y ∷ xs) x =
      let h = bytes_push xs x in
      omega (
        arith,
        length-append (row_bytes k t y) (rows_bytes k t (xs ++ x ∷ [])),
        length-append (row_bytes k t y) (rows_bytes k t xs),
        h,
      )

  pub prefix_bytes : (ps : List Pair) (vs : List Attribute) (v : Attribute) → FirstsFit k ps vs
      → FirstFits k (drop (length vs) ps) v
      → length (first_values k ps (vs ++ v ∷ []))
      ≡ length (first_values k ps vs) + length (first_bytes k (drop (length vs) ps) v)
  prefix_bytes [] [] v h n = absurd n
  prefix_bytes (p ∷ ps) [] v h n =
      let e = ap length (append-nil ((attribute k p.form.value p.constant).spell v)) in omega (arith, e)
  prefix_bytes [] (w ∷ vs) v h n = absurd h
  prefix_bytes (p ∷ ps) (w ∷ vs) v h n =
      let one = (attribute k p.form.value p.constant).spell w in
      let g = prefix_bytes ps vs v h.1 n in
      omega (arith, length-append one (first_values k ps (vs ++ v ∷ [])), length-append one (first_values k ps vs), g)

  -- the bytes of a place
  abbrev pub size_of : Place → ℕ
  size_of p =
      length (rows_bytes k t (rows_before p.spot.above p.spot.left)) + length (unfinished_bytes k t p.unfinished)

  abbrev pub before : Spot → ℕ
  before s = length (rows_bytes k t (rows_before s.above s.left))

  abbrev own : Unsigned → List Attribute → List ℕ
  own code vs = uleb.spell code ++ first_values k (declared_pairs (declared t code.value)) vs

  whole : (code : Unsigned) (vs : List Attribute) (d : Declaration) → declared t code.value ≡ Some d
      → length vs ≡ length d.pairs
      → take (length vs) (declared_pairs (declared t code.value)) ≡ declared_pairs (declared t code.value)
  whole code vs d e n =
      take_all (length vs) (declared_pairs (declared t code.value))
      (omega (arith, n, ap (λ (o : Option Declaration). length (declared_pairs o)) e))

  settled_size : (s : Spot) (code : Unsigned) (vs : List Attribute) (d : Declaration) → declared t code.value ≡ Some d
      → (b ch : Bool) → (length vs == length d.pairs) ≡ b
      → size_of (settled b ch s code vs) ≡ before s + length (own code vs)
  settled_size s code vs d e true true h =
      let all =
      ap (λ (ps : List Pair). length (uleb.spell code ++ (values k ps).spell vs))
      (whole code vs d e (eqb-true _ _ h)) in
      let push = bytes_push (rows_before s.above s.left) (branch_row code vs) in
      omega (arith, all, push)
  settled_size s code vs d e true false h =
      let all =
      ap (λ (ps : List Pair). length (uleb.spell code ++ (values k ps).spell vs))
      (whole code vs d e (eqb-true _ _ h)) in
      let push =
      ap (λ (xs : List Token). length (rows_bytes k t xs)) (rows_before-push s.above s.left (leaf code vs))
      ∙ bytes_push (rows_before s.above s.left) (leaf_row code vs) in
      omega (arith, all, push)
  settled_size s code vs d e false ch h = refl

  settle_size : (s : Spot) (code : Unsigned) (vs : List Attribute) → IsSome (declared t code.value)
      → size_of (settle t s code vs) ≡ before s + length (own code vs)
  settle_size s code vs h = by (declared t code.value) refl h
    where
      by : (o : Option Declaration) → declared t code.value ≡ o → IsSome o
          → size_of (settle_by o s code vs) ≡ before s + length (own code vs)
      by None e h = absurd cc
      by (Some d) e h = settled_size s code vs d e (length vs == length d.pairs) d.children refl

  close_size : (w : ℕ) (fs : List Frame) (ts : Forest) → fs ≢ []
      → before (leave_from w fs ts) ≡ length (rows_bytes k t (rows_before fs ts)) + w
  close_size w [] ts n = absurd (n refl)
  close_size w (f ∷ fs) ts n =
      let pushed =
      ap (λ (xs : List Token). length (rows_bytes k t xs))
      (rows_before-push fs f.left (branch f.code f.values ts w)
      ∙ sym
      (append_assoc (rows_before fs f.left) (branch_row f.code f.values ∷ all_rows ts)
      (null_row w ∷ []))) in
      let one = bytes_push (rows_before (f ∷ fs) ts) (null_row w) in
      omega (arith, pushed, one, length-uleb (zero_of w))

-- an entry of a declared code begins
pub begun_end : (g : Growing) (code : Unsigned) → IsSome (declared g.table code.value) → g.place.unfinished ≡ None
    → end_of (begun_at code g) ≡ end_of g + code.width
begun_end g code h free =
    let k = g.context in
    let t = g.table in
    let size = settle_size k t g.place.spot code [] h in
    let none = ap (λ (o : Option UnfinishedEntry). length (unfinished_bytes k t o)) free in
    omega (
      arith,
      size,
      none,
      length-append (uleb.spell code) (first_values k (declared_pairs (declared t code.value)) []),
      length-uleb code,
    )

-- the unfinished entry is given one more value
pub value_end : (g : Growing) (r : UnfinishedEntry) (v : Attribute) → g.place.unfinished ≡ Some r
    → IsSome (declared g.table r.code.value)
    → FirstsFit g.context (declared_pairs (declared g.table r.code.value)) r.values
    → NextFits g.context g.table (Some r) v
    → end_of (with_value v g) ≡ end_of g + length (next_bytes g.context g.table (Some r) v)
value_end g r v e h f n =
    let k = g.context in
    let t = g.table in
    let ps = declared_pairs (declared t r.code.value) in
    let with = ap (λ (o : Option UnfinishedEntry). end_of (value_at v g o)) e in
    let size = settle_size k t g.place.spot r.code (r.values ++ v ∷ []) h in
    let more = prefix_bytes k t ps r.values v f n in
    let old = ap (λ (o : Option UnfinishedEntry). length (unfinished_bytes k t o)) e in
    omega (
      arith,
      with,
      size,
      more,
      old,
      length-append (uleb.spell r.code) (first_values k ps (r.values ++ v ∷ [])),
      length-append (uleb.spell r.code) (first_values k ps r.values),
    )

-- the innermost open entry is closed
pub closed_end : (g : Growing) (w : ℕ) → g.place.spot.above ≢ [] → g.place.unfinished ≡ None
    → end_of (closed_at w g) ≡ end_of g + w
closed_end g w n free =
    let size = close_size g.context g.table w g.place.spot.above g.place.spot.left n in
    let none = ap (λ (o : Option UnfinishedEntry). length (unfinished_bytes g.context g.table o)) free in
    omega (arith, size, none)
