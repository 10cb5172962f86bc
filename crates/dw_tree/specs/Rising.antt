-- The entries of a tree in their order have offsets that rise, so each is found at its own.
use Rattle.std.proofs.Common.{◌≡◌, ℕ, zero, suc, ◌+◌, ◌<◌, ◌≤◌, List, [], ◌∷◌, ◌++◌, length, get_or, Option, Some, refl, sym, ap, subst, ◌∙◌, arith}
use Rattle.std.specs.List.{Contains}
use Rattle.std.proofs.lemmas.Bool.{ne_eqb, eq-eqb}
use Rattle.std.proofs.lemmas.List.{length-append}
use Rattle.dw_leb.specs.Number.{Unsigned, uleb}
use Rattle.dw_leb.specs.DecideNumber.{uleb_some}
use Rattle.dw_form.specs.declared.shape.Ctx.{Ctx}
use Rattle.dw_form.specs.Form.{Attribute}
use Rattle.dw_abbrev.specs.Table.{Table, declared, zero_of}
use Rattle.dw_tree.specs.Tree.{Tree, leaf, branch, Forest, none, more, values, declared_pairs}
use Rattle.dw_tree.specs.Spelling.{entry_bytes, tree_bytes, forest_bytes}
use Rattle.dw_tree.specs.Offset.{CodesFit, AllCodesFit}
use Rattle.dw_tree.specs.Lent.{EntryAt, find_at, preorder, all_preorder}

-- each begins at lo or behind it, and behind the one before; the last one before hi
abbrev pub Rising : ℕ → ℕ → List EntryAt → Type 0
Rising lo hi [] = lo ≤ hi
Rising lo hi (e ∷ es) = (lo ≤ e.offset) × Rising (suc e.offset) hi es

wider : (lo hi low high : ℕ) (xs : List EntryAt) → low ≤ lo → hi ≤ high → Rising lo hi xs → Rising low high xs
wider lo hi low high [] l h r = omega (arith, l, h, r)
wider lo hi low high (e ∷ es) l h r =
    (omega (arith, l, r.0), wider (suc e.offset) hi (suc e.offset) high es (omega arith) h r.1)

joined : (lo middle hi : ℕ) (xs ys : List EntryAt) → Rising lo middle xs → Rising middle hi ys → Rising lo hi (xs ++ ys)
joined lo middle hi [] ys r s = wider middle hi lo hi ys r (omega arith) s
joined lo middle hi (e ∷ es) ys r s = (r.0, joined (suc e.offset) middle hi es ys r.1 s)

module _ (k : Ctx) (t : Table) where
  entry_some : (code : Unsigned) (vs : List Attribute) → uleb.Fits code → 0 < length (entry_bytes k t code vs)
  entry_some code vs fits =
      omega (
        arith,
        uleb_some code fits,
        length-append (uleb.spell code) ((values k (declared_pairs (declared t code.value))).spell vs),
      )

  mutual
    unfolding tree_bytes CodesFit

    pub entries_rise : (x : Tree) → CodesFit x → (base depth : ℕ)
        → Rising base (base + length (tree_bytes k t x)) (preorder k t x base depth)
    entries_rise (leaf code vs) fits base depth = (omega arith, omega (arith, entry_some code vs fits))
    entries_rise (branch code vs ts w) fits base depth =
        let own = length (entry_bytes k t code vs) in
        let size = length-append (entry_bytes k t code vs) (forest_bytes k t ts ++ uleb.spell (zero_of w)) in
        let low : suc base ≤ base + own = omega (arith, entry_some code vs fits.0) in
        let high : base + own + length (forest_bytes k t ts)
        ≤ base + length (entry_bytes k t code vs ++ (forest_bytes k t ts ++ uleb.spell (zero_of w))) =
        omega (arith, size, length-append (forest_bytes k t ts) (uleb.spell (zero_of w))) in (
          omega arith,
          wider (base + own) (base + own + length (forest_bytes k t ts)) (suc base)
              (base + length (entry_bytes k t code vs ++ (forest_bytes k t ts ++ uleb.spell (zero_of w))))
              (all_preorder k t ts (base + own) (suc depth)) low high (all_rise ts fits.1 (base + own) (suc depth)),
        )

    all_rise : (ts : Forest) → AllCodesFit ts → (base depth : ℕ)
        → Rising base (base + length (forest_bytes k t ts)) (all_preorder k t ts base depth)
    all_rise none fits base depth = omega arith
    all_rise (more x ts) fits base depth =
        let first = length (tree_bytes k t x) in
        let high : base + first + length (forest_bytes k t ts)
        ≤ base + length (tree_bytes k t x ++ forest_bytes k t ts) =
        omega (arith, length-append (tree_bytes k t x) (forest_bytes k t ts)) in
        let rest =
        wider (base + first) (base + first + length (forest_bytes k t ts)) (base + first)
        (base + length (tree_bytes k t x ++ forest_bytes k t ts)) (all_preorder k t ts (base + first) depth)
        (omega arith) high (all_rise ts fits.1 (base + first) depth) in
        joined base (base + first) (base + length (tree_bytes k t x ++ forest_bytes k t ts)) (preorder k t x base depth)
        (all_preorder k t ts (base + first) depth) (entries_rise x fits.0 base depth) rest

-- each begins at lo or behind it
none_before : (lo hi : ℕ) (xs : List EntryAt) → Rising lo hi xs → (i : ℕ) (d : EntryAt) → i < length xs
    → lo ≤ (get_or xs i d).offset
none_before lo hi [] r i d l = absurd (omega (arith, l))
none_before lo hi (x ∷ xs) r zero d l = r.0
none_before lo hi (x ∷ xs) r (suc i) d l =
    let b = none_before (suc x.offset) hi xs r.1 i d (omega (arith, l)) in omega (arith, b, r.0)

found_at : (lo hi : ℕ) (xs : List EntryAt) → Rising lo hi xs → (e : EntryAt) (i : ℕ) → i < length xs → get_or xs i e ≡ e
    → find_at e.offset xs ≡ Some e
found_at lo hi [] r e i l is = absurd (omega (arith, l))
found_at lo hi (x ∷ xs) r e zero l is =
    rw (eq-eqb x.offset e.offset (ap (λ (y : EntryAt). y.offset) is)) (ap (λ (y : EntryAt). Some y) is)
found_at lo hi (x ∷ xs) r e (suc i) l is =
    let behind : suc x.offset ≤ e.offset =
    subst (λ (y : EntryAt). suc x.offset ≤ y.offset) is
    (none_before (suc x.offset) hi xs r.1 i e (omega (arith, l))) in
    rw (ne_eqb x.offset e.offset (λ q. omega (arith, q, behind)))
    (found_at (suc x.offset) hi xs r.1 e i (omega (arith, l)) is)

-- an entry is answered at its offset
pub each_by : (lo hi : ℕ) (xs : List EntryAt) → Rising lo hi xs → (o : ℕ) (r : Option EntryAt) → r ≡ find_at o xs
    → (e : EntryAt) → Contains xs e → e.offset ≡ o → r ≡ Some e
each_by lo hi xs rise o r is e c at =
    is ∙ (subst (λ (p : ℕ). find_at p xs ≡ Some e) at (found_at lo hi xs rise e c.0 c.1 c.2))

-- a later one begins behind
pub rises : (lo hi : ℕ) (xs : List EntryAt) → Rising lo hi xs → (i j : ℕ) (d : EntryAt) → i < j → j < length xs
    → (get_or xs i d).offset < (get_or xs j d).offset
rises lo hi [] r i j d lt l = absurd (omega (arith, l))
rises lo hi (x ∷ xs) r i zero d lt l = absurd (omega (arith, lt))
rises lo hi (x ∷ xs) r zero (suc j) d lt l =
    let b = none_before (suc x.offset) hi xs r.1 j d (omega (arith, l)) in omega (arith, b)
rises lo hi (x ∷ xs) r (suc i) (suc j) d lt l =
    rises (suc x.offset) hi xs r.1 i j d (omega (arith, lt)) (omega (arith, l))

some_entry : (e f : EntryAt) → Some e ≡ Some f → e ≡ f
some_entry e f h = cc

-- two of them have two offsets
pub one_at : (lo hi : ℕ) (xs : List EntryAt) → Rising lo hi xs → (e f : EntryAt) → Contains xs e → Contains xs f
    → e.offset ≡ f.offset → e ≡ f
one_at lo hi xs rise e f one two same =
    some_entry e f
    (sym (each_by lo hi xs rise e.offset (find_at e.offset xs) refl e one refl)
    ∙ each_by lo hi xs rise e.offset (find_at e.offset xs) refl f two (sym same))
