-- Two entries have two offsets.
use Rattle.std.proofs.Common.{◌≡◌, ℕ, zero, suc, ◌+◌, ◌<◌, ◌≤◌, Bool, true, false, List, [], ◌∷◌, ◌++◌, length, Some, refl, ap, arith}
use Rattle.std.proofs.lemmas.List.{length-append}
use Rattle.dw_leb.specs.declared.errors.Reason.TheVariants.{TooDeep}
use Rattle.dw_leb.specs.Part.{judged}
use Rattle.dw_leb.specs.Number.{Unsigned, uleb}
use Rattle.dw_leb.specs.Part.{optional}
use Rattle.dw_form.specs.declared.shape.Ctx.{Ctx}
use Rattle.dw_form.specs.Form.{Attribute}
use Rattle.dw_leb.specs.Part.{refused}
use Rattle.dw_abbrev.specs.Table.{Table, declared, is_null, zero_of}
use Rattle.dw_leb.specs.Repeat.{ItemsFit}
use Rattle.dw_tree.specs.Tree.{Tree, leaf, branch, Forest, none, more, Body, node_of, nodes_of, values, declared_pairs, declares_children, bad_child, body, children, tree}
use Rattle.dw_tree.specs.Spelling.{entry_bytes, tree_bytes, forest_bytes}
use Rattle.dw_tree.specs.Offset.{offset_at, offset_in, CodesFit, AllCodesFit}
use Rattle.dw_leb.specs.DecideNumber.{uleb_some}

some_is : (a b : ℕ) → Some a ≡ Some b → a ≡ b
some_is a b e = cc

heads : (a b : ℕ) (xs ys : List ℕ) → (a ∷ xs) ≡ (b ∷ ys) → (suc a ∷ xs) ≡ (suc b ∷ ys)
heads a b xs ys e = let h : a ≡ b = cc in let t : xs ≡ ys = cc in rw (h, t) refl

module _ (k : Ctx) (t : Table) where
  entry_some : (code : Unsigned) (vs : List Attribute) → uleb.Fits code → 0 < length (entry_bytes k t code vs)
  entry_some code vs fits =
      omega (
        arith,
        uleb_some code fits,
        length-append (uleb.spell code) ((values k (declared_pairs (declared t code.value))).spell vs),
      )

  mutual
    unfolding offset_at tree_bytes CodesFit

    within : (x : Tree) → CodesFit x → (base : ℕ) (path : List ℕ) (o : ℕ) → offset_at k t base x path ≡ Some o
        → (base ≤ o) × (o < base + length (tree_bytes k t x))
    within (leaf code vs) fits base [] o e =
        (omega (arith, some_is base o e), omega (arith, some_is base o e, entry_some code vs fits))
    within (leaf code vs) fits base (i ∷ path) o e = absurd cc
    within (branch code vs ts w) fits base [] o e = (
      omega (arith, some_is base o e),
      omega (
        arith,
        some_is base o e,
        entry_some code vs fits.0,
        length-append (entry_bytes k t code vs) (forest_bytes k t ts ++ uleb.spell (zero_of w)),
      ),
    )
    within (branch code vs ts w) fits base (i ∷ path) o e =
        let h = within_in ts fits.1 (base + length (entry_bytes k t code vs)) i path o e in (
          omega (arith, h.0),
          omega (
            arith,
            h.1,
            length-append (entry_bytes k t code vs) (forest_bytes k t ts ++ uleb.spell (zero_of w)),
            length-append (forest_bytes k t ts) (uleb.spell (zero_of w)),
          ),
        )

    within_in : (ts : Forest) → AllCodesFit ts → (base i : ℕ) (path : List ℕ) (o : ℕ)
        → offset_in k t base ts i path ≡ Some o → (base ≤ o) × (o < base + length (forest_bytes k t ts))
    within_in none fits base i path o e = absurd cc
    within_in (more x ts) fits base zero path o e =
        let h = within x fits.0 base path o e in
        (h.0, omega (arith, h.1, length-append (tree_bytes k t x) (forest_bytes k t ts)))
    within_in (more x ts) fits base (suc i) path o e =
        let h = within_in ts fits.1 (base + length (tree_bytes k t x)) i path o e in
        (omega (arith, h.0), omega (arith, h.1, length-append (tree_bytes k t x) (forest_bytes k t ts)))

  mutual
    unfolding offset_at tree_bytes CodesFit

    pub one_path : (x : Tree) → CodesFit x → (base : ℕ) (p q : List ℕ) (o : ℕ) → offset_at k t base x p ≡ Some o
        → offset_at k t base x q ≡ Some o → p ≡ q
    one_path (leaf code vs) fits base [] [] o e f = refl
    one_path (leaf code vs) fits base [] (j ∷ q) o e f = absurd cc
    one_path (leaf code vs) fits base (i ∷ p) q o e f = absurd cc
    one_path (branch code vs ts w) fits base [] [] o e f = refl
    one_path (branch code vs ts w) fits base [] (j ∷ q) o e f =
        absurd
        (omega (
          arith,
          some_is base o e,
          entry_some code vs fits.0,
          within_in ts fits.1 (base + length (entry_bytes k t code vs)) j q o f,
        ))
    one_path (branch code vs ts w) fits base (i ∷ p) [] o e f =
        absurd
        (omega (
          arith,
          some_is base o f,
          entry_some code vs fits.0,
          within_in ts fits.1 (base + length (entry_bytes k t code vs)) i p o e,
        ))
    one_path (branch code vs ts w) fits base (i ∷ p) (j ∷ q) o e f =
        one_path_in ts fits.1 (base + length (entry_bytes k t code vs)) i p j q o e f

    one_path_in : (ts : Forest) → AllCodesFit ts → (base i : ℕ) (p : List ℕ) (j : ℕ) (q : List ℕ) (o : ℕ)
        → offset_in k t base ts i p ≡ Some o → offset_in k t base ts j q ≡ Some o → (i ∷ p) ≡ (j ∷ q)
    one_path_in none fits base i p j q o e f = absurd cc
    one_path_in (more x ts) fits base zero p zero q o e f =
        ap (λ (r : List ℕ). 0 ∷ r) (one_path x fits.0 base p q o e f)
    one_path_in (more x ts) fits base zero p (suc j) q o e f =
        absurd
        (omega (arith, within x fits.0 base p o e, within_in ts fits.1 (base + length (tree_bytes k t x)) j q o f))
    one_path_in (more x ts) fits base (suc i) p zero q o e f =
        absurd
        (omega (arith, within x fits.0 base q o f, within_in ts fits.1 (base + length (tree_bytes k t x)) i p o e))
    one_path_in (more x ts) fits base (suc i) p (suc j) q o e f =
        heads i j p q (one_path_in ts fits.1 (base + length (tree_bytes k t x)) i p j q o e f)

  -- ---- what fits has codes that fit

  abbrev KidsFit : ℕ → Type 0
  KidsFit room = (x : Forest × Unsigned) → (children k t room).Fits x → AllCodesFit x.0

  node_codes : (room : ℕ) → KidsFit room → (x : Tree) → uleb.Fits (node_of x).0
      → (body k t (children k t room) (node_of x).0).Fits (node_of x).1 → CodesFit x
  unfolding CodesFit
  node_codes room ih (leaf code vs) c fits = c
  node_codes room ih (branch code vs ts w) c fits = (c, by (declares_children (declared t code.value)) fits.1)
    where
      by : (b : Bool) → (optional b (children k t room)).Fits (Some (ts, zero_of w)) → AllCodesFit ts
      by true h = ih (ts, zero_of w) h
      by false h = absurd h

  nodes_codes : (room : ℕ) → KidsFit room → (before : List (Unsigned × Body)) (ts : Forest) (end : Unsigned)
      → ItemsFit (λ _. judged uleb (bad_child t true)) is_null (body k t (children k t room)) before (nodes_of ts) end
      → AllCodesFit ts
  unfolding AllCodesFit
  nodes_codes room ih before none end fits = tt
  nodes_codes room ih before (more x ts) end fits =
      (node_codes room ih x fits.0.0.0 fits.0.2, nodes_codes room ih (before ++ node_of x ∷ []) ts end fits.1)

  kids_codes : (room : ℕ) → KidsFit room
  unfolding children AllCodesFit
  kids_codes zero = λ x fits. by x.0 x.1 fits
    where
      by : (ts : Forest) (end : Unsigned)
          → ItemsFit (λ _. judged uleb (bad_child t false)) is_null (λ _. refused TooDeep) [] (nodes_of ts) end
          → AllCodesFit ts
      by none end fits = tt
      by (more x ts) end fits = absurd fits.0.2
  kids_codes (suc room) = λ x fits. nodes_codes room (kids_codes room) [] x.0 x.1 fits

  pub tree_codes : (room : ℕ) (x : Tree) → (tree k t room).Fits x → CodesFit x
  tree_codes room x fits = node_codes room (kids_codes room) x fits.0.0 fits.1
