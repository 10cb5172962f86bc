-- The rows of a tree hold its entries, each before those below it.
use Rattle.std.proofs.Common.{◌≡◌, ℕ, suc, ◌+◌, List, [], ◌∷◌, ◌++◌, length, refl, sym, ◌∙◌, ap, ap₂, arith, append_assoc, append-nil, length-append}
use Rattle.dw_leb.specs.Number.{uleb}
use Rattle.dw_form.specs.declared.shape.Ctx.{Ctx}
use Rattle.dw_abbrev.specs.Table.{Table, zero_of}
use Rattle.dw_tree.specs.Tree.{Tree, leaf, branch, Forest, none, more}
use Rattle.dw_tree.specs.Spelling.{entry_bytes, tree_bytes, forest_bytes}
use Rattle.dw_tree.specs.Row.{Token, null_row, rows_of, all_rows, Rest, rest-rows, head_of}
use Rattle.dw_tree.specs.Steps.{TreeAt}
use Rattle.dw_tree.specs.Lent.{EntryAt, preorder, all_preorder, entries_in, entries_of, entries_from}

module _ (k : Ctx) (t : Table) where
  mutual
    unfolding tree_bytes

    entries-rows : (x : Tree) (ys : List Token) (at d : ℕ) → entries_in k t (rows_of x ++ ys) at (suc d) ≡ preorder k t x at (suc d) ++ entries_in k t ys (at + length (tree_bytes k t x)) (suc d)
    entries-rows (leaf code vs) ys at d = refl
    entries-rows (branch code vs ts w) ys at d =
        let own = entry_bytes k t code vs in
        let null = uleb.spell (zero_of w) in
        let end : at + length own + length (forest_bytes k t ts) + length null ≡ at + length (tree_bytes k t (branch code vs ts w)) = omega (arith, length-append own (forest_bytes k t ts ++ null), length-append (forest_bytes k t ts) null) in
        ap₂ (λ (x : Tree) (es : List EntryAt). record { context = k; table = t; node = x; offset = at; depth = suc d } ∷ es)
        (ap (λ (r : Rest). head_of r.here) (rest-rows (branch code vs ts w) ys))
        (ap (λ (xs : List Token). entries_in k t xs (at + length own) (suc (suc d))) (append_assoc (all_rows ts) (null_row w ∷ []) ys)
        ∙ (entries-all ts (null_row w ∷ ys) (at + length own) (suc d)
        ∙ ap (λ (n : ℕ). all_preorder k t ts (at + length own) (suc (suc d)) ++ entries_in k t ys n (suc d)) end))

    entries-all : (ts : Forest) (ys : List Token) (at d : ℕ) → entries_in k t (all_rows ts ++ ys) at (suc d) ≡ all_preorder k t ts at (suc d) ++ entries_in k t ys (at + length (forest_bytes k t ts)) (suc d)
    entries-all none ys at d = ap (λ (n : ℕ). entries_in k t ys n (suc d)) (omega arith)
    entries-all (more x ts) ys at d =
        let end : at + length (tree_bytes k t x) + length (forest_bytes k t ts) ≡ at + length (forest_bytes k t (more x ts)) = omega (arith, length-append (tree_bytes k t x) (forest_bytes k t ts)) in
        ap (λ (xs : List Token). entries_in k t xs at (suc d)) (append_assoc (rows_of x) (all_rows ts) ys)
        ∙ (entries-rows x (all_rows ts ++ ys) at d
        ∙ (ap (λ (es : List EntryAt). preorder k t x at (suc d) ++ es) (entries-all ts ys (at + length (tree_bytes k t x)) d)
        ∙ (ap (λ (n : ℕ). preorder k t x at (suc d) ++ (all_preorder k t ts (at + length (tree_bytes k t x)) (suc d) ++ entries_in k t ys n (suc d))) end
        ∙ sym (append_assoc (preorder k t x at (suc d)) (all_preorder k t ts (at + length (tree_bytes k t x)) (suc d)) (entries_in k t ys (at + length (forest_bytes k t (more x ts))) (suc d))))))

pub all_entries : (u : TreeAt) → entries_from u 0 ≡ entries_of u
all_entries u =
    let start : u.start + 0 ≡ u.start = omega arith in
    ap (λ (xs : List Token). entries_in u.context u.table xs (u.start + 0) 1) (sym (append-nil (rows_of u.root)))
    ∙ (entries-rows u.context u.table u.root [] (u.start + 0) 0
    ∙ (append-nil (preorder u.context u.table u.root (u.start + 0) 1) ∙ ap (λ (n : ℕ). preorder u.context u.table u.root n 1) start))
