use Rattle.std.proofs.Common.{◌≡◌, ◌+◌, List, [], length, sym, ap, subst, ◌∙◌, arith, Some, Option, option_map}
use Rattle.std.specs.Prelude.{IsSome}
use Rattle.dw_form.specs.Form.{Attribute}
use Rattle.dw_tree.specs.declared.row.Unfinished.{Unfinished}
use Rattle.dw_tree.specs.Tree.{Tree, unit_tree}
use Rattle.dw_tree.specs.Row.{Token, rows_of, rows_bytes, rest_of, head_of, tree_of_rows}
use Rattle.dw_tree.specs.Place.{spot_after, open_rows}
use Rattle.dw_tree.specs.RowHeads.{Account}
use Rattle.dw_tree.specs.DraftView.{growing}
use Rattle.dw_tree.specs.Flat.{tokens_at, RowsAre}
use Rattle.dw_tree.specs.DraftInvariant.{HaveEnds, Stand, AreGiven, pairs_given, entry_with}
use Rattle.dw_tree.specs.Steps.{Growing, TreeAt, whole_tree, finished, unfinished_bytes, end_of}
use Rattle.dw_tree.proofs.Lists.{tokens_are_in, rows_are_read}
use Rattle.dw_tree.proofs.Whole.{whole_rows, some_of_map, mapped, idle_size}
use Rattle.dw_tree.proofs.Fits.{tree_fits}
use Rattle.dw_tree.proofs.Spelled.{tree_spelled}
use Rattle.dw_tree.proofs.Begins.{idle_is, partial_none, given_is, view_free, whole_free, ends_here}
use Rattle.dw_tree.proofs.draft.TreeDraft.finish.Goals as goal

pub invariant_of-result : goal.invariant_of-result
invariant_of-result c =
    let a = c.self.inside in
    let p = (growing a).place in
    let idle = idle_is a (whole_free p.spot.above p.spot.left p.unfinished (some_of_map _ _ (subst (λ (g : Growing). IsSome (finished g)) (sym c.self.view_is) c.requires))) in
    let free = partial_none a c.self.invariant idle in
    let g = given_is a free c.self.invariant in
    let view = sym (view_free a c.self.invariant free) ∙ c.self.view_is in
    let k = a.context in
    let t = a.table.value in
    let rows = a.rows.items in
    let l = g.lists in
    let xs : List Token = g.tokens in
    let o = option_map (entry_with g.values) a.unfinished in
    let h : IsSome (whole_tree (spot_after xs).above (spot_after xs).left o) = some_of_map _ _ (subst (λ (g : Growing). IsSome (finished g)) (sym view) c.requires) in
    let w : (x : Tree) × (xs ≡ rows_of x) × (whole_tree (spot_after xs).above (spot_after xs).left o ≡ Some x) × ((spot_after xs).above ≡ []) = whole_rows (spot_after xs).above (spot_after xs).left o xs l.is_spelled.spelled h in
    let free_size : length (unfinished_bytes k t o) ≡ 0 = idle_size k t (spot_after xs).above (spot_after xs).left o h in
    let seen : tokens_at k t rows a.heads.items a.pool.items ≡ xs = tokens_are_in k t a.start rows a.heads.items a.pool.items a.nested.items a.unfinished a.here xs g.values l in
    let root : w.0 ≡ head_of (rest_of (tokens_at k t rows a.heads.items a.pool.items)).here = sym (tree_of_rows w.0) ∙ ap (λ (ys : List Token). head_of (rest_of ys).here) (sym (seen ∙ w.1)) in
    let none : g.values ≡ [] = subst (AreGiven k t a.start xs g.values) idle l.are_given in
    let account : Account k t xs [] [] a.heads.items a.pool.items = subst (λ (vs : List Attribute). Account k t xs [] vs a.heads.items a.pool.items) none (subst (λ (q : Option Unfinished). Account k t xs (pairs_given t q) g.values a.heads.items a.pool.items) idle l.account) in
    let back : xs ≡ tokens_at k t rows a.heads.items a.pool.items = sym seen in
    record {
      context_fits = g.context_fits;
      rows_are = subst (λ (ys : List Token). RowsAre k t 0 0 rows ys) back l.rows_are;
      rows_read = rows_are_read k t a.start rows a.heads.items a.pool.items a.nested.items a.unfinished a.here xs g.values l;
      one_tree = (seen ∙ w.1) ∙ ap rows_of root;
      ends = subst (λ (ys : List Token). HaveEnds rows ys []) back (subst (HaveEnds rows xs) (l.is_spelled.opened ∙ ap open_rows w.3) l.is_spelled.ends);
      stand = subst (λ (ys : List Token). Stand k t a.start 1 rows ys) back l.stand;
      exact = subst (λ (ys : List Token). Account k t ys [] [] a.heads.items a.pool.items) back account;
      end_is = subst (λ (ys : List Token). a.here ≡ a.start + length (rows_bytes k t ys)) back (omega (arith, l.here_is, free_size));
      near = g.near;
    }

pub returns-clause-whole : goal.returns-clause-whole
returns-clause-whole c =
    let a = c.self.inside in
    let p = (growing a).place in
    let idle = idle_is a (whole_free p.spot.above p.spot.left p.unfinished (some_of_map _ _ (subst (λ (g : Growing). IsSome (finished g)) (sym c.self.view_is) c.requires))) in
    let free = partial_none a c.self.invariant idle in
    let g = given_is a free c.self.invariant in
    let view = sym (view_free a c.self.invariant free) ∙ c.self.view_is in
    let k = a.context in
    let t = a.table.value in
    let rows = a.rows.items in
    let l = g.lists in
    let xs : List Token = g.tokens in
    let o = option_map (entry_with g.values) a.unfinished in
    let h : IsSome (whole_tree (spot_after xs).above (spot_after xs).left o) = some_of_map _ _ (subst (λ (g : Growing). IsSome (finished g)) (sym view) c.requires) in
    let w : (x : Tree) × (xs ≡ rows_of x) × (whole_tree (spot_after xs).above (spot_after xs).left o ≡ Some x) × ((spot_after xs).above ≡ []) = whole_rows (spot_after xs).above (spot_after xs).left o xs l.is_spelled.spelled h in
    let free_size : length (unfinished_bytes k t o) ≡ 0 = idle_size k t (spot_after xs).above (spot_after xs).left o h in
    let seen : tokens_at k t rows a.heads.items a.pool.items ≡ xs = tokens_are_in k t a.start rows a.heads.items a.pool.items a.nested.items a.unfinished a.here xs g.values l in
    let root : w.0 ≡ head_of (rest_of (tokens_at k t rows a.heads.items a.pool.items)).here = sym (tree_of_rows w.0) ∙ ap (λ (ys : List Token). head_of (rest_of ys).here) (sym (seen ∙ w.1)) in
    let build : Tree → TreeAt = λ x. record { context = k; table = t; start = a.start; root = x } in
    ap finished (sym view) ∙ (mapped build (whole_tree (spot_after xs).above (spot_after xs).left o) w.0 w.2
    ∙ ap (λ (x : Tree). Some (build x)) root)

pub returns-clause-fits : goal.returns-clause-fits
returns-clause-fits c =
    let a = c.self.inside in
    let p = (growing a).place in
    let idle = idle_is a (whole_free p.spot.above p.spot.left p.unfinished (some_of_map _ _ (subst (λ (g : Growing). IsSome (finished g)) (sym c.self.view_is) c.requires))) in
    let free = partial_none a c.self.invariant idle in
    let g = given_is a free c.self.invariant in
    let view = sym (view_free a c.self.invariant free) ∙ c.self.view_is in
    let k = a.context in
    let t = a.table.value in
    let rows = a.rows.items in
    let l = g.lists in
    let xs : List Token = g.tokens in
    let o = option_map (entry_with g.values) a.unfinished in
    let h : IsSome (whole_tree (spot_after xs).above (spot_after xs).left o) = some_of_map _ _ (subst (λ (g : Growing). IsSome (finished g)) (sym view) c.requires) in
    let w : (x : Tree) × (xs ≡ rows_of x) × (whole_tree (spot_after xs).above (spot_after xs).left o ≡ Some x) × ((spot_after xs).above ≡ []) = whole_rows (spot_after xs).above (spot_after xs).left o xs l.is_spelled.spelled h in
    let free_size : length (unfinished_bytes k t o) ≡ 0 = idle_size k t (spot_after xs).above (spot_after xs).left o h in
    let seen : tokens_at k t rows a.heads.items a.pool.items ≡ xs = tokens_are_in k t a.start rows a.heads.items a.pool.items a.nested.items a.unfinished a.here xs g.values l in
    let root : w.0 ≡ head_of (rest_of (tokens_at k t rows a.heads.items a.pool.items)).here = sym (tree_of_rows w.0) ∙ ap (λ (ys : List Token). head_of (rest_of ys).here) (sym (seen ∙ w.1)) in
    subst (λ (x : Tree). (unit_tree k t).Fits x) root
    (tree_fits k t w.0 a.start rows (subst (Stand k t a.start 1 rows) w.1 l.stand))

pub returns-clause-size : goal.returns-clause-size
returns-clause-size c =
    let a = c.self.inside in
    let p = (growing a).place in
    let idle = idle_is a (whole_free p.spot.above p.spot.left p.unfinished (some_of_map _ _ (subst (λ (g : Growing). IsSome (finished g)) (sym c.self.view_is) c.requires))) in
    let free = partial_none a c.self.invariant idle in
    let g = given_is a free c.self.invariant in
    let view = sym (view_free a c.self.invariant free) ∙ c.self.view_is in
    let k = a.context in
    let t = a.table.value in
    let rows = a.rows.items in
    let l = g.lists in
    let xs : List Token = g.tokens in
    let o = option_map (entry_with g.values) a.unfinished in
    let h : IsSome (whole_tree (spot_after xs).above (spot_after xs).left o) = some_of_map _ _ (subst (λ (g : Growing). IsSome (finished g)) (sym view) c.requires) in
    let w : (x : Tree) × (xs ≡ rows_of x) × (whole_tree (spot_after xs).above (spot_after xs).left o ≡ Some x) × ((spot_after xs).above ≡ []) = whole_rows (spot_after xs).above (spot_after xs).left o xs l.is_spelled.spelled h in
    let free_size : length (unfinished_bytes k t o) ≡ 0 = idle_size k t (spot_after xs).above (spot_after xs).left o h in
    let seen : tokens_at k t rows a.heads.items a.pool.items ≡ xs = tokens_are_in k t a.start rows a.heads.items a.pool.items a.nested.items a.unfinished a.here xs g.values l in
    let root : w.0 ≡ head_of (rest_of (tokens_at k t rows a.heads.items a.pool.items)).here = sym (tree_of_rows w.0) ∙ ap (λ (ys : List Token). head_of (rest_of ys).here) (sym (seen ∙ w.1)) in
    let end = ap end_of (sym c.self.view_is) ∙ ends_here a c.self.invariant in
    let spelled = ap length (ap (λ (ys : List Token). rows_bytes k t ys) w.1
    ∙ (sym (tree_spelled k t w.0 a.start rows (subst (Stand k t a.start 1 rows) w.1 l.stand))
    ∙ ap (λ (x : Tree). (unit_tree k t).spell x) root)) in
    omega (arith, end, l.here_is, free_size, spelled)
