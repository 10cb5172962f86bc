use mir.Syntax.{w128}
use Rattle.std.proofs.Common.{◌≢◌, ◌<◌, ℕ, List, length, get_or, refl, ap, subst, arith}
use Rattle.std.proofs.lemmas.Int.{to_z-of_z}
use Rattle.dw_tree.specs.declared.row.Row.{Row}
use Rattle.dw_tree.specs.Put.{Edit}
use Rattle.dw_tree.proofs.FindRows.{offsets_grow}
use Rattle.dw_tree.proofs.PutNumber.{some_row, is_declared, first_within, found_here, has_patch, patch_within, still_tree, is_put, still_spelled, offsets_stay}
use Rattle.dw_tree.proofs.Written.{fits_as}
use Rattle.dw_tree.proofs.tree.EntryTree.put_number.Goals as goal

pub row_at-requires : goal.row_at-requires
row_at-requires c =
    rw c.deref.ensures.value (offsets_grow c.self.inside c.self.invariant c.args.self.now c.self.view_is)

pub unreachable-requires : goal.unreachable-requires
unreachable-requires c =
    let a = c.self.inside in
    let e : Edit = record { offset = c.args.offset; name = c.args.name; number = c.args.number } in
    let none : (j : ℕ) (d : Row) → j < length a.rows.items → (get_or a.rows.items j d).offset ≢ c.args.offset =
    subst (λ (rs : List Row). (j : ℕ) (d : Row) → j < length rs → (get_or rs j d).offset ≢ c.args.offset)
    c.deref.ensures.value c.in-None.ensures.none in
    some_row a c.self.invariant c.args.self.now c.self.view_is e c.requires none

pub unreachable-requires-in-None-get : goal.unreachable-requires-in-None-get
unreachable-requires-in-None-get c =
    is_declared c.self.invariant c.self.view_is c.requires c.deref.ensures.value c.in-Some.ensures.inside
    (c.in-Some.ensures.found c.index.result.now) c.index.ensures c.deref-2.ensures
    c.in-None-get.ensures.value

pub behind-heads-requires : goal.behind-heads-requires
behind-heads-requires c =
    let w = first_within c.self.invariant c.self.view_is c.requires c.deref.ensures.value c.in-Some.ensures.inside
    (c.in-Some.ensures.found c.index.result.now) c.index.ensures in
    omega (arith, w, ap length c.deref-3.ensures.value)

pub patch_in-requires-clause-context : goal.patch_in-requires-clause-context
patch_in-requires-clause-context c = c.self.invariant.context_fits

pub patch_in-requires-clause-here : goal.patch_in-requires-clause-here
patch_in-requires-clause-here c =
    found_here c.self.invariant c.self.view_is c.requires c.deref.ensures.value c.in-Some.ensures.inside
    (c.in-Some.ensures.found c.index.result.now) c.index.ensures c.pairs-pairs.result.now c.deref-2.ensures c.in-Some-get.ensures.value c.pairs-pairs.ensures
    c.behind-heads.ensures c.deref-3.ensures.value c.deref-4.ensures.value

pub overflow_add-row : goal.overflow_add-row
overflow_add-row c =
    let w = patch_within c.self.invariant c.self.view_is c.requires c.deref.ensures.value c.in-Some.ensures.inside
    (c.in-Some.ensures.found c.index.result.now) c.index.ensures c.pairs-pairs.result.now c.deref-2.ensures c.in-Some-get.ensures.value c.pairs-pairs.ensures
    c.behind-heads.ensures c.deref-3.ensures.value c.deref-4.ensures.value
    (to_z-of_z w128 c.args.number c.ranges.number) c.in-Some-patch_in.ensures in
    omega (arith, w, c.deref-3.type_inv.0, ap length c.deref-3.ensures.value)

pub overwrite-requires : goal.overwrite-requires
overwrite-requires c =
    let w = patch_within c.self.invariant c.self.view_is c.requires c.deref.ensures.value c.in-Some.ensures.inside
    (c.in-Some.ensures.found c.index.result.now) c.index.ensures c.pairs-pairs.result.now c.deref-2.ensures c.in-Some-get.ensures.value c.pairs-pairs.ensures
    c.behind-heads.ensures c.deref-3.ensures.value c.deref-4.ensures.value
    (to_z-of_z w128 c.args.number c.ranges.number) c.in-Some-patch_in.ensures in
    omega (arith, w, ap length c.as_slice.ensures.value)

pub unreachable-requires-in-None-patch_in : goal.unreachable-requires-in-None-patch_in
unreachable-requires-in-None-patch_in c =
    has_patch c.self.invariant c.self.view_is c.requires c.deref.ensures.value c.in-Some.ensures.inside
    (c.in-Some.ensures.found c.index.result.now) c.index.ensures c.pairs-pairs.result.now c.deref-2.ensures c.in-Some-get.ensures.value c.pairs-pairs.ensures
    c.behind-heads.ensures c.deref-3.ensures.value c.deref-4.ensures.value
    (to_z-of_z w128 c.args.number c.ranges.number) c.in-None-patch_in.ensures

pub invariant_of-self : goal.invariant_of-self
invariant_of-self c =
    still_tree c.self.invariant c.self.view_is c.requires c.deref.ensures.value c.in-Some.ensures.inside
    (c.in-Some.ensures.found c.index.result.now) c.index.ensures c.pairs-pairs.result.now c.deref-2.ensures c.in-Some-get.ensures.value c.pairs-pairs.ensures
    c.behind-heads.ensures c.deref-3.ensures.value c.deref-4.ensures.value
    (to_z-of_z w128 c.args.number c.ranges.number) c.in-Some-patch_in.ensures c.overwrite.new.bytes c.overwrite.ensures c.as_slice.ensures.value

pub returns-clause-put : goal.returns-clause-put
returns-clause-put c =
    is_put c.self.invariant c.self.view_is c.requires c.deref.ensures.value c.in-Some.ensures.inside
    (c.in-Some.ensures.found c.index.result.now) c.index.ensures c.pairs-pairs.result.now c.deref-2.ensures c.in-Some-get.ensures.value c.pairs-pairs.ensures
    c.behind-heads.ensures c.deref-3.ensures.value c.deref-4.ensures.value
    (to_z-of_z w128 c.args.number c.ranges.number) c.in-Some-patch_in.ensures c.overwrite.new.bytes c.overwrite.ensures c.as_slice.ensures.value

pub returns-clause-fits : goal.returns-clause-fits
returns-clause-fits c =
    let still = still_tree c.self.invariant c.self.view_is c.requires c.deref.ensures.value c.in-Some.ensures.inside
    (c.in-Some.ensures.found c.index.result.now) c.index.ensures c.pairs-pairs.result.now c.deref-2.ensures c.in-Some-get.ensures.value c.pairs-pairs.ensures
    c.behind-heads.ensures c.deref-3.ensures.value c.deref-4.ensures.value
    (to_z-of_z w128 c.args.number c.ranges.number) c.in-Some-patch_in.ensures c.overwrite.new.bytes c.overwrite.ensures c.as_slice.ensures.value in
    fits_as _ still _ refl

pub returns-clause-size : goal.returns-clause-size
returns-clause-size c =
    still_spelled c.self.invariant c.self.view_is c.requires c.deref.ensures.value c.in-Some.ensures.inside
    (c.in-Some.ensures.found c.index.result.now) c.index.ensures c.pairs-pairs.result.now c.deref-2.ensures c.in-Some-get.ensures.value c.pairs-pairs.ensures
    c.behind-heads.ensures c.deref-3.ensures.value c.deref-4.ensures.value
    (to_z-of_z w128 c.args.number c.ranges.number) c.in-Some-patch_in.ensures c.overwrite.new.bytes c.overwrite.ensures c.as_slice.ensures.value

pub returns-clause-offsets : goal.returns-clause-offsets
returns-clause-offsets c =
    offsets_stay c.self.invariant c.self.view_is c.requires c.deref.ensures.value c.in-Some.ensures.inside
    (c.in-Some.ensures.found c.index.result.now) c.index.ensures c.pairs-pairs.result.now c.deref-2.ensures c.in-Some-get.ensures.value c.pairs-pairs.ensures
    c.behind-heads.ensures c.deref-3.ensures.value c.deref-4.ensures.value
    (to_z-of_z w128 c.args.number c.ranges.number) c.in-Some-patch_in.ensures c.overwrite.new.bytes c.overwrite.ensures c.as_slice.ensures.value
