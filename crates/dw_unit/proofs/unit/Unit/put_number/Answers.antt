use mir.Syntax.{w128}
use Rattle.std.proofs.lemmas.Int.{to_z-of_z}
use Rattle.std.proofs.Common.{◌≡◌, ℕ, ℤ, List, length, map, sym, ap, subst, ◌∙◌}
use Rattle.dw_tree.specs.Steps.{TreeAt}
use Rattle.dw_tree.specs.Lent.{EntryAt, entries_of}
use Rattle.dw_tree.specs.Put.{Edit, Takes, put}
use Rattle.dw_unit.specs.Unit.{WholeUnit, bytes_of, body_bytes, tree_of}
use Rattle.dw_unit.specs.Put.{put_in_unit}
use Rattle.dw_unit.proofs.Edited.{unit_is, new_fits, new_body, new_size, new_tree, still_unit}
use Rattle.dw_unit.proofs.unit.Unit.put_number.Goals as goal

pub put_number-requires : goal.put_number-requires
put_number-requires c =
    let i = c.self.inside in
    let u : WholeUnit = record { header = i.header; table = i.tree.table; root = i.tree.root; padding = i.padding.items } in
    let e : Edit = record { offset = c.args.offset; name = c.args.name; number = c.args.number } in
    subst (λ (x : ℤ). Takes (record { offset = c.args.offset; name = c.args.name; number = x }) i.tree) (sym (to_z-of_z w128 c.args.number c.ranges.number)) (subst (Takes e) (sym c.self.invariant.tree_is) (subst (λ (w : WholeUnit). Takes e (tree_of w)) (sym c.self.view_is) c.requires))

pub invariant_of-self : goal.invariant_of-self
invariant_of-self c =
    let i = c.self.inside in
    let u : WholeUnit = record { header = i.header; table = i.tree.table; root = i.tree.root; padding = i.padding.items } in
    let e : Edit = record { offset = c.args.offset; name = c.args.name; number = c.args.number } in
    let new = c.put_number.new.self in
    let said : new ≡ put e i.tree = c.put_number.ensures.put ∙ ap (λ (x : ℤ). put (record { offset = c.args.offset; name = c.args.name; number = x }) i.tree) (to_z-of_z w128 c.args.number c.ranges.number) in
    still_unit u i.tree i.size c.self.invariant e new said c.put_number.ensures.fits c.put_number.ensures.size

pub returns-clause-put : goal.returns-clause-put
returns-clause-put c =
    let i = c.self.inside in
    let u : WholeUnit = record { header = i.header; table = i.tree.table; root = i.tree.root; padding = i.padding.items } in
    let e : Edit = record { offset = c.args.offset; name = c.args.name; number = c.args.number } in
    let new = c.put_number.new.self in
    let said : new ≡ put e i.tree = c.put_number.ensures.put ∙ ap (λ (x : ℤ). put (record { offset = c.args.offset; name = c.args.name; number = x }) i.tree) (to_z-of_z w128 c.args.number c.ranges.number) in
    unit_is u i.tree i.size c.self.invariant e new said c.put_number.ensures.fits c.put_number.ensures.size ∙ ap (put_in_unit e) c.self.view_is

pub returns-clause-fits : goal.returns-clause-fits
returns-clause-fits c =
    let i = c.self.inside in
    let u : WholeUnit = record { header = i.header; table = i.tree.table; root = i.tree.root; padding = i.padding.items } in
    let e : Edit = record { offset = c.args.offset; name = c.args.name; number = c.args.number } in
    let new = c.put_number.new.self in
    let said : new ≡ put e i.tree = c.put_number.ensures.put ∙ ap (λ (x : ℤ). put (record { offset = c.args.offset; name = c.args.name; number = x }) i.tree) (to_z-of_z w128 c.args.number c.ranges.number) in
    new_fits u i.tree i.size c.self.invariant e new said c.put_number.ensures.fits c.put_number.ensures.size

pub returns-clause-size : goal.returns-clause-size
returns-clause-size c =
    let i = c.self.inside in
    let u : WholeUnit = record { header = i.header; table = i.tree.table; root = i.tree.root; padding = i.padding.items } in
    let e : Edit = record { offset = c.args.offset; name = c.args.name; number = c.args.number } in
    let new = c.put_number.new.self in
    let said : new ≡ put e i.tree = c.put_number.ensures.put ∙ ap (λ (x : ℤ). put (record { offset = c.args.offset; name = c.args.name; number = x }) i.tree) (to_z-of_z w128 c.args.number c.ranges.number) in
    new_body u i.tree i.size c.self.invariant e new said c.put_number.ensures.fits c.put_number.ensures.size ∙ ap (λ (w : WholeUnit). length (body_bytes w)) c.self.view_is

pub returns-clause-whole : goal.returns-clause-whole
returns-clause-whole c =
    let i = c.self.inside in
    let u : WholeUnit = record { header = i.header; table = i.tree.table; root = i.tree.root; padding = i.padding.items } in
    let e : Edit = record { offset = c.args.offset; name = c.args.name; number = c.args.number } in
    let new = c.put_number.new.self in
    let said : new ≡ put e i.tree = c.put_number.ensures.put ∙ ap (λ (x : ℤ). put (record { offset = c.args.offset; name = c.args.name; number = x }) i.tree) (to_z-of_z w128 c.args.number c.ranges.number) in
    new_size u i.tree i.size c.self.invariant e new said c.put_number.ensures.fits c.put_number.ensures.size ∙ ap (λ (w : WholeUnit). length (bytes_of w)) c.self.view_is

pub returns-clause-offsets : goal.returns-clause-offsets
returns-clause-offsets c =
    let i = c.self.inside in
    let u : WholeUnit = record { header = i.header; table = i.tree.table; root = i.tree.root; padding = i.padding.items } in
    let e : Edit = record { offset = c.args.offset; name = c.args.name; number = c.args.number } in
    let new = c.put_number.new.self in
    let said : new ≡ put e i.tree = c.put_number.ensures.put ∙ ap (λ (x : ℤ). put (record { offset = c.args.offset; name = c.args.name; number = x }) i.tree) (to_z-of_z w128 c.args.number c.ranges.number) in
    let offsets : TreeAt → List ℕ = λ t. map (λ (x : EntryAt). x.offset) (entries_of t) in
    ap offsets (sym (new_tree u i.tree i.size c.self.invariant e new said c.put_number.ensures.fits c.put_number.ensures.size)) ∙ (c.put_number.ensures.offsets ∙ (ap offsets c.self.invariant.tree_is ∙ ap (λ (w : WholeUnit). offsets (tree_of w)) c.self.view_is))
