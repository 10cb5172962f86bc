use Rattle.std.proofs.Common.{◌+◌, ◌-◌, length, ap, subst, ◌∙◌}
use Rattle.dw_tree.specs.Tree.{nesting}
use Rattle.dw_tree.specs.Spelling.{tree_bytes}
use Rattle.dw_tree.specs.Offset.{CodesFit}
use Rattle.dw_tree.specs.Offsets.{tree_codes}
use Rattle.dw_tree.specs.Steps.{TreeAt}
use Rattle.dw_tree.specs.Lent.{entries_of, find_at}
use Rattle.dw_unit.specs.Unit.{WholeUnit, tree_of}
use Rattle.dw_unit.proofs.Found.{found_by, none_by}
use Rattle.dw_tree.specs.Rising.{entries_rise, each_by}
use Rattle.dw_unit.proofs.unit.Unit.entry_at.Goals as goal

pub returns-clause-found : goal.returns-clause-found
returns-clause-found c =
    let is = c.entry_at.ensures ∙ ap (λ (t : TreeAt). find_at c.args.offset (entries_of t)) (c.self.invariant.tree_is ∙ ap tree_of c.self.view_is) in
    found_by c.args.offset (entries_of (tree_of c.args.self.now)) c.entry_at.result is

pub returns-clause-none : goal.returns-clause-none
returns-clause-none c =
    let is = c.entry_at.ensures ∙ ap (λ (t : TreeAt). find_at c.args.offset (entries_of t)) (c.self.invariant.tree_is ∙ ap tree_of c.self.view_is) in
    none_by c.args.offset (entries_of (tree_of c.args.self.now)) c.entry_at.result is

pub returns-clause-each : goal.returns-clause-each
returns-clause-each c =
    let is = c.entry_at.ensures ∙ ap (λ (t : TreeAt). find_at c.args.offset (entries_of t)) (c.self.invariant.tree_is ∙ ap tree_of c.self.view_is) in
    let u = tree_of c.args.self.now in
    let i = c.self.inside in
    let w : WholeUnit = record { header = i.header; table = i.tree.table; root = i.tree.root; padding = i.padding.items } in
    let codes : CodesFit u.root = subst (λ (y : WholeUnit). CodesFit y.root) c.self.view_is (tree_codes (tree_of w).context (tree_of w).table (nesting - 1) (tree_of w).root c.self.invariant.fits.tree_fits) in
    each_by u.start (u.start + length (tree_bytes u.context u.table u.root)) (entries_of u) (entries_rise u.context u.table u.root codes u.start 1) c.args.offset c.entry_at.result is
