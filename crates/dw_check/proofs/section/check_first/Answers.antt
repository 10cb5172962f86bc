use Rattle.std.proofs.Common.{◌≡◌, ◌∙◌, [], Bool, List, sym, ap, subst, Vec}
use Rattle.std.specs.declared.alloc.Global.{Global}
use Rattle.dw_abbrev.specs.Table.{Table, declared}
use Rattle.dw_tree.specs.Tree.{declared_pairs}
use Rattle.dw_tree.specs.Steps.{TreeAt}
use Rattle.dw_tree.specs.Lent.{attributes_of}
use Rattle.dw_check.specs.Repeats.{AreRepeats, AreRepeatsFor, AreRepeatsOf}
use Rattle.dw_check.proofs.Kept.{kept_at}
use Rattle.dw_check.proofs.section.check_first.Goals as goal

pub check_entry-requires-clause-repeating : goal.check_entry-requires-clause-repeating
check_entry-requires-clause-repeating c =
    let t = c.args.place.now.unit.now.table in
    let repeats = c.in-Some.repeats.now in
    let table : c.table.result.now ≡ t = c.table.ensures ∙ ap (λ (u : TreeAt). u.table) c.tree.ensures in
    let are = subst (λ (s : Table). AreRepeats s c.keep_repeats.new.kept.entries) table c.in_ok-keep_repeats.ensures.are in
    let kept : AreRepeatsFor [] (declared_pairs (declared t c.args.code)) repeats.items =
    kept_at {X = Vec Bool Global} (λ v. v.items) (λ code ms. AreRepeatsFor [] (declared_pairs (declared t code)) ms) c.keep_repeats.new.kept.entries c.args.code repeats are (sym c.in-Some.ensures) in
    subst (λ (ms : List Bool). AreRepeatsOf [] (attributes_of c.args.entry.now) ms) (sym c.deref.ensures.value) (c.requires.repeating repeats.items kept)
