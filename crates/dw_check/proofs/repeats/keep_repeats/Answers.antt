use Rattle.std.proofs.Common.{◌∙◌, [], Bool, eqb, Vec}
use Rattle.std.specs.declared.alloc.Global.{Global}
use Rattle.indexmap.proofs.CallerLemmas.{insert_entry-new}
use Rattle.dw_abbrev.specs.Table.{declared}
use Rattle.dw_tree.specs.Tree.{declared_pairs}
use Rattle.dw_check.specs.Repeats.{AreRepeatsFor}
use Rattle.dw_check.proofs.Kept.{kept_more}
use Rattle.dw_check.proofs.repeats.keep_repeats.Goals as goal

pub returns-clause-are : goal.returns-clause-are
returns-clause-are c =
    rw (c.in_ok-insert.ensures.entries ∙ insert_entry-new eqb c.args.kept.now c.args.code c.in_ok-repeats.repeats c.requires.absent)
    (kept_more {X = Vec Bool Global} (λ v. v.items) (λ code repeats. AreRepeatsFor [] (declared_pairs (declared c.args.table.now code)) repeats) c.args.kept.now.entries c.args.code c.in_ok-repeats.repeats c.requires.are c.in_ok-repeats.ensures)
