use Rattle.std.proofs.Common.{sym}
use Rattle.std.specs.Rc.{rc_value}
use Rattle.dw_abbrev.specs.Table.{TableAt}
use Rattle.dw_abbrev.proofs.Kept.{kept_at}
use Rattle.dw_abbrev.proofs.run.Run.meets.Goals as goal

pub returns : goal.returns
returns c abbreviations kept = rw c.deref-2.ensures (kept_at rc_value (λ o t. TableAt abbreviations o t) c.args.kept.now.entries c.args.here c.in_ok-table.table.now kept (sym c.in_ok-table.ensures.value))
