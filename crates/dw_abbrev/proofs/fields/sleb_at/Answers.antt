use Rattle.dw_leb.specs.View.{sleb_of}
use Rattle.std.proofs.Common.{◌-◌, ◌^◌, arith}
use Rattle.dw_leb.specs.Number.{sleb}
use Rattle.dw_leb.specs.ReadNumber.{read_sleb}
use Rattle.dw_leb.specs.DecideNumber.{sleb_decides}
use Rattle.dw_abbrev.specs.Place.{field_gives, field_fails, sleb_same}
use Rattle.dw_abbrev.proofs.fields.sleb_at.Goals as goal

pub returns-in-Ok-clause-ok : goal.returns-in-Ok-clause-ok
returns-in-Ok-clause-ok c =
    field_gives sleb read_sleb sleb_decides c.args.abbreviations.now c.args.at _ (sleb_of c.in-Ok.n) c.in-Ok.n.width c.requires c.in-Ok.ensures.found

pub returns-in-Err-clause-err : goal.returns-in-Err-clause-err
returns-in-Err-clause-err c =
    rw c.fault.ensures (field_fails sleb read_sleb sleb_decides c.args.abbreviations.now c.args.at (2 ^ 64 - 1) sleb_same c.in-Err.reason c.requires (omega arith) (omega arith) c.in-Err.ensures.broken)
