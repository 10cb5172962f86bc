use Rattle.dw_leb.specs.View.{uleb_of}
use Rattle.std.proofs.Common.{◌-◌, ◌^◌, arith}
use Rattle.dw_leb.specs.Number.{uleb}
use Rattle.dw_leb.specs.ReadNumber.{read_uleb}
use Rattle.dw_leb.specs.DecideNumber.{uleb_decides}
use Rattle.dw_abbrev.specs.Place.{field_gives, field_fails, uleb_same}
use Rattle.dw_abbrev.proofs.fields.uleb_at.Goals as goal

pub returns-in-Ok-clause-ok : goal.returns-in-Ok-clause-ok
returns-in-Ok-clause-ok c =
    field_gives uleb read_uleb uleb_decides c.args.abbreviations.now c.args.at _ (uleb_of c.in-Ok.n) c.in-Ok.n.width c.requires c.in-Ok.ensures.found

pub returns-in-Err-clause-err : goal.returns-in-Err-clause-err
returns-in-Err-clause-err c =
    rw c.fault.ensures (field_fails uleb read_uleb uleb_decides c.args.abbreviations.now c.args.at (2 ^ 64 - 1) uleb_same c.in-Err.reason c.requires (omega arith) (omega arith) c.in-Err.ensures.broken)
