use Rattle.std.proofs.Common.{◌^◌, ◌-◌}
use Rattle.dw_strings.proofs.Numbers.{number_there}
use Rattle.dw_strings.proofs.lookup.number_at.Goals as goal

pub returns-in-Ok : goal.returns-in-Ok
returns-in-Ok c = number_there c.args.order c.args.size c.args.bytes.now c.args.place (2 ^ 64 - 1) c.in-Ok.number c.requires.some c.in-Ok.ensures.room.1 c.in-Ok.ensures.found c.in-Ok.ensures.room.0
