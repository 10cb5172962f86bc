use Rattle.std.proofs.Common.{Ok, take}
use Rattle.dw_tool.specs.Output.{Puts}
use Rattle.dw_tool.specs.Text.{each, escaped}
use Rattle.dw_tool.proofs.text.push_one_by_one.Given as goal

-- the texts of the bytes before this one are there
abbrev pub invariant-loop-byte : goal.invariant-loop-byte
invariant-loop-byte g l = Puts {X = Unit {0}} g.W.Write.contents l.fn.out l.out (each escaped (take l.byte-index l.bytes)) (Ok tt)
