use Rattle.std.proofs.Common.{◌≡◌, take}
use Rattle.std.specs.Prelude.{IsTrue}
use Rattle.dw_tool.specs.Text.{each, escaped}
use Rattle.dw_tool.proofs.text.are_plain.Given as goal

-- so far all bytes before this one are plain
abbrev pub invariant-loop-byte : goal.invariant-loop-byte
invariant-loop-byte l = IsTrue l.plain → (each escaped (take l.byte-index l.bytes) ≡ take l.byte-index l.bytes)
