use Rattle.std.proofs.Common.{◌≡◌, ◌-◌, ℕ, List, arith, ap, length, length-append}
use Rattle.std.specs.Prelude.{min}
use Rattle.dw_section.proofs.Marks.{marks_behind, kept_behind, few_marks, few_alone}
use Rattle.dw_section.proofs.reader.take_marks.Goals as goal

pub returns-then-n-gt-SHORT-clause-few : goal.returns-then-n-gt-SHORT-clause-few
returns-then-n-gt-SHORT-clause-few g c = few_alone _ _ _ _ c.read_up_to.result c.read_up_to.ensures.bytes

pub returns-clause-bytes : goal.returns-clause-bytes
returns-clause-bytes g c =
    let h = c.in_ok-read_some.ensures.bytes in
    let held : List ℕ = c.args.taken.now.items in
    let is : c.saturating_sub.result ≡ min c.args.n 3 - length h.0 = omega (arith, c.saturating_sub.ensures, c.min.ensures, ap length c.as_slice-field.ensures.value, ap length c.as_slice.ensures.value, ap length h.1, length-append held h.0) in
    marks_behind held c.read_some.new.bytes.items c.read_up_to-2.new.bytes.items _ _ _ h.0 c.args.n c.saturating_sub.result c.read_up_to-2.result h.1 h.3 h.2 is c.read_up_to-2.ensures.bytes

pub returns-clause-few : goal.returns-clause-few
returns-clause-few g c =
    let h = c.in_ok-read_some.ensures.bytes in
    let held : List ℕ = c.args.taken.now.items in
    few_marks held c.read_some.new.bytes.items c.read_up_to-2.new.bytes.items _ _ h.0 c.saturating_sub.result c.read_up_to-2.result h.1 (omega (arith, h.2, c.if-n-gt-SHORT.false)) (omega (arith, c.saturating_sub.ensures, c.min.ensures)) c.read_up_to-2.ensures.bytes

pub returns-clause-memory : goal.returns-clause-memory
returns-clause-memory g c =
    let h = c.in_ok-read_some.ensures.bytes in
    kept_behind _ _ _ h.0 c.read_up_to-2.result h.3 c.read_up_to-2.ensures.memory
