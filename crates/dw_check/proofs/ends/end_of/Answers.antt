use Rattle.std.proofs.Common.{ℕ, Option, subst}
use Rattle.memchr.specs.Find.{IsLastByte, is_byte}
use Rattle.dw_check.proofs.LastZero.{end_is, no_end}
use Rattle.dw_check.proofs.ends.end_of.Goals as goal

pub returns-in-Some : goal.returns-in-Some
returns-in-Some c = end_is c.args.section.now c.in-Some.last (subst (λ (r : Option ℕ). IsLastByte (is_byte 0) c.args.section.now r) c.in-Some.is c.memrchr.ensures)

pub returns-in-None : goal.returns-in-None
returns-in-None c = no_end c.args.section.now (subst (λ (r : Option ℕ). IsLastByte (is_byte 0) c.args.section.now r) c.in-None.is c.memrchr.ensures)
