use Rattle.std.proofs.Common.{ℕ, Option, subst}
use Rattle.memchr.specs.Find.{IsLastByte, is_byte}
use Rattle.dw_ctype.proofs.LastZero.{same_up_to, same_as_none}
use Rattle.dw_ctype.proofs.trimmed.up_to_last_zero.Goals as goal

pub returns-in-Some : goal.returns-in-Some
returns-in-Some c = same_up_to c.args.section.now c.in-Some.last (subst (λ (r : Option ℕ). IsLastByte (is_byte 0) c.args.section.now r) c.in-Some.is c.memrchr.ensures)

pub returns-in-None : goal.returns-in-None
returns-in-None c = same_as_none c.args.section.now (subst (λ (r : Option ℕ). IsLastByte (is_byte 0) c.args.section.now r) c.in-None.is c.memrchr.ensures)
