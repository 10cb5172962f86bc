use Rattle.std.proofs.Common.{List, ℕ, subst, sym}
use Rattle.std.proofs.lemmas.Fmt.{decimal_digit}
use Rattle.dw_tool.specs.Output.{Puts}
use Rattle.dw_tool.proofs.text.push_decimal.Goals as goal

pub returns-then-number-lt10 : goal.returns-then-number-lt10
returns-then-number-lt10 g c =
    subst (λ (t : List ℕ). Puts g.W.Write.contents c.args.out.now c.append.new.self t c.append.result) (sym (decimal_digit c.args.number c.if-number-lt10.true)) c.append.ensures
