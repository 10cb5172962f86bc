use Rattle.std.proofs.Common.{List, ℕ, subst, sym}
use Rattle.dw_tool.specs.Output.{Puts}
use Rattle.dw_tool.proofs.text.push_each_escaped.Goals as goal

pub returns-then-are_plain : goal.returns-then-are_plain
returns-then-are_plain g c = subst (λ (t : List ℕ). Puts g.W.Write.contents c.args.out.now c.append.new.self t c.append.result) (sym (c.are_plain.ensures c.if-are_plain.true)) c.append.ensures
