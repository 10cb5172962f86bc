use Rattle.std.proofs.Common.{List, ℕ, ◌++◌, ◌∷◌, codes, subst, sym}
use Rattle.std.proofs.lemmas.Fmt.{decimal_digit}
use Rattle.dw_tool.specs.Output.{Puts}
use Rattle.dw_tool.proofs.text.push_depth.Goals as goal

pub returns-then-depth-lt10 : goal.returns-then-depth-lt10
returns-then-depth-lt10 g c =
    subst (λ (t : List ℕ). Puts g.W.Write.contents c.args.out.now c.append.new.self (60 ∷ (t ++ codes "> ")) c.append.result) (sym (decimal_digit c.args.depth c.if-depth-lt10.true)) c.append.ensures
