use Rattle.std.proofs.Common.{ℕ, List}
use Rattle.dw_ctype.specs.Types.{Source}
use Rattle.dw_ctype.specs.View.{source_of}
use Rattle.dw_ctype.proofs.Chains.{said_chain, tried_after, tried_both, tried_none, tried_stopped}
use Rattle.dw_ctype.proofs.chain.say_chain.Goals as goal

pub returns-in_err-chain : goal.returns-in_err-chain
returns-in_err-chain c =
    let s : Source = source_of c.args.section.now c.args.strings.now in
    let x : List ℕ = c.args.declarator.now in
    tried_stopped c.from_residual.result x (λ h. h) (said_chain s c.args.depth c.args.typed x c.is_empty.result c.is_empty.ensures) c.from_residual.ensures.1 c.in_err-chain.ensures

pub returns-then-branch : goal.returns-then-branch
returns-then-branch c = tried_none _ _ c.if-branch.true c.in_ok-chain.ensures

pub returns-in_err-push : goal.returns-in_err-push
returns-in_err-push c =
    let s : Source = source_of c.args.section.now c.args.strings.now in
    let x : List ℕ = c.args.declarator.now in
    let r = c.from_residual-in_err-push in
    tried_after _ _ r.result c.if-branch.false (λ h. h) (said_chain s c.args.depth c.args.typed x c.is_empty.result c.is_empty.ensures) r.ensures.1 c.in_ok-chain.ensures c.in_err-push.ensures

pub returns : goal.returns
returns c =
    let s : Source = source_of c.args.section.now c.args.strings.now in
    let x : List ℕ = c.args.declarator.now in
    tried_both _ c.if-branch.false (λ h. h) (said_chain s c.args.depth c.args.typed x c.is_empty.result c.is_empty.ensures) c.in_ok-chain.ensures c.in_ok-push.ensures
