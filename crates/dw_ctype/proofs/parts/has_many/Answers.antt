use Rattle.std.proofs.Common.{◌≡◌, suc, length, ap, sym, arith}
use Rattle.std.proofs.lemmas.Bool.{le-leb, lt-leb}
use Rattle.dw_tree.specs.Lent.{children_of}
use Rattle.dw_ctype.proofs.parts.has_many.Goals as goal

pub returns-then-left-eq0 : goal.returns-then-left-eq0
returns-then-left-eq0 c =
    let more : length c.loop-child._child-iterator ≡ suc (length c.next.new.self) = ap length c.in-Some.ensures.steps in
    sym (le-leb 33 (length (children_of c.args.entry.now)) (omega (arith, c.loop-child.invariant, more, c.if-left-eq0.true)))

pub returns : goal.returns
returns c =
    let none : length c.loop-child._child-iterator ≡ 0 = ap length c.in-None.ensures.steps.0 in
    sym (lt-leb 33 (length (children_of c.args.entry.now)) (omega (arith, c.loop-child.invariant, none)))

pub loop-child-init : goal.loop-child-init
loop-child-init c =
    let same : length (children_of c.args.entry.now) ≡ length c.into_iter-child-iterator.result = ap length cc in
    omega (arith, same)

pub loop-child-preserved : goal.loop-child-preserved
loop-child-preserved c =
    let more : length c.loop-child._child-iterator ≡ suc (length c.next.new.self) = ap length c.in-Some.ensures.steps in
    omega (arith, c.loop-child.invariant, more, c.if-left-eq0.false)
