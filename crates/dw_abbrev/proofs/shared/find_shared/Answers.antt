use Rattle.std.proofs.Common.{◌∙◌, List, sym, ap}
use Rattle.dw_abbrev.specs.Table.{Declaration, declared_in}
use Rattle.dw_abbrev.specs.TableView.{joined}
use Rattle.dw_abbrev.proofs.ListLemmas.{declared_before, declared_after, none_joined}
use Rattle.dw_abbrev.proofs.shared.find_shared.Goals as goal

pub returns-in-Some-get : goal.returns-in-Some-get
returns-in-Some-get c =
    let code = c.args.code in
    let run = c.in-Some.part.now in
    let rest = joined c.in-Some.others.now in
    let is = ap (λ (runs : List (List Declaration)). declared_in (joined runs) code) c.in-Some.ensures.cases.0 in
    sym (c.loop-part.invariant ∙ (is ∙ declared_before run rest code c.in-Some-get.decl.now (sym c.in-Some-get.ensures)))

pub loop-part-preserved : goal.loop-part-preserved
loop-part-preserved c =
    let code = c.args.code in
    let run = c.in-Some.part.now in
    let rest = joined c.in-Some.others.now in
    let is = ap (λ (runs : List (List Declaration)). declared_in (joined runs) code) c.in-Some.ensures.cases.0 in
    c.loop-part.invariant ∙ (is ∙ declared_after run rest code (sym c.in_default-get.ensures))

pub returns : goal.returns
returns c = sym (c.loop-part.invariant ∙ none_joined c.loop-part.left.now c.args.code c.in_default.ensures.cases)
