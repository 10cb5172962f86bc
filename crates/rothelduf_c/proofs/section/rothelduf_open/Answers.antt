use Rattle.std.proofs.Common.{◌≡◌, Some, sym, subst, ◌∙◌}
use Rattle.dw_section.specs.Section.{WholeSection}
use Rattle.rothelduf_c.specs.Places.{ContentsStand}
use Rattle.rothelduf_c.proofs.Places.{contents_of_opened}
use Rattle.rothelduf_c.proofs.section.rothelduf_open.Goals as goal

pub returns-in-Ok-clause-contents : goal.returns-in-Ok-clause-contents
returns-in-Ok-clause-contents c = λ x is.
    let both : Some c.in-Ok.section.value ≡ Some x = sym c.put.ensures ∙ is in
    let same : c.in-Ok.section.value ≡ x = cc in
    subst (λ (y : WholeSection). ContentsStand c.args.info.now y) same (contents_of_opened _ _ _ _ _ c.in-Ok.ensures.found)
