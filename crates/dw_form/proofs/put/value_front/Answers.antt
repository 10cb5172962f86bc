use Rattle.std.proofs.Common.{◌∙◌, sym}
use Rattle.dw_form.specs.Lent.{attribute_of}
use Rattle.dw_form.specs.Pieces.{constant_in, attribute_pieces, form_known}
use Rattle.dw_form.specs.HeadFront.{front_is}
use Rattle.dw_form.proofs.put.value_front.Goals as goal

pub both_parts-requires-clause-fits : goal.both_parts-requires-clause-fits
both_parts-requires-clause-fits c =
    let a = attribute_of c.args.value.now in
    (attribute_pieces c.args.ctx c.args.form (constant_in a.value) a c.in-Some.shape c.requires.spelled (sym c.shape_in.ensures.shape ∙ c.in-Some.is)).1

pub unreachable-requires : goal.unreachable-requires
unreachable-requires c =
    let a = attribute_of c.args.value.now in
    form_known c.args.ctx c.args.form (constant_in a.value) a c.requires.spelled (sym c.shape_in.ensures.shape ∙ c.in-None.is)

pub returns : goal.returns
returns c =
    let a = attribute_of c.args.value.now in
    c.both_parts.ensures
    ∙ sym (front_is c.args.ctx c.args.form (constant_in a.value) a c.in-Some.shape c.requires.spelled (sym c.shape_in.ensures.shape ∙ c.in-Some.is)).0
