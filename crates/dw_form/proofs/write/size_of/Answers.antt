use Rattle.std.proofs.Common.{◌∙◌, sym, ap, length}
use Rattle.dw_form.specs.Lent.{attribute_of}
use Rattle.dw_form.specs.Pieces.{constant_in, attribute_pieces, form_known}
use Rattle.dw_form.proofs.write.size_of.Goals as goal

pub size_of_pieces-requires-clause-fits : goal.size_of_pieces-requires-clause-fits
size_of_pieces-requires-clause-fits c =
    let a = attribute_of c.args.value.now in
    (attribute_pieces c.args.ctx c.args.form (constant_in a.value) a c.in-Some.shape c.requires.spelled (sym c.shape_in.ensures.shape ∙ c.in-Some.is)).1

pub unreachable-requires : goal.unreachable-requires
unreachable-requires c =
    let a = attribute_of c.args.value.now in
    form_known c.args.ctx c.args.form (constant_in a.value) a c.requires.spelled (sym c.shape_in.ensures.shape ∙ c.in-None.is)

pub returns : goal.returns
returns c =
    let a = attribute_of c.args.value.now in
    let same = (attribute_pieces c.args.ctx c.args.form (constant_in a.value) a c.in-Some.shape c.requires.spelled (sym c.shape_in.ensures.shape ∙ c.in-Some.is)).0 in
    c.size_of_pieces.ensures ∙ ap length (sym same)
