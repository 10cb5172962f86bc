use Rattle.std.proofs.Common.{◌∙◌, sym, subst, List, ℕ}
use Rattle.dw_leb.specs.Watch.{inner_of, Wrote}
use Rattle.dw_form.specs.Lent.{attribute_of}
use Rattle.dw_form.specs.Pieces.{constant_in, attribute_pieces, form_known}
use Rattle.dw_form.proofs.write.write_value.Goals as goal

pub write_pieces-requires-clause-fits : goal.write_pieces-requires-clause-fits
write_pieces-requires-clause-fits g c =
    let a = attribute_of c.args.value.now in
    (attribute_pieces c.args.ctx c.args.form (constant_in a.value) a c.in-Some.shape c.requires.spelled (sym c.shape_in.ensures.shape ∙ c.in-Some.is)).1

pub unreachable-requires : goal.unreachable-requires
unreachable-requires g c =
    let a = attribute_of c.args.value.now in
    form_known c.args.ctx c.args.form (constant_in a.value) a c.requires.spelled (sym c.shape_in.ensures.shape ∙ c.in-None.is)

pub returns-clause-written : goal.returns-clause-written
returns-clause-written g c =
    let a = attribute_of c.args.value.now in
    let same = (attribute_pieces c.args.ctx c.args.form (constant_in a.value) a c.in-Some.shape c.requires.spelled (sym c.shape_in.ensures.shape ∙ c.in-Some.is)).0 in
    subst (λ (bytes : List ℕ). Wrote (g.W.Write.contents (inner_of c.args.writer.now)) (g.W.Write.contents (inner_of c.write_pieces.new.writer)) bytes c.write_pieces.result) (sym same) c.write_pieces.ensures.written
