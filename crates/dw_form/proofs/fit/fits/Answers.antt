use Rattle.std.proofs.Common.{Bool, sym, subst}
use Rattle.std.specs.Prelude.{IsTrue, ◌↔◌, option_map}
use Rattle.dw_leb.specs.View.{sleb_of}
use Rattle.dw_form.specs.Form.{attribute}
use Rattle.dw_form.specs.Lent.{attribute_of}
use Rattle.dw_form.specs.Fit.{fits_is, numbers_fit, via_fits}
use Rattle.dw_form.proofs.fit.fits.Goals as goal

pub returns : goal.returns
returns c =
    let v = c.args.value.now in
    subst (λ (b : Bool). IsTrue b ↔ (attribute c.args.ctx c.args.form (option_map sleb_of c.args.implicit)).Fits (attribute_of v)) (sym c.is_fitting.ensures)
    (fits_is c.args.ctx c.args.form (option_map sleb_of c.args.implicit) (attribute_of v) (via_fits v.via) (numbers_fit v.value))
