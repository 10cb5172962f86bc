use Rattle.std.proofs.Common.{ℕ, Ok, Err, subst, arith}
use Rattle.std.specs.Prelude.{Result, IfOk}
use Rattle.dw_leb.specs.declared.order.Order.{Order}
use Rattle.dw_leb.specs.declared.order.Format.{Format}
use Rattle.dw_leb.specs.declared.errors.Bad.{Bad}
use Rattle.dw_leb.specs.Reader.{Outcome}
use Rattle.dw_leb.specs.Decide.{Says}
use Rattle.dw_leb.specs.Field.{are_bytes}
use Rattle.dw_header.specs.declared.fields.HeaderFields.{HeaderFields}
use Rattle.dw_header.specs.declared.versions.Versions.{Versions}
use Rattle.dw_header.specs.Header.{Fields, HeaderFits, fields_under}
use Rattle.dw_header.specs.FieldsView.{all_fields}
use Rattle.dw_header.specs.FittingHeaders.{header_fits}
use Rattle.dw_header.specs.ReadHeader.{header_from}
use Rattle.dw_header.specs.DecideHeader.{fields_decides}
use Rattle.dw_leb.specs.Outcomes.{outcome_fits}
use Rattle.dw_header.proofs.fields.header_fields.Goals as goal

made_fits : (versions : Versions) (order : Order) (format : Format) (r : Result (HeaderFields × ℕ) Bad) → IfOk r (λ x. (fields_under versions order format).Fits (all_fields x.0)) → IfOk r (λ x. HeaderFits (header_from order format (all_fields x.0)))
made_fits versions order format (Ok x) fits = header_fits versions (header_from order format (all_fields x.0)) fits
made_fits versions order format (Err e) fits = tt

pub returns-clause-fits : goal.returns-clause-fits
returns-clause-fits c =
    let P = fields_under c.args.versions c.args.order c.args.format in
    made_fits c.args.versions c.args.order c.args.format c.versioned.result
    (outcome_fits all_fields P c.args.b.now c.args.lim c.versioned.result
    (subst (λ (o : Outcome Fields). Says P c.args.b.now c.args.lim o) c.versioned.ensures.exact ((fields_decides c.args.versions c.args.order c.args.format).says c.args.b.now c.args.lim (are_bytes c.args.b.now (λ k. omega (arith, c.type_inv.b k))))))
