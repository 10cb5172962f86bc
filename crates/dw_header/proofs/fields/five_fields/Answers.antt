use Rattle.std.proofs.Common.{◌≡◌, ℕ, Ok, Err, refl, ap, ◌∙◌}
use Rattle.std.specs.Prelude.{Result, IfOk}
use Rattle.dw_leb.specs.declared.errors.Bad.{Bad}
use Rattle.dw_leb.specs.Outcomes.{outcome_from}
use Rattle.dw_leb.specs.Reader.{Found, mapped}
use Rattle.dw_header.specs.declared.fields.HeaderFields.{HeaderFields}
use Rattle.dw_header.specs.declared.kind.Kind.{Kind}
use Rattle.dw_header.specs.FieldsView.{after_version, all_fields}
use Rattle.dw_header.specs.Header.{kind_number, kind_fields}
use Rattle.dw_header.specs.ReadHeader.{kind_from, five_from}
use Rattle.dw_header.proofs.fields.five_fields.Goals as goal

made_of : (r : Result (HeaderFields × ℕ) Bad) → IfOk r (λ x. kind_from (kind_number x.0.kind) (kind_fields x.0.kind) ≡ x.0.kind) → mapped five_from (outcome_from after_version r) ≡ outcome_from all_fields r
made_of (Ok x) is = ap (λ (k : Kind). Found (record { kind = k; address_size = x.0.address_size; abbrev_offset = x.0.abbrev_offset }) x.1) is
made_of (Err e) is = refl

pub returns-clause-exact : goal.returns-clause-exact
returns-clause-exact c = ap (mapped five_from) c.typed.ensures.exact ∙ made_of c.typed.result c.typed.ensures.kind
