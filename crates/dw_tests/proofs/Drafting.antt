-- A value that fits under the pair that a draft asks for next.
use Rattle.std.proofs.Common.{◌≡◌, ℕ, Option, Some, length, sym, ap, subst, ◌∙◌}
use Rattle.dw_form.specs.declared.shape.Ctx.{Ctx}
use Rattle.dw_form.specs.Form.{Attribute, attribute}
use Rattle.dw_form.specs.Pieces.{HasSpelling, spelling, has_spelling}
use Rattle.dw_abbrev.specs.Table.{Pair}
use Rattle.dw_tree.specs.Steps.{NextFits, next_pair}
use Rattle.dw_tree.specs.Next.{next_is, fits_next}
use Rattle.dw_header.specs.Header.{context_of}
use Rattle.dw_unit.specs.Draft.{Drafted, value_bytes}

module _ (d : Drafted) (x : Ctx) (v : Attribute) (p : Pair) (same : x ≡ context_of d.header) (next : Some p ≡ next_pair d.table d.place.unfinished) (fits : (attribute x p.form.value p.constant).Fits v) where
  abbrev k : Ctx
  k = context_of d.header

  fits_there : (attribute k p.form.value p.constant).Fits v
  fits_there = subst (λ (y : Ctx). (attribute y p.form.value p.constant).Fits v) same fits

  pub is_spelled : HasSpelling x p.form.value v
  is_spelled = subst (λ (y : Ctx). HasSpelling y p.form.value v) (sym same) (has_spelling k p.form.value p.constant v fits_there).0

  pub is_next : NextFits k d.table d.place.unfinished v
  is_next = fits_next k v d.table d.place.unfinished p (sym next) fits_there

  pub measured : length (spelling x p.form.value v) ≡ length (value_bytes d v)
  measured = ap (λ (y : Ctx). length (spelling y p.form.value v)) same ∙ ap length ((has_spelling k p.form.value p.constant v fits_there).1 ∙ sym (next_is k v d.table d.place.unfinished p (sym next) is_next).1)
