-- What was lent has a spelling: the bytes that it was lent from.
use Rattle.std.specs.Prelude.{◌≡◌, ℕ, List, take, Option, Result, Ok, Err, IfOk}
use Rattle.std.proofs.Common.{sym, ap, ◌∙◌}
use Rattle.std.proofs.lemmas.List.{take_at}
use Rattle.dw_leb.specs.Part.{Taken}
use Rattle.dw_leb.specs.declared.errors.Reason.{Reason}
use Rattle.dw_leb.specs.Number.{Signed}
use Rattle.dw_form.specs.declared.shape.Ctx.{Ctx}
use Rattle.dw_form.specs.declared.value.AttrValue.{AttrValue}
use Rattle.dw_form.specs.Form.{attribute}
use Rattle.dw_form.specs.Lent.{attribute_of}
use Rattle.dw_form.specs.Pieces.{HasSpelling, spelling, has_spelling}

pub lent_spelled : (k : Ctx) (form : ℕ) (c : Option Signed) (bytes : List ℕ) (lim : ℕ) (r : Result (AttrValue × ℕ) Reason)
    → IfOk r (λ x. Taken (attribute k form c) bytes lim (attribute_of x.0) x.1) → IfOk r (λ x. HasSpelling k form (attribute_of x.0))
lent_spelled k form c bytes lim (Ok x) h = (has_spelling k form c (attribute_of x.0) h.fits).0
lent_spelled k form c bytes lim (Err reason) h = tt

pub lent_bytes : (k : Ctx) (form : ℕ) (c : Option Signed) (bytes : List ℕ) (lim : ℕ) (r : Result (AttrValue × ℕ) Reason)
    → IfOk r (λ x. Taken (attribute k form c) bytes lim (attribute_of x.0) x.1) → IfOk r (λ x. spelling k form (attribute_of x.0) ≡ take x.1 bytes)
lent_bytes k form c bytes lim (Ok x) h =
    let own = (attribute k form c).spell (attribute_of x.0) in
    (has_spelling k form c (attribute_of x.0) h.fits).1 ∙ sym (ap (λ (b : List ℕ). take x.1 b) h.split ∙ take_at own h.rest x.1 h.is_size)
lent_bytes k form c bytes lim (Err reason) h = tt
