use Rattle.std.proofs.Common.{◌≡◌, ◌∙◌, List, [], ◌++◌, Bool, ℕ, sym, ap, subst, arith, inl, inr}
use Rattle.std.proofs.lemmas.Result.{err_from_is_err_and}
use Rattle.dw_leb.specs.Transfers.{consumes_none}
use Rattle.dw_feed.specs.Feed.{escape, IsEscape}
use Rattle.dw_feed.specs.Taking.{field_error, kept_more}
use Rattle.dw_feed.proofs.bytes.read_field.Goals as goal

pub returns-in_err-read_up_to-clause-bytes : goal.returns-in_err-read_up_to-clause-bytes
returns-in_err-read_up_to-clause-bytes g c =
    let p = err_from_is_err_and c.from_residual.result c.from_residual.ensures.1 in
    rw (p.1, p.2) (field_error _ _ _ [] 4 c.in_err-read_up_to.field-0.0 (consumes_none _) (inl (omega arith)) c.in_err-read_up_to.ensures.bytes)

pub returns-in_err-read_up_to-2-clause-bytes : goal.returns-in_err-read_up_to-2-clause-bytes
returns-in_err-read_up_to-2-clause-bytes g c =
    let p = err_from_is_err_and c.from_residual-in_err-read_up_to-2.result c.from_residual-in_err-read_up_to-2.ensures.1 in
    let first = c.in_ok-read_up_to.ensures.bytes in
    let is : c.as_slice.result.now ≡ escape = subst (λ (v : Bool). IsEscape c.as_slice.result.now v) c.if-is_escape.true c.is_escape.ensures in
    let same : first.0 ≡ escape = sym (first.1 ∙ ap (λ (x : List ℕ). x ++ first.0) c.requires.empty) ∙ sym c.as_slice.ensures.value ∙ is in
    rw (p.1, p.2) (field_error _ _ _ first.0 8 c.in_err-read_up_to-2.field-0.0 first.3 (inr (same, omega arith)) c.in_err-read_up_to-2.ensures.bytes)

pub returns-in_err-read_up_to-2-clause-memory : goal.returns-in_err-read_up_to-2-clause-memory
returns-in_err-read_up_to-2-clause-memory g c =
    let p = err_from_is_err_and c.from_residual-in_err-read_up_to-2.result c.from_residual-in_err-read_up_to-2.ensures.1 in
    let first = c.in_ok-read_up_to.ensures.bytes in
    rw (p.1, p.2) (kept_more _ _ _ first.0 c.in_err-read_up_to-2.field-0.0 first.3 c.in_err-read_up_to-2.ensures.memory)
