use Rattle.std.proofs.Common.{◌≡◌, ◌∙◌, ℕ, Err, refl, ap, subst, sym, arith}
use Rattle.dw_leb.specs.declared.errors.Fault.{Fault}
use Rattle.dw_leb.specs.declared.errors.Reason.{Reason}
use Rattle.dw_leb.specs.declared.errors.SectionId.TheVariants.{Info}
use Rattle.dw_leb.specs.Decide.{broken, broken_value}
use Rattle.dw_leb.specs.Reader.{Outcome}
use Rattle.dw_leb.specs.Field.{are_bytes}
use Rattle.dw_header.specs.Laws.{head_take, head_fault, same_heading, not_both}
use Rattle.dw_header.specs.ReadHeader.{Heading}
use Rattle.dw_header.specs.HeaderFound.{HeadSays, head_says, head_room, head_within, head_end}
use Rattle.dw_header.specs.HeaderPlace.{HeaderFaultUnder}
use Rattle.dw_header.proofs.head.read_header_as.Goals as goal

pub returns-in-Ok-clause-found : goal.returns-in-Ok-clause-found
returns-in-Ok-clause-found c =
    subst (λ (o : Outcome Heading). HeadSays c.args.versions c.args.order c.args.b.now o) c.in-Ok.ensures.exact
    (head_says c.args.versions c.args.order c.args.b.now (are_bytes c.args.b.now (λ k. omega (arith, c.type_inv.b k))))

pub returns-in-Ok-clause-room : goal.returns-in-Ok-clause-room
returns-in-Ok-clause-room c = head_room c.args.versions c.args.order c.args.b.now _ _ (returns-in-Ok-clause-found c)

pub returns-in-Ok-clause-within : goal.returns-in-Ok-clause-within
returns-in-Ok-clause-within c = head_within c.args.versions c.args.order c.args.b.now _ _ (returns-in-Ok-clause-found c)

pub returns-in-Ok-clause-end : goal.returns-in-Ok-clause-end
returns-in-Ok-clause-end c = head_end c.args.versions c.args.order c.args.b.now _ _ (returns-in-Ok-clause-found c)

pub returns-in-Err-clause-broken : goal.returns-in-Err-clause-broken
returns-in-Err-clause-broken c =
    subst (λ (f : Fault). HeaderFaultUnder c.args.versions c.args.order c.args.b.now f) (sym c.info_fault.ensures) (
      refl,
      subst (λ (o : Outcome Heading). HeadSays c.args.versions c.args.order c.args.b.now o) c.in-Err.ensures.exact
          (head_says c.args.versions c.args.order c.args.b.now (are_bytes c.args.b.now (λ k. omega (arith, c.type_inv.b k)))),
    )

told_first : (f g : Fault) (offset : ℕ) (reason : Reason) → g ≡ record { section = Info; offset = offset; reason = reason } → f.section ≡ Info → broken Heading offset reason ≡ broken Heading f.offset f.reason → g ≡ f
told_first f g offset reason e s b =
    let v = broken_value Heading offset f.offset reason f.reason b in
    e ∙ rw (v.0, v.1, ← s) refl

pub returns-in-Ok-clause-only : goal.returns-in-Ok-clause-only
returns-in-Ok-clause-only c h n at = same_heading _ h _ n _ _ (sym c.in-Ok.ensures.exact ∙ head_take c.args.versions c.args.order c.args.b.now h n at)

pub returns-in-Err-clause-only : goal.returns-in-Err-clause-only
returns-in-Err-clause-only c h n at = absurd (not_both _ _ _ _ (sym (head_take c.args.versions c.args.order c.args.b.now h n at) ∙ c.in-Err.ensures.exact))

pub returns-in-Ok-clause-first : goal.returns-in-Ok-clause-first
returns-in-Ok-clause-first c f h = absurd (not_both _ _ f.offset f.reason (sym c.in-Ok.ensures.exact ∙ head_fault c.args.versions c.args.order c.args.b.now f.offset f.reason h.1))

pub returns-in-Err-clause-first : goal.returns-in-Err-clause-first
returns-in-Err-clause-first c f h = ap Err (told_first f _ _ _ c.info_fault.ensures h.0 (sym c.in-Err.ensures.exact ∙ head_fault c.args.versions c.args.order c.args.b.now f.offset f.reason h.1))
