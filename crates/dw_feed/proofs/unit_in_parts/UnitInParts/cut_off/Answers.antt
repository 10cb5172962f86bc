use Rattle.std.specs.Prelude.{is_some}
use Rattle.dw_tree.specs.Place.{UnfinishedEntry}
use Rattle.std.proofs.Common.{◌≡◌, ℕ, Option, Some, None, false, length, refl, sym, ap, subst, ◌∙◌}
use Rattle.dw_leb.specs.declared.errors.Reason.{Reason}
use Rattle.dw_leb.specs.declared.errors.Reason.TheVariants.{Truncated}
use Rattle.dw_leb.specs.declared.errors.Fault.{Fault}
use Rattle.dw_leb.specs.declared.errors.SectionId.TheVariants.{Info}
use Rattle.dw_unit.specs.Draft.{drafted_size}
use Rattle.dw_feed.specs.BodyFeed.{PartialUnit, Reading, EndsBody, before}
use Rattle.dw_feed.specs.BodyView.{drafted}
use Rattle.dw_feed.specs.PlainFeed.{fault_at}
use Rattle.dw_feed.specs.FieldSteps.{code_ends, value_ends}
use Rattle.dw_feed.proofs.DraftRoom.{size_before}
use Rattle.dw_feed.proofs.unit_in_parts.UnitInParts.cut_off.Goals as goal

ends_by : (g : PartialUnit) (offset : ℕ) (reason : Reason) (f : Fault) → f ≡ record { section = Info; offset = offset; reason = reason } → offset ≡ length (before g) → EndsBody (Reading g) (Some (fault_at g reason)) → EndsBody (Reading g) (Some f)
ends_by g offset reason f is at ends = subst (λ (x : Fault). EndsBody (Reading g) (Some x)) (ap (λ (n : ℕ). fault_with n) (sym at) ∙ sym is) ends
  where
    fault_with : ℕ → Fault
    fault_with n = record { section = Info; offset = n; reason = reason }

none_there : (o : Option UnfinishedEntry) → is_some o ≡ false → o ≡ None
none_there None e = refl
none_there (Some r) e = absurd cc

pub returns-in-Some : goal.returns-in-Some
returns-in-Some c =
    let g : PartialUnit = c.args.self.now in
    let offset : c.size-here.result ≡ length (before g) = c.size-here.ensures.size ∙ ap (λ (x : PartialUnit). drafted_size (drafted x)) c.self.view_is ∙ size_before g in
    let some = sym (c.in-Some.ensures.unfinished ∙ ap (λ (x : PartialUnit). is_some x.place.unfinished) c.self.view_is) in
    ends_by g c.size-here.result Truncated c.fault_at.result c.fault_at.ensures offset (value_ends g some c.requires.kept)

pub returns-in-None : goal.returns-in-None
returns-in-None c =
    let g : PartialUnit = c.args.self.now in
    let offset : c.size-here.result ≡ length (before g) = c.size-here.ensures.size ∙ ap (λ (x : PartialUnit). drafted_size (drafted x)) c.self.view_is ∙ size_before g in
    let free : g.place.unfinished ≡ None = none_there g.place.unfinished (sym (c.in-None.ensures.unfinished ∙ ap (λ (x : PartialUnit). is_some x.place.unfinished) c.self.view_is)) in
    ends_by g c.size-here.result c.code_fault.result c.fault_at-in-None.result c.fault_at-in-None.ensures offset (code_ends g free c.requires.kept c.code_fault.result c.code_fault.ensures)
