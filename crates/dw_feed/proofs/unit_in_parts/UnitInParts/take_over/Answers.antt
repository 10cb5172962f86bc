use Rattle.std.proofs.Common.{◌≡◌, ◌++◌, ◌<◌, ◌-◌, ℕ, List, length, refl, sym, ap, subst, ◌∙◌, arith, inl, inr, length-drop}
use Rattle.std.specs.Prelude.{IfSome}
use Rattle.dw_abbrev.specs.Table.{Table}
use Rattle.dw_leb.specs.Field.{are_bytes}
use Rattle.dw_leb.specs.declared.errors.Reason.{Reason}
use Rattle.dw_leb.specs.declared.errors.Fault.{Fault}
use Rattle.dw_leb.specs.declared.errors.SectionId.TheVariants.{Info}
use Rattle.dw_unit.specs.Draft.{drafted_size}
use Rattle.dw_feed.specs.declared.progress.Progress.TheVariants as answers
use Rattle.dw_feed.specs.BodyFeed.{PartialUnit, Refused, part, before}
use Rattle.dw_feed.specs.BodyView.{drafted}
use Rattle.dw_feed.specs.PlainFeed.{ran, fault_at}
use Rattle.dw_feed.proofs.DraftRoom.{size_before}
use Rattle.dw_feed.specs.FeedSteps.{At, RanSays, at_first}
use Rattle.dw_leb.specs.ByteLists.{joined_are_bytes}
use Rattle.dw_feed.specs.FieldSteps.{first_wants, first_found}
use Rattle.dw_feed.specs.FieldTurns.{turns}
use Rattle.dw_feed.proofs.Turns.{over_within, behind_stands, whole_says, none_partial, goes_at, goes_has, goes_less, wanting_says, refused_says}
use Rattle.dw_feed.proofs.EntryLemmas.{found_none_kept, found_table, turns_less}
use Rattle.dw_feed.proofs.unit_in_parts.UnitInParts.take_over.Goals as goal

abbrev fault_of_offset : ℕ → Reason → Fault
fault_of_offset n reason = record { section = Info; offset = n; reason = reason }

pub loop-over-init : goal.loop-over-init
loop-over-init c =
    let fit = are_bytes c.args.piece.now (λ k. omega (arith, c.type_inv.piece k)) in
    record { at = at_first c.args.self.now c.args.piece.now c.requires.stands (joined_are_bytes (part c.args.self.now) c.args.piece.now c.requires.fit fit) c.requires.waits; has = c.requires.has; waits = c.requires.waits; first = inr (refl, refl); over = c.requires.over }

pub last-left-requires : goal.last-left-requires
last-left-requires c = over_within c.args.self.now c.args.piece.now c.loop-over.self c.loop-over.left.now c.loop-over.invariant.at c.loop-over.invariant.waits c.in-Found.over c.step.new.self c.in-Found.ensures.says

pub is_whole-requires : goal.is_whole-requires
is_whole-requires c = behind_stands c.args.self.now c.args.piece.now c.loop-over.self c.loop-over.left.now c.loop-over.invariant.at c.loop-over.invariant.waits c.in-Found.over c.step.new.self c.in-Found.ensures.says

pub returns-then-is_whole-clause-says : goal.returns-then-is_whole-clause-says
returns-then-is_whole-clause-says c = whole_says c.args.self.now c.args.piece.now c.loop-over.self c.loop-over.left.now c.loop-over.invariant.at c.loop-over.invariant.waits c.in-Found.over c.step.new.self c.in-Found.ensures.says (sym c.is_whole.ensures ∙ c.if-is_whole.true)

pub fields_at_once-requires-clause-over : goal.fields_at_once-requires-clause-over
fields_at_once-requires-clause-over c =
    subst (λ (t : Table). IfSome c.args.table (λ x. x.now ≡ t)) (sym (found_table c.loop-over.self (part c.loop-over.self ++ c.loop-over.left.now) c.in-Found.over c.step.new.self c.in-Found.ensures.says)) c.loop-over.invariant.over

pub fields_at_once-requires-clause-stands : goal.fields_at_once-requires-clause-stands
fields_at_once-requires-clause-stands c = (goes_at c.args.self.now c.args.piece.now c.loop-over.self c.loop-over.left.now c.loop-over.invariant.at c.loop-over.invariant.waits c.in-Found.over c.step.new.self c.in-Found.ensures.says (sym c.is_whole.ensures ∙ c.if-is_whole.false)).keeps

pub fields_at_once-requires-clause-has : goal.fields_at_once-requires-clause-has
fields_at_once-requires-clause-has c = goes_has c.args.self.now c.args.piece.now c.loop-over.self c.loop-over.left.now c.loop-over.invariant.at c.loop-over.invariant.waits c.in-Found.over c.step.new.self c.in-Found.ensures.says

pub fields_at_once-requires-clause-none_kept : goal.fields_at_once-requires-clause-none_kept
fields_at_once-requires-clause-none_kept c = found_none_kept c.loop-over.self (part c.loop-over.self ++ c.loop-over.left.now) c.in-Found.over c.step.new.self c.in-Found.ensures.says

pub fields_at_once-requires-clause-between : goal.fields_at_once-requires-clause-between
fields_at_once-requires-clause-between c = none_partial c.args.self.now c.args.piece.now c.loop-over.self c.loop-over.left.now c.loop-over.invariant.at c.loop-over.invariant.waits c.in-Found.over c.step.new.self c.in-Found.ensures.says

pub loop-over-smaller : goal.loop-over-smaller
loop-over-smaller c =
    let l = goes_less c.args.self.now c.args.piece.now c.loop-over.self c.loop-over.left.now c.loop-over.invariant.at c.loop-over.invariant.waits c.in-Found.over c.step.new.self c.in-Found.ensures.says in
    let w = over_within c.args.self.now c.args.piece.now c.loop-over.self c.loop-over.left.now c.loop-over.invariant.at c.loop-over.invariant.waits c.in-Found.over c.step.new.self c.in-Found.ensures.says in
    let n : c.in-Found.over ≡ length c.last-left.result.now = omega (arith, w, ap length c.last-left.ensures, length-drop (length c.loop-over.left.now - c.in-Found.over) c.loop-over.left.now) in
    let less : turns c.step.new.self (length c.last-left.result.now) < turns c.loop-over.self (length c.loop-over.left.now) = subst (λ (m : ℕ). turns c.step.new.self m < turns c.loop-over.self (length c.loop-over.left.now)) n l in
    let more = c.in-Ok.ensures.fewer in
    turns_less c.fields_at_once.new.self c.step.new.self c.loop-over.self c.in-Ok.rest.now c.last-left.result.now c.loop-over.left.now more less

pub loop-over-preserved : goal.loop-over-preserved
loop-over-preserved c =
    let on = c.in-Ok.ensures in
    record {
      at = on.at c.args.self.now c.args.piece.now (subst (λ (bs : List ℕ). At c.args.self.now c.args.piece.now c.step.new.self (part c.step.new.self ++ bs)) (sym c.last-left.ensures)
          (goes_at c.args.self.now c.args.piece.now c.loop-over.self c.loop-over.left.now c.loop-over.invariant.at c.loop-over.invariant.waits c.in-Found.over c.step.new.self c.in-Found.ensures.says (sym c.is_whole.ensures ∙ c.if-is_whole.false)));
      has = on.has;
      waits = inr on.none_there;
      first = inl (first_found c.args.self.now c.args.piece.now c.loop-over.self c.loop-over.left.now c.loop-over.invariant.first c.in-Found.over c.step.new.self c.in-Found.ensures.says);
      over = subst (λ (t : Table). IfSome c.args.table (λ x. x.now ≡ t)) (sym (on.same_table ∙ found_table c.loop-over.self (part c.loop-over.self ++ c.loop-over.left.now) c.in-Found.over c.step.new.self c.in-Found.ensures.says)) c.loop-over.invariant.over;
    }

pub returns-in-Wanting-clause-says : goal.returns-in-Wanting-clause-says
returns-in-Wanting-clause-says c = wanting_says c.args.self.now c.args.piece.now c.loop-over.self c.loop-over.left.now c.loop-over.invariant.at c.loop-over.invariant.waits c.step.new.self c.in-Wanting.ensures.says

pub returns-in-Refused-clause-says : goal.returns-in-Refused-clause-says
returns-in-Refused-clause-says c =
    let g : PartialUnit = c.loop-over.self in
    let offset : c.size-here.result ≡ length (before g) = c.size-here.ensures.size ∙ ap (λ (x : PartialUnit). drafted_size (drafted x)) c.self.view_is ∙ size_before g in
    let fault : fault_at g c.in-Refused.reason ≡ c.fault_at.result = ap (λ (n : ℕ). fault_of_offset n c.in-Refused.reason) (sym offset) ∙ sym c.fault_at.ensures in
    subst (λ (f : Fault). RanSays c.args.self.now c.args.piece.now (ran (answers.Fault f) (Refused f) c.in-Refused.over)) fault
    (refused_says c.args.self.now c.args.piece.now g c.loop-over.left.now c.loop-over.invariant.at c.loop-over.invariant.waits c.in-Refused.over c.in-Refused.reason c.step.new.self c.in-Refused.ensures.says)

pub returns-in-Err-clause-memory : goal.returns-in-Err-clause-memory
returns-in-Err-clause-memory c = first_found c.args.self.now c.args.piece.now c.loop-over.self c.loop-over.left.now c.loop-over.invariant.first c.in-Found.over c.step.new.self c.in-Found.ensures.says

pub returns-in-NoMemory-clause-memory : goal.returns-in-NoMemory-clause-memory
returns-in-NoMemory-clause-memory c = first_wants c.args.self.now c.args.piece.now c.loop-over.self c.loop-over.left.now c.loop-over.invariant.first c.in-NoMemory.ensures.memory
