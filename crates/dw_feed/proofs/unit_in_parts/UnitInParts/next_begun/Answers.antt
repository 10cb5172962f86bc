use Rattle.std.proofs.Common.{◌≡◌, ◌<◌, ◌≤◌, ◌+◌, ℕ, Bool, List, length, take, drop, refl, ap, subst, sym, ◌∙◌, arith}
use Rattle.std.specs.Prelude.{option_map}
use Rattle.std.proofs.lemmas.List.{take-append-drop}
use Rattle.dw_leb.specs.Decide.{AreBytes, AreBytes-behind}
use Rattle.dw_leb.specs.Field.{are_bytes}
use Rattle.dw_leb.specs.View.{uleb_of}
use Rattle.dw_form.specs.declared.shape.Ctx.{Ctx}
use Rattle.dw_header.specs.Header.{context_of}
use Rattle.dw_tree.specs.FirstGiven.{given_if}
use Rattle.dw_tree.specs.Steps.{ArePlain, SpellsFirst}
use Rattle.dw_tree.specs.Tree.{nesting}
use Rattle.dw_unit.specs.Draft.{passes_limit, begun, given_each}
use Rattle.dw_feed.specs.BodyFeed.{PartialUnit}
use Rattle.dw_feed.specs.BodyView.{drafted}
use Rattle.dw_feed.specs.FeedInvariant.{context, frames_of, left}
use Rattle.dw_feed.specs.FieldSteps.{keeps_stands}
use Rattle.dw_feed.proofs.DraftRoom.{room_for}
use Rattle.dw_feed.proofs.EntryLemmas.{code_none_kept, draft_is}
use Rattle.dw_feed.proofs.EntryRuns.{begun_says, begun_alone_says}
use Rattle.dw_feed.proofs.ToldValues.{told_there}
use Rattle.dw_feed.proofs.unit_in_parts.UnitInParts.next_begun.Goals as goal

pub begin_with-requires-clause-spelled : goal.begin_with-requires-clause-spelled
begin_with-requires-clause-spelled c =
    let a = c.self.inside in
    let rest : List ℕ = c.behind-rest.result.now in
    let size : ℕ = c.first_values-first.result.size in
    let count : ℕ = c.first_values-first.result.count in
    let k : c.context-context.result ≡ context_of a.draft.header = c.context-context.ensures.context ∙ ap context_of c.header.ensures in
    subst (λ (x : Ctx). SpellsFirst x c.args.decl.now.pairs count (take size rest)) k
    (told_there c.context-context.result c.args.decl.now.pairs count size c.first_values-first.ensures.told rest (are_bytes rest (λ i. omega (arith, c.type_inv.rest i))) c.first_values-first.ensures.there)

pub begin_with-requires-clause-short : goal.begin_with-requires-clause-short
begin_with-requires-clause-short c =
    let g : PartialUnit = c.args.self.now in
    let size : ℕ = c.args.code.width + c.first_values-first.result.size in
    ap (λ (u : PartialUnit). passes_limit (drafted u) size) c.self.view_is ∙ room_for g (keeps_stands g c.requires.stands) size (omega (arith, c.first_values-first.ensures.within, c.requires.lim, c.requires.within))

pub returns : goal.returns
returns c =
    let g : PartialUnit = c.args.self.now in
    let a = c.self.inside in
    let r = c.requires in
    let b : List ℕ = c.args.b.now in
    let rest : List ℕ = c.behind-rest.result.now in
    let first = c.first_values-first.result in
    let fit = are_bytes b (λ k. omega (arith, c.type_inv.b k)) in
    let fits_behind : AreBytes rest = subst AreBytes (sym c.behind-rest.ensures) (AreBytes-behind (take c.args.code.width b) (drop c.args.code.width b) (subst AreBytes (sym (take-append-drop c.args.code.width b)) fit)) in
    let in_draft : c.context-context.result ≡ context_of a.draft.header = c.context-context.ensures.context ∙ ap context_of c.header.ensures in
    let in_unit : context_of a.draft.header ≡ context g = ap context c.self.view_is in
    let own = told_there c.context-context.result c.args.decl.now.pairs first.count first.size c.first_values-first.ensures.told rest fits_behind c.first_values-first.ensures.there in
    let drafts : ArePlain (context_of a.draft.header) c.args.decl.now.pairs own.0 (take first.size rest) = subst (λ (x : Ctx). ArePlain x c.args.decl.now.pairs own.0 (take first.size rest)) in_draft own.2 in
    let plain : ArePlain (context g) c.args.decl.now.pairs own.0 (take first.size (drop c.args.code.width b)) =
    subst (λ (bs : List ℕ). ArePlain (context g) c.args.decl.now.pairs own.0 (take first.size bs)) c.behind-rest.ensures (subst (λ (x : Ctx). ArePlain x c.args.decl.now.pairs own.0 (take first.size rest)) in_unit drafts) in
    let there : first.size ≤ length (drop c.args.code.width b) = omega (arith, c.first_values-first.ensures.there, ap length c.behind-rest.ensures) in
    let within : c.args.code.width + first.size ≤ left g = omega (arith, c.first_values-first.ensures.within, c.requires.lim, r.within) in
    let above : length a.draft.place.spot.above ≡ length (frames_of g) = ap (λ (u : PartialUnit). length (frames_of u)) c.self.view_is in
    let level : length (frames_of g) < nesting = subst (λ (n : ℕ). n < nesting) above (c.if-not-has_level.ensures.0 refl) in
    begun_says g r.stands r.has r.none_there r.free r.inside b fit (uleb_of c.args.code) r.read (omega (arith, c.args.code.fits.some)) r.room c.args.decl.now r.known (λ e. omega (arith, r.some, e)) level own.0 first.size there within plain _
    (draft_is (λ d. given_each own.0 (begun (uleb_of c.args.code) d)) g a.draft c.begin_with.new.self a.unit_length (option_map uleb_of a.named) a.to_come a.pending.items c.self.view_is (code_none_kept g r.free r.has r.none_there)
    (subst (λ (all : Bool). c.begin_with.new.self ≡ given_each (given_if all own.0) (begun (uleb_of c.args.code) a.draft)) c.if-not-all.false (c.in_ok-all.ensures.ok own.0 own.1 drafts)))

-- where its values had no memory
pub returns-then-not-all : goal.returns-then-not-all
returns-then-not-all c =
    let g : PartialUnit = c.args.self.now in
    let a = c.self.inside in
    let r = c.requires in
    let b : List ℕ = c.args.b.now in
    let rest : List ℕ = c.behind-rest.result.now in
    let first = c.first_values-first.result in
    let fit = are_bytes b (λ k. omega (arith, c.type_inv.b k)) in
    let fits_behind : AreBytes rest = subst AreBytes (sym c.behind-rest.ensures) (AreBytes-behind (take c.args.code.width b) (drop c.args.code.width b) (subst AreBytes (sym (take-append-drop c.args.code.width b)) fit)) in
    let in_draft : c.context-context.result ≡ context_of a.draft.header = c.context-context.ensures.context ∙ ap context_of c.header.ensures in
    let own = told_there c.context-context.result c.args.decl.now.pairs first.count first.size c.first_values-first.ensures.told rest fits_behind c.first_values-first.ensures.there in
    let drafts : ArePlain (context_of a.draft.header) c.args.decl.now.pairs own.0 (take first.size rest) = subst (λ (x : Ctx). ArePlain x c.args.decl.now.pairs own.0 (take first.size rest)) in_draft own.2 in
    let above : length a.draft.place.spot.above ≡ length (frames_of g) = ap (λ (u : PartialUnit). length (frames_of u)) c.self.view_is in
    let level : length (frames_of g) < nesting = subst (λ (n : ℕ). n < nesting) above (c.if-not-has_level.ensures.0 refl) in
    begun_alone_says g r.stands r.has r.none_there r.free r.inside b fit (uleb_of c.args.code) r.read (omega (arith, c.args.code.fits.some)) r.room c.args.decl.now r.known (λ e. omega (arith, r.some, e)) level r.within _
    (draft_is (λ d. begun (uleb_of c.args.code) d) g a.draft c.begin_with.new.self a.unit_length (option_map uleb_of a.named) a.to_come a.pending.items c.self.view_is (code_none_kept g r.free r.has r.none_there)
    (subst (λ (all : Bool). c.begin_with.new.self ≡ given_each (given_if all own.0) (begun (uleb_of c.args.code) a.draft)) c.if-not-all.true (c.in_ok-all.ensures.ok own.0 own.1 drafts)))
