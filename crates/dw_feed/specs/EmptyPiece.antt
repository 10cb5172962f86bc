-- An empty piece shows what the end of the input would show: that more is needed, and then nothing changes, or a fault
-- that stands before any byte.
use Rattle.std.proofs.Common.{◌≡◌, ◌≢◌, ◌⊎◌, ℕ, ◌<◌, List, [], ◌++◌, length, Some, refl, sym, ap, subst, ◌∙◌, append-nil, arith, inl, inr}
use Rattle.dw_leb.specs.declared.errors.Reason.{Reason}
use Rattle.dw_leb.specs.declared.errors.Reason.TheVariants.{Truncated}
use Rattle.dw_leb.specs.declared.errors.Fault.{Fault}
use Rattle.dw_header.specs.Header.{versions_for}
use Rattle.dw_unit.specs.Unit.{WholeUnit, UnitBreaksUnder}
use Rattle.dw_unit.specs.UnitLaws.{one_break}
use Rattle.dw_feed.specs.declared.progress.Progress.{Progress}
use Rattle.dw_feed.specs.declared.progress.Progress.TheVariants as answers
use Rattle.dw_feed.specs.BodyFeed.{PartialUnit, BodyFeed, Reading, Refused, Finished, started, part, before, stream, IsCutOff, StandsFirst, FeedsBody, EndsBody}
use Rattle.dw_feed.specs.FeedInvariant.{Kept, wanted, waits}

-- while more is needed nothing changes; no memory is wanted
abbrev pub Rests : BodyFeed → Progress WholeUnit → BodyFeed → Type 0
Rests (Reading g) answers.More new = new ≡ Reading g
Rests (Reading g) (answers.Fault f) new = new ≡ Refused f
Rests (Reading g) answer new = ⊥
Rests (Refused f) answer new = new ≡ Refused f
Rests Finished answer new = new ≡ Finished

pub rests_more : (g : PartialUnit) (f : Fault) → EndsBody (Reading g) (Some f) → f.reason ≡ Truncated
    → FeedsBody (Reading g) [] 0 answers.More (Reading g)
rests_more g f ends cut = record {
  all = refl;
  same = (refl, refl, refl);
  longer = sym (append-nil (stream g));
  cut = (
    f.offset,
    subst
        (λ (r : Reason). UnitBreaksUnder (versions_for g.header.kind) g.header.order g.table (stream g) f.offset r)
        cut ends.1,
  );
}

pub rests_fault : (g : PartialUnit) (f : Fault) → Kept (Reading g) → EndsBody (Reading g) (Some f)
    → f.reason ≢ Truncated → FeedsBody (Reading g) [] 0 (answers.Fault f) (Refused f)
rests_fault g f kept ends ne = (
  refl,
  record {
    within = omega arith;
    breaks = (
      ends.0,
      subst
          (λ (bs : List ℕ). UnitBreaksUnder (versions_for g.header.kind) g.header.order g.table bs f.offset f.reason)
          (sym (append-nil (stream g))) ends.1,
    );
    for_good = ne;
    first = subst (StandsFirst g) (sym (append-nil (stream g))) (by kept.2);
  },
)
  where
    not_cut : IsCutOff g (stream g) → ⊥
    not_cut cut =
        ne
        (one_break (versions_for g.header.kind) g.header.order g.table (stream g) f.offset cut.0 f.reason Truncated
        ends.1 cut.1).1

    by : (length (part g) < wanted g (part g)) ⊎ (g ≡ started g.header g.unit_length g.table) → StandsFirst g (stream g)
    by (inl short) = absurd (not_cut (waits g kept.0 (part g) kept.1 short))
    by (inr new) =
        let none_there : part g ≡ [] = ap part new in
        subst (StandsFirst g) (sym (ap (λ (bs : List ℕ). before g ++ bs) none_there ∙ append-nil (before g)))
        kept.0.first
