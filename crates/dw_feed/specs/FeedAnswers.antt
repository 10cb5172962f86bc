-- From what a body feed keeps to the answers of a call.
use Rattle.std.proofs.Common.{◌≡◌, ◌≢◌, ℕ, ◌<◌, ◌≤◌, List, [], ◌++◌, length, take, refl, sym, subst, append-nil}
use Rattle.dw_leb.specs.declared.errors.Reason.{Reason}
use Rattle.dw_leb.specs.declared.errors.Reason.TheVariants.{Truncated}
use Rattle.dw_leb.specs.declared.errors.SectionId.TheVariants.{Info}
use Rattle.dw_leb.specs.Reader.{Broken}
use Rattle.dw_leb.specs.Decide.{AreBytes}
use Rattle.dw_abbrev.specs.Table.{Table}
use Rattle.dw_header.specs.Header.{Header, versions_for}
use Rattle.dw_unit.specs.Unit.{UnitBreaksUnder}
use Rattle.dw_feed.specs.BodyFeed.{PartialUnit, part, before, stream, IsCutOff, StandsFirst, SaysMore, SaysFault, SameUnit}
use Rattle.dw_feed.specs.FeedInvariant.{Keeps, next, wanted, waits, stood_first, refused}

-- ---- the same unit has the same breaks

module _ (g g' : PartialUnit) (same : SameUnit g g') where
  pub same_breaks : (bytes : List ℕ) (offset : ℕ) (reason : Reason)
      → UnitBreaksUnder (versions_for g'.header.kind) g'.header.order g'.table bytes offset reason
      → UnitBreaksUnder (versions_for g.header.kind) g.header.order g.table bytes offset reason
  same_breaks bytes offset reason h =
      subst (λ (x : Header). UnitBreaksUnder (versions_for x.kind) x.order g.table bytes offset reason) same.0
      (subst (λ (t : Table). UnitBreaksUnder (versions_for g'.header.kind) g'.header.order t bytes offset reason)
      same.2 h)

  pub same_cut : (bytes : List ℕ) → IsCutOff g' bytes → IsCutOff g bytes
  same_cut bytes h = (h.0, same_breaks bytes h.0 Truncated h.1)

  pub same_first : (bytes : List ℕ) → StandsFirst g' bytes → StandsFirst g bytes
  same_first bytes h front b e = same_cut front (h front b e)

-- ---- two of the answers

-- More: the piece was taken, and of the field at the place fewer bytes are there than it wants.
pub says_more : (g g' : PartialUnit) (piece : List ℕ) → SameUnit g g' → stream g' ≡ stream g ++ piece → Keeps g'
    → AreBytes (part g') → length (part g') < wanted g' (part g') → SaysMore g piece (length piece) g'
says_more g g' piece same longer keeps fit short =
    record {
      all = refl;
      same = same;
      longer = longer;
      cut = same_cut g g' same (stream g') (waits g' keeps (part g') fit short);
    }

-- Fault: the bytes of the field at the place are refused, and no more of them were taken than it wants.
module _ (g g' : PartialUnit) (piece : List ℕ) (n : ℕ) (same : SameUnit g g') (within : n ≤ length piece)
    (bytes : List ℕ) (fit : AreBytes bytes) (taken : stream g ++ take n piece ≡ before g' ++ bytes)
    (keeps : Keeps g') where
  pub says_fault : (own : ℕ) (reason : Reason) → reason ≢ Truncated → next g' bytes ≡ Broken own reason
      → length bytes ≤ wanted g' bytes
      → SaysFault g piece n (record { section = Info; offset = length (before g'); reason = reason })
  says_fault own reason ne e enough = record {
    within = within;
    breaks = (
      refl,
      subst
          (λ (s : List ℕ).
          UnitBreaksUnder (versions_for g.header.kind) g.header.order g.table s (length (before g')) reason)
          (sym taken)
          (same_breaks g g' same (before g' ++ bytes) (length (before g')) reason
          (refused g' keeps bytes own reason fit e).1),
    );
    for_good = ne;
    first =
        subst (StandsFirst g) (sym taken)
        (same_first g g' same (before g' ++ bytes)
        (stood_first g' keeps bytes [] fit
        (subst (λ (bs : List ℕ). length bytes ≤ wanted g' bs) (sym (append-nil bytes)) enough)));
  }
