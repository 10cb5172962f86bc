-- Every cut: however the bytes are cut into pieces, what the plain feed answers is what a feed has to say, at the first
-- byte where it stands.
use Rattle.std.proofs.Common.{◌≡◌, ◌⊎◌, ℕ, zero, suc, ◌-◌, ◌<◌, ◌≤◌, Bool, true, false, List, [], ◌∷◌, ◌++◌, length, drop, Option, Some, None, refl, ap, subst, arith, inl, inr, length-append}
use Rattle.std.specs.Prelude.{nat_lt}
use Rattle.std.proofs.lemmas.Bool.{ltb-true, ltb-false}
use Rattle.dw_leb.specs.declared.errors.Fault.{Fault}
use Rattle.dw_leb.specs.Part.{Taken, judged}
use Rattle.dw_leb.specs.Number.{Unsigned, uleb}
use Rattle.dw_leb.specs.Reader.{Outcome, Found, Broken, mapped, made, checked}
use Rattle.dw_leb.specs.ReadNumber.{read_uleb}
use Rattle.dw_leb.specs.DecideNumber.{uleb_decides, uleb_some}
use Rattle.dw_leb.specs.Decide.{Says, judged_decides, AreBytes}
use Rattle.dw_abbrev.specs.Table.{Table}
use Rattle.dw_header.specs.Header.{Header}
use Rattle.dw_header.specs.Laws.{HasHeaderBytes}
use Rattle.dw_tree.specs.Tree.{bad_root, Tree}
use Rattle.dw_unit.specs.Unit.{WholeUnit}
use Rattle.dw_leb.specs.Moments.{IsCut}
use Rattle.dw_feed.specs.NextField.{nothing_of, next_has}
use Rattle.dw_feed.specs.FieldReader.{PlaceBehind}
use Rattle.dw_feed.specs.declared.progress.Progress.{Progress}
use Rattle.dw_feed.specs.declared.progress.Progress.TheVariants as answers
use Rattle.dw_feed.specs.BodyFeed.{PartialUnit, BodyFeed, Reading, Refused, Finished, started, part, FeedsBody, EndsBody}
use Rattle.dw_feed.specs.FeedInvariant.{Kept, frames_of, chain_of, context, left, next, wanted, refused, start_keeps, moved_to}
use Rattle.dw_feed.specs.PlainFeed.{field_at, holding, Ran, ran, fault_at, root_if_whole, when_whole, by_field, if_short, run, feed_plainly, held_part, held_wanted}
use Rattle.dw_feed.specs.FeedSteps.{RanSays, At, next_is, at_holding, more_says, fault_says, done_says, goes_on, kept_at}

module _ (g0 : PartialUnit) (piece : List ℕ) where
  short_says : (g : PartialUnit) (bytes : List ℕ) → At g0 piece g bytes → length bytes < wanted g bytes
      → RanSays g0 piece (ran answers.More (Reading (holding g bytes)) 0)
  short_says g bytes at short =
      more_says g0 piece (holding g bytes) bytes (at_holding g0 piece g bytes bytes at) (held_part g bytes)
      (omega (arith, short, held_wanted g bytes bytes))

  abbrev Goes : (PartialUnit → List ℕ → Ran) → Type 0
  Goes go = (g : PartialUnit) (bytes : List ℕ) → At g0 piece g bytes → RanSays g0 piece (go g bytes)

  module _ (go : PartialUnit → List ℕ → Ran) (goes : Goes go) (g : PartialUnit) (bytes : List ℕ)
      (at : At g0 piece g bytes) where
    by_end : (q : PlaceBehind) (size : ℕ) → field_at g bytes (left g) ≡ Found q size → (o : Option Tree)
        → root_if_whole (moved_to q.0 q.1 g) ≡ o
        → RanSays g0 piece
        (when_whole (moved_to q.0 q.1 g) o (drop size bytes) (go (moved_to q.0 q.1 g) (drop size bytes)))
    by_end q size e None w = goes (moved_to q.0 q.1 g) (drop size bytes) (goes_on g0 piece g bytes at q size e w)
    by_end q size e (Some x) w = done_says g0 piece g bytes at q size e x w

    field_says : wanted g bytes ≤ length bytes → (o : Outcome PlaceBehind) → field_at g bytes (left g) ≡ o
        → RanSays g0 piece (by_field go g bytes o)
    field_says enough (Found q size) e = by_end q size e (root_if_whole (moved_to q.0 q.1 g)) refl
    field_says enough (Broken offset reason) e =
        fault_says g0 piece g bytes at enough offset reason (next_is g bytes (Broken offset reason) e)

    turn_says : (v : Bool) → nat_lt (length bytes) (wanted g bytes) ≡ v → RanSays g0 piece (if_short go g bytes v)
    turn_says true e = short_says g bytes at (ltb-true _ _ e)
    turn_says false e = field_says (ltb-false _ _ e) (field_at g bytes (left g)) refl

  run_says : (fuel : ℕ) → Goes (run (length piece) fuel)
  run_says zero g bytes at = (omega arith, omega arith, tt)
  run_says (suc fuel) g bytes at =
      turn_says (run (length piece) fuel) (run_says fuel) g bytes at (nat_lt (length bytes) (wanted g bytes)) refl

-- a feed that keeps what it should says what it has to
pub every_cut : (fuel : ℕ) (g : PartialUnit) (piece : List ℕ) → Kept (Reading g) → AreBytes piece
    → RanSays g piece (feed_plainly fuel g piece)
every_cut fuel g piece kept fit =
    run_says g piece fuel (holding g []) (part g ++ piece)
    (at_holding g piece g [] (part g ++ piece) (kept_at g piece kept fit))

-- ---- every call

-- a call of the plain feed, on whatever the calls before it left
abbrev pub call : ℕ → BodyFeed → List ℕ → Ran
call fuel (Reading g) piece = feed_plainly fuel g piece
call fuel (Refused f) piece = ran (answers.Fault f) (Refused f) (length piece)
call fuel Finished piece = ran answers.Spent Finished (length piece)

-- says what it has to, and leaves what has to be true before the next one
pub every_call : (fuel : ℕ) (feed : BodyFeed) (piece : List ℕ) → Kept feed → AreBytes piece
    → ((call fuel feed piece).over ≤ length piece)
    × FeedsBody feed piece (length piece - (call fuel feed piece).over) (call fuel feed piece).answer
    (call fuel feed piece).new
    × Kept (call fuel feed piece).new
every_call fuel (Reading g) piece kept fit = every_cut fuel g piece kept fit
every_call fuel (Refused f) piece kept fit = (omega arith, (omega arith, refl, refl), tt)
every_call fuel Finished piece kept fit = (omega arith, omega arith, tt)

-- a new feed
pub new_is_kept : (h : Header) (n : ℕ) (t : Table) → HasHeaderBytes h n → Kept (Reading (started h n t))
new_is_kept h n t head = (start_keeps h n t head, tt, inr refl)

-- the answers to these pieces, each with the count of bytes that were taken of it
abbrev pub answers_to : ℕ → BodyFeed → List (List ℕ) → List (ℕ × Progress WholeUnit)
answers_to fuel feed [] = []
answers_to fuel feed (piece ∷ pieces) =
    let r = call fuel feed piece in (length piece - r.over, r.answer) ∷ answers_to fuel r.new pieces

-- ---- the end

abbrev pub ended_by : PartialUnit → Outcome (Unit {0}) → Option Fault
ended_by g (Found x size) = None
ended_by g (Broken at reason) = Some (fault_at g reason)

abbrev pub end_plainly : BodyFeed → Option Fault
end_plainly (Reading g) = ended_by g (next g (part g))
end_plainly (Refused f) = Some f
end_plainly Finished = None

-- of a root's code there is a byte
no_root_yet : (t : Table) (lim : ℕ) (x : Unit {0}) (size : ℕ)
    → made {X = Unit {0}} nothing_of (checked read_uleb (bad_root t)) [] lim ≡ Found x size → ⊥
no_root_yet t lim x size e = by (checked read_uleb (bad_root t) [] lim) refl e
  where
    by : (o : Outcome Unsigned) → checked read_uleb (bad_root t) [] lim ≡ o
        → mapped {X = Unit {0}} nothing_of o ≡ Found x size → ⊥
    by (Broken offset reason) q e = cc
    by (Found code n) q e =
        let g : Taken (judged uleb (bad_root t)) [] lim code n =
        subst (Says (judged uleb (bad_root t)) [] lim) q
        ((judged_decides uleb read_uleb (bad_root t) uleb_decides).says [] lim tt) in
        omega (arith, uleb_some code g.fits.0, ap length g.split, length-append (uleb.spell code) g.rest)

-- what is there of the field between the calls isn't all of it
pub not_all_there : (g : PartialUnit) → Kept (Reading g) → (x : Unit {0}) (size : ℕ) → next g (part g) ≡ Found x size
    → ⊥
not_all_there g kept x size e = by kept.2
  where
    by : (length (part g) < wanted g (part g)) ⊎ (g ≡ started g.header g.unit_length g.table) → ⊥
    by (inl short) =
        subst IsCut e
        ((next_has (context g) g.table (frames_of g) (chain_of g) g.place.unfinished).waits (part g) (left g) short)
    by (inr new) =
        no_root_yet g.table (left (started g.header g.unit_length g.table)) x size
        (subst (λ (h : PartialUnit). next h (part h) ≡ Found x size) new e)

-- the end of the input gives the break of what was taken, or the fault that was answered
pub every_end : (feed : BodyFeed) → Kept feed → EndsBody feed (end_plainly feed)
every_end (Refused f) kept = refl
every_end Finished kept = tt
every_end (Reading g) kept = by (next g (part g)) refl
  where
    by : (o : Outcome (Unit {0})) → next g (part g) ≡ o → EndsBody (Reading g) (ended_by g o)
    by (Found x size) e = absurd (not_all_there g kept x size e)
    by (Broken at reason) e = refused g kept.0 (part g) at reason kept.1 e
