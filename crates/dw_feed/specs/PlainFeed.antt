-- A plain feed: it reads field after field from what is there, and keeps the bytes of a field that isn't whole as they
-- are.
use Rattle.std.proofs.Common.{◌≡◌, ℕ, zero, suc, ◌-◌, Bool, true, false, List, [], ◌∷◌, ◌++◌, length, drop, Option, Some, None, refl, sym, ap, ◌∙◌, arith}
use Rattle.std.specs.Prelude.{nat_lt, option_map}
use Rattle.dw_leb.specs.declared.errors.Reason.{Reason}
use Rattle.dw_leb.specs.declared.errors.SectionId.TheVariants.{Info}
use Rattle.dw_leb.specs.declared.errors.Fault.{Fault}
use Rattle.dw_leb.specs.Reader.{Outcome, Found, Broken, Reader}
use Rattle.dw_form.specs.declared.shape.Ctx.{Ctx}
use Rattle.dw_abbrev.specs.Table.{Table}
use Rattle.dw_header.specs.HeaderPlace.{header_bytes}
use Rattle.dw_tree.specs.Tree.{Tree, Forest, none, more}
use Rattle.dw_tree.specs.Place.{Frame, PartialValue, UnfinishedEntry}
use Rattle.dw_tree.specs.Steps.{partial_in, given_partial}
use Rattle.dw_unit.specs.Unit.{WholeUnit, left_behind}
use Rattle.dw_feed.specs.PlaceBytes.{place_bytes}
use Rattle.dw_feed.specs.FieldPlace.{PaddingFits, PlaceFits}
use Rattle.dw_feed.specs.NextField.{next_moment, GoesOn}
use Rattle.dw_feed.specs.FieldReader.{PlaceBehind, read_field}
use Rattle.dw_feed.specs.declared.progress.Progress.{Progress}
use Rattle.dw_feed.specs.declared.progress.Progress.TheVariants as answers
use Rattle.dw_feed.specs.BodyFeed.{PartialUnit, BodyFeed, Reading, Refused, Finished, value_part, part, before}
use Rattle.dw_feed.specs.FeedInvariant.{Keeps, frames_of, chain_of, context, left, wanted, moved_to}

-- the next field with the place behind it
abbrev pub field_at : PartialUnit → Reader PlaceBehind
field_at g = read_field (context g) g.table (frames_of g) (chain_of g) g.place.unfinished g.padding

-- the same place, where these bytes are there of the field
abbrev pub holding : PartialUnit → List ℕ → PartialUnit
holding g bytes = record {
  header = g.header;
  unit_length = g.unit_length;
  table = g.table;
  place = record { spot = g.place.spot; unfinished = option_map (given_partial None) g.place.unfinished };
  padding = g.padding;
  named = None;
  to_come = 0;
  pending = bytes;
}

-- an answer, the feed after it, and how many bytes of the piece are left over
pub record Ran : Type 0 where
  pub answer : Progress WholeUnit
  pub new : BodyFeed
  pub over : ℕ

abbrev pub ran : Progress WholeUnit → BodyFeed → ℕ → Ran
ran answer new over = record { answer = answer; new = new; over = over }

abbrev pub fault_at : PartialUnit → Reason → Fault
fault_at g reason = record { section = Info; offset = length (before g); reason = reason }

-- the root, where the unit is whole: the root is closed, and nothing is left of the unit
abbrev pub whole_at : List Frame → Forest → Option UnfinishedEntry → ℕ → Option Tree
whole_at [] (more x none) None zero = Some x
whole_at fs ts o lim = None

abbrev pub root_if_whole : PartialUnit → Option Tree
root_if_whole g = whole_at (frames_of g) (chain_of g) g.place.unfinished (left g)

abbrev pub unit_with : PartialUnit → Tree → WholeUnit
unit_with g x = record { header = g.header; table = g.table; root = x; padding = g.padding }

abbrev pub when_whole : PartialUnit → Option Tree → List ℕ → Ran → Ran
when_whole g None bytes going = going
when_whole g (Some x) bytes going = ran (answers.Done (unit_with g x)) Finished (length bytes)

-- at the next place: the unit is whole, or it goes on
abbrev pub arrived : (PartialUnit → List ℕ → Ran) → PartialUnit → List ℕ → Ran
arrived go g bytes = when_whole g (root_if_whole g) bytes (go g bytes)

abbrev pub by_field : (PartialUnit → List ℕ → Ran) → PartialUnit → List ℕ → Outcome PlaceBehind → Ran
by_field go g bytes (Found q size) = arrived go (moved_to q.0 q.1 g) (drop size bytes)
by_field go g bytes (Broken own reason) =
    ran (answers.Fault (fault_at g reason)) (Refused (fault_at g reason)) (length bytes - wanted g bytes)

abbrev pub if_short : (PartialUnit → List ℕ → Ran) → PartialUnit → List ℕ → Bool → Ran
if_short go g bytes true = ran answers.More (Reading (holding g bytes)) 0
if_short go g bytes false = by_field go g bytes (field_at g bytes (left g))

-- The field at the place has the bytes so far and those of the piece behind it. More, where it wants more; else it is
-- read. Without fuel it gives up, and nothing is taken of the piece, which has so many bytes.
abbrev pub run : ℕ → ℕ → PartialUnit → List ℕ → Ran
run all zero g bytes = ran answers.NoMemory Finished all
run all (suc fuel) g bytes = if_short (run all fuel) g bytes (nat_lt (length bytes) (wanted g bytes))

-- a call with a piece
abbrev pub feed_plainly : ℕ → PartialUnit → List ℕ → Ran
feed_plainly fuel g piece = run (length piece) fuel (holding g []) (part g ++ piece)

-- ---- what is there of the field at the place is no part of what is kept

no_partial : (o : Option UnfinishedEntry) → partial_in (option_map (given_partial None) o) ≡ None
no_partial None = refl
no_partial (Some r) = refl

module _ (k : Ctx) (t : Table) where
  same_bytes : (fs : List Frame) (ts : Forest) (o : Option UnfinishedEntry) (ws : List ℕ)
      → place_bytes k t fs ts (option_map (given_partial None) o) ws ≡ place_bytes k t fs ts o ws
  same_bytes fs ts None ws = refl
  same_bytes fs ts (Some r) ws = refl

  same_padding : (fs : List Frame) (ts : Forest) (r s : UnfinishedEntry) (ws : List ℕ)
      → PaddingFits k t fs ts (Some r) ws → PaddingFits k t fs ts (Some s) ws
  same_padding fs ts r s [] p = tt
  same_padding [] none r s (w ∷ ws) p = absurd p
  same_padding [] (more x ts) r s (w ∷ ws) p = absurd p
  same_padding (f ∷ fs) ts r s (w ∷ ws) p = absurd p

  same_stands : (fs : List Frame) (ts : Forest) (o : Option UnfinishedEntry) (ws : List ℕ) → PlaceFits k t fs ts o ws
      → PlaceFits k t fs ts (option_map (given_partial None) o) ws
  same_stands fs ts None ws h = h
  same_stands fs ts (Some r) ws h = record {
    room = h.room;
    frames_fit = h.frames_fit;
    spot_fits =
        record {
          begins = h.spot_fits.begins;
          deep = h.spot_fits.deep;
          before = h.spot_fits.before;
          values_fit = h.spot_fits.values_fit;
          short = h.spot_fits.short;
        };
    padding_fits = same_padding fs ts r (given_partial None r) ws h.padding_fits;
  }

  stands_same : (fs : List Frame) (ts : Forest) (o : Option UnfinishedEntry) (ws : List ℕ)
      → PlaceFits k t fs ts (option_map (given_partial None) o) ws → PlaceFits k t fs ts o ws
  stands_same fs ts None ws h = h
  stands_same fs ts (Some r) ws h = record {
    room = h.room;
    frames_fit = h.frames_fit;
    spot_fits =
        record {
          begins = h.spot_fits.begins;
          deep = h.spot_fits.deep;
          before = h.spot_fits.before;
          values_fit = h.spot_fits.values_fit;
          short = h.spot_fits.short;
        };
    padding_fits = same_padding fs ts (given_partial None r) r ws h.padding_fits;
  }

  same_goes : (fs : List Frame) (ts : Forest) (o : Option UnfinishedEntry) (m n : ℕ) → m ≡ n → GoesOn k t fs ts o m
      → GoesOn k t fs ts (option_map (given_partial None) o) n
  same_goes [] none (Some r) m n e h = tt
  same_goes [] (more x ts) (Some r) m n e h = tt
  same_goes (f ∷ fs) ts (Some r) m n e h = tt
  same_goes [] none None m n e h = tt
  same_goes [] (more x ts) None m n e h = omega (arith, e, h)
  same_goes (f ∷ fs) ts None m n e h = tt

  goes_same : (fs : List Frame) (ts : Forest) (o : Option UnfinishedEntry) (m n : ℕ) → m ≡ n
      → GoesOn k t fs ts (option_map (given_partial None) o) m → GoesOn k t fs ts o n
  goes_same [] none (Some r) m n e h = tt
  goes_same [] (more x ts) (Some r) m n e h = tt
  goes_same (f ∷ fs) ts (Some r) m n e h = tt
  goes_same [] none None m n e h = tt
  goes_same [] (more x ts) None m n e h = omega (arith, e, h)
  goes_same (f ∷ fs) ts None m n e h = tt

  same_wanted : (fs : List Frame) (ts : Forest) (o : Option UnfinishedEntry) (bytes : List ℕ) (m n : ℕ) → m ≡ n
      → next_moment k t fs ts (option_map (given_partial None) o) bytes m ≡ next_moment k t fs ts o bytes n
  same_wanted [] none (Some r) bytes m n e = ap (λ (l : ℕ). next_moment k t [] none (Some r) bytes l) e
  same_wanted [] (more x ts) (Some r) bytes m n e = ap (λ (l : ℕ). next_moment k t [] (more x ts) (Some r) bytes l) e
  same_wanted (f ∷ fs) ts (Some r) bytes m n e = ap (λ (l : ℕ). next_moment k t (f ∷ fs) ts (Some r) bytes l) e
  same_wanted [] none None bytes m n e = ap (λ (l : ℕ). next_moment k t [] none None bytes l) e
  same_wanted [] (more x ts) None bytes m n e = ap (λ (l : ℕ). next_moment k t [] (more x ts) None bytes l) e
  same_wanted (f ∷ fs) ts None bytes m n e = ap (λ (l : ℕ). next_moment k t (f ∷ fs) ts None bytes l) e

module _ (g : PartialUnit) (bytes : List ℕ) where
  pub held_before : before (holding g bytes) ≡ before g
  held_before =
      ap (λ (bs : List ℕ). header_bytes g.header g.unit_length ++ bs)
      (same_bytes (context g) g.table (frames_of g) (chain_of g) g.place.unfinished g.padding)

  pub held_left : left (holding g bytes) ≡ left g
  held_left =
      ap (λ (bs : List ℕ). left_behind g.header g.unit_length - length bs)
      (same_bytes (context g) g.table (frames_of g) (chain_of g) g.place.unfinished g.padding)

  pub held_part : part (holding g bytes) ≡ bytes
  held_part = ap (λ (b : Option PartialValue). value_part (holding g bytes) b ++ bytes) (no_partial g.place.unfinished)

  pub held_wanted : (field : List ℕ) → wanted (holding g bytes) field ≡ wanted g field
  held_wanted field =
      same_wanted (context g) g.table (frames_of g) (chain_of g) g.place.unfinished field (left (holding g bytes))
      (left g) held_left

  pub held_keeps : Keeps g → Keeps (holding g bytes)
  held_keeps keeps = record {
    head = keeps.head;
    stands = same_stands (context g) g.table (frames_of g) (chain_of g) g.place.unfinished g.padding keeps.stands;
    within =
        omega (
          arith,
          keeps.within,
          ap length (same_bytes (context g) g.table (frames_of g) (chain_of g) g.place.unfinished g.padding),
        );
    unended =
        same_goes (context g) g.table (frames_of g) (chain_of g) g.place.unfinished (left g) (left (holding g bytes))
        (sym held_left) keeps.unended;
    first = λ front b e. keeps.first front b (sym held_before ∙ e);
  }

  pub keeps_held : Keeps (holding g bytes) → Keeps g
  keeps_held keeps = record {
    head = keeps.head;
    stands = stands_same (context g) g.table (frames_of g) (chain_of g) g.place.unfinished g.padding keeps.stands;
    within =
        omega (
          arith,
          keeps.within,
          ap length (same_bytes (context g) g.table (frames_of g) (chain_of g) g.place.unfinished g.padding),
        );
    unended =
        goes_same (context g) g.table (frames_of g) (chain_of g) g.place.unfinished (left (holding g bytes)) (left g)
        held_left keeps.unended;
    first = λ front b e. keeps.first front b (held_before ∙ e);
  }
