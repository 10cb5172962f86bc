-- A feed that takes the bytes behind a unit's header, in whatever pieces they come: its value, the bytes that it took,
-- and what each of its calls says.
use Rattle.std.specs.Prelude.{◌≡◌, ◌≢◌, ℕ, ◌+◌, ◌≤◌, List, [], ◌∷◌, ◌++◌, length, take, Option, Some, None}
use Rattle.dw_leb.specs.declared.errors.Reason.TheVariants.{Truncated}
use Rattle.dw_leb.specs.declared.errors.SectionId.TheVariants.{Info}
use Rattle.dw_leb.specs.declared.errors.Fault.{Fault}
use Rattle.dw_leb.specs.Number.{Unsigned, uleb, fixed_bytes}
use Rattle.dw_form.specs.declared.shape.Ctx.{Ctx}
use Rattle.dw_form.specs.declared.shape.Shape.{Shape}
use Rattle.dw_form.specs.declared.shape.Shape.TheVariants as shapes
use Rattle.dw_form.specs.Form.{shape}
use Rattle.dw_form.specs.Pieces.{form_in, via_bytes}
use Rattle.dw_abbrev.specs.Table.{Pair, Table}
use Rattle.dw_header.specs.Header.{Header, versions_for, context_of}
use Rattle.dw_header.specs.HeaderPlace.{header_bytes}
use Rattle.dw_tree.specs.Place.{PartialValue, UnfinishedEntry, Place, nowhere}
use Rattle.dw_tree.specs.Steps.{partial_in, next_pairs}
use Rattle.dw_unit.specs.Unit.{WholeUnit, bytes_of, UnitFits, UnitBreaksUnder}
use Rattle.dw_feed.specs.PlaceBytes.{place_bytes}
use Rattle.dw_feed.specs.declared.progress.Progress.{Progress}
use Rattle.dw_feed.specs.declared.progress.Progress.TheVariants as answers

-- ---- the value of a feed

-- A unit of which only some bytes were taken, over a table that was handed in. Its header with the unit_length is
-- whole; its entries are a tree with one open place, where the next field begins; then come the widths of the nulls
-- behind the root. Of the field at the place some bytes may be there: the form that an indirect value names, where the
-- value itself hasn't begun; a partial value of the unfinished entry, with the count of the bytes of its content that
-- are still to come; and the bytes of a number or of a length field that isn't whole.
pub record PartialUnit : Type 0 where
  pub header : Header
  pub unit_length : ℕ
  pub table : Table
  pub place : Place
  pub padding : List ℕ
  pub named : Option Unsigned
  pub to_come : ℕ
  pub pending : List ℕ

-- a feed takes bytes, or it answered a fault, or it has nothing left to do
pub data BodyFeed : Type 0 where
  Reading : PartialUnit → BodyFeed
  Refused : Fault → BodyFeed
  Finished : BodyFeed

-- where it begins: behind the header
abbrev pub started : Header → ℕ → Table → PartialUnit
started h n t =
    record {
      header = h;
      unit_length = n;
      table = t;
      place = record { spot = nowhere; unfinished = None };
      padding = [];
      named = None;
      to_come = 0;
      pending = [];
    }

-- ---- the bytes that it took

-- the form of the first of these pairs
abbrev pub first_form : List Pair → ℕ
first_form [] = 0
first_form (p ∷ ps) = p.form.value

-- the length field of a block of so many bytes
abbrev pub count_bytes : Ctx → Option Shape → ℕ → ℕ → List ℕ
count_bytes k (Some (shapes.Counted n)) width count = fixed_bytes k.order n count
count_bytes k (Some shapes.CountedUleb) width count = uleb.spell (record { value = count; width = width })
count_bytes k s width count = []

-- a text has none
abbrev pub count_if : Ctx → Option Shape → Option ℕ → ℕ → List ℕ
count_if k s None count = []
count_if k s (Some width) count = count_bytes k s width count

-- of a partial value of which so many bytes are still to come: the form that it names, its length field, its bytes so
-- far
abbrev pub partial_taken : Ctx → List Pair → ℕ → PartialValue → List ℕ
partial_taken k ps to_come b =
    via_bytes b.via
    ++ (count_if k (shape (form_in (first_form ps) b.via) k.address_size k.format) b.width (length b.bytes + to_come)
    ++ b.bytes)

-- the pairs whose values are still to come
abbrev pub pairs_left : Table → Option UnfinishedEntry → List Pair
pairs_left t None = []
pairs_left t (Some r) = next_pairs t r

abbrev pub value_part : PartialUnit → Option PartialValue → List ℕ
value_part g None = via_bytes g.named
value_part g (Some b) = partial_taken (context_of g.header) (pairs_left g.table g.place.unfinished) g.to_come b

-- what was taken of the field at the place
abbrev pub part : PartialUnit → List ℕ
part g = value_part g (partial_in g.place.unfinished) ++ g.pending

-- what was taken before it, and the header's bytes
abbrev pub before : PartialUnit → List ℕ
before g =
    header_bytes g.header g.unit_length
    ++ place_bytes (context_of g.header) g.table g.place.spot.above g.place.spot.left g.place.unfinished g.padding

-- all of it
abbrev pub stream : PartialUnit → List ℕ
stream g = before g ++ part g

-- ---- what the calls say

-- the bytes break at this fault, over the table that was handed in; the versions are the fewest that accept the header
abbrev pub BreaksAt : PartialUnit → List ℕ → Fault → Type 0
BreaksAt g bytes f =
    (f.section ≡ Info) × UnitBreaksUnder (versions_for g.header.kind) g.header.order g.table bytes f.offset f.reason

-- the input's end cuts the bytes off
abbrev pub IsCutOff : PartialUnit → List ℕ → Type 0
IsCutOff g bytes =
    (offset : ℕ) × UnitBreaksUnder (versions_for g.header.kind) g.header.order g.table bytes offset Truncated

-- it cuts them off without their last byte, so no fewer bytes are a unit, or have another break
abbrev pub StandsFirst : PartialUnit → List ℕ → Type 0
StandsFirst g bytes = (front : List ℕ) (b : ℕ) → bytes ≡ front ++ b ∷ [] → IsCutOff g front

-- the same unit is taken
abbrev pub SameUnit : PartialUnit → PartialUnit → Type 0
SameUnit g g' = (g'.header ≡ g.header) × (g'.unit_length ≡ g.unit_length) × (g'.table ≡ g.table)

-- More: the whole piece was taken, and the input's end would cut off what was taken.
pub record SaysMore (g : PartialUnit) (piece : List ℕ) (n : ℕ) (g' : PartialUnit) : Type 0 where
  pub all : n ≡ length piece
  pub same : SameUnit g g'
  pub longer : stream g' ≡ stream g ++ piece
  pub cut : IsCutOff g (stream g')

-- Done: what was taken is the unit, over the table that was handed in, and with a byte less it was none.
pub record SaysDone (g : PartialUnit) (piece : List ℕ) (n : ℕ) (u : WholeUnit) : Type 0 where
  pub within : n ≤ length piece
  pub header_is : u.header ≡ g.header
  pub table_is : u.table ≡ g.table
  pub fits : UnitFits u
  pub whole : stream g ++ take n piece ≡ bytes_of u
  pub first : StandsFirst g (stream g ++ take n piece)

-- Fault: what was taken has that break, which no more bytes would mend, and with a byte less it didn't have it.
pub record SaysFault (g : PartialUnit) (piece : List ℕ) (n : ℕ) (f : Fault) : Type 0 where
  pub within : n ≤ length piece
  pub breaks : BreaksAt g (stream g ++ take n piece) f
  pub for_good : f.reason ≢ Truncated
  pub first : StandsFirst g (stream g ++ take n piece)

-- One call with a piece: how many bytes of it were taken, what was answered, and the feed after it. A fault is answered
-- again and again, and so is that nothing is left to do; then no byte is taken, and none where a growth was refused.
abbrev pub FeedsBody : BodyFeed → List ℕ → ℕ → Progress WholeUnit → BodyFeed → Type 0
FeedsBody (Reading g) piece n answers.More (Reading g') = SaysMore g piece n g'
FeedsBody (Reading g) piece n (answers.Done u) Finished = SaysDone g piece n u
FeedsBody (Reading g) piece n (answers.Fault f) (Refused f') = (f' ≡ f) × SaysFault g piece n f
FeedsBody (Reading g) piece n answers.NoMemory Finished = n ≡ 0
FeedsBody (Refused f) piece n (answers.Fault f') (Refused f'') = (n ≡ 0) × (f' ≡ f) × (f'' ≡ f)
FeedsBody Finished piece n answers.Spent Finished = n ≡ 0
FeedsBody old piece n answer new = ⊥

-- The end of the input: the break of what was taken, the fault that was answered, or nothing.
abbrev pub EndsBody : BodyFeed → Option Fault → Type 0
EndsBody (Reading g) (Some f) = BreaksAt g (stream g) f
EndsBody (Refused f) (Some f') = f' ≡ f
EndsBody Finished None = Unit {0}
EndsBody feed answer = ⊥
