-- A feed of a header, as its callers see it, and what each of its calls answers.
use Rattle.std.specs.Prelude.{◌≡◌, ◌≢◌, ℕ, ◌+◌, ◌-◌, ◌≤◌, ◌<◌, List, [], ◌∷◌, ◌++◌, length, take, nat_lt, if◌then◌else◌, Option, Some, None, ◌⊎◌}
use Rattle.dw_leb.specs.declared.errors.Reason.TheVariants.{Truncated}
use Rattle.dw_leb.specs.declared.errors.Fault.{Fault as TheFault}
use Rattle.dw_leb.specs.declared.order.Order.{Order}
use Rattle.dw_header.specs.declared.versions.Versions.{Versions}
use Rattle.dw_header.specs.declared.versions.Versions.TheVariants.{Five, FourAndFive}
use Rattle.dw_header.specs.Header.{Header, Accepts}
use Rattle.dw_header.specs.HeaderPlace.{HeaderFaultUnder, header_bytes}
use Rattle.dw_header.specs.Laws.{HasHeaderBytes}
use Rattle.dw_feed.specs.declared.progress.Progress.{Progress}
use Rattle.dw_feed.specs.declared.progress.Progress.TheVariants.{More, Done, Fault, NoMemory, Spent}
use Rattle.dw_feed.specs.HeaderCut.{IsCut}
use Rattle.dw_feed.specs.Feed.{escape}

-- What was answered so far: nothing yet, and these bytes were taken; a fault; or the header.
pub data HeadState : Type 0 where
  Reading : List ℕ → HeadState
  Refused : TheFault → HeadState
  Finished : HeadState

-- what a feed took that was not answered yet
abbrev pub taken_of : HeadState → List ℕ
taken_of (Reading taken) = taken
taken_of (Refused f) = []
taken_of Finished = []

pub record HeadFeed : Type 0 where
  pub order : Order
  pub versions : Versions
  pub state : HeadState

-- a header with its unit_length, both of this order and these versions, and no byte more
pub record IsHeader (versions : Versions) (order : Order) (bytes : List ℕ) (h : Header) (n : ℕ) : Type 0 where
  pub order_is : h.order ≡ order
  pub accepted : Accepts versions h.kind
  pub fits : HasHeaderBytes h n
  pub all : bytes ≡ header_bytes h n

-- Without their last byte the bytes are cut off. So no fewer bytes are a header, or have another break.
abbrev pub IsFirst : Versions → Order → List ℕ → Type 0
IsFirst versions order bytes = (front : List ℕ) (b : ℕ) → bytes ≡ front ++ b ∷ [] → IsCut versions order front

-- What a call answers that is handed a piece, and takes n bytes of it. All bytes that were taken, in all calls, are
-- called the stream. While more is needed the whole piece was taken, and the stream is cut off. A header is the whole
-- stream, and a fault is the stream's, and both are answered with the first byte that shows them. After a fault the
-- fault is answered again, after a header that there is no more, and nothing is taken.
abbrev pub Answers : Versions → Order → HeadState → List ℕ → ℕ → Progress (Header × ℕ) → HeadState → Type 0
Answers versions order (Reading old) piece n More (Reading new) =
    (n ≡ length piece) × (new ≡ old ++ piece) × IsCut versions order new
Answers versions order (Reading old) piece n (Done x) Finished =
    (n ≤ length piece) × IsHeader versions order (old ++ take n piece) x.0 x.1
    × IsFirst versions order (old ++ take n piece)
Answers versions order (Reading old) piece n (Fault f) (Refused g) =
    (n ≤ length piece) × (g ≡ f) × HeaderFaultUnder versions order (old ++ take n piece) f × (f.reason ≢ Truncated)
    × IsFirst versions order (old ++ take n piece)
Answers versions order (Refused f) piece n (Fault g) (Refused h) = (n ≡ 0) × (g ≡ f) × (h ≡ f)
Answers versions order Finished piece n Spent Finished = n ≡ 0
Answers versions order old piece n answer new = ⊥

-- what is said of that which is answered, where it is
abbrev pub IfDone : {X : Type 0} → (X → Type 0) → Progress X → Type 0
IfDone P (Done x) = P x
IfDone P More = Unit {0}
IfDone P (Fault f) = Unit {0}
IfDone P NoMemory = Unit {0}
IfDone P Spent = Unit {0}

-- the feed stays one of the same headers
pub record FeedsHead (old : HeadFeed) (piece : List ℕ) (n : ℕ) (answer : Progress (Header × ℕ)) (new : HeadFeed)
    : Type 0 where
  pub order_is : new.order ≡ old.order
  pub versions_is : new.versions ≡ old.versions
  pub answers : Answers old.versions old.order old.state piece n answer new.state

-- Where the input ends, the stream is cut off there; a fault that was answered is answered again.
abbrev pub Ends : Versions → Order → HeadState → Option TheFault → Type 0
Ends versions order (Reading taken) (Some f) = HeaderFaultUnder versions order taken f × (f.reason ≡ Truncated)
Ends versions order (Refused f) (Some g) = g ≡ f
Ends versions order Finished None = Unit {0}
Ends versions order state answer = ⊥

-- How many bytes are needed at the least: with fewer the stream is cut off. After an answer no more are.
abbrev pub Wants : Versions → Order → HeadState → ℕ → Type 0
Wants versions order (Reading taken) n =
    (0 < n) × ((piece : List ℕ) → length piece < n → IsCut versions order (taken ++ piece))
Wants versions order (Refused f) n = n ≡ 0
Wants versions order Finished n = n ≡ 0

-- ---- how they are counted

-- a length field that begins so, and the offsets behind it, have so many bytes: four, or twelve and eight behind ff ff
-- ff ff
abbrev pub AreSizes : List ℕ → ℕ → ℕ → Type 0
AreSizes taken size offset =
    ((size ≡ 4) × (offset ≡ 4) × ((length taken < 4) ⊎ (take 4 taken ≢ escape)))
    ⊎ ((size ≡ 12) × (offset ≡ 8) × (4 ≤ length taken) × (take 4 taken ≡ escape))

-- Of the field of a header that comes next, behind so many bytes of its fields, so many are lacking at the least: of
-- the version; of the offset of the table, and of the one or two numbers that a kind of version 5 adds; or one.
abbrev pub FieldLacks : Versions → ℕ → ℕ → ℕ → Type 0
FieldLacks versions offset count n =
    (count + n ≡ 2)
    ⊎ (n ≡ 1)
    ⊎ ((versions ≡ Five) × (4 ≤ count)
    × ((count + n ≡ 4 + offset) ⊎ ((4 + offset ≤ count) × (count + n ≡ 12 + offset))
    ⊎ ((12 + offset ≤ count) × (count + n ≡ 12 + offset + offset))))

-- Where the fields of a header end, counted from behind its length field (section 7.5.1): of version 5 the version, the
-- unit_type, the address_size, the debug_abbrev_offset, and one or two numbers that a kind adds. Where version 4 is read
-- too, whose fields come in another order, only where the version ends.
abbrev pub field_ends : Versions → ℕ → List ℕ
field_ends Five offset = 2 ∷ 3 ∷ 4 ∷ (4 + offset) ∷ (12 + offset) ∷ (12 + offset + offset) ∷ []
field_ends FourAndFive offset = 2 ∷ []

-- from so many bytes on to the first of these ends that is past them; one where none is
abbrev pub to_end : List ℕ → ℕ → ℕ
to_end [] count = 1
to_end (end ∷ ends) count = if nat_lt count end then end - count else to_end ends count

-- the rest of the length field, or of the field behind it that comes next
abbrev pub IsLacking : Versions → List ℕ → ℕ → Type 0
IsLacking versions taken n =
    (size : ℕ) × (offset : ℕ) × AreSizes taken size offset
    × (n ≡ (if nat_lt (length taken) size then size - length taken
    else to_end (field_ends versions offset) (length taken - size)))

-- what is lacking of the field that comes next, and nothing after an answer
abbrev pub WantsExactly : Versions → HeadState → ℕ → Type 0
WantsExactly versions (Reading taken) n = IsLacking versions taken n
WantsExactly versions (Refused f) n = n ≡ 0
WantsExactly versions Finished n = n ≡ 0

-- of the length field, or of a field behind it
abbrev pub Lacks : Versions → List ℕ → ℕ → Type 0
Lacks versions taken n =
    (size : ℕ) × (offset : ℕ) × AreSizes taken size offset
    × ((length taken + n ≡ size) ⊎ ((size ≤ length taken) × FieldLacks versions offset (length taken - size) n))
