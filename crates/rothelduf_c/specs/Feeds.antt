-- What C is told of a unit that it pushes in pieces (section 7.5).
use Rattle.std.specs.Prelude.{◌≡◌, ◌⊎◌, ◌≤◌, ◌+◌, ◌*◌, ◌^◌, ℕ, List, [], Option, Some, None}
use Rattle.dw_leb.specs.declared.errors.Fault.{Fault as TheFault}
use Rattle.dw_leb.specs.declared.errors.SectionId.TheVariants.{Abbrev}
use Rattle.dw_abbrev.specs.Table.{Table as TheTable, TableAt, TableBreaks}
use Rattle.dw_header.specs.Header.{Header}
use Rattle.dw_tree.specs.Tree.{nesting}
use Rattle.dw_unit.specs.Unit.{WholeUnit}
use Rattle.dw_feed.specs.HeadFeed as heads
use Rattle.dw_feed.specs.HeadFeed.{HeadFeed, FeedsHead, Ends, Wants, WantsExactly}
use Rattle.dw_feed.specs.BodyFeed.{BodyFeed, EndsBody, FeedsBody, Reading, started}
use Rattle.dw_feed.specs.declared.progress.Progress.{Progress}
use Rattle.dw_feed.specs.declared.progress.Progress.TheVariants.{More, Done, Fault, NoMemory, Spent}
use Rattle.dw_feed.specs.HeldCounts.{HeldCounts, held, nothing_held}
use Rattle.dw_feed.specs.HeldView.{taken_by}
use Rattle.dw_section.specs.Item.{Known}
use Rattle.dw_section.specs.Push.{or_memory, push_refusal, with_item}
use Rattle.dw_section.specs.Section.{WholeSection}
use Rattle.dw_section.specs.declared.refusal.SectionRefusal.{SectionRefusal}
use Rattle.dw_section.specs.declared.refusal.SectionRefusal.TheVariants as pushes
use Rattle.rothelduf_c.specs.Numbers.{push_number, reason_number, section_number}
use Rattle.rothelduf_c.specs.Status as status
use Rattle.rothelduf_c.specs.declared.feeding.Feeding.{Feeding}
use Rattle.rothelduf_c.specs.declared.feeding.Feeding.TheVariants.{Head, Table, Body, Whole}
use Rattle.rothelduf_c.specs.Headed.{Headed}
use Rattle.rothelduf_c.specs.declared.structs.CFault.{CFault}
use Rattle.rothelduf_c.specs.declared.structs.CHeld.{CHeld}

-- a fault as C is told of it
pub record IsTold (f : TheFault) (c : CFault) : Type 0 where
  pub section : c.section ≡ section_number f.section
  pub offset : c.offset ≡ f.offset
  pub reason : c.reason ≡ reason_number f.reason

-- an answer that isn't what a feed is about
abbrev pub Says : {X : Type 0} → Progress X → ℕ → CFault → Type 0
Says More s c = s ≡ status.MORE
Says (Done x) s c = ⊥
Says (Fault f) s c = (s ≡ status.FAULT) × IsTold f c
Says NoMemory s c = s ≡ status.NO_MEMORY
Says Spent s c = s ≡ status.SPENT

-- ---- the feed of a header, and that of a unit

abbrev pub HeadPushed : HeadFeed → List ℕ → ℕ → ℕ → CFault → Option Headed → HeadFeed → Type 0
HeadPushed old piece s n c None new = (p : Progress (Header × ℕ)) × FeedsHead old piece n p new × Says p s c
HeadPushed old piece s n c (Some x) new =
    (s ≡ status.HEADER) × FeedsHead old piece n (Done (x.header, x.unit_length)) new

abbrev pub BodyPushed : BodyFeed → List ℕ → ℕ → ℕ → CFault → Option WholeUnit → BodyFeed → Type 0
BodyPushed old piece s n c None new = (p : Progress WholeUnit) × FeedsBody old piece n p new × Says p s c
BodyPushed old piece s n c (Some u) new = (s ≡ status.UNIT) × FeedsBody old piece n (Done u) new

-- ---- a piece

-- Of a piece so many bytes are taken, and the answer is that of the feed that is at work. A header that came waits
-- for its table, and a unit to be taken: until then each is answered again, and no byte is taken.
abbrev pub IsPushed : Feeding → List ℕ → ℕ → ℕ → CFault → Feeding → Type 0
IsPushed (Head old) piece s n c (Head new) = HeadPushed old piece s n c None new
IsPushed (Head old) piece s n c (Table x) = (new : HeadFeed) × HeadPushed old piece s n c (Some x) new
IsPushed (Table x) piece s n c (Table y) = (s ≡ status.HEADER) × (n ≡ 0) × (y ≡ x)
IsPushed (Body old) piece s n c (Body new) = BodyPushed old piece s n c None new
IsPushed (Body old) piece s n c (Whole u) = (new : BodyFeed) × BodyPushed old piece s n c (Some u) new
IsPushed (Whole u) piece s n c (Whole v) = (s ≡ status.UNIT) × (n ≡ 0) × (v ≡ u)
IsPushed old piece s n c new = ⊥

-- ---- a table

-- the first fault of the table at an offset is told
abbrev pub IsTableFault : List ℕ → ℕ → CFault → Type 0
IsTableFault abbreviations offset c =
    (f : TheFault) × (f.section ≡ Abbrev) × TableBreaks abbreviations offset f.offset f.reason × IsTold f c

-- The table that the header names is read, and then what follows the header is fed over it; else its fault is told,
-- or that memory was refused, and the header waits still. Where none waits there is nothing to do.
abbrev pub IsTabled : Feeding → List ℕ → ℕ → CFault → Feeding → Type 0
IsTabled (Table x) abbreviations s c (Body new) = (s ≡ status.OK)
    × ((t : TheTable) × TableAt abbreviations x.header.abbrev_offset t
    × (new ≡ Reading (started x.header x.unit_length t)))
IsTabled (Table x) abbreviations s c (Table y) = (y ≡ x)
    × (((s ≡ status.FAULT) × IsTableFault abbreviations x.header.abbrev_offset c) ⊎ (s ≡ status.NO_MEMORY))
IsTabled (Head old) abbreviations s c (Head new) = (s ≡ status.NOTHING) × (new ≡ old)
IsTabled (Body old) abbreviations s c (Body new) = (s ≡ status.NOTHING) × (new ≡ old)
IsTabled (Whole old) abbreviations s c (Whole new) = (s ≡ status.NOTHING) × (new ≡ old)
IsTabled old abbreviations s c new = ⊥

-- ---- the end, and what a feed wants

abbrev pub SaysEnd : Option TheFault → ℕ → CFault → Type 0
SaysEnd None s c = s ≡ status.OK
SaysEnd (Some f) s c = (s ≡ status.FAULT) × IsTold f c

-- Where the input ends, what is missing is told, or the fault that was answered before; that a header waits for its
-- table; that a unit waits to be taken; or nothing.
abbrev pub IsEnded : Feeding → ℕ → CFault → Type 0
IsEnded (Head h) s c = (o : Option TheFault) × Ends h.versions h.order h.state o × SaysEnd o s c
IsEnded (Table x) s c = s ≡ status.HEADER
IsEnded (Body b) s c = (o : Option TheFault) × EndsBody b o × SaysEnd o s c
IsEnded (Whole u) s c = s ≡ status.UNIT

-- so many bytes are needed of a header at the least, which are those that its next field lacks; of all else that isn't
-- told
abbrev pub IsWanted : Feeding → ℕ → Type 0
IsWanted (Head h) n = Wants h.versions h.order h.state n × WantsExactly h.versions h.state n
IsWanted (Table x) n = n ≡ 0
IsWanted (Body b) n = n ≡ 0
IsWanted (Whole u) n = n ≡ 0

-- what is held of a unit behind its header; nothing of all else
abbrev pub held_in : Feeding → HeldCounts
held_in (Head h) = nothing_held
held_in (Table x) = nothing_held
held_in (Body b) = held b
held_in (Whole u) = nothing_held

-- how many bytes were pushed of a unit behind its header
abbrev pub pushed_in : Feeding → ℕ
pushed_in (Head h) = 0
pushed_in (Table x) = 0
pushed_in (Body b) = taken_by b
pushed_in (Whole u) = 0

-- What C is told of what is held of a unit of which so many bytes were pushed behind its header: at most 16 bytes of a
-- number or a length field, at most as many nested entries as there are levels (4,096), no more entries and no more bytes of texts and blocks than
-- were pushed, and at most 1,024 values for each entry.
pub record IsHeldWithin (pushed : ℕ) (h : CHeld) : Type 0 where
  pub pending : h.pending ≤ 16
  pub nested : h.nested ≤ nesting
  pub entries : h.entries ≤ pushed
  pub pool : h.pool ≤ pushed
  pub values : h.values + 2 ^ 64 * h.values_high ≤ 1024 * h.entries

-- ---- a unit that is taken

abbrev pub SaysRefusal : SectionRefusal → ℕ → ℕ → Type 0
SaysRefusal pushes.NoMemory s w = s ≡ status.NO_MEMORY
SaysRefusal pushes.WrongOrder s w = (s ≡ status.REFUSED) × (w ≡ push_number pushes.WrongOrder)
SaysRefusal pushes.WrongVersion s w = (s ≡ status.REFUSED) × (w ≡ push_number pushes.WrongVersion)
SaysRefusal pushes.TooLong s w = (s ≡ status.REFUSED) × (w ≡ push_number pushes.TooLong)

-- The unit goes behind the items of the section, and the feed begins with the next header; or it is refused, and
-- both are as they were. Where no unit came there is nothing to do.
abbrev pub IsTaken : Feeding → WholeSection → ℕ → ℕ → Feeding → WholeSection → Type 0
IsTaken (Whole u) x s w (Head h) y = (s ≡ status.OK) × (push_refusal x u ≡ None) × (y ≡ with_item x (Known u))
    × (h ≡ record { order = x.order; versions = x.versions; state = heads.Reading [] })
IsTaken (Whole u) x s w (Whole v) y = (v ≡ u) × (y ≡ x) × SaysRefusal (or_memory (push_refusal x u)) s w
IsTaken (Head old) x s w (Head new) y = (s ≡ status.NOTHING) × (new ≡ old) × (y ≡ x)
IsTaken (Table old) x s w (Table new) y = (s ≡ status.NOTHING) × (new ≡ old) × (y ≡ x)
IsTaken (Body old) x s w (Body new) y = (s ≡ status.NOTHING) × (new ≡ old) × (y ≡ x)
IsTaken old x s w new y = ⊥
