-- Items whose units come from feeds. `left` is all that the input has from the item's first byte on: what was taken of
-- it, and what is still to come. What a feed says of the bytes that it took becomes a step of `SoFar`.
use Rattle.std.proofs.Common.{◌≡◌, ◌≢◌, ℕ, ◌+◌, List, ◌++◌, length, take, refl, sym, ap, subst, ◌∙◌, inl, inr}
use Rattle.dw_leb.specs.declared.errors.Reason.{Reason}
use Rattle.dw_leb.specs.declared.errors.Reason.TheVariants.{Truncated}
use Rattle.dw_leb.specs.declared.errors.Fault.{Fault}
use Rattle.dw_leb.specs.declared.errors.SectionId.TheVariants.{Info, Abbrev}
use Rattle.dw_leb.specs.declared.order.Order.{Order}
use Rattle.dw_leb.specs.declared.order.Format.{Format}
use Rattle.dw_abbrev.specs.Table.{TableAt, TableBreaks}
use Rattle.dw_header.specs.declared.versions.Versions.{Versions}
use Rattle.dw_header.specs.Header.{Header, Accepts, versions_for}
use Rattle.dw_header.specs.HeaderPlace.{HeaderAtUnder, HeaderBreaksUnder, HeaderFaultUnder, header_bytes}
use Rattle.dw_header.specs.DecideHeader.{header_stays}
use Rattle.dw_header.specs.FittingHeaders.{accepted}
use Rattle.dw_header.specs.Laws.{spelled_headers_stand, headers_stand_where_accepted}
use Rattle.dw_unit.specs.Unit.{WholeUnit, bytes_of, UnitFrontUnder, UnitBreaksUnder, FailsUnder}
use Rattle.dw_unit.specs.DecideUnit.{break_stays, break_fails}
use Rattle.dw_unit.specs.UnitLaws.{units_break_where_accepted}
use Rattle.dw_feed.specs.HeadFeed.{IsHeader}
use Rattle.dw_feed.specs.BodyFeed.{PartialUnit, stream, BreaksAt, SaysDone, SaysFault}
use Rattle.dw_section.specs.Item.{Known, item_bytes, HoldsTable, ItemFits, IsKnown, ItemFails, HasInitialLength}
use Rattle.dw_section.specs.ItemPlace.{known_there}

-- ---- the header

-- a header that a feed took stands at the front
pub fed_header : (versions : Versions) (order : Order) (bytes more left : List ℕ) (h : Header) (n : ℕ)
    → IsHeader versions order bytes h n → left ≡ bytes ++ more → HeaderAtUnder versions order left h n
fed_header versions order bytes more left h n is split =
    let there : HeaderAtUnder versions h.order (header_bytes h n ++ more) h n =
    spelled_headers_stand versions h n more is.accepted is.fits in
    let same : header_bytes h n ++ more ≡ left = ap (λ (b : List ℕ). b ++ more) (sym is.all) ∙ sym split in
    subst (λ (o : Order). HeaderAtUnder versions o left h n) is.order_is
    (subst (λ (b : List ℕ). HeaderAtUnder versions h.order b h n) same there)

-- the fault of a unit that stands alone is the item's, moved
pub fault_there : (versions : Versions) (order : Order) (abbreviations : List ℕ) (start : ℕ) (left : List ℕ) (own : ℕ)
    (reason : Reason) → IsKnown versions order start left → FailsUnder versions order abbreviations left Info own reason
    → ItemFails versions order abbreviations start left Info (start + own) reason
fault_there versions order abbreviations start left own reason known fails = inr (inr (inr (known, (own, refl, fails))))

-- a fault of a header that a feed took bytes of
pub fed_header_fault : (versions : Versions) (order : Order) (abbreviations : List ℕ) (start : ℕ)
    (bytes more left : List ℕ) (f : Fault) → IsKnown versions order start left → HeaderFaultUnder versions order bytes f
    → f.reason ≢ Truncated → left ≡ bytes ++ more
    → ItemFails versions order abbreviations start left Info (start + f.offset) f.reason
fed_header_fault versions order abbreviations start bytes more left f known fails ne split =
    let breaks : HeaderBreaksUnder versions order left f.offset f.reason =
    subst (λ (b : List ℕ). HeaderBreaksUnder versions order b f.offset f.reason) (sym split)
    (header_stays versions order bytes more f.offset f.reason ne fails.1) in
    fault_there versions order abbreviations start left f.offset f.reason known (inl breaks)

-- the input ends in the header
pub ended_in_header : (versions : Versions) (order : Order) (abbreviations : List ℕ) (start : ℕ) (left : List ℕ)
    (f : Fault) → IsKnown versions order start left → HeaderFaultUnder versions order left f
    → ItemFails versions order abbreviations start left Info (start + f.offset) f.reason
ended_in_header versions order abbreviations start left f known fails =
    fault_there versions order abbreviations start left f.offset f.reason known (inl fails.1)

-- the table of a header at the front is broken
pub table_fault_there : (versions : Versions) (order : Order) (abbreviations : List ℕ) (start : ℕ) (left : List ℕ)
    (h : Header) (n offset : ℕ) (reason : Reason) → IsKnown versions order start left
    → HeaderAtUnder versions order left h n
    → TableBreaks abbreviations h.abbrev_offset offset reason
    → ItemFails versions order abbreviations start left Abbrev offset reason
table_fault_there versions order abbreviations start left h n offset reason known stands breaks =
    (known, (h, n, stands, breaks))

-- ---- what follows the header, over the table that stands at its offset

-- a unit that a feed took is an item
pub record FedUnit (versions : Versions) (order : Order) (abbreviations : List ℕ) (start : ℕ) (left : List ℕ)
    (u : WholeUnit) (more : List ℕ) : Type 0 where
  pub fits : ItemFits versions order start (Known u)
  pub place : HoldsTable abbreviations (Known u)
  pub split : left ≡ item_bytes (Known u) ++ more

pub fed_unit : (versions : Versions) (order : Order) (abbreviations : List ℕ) (start : ℕ) (left : List ℕ)
    (format : Format) (count : ℕ) (rest : List ℕ) (g : PartialUnit) (piece more : List ℕ) (n : ℕ) (u : WholeUnit)
    → HasInitialLength order start left format count rest → g.header.order ≡ order → Accepts versions g.header.kind
    → TableAt abbreviations g.header.abbrev_offset g.table
    → SaysDone g piece n u → left ≡ (stream g ++ take n piece) ++ more
    → FedUnit versions order abbreviations start left u more
fed_unit versions order abbreviations start left format count rest g piece more n u begins order_is accepts place says
    split =
    let whole : left ≡ bytes_of u ++ more = split ∙ ap (λ (b : List ℕ). b ++ more) says.whole in
    let front : UnitFrontUnder versions order left u (length (bytes_of u)) = record {
      order_is = ap (λ (h : Header). h.order) says.header_is ∙ order_is;
      accepted = subst (λ (h : Header). Accepts versions h.kind) (sym says.header_is) accepts;
      fits = says.fits;
      rest = more;
      split = whole;
      is_size = refl;
    } in
    record {
      fits = known_there versions order start left format count rest u (length (bytes_of u)) begins front;
      place =
          subst (λ (h : Header). TableAt abbreviations h.abbrev_offset u.table) (sym says.header_is)
          (rw says.table_is place);
      split = whole;
    }

-- a break over that table, judged under the fewest versions that accept the header, is the item's fault
break_there : (versions : Versions) (order : Order) (abbreviations : List ℕ) (start : ℕ) (left : List ℕ)
    (g : PartialUnit) (f : Fault) → IsKnown versions order start left → g.header.order ≡ order
    → HeaderAtUnder versions order left g.header g.unit_length
    → Accepts versions g.header.kind → TableAt abbreviations g.header.abbrev_offset g.table → BreaksAt g left f
    → ItemFails versions order abbreviations start left Info (start + f.offset) f.reason
break_there versions order abbreviations start left g f known order_is stands accepts place breaks =
    let own : Versions = versions_for g.header.kind in
    let there : HeaderAtUnder own order left g.header g.unit_length =
    headers_stand_where_accepted versions own order left g.header g.unit_length stands (accepted g.header.kind) in
    let alone : UnitBreaksUnder own order g.table left f.offset f.reason =
    subst (λ (o : Order). UnitBreaksUnder own o g.table left f.offset f.reason) order_is breaks.1 in
    let under : UnitBreaksUnder versions order g.table left f.offset f.reason =
    units_break_where_accepted own versions order g.table left g.header g.unit_length there accepts f.offset
    f.reason alone in
    fault_there versions order abbreviations start left f.offset f.reason known
    (break_fails versions order abbreviations left g.header g.unit_length stands g.table place f.offset f.reason
    under)

-- the fault of a feed
pub fed_fault : (versions : Versions) (order : Order) (abbreviations : List ℕ) (start : ℕ) (left : List ℕ)
    (g : PartialUnit) (piece more : List ℕ) (n : ℕ) (f : Fault) → IsKnown versions order start left
    → g.header.order ≡ order
    → HeaderAtUnder versions order left g.header g.unit_length → Accepts versions g.header.kind
    → TableAt abbreviations g.header.abbrev_offset g.table
    → SaysFault g piece n f → left ≡ (stream g ++ take n piece) ++ more
    → ItemFails versions order abbreviations start left Info (start + f.offset) f.reason
fed_fault versions order abbreviations start left g piece more n f known order_is stands accepts place says split =
    let own : Versions = versions_for g.header.kind in
    let stays : UnitBreaksUnder own g.header.order g.table ((stream g ++ take n piece) ++ more) f.offset f.reason =
    break_stays own g.header.order g.table (stream g ++ take n piece) more f.offset f.reason says.for_good
    says.breaks.1 in
    break_there versions order abbreviations start left g f known order_is stands accepts place (
      says.breaks.0,
      subst (λ (b : List ℕ). UnitBreaksUnder own g.header.order g.table b f.offset f.reason) (sym split) stays,
    )

-- the input ends before the unit does
pub ended_in_body : (versions : Versions) (order : Order) (abbreviations : List ℕ) (start : ℕ) (left : List ℕ)
    (g : PartialUnit) (f : Fault) → IsKnown versions order start left → g.header.order ≡ order
    → HeaderAtUnder versions order left g.header g.unit_length → Accepts versions g.header.kind
    → TableAt abbreviations g.header.abbrev_offset g.table
    → BreaksAt g (stream g) f → left ≡ stream g
    → ItemFails versions order abbreviations start left Info (start + f.offset) f.reason
ended_in_body versions order abbreviations start left g f known order_is stands accepts place breaks split =
    break_there versions order abbreviations start left g f known order_is stands accepts place
    (subst (λ (b : List ℕ). BreaksAt g b f) (sym split) breaks)
