-- The laws of units, over a table and over a section.
use Rattle.std.proofs.Common.{◌⊎◌, ◌≡◌, ◌≢◌, ◌++◌, ◌∷◌, [], ℕ, List, length, take, refl, sym, ap, subst, ◌∙◌, append-nil, arith, inl, inr}
use Rattle.std.proofs.lemmas.List.{length-append, take_at}
use Rattle.dw_leb.specs.declared.errors.Reason.{Reason}
use Rattle.dw_leb.specs.declared.errors.Reason.TheVariants.{Truncated}
use Rattle.dw_leb.specs.declared.errors.SectionId.{SectionId}
use Rattle.dw_leb.specs.declared.errors.SectionId.TheVariants.{Info, Abbrev}
use Rattle.dw_leb.specs.declared.order.Order.{Order}
use Rattle.dw_leb.specs.Reader.{Outcome, Found, Broken}
use Rattle.dw_leb.specs.Decide.{found_value, broken_value, found_broken}
use Rattle.dw_abbrev.specs.Table.{Table, TableAt}
use Rattle.dw_header.specs.declared.versions.Versions.{Versions}
use Rattle.dw_header.specs.Header.{Header, Accepts, versions_for}
use Rattle.dw_header.specs.FittingHeaders.{accepted}
use Rattle.dw_header.specs.HeaderPlace.{HeaderAtUnder, HeaderBreaksUnder}
use Rattle.dw_header.specs.Laws.{one_header, no_header_and_break, headers_stay, spelled_where_accepted, headers_stand_where_accepted}
use Rattle.dw_unit.specs.Unit.{WholeUnit, body_bytes, bytes_of, UnitFits, UnitFrontUnder, BodyBreaksUnder, UnitBreaksUnder, UnitAtUnder, FailsUnder}
use Rattle.dw_unit.specs.ReadUnit.{Answer, Unit, Fault, read_over, read_unit_under}
use Rattle.dw_unit.specs.DecideUnit.{OverSays, over_take, over_fault, over_says, unit_header, unit_take, unit_fault, unit_says, AnswerSays, break_fails, front_stays, break_stays}
use Rattle.dw_unit.specs.Laws.{OneUnitOverUnder, OneBreakUnder, NotUnitAndBreakUnder, UnitOrBreakUnder, FrontsAreCutUnder, OneUnitUnder, OneFaultUnder, NotBothUnder, SomeAnswerUnder, FrontsAreTruncatedUnder, WrittenIsRead, WrittenIsReadUnder, ReadIsWrittenUnder, UnitsAreAccepted, UnitsStandWhereAccepted, UnitsBreakWhereAccepted, UnitsFailWhereAccepted}

-- ---- over a table

pub one_unit_over : (versions : Versions) → OneUnitOverUnder versions
one_unit_over versions order bytes u v m n is h g =
    found_value u v m n
    (sym (over_take versions order bytes u m h) ∙ ap (λ (t : Table). read_over versions order t bytes) is
    ∙ over_take versions order bytes v n g)

pub one_break : (versions : Versions) → OneBreakUnder versions
one_break versions order t bytes m n r q h g =
    broken_value WholeUnit m n r q
    (sym (over_fault versions order t bytes m r h) ∙ over_fault versions order t bytes n q g)

pub not_unit_and_break : (versions : Versions) → NotUnitAndBreakUnder versions
not_unit_and_break versions order bytes u size offset reason h g =
    found_broken WholeUnit u size offset reason
    (sym (over_take versions order bytes u size h) ∙ over_fault versions order u.table bytes offset reason g)

unit_or_break_by : (versions : Versions) (order : Order) (t : Table) (bytes : List ℕ) (o : Outcome WholeUnit)
    → OverSays versions order t bytes o
    → ((u : WholeUnit) × (size : ℕ) × (u.table ≡ t) × UnitFrontUnder versions order bytes u size)
    ⊎ ((offset : ℕ) × (reason : Reason) × UnitBreaksUnder versions order t bytes offset reason)
unit_or_break_by versions order t bytes (Found u size) h = inl (u, size, h.0, h.1)
unit_or_break_by versions order t bytes (Broken offset reason) h = inr (offset, reason, h)

pub unit_or_break : (versions : Versions) → UnitOrBreakUnder versions
unit_or_break versions order t bytes fit =
    unit_or_break_by versions order t bytes (read_over versions order t bytes) (over_says versions order t bytes fit)

is_truncated : (r : Reason) → (r ≡ Truncated) ⊎ (r ≢ Truncated)
is_truncated Truncated = inl refl
is_truncated _ = inr (λ e. cc)

-- no outcome but Truncated is left for a front
front_cut : (versions : Versions) (u : WholeUnit) (front : List ℕ) (b : ℕ) (more : List ℕ)
    → UnitFrontUnder versions u.header.order (front ++ b ∷ more) u (length (front ++ b ∷ more))
    → (o : Outcome WholeUnit)
    → OverSays versions u.header.order u.table front o
    → (offset : ℕ) × UnitBreaksUnder versions u.header.order u.table front offset Truncated
front_cut versions u front b more whole (Found v size) h =
    let same =
    one_unit_over versions u.header.order (front ++ b ∷ more) v u size (length (front ++ b ∷ more)) h.0
    (front_stays versions u.header.order front (b ∷ more) v size h.1) whole in
    absurd
    (omega (
      arith,
      same.1,
      h.1.is_size,
      length-append front (b ∷ more),
      ap length h.1.split,
      length-append (bytes_of v) h.1.rest,
    ))
front_cut versions u front b more whole (Broken n r) h = elim (is_truncated r) [
  | inl e ↦ (n, subst (λ (q : Reason). UnitBreaksUnder versions u.header.order u.table front n q) e h)
  | inr ne ↦ absurd
      (not_unit_and_break versions u.header.order (front ++ b ∷ more) u (length (front ++ b ∷ more)) n r whole
      (break_stays versions u.header.order u.table front (b ∷ more) n r ne h))
]

whole_front : (versions : Versions) (u : WholeUnit) (bytes : List ℕ) → Accepts versions u.header.kind → UnitFits u
    → bytes_of u ≡ bytes → UnitFrontUnder versions u.header.order bytes u (length bytes)
whole_front versions u bytes accepts fits is =
    record {
      order_is = refl;
      accepted = accepts;
      fits = fits;
      rest = [];
      split = sym is ∙ sym (append-nil (bytes_of u));
      is_size = ap length is;
    }

pub fronts_are_cut : (versions : Versions) → FrontsAreCutUnder versions
fronts_are_cut versions u front b more fit accepts fits is =
    front_cut versions u front b more (whole_front versions u (front ++ b ∷ more) accepts fits is)
    (read_over versions u.header.order u.table front) (over_says versions u.header.order u.table front fit)

-- ---- over a section

same_answer : (u v : WholeUnit) (m n : ℕ) → Unit u m ≡ Unit v n → (u ≡ v) × (m ≡ n)
same_answer u v m n e = (cc, cc)

same_fault : (s z : SectionId) (m n : ℕ) (r q : Reason) → Fault s m r ≡ Fault z n q → (s ≡ z) × (m ≡ n) × (r ≡ q)
same_fault s z m n r q e = (cc, cc, cc)

apart : (u : WholeUnit) (size : ℕ) (s : SectionId) (n : ℕ) (r : Reason) → Unit u size ≡ Fault s n r → ⊥
apart u size s n r e = cc

pub one_unit : (versions : Versions) → OneUnitUnder versions
one_unit versions abbreviations order bytes u v m n h g =
    same_answer u v m n
    (sym (unit_take versions abbreviations order bytes u m h) ∙ unit_take versions abbreviations order bytes v n g)

pub one_fault : (versions : Versions) → OneFaultUnder versions
one_fault versions order abbreviations bytes s z m n r q h g =
    same_fault s z m n r q
    (sym (unit_fault versions order abbreviations bytes s m r h)
    ∙ unit_fault versions order abbreviations bytes z n q g)

pub not_both : (versions : Versions) → NotBothUnder versions
not_both versions abbreviations order bytes u size s n r h g =
    apart u size s n r
    (sym (unit_take versions abbreviations order bytes u size h)
    ∙ unit_fault versions order abbreviations bytes s n r g)

some_answer_by : (versions : Versions) (order : Order) (abbreviations bytes : List ℕ) (a : Answer)
    → AnswerSays versions order abbreviations bytes a
    → ((u : WholeUnit) × (size : ℕ) × UnitAtUnder versions abbreviations order bytes u size)
    ⊎ ((s : SectionId) × (n : ℕ) × (r : Reason) × FailsUnder versions order abbreviations bytes s n r)
some_answer_by versions order abbreviations bytes (Unit u size) h = inl (u, size, h)
some_answer_by versions order abbreviations bytes (Fault s n r) h = inr (s, n, r, h)

pub some_answer : (versions : Versions) → SomeAnswerUnder versions
some_answer versions order abbreviations bytes fit_s fit =
    some_answer_by versions order abbreviations bytes (read_unit_under versions order abbreviations bytes)
    (unit_says versions order abbreviations bytes fit_s fit)

-- the header that is spelled in a front is the unit's
truncated_by : (versions : Versions) (abbreviations : List ℕ) (u : WholeUnit) (front tail : List ℕ) (size : ℕ)
    → UnitFrontUnder versions u.header.order (front ++ tail) u size
    → TableAt abbreviations u.header.abbrev_offset u.table
    → (offset : ℕ) (reason : Reason) → UnitBreaksUnder versions u.header.order u.table front offset reason
    → FailsUnder versions u.header.order abbreviations front Info offset reason
truncated_by versions abbreviations u front tail size whole place offset reason (inl one) = inl one
truncated_by versions abbreviations u front tail size whole place offset reason (inr b) =
    let same =
    one_header versions u.header.order (front ++ tail) u.header b.header (length (body_bytes u)) b.count
    (unit_header versions u.header.order (front ++ tail) u size whole)
    (headers_stay versions u.header.order front tail b.header b.count b.stands) in
    break_fails versions u.header.order abbreviations front b.header b.count b.stands u.table
    (subst (λ (g : Header). TableAt abbreviations g.abbrev_offset u.table) same.0 place) offset reason (inr b)

pub fronts_are_truncated : (versions : Versions) → FrontsAreTruncatedUnder versions
fronts_are_truncated versions abbreviations u front b more fit accepts place fits is =
    let whole = whole_front versions u (front ++ b ∷ more) accepts fits is in
    let cut =
    front_cut versions u front b more whole (read_over versions u.header.order u.table front)
    (over_says versions u.header.order u.table front fit) in (
      cut.0,
      truncated_by versions abbreviations u front (b ∷ more) (length (front ++ b ∷ more)) whole place cut.0 Truncated
          cut.1,
    )

-- ---- other versions

pub units_are_accepted : UnitsAreAccepted
units_are_accepted versions abbreviations order bytes u size h = h.front.accepted

pub units_stand_where_accepted : UnitsStandWhereAccepted
units_stand_where_accepted versions others abbreviations order bytes u size h accepts = record {
  table_at = h.table_at;
  front =
      record {
        order_is = h.front.order_is;
        accepted = accepts;
        fits = h.front.fits;
        rest = h.front.rest;
        split = h.front.split;
        is_size = h.front.is_size;
      };
}

module _ (versions others : Versions) (order : Order) (bytes : List ℕ) (h : Header) (n : ℕ)
    (stands : HeaderAtUnder versions order bytes h n) (accepts : Accepts others h.kind) where
  accepts_too : (g : Header) (m : ℕ) → HeaderAtUnder versions order bytes g m → Accepts others g.kind
  accepts_too g m there =
      subst (λ (x : Header). Accepts others x.kind) (one_header versions order bytes h g n m stands there).0 accepts

  body_where_accepted : (IsTable : ℕ → Table → Type 0) (offset : ℕ) (reason : Reason)
      → BodyBreaksUnder versions order IsTable bytes offset reason
      → BodyBreaksUnder others order IsTable bytes offset reason
  body_where_accepted IsTable offset reason b = record {
    header = b.header;
    count = b.count;
    stands = (
      b.stands.0,
      b.stands.1,
      spelled_where_accepted versions others order bytes b.header b.count b.stands.1
          (accepts_too b.header b.count b.stands) b.stands.2,
    );
    table = b.table;
    is_table = b.is_table;
    own = b.own;
    sum = b.sum;
    breaks = b.breaks;
  }

  header_never_breaks : (offset : ℕ) (reason : Reason) → HeaderBreaksUnder versions order bytes offset reason
      → HeaderBreaksUnder others order bytes offset reason
  header_never_breaks offset reason one = absurd (no_header_and_break versions order bytes h n offset reason stands one)

pub units_break_where_accepted : UnitsBreakWhereAccepted
units_break_where_accepted versions others order t bytes h n stands accepts offset reason (inl one) =
    inl (header_never_breaks versions others order bytes h n stands accepts offset reason one)
units_break_where_accepted versions others order t bytes h n stands accepts offset reason (inr two) =
    inr (body_where_accepted versions others order bytes h n stands accepts (λ _ s. s ≡ t) offset reason two)

pub units_fail_where_accepted : UnitsFailWhereAccepted
units_fail_where_accepted versions others order abbreviations bytes h n stands accepts Info offset reason (inl one) =
    inl (header_never_breaks versions others order bytes h n stands accepts offset reason one)
units_fail_where_accepted versions others order abbreviations bytes h n stands accepts Info offset reason (inr two) =
    inr (body_where_accepted versions others order bytes h n stands accepts (TableAt abbreviations) offset reason two)
units_fail_where_accepted versions others order abbreviations bytes h n stands accepts Abbrev offset reason
    (g, m, there, breaks) = (
      g,
      m,
      headers_stand_where_accepted versions others order bytes g m there
          (accepts_too versions others order bytes h n stands accepts g m there),
      breaks,
    )

-- ---- the round trip

pub written_is_read_under : (versions : Versions) → WrittenIsReadUnder versions
written_is_read_under versions abbreviations rest u accepts fits place =
    let order = u.header.order in
    let bytes = bytes_of u ++ rest in
    let there : UnitAtUnder versions abbreviations order bytes u (length (bytes_of u)) =
    record {
      table_at = place;
      front = record
          { order_is = refl; accepted = accepts; fits = fits; rest = rest; split = refl; is_size = refl };
    } in
    record {
      there = there;
      only = λ v n h. one_unit versions abbreviations order bytes v u n (length (bytes_of u)) h there;
      no_fault =
          λ s offset reason h.
          not_both versions abbreviations order bytes u (length (bytes_of u)) s offset reason there h;
    }

pub written_is_read : WrittenIsRead
written_is_read abbreviations rest u fits place =
    written_is_read_under (versions_for u.header.kind) abbreviations rest u (accepted u.header.kind) fits place

pub read_is_written : (versions : Versions) → ReadIsWrittenUnder versions
read_is_written versions abbreviations order bytes u size h =
    ap (take size) h.front.split ∙ take_at (bytes_of u) h.front.rest size h.front.is_size
