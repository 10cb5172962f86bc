-- Headers with their initial lengths: the plain reader takes what is spelled and breaks where they break. The laws
-- that follow.
use Rattle.std.specs.Prelude.{◌≡◌, ◌≢◌, ℕ, ◌+◌, ◌≤◌, ◌<◌, List, ◌++◌, length, drop, ◌⊎◌}
use Rattle.std.proofs.Common.{refl, sym, ap, subst, ◌∙◌, append_assoc, inl, inr}
use Rattle.std.specs.List.{AllByRecursion}
use Rattle.std.proofs.lemmas.List.{drop_at}
use Rattle.dw_leb.specs.declared.errors.Reason.{Reason}
use Rattle.dw_leb.specs.declared.errors.Reason.TheVariants.{Truncated}
use Rattle.dw_leb.specs.declared.order.Order.{Order}
use Rattle.dw_leb.specs.declared.order.Format.{Format}
use Rattle.dw_leb.specs.Number.{length_field, initial_length, length_limit}
use Rattle.dw_leb.specs.Reader.{Outcome, Found, Broken}
use Rattle.dw_leb.specs.Decide.{found, broken, found_value}
use Rattle.dw_leb.specs.DecideNumber.{initial_length_decides, initial_within}
use Rattle.dw_header.specs.declared.versions.Versions.{Versions}
use Rattle.dw_header.specs.declared.versions.Versions.TheVariants.{Five, FourAndFive}
use Rattle.dw_header.specs.Header.{Header, HeaderFits, Accepts, fields, fields_of}
use Rattle.dw_header.specs.FittingHeaders.{fields_fit, header_fits, header_accepted}
use Rattle.dw_header.specs.HeaderPlace.{SpelledHeaderUnder, HeaderBreaksUnder, HeaderAtUnder, header_bytes}
use Rattle.dw_header.specs.ReadHeader.{read_fields, header_from, Heading, head_fields, head_length, read_head}
use Rattle.dw_header.specs.DecideHeader.{fields_decides, header_stays, headed_stays}
use Rattle.dw_header.specs.HeaderFound.{HeadSays, head_says}

abbrev length_bytes : Order → Format → ℕ → List ℕ
length_bytes order format n = (length_field order).spell (format, n)

abbrev field_bytes : Order → Header → List ℕ
field_bytes order h = (fields order h.format).spell (fields_of h)

-- ---- the statements, where the versions that are accepted are told

-- which have one: the fields fit, and they lie within the unit_length
pub record HasHeaderBytes (h : Header) (n : ℕ) : Type 0 where
  pub header_fits : HeaderFits h
  pub length_fits : (initial_length h.order 0).Fits (h.format, n)
  pub within : length ((fields h.order h.format).spell (fields_of h)) ≤ n

-- no spelling of a header begins another one of that byte order, so each header with its unit_length has one
abbrev pub NoHeaderBegins : Type 0
NoHeaderBegins = (h g : Header) (m n : ℕ) (a b : List ℕ) → h.order ≡ g.order → HasHeaderBytes h m → HasHeaderBytes g n
    → header_bytes h m ++ a ≡ header_bytes g n ++ b → (h ≡ g) × (m ≡ n) × (a ≡ b)

-- what stands at the front has a spelling, and it is that
abbrev pub HeadersAreSpelledUnder : Versions → Type 0
HeadersAreSpelledUnder versions =
    (order : Order) (bytes : List ℕ) (h : Header) (n : ℕ) → HeaderAtUnder versions order bytes h n
    → (h.order ≡ order) × HasHeaderBytes h n × ((rest : List ℕ) × (bytes ≡ header_bytes h n ++ rest))

-- and the other way round, for a header of a version that is accepted
abbrev pub SpelledHeadersStandUnder : Versions → Type 0
SpelledHeadersStandUnder versions =
    (h : Header) (n : ℕ) (rest : List ℕ) → Accepts versions h.kind → HasHeaderBytes h n
    → HeaderAtUnder versions h.order (header_bytes h n ++ rest) h n

-- what stands at the front is of a version that is accepted
abbrev pub HeadersAreAccepted : Type 0
HeadersAreAccepted =
    (versions : Versions) (order : Order) (bytes : List ℕ) (h : Header) (n : ℕ) → HeaderAtUnder versions order bytes h n
    → Accepts versions h.kind

-- and it stands there wherever that version is accepted
abbrev pub HeadersStandWhereAccepted : Type 0
HeadersStandWhereAccepted =
    (versions others : Versions) (order : Order) (bytes : List ℕ) (h : Header) (n : ℕ)
    → HeaderAtUnder versions order bytes h n → Accepts others h.kind → HeaderAtUnder others order bytes h n

-- a header breaks at one place, for one reason
abbrev pub OneHeaderBreakUnder : Versions → Type 0
OneHeaderBreakUnder versions =
    (order : Order) (bytes : List ℕ) (m n : ℕ) (r q : Reason) → HeaderBreaksUnder versions order bytes m r
    → HeaderBreaksUnder versions order bytes n q → (m ≡ n) × (r ≡ q)

-- bytes have at most one of a header at the front and a break of one
abbrev pub NoHeaderAndBreakUnder : Versions → Type 0
NoHeaderAndBreakUnder versions =
    (order : Order) (bytes : List ℕ) (h : Header) (n offset : ℕ) (reason : Reason)
    → HeaderAtUnder versions order bytes h n → HeaderBreaksUnder versions order bytes offset reason → ⊥

-- every list of bytes has one
abbrev pub HeaderOrBreakUnder : Versions → Type 0
HeaderOrBreakUnder versions = (order : Order) (bytes : List ℕ) → AllByRecursion (λ b. b < 256) bytes
    → ((h : Header) × (n : ℕ) × HeaderAtUnder versions order bytes h n)
    ⊎ ((offset : ℕ) × (reason : Reason) × HeaderBreaksUnder versions order bytes offset reason)

-- a break other than Truncated stays whatever bytes follow
abbrev pub HeaderBreaksStayUnder : Versions → Type 0
HeaderBreaksStayUnder versions =
    (order : Order) (bytes tail : List ℕ) (offset : ℕ) (reason : Reason) → reason ≢ Truncated
    → HeaderBreaksUnder versions order bytes offset reason
    → HeaderBreaksUnder versions order (bytes ++ tail) offset reason

-- a header at the front stays there whatever bytes follow
abbrev pub HeadersStayUnder : Versions → Type 0
HeadersStayUnder versions =
    (order : Order) (bytes tail : List ℕ) (h : Header) (n : ℕ) → HeaderAtUnder versions order bytes h n
    → HeaderAtUnder versions order (bytes ++ tail) h n

-- ---- where version 5 alone is accepted

abbrev pub HeadersAreSpelled : Type 0
HeadersAreSpelled = HeadersAreSpelledUnder Five

abbrev pub SpelledHeadersStand : Type 0
SpelledHeadersStand = SpelledHeadersStandUnder Five

abbrev pub OneHeaderBreak : Type 0
OneHeaderBreak = OneHeaderBreakUnder Five

abbrev pub NoHeaderAndBreak : Type 0
NoHeaderAndBreak = NoHeaderAndBreakUnder Five

abbrev pub HeaderOrBreak : Type 0
HeaderOrBreak = HeaderOrBreakUnder Five

abbrev pub HeaderBreaksStay : Type 0
HeaderBreaksStay = HeaderBreaksStayUnder Five

abbrev pub HeadersStay : Type 0
HeadersStay = HeadersStayUnder Five

-- ---- the plain reader

abbrev pub heading : Header → ℕ → Heading
heading h n = (h, n)

pub head_take : (versions : Versions) (order : Order) (bytes : List ℕ) (h : Header) (n : ℕ)
    → HeaderAtUnder versions order bytes h n
    → read_head versions order bytes
    ≡ found (heading h n) (length (length_bytes order h.format n) + length (field_bytes order h))
head_take versions order bytes h n (order_is, rest, headed) =
    let l : List ℕ = length_bytes order h.format n in
    let s : List ℕ = field_bytes order h in
    let same : header_from order h.format (fields_of h) ≡ h =
    ap (λ (o : Order). header_from o h.format (fields_of h)) (sym order_is) in
    ap (read_head versions order) headed.split
    ∙ ap (head_length versions order (l ++ (s ++ rest)))
    ((initial_length_decides order 0).takes (h.format, n) (s ++ rest) length_limit headed.length_fits
    (initial_within order 0 h.format n))
    ∙ ap (λ (b : List ℕ). head_fields order h.format n (length l) (read_fields versions order h.format b n))
    (drop_at l (s ++ rest) (length l) refl)
    ∙ ap (head_fields order h.format n (length l))
    ((fields_decides versions order h.format).takes (fields_of h) rest n headed.fields_fit headed.within)
    ∙ ap (λ (g : Header). found (heading g n) (length l + length s)) same

pub head_fault : (versions : Versions) (order : Order) (bytes : List ℕ) (offset : ℕ) (reason : Reason)
    → HeaderBreaksUnder versions order bytes offset reason
    → read_head versions order bytes ≡ broken Heading offset reason
head_fault versions order bytes offset reason (inl one) =
    ap (head_length versions order bytes) ((initial_length_decides order 0).faults bytes length_limit offset reason one)
head_fault versions order bytes offset reason (inr (format, n, rest, own, fits, split, sum, breaks)) =
    let l : List ℕ = length_bytes order format n in
    ap (read_head versions order) split
    ∙ ap (head_length versions order (l ++ rest))
    ((initial_length_decides order 0).takes (format, n) rest length_limit fits (initial_within order 0 format n))
    ∙ ap (λ (b : List ℕ). head_fields order format n (length l) (read_fields versions order format b n))
    (drop_at l rest (length l) refl)
    ∙ ap (head_fields order format n (length l))
    ((fields_decides versions order format).faults rest n own reason breaks)
    ∙ ap (λ (k : ℕ). broken Heading k reason) (sym sum)

-- ---- the laws

pub same_heading : (h g : Header) (m n j k : ℕ) → found (heading h m) j ≡ found (heading g n) k → (h ≡ g) × (m ≡ n)
same_heading h g m n j k e =
    let both : heading h m ≡ heading g n = (found_value (heading h m) (heading g n) j k e).0 in
    (ap (λ (x : Heading). x.0) both, ap (λ (x : Heading). x.1) both)

-- bytes have one header at the front
pub one_header : (versions : Versions) (order : Order) (bytes : List ℕ) (h g : Header) (m n : ℕ)
    → HeaderAtUnder versions order bytes h m → HeaderAtUnder versions order bytes g n → (h ≡ g) × (m ≡ n)
one_header versions order bytes h g m n a b =
    same_heading h g m n _ _ (sym (head_take versions order bytes h m a) ∙ head_take versions order bytes g n b)

same_break : (m n : ℕ) (r q : Reason) → broken Heading m r ≡ broken Heading n q → (m ≡ n) × (r ≡ q)
same_break m n r q e = (cc, cc)

pub not_both : (x : Heading) (size offset : ℕ) (reason : Reason) → found x size ≡ broken Heading offset reason → ⊥
not_both x size offset reason e = cc

pub spelled_headers_stand : (versions : Versions) → SpelledHeadersStandUnder versions
spelled_headers_stand versions h n rest accepts has = (
  refl,
  rest,
  record {
    length_fits = has.length_fits;
    fields_fit = fields_fit versions h accepts has.header_fits;
    split = append_assoc (length_bytes h.order h.format n) (field_bytes h.order h) rest;
    within = has.within;
  },
)

pub no_header_begins : NoHeaderBegins
no_header_begins h g m n a b e p q same =
    let first =
    head_take FourAndFive h.order (header_bytes h m ++ a) h m (spelled_headers_stand FourAndFive h m a tt p) in
    let second =
    head_take FourAndFive g.order (header_bytes g n ++ b) g n (spelled_headers_stand FourAndFive g n b tt q) in
    let bytes : read_head FourAndFive h.order (header_bytes h m ++ a)
    ≡ read_head FourAndFive g.order (header_bytes g n ++ b) =
    ap (λ (o : Order). read_head FourAndFive o (header_bytes h m ++ a)) e
    ∙ ap (read_head FourAndFive g.order) same in
    let both = same_heading h g m n _ _ (sym first ∙ bytes ∙ second) in
    let sized : length (header_bytes g n) ≡ length (header_bytes h m) =
    ap (λ (x : Header). length (header_bytes x n)) (sym both.0)
    ∙ ap (λ (k : ℕ). length (header_bytes h k)) (sym both.1) in (
      both.0,
      both.1,
      sym (drop_at (header_bytes h m) a (length (header_bytes h m)) refl) ∙ ap (drop (length (header_bytes h m))) same
          ∙ drop_at (header_bytes g n) b (length (header_bytes h m)) sized,
    )

pub headers_are_spelled : (versions : Versions) → HeadersAreSpelledUnder versions
headers_are_spelled versions order bytes h n (order_is, rest, headed) = (
  order_is,
  subst (λ (o : Order). SpelledHeaderUnder versions o bytes h.format n (fields_of h) rest → HasHeaderBytes h n) order_is
      (has h n bytes rest) headed,
  (
    rest,
    subst
        (λ (o : Order).
        SpelledHeaderUnder versions o bytes h.format n (fields_of h) rest → bytes ≡ header_bytes h n ++ rest)
        order_is (split_of h n bytes rest) headed,
  ),
)
  where
    has : (h : Header) (n : ℕ) (bytes rest : List ℕ)
        → SpelledHeaderUnder versions h.order bytes h.format n (fields_of h) rest → HasHeaderBytes h n
    has h n bytes rest g =
        record { header_fits = header_fits versions h g.fields_fit; length_fits = g.length_fits; within = g.within }

    split_of : (h : Header) (n : ℕ) (bytes rest : List ℕ)
        → SpelledHeaderUnder versions h.order bytes h.format n (fields_of h) rest → bytes ≡ header_bytes h n ++ rest
    split_of h n bytes rest g =
        g.split ∙ sym (append_assoc (length_bytes h.order h.format n) (field_bytes h.order h) rest)

abbrev in_order : Order → Header → Header
in_order order h =
    record {
      order = order;
      format = h.format;
      kind = h.kind;
      address_size = h.address_size;
      abbrev_offset = h.abbrev_offset;
    }

pub headers_are_accepted : HeadersAreAccepted
headers_are_accepted versions order bytes h n stands = header_accepted versions (in_order order h) stands.2.fields_fit

pub spelled_where_accepted : (versions others : Versions) (order : Order) (bytes : List ℕ) (h : Header) (n : ℕ)
    (rest : List ℕ) → Accepts others h.kind → SpelledHeaderUnder versions order bytes h.format n (fields_of h) rest
    → SpelledHeaderUnder others order bytes h.format n (fields_of h) rest
spelled_where_accepted versions others order bytes h n rest accepts there = record {
  length_fits = there.length_fits;
  fields_fit = fields_fit others (in_order order h) accepts (header_fits versions (in_order order h) there.fields_fit);
  split = there.split;
  within = there.within;
}

pub headers_stand_where_accepted : HeadersStandWhereAccepted
headers_stand_where_accepted versions others order bytes h n stands accepts =
    (stands.0, stands.1, spelled_where_accepted versions others order bytes h n stands.1 accepts stands.2)

pub one_header_break : (versions : Versions) → OneHeaderBreakUnder versions
one_header_break versions order bytes m n r q one two =
    same_break m n r q (sym (head_fault versions order bytes m r one) ∙ head_fault versions order bytes n q two)

pub no_header_and_break : (versions : Versions) → NoHeaderAndBreakUnder versions
no_header_and_break versions order bytes h n offset reason stands breaks =
    not_both _ _ offset reason
    (sym (head_take versions order bytes h n stands) ∙ head_fault versions order bytes offset reason breaks)

header_or_break_by : (versions : Versions) (order : Order) (bytes : List ℕ) (o : Outcome Heading)
    → HeadSays versions order bytes o
    → ((h : Header) × (n : ℕ) × HeaderAtUnder versions order bytes h n)
    ⊎ ((offset : ℕ) × (reason : Reason) × HeaderBreaksUnder versions order bytes offset reason)
header_or_break_by versions order bytes (Found x size) says = inl (x.0, x.1, says)
header_or_break_by versions order bytes (Broken offset reason) says = inr (offset, reason, says)

pub header_or_break : (versions : Versions) → HeaderOrBreakUnder versions
header_or_break versions order bytes fit =
    header_or_break_by versions order bytes (read_head versions order bytes) (head_says versions order bytes fit)

pub header_breaks_stay : (versions : Versions) → HeaderBreaksStayUnder versions
header_breaks_stay versions = header_stays versions

pub headers_stay : (versions : Versions) → HeadersStayUnder versions
headers_stay versions order bytes tail h n (order_is, rest, headed) =
    (order_is, rest ++ tail, headed_stays versions order bytes tail h.format n (fields_of h) rest headed)
