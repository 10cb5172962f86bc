-- The moment of a header with its initial length, and that its spelling is a list of bytes.
use Rattle.std.proofs.Common.{◌≡◌, ℕ, ◌+◌, ◌<◌, Bool, true, false, List, [], ◌∷◌, ◌++◌, length, drop, Some, None, refl, sym, ap, subst, ◌∙◌, append-nil, arith, length-append}
use Rattle.std.specs.Prelude.{nat_lt, ◌==◌, ◌&&◌, if◌then◌else◌}
use Rattle.dw_leb.specs.declared.errors.Reason.{Reason}
use Rattle.dw_leb.specs.declared.errors.Reason.TheVariants.{Truncated, BadVersion, BadUnitType, BadAddressSize}
use Rattle.dw_leb.specs.declared.order.Order.{Order}
use Rattle.dw_leb.specs.declared.order.Format.{Format}
use Rattle.dw_leb.specs.Number.{length_field, length_limit, offset_size, fixed_bytes}
use Rattle.dw_leb.specs.Reader.{Outcome, Found, Broken, Reader, paired, behind, ◌and_then◌, mapped, made, checked}
use Rattle.dw_leb.specs.ReadNumber.{read_fixed, read_length}
use Rattle.dw_leb.specs.Decide.{AreBytes}
use Rattle.dw_header.specs.declared.kind.Kind.{Kind}
use Rattle.dw_header.specs.declared.kind.Kind.TheVariants.{Compile, Partial, TypeUnit, Skeleton, Four}
use Rattle.dw_header.specs.declared.versions.Versions.{Versions}
use Rattle.dw_header.specs.declared.versions.Versions.TheVariants.{Five, FourAndFive}
use Rattle.dw_header.specs.Header.{Header, Fields, FiveFields, FourFields, fields, fields_of, five_part, four_part, numbers, added_sizes, bad_version_under, bad_type, bad_address_size, Accepts}
use Rattle.dw_header.specs.HeaderPlace.{HeaderBreaksUnder, header_bytes}
use Rattle.dw_header.specs.ReadHeader.{read_numbers, five_from, read_five, four_from, read_four, read_behind, read_fields, header_from, Heading, head_fields, head_length, read_head}
use Rattle.dw_header.specs.HeaderFound.{HeadSays, head_says}
use Rattle.dw_header.specs.Laws.{HasHeaderBytes, head_take, spelled_headers_stand}
use Rattle.dw_leb.specs.Moments.{Moment, IsCut, HasMoment, Judges, refuses_unless, at_no_byte, moment_then, bounded, bounded_by, returned_moment, made_moment, checked_moment, then_moment, bounded_moment, same_moment, front_cut}
use Rattle.dw_leb.specs.NumberMoments.{count_moment, length_moment, fixed_has, length_has}
use Rattle.dw_leb.specs.ByteLists.{front_is_bytes, joined_are_bytes, fixed_is_bytes, length_is_bytes}

-- ---- the fields behind the version

abbrev pub numbers_moment : Order → List ℕ → Moment
numbers_moment order [] = at_no_byte
numbers_moment order (n ∷ ns) = moment_then (read_fixed order n) (count_moment n) (λ _. numbers_moment order ns)

numbers_has : (order : Order) (ns : List ℕ) → HasMoment (read_numbers order ns) (numbers_moment order ns)
numbers_has order [] = returned_moment []
numbers_has order (n ∷ ns) = made_moment (λ x. x.0 ∷ x.1) (read_fixed order n and_then λ _. read_numbers order ns) _
    (then_moment (read_fixed order n) (λ _. read_numbers order ns) (count_moment n) (λ _. numbers_moment order ns)
    (fixed_has order n) (λ _. numbers_has order ns))

pub type_judges : Judges bad_type
type_judges x = refuses_unless (nat_lt 0 x && nat_lt x 5) BadUnitType (λ e. cc)

pub address_size_judges : Judges bad_address_size
address_size_judges x = refuses_unless (nat_lt 0 x && nat_lt x 9) BadAddressSize (λ e. cc)

type_has : (order : Order) → HasMoment (checked (read_fixed order 1) bad_type) (count_moment 1)
type_has order = checked_moment (read_fixed order 1) bad_type type_judges (count_moment 1) (fixed_has order 1)

address_size_has : (order : Order) → HasMoment (checked (read_fixed order 1) bad_address_size) (count_moment 1)
address_size_has order =
    checked_moment (read_fixed order 1) bad_address_size address_size_judges (count_moment 1) (fixed_has order 1)

abbrev pub five_moment : Order → Format → Moment
five_moment order format =
    moment_then (checked (read_fixed order 1) bad_type) (count_moment 1)
    (λ kind. moment_then (checked (read_fixed order 1) bad_address_size) (count_moment 1)
    (λ _. moment_then (read_fixed order (offset_size format)) (count_moment (offset_size format))
    (λ _. numbers_moment order (added_sizes format kind))))

five_has : (order : Order) (format : Format) → HasMoment (read_five order format) (five_moment order format)
five_has order format = made_moment five_from _ (five_moment order format)
    (then_moment _ _ (count_moment 1) _ (type_has order)
    (λ kind. then_moment _ _ (count_moment 1) _ (address_size_has order)
    (λ _.
    then_moment (read_fixed order (offset_size format)) _ (count_moment (offset_size format)) _
    (fixed_has order (offset_size format))
    (λ _. numbers_has order (added_sizes format kind)))))

abbrev pub four_moment : Order → Format → Moment
four_moment order format =
    moment_then (read_fixed order (offset_size format)) (count_moment (offset_size format)) (λ _. count_moment 1)

four_has : (order : Order) (format : Format) → HasMoment (read_four order format) (four_moment order format)
four_has order format = made_moment four_from _ (four_moment order format)
    (then_moment (read_fixed order (offset_size format)) _ (count_moment (offset_size format)) _
    (fixed_has order (offset_size format)) (λ _. address_size_has order))

-- what follows a version that is 4, or isn't
abbrev pub behind_version_moment : Order → Format → Bool → Moment
behind_version_moment order format true = four_moment order format
behind_version_moment order format false = five_moment order format

behind_version_has : (order : Order) (format : Format) (four : Bool)
    → HasMoment (read_behind order format four) (behind_version_moment order format four)
behind_version_has order format true = four_has order format
behind_version_has order format false = five_has order format

-- ---- all fields

pub version_judges : (versions : Versions) → Judges (bad_version_under versions)
version_judges Five v = refuses_unless (v == 5) BadVersion (λ e. cc)
version_judges FourAndFive v = by (v == 5) (v == 4)
  where
    by : (b c : Bool) → (if b then None else (if c then None else Some BadVersion)) ≡ Some Truncated → ⊥
    by true c h = cc
    by false true h = cc
    by false false h = cc

abbrev pub fields_moment : Versions → Order → Format → Moment
fields_moment versions order format =
    moment_then (checked (read_fixed order 2) (bad_version_under versions)) (count_moment 2)
    (λ version. behind_version_moment order format (version == 4))

pub fields_has : (versions : Versions) (order : Order) (format : Format)
    → HasMoment (read_fields versions order format) (fields_moment versions order format)
unfolding read_fields
fields_has versions order format = made_moment (λ x. x.1) _ (fields_moment versions order format)
    (then_moment _ _ (count_moment 2) _
    (checked_moment (read_fixed order 2) (bad_version_under versions) (version_judges versions) (count_moment 2)
    (fixed_has order 2))
    (λ version. behind_version_has order format (version == 4)))

-- ---- with the initial length before them

abbrev head_parts : Versions → Order → Reader ((Format × ℕ) × Fields)
head_parts versions order = read_length order 0 and_then λ x. bounded x.1 (read_fields versions order x.0)

abbrev heading_of : Order → (Format × ℕ) × Fields → Heading
heading_of order x = (header_from order x.0.0 x.1, x.0.1)

abbrev pub parts_moment : Versions → Order → Moment
parts_moment versions order =
    moment_then (read_length order 0) (length_moment order) (λ x. bounded_by x.1 (fields_moment versions order x.0))

-- after how many bytes a header stands, or its fault
abbrev pub head_moment : Versions → Order → Moment
head_moment versions order = bounded_by length_limit (parts_moment versions order)

abbrev pub head_reader : Versions → Order → Reader Heading
head_reader versions order bytes lim = read_head versions order bytes

by_fields : (order : Order) (x : Format × ℕ) (size : ℕ) (o : Outcome Fields)
    → head_fields order x.0 x.1 size o ≡ mapped (heading_of order) (paired x size o)
by_fields order x size (Found y own) = refl
by_fields order x size (Broken offset reason) = refl

by_length : (versions : Versions) (order : Order) (bytes : List ℕ) (o : Outcome (Format × ℕ))
    → head_length versions order bytes o
    ≡ mapped (heading_of order) (behind o (λ x. bounded x.1 (read_fields versions order x.0)) bytes length_limit)
by_length versions order bytes (Found x size) =
    by_fields order x size (read_fields versions order x.0 (drop size bytes) x.1)
by_length versions order bytes (Broken offset reason) = refl

pub head_has : (versions : Versions) (order : Order)
    → HasMoment (head_reader versions order) (head_moment versions order)
head_has versions order =
    same_moment (bounded length_limit (made (heading_of order) (head_parts versions order)))
    (head_reader versions order) (head_moment versions order)
    (λ bytes lim. by_length versions order bytes (read_length order 0 bytes length_limit))
    (bounded_moment length_limit (made (heading_of order) (head_parts versions order)) (parts_moment versions order)
    (made_moment (heading_of order) (head_parts versions order) (parts_moment versions order)
    (then_moment (read_length order 0) (λ x. bounded x.1 (read_fields versions order x.0)) (length_moment order)
    (λ x. bounded_by x.1 (fields_moment versions order x.0))
    (length_has order 0)
    (λ x.
    bounded_moment x.1 (read_fields versions order x.0) (fields_moment versions order x.0)
    (fields_has versions order x.0)))))

-- ---- what follows

cut_says : (versions : Versions) (order : Order) (bytes : List ℕ) (o : Outcome Heading) → IsCut o
    → HeadSays versions order bytes o → (offset : ℕ) × HeaderBreaksUnder versions order bytes offset Truncated
cut_says versions order bytes (Found x size) c h = absurd c
cut_says versions order bytes (Broken offset reason) c h =
    (offset, subst (λ (r : Reason). HeaderBreaksUnder versions order bytes offset r) c h)

-- fewer bytes than the header wants: it is cut off
pub head_waits : (versions : Versions) (order : Order) (front rest : List ℕ) → AreBytes front
    → length front < head_moment versions order (front ++ rest) 0
    → (offset : ℕ) × HeaderBreaksUnder versions order front offset Truncated
head_waits versions order front rest fit short =
    cut_says versions order front (read_head versions order front)
    (front_cut (head_reader versions order) (head_moment versions order) (head_has versions order) front rest 0 short)
    (head_says versions order front fit)

-- ---- the bytes of a header

numbers_are_bytes : (order : Order) (ns xs : List ℕ) → AreBytes ((numbers order ns).spell xs)
numbers_are_bytes order [] [] = tt
numbers_are_bytes order [] (x ∷ xs) = tt
numbers_are_bytes order (n ∷ ns) [] = tt
numbers_are_bytes order (n ∷ ns) (x ∷ xs) =
    joined_are_bytes (fixed_bytes order n x) ((numbers order ns).spell xs) (fixed_is_bytes order n x)
    (numbers_are_bytes order ns xs)

five_are_bytes : (order : Order) (format : Format) (x : FiveFields) → AreBytes ((five_part order format).spell x)
five_are_bytes order format x =
    joined_are_bytes _ _ (fixed_is_bytes order 1 x.0)
    (joined_are_bytes _ _ (fixed_is_bytes order 1 x.1.0)
    (joined_are_bytes _ _ (fixed_is_bytes order (offset_size format) x.1.1.0)
    (numbers_are_bytes order (added_sizes format x.0) x.1.1.1)))

four_are_bytes : (order : Order) (format : Format) (x : FourFields) → AreBytes ((four_part order format).spell x)
four_are_bytes order format x =
    joined_are_bytes _ _ (fixed_is_bytes order (offset_size format) x.0) (fixed_is_bytes order 1 x.1)

fields_are_bytes : (order : Order) (format : Format) (k : Kind) (a o : ℕ)
    → AreBytes ((fields order format).spell (record { kind = k; address_size = a; abbrev_offset = o }))
fields_are_bytes order format Compile a o =
    joined_are_bytes _ _ (fixed_is_bytes order 2 5) (five_are_bytes order format (1, (a, (o, []))))
fields_are_bytes order format (TypeUnit s t) a o =
    joined_are_bytes _ _ (fixed_is_bytes order 2 5) (five_are_bytes order format (2, (a, (o, s ∷ t ∷ []))))
fields_are_bytes order format Partial a o =
    joined_are_bytes _ _ (fixed_is_bytes order 2 5) (five_are_bytes order format (3, (a, (o, []))))
fields_are_bytes order format (Skeleton id) a o =
    joined_are_bytes _ _ (fixed_is_bytes order 2 5) (five_are_bytes order format (4, (a, (o, id ∷ []))))
fields_are_bytes order format Four a o =
    joined_are_bytes _ _ (fixed_is_bytes order 2 4) (four_are_bytes order format (o, a))

pub header_is_bytes : (h : Header) (n : ℕ) → AreBytes (header_bytes h n)
header_is_bytes h n =
    joined_are_bytes ((length_field h.order).spell (h.format, n)) ((fields h.order h.format).spell (fields_of h))
    (length_is_bytes h.order h.format n) (fields_are_bytes h.order h.format h.kind h.address_size h.abbrev_offset)

-- a header that has a spelling, of a version that is accepted, wants all of its bytes
pub header_wants : (versions : Versions) (h : Header) (n : ℕ) → Accepts versions h.kind → HasHeaderBytes h n
    → head_moment versions h.order (header_bytes h n) 0 ≡ length (header_bytes h n)
header_wants versions h n accepts has =
    let i : List ℕ = (length_field h.order).spell (h.format, n) in
    let f : List ℕ = (fields h.order h.format).spell (fields_of h) in
    let all : header_bytes h n ++ [] ≡ header_bytes h n = append-nil (header_bytes h n) in
    ap (λ (bs : List ℕ). head_moment versions h.order bs 0) (sym all)
    ∙ (head_has versions h.order).whole (header_bytes h n ++ []) 0 (h, n) (length i + length f)
    (head_take versions h.order (header_bytes h n ++ []) h n (spelled_headers_stand versions h n [] accepts has))
    ∙ sym (length-append i f)

-- and a proper front of them is cut off
pub header_front_waits : (versions : Versions) (h : Header) (n : ℕ) → Accepts versions h.kind → HasHeaderBytes h n
    → (front : List ℕ) (b : ℕ) (more : List ℕ) → header_bytes h n ≡ front ++ b ∷ more
    → (offset : ℕ) × HeaderBreaksUnder versions h.order front offset Truncated
header_front_waits versions h n accepts has front b more e =
    let fit : AreBytes front = front_is_bytes front (b ∷ more) (subst AreBytes e (header_is_bytes h n)) in
    let want : head_moment versions h.order (front ++ b ∷ more) 0 ≡ length (header_bytes h n) =
    ap (λ (bs : List ℕ). head_moment versions h.order bs 0) (sym e) ∙ header_wants versions h n accepts has in
    head_waits versions h.order front (b ∷ more) fit (omega (arith, want, ap length e, length-append front (b ∷ more)))
