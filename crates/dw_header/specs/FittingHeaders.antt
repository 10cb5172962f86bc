-- Headers that fit, and their fields.
use Rattle.std.proofs.Common.{◌≡◌, ◌≤◌, ◌<◌, ◌^◌, ℕ, zero, suc, Bool, true, false, cond, List, [], ◌∷◌, Some, None, refl, sym, ap, ◌∙◌, arith}
use Rattle.std.specs.Prelude.{nat_lt, ◌==◌, ◌&&◌}
use Rattle.std.proofs.lemmas.Bool.{eqb-true, ltb-true, lt-ltb, and_parts}
use Rattle.dw_leb.specs.declared.errors.Reason.TheVariants.{BadAddressSize, BadUnitType, BadVersion}
use Rattle.dw_leb.specs.declared.order.Order.{Order}
use Rattle.dw_leb.specs.declared.order.Format.{Format}
use Rattle.dw_header.specs.declared.kind.Kind.{Kind}
use Rattle.dw_header.specs.declared.kind.Kind.TheVariants.{Compile, Partial, TypeUnit, Skeleton, Four}
use Rattle.dw_header.specs.declared.versions.Versions.{Versions}
use Rattle.dw_header.specs.declared.versions.Versions.TheVariants.{Five, FourAndFive}
use Rattle.dw_leb.specs.Number.{offset_size}
use Rattle.dw_leb.specs.Part.{FitsAs}
use Rattle.dw_header.specs.Header.{Header, Fields, FiveFields, FourFields, five_part, five_values, five_view, four_part, four_view, fields_behind, fields_under, fields_of, numbers, added_sizes, version_of, Accepts, versions_for, bad_version_under, bad_type, bad_address_size, kind_number, kind_fields, KindFits, HeaderFits}
use Rattle.dw_header.specs.ReadHeader.{first_number, second_number, kind_from, five_from, four_from}

address_range : (a : ℕ) → bad_address_size a ≡ None → (1 ≤ a) × (a ≤ 8)
address_range a e = by (nat_lt 0 a && nat_lt a 9) refl e
  where
    by : (b : Bool) → (nat_lt 0 a && nat_lt a 9) ≡ b → cond b None (Some BadAddressSize) ≡ None → (1 ≤ a) × (a ≤ 8)
    by true t h =
        let both = and_parts (nat_lt 0 a) (nat_lt a 9) t in
        let low = ltb-true 0 a both.0 in let high = ltb-true a 9 both.1 in (omega (arith, low), omega (arith, high))
    by false t h = absurd cc

address_good : (a : ℕ) → 1 ≤ a → a ≤ 8 → bad_address_size a ≡ None
address_good a some most = rw (lt-ltb 0 a (omega (arith, some)), lt-ltb a 9 (omega (arith, most))) refl

kind_fits : (order : Order) (format : Format) (k : Kind)
    → (numbers order (added_sizes format (kind_number k))).Fits (kind_fields k) → KindFits format k
kind_fits order format Compile fits = tt
kind_fits order format Partial fits = tt
kind_fits order format (TypeUnit s o) fits = let a = fits.0 in (omega (arith, a), fits.1.0)
kind_fits order format (Skeleton id) fits = let a = fits.0 in omega (arith, a)
kind_fits order format Four fits = tt

fits_kind : (order : Order) (format : Format) (k : Kind) → KindFits format k
    → (numbers order (added_sizes format (kind_number k))).Fits (kind_fields k)
fits_kind order format Compile fits = tt
fits_kind order format Partial fits = tt
fits_kind order format (TypeUnit s o) fits = let a = fits.0 in (omega (arith, a), (fits.1, tt))
fits_kind order format (Skeleton id) fits = (omega (arith, fits), tt)
fits_kind order format Four fits = tt

-- ---- versions

-- versions_for names versions that accept the kind
pub accepted : (k : Kind) → Accepts (versions_for k) k
accepted Compile = tt
accepted Partial = tt
accepted (TypeUnit s o) = tt
accepted (Skeleton id) = tt
accepted Four = tt

version_good : (versions : Versions) (k : Kind) → Accepts versions k
    → (version_of k < 256 ^ 2) × (bad_version_under versions (version_of k) ≡ None)
version_good Five Compile a = (omega arith, refl)
version_good Five Partial a = (omega arith, refl)
version_good Five (TypeUnit s o) a = (omega arith, refl)
version_good Five (Skeleton id) a = (omega arith, refl)
version_good Five Four a = absurd a
version_good FourAndFive Compile a = (omega arith, refl)
version_good FourAndFive Partial a = (omega arith, refl)
version_good FourAndFive (TypeUnit s o) a = (omega arith, refl)
version_good FourAndFive (Skeleton id) a = (omega arith, refl)
version_good FourAndFive Four a = (omega arith, refl)

accepts_version : (versions : Versions) (k : Kind) → bad_version_under versions (version_of k) ≡ None
    → Accepts versions k
accepts_version FourAndFive k e = tt
accepts_version Five Compile e = tt
accepts_version Five Partial e = tt
accepts_version Five (TypeUnit s o) e = tt
accepts_version Five (Skeleton id) e = tt
accepts_version Five Four e = absurd cc

-- an accepted version that isn't 4 is 5
version_is : (versions : Versions) (v : ℕ) → (v == 4) ≡ false → bad_version_under versions v ≡ None → v ≡ 5
version_is Five v four e = by (v == 5) refl e
  where
    by : (b : Bool) → (v == 5) ≡ b → cond b None (Some BadVersion) ≡ None → v ≡ 5
    by true t h = eqb-true v 5 t
    by false t h = absurd cc
version_is FourAndFive v four e = by (v == 5) (v == 4) refl four e
  where
    by : (b c : Bool) → (v == 5) ≡ b → c ≡ false → cond b None (cond c None (Some BadVersion)) ≡ None → v ≡ 5
    by true c t f h = eqb-true v 5 t
    by false true t f h = absurd cc
    by false false t f h = absurd cc

-- ---- headers that fit, and fields that do

five_header : (order : Order) (format : Format) (k : Kind) (a o : ℕ)
    → (five_part order format).Fits (kind_number k, (a, (o, kind_fields k)))
    → HeaderFits (record { order = order; format = format; kind = k; address_size = a; abbrev_offset = o })
five_header order format k a o fits =
    let range = address_range a fits.1.0.1 in
    record { some = range.0; most = range.1; offset = fits.1.1.0; kind = kind_fits order format k fits.1.1.1 }

header_from_fields : (versions : Versions) (order : Order) (format : Format) (k : Kind) (a o : ℕ)
    → (fields_under versions order format).Fits (record { kind = k; address_size = a; abbrev_offset = o })
    → HeaderFits (record { order = order; format = format; kind = k; address_size = a; abbrev_offset = o })
header_from_fields versions order format Compile a o fits = five_header order format Compile a o fits.1
header_from_fields versions order format Partial a o fits = five_header order format Partial a o fits.1
header_from_fields versions order format (TypeUnit s t) a o fits = five_header order format (TypeUnit s t) a o fits.1
header_from_fields versions order format (Skeleton id) a o fits = five_header order format (Skeleton id) a o fits.1
header_from_fields versions order format Four a o fits =
    let range = address_range a fits.1.1.1 in
    record { some = range.0; most = range.1; offset = fits.1.0; kind = tt }

-- a header whose fields fit is one that fits, of a version that is accepted ..
pub header_fits : (versions : Versions) (h : Header) → (fields_under versions h.order h.format).Fits (fields_of h)
    → HeaderFits h
header_fits versions h fits = header_from_fields versions h.order h.format h.kind h.address_size h.abbrev_offset fits

pub header_accepted : (versions : Versions) (h : Header) → (fields_under versions h.order h.format).Fits (fields_of h)
    → Accepts versions h.kind
header_accepted versions h fits = accepts_version versions h.kind fits.0.1

type_good : (k : Kind) → (1 ≤ kind_number k) → ((kind_number k < 256 ^ 1) × (bad_type (kind_number k) ≡ None))
type_good Compile some = (omega arith, refl)
type_good Partial some = (omega arith, refl)
type_good (TypeUnit s o) some = (omega arith, refl)
type_good (Skeleton id) some = (omega arith, refl)
type_good Four some = absurd (omega (arith, some))

five_fields_fit : (h : Header) → HeaderFits h → 1 ≤ kind_number h.kind
    → (five_part h.order h.format).Fits (kind_number h.kind, (h.address_size, (h.abbrev_offset, kind_fields h.kind)))
five_fields_fit h fits some = (
  type_good h.kind some,
  (
    (omega (arith, fits.most), address_good h.address_size fits.some fits.most),
    (fits.offset, fits_kind h.order h.format h.kind fits.kind),
  ),
)

four_fields_fit : (h : Header) → HeaderFits h → (four_part h.order h.format).Fits (h.abbrev_offset, h.address_size)
four_fields_fit h fits = (fits.offset, (omega (arith, fits.most), address_good h.address_size fits.some fits.most))

behind_fits : (order : Order) (format : Format) (k : Kind) (a o : ℕ)
    → HeaderFits (record { order = order; format = format; kind = k; address_size = a; abbrev_offset = o })
    → (fields_behind order format (version_of k == 4)).Fits (record { kind = k; address_size = a; abbrev_offset = o })
behind_fits order format Compile a o fits =
    five_fields_fit (record { order = order; format = format; kind = Compile; address_size = a; abbrev_offset = o })
    fits (omega arith)
behind_fits order format Partial a o fits =
    five_fields_fit (record { order = order; format = format; kind = Partial; address_size = a; abbrev_offset = o })
    fits (omega arith)
behind_fits order format (TypeUnit s t) a o fits =
    five_fields_fit
    (record { order = order; format = format; kind = TypeUnit s t; address_size = a; abbrev_offset = o }) fits
    (omega arith)
behind_fits order format (Skeleton id) a o fits =
    five_fields_fit (record { order = order; format = format; kind = Skeleton id; address_size = a; abbrev_offset = o })
    fits (omega arith)
behind_fits order format Four a o fits =
    four_fields_fit (record { order = order; format = format; kind = Four; address_size = a; abbrev_offset = o }) fits

-- .. and the other way round
pub fields_fit : (versions : Versions) (h : Header) → Accepts versions h.kind → HeaderFits h
    → (fields_under versions h.order h.format).Fits (fields_of h)
fields_fit versions h a fits =
    (version_good versions h.kind a, behind_fits h.order h.format h.kind h.address_size h.abbrev_offset fits)

-- ---- the values of each version, and the fields

five_is : (x a : FiveFields) → Some x ≡ Some a → x ≡ a
five_is x a e = cc

four_is : (x a : FourFields) → Some x ≡ Some a → x ≡ a
four_is x a e = cc

pub five_back : (k : Kind) (a o : ℕ) (x : FiveFields) → five_view k a o ≡ Some x
    → five_from x ≡ record { kind = k; address_size = a; abbrev_offset = o }
five_back Compile a o x e = ap five_from (sym (five_is _ x e))
five_back Partial a o x e = ap five_from (sym (five_is _ x e))
five_back (TypeUnit s t) a o x e = ap five_from (sym (five_is _ x e))
five_back (Skeleton id) a o x e = ap five_from (sym (five_is _ x e))
five_back Four a o x e = absurd cc

pub four_back : (k : Kind) (a o : ℕ) (x : FourFields) → four_view k a o ≡ Some x
    → four_from x ≡ record { kind = k; address_size = a; abbrev_offset = o }
four_back Compile a o x e = absurd cc
four_back Partial a o x e = absurd cc
four_back (TypeUnit s t) a o x e = absurd cc
four_back (Skeleton id) a o x e = absurd cc
four_back Four a o x e = ap four_from (sym (four_is _ x e))

type_range : (v : ℕ) → bad_type v ≡ None → (0 < v) × (v < 5)
type_range v e = by (nat_lt 0 v && nat_lt v 5) refl e
  where
    by : (b : Bool) → (nat_lt 0 v && nat_lt v 5) ≡ b → cond b None (Some BadUnitType) ≡ None → (0 < v) × (v < 5)
    by true t h = let both = and_parts (nat_lt 0 v) (nat_lt v 5) t in (ltb-true 0 v both.0, ltb-true v 5 both.1)
    by false t h = absurd cc

no_numbers : (order : Order) (added : List ℕ) → (numbers order []).Fits added → [] ≡ added
no_numbers order [] fits = refl
no_numbers order (a ∷ more) fits = absurd fits

one_number : (order : Order) (m : ℕ) (added : List ℕ) → (numbers order (m ∷ [])).Fits added
    → (first_number added ∷ []) ≡ added
one_number order m [] fits = absurd fits
one_number order m (a ∷ []) fits = refl
one_number order m (a ∷ b ∷ more) fits = absurd fits.1

two_numbers : (order : Order) (m n : ℕ) (added : List ℕ) → (numbers order (m ∷ n ∷ [])).Fits added
    → (first_number added ∷ second_number added ∷ []) ≡ added
two_numbers order m n [] fits = absurd fits
two_numbers order m n (a ∷ []) fits = absurd fits.1
two_numbers order m n (a ∷ b ∷ []) fits = refl
two_numbers order m n (a ∷ b ∷ c ∷ more) fits = absurd fits.1.1

five_there_by : (order : Order) (format : Format) (number a o : ℕ) (added : List ℕ) → (0 < number) × (number < 5)
    → (numbers order (added_sizes format number)).Fits added
    → five_view (kind_from number added) a o ≡ five_values number a o added
five_there_by order format zero a o added range fits = absurd (omega (arith, range.0))
five_there_by order format (suc zero) a o added range fits = ap (five_values 1 a o) (no_numbers order added fits)
five_there_by order format (suc (suc zero)) a o added range fits =
    ap (five_values 2 a o) (two_numbers order 8 (offset_size format) added fits)
five_there_by order format (suc (suc (suc zero))) a o added range fits =
    ap (five_values 3 a o) (no_numbers order added fits)
five_there_by order format (suc (suc (suc (suc zero)))) a o added range fits =
    ap (five_values 4 a o) (one_number order 8 added fits)
five_there_by order format (suc (suc (suc (suc (suc n))))) a o added range fits = absurd (omega (arith, range.1))

pub five_there : (order : Order) (format : Format) (x : FiveFields) → (five_part order format).Fits x
    → five_view (five_from x).kind (five_from x).address_size (five_from x).abbrev_offset ≡ Some x
five_there order format x fits =
    five_there_by order format x.0 x.1.0 x.1.1.0 x.1.1.1 (type_range x.0 fits.0.1) fits.1.1.1

-- ---- the version that goes with what follows it

four_version : (order : Order) (format : Format) (k : Kind) (a o : ℕ)
    → FitsAs (four_part order format) (four_view k a o) → version_of k ≡ 4
four_version order format Compile a o fits = absurd fits
four_version order format Partial a o fits = absurd fits
four_version order format (TypeUnit s t) a o fits = absurd fits
four_version order format (Skeleton id) a o fits = absurd fits
four_version order format Four a o fits = refl

five_version : (order : Order) (format : Format) (k : Kind) (a o : ℕ)
    → FitsAs (five_part order format) (five_view k a o) → version_of k ≡ 5
five_version order format Compile a o fits = refl
five_version order format Partial a o fits = refl
five_version order format (TypeUnit s t) a o fits = refl
five_version order format (Skeleton id) a o fits = refl
five_version order format Four a o fits = absurd fits

version_by : (versions : Versions) (order : Order) (format : Format) (v : ℕ) (f : Fields)
    → bad_version_under versions v ≡ None → (b : Bool) → (v == 4) ≡ b → (fields_behind order format b).Fits f
    → version_of f.kind ≡ v
version_by versions order format v f good true e fits =
    four_version order format f.kind f.address_size f.abbrev_offset fits ∙ sym (eqb-true v 4 e)
version_by versions order format v f good false e fits =
    five_version order format f.kind f.address_size f.abbrev_offset fits ∙ sym (version_is versions v e good)

-- the version of what follows a version that is accepted is that version
pub version_there : (versions : Versions) (order : Order) (format : Format) (v : ℕ) (f : Fields)
    → bad_version_under versions v ≡ None → (fields_behind order format (v == 4)).Fits f → version_of f.kind ≡ v
version_there versions order format v f good fits = version_by versions order format v f good (v == 4) refl fits
