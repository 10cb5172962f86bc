-- An item of a known kind shows a version that is accepted and a unit type of the standard. So no section is refused for these.
use Rattle.std.proofs.Common.{Bool, true, false, ◌≡◌, ◌⊎◌, ℕ, ◌-◌, ◌^◌, ◌<◌, List, ◌++◌, length, Option, Some, None, refl, sym, ap, subst, ◌∙◌, append_assoc, arith, inl, inr}
use Rattle.std.specs.Prelude.{◌≢◌, if◌then◌else◌, nat_le, nat_lt, ◌==◌, ◌&&◌}
use Rattle.std.proofs.lemmas.Bool.{eqb-true, eqb-false, and_parts}
use Rattle.dw_leb.specs.declared.errors.Reason.{Reason}
use Rattle.dw_leb.specs.declared.errors.Reason.TheVariants.{Truncated, BadVersion, BadUnitType}
use Rattle.dw_leb.specs.declared.errors.SectionId.{SectionId}
use Rattle.dw_leb.specs.declared.errors.SectionId.TheVariants.{Info, Abbrev}
use Rattle.dw_leb.specs.declared.order.Order.{Order}
use Rattle.dw_leb.specs.declared.order.Format.{Format}
use Rattle.dw_leb.specs.Part.{Taken, optional}
use Rattle.dw_leb.specs.Number.{fixed, fixed_bytes, initial_length, length_limit}
use Rattle.dw_leb.specs.ReadNumber.{read_fixed, read_length}
use Rattle.dw_leb.specs.Digits.{fixed_decides}
use Rattle.dw_leb.specs.DecideNumber.{initial_length_decides}
use Rattle.dw_leb.specs.PartLaws.{one_front}
use Rattle.dw_header.specs.declared.versions.Versions.{Versions}
use Rattle.dw_header.specs.declared.versions.Versions.TheVariants.{Five, FourAndFive}
use Rattle.dw_header.specs.Header.{bad_version_under, bad_type, five_part, fields_behind, fields_under}
use Rattle.dw_header.specs.HeaderPlace.{HeaderBreaksUnder}
use Rattle.dw_unit.specs.Unit.{left_behind}
use Rattle.dw_header.specs.Header.{context_of}
use Rattle.dw_section.specs.Item.{VersionAndType, version_and_type_if, least_length, is_type, is_four, is_known, ShowsKind, IsKnown, ItemFails}
use Rattle.dw_section.specs.ItemPlace.{fits_alone, version_and_type_cut}
use Rattle.dw_section.specs.Laws.{NoKindFaults}
use Rattle.dw_section.proofs.NeverKind.{refuses_kind, NotKind, same_reason, After_never_kind, Short_never_kind, initial_length_never_kind, behind_type, behind_type_never_kind, four_never_kind, entries_never_kind, table_is_none}

-- ---- how an item of a known kind begins behind its length

abbrev BeginsFour : Versions → Order → List ℕ → Type 0
BeginsFour versions order bytes = (versions ≡ FourAndFive) × ((more : List ℕ) × (bytes ≡ fixed_bytes order 2 4 ++ more))

record BeginsFive (order : Order) (bytes : List ℕ) : Type 0 where
  type : ℕ
  more : List ℕ
  small : type < 256 ^ 1
  known : is_type (Some type) ≡ true
  split : bytes ≡ fixed_bytes order 2 5 ++ (fixed_bytes order 1 type ++ more)

four_is : (versions : Versions) (version : ℕ) → is_four versions version ≡ true → (versions ≡ FourAndFive) × (version ≡ 4)
four_is Five version e = absurd cc
four_is FourAndFive version e = (refl, eqb-true version 4 e)

module _ (versions : Versions) (order : Order) (bytes : List ℕ) (n size : ℕ) (room : Bool) (version : ℕ) where
  five_begins : (type : Option ℕ) (v : Bool) → version == 5 && room ≡ v → (optional v (fixed order 1)).Fits type → is_type type ≡ true
      → (more : List ℕ) → bytes ≡ (fixed_bytes order 2 version ++ (optional v (fixed order 1)).spell type) ++ more → BeginsFive order bytes
  five_begins None v e fits known more split = absurd cc
  five_begins (Some type) false e fits known more split = absurd fits
  five_begins (Some type) true e fits known more split =
      let is : version ≡ 5 = eqb-true version 5 (and_parts (version == 5) room e).0 in
      record {
        type = type;
        more = more;
        small = fits;
        known = known;
        split = split ∙ append_assoc (fixed_bytes order 2 version) (fixed_bytes order 1 type) more ∙ ap (λ (m : ℕ). fixed_bytes order 2 m ++ (fixed_bytes order 1 type ++ more)) is;
      }

  version_begins : (type : Option ℕ) → Taken (version_and_type_if order true room) bytes n (Some (version, type)) size → (four : Bool) → is_four versions version ≡ four → (if four then true else is_type type) ≡ true
      → BeginsFour versions order bytes ⊎ BeginsFive order bytes
  version_begins type t true e known =
      let is = four_is versions version e in
      inl (
        is.0,
        (
          (optional (version == 5 && room) (fixed order 1)).spell type ++ t.rest,
          t.split ∙ append_assoc (fixed_bytes order 2 version) ((optional (version == 5 && room) (fixed order 1)).spell type) t.rest
              ∙ ap (λ (m : ℕ). fixed_bytes order 2 m ++ ((optional (version == 5 && room) (fixed order 1)).spell type ++ t.rest)) is.1,
        ),
      )
  version_begins type t false e known = inr (five_begins type (version == 5 && room) refl t.fits.1 known t.rest t.split)

version_and_type_begin : (versions : Versions) (order : Order) (bytes : List ℕ) (n size : ℕ) (v room : Bool) (seen : Option VersionAndType) → Taken (version_and_type_if order v room) bytes n seen size → is_known versions seen ≡ true
    → BeginsFour versions order bytes ⊎ BeginsFive order bytes
version_and_type_begin versions order bytes n size v room None t known = absurd cc
version_and_type_begin versions order bytes n size false room (Some (version, type)) t known = absurd t.fits
version_and_type_begin versions order bytes n size true room (Some (version, type)) t known = version_begins versions order bytes n size room version type t (is_four versions version) refl known

known_begins : (versions : Versions) (order : Order) (n : ℕ) (bytes : List ℕ) → ShowsKind versions order n bytes true → BeginsFour versions order bytes ⊎ BeginsFive order bytes
known_begins versions order n bytes h = version_and_type_begin versions order bytes n h.size (nat_le (least_length versions) n) (nat_le 3 n) h.seen h.taken h.is

-- ---- its fields

same_number : (order : Order) (n x y : ℕ) (a b : List ℕ) → x < 256 ^ n → y < 256 ^ n → fixed_bytes order n x ++ a ≡ fixed_bytes order n y ++ b → (x ≡ y) × (a ≡ b)
same_number order n x y a b = one_front (fixed order n) (read_fixed order n) (fixed_decides order n) x y a b

five_accepted : (versions : Versions) → bad_version_under versions 5 ≡ None
five_accepted Five = refl
five_accepted FourAndFive = refl

module _ (versions : Versions) (order : Order) (bytes : List ℕ) where
  -- the version that is shown is accepted
  version_fits : BeginsFour versions order bytes ⊎ BeginsFive order bytes → (version : ℕ) (rest : List ℕ) → version < 256 ^ 2 → bytes ≡ fixed_bytes order 2 version ++ rest → bad_version_under versions version ≡ None
  version_fits (inl (is, (more, split))) version rest small e =
      let four = same_number order 2 version 4 rest more small (omega arith) (sym e ∙ split) in
      rw (is, four.0) refl
  version_fits (inr h) version rest small e =
      let five = same_number order 2 version 5 rest (fixed_bytes order 1 h.type ++ h.more) small (omega arith) (sym e ∙ h.split) in
      rw five.0 (five_accepted versions)

  -- and where it isn't 4, the unit type is one of the standard
  type_fits : BeginsFour versions order bytes ⊎ BeginsFive order bytes → (version : ℕ) (rest : List ℕ) → version < 256 ^ 2 → bytes ≡ fixed_bytes order 2 version ++ rest → (version == 4) ≡ false
      → (type : ℕ) (more : List ℕ) → type < 256 ^ 1 → rest ≡ fixed_bytes order 1 type ++ more → bad_type type ≡ None
  type_fits (inl (is, (more, split))) version rest small e odd type behind fits f =
      absurd (eqb-false version 4 odd (same_number order 2 version 4 rest more small (omega arith) (sym e ∙ split)).0)
  type_fits (inr h) version rest small e odd type behind fits f =
      let five = same_number order 2 version 5 rest (fixed_bytes order 1 h.type ++ h.more) small (omega arith) (sym e ∙ h.split) in
      let same = same_number order 1 type h.type behind h.more fits h.small (sym f ∙ five.1) in
      let known : nat_lt 0 type && nat_lt type 5 ≡ true = subst (λ (x : ℕ). nat_lt 0 x && nat_lt x 5 ≡ true) (sym same.0) h.known in
      rw known refl

  none_some : (o : Option Reason) (reason : Reason) → o ≡ None → o ≡ Some reason → ⊥
  none_some o reason e f = absurd cc

  type_never_kind : BeginsFour versions order bytes ⊎ BeginsFive order bytes → (format : Format) (version : ℕ) (rest : List ℕ) → version < 256 ^ 2 → bytes ≡ fixed_bytes order 2 version ++ rest → (version == 4) ≡ false
      → (lim offset : ℕ) (reason : Reason) → (five_part order format).Break rest lim offset reason → NotKind reason
  type_never_kind begins format version rest small e odd lim offset reason (inl (inl short)) = Short_never_kind 1 rest lim offset reason short
  type_never_kind begins format version rest small e odd lim offset reason (inl (inr bad)) =
      absurd (none_some (bad_type bad.value) reason (type_fits begins version rest small e odd bad.value bad.rest bad.fits bad.split) bad.refused)
  type_never_kind begins format version rest small e odd lim offset reason (inr (type, fits, after)) =
      After_never_kind (fixed_bytes order 1 type) (behind_type order format type).Break (behind_type_never_kind order format type) rest lim offset reason after

  behind_version : BeginsFour versions order bytes ⊎ BeginsFive order bytes → (format : Format) (version : ℕ) (rest : List ℕ) → version < 256 ^ 2 → bytes ≡ fixed_bytes order 2 version ++ rest → (four : Bool) → (version == 4) ≡ four
      → (lim offset : ℕ) (reason : Reason) → (fields_behind order format four).Break rest lim offset reason → NotKind reason
  behind_version begins format version rest small e true is lim offset reason h = four_never_kind order format rest lim offset reason h
  behind_version begins format version rest small e false is lim offset reason h = type_never_kind begins format version rest small e is lim offset reason h

  fields_break : BeginsFour versions order bytes ⊎ BeginsFive order bytes → (format : Format) (lim offset : ℕ) (reason : Reason) → (fields_under versions order format).Break bytes lim offset reason → NotKind reason
  fields_break begins format lim offset reason (inl (inl short)) = Short_never_kind 2 bytes lim offset reason short
  fields_break begins format lim offset reason (inl (inr bad)) =
      absurd (none_some (bad_version_under versions bad.value) reason (version_fits begins bad.value bad.rest bad.fits bad.split) bad.refused)
  fields_break begins format lim offset reason (inr (version, fits, after)) =
      behind_version begins format version after.rest fits.0 after.split (version == 4) refl (lim - length (fixed_bytes order 2 version)) after.own reason after.breaks

-- ---- its unit

header_breaks : (versions : Versions) (order : Order) (start : ℕ) (bytes : List ℕ) → IsKnown versions order start bytes → (offset : ℕ) (reason : Reason) → HeaderBreaksUnder versions order bytes offset reason → NotKind reason
header_breaks versions order start bytes known offset reason (inl length) = initial_length_never_kind order 0 bytes length_limit offset reason length
header_breaks versions order start bytes (format, n, rest, begins, shows) offset reason (inr (f, m, more, own, fits, split, sum, breaks)) =
    let front = one_front (initial_length order 0) (read_length order 0) (initial_length_decides order 0) (f, m) (format, n) more rest fits (fits_alone order start format n begins.fits) (sym split ∙ begins.split) in
    let begun = known_begins versions order n rest shows in
    fields_break versions order rest begun f m own reason (subst (λ (b : List ℕ). (fields_under versions order f).Break b m own reason) front.1 breaks)

item_fails : (versions : Versions) (order : Order) (abbreviations : List ℕ) (start : ℕ) (bytes : List ℕ) (s : SectionId) (offset : ℕ) (reason : Reason) → ItemFails versions order abbreviations start bytes s offset reason → NotKind reason
item_fails versions order abbreviations start bytes Info offset reason (inl (own, sum, breaks)) = initial_length_never_kind order start bytes length_limit own reason breaks
item_fails versions order abbreviations start bytes Info offset reason (inr (inl (format, n, rest, own, begins, sum, breaks))) = same_reason reason Truncated (version_and_type_cut versions order n rest own reason breaks) refl
item_fails versions order abbreviations start bytes Info offset reason (inr (inr (inl (format, n, rest, begins, shows, cut, sum, why)))) = same_reason reason Truncated why refl
item_fails versions order abbreviations start bytes Info offset reason (inr (inr (inr (known, (own, sum, inl header))))) = header_breaks versions order start bytes known own reason header
item_fails versions order abbreviations start bytes Info offset reason (inr (inr (inr (known, (own, sum, inr body))))) =
    entries_never_kind (context_of body.header) body.table body.stands.1 (left_behind body.header body.count) body.own reason body.breaks
item_fails versions order abbreviations start bytes Abbrev offset reason (known, (h, n, stands, breaks)) = table_is_none abbreviations h.abbrev_offset offset reason breaks

-- ---- the law

not_these : (reason : Reason) → NotKind reason → (reason ≢ BadVersion) × (reason ≢ BadUnitType)
not_these reason h = (λ e. by BadVersion e refl, λ e. by BadUnitType e refl)
  where
    by : (q : Reason) → reason ≡ q → refuses_kind q ≡ true → ⊥
    by q e is = let both : true ≡ false = sym is ∙ sym (ap (λ (r : Reason). refuses_kind r) e) ∙ h in cc

pub no_kind_faults : NoKindFaults
no_kind_faults versions order abbreviations bytes s n reason h = not_these reason (item_fails versions order abbreviations _ h.rest s n reason h.fails)
