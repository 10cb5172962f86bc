-- Sections read by a plain, slow reader.
use Rattle.std.specs.Prelude.{ℕ, zero, suc, ◌+◌, Bool, true, false, List, [], ◌∷◌, length, take, drop, Option, nat_le, ◌==◌, ◌&&◌, if◌then◌else◌}
use Rattle.dw_leb.specs.declared.errors.Reason.{Reason}
use Rattle.dw_leb.specs.declared.errors.Reason.TheVariants.{Truncated}
use Rattle.dw_leb.specs.declared.errors.SectionId.{SectionId}
use Rattle.dw_leb.specs.declared.errors.SectionId.TheVariants.{Info, Abbrev}
use Rattle.dw_leb.specs.declared.order.Order.{Order}
use Rattle.dw_leb.specs.declared.order.Format.{Format}
use Rattle.dw_leb.specs.Number.{length_limit, length_size}
use Rattle.dw_leb.specs.Reader.{Outcome, Found, Broken, Reader, ◌and_then◌, read_optional}
use Rattle.dw_leb.specs.ReadNumber.{read_fixed, read_length}
use Rattle.dw_header.specs.declared.versions.Versions.{Versions}
use Rattle.dw_unit.specs.ReadUnit.{Answer, Unit, Fault, read_unit_under}
use Rattle.dw_section.specs.Item.{Item, Known, Other, VersionAndType, least_length, is_known}

abbrev pub read_version_and_type : Versions → Order → ℕ → Reader (Option VersionAndType)
read_version_and_type versions order n =
    read_optional (nat_le (least_length versions) n)
    (read_fixed order 2 and_then λ version. read_optional (version == 5 && nat_le 3 n) (read_fixed order 1))

-- what reading one item gives: the item and its size, or a fault whose place counts from the section's first byte
pub data ItemAnswer : Type 0 where
  IsItem : Item → ℕ → ItemAnswer
  IsFault : SectionId → ℕ → Reason → ItemAnswer

-- a fault in the unit's own bytes is moved by its start, a table's is not
abbrev pub moved : ℕ → SectionId → ℕ → Reason → ItemAnswer
moved start Info offset reason = IsFault Info (start + offset) reason
moved start Abbrev offset reason = IsFault Abbrev offset reason

abbrev pub answer_known : ℕ → Answer → ItemAnswer
answer_known start (Unit u size) = IsItem (Known u) size
answer_known start (Fault s offset reason) = moved start s offset reason

-- so many bytes behind a length field of so many
abbrev pub answer_other : ℕ → List ℕ → ℕ → ℕ → ItemAnswer
answer_other start bytes field n =
    if nat_le (field + n) (length bytes) then IsItem (Other (take (field + n) bytes)) (field + n)
    else IsFault Info (start + field) Truncated

abbrev pub answer_kind : Versions → Order → List ℕ → ℕ → List ℕ → Format → ℕ → Bool → ItemAnswer
answer_kind versions order abbreviations start bytes format n true =
    answer_known start (read_unit_under versions order abbreviations bytes)
answer_kind versions order abbreviations start bytes format n false = answer_other start bytes (length_size format) n

abbrev pub answer_version_and_type : Versions → Order → List ℕ → ℕ → List ℕ → Format → ℕ
    → Outcome (Option VersionAndType) → ItemAnswer
answer_version_and_type versions order abbreviations start bytes format n (Found m size) =
    answer_kind versions order abbreviations start bytes format n (is_known versions m)
answer_version_and_type versions order abbreviations start bytes format n (Broken own reason) =
    IsFault Info (start + length_size format + own) reason

abbrev pub answer_begin : Versions → Order → List ℕ → ℕ → List ℕ → Outcome (Format × ℕ) → ItemAnswer
answer_begin versions order abbreviations start bytes (Found x field) =
    answer_version_and_type versions order abbreviations start bytes x.0 x.1
    (read_version_and_type versions order x.1 (drop field bytes) x.1)
answer_begin versions order abbreviations start bytes (Broken own reason) = IsFault Info (start + own) reason

unfoldable pub read_item : Versions → Order → List ℕ → ℕ → List ℕ → ItemAnswer
read_item versions order abbreviations start bytes =
    answer_begin versions order abbreviations start bytes (read_length order start bytes length_limit)

-- what reading a section gives
pub data SectionAnswer : Type 0 where
  Items : List Item → SectionAnswer
  Fails : SectionId → ℕ → Reason → SectionAnswer

abbrev pub put_before : Item → SectionAnswer → SectionAnswer
put_before x (Items xs) = Items (x ∷ xs)
put_before x (Fails s offset reason) = Fails s offset reason

abbrev pub behind_item : ℕ → List ℕ → (ℕ → List ℕ → SectionAnswer) → ItemAnswer → SectionAnswer
behind_item start bytes next (IsItem x size) = put_before x (next (start + size) (drop size bytes))
behind_item start bytes next (IsFault s offset reason) = Fails s offset reason

-- fuel: more than the bytes
abbrev pub read_items : Versions → Order → List ℕ → ℕ → ℕ → List ℕ → SectionAnswer
read_items versions order abbreviations zero start bytes = Fails Info start Truncated
read_items versions order abbreviations (suc fuel) start [] = Items []
read_items versions order abbreviations (suc fuel) start (b ∷ bytes) =
    behind_item start (b ∷ bytes) (read_items versions order abbreviations fuel)
    (read_item versions order abbreviations start (b ∷ bytes))

unfoldable pub read_section : Versions → Order → List ℕ → List ℕ → SectionAnswer
read_section versions order abbreviations bytes = read_items versions order abbreviations (suc (length bytes)) 0 bytes
