-- The program's items as those of the definitions; how the logic stores an item, and a section.
use Rattle.std.specs.Prelude.{◌≡◌, ◌⊎◌, ℕ, List, Bool, true, false}
use Rattle.std.proofs.Common.{refl}
use Rattle.std.specs.Coded.{Coded, code_by, coded×, coded⊎, coded_ℕ, coded_list, coded_bool}
use mathlib.Core.Logic.{inl, inr}
use Rattle.dw_unit.specs.Unit.{WholeUnit}
use Rattle.dw_unit.specs.UnitView.{unit_code}
use Rattle.dw_section.specs.declared.item.Item.{Item as TheItem}
use Rattle.dw_section.specs.declared.item.Item.TheVariants as items
use Rattle.dw_leb.specs.declared.order.Order.{Order}
use Rattle.dw_header.specs.declared.versions.Versions.{Versions}
use Rattle.dw_header.specs.declared.versions.Versions.TheVariants.{Five, FourAndFive}
use Rattle.dw_tree.specs.Codes.{order_code}
use Rattle.dw_section.specs.Item.{Item, Known, Other}
use Rattle.dw_section.specs.Section.{WholeSection}

abbrev pub item_of : TheItem → Item
item_of (items.Known u) = Known u
item_of (items.Other bytes) = Other bytes.items

abbrev from_item : Item → WholeUnit ⊎ List ℕ
from_item (Known u) = inl u
from_item (Other bytes) = inr bytes

abbrev to_item : WholeUnit ⊎ List ℕ → Item
to_item (inl u) = Known u
to_item (inr bytes) = Other bytes

pub to_item-from_item : (x : Item) → to_item (from_item x) ≡ x
to_item-from_item (Known u) = refl
to_item-from_item (Other bytes) = refl

abbrev pub item_code : Coded Item
item_code = code_by (WholeUnit ⊎ List ℕ) (coded⊎ unit_code (coded_list coded_ℕ)) from_item to_item to_item-from_item

abbrev from_versions : Versions → Bool
from_versions Five = true
from_versions FourAndFive = false

abbrev to_versions : Bool → Versions
to_versions true = Five
to_versions false = FourAndFive

pub to_versions-from_versions : (v : Versions) → to_versions (from_versions v) ≡ v
to_versions-from_versions Five = refl
to_versions-from_versions FourAndFive = refl

abbrev versions_code : Coded Versions
versions_code = code_by Bool coded_bool from_versions to_versions to_versions-from_versions

abbrev pub section_code : Coded WholeSection
section_code =
    code_by (Order × (Versions × List Item)) (coded× order_code (coded× versions_code (coded_list item_code)))
    (λ s. (s.order, (s.versions, s.items))) (λ p. record { order = p.0; versions = p.1.0; items = p.1.1 }) (λ _. refl)
