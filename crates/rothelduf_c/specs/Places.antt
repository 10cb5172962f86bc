-- Where the contents of texts and blocks stand in the bytes that C has of a section (sections 7.5.5 and 7.5.6).
use Rattle.std.specs.Prelude.{◌≡◌, ◌+◌, ℕ, List, length, take, drop, Some}
use Rattle.std.specs.List.{Contains}
use Rattle.dw_form.specs.Pieces.{content_of}
use Rattle.dw_tree.specs.Lent.{EntryAt, LentAttribute, attributes_of}
use Rattle.dw_section.specs.declared.id.EntryId.{EntryId}
use Rattle.dw_section.specs.Lookup.{entry, start_of}
use Rattle.dw_section.specs.Section.{WholeSection}
use Rattle.rothelduf_c.specs.Seen.{seen_attr}

-- The content of an attribute's text or block stands where C is told: so many bytes behind the start of its unit, the
-- offset of its value in the unit, and what of the value is before the content.
pub record ContentStands (bytes : List ℕ) (start : ℕ) (a : LentAttribute) : Type 0 where
  pub length_is : (seen_attr a).length ≡ length (content_of a.attr.value)
  pub content_is :
      take (seen_attr a).length (drop (start + (seen_attr a).offset + (seen_attr a).front) bytes)
      ≡ content_of a.attr.value

-- So does that of each attribute of each entry of the section. Of an attribute that has none no byte is told.
abbrev pub ContentsStand : List ℕ → WholeSection → Type 0
ContentsStand bytes s =
    (id : EntryId) (start : ℕ) (e : EntryAt) (a : LentAttribute) → start_of s.items id.item ≡ Some start
    → entry s.items id ≡ Some e → Contains (attributes_of e) a → ContentStands bytes start a
