-- The one right value of a DW_AT_sibling (section 2.3; own: exactly there, and in a form that holds such an offset).
use Rattle.std.specs.Prelude.{ℕ, ◌+◌, ◌==◌, Bool, false, Option, Some, None, option_map}
use Rattle.dw_form.specs.Form.{Value, at_number}
use Rattle.dw_form.specs.Lent.{number_in}
use Rattle.dw_tree.specs.Lent.{EntryAt, end_offset_of}
use Rattle.dw_section.specs.declared.resolve.RefKind.{RefKind}
use Rattle.dw_section.specs.declared.resolve.RefKind.TheVariants.{InUnit, InSection, BySignature, Elsewhere}
use Rattle.dw_section.specs.Reference.{ref_forms}

-- where a form's offsets count from, in the unit that starts here: its first byte, or the section's
abbrev pub counted_from : ℕ → Option RefKind → Option ℕ
counted_from start (Some InUnit) = Some 0
counted_from start (Some InSection) = Some start
counted_from start (Some BySignature) = None
counted_from start (Some Elsewhere) = None
counted_from start None = None

-- where what follows the entry and those below it begins: the next sibling, or the null that ends the chain
abbrev pub right_sibling : ℕ → EntryAt → ℕ → Option ℕ
right_sibling start e form = option_map (λ base. base + end_offset_of e) (counted_from start (at_number form ref_forms))

abbrev pub same_number : Option ℕ → Option ℕ → Bool
same_number (Some right) (Some v) = right == v
same_number None v = false
same_number (Some right) None = false

-- a value under a form is that of an entry whose unit starts here
abbrev pub is_right_sibling : ℕ → EntryAt → ℕ → Value → Bool
is_right_sibling start e form v = same_number (right_sibling start e form) (number_in v)
