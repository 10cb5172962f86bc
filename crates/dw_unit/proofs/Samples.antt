-- Bytes and values that the worked rows share.
use Rattle.std.specs.Prelude.{ℕ, Bool, true, false, List, [], ◌∷◌, Option, None, Some}
use Rattle.dw_leb.specs.declared.order.Order.{Order}
use Rattle.dw_leb.specs.declared.order.Order.TheVariants.{Little, Big}
use Rattle.dw_leb.specs.declared.order.Format.{Format}
use Rattle.dw_leb.specs.declared.order.Format.TheVariants.{Dwarf32}
use Rattle.dw_leb.specs.Number.{Unsigned, Signed}
use Rattle.dw_form.specs.declared.shape.Ctx.{Ctx}
use Rattle.dw_form.specs.Form.{Value, Attribute, Text}
use Rattle.dw_abbrev.specs.Table.{Pair, Declaration, Table}
use Rattle.dw_header.specs.declared.kind.Kind.{Kind}
use Rattle.dw_header.specs.declared.kind.Kind.TheVariants.{Compile}
use Rattle.dw_header.specs.Header.{Header}
use Rattle.dw_tree.specs.Tree.{Tree, leaf}
use Rattle.dw_unit.specs.Unit.{WholeUnit}

-- one declaration: code 1, DW_TAG_compile_unit, no children, DW_AT_name as DW_FORM_string
abbrev pub first_table : List ℕ
first_table = 0x01 ∷ 0x11 ∷ 0x00 ∷ 0x03 ∷ 0x08 ∷ 0x00 ∷ 0x00 ∷ 0x00 ∷ []

-- a little-endian header of a compile unit: 32-bit format, addresses of 8 bytes, table at 0
abbrev pub header : ℕ → List ℕ
header length = length ∷ 0x00 ∷ 0x00 ∷ 0x00 ∷ 0x05 ∷ 0x00 ∷ 0x01 ∷ 0x08 ∷ 0x00 ∷ 0x00 ∷ 0x00 ∷ 0x00 ∷ []

abbrev pub narrow : ℕ → Unsigned
narrow n = record { value = n; width = 1 }

abbrev pub plain : Value → Attribute
plain v = record { via = None; value = v }

-- a value of another form, whose number is one byte
abbrev pub by_way_of : ℕ → Value → Attribute
by_way_of form v = record { via = Some (narrow form); value = v }

-- an entry of the code 1 with one value
abbrev pub entry : Attribute → Tree
entry v = leaf (narrow 1) (v ∷ [])

-- an entry of the code 1 whose name is "a"
abbrev pub named : Tree
named = entry (plain (Text (0x61 ∷ [])))

-- widths of one byte
abbrev pub pair : ℕ → ℕ → Option Signed → Pair
pair name form constant = record { name = narrow name; form = narrow form; constant = constant }

-- a declaration with widths of one byte
abbrev pub declaration : ℕ → ℕ → Bool → List Pair → Declaration
declaration code tag children pairs = record { code = narrow code; tag = narrow tag; children = children; pairs = pairs; name_zero = 1; form_zero = 1 }

abbrev pub table_of : List Declaration → Table
table_of declarations = record { declarations = declarations; last_zero = 1 }

-- addresses of 8 bytes, table at 0
abbrev pub headed : Order → Format → Kind → Header
headed order format kind = record { order = order; format = format; kind = kind; address_size = 8; abbrev_offset = 0 }

-- over a table of one declaration of the code 1, with these pairs, of a compile unit without children
abbrev pub one_declared : List Pair → Table
one_declared pairs = table_of (declaration 1 0x11 false pairs ∷ [])

-- the table of the bytes above
abbrev pub first : Table
first = one_declared (pair 3 8 None ∷ [])

-- no padding
abbrev pub unit_of : Table → Header → Tree → WholeUnit
unit_of t h root = record { header = h; table = t; root = root; padding = [] }

-- under the header above
abbrev pub compiled : Table → Tree → WholeUnit
compiled t root = unit_of t (headed Little Dwarf32 Compile) root

-- a compile unit with children and a name, and a base type with a size and no children
abbrev pub base_types : Table
base_types = table_of (declaration 1 0x11 true (pair 3 8 None ∷ []) ∷ declaration 2 0x24 false (pair 0x0b 0x0b None ∷ []) ∷ [])

abbrev pub little : Format → Ctx
little format = record { order = Little; format = format; address_size = 8 }

abbrev pub big : Format → Ctx
big format = record { order = Big; format = format; address_size = 8 }
