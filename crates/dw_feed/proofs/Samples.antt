-- Tables, headers and units in pieces that the worked rows share.
use Rattle.std.specs.Prelude.{ℕ, zero, suc, Bool, true, false, List, [], ◌∷◌, Option, Some, None, ◌++◌}
use Rattle.dw_leb.specs.declared.order.Order.TheVariants.{Little}
use Rattle.dw_leb.specs.declared.order.Format.TheVariants.{Dwarf32}
use Rattle.dw_leb.specs.Number.{Unsigned}
use Rattle.dw_form.specs.Form.{Value, Attribute, Num, Text}
use Rattle.dw_abbrev.specs.Table.{Pair, Declaration, Table}
use Rattle.dw_header.specs.declared.kind.Kind.{Kind}
use Rattle.dw_header.specs.declared.kind.Kind.TheVariants.{Compile}
use Rattle.dw_header.specs.Header.{Header}
use Rattle.dw_tree.specs.Tree.{Tree, none, more, leaf, branch}
use Rattle.dw_tree.specs.Place.{PartialValue, UnfinishedEntry, Place}
use Rattle.dw_tree.specs.Steps.{settle}
use Rattle.dw_feed.specs.BodyFeed.{PartialUnit}

abbrev pub narrow : ℕ → Unsigned
narrow n = record { value = n; width = 1 }

abbrev pub plain : Value → Attribute
plain v = record { via = None; value = v }

-- widths of one byte
abbrev pub pair : ℕ → ℕ → Pair
pair name form = record { name = narrow name; form = narrow form; constant = None }

abbrev pub declaration : ℕ → ℕ → Bool → List Pair → Declaration
declaration code tag children pairs = record { code = narrow code; tag = narrow tag; children = children; pairs = pairs; name_zero = 1; form_zero = 1 }

abbrev pub table_of : List Declaration → Table
table_of declarations = record { declarations = declarations; last_zero = 1 }

-- over a table of one declaration of the code 1, with these pairs, of a compile unit without children
abbrev pub one_declared : List Pair → Table
one_declared pairs = table_of (declaration 1 0x11 false pairs ∷ [])

-- its one value is a name
abbrev pub first_table : Table
first_table = one_declared (pair 3 8 ∷ [])

-- a compile unit with children and a name, and a base type with a size and no children
abbrev pub base_types : Table
base_types = table_of (declaration 1 0x11 true (pair 3 8 ∷ []) ∷ declaration 2 0x24 false (pair 0x0b 0x0b ∷ []) ∷ [])

-- flags that are present, so many
abbrev pub flag_pairs : ℕ → List Pair
flag_pairs zero = []
flag_pairs (suc n) = pair 3 0x19 ∷ flag_pairs n

-- a little-endian header: 32-bit format, addresses of 8 bytes, table at 0
abbrev pub headed : Kind → Header
headed kind = record { order = Little; format = Dwarf32; kind = kind; address_size = 8; abbrev_offset = 0 }

abbrev pub header : Header
header = headed Compile

-- its bytes, with this unit_length
abbrev pub header_is : ℕ → List ℕ
header_is length = length ∷ 0x00 ∷ 0x00 ∷ 0x00 ∷ 0x05 ∷ 0x00 ∷ 0x01 ∷ 0x08 ∷ 0x00 ∷ 0x00 ∷ 0x00 ∷ 0x00 ∷ []

-- those of one of version 4
abbrev pub older_header_is : ℕ → List ℕ
older_header_is length = length ∷ 0x00 ∷ 0x00 ∷ 0x00 ∷ 0x04 ∷ 0x00 ∷ 0x00 ∷ 0x00 ∷ 0x00 ∷ 0x00 ∷ 0x08 ∷ []

-- ---- what each field makes of a unit in pieces

abbrev pub at_place : Place → PartialUnit → PartialUnit
at_place p g = record { header = g.header; unit_length = g.unit_length; table = g.table; place = p; padding = g.padding; named = None; to_come = 0; pending = [] }

abbrev pub with_code : ℕ → PartialUnit → PartialUnit
with_code code g = at_place (settle g.table g.place.spot (narrow code) []) g

abbrev pub value_by : Value → Option UnfinishedEntry → PartialUnit → PartialUnit
value_by v None g = g
value_by v (Some r) g = at_place (settle g.table g.place.spot r.code (r.values ++ plain v ∷ [])) g

abbrev pub with_value : Value → PartialUnit → PartialUnit
with_value v g = value_by v g.place.unfinished g

abbrev pub partial_by : Option PartialValue → ℕ → Option UnfinishedEntry → PartialUnit → PartialUnit
partial_by b to_come None g = g
partial_by b to_come (Some r) g = record {
  header = g.header;
  unit_length = g.unit_length;
  table = g.table;
  place = record { spot = g.place.spot; unfinished = Some (record { code = r.code; values = r.values; partial = b }) };
  padding = g.padding;
  named = None;
  to_come = to_come;
  pending = [];
}

abbrev pub with_text : List ℕ → PartialUnit → PartialUnit
with_text bytes g = partial_by (Some (record { via = None; width = None; bytes = bytes })) 0 g.place.unfinished g

abbrev pub with_block : ℕ → ℕ → List ℕ → PartialUnit → PartialUnit
with_block width to_come bytes g = partial_by (Some (record { via = None; width = Some width; bytes = bytes })) to_come g.place.unfinished g

-- a root with a child, of the table of base types
abbrev pub root_and_child : Tree
root_and_child = branch (narrow 1) (plain (Text (0x61 ∷ [])) ∷ []) (more (leaf (narrow 2) (plain (Num 4) ∷ [])) none) 1
