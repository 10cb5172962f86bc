-- What the tests build their trees over.
use Rattle.std.specs.Prelude.{ℕ, true, false, [], ◌∷◌, None}
use Rattle.dw_leb.specs.declared.order.Order.TheVariants.{Little}
use Rattle.dw_leb.specs.declared.order.Format.TheVariants.{Dwarf32}
use Rattle.dw_leb.specs.Number.{Unsigned}
use Rattle.dw_form.specs.declared.shape.Ctx.{Ctx}
use Rattle.dw_form.specs.Form.{Attribute, Text, Num}
use Rattle.dw_abbrev.specs.Table.{Pair, Declaration, Table}
use Rattle.dw_tree.specs.Tree.{leaf}
use Rattle.dw_tree.specs.Place.{add, enter}
use Rattle.dw_tree.specs.Steps.{Growing}

abbrev pub narrow : ℕ → Unsigned
narrow n = record { value = n; width = 1 }

abbrev pub pair : ℕ → ℕ → Pair
pair name form = record { name = narrow name; form = narrow form; constant = None }

-- code 1: DW_TAG_compile_unit, children, DW_AT_name as DW_FORM_string
abbrev pub named : Declaration
named =
    record
    { code = narrow 1; tag = narrow 0x11; children = true; pairs = pair 0x03 0x08 ∷ []; name_zero = 1; form_zero = 1 }

-- code 2: DW_TAG_base_type, no children, DW_AT_byte_size as DW_FORM_data1
abbrev pub sized : Declaration
sized =
    record {
      code = narrow 2;
      tag = narrow 0x24;
      children = false;
      pairs = pair 0x0b 0x0b ∷ [];
      name_zero = 1;
      form_zero = 1;
    }

abbrev pub two_codes : Table
two_codes = record { declarations = named ∷ sized ∷ []; last_zero = 1 }

-- code 1 alone, with children and without values
abbrev pub bare_code : Table
bare_code =
    record {
      declarations = record
          { code = narrow 1; tag = narrow 0x11; children = true; pairs = []; name_zero = 1; form_zero = 1 }
          ∷ [];
      last_zero = 1;
    }

abbrev pub little : Ctx
little = record { order = Little; format = Dwarf32; address_size = 8 }

abbrev pub wide : ℕ → ℕ → Unsigned
wide value width = record { value = value; width = width }

abbrev pub a_name : Attribute
a_name = record { via = None; value = Text (0x61 ∷ []) }

abbrev pub a_size : Attribute
a_size = record { via = None; value = Num 4 }

-- an entry "a" begins
abbrev pub with_name : ℕ → Growing → Growing
with_name width g =
    record g { place = record { spot = enter (wide 1 width) (a_name ∷ []) g.place.spot; unfinished = None } }

-- an entry of the size 4 without children
abbrev pub with_size : ℕ → Growing → Growing
with_size width g =
    record g { place = record { spot = add (leaf (wide 2 width) (a_size ∷ [])) g.place.spot; unfinished = None } }
