-- Abbreviation tables read by a plain, slow reader.
use Rattle.std.specs.Prelude.{ℕ, ◌+◌, Bool, true, false, List, length, drop, Option, nat_lt, ◌==◌, if◌then◌else◌, map}
use Rattle.dw_leb.specs.Constants.{DW_FORM_implicit_const}
use Rattle.dw_leb.specs.declared.errors.Reason.TheVariants.{AbbrevOffset}
use Rattle.dw_leb.specs.declared.order.Order.TheVariants.{Little}
use Rattle.dw_leb.specs.Number.{Unsigned, Signed}
use Rattle.dw_leb.specs.Reader.{Outcome, Found, Broken, Reader, made, checked, read_optional, read_repeated, ◌and_then◌}
use Rattle.dw_leb.specs.ReadNumber.{read_fixed, read_uleb, read_sleb}
use Rattle.dw_abbrev.specs.Table.{Pair, Declaration, Table, is_null, half, is_end, too_many, bad_flag, Described, repeats, unbounded}

-- a name and a form, after so many pairs of their declaration
abbrev pub read_names : ℕ → Reader (Unsigned × Unsigned)
read_names before = checked (checked (read_uleb and_then λ _. read_uleb) half) (too_many before)

abbrev pub read_constant : Unsigned × Unsigned → Reader (Option Signed)
read_constant x = read_optional (x.1.value == DW_FORM_implicit_const) read_sleb

abbrev pub read_pairs : Reader (List ((Unsigned × Unsigned) × Option Signed) × (Unsigned × Unsigned))
read_pairs = read_repeated (λ before. read_names (length before)) is_end read_constant

abbrev pub flag_number : Bool → ℕ
flag_number b = if b then 1 else 0

abbrev pub read_flag : Reader ℕ
read_flag = checked (read_fixed Little 1) bad_flag

abbrev pub read_described : Reader Described
read_described = read_uleb and_then λ _. read_flag and_then λ _. read_pairs

-- a code, after other declarations of its table
abbrev pub read_code : List (Unsigned × Described) → Reader Unsigned
read_code before = checked read_uleb (repeats before)

abbrev pub read_declarations : Reader (List (Unsigned × Described) × Unsigned)
read_declarations = read_repeated read_code is_null (λ _. read_described)

abbrev pub pair_from : (Unsigned × Unsigned) × Option Signed → Pair
pair_from x = record { name = x.0.0; form = x.0.1; constant = x.1 }

abbrev pub declaration_from : Unsigned × Described → Declaration
declaration_from x =
    record {
      code = x.0;
      tag = x.1.0;
      children = (if x.1.1.0 == 0 then false else true);
      pairs = map pair_from x.1.1.1.0;
      name_zero = x.1.1.1.1.0.width;
      form_zero = x.1.1.1.1.1.width;
    }

abbrev pub table_from : List (Unsigned × Described) × Unsigned → Table
table_from x = record { declarations = map declaration_from x.0; last_zero = x.1.width }

unfoldable pub read_table : Reader Table
read_table = made table_from read_declarations

abbrev pub placed : ℕ → Outcome Table → Outcome Table
placed offset (Found t size) = Found t size
placed offset (Broken own reason) = Broken (offset + own) reason

unfoldable pub read_table_at : List ℕ → ℕ → Outcome Table
read_table_at abbreviations offset =
    if nat_lt offset (length abbreviations)
    then placed offset (read_table (drop offset abbreviations) (unbounded abbreviations))
    else Broken offset AbbrevOffset
