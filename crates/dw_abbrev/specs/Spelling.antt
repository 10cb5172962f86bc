-- Tables as they are written, by their structure alone.
use Rattle.std.specs.Prelude.{ℕ, Bool, List, [], ◌∷◌, ◌++◌, Option, Some, None}
use Rattle.dw_leb.specs.declared.order.Order.TheVariants.{Little}
use Rattle.dw_leb.specs.Number.{Signed, uleb, sleb, fixed_bytes}
use Rattle.dw_abbrev.specs.Table.{Pair, Declaration, Table, zero_of}
use Rattle.dw_abbrev.specs.ReadTable.{flag_number}

abbrev pub constant_bytes : Option Signed → List ℕ
constant_bytes None = []
constant_bytes (Some s) = sleb.spell s

abbrev pub pair_bytes : Pair → List ℕ
pair_bytes p = uleb.spell p.name ++ (uleb.spell p.form ++ constant_bytes p.constant)

abbrev pub pairs_bytes : List Pair → List ℕ
pairs_bytes [] = []
pairs_bytes (p ∷ ps) = pair_bytes p ++ pairs_bytes ps

abbrev pub flag_bytes : Bool → List ℕ
flag_bytes b = fixed_bytes Little 1 (flag_number b)

-- what stands before a declaration's pairs, and behind them
abbrev pub head_bytes : Declaration → List ℕ
head_bytes d = uleb.spell d.code ++ (uleb.spell d.tag ++ flag_bytes d.children)

abbrev pub zeros_bytes : Declaration → List ℕ
zeros_bytes d = uleb.spell (zero_of d.name_zero) ++ uleb.spell (zero_of d.form_zero)

abbrev pub declaration_bytes : Declaration → List ℕ
declaration_bytes d = head_bytes d ++ (pairs_bytes d.pairs ++ zeros_bytes d)

abbrev pub declarations_bytes : List Declaration → List ℕ
declarations_bytes [] = []
declarations_bytes (d ∷ ds) = declaration_bytes d ++ declarations_bytes ds

abbrev pub table_bytes : Table → List ℕ
table_bytes t = declarations_bytes t.declarations ++ uleb.spell (zero_of t.last_zero)
