-- The texts of errors: their names.
use Rattle.std.specs.Prelude.{ℕ, List, codes}
use Rattle.dw_ctype.specs.declared.fault.TypeError.{TypeError}
use Rattle.dw_ctype.specs.declared.fault.TypeError.TheVariants as errors

-- why no text of a type is given
abbrev pub type_error_name : TypeError → List ℕ
type_error_name errors.NoEntry = codes "NoEntry"
type_error_name errors.TypeTooBig = codes "TypeTooBig"
type_error_name errors.NoMemory = codes "NoMemory"
