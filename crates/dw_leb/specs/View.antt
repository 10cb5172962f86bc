-- Numbers of the program as numbers of the grammar.
use Rattle.dw_leb.specs.Number.{Unsigned, Signed}
use Rattle.dw_leb.specs.declared.unsigned.Uleb.{Uleb}
use Rattle.dw_leb.specs.declared.signed.Sleb.{Sleb}

abbrev pub uleb_of : Uleb → Unsigned
uleb_of x = record { value = x.value; width = x.width }

abbrev pub sleb_of : Sleb → Signed
sleb_of x = record { value = x.value; width = x.width }
