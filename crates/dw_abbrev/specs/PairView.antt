-- Pairs of the program as pairs of the grammar.
use Rattle.std.specs.Prelude.{List, Option, map, option_map}
use Rattle.dw_leb.specs.Number.{Unsigned, Signed}
use Rattle.dw_leb.specs.declared.unsigned.Uleb.{Uleb}
use Rattle.dw_leb.specs.declared.signed.Sleb.{Sleb}
use Rattle.dw_leb.specs.View.{uleb_of, sleb_of}
use Rattle.dw_abbrev.specs.Table.{Pair as ThePair, pair_parts}
use Rattle.dw_abbrev.specs.declared.pair.Pair.{Pair}
use Rattle.dw_abbrev.specs.declared.pair.Zeros.{Zeros}

abbrev pub pair_of : Pair → ThePair
pair_of p = record { name = uleb_of p.name; form = uleb_of p.form; constant = option_map sleb_of p.constant }

abbrev pub pair_from : Uleb → Uleb → Option Sleb → ThePair
pair_from name form constant =
    record { name = uleb_of name; form = uleb_of form; constant = option_map sleb_of constant }

-- pairs that are read, as the plain reader sees them
abbrev pub pairs_of : List Pair → Zeros → List ((Unsigned × Unsigned) × Option Signed) × (Unsigned × Unsigned)
pairs_of ps z = (map pair_parts (map pair_of ps), (uleb_of z.name_zero, uleb_of z.form_zero))
