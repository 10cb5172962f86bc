use Rattle.std.proofs.Common.{◌≡◌, ◌≤◌, ◌-◌, length}
use Rattle.std.specs.Prelude.{map, ◌⊎◌}
use Rattle.dw_abbrev.specs.Table.{is_null, declaration_parts}
use Rattle.dw_abbrev.specs.ReadTable.{read_code, read_described}
use Rattle.dw_abbrev.specs.TableErrors.{Declares}
use Rattle.dw_abbrev.specs.Place.{ReadTo}
use Rattle.dw_abbrev.proofs.table.Table.scan.Given as goal

-- the declarations up to here are read
abbrev pub invariant-loop-decls : goal.invariant-loop-decls
invariant-loop-decls l =
    record {
      read : ReadTo read_code is_null (λ _. read_described) l.abbreviations l.at (map declaration_parts l.decls) l.here;
      begun : (l.here ≡ l.at) ⊎ Declares l.abbreviations l.at;
      within : l.here ≤ length l.abbreviations;
      keeps : l.known.keeps ≡ l.fn.known.keeps;
    }

abbrev pub decreases-loop-decls : goal.decreases-loop-decls
decreases-loop-decls l = length l.abbreviations - l.here
