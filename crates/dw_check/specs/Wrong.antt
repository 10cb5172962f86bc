-- What is wrong with an attribute, as findings.
use Rattle.std.specs.Prelude.{ℕ, List, ◌++◌}
use Rattle.dw_check.specs.declared.attribute.Wrong.{Wrong}
use Rattle.dw_check.specs.declared.finding.Finding.{Finding}
use Rattle.dw_check.specs.declared.finding.FindingKind.TheVariants.{BadReference, BadSibling, BadText, RepeatedName}
use Rattle.dw_check.specs.Findings.{finding_if}

-- one for each thing that is wrong
abbrev pub findings_of : Wrong → ℕ → ℕ → List Finding
findings_of w offset position =
    finding_if w.reference offset position BadReference
    ++ (finding_if w.sibling offset position BadSibling
    ++ (finding_if w.text offset position BadText
    ++ finding_if w.name offset position RepeatedName))
