-- The numbers and the names of the kinds of findings.
use Rattle.std.specs.Prelude.{ℕ, List, codes}
use Rattle.dw_check.specs.declared.finding.FindingKind.{FindingKind}
use Rattle.dw_check.specs.declared.finding.FindingKind.TheVariants.{BadReference, BadSibling, RootTag, TypeOffset, BadText, RepeatedName}

abbrev pub kind_number : FindingKind → ℕ
kind_number BadReference = 1
kind_number BadSibling = 2
kind_number RootTag = 3
kind_number TypeOffset = 4
kind_number BadText = 5
kind_number RepeatedName = 6

abbrev pub kind_name : FindingKind → List ℕ
kind_name BadReference = codes "BadReference"
kind_name BadSibling = codes "BadSibling"
kind_name RootTag = codes "RootTag"
kind_name TypeOffset = codes "TypeOffset"
kind_name BadText = codes "BadText"
kind_name RepeatedName = codes "RepeatedName"
