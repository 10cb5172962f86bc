-- What is wrong in a section, a line for each finding.
use Rattle.std.specs.Prelude.{ℕ, List, [], ◌∷◌, ◌++◌, codes}
use Rattle.dw_check.specs.declared.finding.Finding.{Finding}
use Rattle.dw_check.specs.Kinds.{kind_name, kind_number}
use Rattle.dw_tool.specs.Text.{hexadecimal, labelled_decimal}

-- where its entry begins, the position of the attribute, and the number and the name of its kind
abbrev pub finding_line : Finding → List ℕ
finding_line f =
    hexadecimal f.offset
    ++ (labelled_decimal (codes " ") f.position
    ++ (labelled_decimal (codes " ") (kind_number f.kind) ++ (codes " " ++ (kind_name f.kind ++ codes "\n"))))

abbrev pub findings_text : List Finding → List ℕ
findings_text [] = []
findings_text (f ∷ fs) = finding_line f ++ findings_text fs
