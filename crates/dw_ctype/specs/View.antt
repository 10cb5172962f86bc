-- The program's section and its texts as those of the definitions.
use Rattle.dw_section.specs.Section.{WholeSection}
use Rattle.dw_strings.specs.declared.strings.Strings.{Strings}
use Rattle.dw_strings.specs.TextView.{sections_of}
use Rattle.dw_ctype.specs.Types.{Source}

abbrev pub source_of : WholeSection → Strings → Source
source_of s texts = record { items = s.items; strings = sections_of texts }
