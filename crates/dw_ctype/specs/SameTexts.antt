-- Sections of texts in which the same can be read.
use Rattle.std.specs.Prelude.{◌≡◌, ℕ, List}
use Rattle.dw_strings.specs.Text.{StringSections, text_at}
use Rattle.dw_ctype.specs.Types.{readable}

abbrev pub SameIn : List ℕ → List ℕ → Type 0
SameIn one other = (offset : ℕ) → readable (text_at one offset) ≡ readable (text_at other offset)

pub record SameTexts (one other : StringSections) : Type 0 where
  pub str : SameIn one.str other.str
  pub line_str : SameIn one.line_str other.line_str
  pub str_offsets : one.str_offsets ≡ other.str_offsets
