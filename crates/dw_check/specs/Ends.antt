-- Where the texts of a section end: behind the last zero byte.
use Rattle.std.specs.Prelude.{◌≡◌, ℕ, nat_le, Bool, false, List, Option, Some, None}
use Rattle.dw_strings.specs.Text.{StringSections, text_at}
use Rattle.dw_check.specs.declared.ends.TextEnds.{TextEnds}
use Rattle.dw_check.specs.Findings.{is_unreadable}

-- exactly the offsets before it have a text
abbrev pub IsEnd : List ℕ → ℕ → Type 0
IsEnd section end = (offset : ℕ) → is_unreadable (text_at section offset) ≡ nat_le end offset

pub record AreEnds (s : StringSections) (ends : TextEnds) : Type 0 where
  pub str : IsEnd s.str ends.str
  pub line_str : IsEnd s.line_str ends.line_str

-- it is an offset, and not before the end
abbrev pub is_behind : ℕ → Option ℕ → Bool
is_behind end None = false
is_behind end (Some offset) = nat_le end offset
