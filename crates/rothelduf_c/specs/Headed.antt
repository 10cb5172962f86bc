-- A header that came, with the unit_length before it (section 7.5.1).
use Rattle.std.specs.Prelude.{ℕ}
use Rattle.dw_header.specs.Header.{Header}

pub record Headed : Type 0 where
  pub header : Header
  pub unit_length : ℕ
