-- Bytes that were put behind others.
use Rattle.std.specs.Prelude.{◌≡◌, ℕ, List, [], ◌++◌}
use Rattle.std.proofs.Common.{sym, ap, ◌∙◌, append_assoc, append-nil}

-- those that were there stand in front
abbrev pub Grown : List ℕ → List ℕ → Type 0
Grown before now = (more : List ℕ) × (now ≡ before ++ more)

pub grown_same : (before now : List ℕ) → now ≡ before → Grown before now
grown_same before now e = ([], e ∙ sym (append-nil before))

pub grown_then : (before now later : List ℕ) → Grown before now → Grown now later → Grown before later
grown_then before now later a b = (a.0 ++ b.0, b.1 ∙ (ap (λ (x : List ℕ). x ++ b.0) a.1 ∙ append_assoc before a.0 b.0))
