-- Whether a chain of entries has room for an entry.
use Rattle.std.specs.Prelude.{ℕ, zero, suc, Bool, true, false}

-- so many levels may still be entered
abbrev pub has_room : ℕ → Bool
has_room zero = false
has_room (suc room) = true
