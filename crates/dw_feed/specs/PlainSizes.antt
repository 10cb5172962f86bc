-- What is known of a value's size before it is read, as contracts see it.
use Rattle.std.specs.Prelude.{ℕ}
use Rattle.dw_feed.specs.declared.value.PlainSize.{PlainSize}
use Rattle.dw_feed.specs.declared.value.PlainSize.TheVariants as sizes

-- where it stands whole
abbrev pub IfWhole : PlainSize → (ℕ → Type 0) → Type 0
IfWhole (sizes.Whole size) P = P size
IfWhole sizes.NoBytes P = P 0
IfWhole sizes.Cut P = Unit {0}
IfWhole sizes.Untold P = Unit {0}
