-- A value more is counted by what its form tells.
use Rattle.std.proofs.Common.{◌≡◌, ℕ, ◌+◌, Bool, true, false, List, [], ◌∷◌, ◌++◌, length, Option, Some, None, refl}
use Rattle.std.specs.Prelude.{is_some, not, ◌==◌, ◌||◌, ◌&&◌, if◌then◌else◌}
use Rattle.dw_leb.specs.Number.{Unsigned, Signed}
use Rattle.dw_form.specs.declared.size.FormSize.TheVariants.{Bytes}
use Rattle.dw_form.specs.FormSize.{told_form}
use Rattle.dw_abbrev.specs.declared.refusal.TableRefusal.TheVariants.{HalfPair, WrongConstant}
use Rattle.dw_form.specs.declared.size.FormSize.{FormSize}
use Rattle.dw_abbrev.specs.Table.{Pair, is_null}
use Rattle.dw_abbrev.specs.declared.prefix.FixedPrefix.{FixedPrefix}
use Rattle.dw_abbrev.specs.Prefix.{IsPrefix, told, prefix_parts, parts_size}
use Rattle.dw_abbrev.specs.Parts.{told_by, bytes_or, addresses_or, offsets_or}
use Rattle.dw_abbrev.specs.Build.{constant_belongs, pair_refusal}

pub counted : (ps : List Pair) (p : Pair) (f : FixedPrefix) → IsPrefix ps f → length ps ≡ f.count → (o : Option FormSize) → told p ≡ o → is_some o ≡ true → (new : FixedPrefix) (b u v : ℕ) → b ≡ bytes_or o → u ≡ addresses_or o → v ≡ offsets_or o
    → new.count ≡ f.count + 1 → new.bytes ≡ f.bytes + b → new.addresses ≡ f.addresses + u → new.offsets ≡ f.offsets + v → IsPrefix (ps ++ p ∷ []) new
counted ps p f is all None t some new b u v eb eu ev n hb hu hv = absurd cc
counted ps p f is all (Some s) t some new b u v eb eu ev n hb hu hv = prefix_parts ps p f is all s t new b u v n hb hu hv (λ k. rw (eb, eu, ev) (parts_size k s))

-- ---- a pair that may stand in a declaration

by_null : (n f c : Bool) → (if n || f then Some HalfPair else if c then None else Some WrongConstant) ≡ None → c ≡ true
by_null n f true e = refl
by_null true f false e = absurd cc
by_null false true false e = absurd cc
by_null false false false e = absurd cc

belongs : (p : Pair) → pair_refusal p ≡ None → constant_belongs p.form p.constant ≡ true
belongs p e = by_null (is_null p.name) (is_null p.form) (constant_belongs p.form p.constant) e

rw_not : (b : Bool) → b ≡ true → not b ≡ true → ⊥
rw_not true e h = cc
rw_not false e h = cc

by_constant : (form : Unsigned) (constant : Option Signed) (b : Bool) → (form.value == 0x21) ≡ b → constant_belongs form constant ≡ true → (if is_some constant && b then Some (Bytes 0) else told_form form.value) ≡ (if b then Some (Bytes 0) else told_form form.value)
by_constant form None true e h = absurd (rw_not (form.value == 0x21) e h)
by_constant form None false e h = refl
by_constant form (Some x) true e h = refl
by_constant form (Some x) false e h = refl

-- its form tells what it tells
pub told_same : (p : Pair) → pair_refusal p ≡ None → told p ≡ told_by p.form.value
told_same p e = by_constant p.form p.constant (p.form.value == 0x21) refl (belongs p e)
