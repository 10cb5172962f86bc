-- What of the heads of an entry's values becomes another with a number: the head of the first value of a name.
use Rattle.std.specs.Prelude.{ℕ, ℤ, ◌+◌, ◌==◌, Bool, true, false, List, [], ◌∷◌, drop, Option, Some, None, option_map}
use Rattle.dw_form.specs.declared.shape.Ctx.{Ctx}
use Rattle.dw_form.specs.Form.{Attribute}
use Rattle.dw_form.specs.Head.{head_at}
use Rattle.dw_form.specs.Pieces.{spelling}
use Rattle.dw_form.specs.Renumber.{renumbered_in}
use Rattle.dw_abbrev.specs.Table.{Pair}

-- the head of a value with the number: it has no content, so that is its spelling
abbrev pub new_head : Ctx → ℕ → ℤ → Attribute → Option (List ℕ)
new_head k form x v = option_map (spelling k form) (renumbered_in k form x v)

-- a place in the heads, and the bytes that stand there then
abbrev pub Patch : Type 0
Patch = ℕ × List ℕ

abbrev pub from_front : List ℕ → Patch
from_front bytes = (0, bytes)

abbrev pub moved : ℕ → Patch → Patch
moved n q = (n + q.0, q.1)

abbrev pub patch_by : Ctx → ℤ → Pair → Bool → Option (Attribute × ℕ) → (ℕ → Option Patch) → Option Patch
patch_by k x p named None others = None
patch_by k x p true (Some v) others = option_map from_front (new_head k p.form.value x v.0)
patch_by k x p false (Some v) others = option_map (moved v.1) (others v.1)

-- for values under these pairs, whose heads are at the front
abbrev pub patch_in : Ctx → ℕ → ℤ → List Pair → List ℕ → List ℕ → Option Patch
patch_in k name x [] hs pool = None
patch_in k name x (p ∷ ps) hs pool =
    patch_by k x p (p.name.value == name) (head_at k p.form.value p.constant hs pool)
    (λ n. patch_in k name x ps (drop n hs) pool)
