-- Declarations that are looked up in one list behind another.
use Rattle.std.proofs.Common.{◌≡◌, ℕ, Bool, true, false, List, [], ◌∷◌, ◌++◌, length, Some, None, refl, ap, arith}
use Rattle.std.specs.Prelude.{◌==◌, if◌then◌else◌}
use Rattle.dw_abbrev.specs.Table.{Declaration, declared_in}
use Rattle.dw_abbrev.specs.TableView.{joined}

pub append_none : {X : Type 0} (xs : List X) → xs ++ [] ≡ xs
append_none [] = refl
append_none (x ∷ xs) = ap (λ ys. x ∷ ys) (append_none xs)

pub declared_before : (xs ys : List Declaration) (code : ℕ) (d : Declaration) → declared_in xs code ≡ Some d → declared_in (xs ++ ys) code ≡ Some d
declared_before [] ys code d e = absurd cc
declared_before (x ∷ xs) ys code d e = by (code == x.code.value) e (declared_before xs ys code d)
  where
    by : (v : Bool) → (if v then Some x else declared_in xs code) ≡ Some d → (declared_in xs code ≡ Some d → declared_in (xs ++ ys) code ≡ Some d) → (if v then Some x else declared_in (xs ++ ys) code) ≡ Some d
    by true f rest = f
    by false f rest = rest f

pub declared_after : (xs ys : List Declaration) (code : ℕ) → declared_in xs code ≡ None → declared_in (xs ++ ys) code ≡ declared_in ys code
declared_after [] ys code e = refl
declared_after (x ∷ xs) ys code e = by (code == x.code.value) e (declared_after xs ys code)
  where
    by : (v : Bool) → (if v then Some x else declared_in xs code) ≡ None → (declared_in xs code ≡ None → declared_in (xs ++ ys) code ≡ declared_in ys code)
        → (if v then Some x else declared_in (xs ++ ys) code) ≡ declared_in ys code
    by true f rest = absurd cc
    by false f rest = rest f

pub none_joined : (runs : List (List Declaration)) (code : ℕ) → length runs ≡ 0 → declared_in (joined runs) code ≡ None
none_joined [] code e = refl
none_joined (run ∷ runs) code e = absurd (omega (arith, e))
