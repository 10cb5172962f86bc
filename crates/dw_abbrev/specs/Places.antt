-- Declarations that are looked up by their codes.
use Rattle.std.specs.Prelude.{◌≡◌, ℕ, suc, List, [], ◌∷◌, ◌++◌, Some, None, slice_get}
use Rattle.dw_abbrev.specs.Table.{Declaration, declared_in}

-- no code of a declaration is that of a later one, or of one of the others
abbrev pub AreApart : List Declaration → List Declaration → Type 0
AreApart [] others = Unit {0}
AreApart (d ∷ ds) others = (declared_in (ds ++ others) d.code.value ≡ None) × AreApart ds others

-- their codes are the numbers behind n, one after the other
abbrev pub AreNumbered : ℕ → List Declaration → Type 0
AreNumbered n [] = Unit {0}
AreNumbered n (d ∷ ds) = (d.code.value ≡ suc n) × AreNumbered (suc n) ds

-- the code of each with its index, which counts from n
abbrev pub places_from : ℕ → List Declaration → List (ℕ × ℕ)
places_from n [] = []
places_from n (d ∷ ds) = (d.code.value, n) ∷ places_from (suc n) ds

-- where the declarations stand by their codes: nothing says it as long as these are numbered
abbrev pub ArePlaces : List (ℕ × ℕ) → List Declaration → Type 0
ArePlaces [] ds = AreNumbered 0 ds
ArePlaces (e ∷ es) ds = (e ∷ es) ≡ places_from 0 ds

-- a declaration of this code stands at the index
abbrev pub StandsAt : List Declaration → ℕ → ℕ → Type 0
StandsAt ds i code = (d : Declaration) × (slice_get ds i ≡ Some d) × (d.code.value ≡ code)
