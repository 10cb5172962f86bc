-- What the forms of the standard tell of the sizes of their values, as it stands in tables.
use Rattle.std.proofs.Common.{◌≡◌, ℕ, zero, suc, ◌+◌, ◌<◌, ◌≤◌, ◌==◌, true, List, [], ◌∷◌, length, refl, ap, ◌∙◌, arith}
use Rattle.std.specs.Prelude.{slice_index_or, nat_lt, is_some, not}
use Rattle.std.proofs.lemmas.Bool.{ltb-true}
use mir.Val.{bool_byte}
use Rattle.dw_abbrev.specs.Parts.{told_by, bytes_or, addresses_or, offsets_or}

abbrev pub kinds : List ℕ
kinds = 45 ∷ 97 ∷ 45 ∷ 45 ∷ 45 ∷ 98 ∷ 98 ∷ 98 ∷ 45 ∷ 45 ∷ 45 ∷ 98 ∷ 98 ∷ 45 ∷ 111 ∷ 45 ∷ 111 ∷ 98 ∷ 98 ∷ 98 ∷ 98 ∷ 45 ∷ 45 ∷ 111 ∷ 45 ∷ 98 ∷ 45 ∷ 45 ∷ 98 ∷ 111 ∷ 98 ∷ 111 ∷ 98 ∷ 98 ∷ 45 ∷ 45 ∷ 98 ∷ 98 ∷ 98 ∷ 98 ∷ 98 ∷ 98 ∷ 98 ∷ 98 ∷ 98 ∷ []

abbrev pub bytes : List ℕ
bytes = 0 ∷ 0 ∷ 0 ∷ 0 ∷ 0 ∷ 2 ∷ 4 ∷ 8 ∷ 0 ∷ 0 ∷ 0 ∷ 1 ∷ 1 ∷ 0 ∷ 0 ∷ 0 ∷ 0 ∷ 1 ∷ 2 ∷ 4 ∷ 8 ∷ 0 ∷ 0 ∷ 0 ∷ 0 ∷ 0 ∷ 0 ∷ 0 ∷ 4 ∷ 0 ∷ 16 ∷ 0 ∷ 8 ∷ 0 ∷ 0 ∷ 0 ∷ 8 ∷ 1 ∷ 2 ∷ 3 ∷ 4 ∷ 1 ∷ 2 ∷ 3 ∷ 4 ∷ []

-- the rows of a table say this of the forms, from one on
abbrev AreThose : {X : Type 0} → (ℕ → X) → (ℕ → X) → List ℕ → ℕ → Type 0
AreThose f g [] n = Unit {0}
AreThose f g (x ∷ xs) n = (f x ≡ g n) × AreThose f g xs (n + 1)

row_there : {X : Type 0} (f g : ℕ → X) (xs : List ℕ) (d n i : ℕ) → AreThose f g xs n → i < length xs → f (slice_index_or xs i d) ≡ g (n + i)
row_there f g [] d n i h lt = absurd (omega (arith, lt))
row_there f g (x ∷ xs) d n zero h lt = let same : n ≡ n + 0 = omega arith in h.0 ∙ ap g same
row_there f g (x ∷ xs) d n (suc i) h lt = let same : n + 1 + i ≡ n + suc i = omega arith in row_there f g xs d (n + 1) i h.1 (omega (arith, lt)) ∙ ap g same

at_row : {X : Type 0} (f g : ℕ → X) (xs : List ℕ) (form : ℕ) → AreThose f g xs 0 → form < length xs → f (slice_index_or xs form 0) ≡ g form
at_row f g xs form h lt = let same : 0 + form ≡ form = omega arith in row_there f g xs 0 0 form h lt ∙ ap g same

pub told_there : (form : ℕ) → form < 45 → not (slice_index_or kinds form 0 == 45) ≡ is_some (told_by form)
told_there form lt = at_row (λ k. not (k == 45)) (λ n. is_some (told_by n)) kinds form (refl, (refl, (refl, (refl, (refl, (refl, (refl, (refl, (refl, (refl, (refl, (refl, (refl, (refl, (refl, (refl, (refl, (refl, (refl, (refl, (refl, (refl, (refl, (refl, (refl, (refl, (refl, (refl, (refl, (refl, (refl, (refl, (refl, (refl, (refl, (refl, (refl, (refl, (refl, (refl, (refl, (refl, (refl, (refl, (refl, tt))))))))))))))))))))))))))))))))))))))))))))) lt

pub bytes_there : (form : ℕ) → form < 45 → slice_index_or bytes form 0 ≡ bytes_or (told_by form)
bytes_there form lt = at_row (λ k. k) (λ n. bytes_or (told_by n)) bytes form (refl, (refl, (refl, (refl, (refl, (refl, (refl, (refl, (refl, (refl, (refl, (refl, (refl, (refl, (refl, (refl, (refl, (refl, (refl, (refl, (refl, (refl, (refl, (refl, (refl, (refl, (refl, (refl, (refl, (refl, (refl, (refl, (refl, (refl, (refl, (refl, (refl, (refl, (refl, (refl, (refl, (refl, (refl, (refl, (refl, tt))))))))))))))))))))))))))))))))))))))))))))) lt

pub addresses_there : (form : ℕ) → form < 45 → bool_byte (slice_index_or kinds form 0 == 97) ≡ addresses_or (told_by form)
addresses_there form lt = at_row (λ k. bool_byte (k == 97)) (λ n. addresses_or (told_by n)) kinds form (refl, (refl, (refl, (refl, (refl, (refl, (refl, (refl, (refl, (refl, (refl, (refl, (refl, (refl, (refl, (refl, (refl, (refl, (refl, (refl, (refl, (refl, (refl, (refl, (refl, (refl, (refl, (refl, (refl, (refl, (refl, (refl, (refl, (refl, (refl, (refl, (refl, (refl, (refl, (refl, (refl, (refl, (refl, (refl, (refl, tt))))))))))))))))))))))))))))))))))))))))))))) lt

pub offsets_there : (form : ℕ) → form < 45 → bool_byte (slice_index_or kinds form 0 == 111) ≡ offsets_or (told_by form)
offsets_there form lt = at_row (λ k. bool_byte (k == 111)) (λ n. offsets_or (told_by n)) kinds form (refl, (refl, (refl, (refl, (refl, (refl, (refl, (refl, (refl, (refl, (refl, (refl, (refl, (refl, (refl, (refl, (refl, (refl, (refl, (refl, (refl, (refl, (refl, (refl, (refl, (refl, (refl, (refl, (refl, (refl, (refl, (refl, (refl, (refl, (refl, (refl, (refl, (refl, (refl, (refl, (refl, (refl, (refl, (refl, (refl, tt))))))))))))))))))))))))))))))))))))))))))))) lt

pub bytes_few : (form : ℕ) → form < 45 → slice_index_or bytes form 0 ≤ 16
bytes_few form lt = omega (arith, ltb-true (slice_index_or bytes form 0) 17 (at_row (λ k. nat_lt k 17) (λ _. true) bytes form (refl, (refl, (refl, (refl, (refl, (refl, (refl, (refl, (refl, (refl, (refl, (refl, (refl, (refl, (refl, (refl, (refl, (refl, (refl, (refl, (refl, (refl, (refl, (refl, (refl, (refl, (refl, (refl, (refl, (refl, (refl, (refl, (refl, (refl, (refl, (refl, (refl, (refl, (refl, (refl, (refl, (refl, (refl, (refl, (refl, tt))))))))))))))))))))))))))))))))))))))))))))) lt))
