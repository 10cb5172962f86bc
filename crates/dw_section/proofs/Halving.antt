-- The starts of items rise; the item of the last start at or before an offset is the one that holds it.
use Rattle.std.proofs.Common.{◌≡◌, ℕ, zero, suc, ◌+◌, ◌-◌, ◌<◌, ◌≤◌, List, [], ◌∷◌, length, get_or, Some, sym, ap, ◌∙◌, refl, arith}
use Rattle.std.specs.Prelude.{slice_get}
use Rattle.std.specs.List.Sorted.{IsNonDecreasingBy}
use Rattle.std.proofs.lemmas.List.{length-append, append-nil}
use Rattle.dw_section.specs.Item.{Item, item_bytes}
use Rattle.dw_section.specs.Section.{items_bytes}
use Rattle.dw_section.specs.Reference.{items_from, in_item, in_section}
use Rattle.dw_section.specs.Lookup.{starts_from, held_there}

pub starts_length : (xs : List Item) (start : ℕ) → length (starts_from start xs) ≡ length xs
starts_length [] start = refl
starts_length (x ∷ xs) start = ap suc (starts_length xs (start + length (item_bytes x)))

pub starts_low : (xs : List Item) (start j d : ℕ) → j < length xs → start ≤ get_or (starts_from start xs) j d
starts_low [] start j d lt = absurd (omega (arith, lt))
starts_low (x ∷ xs) start zero d lt = omega arith
starts_low (x ∷ xs) start (suc j) d lt = omega (arith, starts_low xs (start + length (item_bytes x)) j d (omega (arith, lt)))

pub starts_rise : (xs : List Item) (start : ℕ) → IsNonDecreasingBy (λ x. x) (starts_from start xs)
starts_rise [] start i j d le lt = absurd (omega (arith, lt))
starts_rise (x ∷ xs) start zero j d le lt = starts_low (x ∷ xs) start j d (omega (arith, lt, starts_length xs (start + length (item_bytes x))))
starts_rise (x ∷ xs) start (suc i) zero d le lt = absurd (omega (arith, le))
starts_rise (x ∷ xs) start (suc i) (suc j) d le lt = starts_rise xs (start + length (item_bytes x)) i j d (omega (arith, le)) (omega (arith, lt))

start_there : (xs : List Item) (start i d : ℕ) → i < length xs → slice_get (starts_from start xs) i ≡ Some (get_or (starts_from start xs) i d)
start_there [] start i d lt = absurd (omega (arith, lt))
start_there (x ∷ xs) start zero d lt = refl
start_there (x ∷ xs) start (suc i) d lt = start_there xs (start + length (item_bytes x)) i d (omega (arith, lt))

below_next : (xs : List Item) (start i v d : ℕ) (x : Item) → slice_get xs i ≡ Some x → ((k e : ℕ) → i < k → k < length xs → v < get_or (starts_from start xs) k e) → v < start + length (items_bytes xs)
    → v < get_or (starts_from start xs) i d + length (item_bytes x)
below_next [] start i v d x e later lt = absurd cc
below_next (y ∷ []) start zero v d x e later lt =
    let same : y ≡ x = cc in
    let size : length (item_bytes x) ≡ length (items_bytes (y ∷ [])) = ap (λ (z : Item). length (item_bytes z)) (sym same) ∙ ap length (sym (append-nil (item_bytes y))) in
    omega (arith, lt, size)
below_next (y ∷ z ∷ zs) start zero v d x e later lt =
    let same : y ≡ x = cc in
    let next : v < start + length (item_bytes y) = later 1 0 (omega arith) (omega arith) in
    omega (arith, next, ap (λ (w : Item). length (item_bytes w)) same)
below_next (y ∷ ys) start (suc i) v d x e later lt =
    below_next ys (start + length (item_bytes y)) i v d x e (λ k f le less. later (suc k) f (omega (arith, le)) (omega (arith, less))) (omega (arith, lt, length-append (item_bytes y) (items_bytes ys)))

pub held_by_last : (xs : List Item) (number start i v d : ℕ) (x : Item) → slice_get xs i ≡ Some x → i < length xs → get_or (starts_from start xs) i d ≤ v → ((k e : ℕ) → i < k → k < length xs → v < get_or (starts_from start xs) k e)
    → v < start + length (items_bytes xs) → in_section (items_from number start xs) v ≡ in_item (number + i) (v - get_or (starts_from start xs) i d) x
held_by_last xs number start i v d x e inside le later lt =
    held_there xs number start i x (get_or (starts_from start xs) i d) v e (start_there xs start i d inside) le (below_next xs start i v d x e later lt)

pub some_item : (xs : List Item) (v : ℕ) → v < length (items_bytes xs) → 0 < length xs
some_item [] v lt = absurd (omega (arith, lt))
some_item (x ∷ xs) v lt = omega arith

pub first_start : (xs : List Item) (d : ℕ) → 0 < length xs → get_or (starts_from 0 xs) 0 d ≡ 0
first_start [] d lt = absurd (omega (arith, lt))
first_start (x ∷ xs) d lt = refl
