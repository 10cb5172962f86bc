-- Each item has a start.
use Rattle.std.proofs.Common.{◌≡◌, ℕ, zero, suc, ◌+◌, List, [], ◌∷◌, length, None, refl}
use Rattle.std.specs.Prelude.{slice_get}
use Rattle.dw_section.specs.Item.{Item, item_bytes}
use Rattle.dw_section.specs.Lookup.{starts_from}

pub no_start_no_item : (xs : List Item) (start i : ℕ) → slice_get (starts_from start xs) i ≡ None → slice_get xs i ≡ None
no_start_no_item [] start i e = refl
no_start_no_item (x ∷ xs) start zero e = absurd cc
no_start_no_item (x ∷ xs) start (suc i) e = no_start_no_item xs (start + length (item_bytes x)) i e
