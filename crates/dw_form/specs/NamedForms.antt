-- A value that has a spelling names a form of the table, whose numbers have 16 bits.
use Rattle.std.specs.Prelude.{◌≡◌, ◌<◌, ◌^◌, ◌==◌, ltb, ℕ, Bool, true, false, cond, List, [], ◌∷◌, Option, Some, None, IfSome}
use Rattle.std.proofs.Common.{refl, sym}
use Rattle.std.proofs.lemmas.Bool.{eqb-true, ltb-true}
use Rattle.dw_leb.specs.Number.{Unsigned}
use Rattle.dw_leb.specs.declared.order.Format.{Format}
use Rattle.dw_form.specs.declared.shape.Ctx.{Ctx}
use Rattle.dw_form.specs.Form.{Attribute, shape, forms, at_number}
use Rattle.dw_form.specs.StoredView.{NamesForm}
use Rattle.dw_form.specs.Pieces.{HasSpelling, constant_in, form_in, form_known}

abbrev all_short : {X : Type 0} → List (ℕ × X) → Bool
all_short [] = true
all_short (row ∷ rows) = cond (ltb row.0 0x10000) (all_short rows) false

both : (v w : Bool) → cond v w false ≡ true → (v ≡ true) × (w ≡ true)
both true w e = (refl, e)
both false w e = absurd cc

found_short : {X : Type 0} (n : ℕ) (rows : List (ℕ × X)) → all_short rows ≡ true → (at_number n rows ≡ None → ⊥)
    → n < 0x10000
found_short n [] short there = absurd (there refl)
found_short n (row ∷ rows) short there = by (row.0 == n) refl (found_short n rows parts.1)
  where
    parts : (ltb row.0 0x10000 ≡ true) × (all_short rows ≡ true)
    parts = both (ltb row.0 0x10000) (all_short rows) short

    by : (v : Bool) → (row.0 == n) ≡ v → ((at_number n rows ≡ None → ⊥) → n < 0x10000) → n < 0x10000
    by true same later = let low = ltb-true row.0 0x10000 parts.0 in rw (sym (eqb-true row.0 n same)) low
    by false other later = later (λ none. there (rw other none))

form_short : (form address_size : ℕ) (format : Format) → (shape form address_size format ≡ None → ⊥) → form < 2 ^ 16
unfolding shape
form_short form address_size format there = found_short form (forms address_size format) refl there

pub spelled_names : (k : Ctx) (form : ℕ) (a : Attribute) → HasSpelling k form a → NamesForm a
spelled_names k form a fits = by a.via (form_known k form (constant_in a.value) a fits)
  where
    by : (via : Option Unsigned) → (shape (form_in form via) k.address_size k.format ≡ None → ⊥)
        → IfSome via (λ u. u.value < 2 ^ 16)
    by None there = tt
    by (Some u) there = form_short u.value k.address_size k.format there
