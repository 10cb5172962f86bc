-- Refusals of the calls that build a table, computed from their definitions.
use Rattle.std.proofs.Common.{◌≡◌, ◌∷◌, [], ℕ, zero, suc, false, List, Option, Some, None, refl}
use Rattle.dw_leb.specs.Number.{Unsigned, Signed}
use Rattle.std.specs.Prelude.{negsuc}
use Rattle.dw_abbrev.specs.declared.refusal.TableRefusal.TheVariants.{DuplicateCode, TooManyPairs, BadWidth, NoMemory, ZeroCode, HalfPair, WrongConstant}
use Rattle.dw_abbrev.specs.Table.{Pair, Declaration}
use Rattle.dw_abbrev.specs.Build.{width_refusal, new_refusal, pair_refusal, add_refusal, or_memory}

abbrev one_byte : ℕ → Unsigned
one_byte value = record { value = value; width = 1 }

abbrev pair : ℕ → ℕ → Option Signed → Pair
pair name form constant = record { name = one_byte name; form = one_byte form; constant = constant }

abbrev minus_one : Option Signed
minus_one = Some (record { value = negsuc 0; width = 2 })

abbrev so_many : ℕ → List Pair
so_many zero = []
so_many (suc n) = pair 3 8 None ∷ so_many n

abbrev declaration : ℕ → ℕ → Declaration
declaration code count = record { code = one_byte code; tag = one_byte 0x11; children = false; pairs = so_many count; name_zero = 1; form_zero = 1 }

code_first : new_refusal (one_byte 0) (0, 17) ≡ Some ZeroCode
code_first = refl

no_width : new_refusal (one_byte 1) (0, 1) ≡ Some BadWidth
no_width = refl

too_wide : new_refusal (one_byte 1) (16, 17) ≡ Some BadWidth
too_wide = refl

widest : new_refusal (one_byte 1) (16, 16) ≡ None
widest = refl

no_name : pair_refusal (pair 0 8 None) ≡ Some HalfPair
no_name = refl

no_form : pair_refusal (pair 3 0 None) ≡ Some HalfPair
no_form = refl

neither : pair_refusal (pair 0 0 minus_one) ≡ Some HalfPair
neither = refl

stray_constant : pair_refusal (pair 3 8 minus_one) ≡ Some WrongConstant
stray_constant = refl

no_constant : pair_refusal (pair 3 0x21 None) ≡ Some WrongConstant
no_constant = refl

implicit : pair_refusal (pair 3 0x21 minus_one) ≡ None
implicit = refl

unknown_form : pair_refusal (pair 3 0x7f None) ≡ None
unknown_form = refl

code_before_pairs : add_refusal (declaration 1 0 ∷ []) (declaration 1 1025) ≡ Some DuplicateCode
code_before_pairs = refl

one_pair_more : add_refusal (declaration 1 0 ∷ []) (declaration 2 1025) ≡ Some TooManyPairs
one_pair_more = refl

most_pairs : add_refusal (declaration 1 0 ∷ []) (declaration 2 1024) ≡ None
most_pairs = refl

memory_last : or_memory (add_refusal [] (declaration 1 1)) ≡ NoMemory
memory_last = refl

narrowest : width_refusal 1 ≡ None
narrowest = refl

end_too_wide : width_refusal 17 ≡ Some BadWidth
end_too_wide = refl
