-- A value of one byte under a declaration whose first pair has a form of one byte.
use Rattle.std.proofs.Common.{◌≡◌, ℕ, List, [], ◌∷◌, ◌++◌, Option, None, refl, sym, ap, subst}
use Rattle.dw_leb.specs.Number.{Signed, fixed_bytes}
use Rattle.dw_leb.specs.declared.order.Order.{Order}
use Rattle.dw_leb.specs.declared.order.Order.TheVariants.{Little, Big}
use Rattle.dw_form.specs.declared.shape.Ctx.{Ctx}
use Rattle.dw_form.specs.Form.{Attribute, Num, attribute, shape, shaped}
use Rattle.dw_form.specs.Fit.{fits_is}
use Rattle.dw_abbrev.specs.Table.{Pair}
use Rattle.dw_tree.specs.Steps.{SpellsFirst}

abbrev a_byte : Attribute
a_byte = record { via = None; value = Num 7 }

byte_fits : (k : Ctx) (c : Option Signed) → (attribute k 0x0b c).Fits a_byte
unfolding shape
byte_fits k c = (fits_is k 0x0b c a_byte tt tt).0 refl

either_order : (order : Order) → fixed_bytes order 1 7 ≡ 7 ∷ []
either_order Little = refl
either_order Big = refl

byte_spelled : (k : Ctx) (c : Option Signed) → (attribute k 0x0b c).spell a_byte ≡ 7 ∷ []
unfolding attribute shape shaped
byte_spelled k c = either_order k.order

pub first_byte : (k : Ctx) (p : Pair) (ps : List Pair) → p.form.value ≡ 0x0b → SpellsFirst k (p ∷ ps) 1 (7 ∷ [])
first_byte k p ps is =
    let fits = subst (λ (form : ℕ). (attribute k form p.constant).Fits a_byte) (sym is) (byte_fits k p.constant) in
    let spelled = subst (λ (form : ℕ). (attribute k form p.constant).spell a_byte ≡ 7 ∷ []) (sym is) (byte_spelled k p.constant) in
    (a_byte ∷ [], refl, ((fits, refl), ([], sym (ap (λ (bytes : List ℕ). bytes ++ []) spelled), refl)))
