-- What a call that lends by a head answers, where the value there is known.
use Rattle.std.proofs.Common.{◌≡◌, ℕ, ap}
use Rattle.std.specs.Prelude.{Option, Some, None, option_map, IsSomeAnd}
use Rattle.dw_form.specs.Form.{Attribute}
use Rattle.dw_form.specs.declared.value.AttrValue.{AttrValue}
use Rattle.dw_form.specs.Lent.{attribute_of}

abbrev pair : Attribute → ℕ → Attribute × ℕ
pair a n = (a, n)

pub lent_is : (o : Option (AttrValue × ℕ)) (a : Attribute) (n : ℕ) → option_map {U = Attribute × ℕ} (λ x. (attribute_of x.0, x.1)) o ≡ Some (a, n) → IsSomeAnd o (λ x. (attribute_of x.0 ≡ a) × (x.1 ≡ n))
lent_is None a n e = absurd cc
lent_is (Some x) a n e =
    let same : pair (attribute_of x.0) x.1 ≡ pair a n = cc in
    (ap (λ (y : Attribute × ℕ). y.0) same, ap (λ (y : Attribute × ℕ). y.1) same)
