-- How the logic stores values that hold trees: a chain of entries is stored as its rows.
use Rattle.std.specs.Prelude.{◌≡◌, ℕ, ℤ, Bool, true, false, List, ◌⊎◌, Option, Some, None}
use Rattle.std.proofs.Common.{refl}
use Rattle.std.specs.Coded.{Coded, code_by, coded×, coded⊎, coded_ℕ, coded_ℤ, coded_bool, coded_list, coded_option}
use mathlib.Core.Logic.{inl, inr}
use Rattle.dw_leb.specs.declared.order.Order.{Order}
use Rattle.dw_leb.specs.declared.order.Order.TheVariants.{Little, Big}
use Rattle.dw_leb.specs.declared.order.Format.{Format}
use Rattle.dw_leb.specs.declared.order.Format.TheVariants.{Dwarf32, Dwarf64}
use Rattle.dw_leb.specs.Number.{Unsigned, Signed}
use Rattle.dw_form.specs.declared.shape.Ctx.{Ctx}
use Rattle.dw_form.specs.Form.{Value, Num, Wide, Uleb, Sleb, Block, Text, Present, Implicit, Attribute}
use Rattle.dw_abbrev.specs.Table.{Pair, Declaration, Table}
use Rattle.dw_tree.specs.Tree.{Tree, Forest, none, more}
use Rattle.dw_tree.specs.Row.{Token, leaf_row, branch_row, null_row, all_rows, rest_of, here-all, head_of}

-- ---- numbers and values

abbrev pub unsigned_code : Coded Unsigned
unsigned_code =
    code_by (ℕ × ℕ) (coded× coded_ℕ coded_ℕ) (λ u. (u.value, u.width)) (λ p. record { value = p.0; width = p.1 })
    (λ _. refl)

abbrev pub signed_code : Coded Signed
signed_code =
    code_by (ℤ × ℕ) (coded× coded_ℤ coded_ℕ) (λ u. (u.value, u.width)) (λ p. record { value = p.0; width = p.1 })
    (λ _. refl)

abbrev ValueParts : Type 0
ValueParts = (ℕ ⊎ ℕ) ⊎ ((Unsigned ⊎ Signed) ⊎ (((ℕ × List ℕ) ⊎ List ℕ) ⊎ Option Signed))

abbrev from_value : Value → ValueParts
from_value (Num x) = inl (inl x)
from_value (Wide x) = inl (inr x)
from_value (Uleb u) = inr (inl (inl u))
from_value (Sleb s) = inr (inl (inr s))
from_value (Block width bytes) = inr (inr (inl (inl (width, bytes))))
from_value (Text bytes) = inr (inr (inl (inr bytes)))
from_value Present = inr (inr (inr None))
from_value (Implicit s) = inr (inr (inr (Some s)))

abbrev to_value : ValueParts → Value
to_value (inl (inl x)) = Num x
to_value (inl (inr x)) = Wide x
to_value (inr (inl (inl u))) = Uleb u
to_value (inr (inl (inr s))) = Sleb s
to_value (inr (inr (inl (inl x)))) = Block x.0 x.1
to_value (inr (inr (inl (inr bytes)))) = Text bytes
to_value (inr (inr (inr None))) = Present
to_value (inr (inr (inr (Some s)))) = Implicit s

pub to_value-from_value : (v : Value) → to_value (from_value v) ≡ v
to_value-from_value (Num x) = refl
to_value-from_value (Wide x) = refl
to_value-from_value (Uleb u) = refl
to_value-from_value (Sleb s) = refl
to_value-from_value (Block width bytes) = refl
to_value-from_value (Text bytes) = refl
to_value-from_value Present = refl
to_value-from_value (Implicit s) = refl

abbrev pub value_code : Coded Value
value_code =
    code_by ValueParts
    (coded⊎ (coded⊎ coded_ℕ coded_ℕ)
    (coded⊎ (coded⊎ unsigned_code signed_code)
    (coded⊎ (coded⊎ (coded× coded_ℕ (coded_list coded_ℕ)) (coded_list coded_ℕ)) (coded_option signed_code))))
    from_value to_value to_value-from_value

abbrev pub attribute_code : Coded Attribute
attribute_code =
    code_by (Option Unsigned × Value) (coded× (coded_option unsigned_code) value_code) (λ a. (a.via, a.value))
    (λ p. record { via = p.0; value = p.1 }) (λ _. refl)

abbrev pub values_code : Coded (List Attribute)
values_code = coded_list attribute_code

-- ---- contexts and tables

abbrev from_order : Order → Bool
from_order Little = true
from_order Big = false

abbrev to_order : Bool → Order
to_order true = Little
to_order false = Big

pub to_order-from_order : (o : Order) → to_order (from_order o) ≡ o
to_order-from_order Little = refl
to_order-from_order Big = refl

abbrev pub order_code : Coded Order
order_code = code_by Bool coded_bool from_order to_order to_order-from_order

abbrev from_format : Format → Bool
from_format Dwarf32 = true
from_format Dwarf64 = false

abbrev to_format : Bool → Format
to_format true = Dwarf32
to_format false = Dwarf64

pub to_format-from_format : (f : Format) → to_format (from_format f) ≡ f
to_format-from_format Dwarf32 = refl
to_format-from_format Dwarf64 = refl

abbrev pub format_code : Coded Format
format_code = code_by Bool coded_bool from_format to_format to_format-from_format

abbrev pub context_code : Coded Ctx
context_code =
    code_by (Order × (Format × ℕ)) (coded× order_code (coded× format_code coded_ℕ))
    (λ k. (k.order, (k.format, k.address_size))) (λ p. record { order = p.0; format = p.1.0; address_size = p.1.1 })
    (λ _. refl)

abbrev pair_code : Coded Pair
pair_code =
    code_by (Unsigned × (Unsigned × Option Signed))
    (coded× unsigned_code (coded× unsigned_code (coded_option signed_code))) (λ x. (x.name, (x.form, x.constant)))
    (λ p. record { name = p.0; form = p.1.0; constant = p.1.1 }) (λ _. refl)

abbrev declaration_code : Coded Declaration
declaration_code =
    code_by ((Unsigned × Unsigned) × (Bool × (List Pair × (ℕ × ℕ))))
    (coded× (coded× unsigned_code unsigned_code)
    (coded× coded_bool (coded× (coded_list pair_code) (coded× coded_ℕ coded_ℕ))))
    (λ d. ((d.code, d.tag), (d.children, (d.pairs, (d.name_zero, d.form_zero)))))
    (λ p.
    record
    { code = p.0.0; tag = p.0.1; children = p.1.0; pairs = p.1.1.0; name_zero = p.1.1.1.0; form_zero = p.1.1.1.1 })
    (λ _. refl)

abbrev pub table_code : Coded Table
table_code =
    code_by (List Declaration × ℕ) (coded× (coded_list declaration_code) coded_ℕ) (λ t. (t.declarations, t.last_zero))
    (λ p. record { declarations = p.0; last_zero = p.1 }) (λ _. refl)

-- ---- trees

abbrev from_token : Token → (Unsigned × List Attribute) ⊎ ((Unsigned × List Attribute) ⊎ ℕ)
from_token (leaf_row code vs) = inl (code, vs)
from_token (branch_row code vs) = inr (inl (code, vs))
from_token (null_row w) = inr (inr w)

abbrev to_token : (Unsigned × List Attribute) ⊎ ((Unsigned × List Attribute) ⊎ ℕ) → Token
to_token (inl e) = leaf_row e.0 e.1
to_token (inr (inl e)) = branch_row e.0 e.1
to_token (inr (inr w)) = null_row w

pub to_token-from_token : (x : Token) → to_token (from_token x) ≡ x
to_token-from_token (leaf_row code vs) = refl
to_token-from_token (branch_row code vs) = refl
to_token-from_token (null_row w) = refl

abbrev pub token_code : Coded Token
token_code =
    code_by ((Unsigned × List Attribute) ⊎ ((Unsigned × List Attribute) ⊎ ℕ))
    (coded⊎ (coded× unsigned_code values_code) (coded⊎ (coded× unsigned_code values_code) coded_ℕ)) from_token
    to_token to_token-from_token

abbrev pub forest_code : Coded Forest
forest_code = code_by (List Token) (coded_list token_code) all_rows (λ xs. (rest_of xs).here) here-all

abbrev pub tree_code : Coded Tree
tree_code = code_by Forest forest_code (λ x. more x none) head_of (λ _. refl)
