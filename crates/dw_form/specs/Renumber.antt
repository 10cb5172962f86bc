-- A number in the place of a value's own, in the same bytes.
use Rattle.std.specs.Prelude.{◌^◌, ◌*◌, ◌==◌, ℕ, ℤ, pos, negsuc, Option, Some, None, option_map, nat_le, nat_lt, not, ◌&&◌, if◌then◌else◌}
use Rattle.dw_leb.specs.Number.{Unsigned, Signed, extent}
use Rattle.dw_form.specs.declared.shape.Ctx.{Ctx}
use Rattle.dw_form.specs.declared.shape.Shape.{Shape}
use Rattle.dw_form.specs.declared.shape.Shape.TheVariants as shapes
use Rattle.dw_form.specs.Form.{Value, Num, Uleb, Sleb, Attribute, shape}
use Rattle.dw_form.specs.Pieces.{form_in}

-- n bytes, of a fixed number of at most 8, hold 0 to 256 ^ n - 1
abbrev pub fixed_number : Option Shape → ℤ → Option ℕ
fixed_number (Some (shapes.Fixed n)) (pos x) = if not (n == 16) && nat_lt x (256 ^ n) then Some x else None
fixed_number s x = None

-- so many bytes of an unsigned LEB128 number hold 0 to 128 ^ width - 1, and at most 2 ^ 64 - 1
abbrev pub unsigned_number : ℕ → ℤ → Option Unsigned
unsigned_number width (pos x) =
    if (nat_le 1 width && nat_le width 16) && (nat_lt x (128 ^ width) && nat_lt x (2 ^ 64))
    then Some (record { value = x; width = width }) else None
unsigned_number width (negsuc x) = None

-- so many bytes of a signed one hold half of that on either side of zero, and at most 63 bits of it
abbrev pub signed_number : ℕ → ℤ → Option Signed
signed_number width x =
    if (nat_le 1 width && nat_le width 16) && (nat_lt (2 * extent x) (128 ^ width) && nat_lt (extent x) (2 ^ 63))
    then Some (record { value = x; width = width }) else None

-- The value of a form with this number in the place of its own, in as many bytes. There is none of a value that is no
-- number of at most 64 bits, and none where the bytes don't hold the number.
abbrev pub renumbered : Ctx → ℕ → ℤ → Value → Option Value
renumbered k form x (Num y) = option_map (λ n. Num n) (fixed_number (shape form k.address_size k.format) x)
renumbered k form x (Uleb u) = option_map (λ n. Uleb n) (unsigned_number u.width x)
renumbered k form x (Sleb s) = option_map (λ n. Sleb n) (signed_number s.width x)
renumbered k form x v = None

-- the same of an attribute's value; the form that an indirect one names stays
abbrev pub with_value : Attribute → Value → Attribute
with_value a v = record { via = a.via; value = v }

abbrev pub renumbered_in : Ctx → ℕ → ℤ → Attribute → Option Attribute
renumbered_in k form x a = option_map (with_value a) (renumbered k (form_in form a.via) x a.value)
