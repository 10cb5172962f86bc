-- Lists of bytes: a front, two joined, reversed; numbers and initial lengths are spelled in bytes.
use Rattle.std.proofs.Common.{ℕ, Bool, true, false, List, [], ◌∷◌, ◌++◌, reverse, None, arith}
use Rattle.std.specs.Prelude.{◌==◌}
use Rattle.std.proofs.lemmas.List.{reverse-append}
use Rattle.dw_leb.specs.Part.{optional}
use Rattle.dw_leb.specs.declared.order.Order.{Order}
use Rattle.dw_leb.specs.declared.order.Order.TheVariants.{Little, Big}
use Rattle.dw_leb.specs.declared.order.Format.{Format}
use Rattle.dw_leb.specs.declared.order.Format.TheVariants.{Dwarf32, Dwarf64}
use Rattle.dw_leb.specs.Number.{digits, fixed, fixed_bytes, length_field}
use Rattle.dw_leb.specs.Digits.{digits_below}
use Rattle.dw_leb.specs.Decide.{AreBytes}

pub front_is_bytes : (xs ys : List ℕ) → AreBytes (xs ++ ys) → AreBytes xs
front_is_bytes [] ys h = tt
front_is_bytes (x ∷ xs) ys h = (h.0, front_is_bytes xs ys h.1)

pub joined_are_bytes : (xs ys : List ℕ) → AreBytes xs → AreBytes ys → AreBytes (xs ++ ys)
joined_are_bytes [] ys h g = g
joined_are_bytes (x ∷ xs) ys h g = (h.0, joined_are_bytes xs ys h.1 g)

reversed_are_bytes : (xs : List ℕ) → AreBytes xs → AreBytes (reverse xs)
reversed_are_bytes [] h = tt
reversed_are_bytes (x ∷ xs) h =
    rw (reverse-append (x ∷ []) xs) (joined_are_bytes (reverse xs) (x ∷ []) (reversed_are_bytes xs h.1) (h.0, tt))

pub fixed_is_bytes : (order : Order) (n x : ℕ) → AreBytes (fixed_bytes order n x)
fixed_is_bytes Little n x = digits_below 256 (omega arith) n x
fixed_is_bytes Big n x = reversed_are_bytes (digits 256 n x) (digits_below 256 (omega arith) n x)

pub length_is_bytes : (order : Order) (format : Format) (n : ℕ) → AreBytes ((length_field order).spell (format, n))
length_is_bytes order Dwarf32 n =
    joined_are_bytes (fixed_bytes order 4 n) ((optional (n == 0xffffffff) (fixed order 8)).spell None)
    (fixed_is_bytes order 4 n) (by (n == 0xffffffff))
  where
    by : (v : Bool) → AreBytes ((optional v (fixed order 8)).spell None)
    by true = tt
    by false = tt
length_is_bytes order Dwarf64 n =
    joined_are_bytes (fixed_bytes order 4 0xffffffff) (fixed_bytes order 8 n) (fixed_is_bytes order 4 0xffffffff)
    (fixed_is_bytes order 8 n)
