-- A number that is read behind a place is the one that begins there.
use Rattle.std.proofs.Common.{◌≡◌, ℕ, ◌+◌, ◌-◌, ◌≤◌, List, length, take, drop, Some, refl, sym, ap, subst, ◌∙◌, arith}
use Rattle.std.specs.Prelude.{Ok}
use Rattle.std.proofs.lemmas.Bool.{le-leb, le-ltb}
use Rattle.std.proofs.lemmas.List.{length-drop, take_all}
use Rattle.dw_leb.specs.Part.{Taken}
use Rattle.dw_leb.specs.Number.{fixed}
use Rattle.dw_leb.specs.Decide.{found, found_value}
use Rattle.dw_leb.specs.Digits.{fixed_decides}
use Rattle.dw_leb.specs.Field.{outcome_by}
use Rattle.dw_leb.specs.ReadNumber.{undigits, ordered, read_fixed}
use Rattle.dw_leb.specs.declared.order.Order.{Order}
use Rattle.dw_strings.specs.Text.{number_at}

module _ (order : Order) (size : ℕ) (bytes : List ℕ) (place lim x : ℕ) (some : 1 ≤ size) (within : size ≤ lim) where
  there : Taken (fixed order size) (drop place bytes) lim x size → size ≤ length (drop place bytes) → Some x ≡ number_at order size bytes place
  there taken room =
      let rest = drop place bytes in
      let read : read_fixed order size rest lim ≡ found x size = outcome_by (fixed order size) (read_fixed order size) (fixed_decides order size) rest lim (λ v. v) (λ _. size) (Ok x) taken tt in
      let computes : read_fixed order size rest lim ≡ found (undigits 256 (ordered order (take size rest))) size = rw (le-ltb lim size within, le-ltb (length rest) size room) refl in
      let is = found_value (undigits 256 (ordered order (take size rest))) x size size (sym computes ∙ read) in
      rw (le-leb (place + size) (length bytes) (omega (arith, some, room, length-drop place bytes))) (ap Some (sym is.0))

  -- the rest of a slice is all that is behind the place
  pub number_there : let rest = take (length bytes - place) (drop place bytes) in Taken (fixed order size) rest lim x size → size ≤ length rest → Some x ≡ number_at order size bytes place
  number_there taken room =
      let all : take (length bytes - place) (drop place bytes) ≡ drop place bytes = take_all (length bytes - place) (drop place bytes) (omega (arith, length-drop place bytes)) in
      there (subst (λ (b : List ℕ). Taken (fixed order size) b lim x size) all taken) (subst (λ (b : List ℕ). size ≤ length b) all room)
