-- What is left of a unit is room for a draft.
use Rattle.std.proofs.Common.{◌≡◌, ◌≢◌, ℕ, zero, suc, ◌+◌, ◌-◌, ◌^◌, ◌<◌, ◌≤◌, Bool, true, false, List, [], ◌∷◌, length, Some, None, refl, arith, length-append}
use Rattle.std.specs.Prelude.{nat_le, nat_lt, ◌==◌, if◌then◌else◌}
use Rattle.std.proofs.lemmas.Bool.{leb-true, leb-false, ltb-true, ltb-false, eq-eqb, ne_eqb}
use Rattle.dw_leb.specs.declared.errors.Reason.TheVariants.{ReservedLength, LengthTooBig, TooDeep}
use Rattle.dw_leb.specs.declared.order.Order.{Order}
use Rattle.dw_leb.specs.declared.order.Format.{Format}
use Rattle.dw_leb.specs.declared.order.Format.TheVariants.{Dwarf32, Dwarf64}
use Rattle.dw_leb.specs.Part.{Part, optional}
use Rattle.dw_leb.specs.Number.{Unsigned, length_size, reserved, too_far, length_field, initial_length}
use Rattle.dw_leb.specs.DecideNumber.{initial-size}
use Rattle.dw_abbrev.specs.Table.{Table}
use Rattle.dw_header.specs.Header.{Header, fields, fields_of}
use Rattle.dw_header.specs.HeaderPlace.{header_bytes}
use Rattle.dw_tree.specs.Tree.{Forest, nesting, unknown}
use Rattle.dw_tree.specs.Levels.{nesting_is}
use Rattle.dw_tree.specs.Place.{Frame}
use Rattle.dw_unit.specs.Draft.{drafted_size, size_limit, passes_limit}
use Rattle.dw_feed.specs.Room.{has_room}
use Rattle.dw_feed.specs.PlaceRows.{draft_size}
use Rattle.dw_feed.specs.BodyFeed.{PartialUnit, before}
use Rattle.dw_feed.specs.BodyView.{drafted}
use Rattle.dw_feed.specs.FeedInvariant.{body_so_far, left}
use Rattle.dw_feed.specs.FieldSteps.{Standing, code_meaning}

not_there : {X : Type 0} (b : Bool) (P : Part X) → (optional b P).Fits None → b ≡ false
not_there true P h = absurd h
not_there false P h = refl

short32 : (n : ℕ) → n < 256 ^ 4 → reserved n ≡ None → (n == 0xffffffff) ≡ false → 4 + n < 4 + 0xfffffff0
short32 n lt res ne = by (nat_le 0xfffffff0 n) (nat_lt n 0xffffffff) refl refl res
  where
    by : (v w : Bool) → nat_le 0xfffffff0 n ≡ v → nat_lt n 0xffffffff ≡ w → reserved n ≡ None → 4 + n < 4 + 0xfffffff0
    by false w a b r = let h = leb-false 0xfffffff0 n a in omega (arith, h)
    by true true a b r = let q : Some ReservedLength ≡ None = rw (a, b) at r in absurd cc
    by true false a b r =
        let h = ltb-false n 0xffffffff b in
        let e : n ≡ 0xffffffff = omega (arith, h, lt) in
        let t : (n == 0xffffffff) ≡ true = eq-eqb n 0xffffffff e in absurd cc

-- a length that has a spelling is no longer than a unit may be
pub length_short : (order : Order) (format : Format) (n : ℕ) → (initial_length order 0).Fits (format, n) → length_size format + n < size_limit format
length_short order Dwarf32 n h = short32 n h.0.0.0 h.0.0.1 (not_there (n == 0xffffffff) _ h.0.1)
length_short order Dwarf64 n h = far (nat_lt (0 + 12 + n) (2 ^ 63)) refl h.1
  where
    far : (v : Bool) → nat_lt (0 + 12 + n) (2 ^ 63) ≡ v → too_far 0 (Dwarf64, n) ≡ None → 12 + n < 2 ^ 63
    far true e f = let l = ltb-true (0 + 12 + n) (2 ^ 63) e in omega (arith, l)
    far false e f = let q : Some LengthTooBig ≡ None = rw e at f in absurd cc

module _ (g : PartialUnit) (stands : Standing g) where
  -- what is whole and what is left are the unit
  pub sized : drafted_size (drafted g) + left g ≡ length_size g.header.format + g.unit_length
  sized = omega (arith, draft_size (drafted g), stands.within, stands.head.within)

  pub length_behind : length_size g.header.format ≤ drafted_size (drafted g)
  length_behind = omega (arith, draft_size (drafted g))

  -- so there is room for what fits in what is left
  pub room_for : (n : ℕ) → n ≤ left g → passes_limit (drafted g) n ≡ false
  room_for n le =
      let short : length_size g.header.format + g.unit_length < size_limit g.header.format = length_short g.header.order g.header.format g.unit_length stands.head.length_fits in
      by (passes_limit (drafted g) n) refl short
    where
      by : (v : Bool) → passes_limit (drafted g) n ≡ v → length_size g.header.format + g.unit_length < size_limit g.header.format → v ≡ false
      by false e short = refl
      by true e short = let h = leb-true (size_limit g.header.format) (drafted_size (drafted g) + n) e in absurd (omega (arith, h, short, sized, le))

-- an entry's code has a level
pub level_for : (t : Table) (fs : List Frame) (ts : Forest) (code : Unsigned) → code_meaning t fs ts code ≡ None → code.value ≢ 0 → length fs < nesting
level_for t [] ts code e ne = omega (arith, nesting_is)
level_for t (f ∷ fs) ts code e ne = by (nesting - length (f ∷ fs)) refl (rw (ne_eqb code.value 0 ne) at e)
  where
    by : (m : ℕ) → nesting - length (f ∷ fs) ≡ m → (if has_room m then unknown t code.value else Some TooDeep) ≡ None → length (f ∷ fs) < nesting
    by zero same h = absurd cc
    by (suc m) same h = omega (arith, same)

-- a draft's size is the count of the bytes before the place
pub size_before : (g : PartialUnit) → drafted_size (drafted g) ≡ length (before g)
size_before g =
    let h : Header = g.header in
    omega (
      arith,
      draft_size (drafted g),
      initial-size h.order 0 h.format g.unit_length,
      length-append ((length_field h.order).spell (h.format, g.unit_length)) ((fields h.order h.format).spell (fields_of h)),
      length-append (header_bytes h g.unit_length) (body_so_far g),
    )
