-- Bits of offsets that are set one after the other, for the entries of a unit.
use Rattle.std.proofs.Common.{◌≡◌, ◌≢◌, ◌∙◌, ◌/◌, ◌%◌, ◌<◌, ◌^◌, ℕ, zero, suc, List, [], ◌∷◌, get_or, Bool, true, false, Option, Some, None, length, refl, sym, ap, subst, arith}
use Rattle.std.specs.Prelude.{Ok, bit_or, is_some, slice_index, slice_set, ◌==◌, if◌then◌else◌}
use Rattle.std.specs.Int.{bit_at}
use Rattle.std.proofs.lemmas.Bool.{eqb-true, eqb-false, eq-eqb, lt-leb}
use Rattle.std.proofs.lemmas.List.{get_or-set_same, get_or-set_other}
use Rattle.std.proofs.lemmas.Nat.Bits.{bit_at_or, bit_at-pow_other, bit_at-zero}
use Rattle.dw_tree.specs.Lent.{EntryAt, entries_of, find_at}
use Rattle.dw_unit.specs.Unit.{WholeUnit, bytes_of, tree_of}
use Rattle.dw_section.specs.declared.id.RefFault.TheVariants.{NotAnEntry}
use Rattle.dw_section.specs.EntryOffsets.{AreEntryOffsets, Adds, is_marked}
use Rattle.dw_section.specs.Reference.{in_unit, unless_found}

-- a number that is there doesn't depend on the default
pub there_is : (xs : List ℕ) (i d : ℕ) → i < length xs → get_or xs i d ≡ slice_index xs i
there_is [] i d h = absurd (omega (arith, h))
there_is (x ∷ xs) zero d h = refl
there_is (x ∷ xs) (suc i) d h = there_is xs i d (omega (arith, h))

-- ---- one bit

other_bit : (word bit mask i : ℕ) → mask ≡ 2 ^ bit → i ≢ bit → bit_at (bit_or word mask) i ≡ bit_at word i
other_bit word bit mask i is apart =
    let none : bit_at mask i ≡ 0 = ap (λ (n : ℕ). bit_at n i) is ∙ bit_at-pow_other bit i apart in
    bit_at_or word mask i ∙ omega (arith, none)

pub one_added : (new : ℕ) (words : List ℕ) (word mask : ℕ) → word ≡ slice_index words (new / 64) → mask ≡ 2 ^ (new % 64) → new / 64 < length words → Adds new words (slice_set words (new / 64) (bit_or word mask))
one_added new words word mask is power inside offset apart marked = by (offset / 64 == new / 64) refl
  where
    by : (v : Bool) → (offset / 64 == new / 64) ≡ v → is_marked words offset ≡ true
    by true e =
        let same : offset / 64 ≡ new / 64 = eqb-true (offset / 64) (new / 64) e in
        let other : offset % 64 ≢ new % 64 = λ h. apart (omega (arith, h, same)) in
        let set : slice_index (slice_set words (new / 64) (bit_or word mask)) (offset / 64) ≡ bit_or word mask = ap (slice_index (slice_set words (new / 64) (bit_or word mask))) same ∙ get_or-set_same words (new / 64) (bit_or word mask) 0 inside in
        let old : word ≡ slice_index words (offset / 64) = is ∙ ap (slice_index words) (sym same) in
        let bit : bit_at (slice_index words (offset / 64)) (offset % 64) ≡ bit_at (slice_index (slice_set words (new / 64) (bit_or word mask)) (offset / 64)) (offset % 64) =
        ap (λ (n : ℕ). bit_at n (offset % 64)) (sym old) ∙ sym (other_bit word (new % 64) mask (offset % 64) power other) ∙ ap (λ (n : ℕ). bit_at n (offset % 64)) (sym set) in
        ap (λ (n : ℕ). n == 1) bit ∙ marked
    by false e =
        let kept : slice_index (slice_set words (new / 64) (bit_or word mask)) (offset / 64) ≡ slice_index words (offset / 64) = get_or-set_other words (new / 64) (offset / 64) (bit_or word mask) 0 (eqb-false (offset / 64) (new / 64) e) in
        ap (λ (n : ℕ). bit_at n (offset % 64) == 1) (sym kept) ∙ marked

pub none_marked : (u : WholeUnit) → AreEntryOffsets u []
none_marked u item offset marked = let none : is_marked [] offset ≡ false = rw (bit_at-zero (offset % 64)) refl in absurd cc

-- ---- entries that are found

abbrev pub IsFound : ℕ → List EntryAt → Type 0
IsFound offset entries = is_some (find_at offset entries) ≡ true

pub first_found : (e : EntryAt) (entries rest : List EntryAt) → entries ≡ e ∷ rest → IsFound e.offset entries
first_found e entries rest steps = ap (λ (es : List EntryAt). is_some (find_at e.offset es)) steps ∙ rw (eq-eqb e.offset e.offset refl) refl

pub later_found : (e : EntryAt) (entries rest : List EntryAt) (offset : ℕ) → entries ≡ e ∷ rest → IsFound offset rest → IsFound offset entries
later_found e entries rest offset steps found = ap (λ (es : List EntryAt). is_some (find_at offset es)) steps ∙ by (e.offset == offset)
  where
    by : (v : Bool) → is_some (if v then Some e else find_at offset rest) ≡ true
    by true = refl
    by false = found

-- an entry that is found in a unit is named by its offset there
named_there : (u : WholeUnit) (item offset : ℕ) → offset < length (bytes_of u) → IsFound offset (entries_of (tree_of u)) → in_unit item u offset ≡ Ok (record { item = item; offset = offset })
named_there u item offset inside found = rw (lt-leb (length (bytes_of u)) offset inside) (by (find_at offset (entries_of (tree_of u))) found)
  where
    by : (o : Option EntryAt) → is_some o ≡ true → unless_found NotAnEntry (record { item = item; offset = offset }) o ≡ Ok (record { item = item; offset = offset })
    by None h = absurd cc
    by (Some e) h = refl

pub begins_more : (u : WholeUnit) (old words : List ℕ) (new : ℕ) → AreEntryOffsets u old → new < length (bytes_of u) → IsFound new (entries_of (tree_of u)) → Adds new old words → AreEntryOffsets u words
begins_more u old words new begins inside found adds item offset marked = by (offset == new) refl
  where
    by : (v : Bool) → (offset == new) ≡ v → in_unit item u offset ≡ Ok (record { item = item; offset = offset })
    by true e = let same : new ≡ offset = sym (eqb-true offset new e) in
        named_there u item offset (omega (arith, inside, same)) (subst (λ (n : ℕ). IsFound n (entries_of (tree_of u))) same found)
    by false e = begins item offset (adds offset (eqb-false offset new e) marked)
