-- Numbers of one byte and of two.
use Rattle.std.proofs.Common.{◌≡◌, ℕ, zero, suc, ◌+◌, ◌-◌, ◌*◌, ◌<◌, ◌≤◌, ◌^◌, Bool, true, false, List, [], ◌∷◌, length, take, drop, min, Option, Some, None, refl, sym, ap, subst, ◌∙◌, arith}
use Rattle.std.specs.Prelude.{not, ◌==◌}
use Rattle.std.proofs.lemmas.Bool.{lt-ltb, le-ltb}
use Rattle.std.proofs.lemmas.List.{length-drop, take_all}
use Rattle.dw_leb.specs.Number.{Unsigned, above_u64}
use Rattle.dw_leb.specs.Reader.{Reader, mapped, judged_outcome, refused_if}
use Rattle.dw_leb.specs.Decide.{found}
use Rattle.dw_leb.specs.declared.errors.Reason.{Reason}
use Rattle.dw_leb.specs.ReadNumber.{undigits, uleb_from, groups_of, groups_outcome, read_uleb}
use Rattle.dw_abbrev.specs.ReadTable.{read_constant}
use Rattle.dw_abbrev.specs.Build.{constant_belongs}
use Rattle.dw_abbrev.specs.Place.{Gives}

groups_one : (k b : ℕ) (rest : List ℕ) → 1 ≤ k → b < 128 → groups_of (take k (b ∷ rest)) ≡ Some (b ∷ [])
groups_one zero b rest some small = absurd (omega (arith, some))
groups_one (suc k) b rest some small = rw (lt-ltb b 128 small) refl

groups_two : (k a b : ℕ) (rest : List ℕ) → 2 ≤ k → 128 ≤ a → b < 128 → groups_of (take k (a ∷ b ∷ rest)) ≡ Some ((a - 128) ∷ b ∷ [])
groups_two zero a b rest some high small = absurd (omega (arith, some))
groups_two (suc k) a b rest some high small = rw (le-ltb a 128 high, groups_one k b rest (omega (arith, some)) small) refl

-- so many of 16 bytes are looked at
looked : (n lim k : ℕ) → k ≤ n → k ≤ 16 → n < lim + 0 → k ≤ min 16 (min n lim)
looked n lim k le few lt = omega (arith, le, few, lt)

-- groups that are found make their number
made_of : (bytes : List ℕ) (ds : List ℕ) (n : ℕ) → undigits 128 ds ≡ n → n < 2 ^ 64 → length ds ≤ length bytes → ((k : ℕ) → length ds ≤ k → groups_of (take k bytes) ≡ Some ds) → length ds ≤ 16 → Gives read_uleb bytes 0 (record { value = n; width = length ds }) (length ds)
made_of bytes ds n value small within there few = record {
  forward = omega arith;
  within = within;
  reads = λ lim lt.
      let m : ℕ = min (length bytes) lim in
      let size : length ds ≡ length ds - 0 = omega arith in
      let is : above_u64 (uleb_from ds) ≡ None = rw (value, lt-ltb n (2 ^ 64) small) refl in
      ap (λ (o : Option (List ℕ)). judged_outcome above_u64 (mapped uleb_from (groups_outcome m lim o))) (there (min 16 m) (looked (length bytes) lim (length ds) within few lt))
      ∙ (ap (λ (r : Option Reason). refused_if r (uleb_from ds) (length ds)) is
      ∙ (ap (λ (v : ℕ). found (record { value = v; width = length ds }) (length ds)) value ∙ ap (λ (w : ℕ). found (record { value = n; width = length ds }) w) size));
}

pub two_bytes : (bytes : List ℕ) (a b : ℕ) (rest : List ℕ) → bytes ≡ a ∷ b ∷ rest → 128 ≤ a → a < 256 → b < 128 → (u : Unsigned) → u ≡ record { value = a - 128 + 128 * b; width = 2 } → Gives read_uleb bytes 0 u 2
two_bytes bytes a b rest is high byte small u same =
    let n : ℕ = a - 128 + 128 * b in
    let value : undigits 128 ((a - 128) ∷ b ∷ []) ≡ n = omega arith in
    let all : Gives read_uleb (a ∷ b ∷ rest) 0 (record { value = n; width = 2 }) 2 = made_of (a ∷ b ∷ rest) ((a - 128) ∷ b ∷ []) n value (omega (arith, small, byte)) (omega arith) (λ k some. groups_two k a b rest some high small) (omega arith) in
    subst (λ (v : Unsigned). Gives read_uleb bytes 0 v 2) (sym same) (subst (λ (bs : List ℕ). Gives read_uleb bs 0 (record { value = n; width = 2 }) 2) (sym is) all)

-- what stands at the front of what is left stands there
pub further : {A : Type 0} (R : Reader A) (section : List ℕ) (at : ℕ) (a : A) (n next : ℕ) → at ≤ length section → at + n ≡ next → Gives R (take (length section - at) (drop at section)) 0 a n → Gives R section at a next
further R section at a n next le sum g =
    let all : take (length section - at) (drop at section) ≡ drop at section = take_all (length section - at) (drop at section) (omega (arith, length-drop at section)) in
    let h : Gives R (drop at section) 0 a n = subst (λ (bs : List ℕ). Gives R bs 0 a n) all g in
    record {
      forward = omega (arith, sum);
      within = omega (arith, sum, h.within, length-drop at section, le);
      reads = λ lim lt.
          let size : n - 0 ≡ next - at = omega (arith, sum) in
          h.reads lim (omega (arith, lt, length-drop at section, le)) ∙ ap (λ (m : ℕ). found a m) size;
    }

-- a form without a constant
pub no_constant : (x : Unsigned × Unsigned) (section : List ℕ) (at : ℕ) → constant_belongs x.1 None ≡ true → at ≤ length section → Gives (read_constant x) section at None at
no_constant x section at bare le = by (x.1.value == 0x21) refl bare
  where
    by : (b : Bool) → (x.1.value == 0x21) ≡ b → not b ≡ true → Gives (read_constant x) section at None at
    by true is h = absurd cc
    by false is h = record {
      forward = omega arith;
      within = le;
      reads = λ lim lt. let none : 0 ≡ at - at = omega arith in rw is (ap (λ (n : ℕ). found None n) none);
    }
