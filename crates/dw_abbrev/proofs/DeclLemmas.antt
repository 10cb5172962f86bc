-- The steps of reading a declaration.
use Rattle.std.proofs.Common.{◌≡◌, ℕ, List, Option, ap, subst}
use Rattle.dw_leb.specs.declared.errors.ReadError.{ReadError}
use Rattle.dw_leb.specs.Number.{Unsigned, Signed}
use Rattle.dw_leb.specs.Reader.{◌and_then◌}
use Rattle.dw_leb.specs.ReadNumber.{read_uleb}
use Rattle.dw_abbrev.specs.Table.{zero_of}
use Rattle.dw_abbrev.specs.ReadTable.{read_flag, read_pairs, read_described}
use Rattle.dw_abbrev.specs.Place.{Gives, IsErrorAt, then_second, then_both}

pub zero_is : (u : Unsigned) → u.value ≡ 0 → u ≡ zero_of u.width
zero_is u e = ap (λ (v : ℕ). (record { value = v; width = u.width })) e

module _ (abbreviations : List ℕ) (at : ℕ) (tag : Unsigned) (flag_at : ℕ) (g : Gives read_uleb abbreviations at tag flag_at) (flag : ℕ) (pairs_at : ℕ) (h : Gives read_flag abbreviations flag_at flag pairs_at) where
  pub pairs_fail : (e : ReadError) → IsErrorAt read_pairs abbreviations pairs_at e → IsErrorAt read_described abbreviations at e
  pairs_fail e k = then_second read_uleb (λ _. read_flag and_then λ _. read_pairs) abbreviations at tag flag_at g e (then_second read_flag (λ _. read_pairs) abbreviations flag_at flag pairs_at h e k)

  pub described_there : (xs : List ((Unsigned × Unsigned) × Option Signed)) (n f : Unsigned) (next : ℕ) → Gives read_pairs abbreviations pairs_at (xs, (n, f)) next → n.value ≡ 0 → f.value ≡ 0
      → Gives read_described abbreviations at (tag, (flag, (xs, (zero_of n.width, zero_of f.width)))) next
  described_there xs n f next k e d =
      let all : Gives read_described abbreviations at (tag, (flag, (xs, (n, f)))) next =
      then_both read_uleb (λ _. read_flag and_then λ _. read_pairs) abbreviations at tag flag_at g (flag, (xs, (n, f))) next (then_both read_flag (λ _. read_pairs) abbreviations flag_at flag pairs_at h (xs, (n, f)) next k) in
      subst (λ (u : Unsigned). Gives read_described abbreviations at (tag, (flag, (xs, (u, zero_of f.width)))) next) (zero_is n e)
      (subst (λ (u : Unsigned). Gives read_described abbreviations at (tag, (flag, (xs, (n, u)))) next) (zero_is f d) all)
