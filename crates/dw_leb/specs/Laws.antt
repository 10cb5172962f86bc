-- What the laws say of a part of the grammar.
use Rattle.std.specs.Prelude.{◌≡◌, ℕ, ◌≤◌, List, ◌++◌, length, ◌⊎◌}
use Rattle.std.proofs.Common.{inl, inr}
use Rattle.dw_leb.specs.Part.{Reason, Part, Taken}
use Rattle.dw_leb.specs.Reader.{Reader, Outcome, Found, Broken}
use Rattle.dw_leb.specs.Decide.{Decides, Says, AreBytes}
use Rattle.dw_leb.specs.PartLaws.{one_break, no_break}

-- no spelling begins another, and each value has one spelling
abbrev pub NoneBegins : {X : Type 0} → Part X → Type 0
NoneBegins {X} P = (x y : X) (a b : List ℕ) → P.Fits x → P.Fits y → P.spell x ++ a ≡ P.spell y ++ b → (x ≡ y) × (a ≡ b)

-- bytes have exactly one of: one value at the front within lim, one break
pub record OneAnswer {X : Type 0} (P : Part X) : Type 0 where
  pub one_break : (bytes : List ℕ) (lim m n : ℕ) (r s : Reason) → P.Break bytes lim m r → P.Break bytes lim n s
      → (m ≡ n) × (r ≡ s)
  pub not_both : (x : X) (rest : List ℕ) (lim offset : ℕ) (reason : Reason) → P.Fits x → length (P.spell x) ≤ lim
      → P.Break (P.spell x ++ rest) lim offset reason → ⊥
  pub some : (bytes : List ℕ) (lim : ℕ) → AreBytes bytes
      → ((x : X) × (size : ℕ) × Taken P bytes lim x size)
      ⊎ ((offset : ℕ) × (reason : Reason) × P.Break bytes lim offset reason)

some_answer : {X : Type 0} (P : Part X) (bytes : List ℕ) (lim : ℕ) (o : Outcome X) → Says P bytes lim o
    → ((x : X) × (size : ℕ) × Taken P bytes lim x size)
    ⊎ ((offset : ℕ) × (reason : Reason) × P.Break bytes lim offset reason)
some_answer P bytes lim (Found x size) h = inl (x, size, h)
some_answer P bytes lim (Broken offset reason) h = inr (offset, reason, h)

-- a part that a reader decides has one answer
pub one_answer : {X : Type 0} (P : Part X) (R : Reader X) → Decides P R → OneAnswer P
one_answer P R it = record {
  one_break = one_break P R it;
  not_both = no_break P R it;
  some = λ bytes lim fit. some_answer P bytes lim (R bytes lim) (it.says bytes lim fit);
}
