-- What a call that reads one field answers, from what the plain reader answers.
use Rattle.std.specs.Prelude.{◌≡◌, ℕ, List, length, Result, Ok, Err, IfOk, IfErr, IsOkAnd}
use Rattle.std.proofs.Common.{sym, ap, ◌∙◌, ◌≤◌, ◌<◌, ◌^◌, suc, get_or, [], ◌∷◌, subst, arith}
use Rattle.std.proofs.Math.Nat.{pow-le-pow_right}
use Rattle.dw_leb.specs.Part.{Reason, Part, Taken}
use Rattle.dw_leb.specs.Number.{Order, fixed}
use Rattle.dw_leb.specs.Reader.{Outcome, Found, Broken, Reader, answer, outcome_of, seen_by}
use Rattle.dw_leb.specs.Decide.{Decides, Says, AreBytes, found}

-- a part that breaks at its first byte alone
abbrev pub IsField : {X : Type 0} → Part X → Type 0
IsField P = (bytes : List ℕ) (lim offset : ℕ) (reason : Reason) → P.Break bytes lim offset reason → offset ≡ 0

-- the bytes of a slice are bytes
pub are_bytes : (bytes : List ℕ) → ((k : ℕ) → get_or bytes k 0 < 256) → AreBytes bytes
are_bytes [] h = tt
are_bytes (b ∷ bytes) h = (h 0, are_bytes bytes (λ k. h (suc k)))

module _ {X : Type 0} (P : Part X) (R : Reader X) (it : Decides P R) (bytes : List ℕ) (lim : ℕ) where
  found_of : (size : X → ℕ) → ((x : X) → P.Fits x → length (P.spell x) ≡ size x) → (o : Outcome X) → Says P bytes lim o
      → IfOk (answer o) (λ x. Taken P bytes lim x (size x))
  found_of size sized (Broken offset reason) h = tt
  found_of size sized (Found x n) h = let e : n ≡ size x = sym h.is_size ∙ sized x h.fits in
      subst (λ (k : ℕ). Taken P bytes lim x k) e h

  broken_of : IsField P → (o : Outcome X) → Says P bytes lim o → IfErr (answer o) (λ e. P.Break bytes lim 0 e)
  broken_of field (Found x n) h = tt
  broken_of field (Broken offset reason) h =
      subst (λ (k : ℕ). P.Break bytes lim k reason) (field bytes lim offset reason h) h

  -- what is answered is spelled at the front
  pub found_by : (size : X → ℕ) → ((x : X) → P.Fits x → length (P.spell x) ≡ size x) → AreBytes bytes
      → (r : Result X Reason) → r ≡ answer (R bytes lim) → IfOk r (λ x. Taken P bytes lim x (size x))
  found_by size sized fit r e =
      subst (λ (q : Result X Reason). IfOk q (λ x. Taken P bytes lim x (size x))) (sym e)
      (found_of size sized (R bytes lim) (it.says bytes lim fit))

  -- what is refused breaks
  pub broken_by : IsField P → AreBytes bytes → (r : Result X Reason) → r ≡ answer (R bytes lim)
      → IfErr r (λ e. P.Break bytes lim 0 e)
  broken_by field fit r e =
      subst (λ (q : Result X Reason). IfErr q (λ e. P.Break bytes lim 0 e)) (sym e)
      (broken_of field (R bytes lim) (it.says bytes lim fit))

  -- what is spelled at the front is answered
  pub only_by : (r : Result X Reason) → r ≡ answer (R bytes lim) → (x : X) (size : ℕ) → Taken P bytes lim x size
      → r ≡ Ok x
  only_by r e x size h =
      let within : length (P.spell x) ≤ lim = omega (arith, h.is_size, h.within) in
      e ∙ ap (λ (b : List ℕ). answer (R b lim)) h.split ∙ ap answer (it.takes x h.rest lim h.fits within)

-- a fixed number that was found is below its place
pub small_by : (order : Order) (n : ℕ) (bytes : List ℕ) (lim : ℕ) (r : Result ℕ Reason)
    → IfOk r (λ x. Taken (fixed order n) bytes lim x n) → IfOk r (λ x. x < 256 ^ n)
small_by order n bytes lim (Ok x) h = h.fits
small_by order n bytes lim (Err reason) h = tt

pub word_by : (n : ℕ) (r : Result ℕ Reason) → n ≤ 8 → IfOk r (λ x. x < 256 ^ n) → IfOk r (λ x. x < 2 ^ 64)
word_by n (Ok x) short h =
    let p : 256 ^ n ≤ 256 ^ 8 = pow-le-pow_right {n = 256} (omega arith) short in omega (arith, h, p)
word_by n (Err reason) short h = tt

-- the plain reader's outcome, by what a call answers of the grammar: what it found is taken, what it refused breaks
pub outcome_by : {X Y : Type 0} (P : Part Y) (R : Reader Y) → Decides P R → (bytes : List ℕ) (lim : ℕ) (view : X → Y)
    (size : Y → ℕ) (r : Result X Reason)
    → IfOk r (λ x. Taken P bytes lim (view x) (size (view x))) → IfErr r (λ e. P.Break bytes lim 0 e)
    → R bytes lim ≡ outcome_of view size r
outcome_by P R it bytes lim view size (Ok x) h g =
    let within : length (P.spell (view x)) ≤ lim = omega (arith, h.is_size, h.within) in
    ap (λ (b : List ℕ). R b lim) h.split ∙ it.takes (view x) h.rest lim h.fits within
    ∙ ap (λ (k : ℕ). found (view x) k) h.is_size
outcome_by P R it bytes lim view size (Err reason) h g = it.faults bytes lim 0 reason g

-- ---- answers that are seen by a view

module _ {X Y : Type 0} (view : X → Y) where
  pub ok_seen : (r : Result X Reason) (P : Y → Type 0) → IfOk (seen_by view r) P → IfOk r (λ x. P (view x))
  ok_seen (Ok x) P h = h
  ok_seen (Err reason) P h = tt

  pub err_seen : (r : Result X Reason) (P : Reason → Type 0) → IfErr (seen_by view r) P → IfErr r P
  err_seen (Ok x) P h = tt
  err_seen (Err reason) P h = h

  pub only_seen : (r : Result X Reason) (y : Y) → seen_by view r ≡ Ok y → IsOkAnd r (λ x. view x ≡ y)
  only_seen (Ok x) y h = cc
  only_seen (Err reason) y h = absurd cc
