-- Known bytes over several reads or writes.
use Rattle.std.proofs.Common.{◌≡◌, ◌≤◌, ◌+◌, ◌-◌, ℕ, zero, suc, List, [], ◌∷◌, ◌++◌, length, take, drop, Option, None, Some, Ok, refl, sym, ap, ◌∙◌, append_assoc, append-nil, arith, length-drop}
use Rattle.std.proofs.lemmas.List.{take_all, take-append-le, length-append}
use Rattle.std.proofs.Math.Seq.{take-add, take-append-add}
use Rattle.dw_leb.specs.Watch.{write_fault, AppendsFront, Wrote}
use Rattle.dw_leb.specs.declared.errors.WriteError.{WriteError}
use Rattle.std.specs.Prelude.{Result, Err, IsErr}
use Rattle.std.specs.Io.KnownBytes.{Appends, Consumes}

-- nothing is taken
pub consumes_none : (a : Option (List ℕ)) → Consumes a a []
consumes_none None = tt
consumes_none (Some xs) = refl

-- two takes are one
pub consumes_more : (a b c : Option (List ℕ)) (xs ys : List ℕ) → Consumes a b xs → Consumes b c ys
    → Consumes a c (xs ++ ys)
consumes_more None b c xs ys h k = tt
consumes_more (Some ws) None c xs ys h k = absurd h
consumes_more (Some ws) (Some us) None xs ys h k = absurd k
consumes_more (Some ws) (Some us) (Some vs) xs ys h k = h ∙ ap (λ zs. xs ++ zs) k ∙ sym (append_assoc xs ys vs)

-- nothing is added
pub appends_none : (a : Option (List ℕ)) → Appends a a []
appends_none None = tt
appends_none (Some xs) = sym (append-nil xs)

-- two additions are one
pub appends_more : (a b c : Option (List ℕ)) (xs ys : List ℕ) → Appends a b xs → Appends b c ys → Appends a c (xs ++ ys)
appends_more None b c xs ys h k = tt
appends_more (Some ws) None c xs ys h k = absurd h
appends_more (Some ws) (Some us) None xs ys h k = absurd k
appends_more (Some ws) (Some us) (Some vs) xs ys h k = k ∙ ap (λ zs. zs ++ ys) h ∙ append_assoc ws xs ys

-- a write of the next n bytes
pub appends_part : (a b c : Option (List ℕ)) (xs : List ℕ) (at n : ℕ) → at ≤ length xs → Appends a b (take at xs)
    → Appends b c (take n (take (length xs - at) (drop at xs))) → Appends a c (take (at + n) xs)
appends_part a b c xs at n h first next =
    let rest : take (length xs - at) (drop at xs) ≡ drop at xs =
    take_all (length xs - at) (drop at xs) (omega (arith, length-drop at xs)) in
    let next' : Appends b c (take n (drop at xs)) = rw rest at next in
    let both = appends_more a b c (take at xs) (take n (drop at xs)) first next' in
    rw (take-add at n xs) both

-- a write that took some bytes is no fault
pub write_fault_none : (n : ℕ) (xs : List ℕ) → (n ≡ 0 → ⊥) → write_fault (Ok n) xs ≡ None
write_fault_none zero xs h = absurd (h refl)
write_fault_none (suc n) [] h = refl
write_fault_none (suc n) (x ∷ xs) h = refl

-- ---- writing one list and then another

-- a beginning of the first is a beginning of both
pub front_of_both : (a b : Option (List ℕ)) (xs ys : List ℕ) → AppendsFront a b xs → AppendsFront a b (xs ++ ys)
front_of_both a b xs ys h =
    let n = h.0 in
    let longer : length (xs ++ ys) ≡ length xs + length ys = length-append xs ys in
    let same : take n (xs ++ ys) ≡ take n xs = take-append-le n xs ys h.1 in
    (n, omega (arith, h.1, longer), rw same h.2)

-- all of the first, and then a beginning of the second
pub front_behind : (a b c : Option (List ℕ)) (xs ys : List ℕ) → Appends a b xs → AppendsFront b c ys
    → AppendsFront a c (xs ++ ys)
front_behind a b c xs ys h k =
    let n = k.0 in
    let longer : length (xs ++ ys) ≡ length xs + length ys = length-append xs ys in
    let same : take (length xs + n) (xs ++ ys) ≡ xs ++ take n ys = take-append-add xs ys n in
    (length xs + n, omega (arith, k.1, longer), rw same (appends_more a b c xs (take n ys) h k.2))

-- what was written whole is a beginning of itself
pub front_whole : (a b : Option (List ℕ)) (xs : List ℕ) → Appends a b xs → AppendsFront a b xs
front_whole a b xs h = (length xs, omega arith, rw (take_all (length xs) xs (omega arith)) h)

-- all of one list, and then what a call wrote of another
pub wrote_then : {X : Type 0} (a b c : Option (List ℕ)) (xs ys : List ℕ) (r : Result X WriteError) → Appends a b xs
    → Wrote b c ys r → Wrote a c (xs ++ ys) r
wrote_then a b c xs ys (Ok x) h k = appends_more a b c xs ys h k
wrote_then a b c xs ys (Err e) h k = front_behind a b c xs ys h k

-- an error in the first of two lists
pub wrote_err : {X : Type 0} (a b : Option (List ℕ)) (xs ys : List ℕ) (r : Result X WriteError) → IsErr r
    → AppendsFront a b xs → Wrote a b (xs ++ ys) r
wrote_err a b xs ys (Ok x) e h = absurd cc
wrote_err a b xs ys (Err e) i h = front_of_both a b xs ys h
