-- The bytes behind a length field that show of which kind an item is, by one read or two.
use Rattle.std.proofs.Common.{true, false, Bool, ◌≡◌, ◌⊎◌, ℕ, ◌+◌, ◌-◌, ◌≤◌, List, ◌++◌, length, Option, Result, Ok, Err, refl, ap, ◌∙◌, append_assoc, arith, inl, inr}
use Rattle.std.specs.Prelude.{min, nat_le, OnOk}
use Rattle.std.proofs.lemmas.Bool.{leb-true, leb-false}
use Rattle.std.proofs.lemmas.List.{length-append}
use Rattle.std.specs.Io.KnownBytes.{Consumes}
use Rattle.dw_leb.specs.declared.errors.ReadError.{ReadError}
use Rattle.dw_leb.specs.declared.errors.ReadError.TheVariants as reads
use Rattle.dw_leb.specs.Transfers.{consumes_more}
use Rattle.dw_leb.specs.Watch.{KeptSome}
use Rattle.dw_feed.specs.Feed.{FailsUpTo, ReadsUpTo}
use Rattle.dw_feed.specs.Taking.{kept_more}
use Rattle.dw_section.specs.Reads.{ReadsMarks}

-- it fails behind bytes that were taken
fails_behind : (old mid new : Option (List ℕ)) (got : List ℕ) (most n : ℕ) (e : ReadError) → Consumes old mid got → length got + most ≤ n → FailsUpTo mid new most e → FailsUpTo old new n e
fails_behind old mid new got most n (reads.Fault f) took le h = h
fails_behind old mid new got most n reads.NoMemory took le (more, few, next) = (got ++ more, omega (arith, length-append got more, few, le), consumes_more old mid new got more took next)
fails_behind old mid new got most n (reads.Io kind) took le (more, few, next) = (got ++ more, omega (arith, length-append got more, few, le), consumes_more old mid new got more took next)

pub fails_more : (old new : Option (List ℕ)) (few many : ℕ) (e : ReadError) → few ≤ many → FailsUpTo old new few e → FailsUpTo old new many e
fails_more old new few many (reads.Fault f) le h = h
fails_more old new few many reads.NoMemory le (got, short, took) = (got, omega (arith, short, le), took)
fails_more old new few many (reads.Io kind) le (got, short, took) = (got, omega (arith, short, le), took)

-- of a long item
pub marks_alone : {X : Type 0} (held now : List ℕ) (old new : Option (List ℕ)) (n : ℕ) (r : Result X ReadError) → 3 ≤ n → ReadsUpTo held now old new 3 r → ReadsMarks held now old new n r
marks_alone held now old new n (Ok x) le (got, is, few, took, whole) = (got, is, omega (arith, few, le), took, elim whole [ inl all ↦ inl (inr (omega (arith, all))) | inr end ↦ inr end ])
marks_alone held now old new n (Err e) le h = fails_more old new 3 n e le h

-- of a short one, behind what one read gave
pub marks_behind : {X : Type 0} (held mid_held now : List ℕ) (old mid new : Option (List ℕ)) (got : List ℕ) (n most : ℕ) (r : Result X ReadError) → mid_held ≡ held ++ got → Consumes old mid got → length got ≤ n → most ≡ min n 3 - length got
    → ReadsUpTo mid_held now mid new most r → ReadsMarks held now old new n r
marks_behind held mid_held now old mid new got n most (Err e) was took le is h = fails_behind old mid new got most n e took (omega (arith, le, is)) h
marks_behind held mid_held now old mid new got n most (Ok x) was took le is (more, now_is, few, next, whole) = (
  got ++ more,
  now_is ∙ ap (λ (xs : List ℕ). xs ++ more) was ∙ append_assoc held got more,
  omega (arith, length-append got more, few, le, is),
  consumes_more old mid new got more took next,
  elim whole [ inl all ↦ inl (by (nat_le n (length (got ++ more))) refl all) | inr end ↦ inr end ],
)
  where
    by : (v : Bool) → nat_le n (length (got ++ more)) ≡ v → length more ≡ most → (n ≤ length (got ++ more)) ⊎ (3 ≤ length (got ++ more))
    by true e all = inl (leb-true n (length (got ++ more)) e)
    by false e all = inr (omega (arith, leb-false n (length (got ++ more)) e, all, is, length-append got more))

-- want of memory behind bytes that were taken
pub kept_behind : (old mid new : Option (List ℕ)) (got : List ℕ) (r : Result (Unit {0}) ReadError) → Consumes old mid got → KeptSome mid new r → KeptSome old new r
kept_behind old mid new got (Ok x) took kept = tt
kept_behind old mid new got (Err e) took kept = kept_more old mid new got e took kept

-- so many bytes at most
pub few_alone : {X : Type 0} (held now : List ℕ) (old new : Option (List ℕ)) (r : Result X ReadError) → ReadsUpTo held now old new 3 r → OnOk r (length now ≤ length held + 1027)
few_alone held now old new (Ok x) (got, is, few, took, whole) = omega (arith, ap length is, length-append held got, few)
few_alone held now old new (Err e) h = tt

pub few_marks : {X : Type 0} (held mid_held now : List ℕ) (mid new : Option (List ℕ)) (got : List ℕ) (most : ℕ) (r : Result X ReadError) → mid_held ≡ held ++ got → length got ≤ 1024 → most ≤ 3 → ReadsUpTo mid_held now mid new most r
    → OnOk r (length now ≤ length held + 1027)
few_marks held mid_held now mid new got most (Ok x) was few three (more, is, le, took, whole) = omega (arith, ap length is, length-append mid_held more, ap length was, length-append held got, few, three, le)
few_marks held mid_held now mid new got most (Err e) was few three h = tt
