-- What is taken of a reader, step by step.
use Rattle.std.proofs.Common.{◌≡◌, ℕ, ◌+◌, ◌<◌, ◌≤◌, List, [], ◌++◌, length, take, Option, Some, None, Err, refl, ap, subst, ◌∙◌, append_assoc, append-nil, arith, inl, inr, ◌⊎◌}
use Rattle.std.proofs.lemmas.List.{length-append, length-take, take-append-le, take_all}
use Rattle.std.specs.Io.KnownBytes.{Consumes, IsAtEnd}
use Rattle.dw_leb.specs.declared.errors.ReadError.{ReadError}
use Rattle.dw_leb.specs.declared.errors.ReadError.TheVariants as reads
use Rattle.dw_leb.specs.declared.order.Order.{Order}
use Rattle.dw_leb.specs.declared.order.Format.{Format}
use Rattle.dw_leb.specs.declared.order.Format.TheVariants.{Dwarf32, Dwarf64}
use Rattle.dw_leb.specs.Part.{Taken}
use Rattle.dw_leb.specs.Number.{length_field, initial_length, length_limit, length_size}
use Rattle.dw_leb.specs.Watch.{ConsumesUpTo, KeptSome}
use Rattle.dw_leb.specs.Transfers.{consumes_more}
use Rattle.dw_feed.specs.Feed.{Had, behind, StartsWith, escape, InField, Takes, FailsUpTo, FailsInField}

-- what a reader has left, where it tells
abbrev pub left_of : Option (List ℕ) → List ℕ
left_of None = []
left_of (Some bytes) = bytes

pub left_at_end : (new : Option (List ℕ)) → IsAtEnd new → left_of new ≡ []
left_at_end None h = refl
left_at_end (Some bytes) h = h

pub had_before : (old new : Option (List ℕ)) (taken : List ℕ) → Consumes old new taken → Had old (taken ++ left_of new)
had_before None new taken h = tt
had_before (Some all) None taken h = absurd h
had_before (Some all) (Some rest) taken h = h

-- what was taken before is in front of what is taken now
pub behind_taken : (taken : List ℕ) (old : Option (List ℕ)) → Consumes (behind taken old) old taken
behind_taken taken None = tt
behind_taken taken (Some bytes) = refl

pub starts_longer : (front taken rest : List ℕ) → StartsWith front taken → StartsWith front (taken ++ rest)
starts_longer front taken rest (more, is) =
    (more ++ rest, ap (λ (bs : List ℕ). bs ++ rest) is ∙ append_assoc front more rest)

abbrev pub takes_of : (old new : Option (List ℕ)) (taken : List ℕ) → Consumes old new taken
    → Takes old new (taken ++ left_of new)
takes_of old new taken h =
    record { taken = taken; rest = left_of new; had = had_before old new taken h; split = refl; consumed = h }

-- a read that gave nothing took nothing
pub consumes_nothing : (old mid new : Option (List ℕ)) (taken buf : List ℕ) (got : ℕ) → got ≡ 0 → Consumes old mid taken
    → Consumes mid new (take got buf) → Consumes old new taken
consumes_nothing old mid new taken buf got zero first next =
    subst (λ (bs : List ℕ). Consumes old new bs) (ap (λ (n : ℕ). taken ++ take n buf) zero ∙ append-nil taken)
    (consumes_more old mid new taken (take got buf) first next)

-- a read into the front of a part gives no more than that front holds
pub got_within : (buf part : List ℕ) (got want : ℕ) → got ≤ length buf → length buf ≡ length (take want part)
    → (length (take got buf) ≡ got) × (got ≤ want)
got_within buf part got want le is =
    (omega (arith, length-take got buf, le), omega (arith, le, is, length-take want part))

-- ---- what holds of a front holds of all

pub field_longer : (bytes rest : List ℕ) (n : ℕ) → InField bytes n → InField (bytes ++ rest) n
field_longer bytes rest n (inl four) = inl four
field_longer bytes rest n (inr twelve) =
    let four : length (take 4 bytes) ≡ 4 = ap length twelve.1 in
    let le : 4 ≤ length bytes = omega (arith, length-take 4 bytes, four) in
    inr (twelve.0, take-append-le 4 bytes rest le ∙ twelve.1)

pub taken_longer : (order : Order) (bytes rest : List ℕ) (x : Format × ℕ) (size : ℕ)
    → Taken (initial_length order 0) bytes length_limit x size
    → Taken (initial_length order 0) (bytes ++ rest) length_limit x size
taken_longer order bytes rest x size h =
    record {
      rest = h.rest ++ rest;
      fits = h.fits;
      split = ap (λ (b : List ℕ). b ++ rest) h.split ∙ append_assoc ((length_field order).spell x) h.rest rest;
      is_size = h.is_size;
      within = h.within;
    }

-- ---- reads that fail

-- up to so many bytes of a length field, behind some of it
pub field_fails : (old mid new : Option (List ℕ)) (bytes : List ℕ) (most : ℕ) → Consumes old mid bytes
    → ConsumesUpTo mid new most → (length bytes + most ≤ 4) ⊎ ((bytes ≡ escape) × (most ≤ 8))
    → (all : List ℕ) × (h : Takes old new all) × InField all (length h.taken)
field_fails old mid new bytes most took next room =
    let got : List ℕ = next.0 in
    let both : Consumes old new (bytes ++ got) = consumes_more old mid new bytes got took next.2 in
    let sum : length (bytes ++ got) ≡ length bytes + length got = length-append bytes got in
    ((bytes ++ got) ++ left_of new, takes_of old new (bytes ++ got) both, by got sum next.1 room)
  where
    by : (got : List ℕ) → length (bytes ++ got) ≡ length bytes + length got → length got ≤ most
        → (length bytes + most ≤ 4) ⊎ ((bytes ≡ escape) × (most ≤ 8))
        → InField ((bytes ++ got) ++ left_of new) (length (bytes ++ got))
    by got sum le (inl four) = inl (omega (arith, four))
    by got sum le (inr (e, eight)) =
        let len : length bytes ≡ 4 = ap length e in
        let front : take 4 bytes ≡ bytes = take_all 4 bytes (omega arith) in
        field_longer (bytes ++ got) (left_of new) (length (bytes ++ got))
        (inr (omega (arith, eight), take-append-le 4 bytes got (omega arith) ∙ front ∙ e))

-- ---- errors that are handed on

pub field_error : (old mid new : Option (List ℕ)) (bytes : List ℕ) (most : ℕ) (e : ReadError) → Consumes old mid bytes
    → (length bytes + most ≤ 4) ⊎ ((bytes ≡ escape) × (most ≤ 8)) → FailsUpTo mid new most e → FailsInField old new e
field_error old mid new bytes most (reads.Fault f) took room h = h
field_error old mid new bytes most reads.NoMemory took room h = field_fails old mid new bytes most took h room
field_error old mid new bytes most (reads.Io kind) took room h = field_fails old mid new bytes most took h room

-- ---- want of memory

-- what was taken before is kept too
pub kept_more : (old mid new : Option (List ℕ)) (bytes : List ℕ) (e : ReadError) → Consumes old mid bytes
    → KeptSome {X = Unit {0}} mid new (Err e) → KeptSome {X = Unit {0}} old new (Err e)
kept_more old mid new bytes (reads.Fault f) took kept = tt
kept_more old mid new bytes (reads.Io kind) took kept = tt
kept_more old mid new bytes reads.NoMemory took kept = (
  bytes ++ kept.0,
  omega (arith, kept.1, length-append bytes kept.0),
  consumes_more old mid new bytes kept.0 took kept.2,
)

pub length_some : (f : Format) → 0 < length_size f
length_some Dwarf32 = omega arith
length_some Dwarf64 = omega arith
