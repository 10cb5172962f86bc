-- Texts that are appended to a vector, one after the other.
use Rattle.std.proofs.Common.{◌≡◌, ◌∙◌, ◌+◌, ◌<◌, ◌≤◌, ℕ, Bool, true, false, List, [], ◌++◌, length, Result, Ok, Err, refl, sym, ap, subst, append_assoc, append-nil, length-append, arith}
use Rattle.std.specs.Prelude.{IsErrAnd, OnErr, Vec, codes, is_ok, not, if◌then◌else◌}
use Rattle.std.specs.Vec.{vec_len, vec_capacity}
use Rattle.std.specs.declared.alloc.AllocError.{AllocError}
use Rattle.std.specs.declared.alloc.Global.{Global}
use Rattle.dw_ctype.specs.Append.{Grows, Holds, Puts}
use Rattle.dw_ctype.specs.InOrder.{when, word_before}

-- one text
pub pushed : (r : Result (Unit {0}) AllocError) (old new : Vec ℕ Global) (text : List ℕ) → new.items ≡ (if is_ok r then old.items ++ text else old.items) → vec_capacity old ≤ vec_capacity new → OnErr r (vec_capacity old < vec_len old + length text) → Puts old new text r
pushed (Ok v) old new text items kept full = record { bytes = items; room = kept }
pushed (Err e) old new text items kept full = record { bytes = ([], items ∙ sym (append-nil old.items)); room = full }

-- no text
pub nothing : {X : Type 0} {v : X} (old : Vec ℕ Global) → Puts old old [] (Ok v)
nothing old = record { bytes = sym (append-nil old.items); room = omega arith }

grows_after : {X : Type 0} (r : Result X AllocError) (old mid new a b : List ℕ) → mid ≡ old ++ a → Grows mid new b r → Grows old new (a ++ b) r
grows_after (Ok v) old mid new a b h k = k ∙ ap (λ (t : List ℕ). t ++ b) h ∙ append_assoc old a b
grows_after (Err e) old mid new a b h k = (a ++ k.0, k.1 ∙ ap (λ (t : List ℕ). t ++ k.0) h ∙ append_assoc old a k.0)

holds_after : {X : Type 0} (r : Result X AllocError) (old mid new : Vec ℕ Global) (a b : List ℕ) → mid.items ≡ old.items ++ a → vec_capacity old ≤ vec_capacity mid → Holds mid new b r → Holds old new (a ++ b) r
holds_after (Ok v) old mid new a b h le k = omega (arith, le, k)
holds_after (Err e) old mid new a b h le k =
    let longer : length mid.items ≡ length old.items + length a = ap length h ∙ length-append old.items a in
    omega (arith, le, k, longer, mid.ok.0, old.ok.0, length-append a b)

-- a text after one that stands whole
pub puts_after : {X Y : Type 0} {v : Y} {r : Result X AllocError} {old mid new : Vec ℕ Global} {a b : List ℕ} → Puts old mid a (Ok v) → Puts mid new b r → Puts old new (a ++ b) r
puts_after {r = r} {old = old} {mid = mid} {new = new} {a = a} {b = b} h k = record {
  bytes = grows_after r old.items mid.items new.items a b h.bytes k.bytes;
  room = holds_after r old mid new a b h.bytes h.room k.room;
}

-- a text that stopped early, with what was to come behind it
pub puts_stopped : {X Y : Type 0} {e : AllocError} (r : Result X AllocError) {old new : Vec ℕ Global} {a : List ℕ} (b : List ℕ) → IsErrAnd r (λ f. f ≡ e) → Puts {X = Y} old new a (Err e) → Puts old new (a ++ b) r
puts_stopped (Ok v) b is h = absurd is
puts_stopped (Err f) {old = old} {new = new} {a = a} b is h = record { bytes = h.bytes; room = omega (arith, h.room, length-append a b) }

-- the last text stopped early
pub puts_passed : {X Y : Type 0} {e : AllocError} (r : Result X AllocError) {old new : Vec ℕ Global} {a : List ℕ} → IsErrAnd r (λ f. f ≡ e) → Puts {X = Y} old new a (Err e) → Puts old new a r
puts_passed (Ok v) is h = absurd is
puts_passed (Err f) is h = record { bytes = h.bytes; room = h.room }

-- the same text, whatever else the call answers that put it
pub puts_as : {X Y : Type 0} {u : X} {v : Y} {old new : Vec ℕ Global} {a : List ℕ} → Puts old new a (Ok u) → Puts old new a (Ok v)
puts_as h = record { bytes = h.bytes; room = h.room }

-- the same text, said in another way
pub puts_text : {X : Type 0} {r : Result X AllocError} {old new : Vec ℕ Global} {a b : List ℕ} → a ≡ b → Puts old new a r → Puts old new b r
puts_text {r = r} {old = old} {new = new} e h = subst (λ (t : List ℕ). Puts old new t r) e h

-- ---- words

pub spaced : (word : List ℕ) (empty : Bool) → word ++ when (not empty) (codes " ") ≡ word_before word empty
spaced word true = append-nil word
spaced word false = refl

pub word_behind : (a word : List ℕ) (empty : Bool) → a ++ word_before word empty ≡ word_before (a ++ word) empty
word_behind a word true = refl
word_behind a word false = sym (append_assoc a word (codes " "))

-- ---- a text of which a part is to come

-- what was appended is the text without the rest
pub record Reaches (old new : Vec ℕ Global) (rest text : List ℕ) : Type 0 where
  pub front : List ℕ
  pub is_text : text ≡ front ++ rest
  pub puts : Puts {X = Unit {0}} old new front (Ok tt)

pub reaches_none : (old : Vec ℕ Global) (rest text : List ℕ) → text ≡ rest → Reaches old old rest text
reaches_none old rest text e = record { front = []; is_text = e; puts = nothing old }

-- one piece more
pub reaches_more : {X : Type 0} {u : X} {old mid new : Vec ℕ Global} (a : List ℕ) {rest next text : List ℕ} → rest ≡ a ++ next → Reaches old mid rest text → Puts mid new a (Ok u) → Reaches old new next text
reaches_more a {next = next} e h k = record {
  front = h.front ++ a;
  is_text = h.is_text ∙ ap (λ (l : List ℕ). h.front ++ l) e ∙ sym (append_assoc h.front a next);
  puts = puts_after h.puts (puts_as k);
}

-- nothing more
pub reaches_same : {old new : Vec ℕ Global} {rest next text : List ℕ} → rest ≡ next → Reaches old new rest text → Reaches old new next text
reaches_same {old = old} {new = new} {text = text} e h = subst (λ (l : List ℕ). Reaches old new l text) e h

-- all that was to come
pub reaches_last : {X : Type 0} {r : Result X AllocError} {old mid new : Vec ℕ Global} {a rest text : List ℕ} → rest ≡ a → Reaches old mid rest text → Puts mid new a r → Puts old new text r
reaches_last {a = a} e h k = puts_text (ap (λ (l : List ℕ). h.front ++ l) (sym e) ∙ sym h.is_text) (puts_after h.puts k)

-- the next piece stopped early
pub reaches_stopped : {X Y : Type 0} {e : AllocError} (r : Result X AllocError) {old mid new : Vec ℕ Global} (a next : List ℕ) {rest text : List ℕ} → rest ≡ a ++ next → IsErrAnd r (λ f. f ≡ e) → Reaches old mid rest text → Puts {X = Y} mid new a (Err e) → Puts old new text r
reaches_stopped r a next e is h k = reaches_last e h (puts_stopped r next is k)
