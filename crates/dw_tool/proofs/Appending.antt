-- Texts that are appended to an output, one after the other.
use Rattle.std.proofs.Common.{◌≡◌, ◌∙◌, ℕ, zero, suc, ◌+◌, ◌<◌, Bool, true, false, List, [], ◌∷◌, ◌++◌, length, take, drop, get_or, Option, Result, Ok, Err, refl, sym, subst, ap, append_assoc, append-nil, arith}
use Rattle.std.proofs.Math.Seq.{take-suc}
use Rattle.std.specs.Prelude.{IsErrAnd, IsTrue, ◌&&◌}
use Rattle.std.specs.Io.KnownBytes.{Appends}
use Rattle.dw_leb.specs.declared.errors.WriteError.{WriteError}
use Rattle.dw_leb.specs.declared.watch.Watched.{Watched}
use Rattle.dw_leb.specs.Watch.{AppendsFront, Wrote, inner_of, writer_fault}
use Rattle.dw_leb.specs.Transfers.{appends_more, appends_none, front_behind, front_of_both}
use Rattle.dw_tool.specs.declared.output.Output.{Output}
use Rattle.dw_tool.specs.Output.{IsClear, Passes, Puts, buffered, writer_of}
use Rattle.dw_tool.specs.Text.{each}

-- what is written of two texts
both : (w1 w2 x y z a b : List ℕ) → w1 ++ y ≡ x ++ a → w2 ++ z ≡ y ++ b → (w1 ++ w2) ++ z ≡ x ++ (a ++ b)
both w1 w2 x y z a b h k =
    append_assoc w1 w2 z ∙ ap (λ (t : List ℕ). w1 ++ t) k ∙ sym (append_assoc w1 y b) ∙ ap (λ (t : List ℕ). t ++ b) h ∙ append_assoc x a b

passes_after : {X : Type 0} (r : Result X WriteError) (old mid new : Option (List ℕ)) (x y z a b w : List ℕ) → Appends old mid w → w ++ y ≡ x ++ a → Passes mid new y z b r → Passes old new x z (a ++ b) r
passes_after (Ok v) old mid new x y z a b w h e k = (w ++ k.0, appends_more old mid new w k.0 h k.1, both w k.0 x y z a b e k.2)
passes_after (Err v) old mid new x y z a b w h e k =
    subst (λ (t : List ℕ). AppendsFront old new t) (sym (append_assoc w y b) ∙ ap (λ (t : List ℕ). t ++ b) e ∙ append_assoc x a b) (front_behind old mid new w (y ++ b) h k)

-- a text after one that stands whole
pub puts_after : {W X Y : Type 0} {v : Y} {contents : W → Option (List ℕ)} {r : Result X WriteError} {old mid new : Output W} {a b : List ℕ}
    → Puts contents old mid a (Ok v) → Puts contents mid new b r → Puts contents old new (a ++ b) r
puts_after {r = r} {a = a} {b = b} h k = record {
  passes = passes_after r _ _ _ _ _ _ a b h.passes.0 h.passes.1 h.passes.2 k.passes;
  fault = k.fault;
  same = k.same ∙ h.same;
}

-- a text that stopped early
pub puts_stopped : {W X Y : Type 0} {e : WriteError} {contents : W → Option (List ℕ)} {r : Result X WriteError} {old new : Output W} {a : List ℕ} (b : List ℕ)
    → IsErrAnd r (λ f. f ≡ e) → Puts {X = Y} contents old new a (Err e) → Puts contents old new (a ++ b) r
puts_stopped {r = Ok x} b is h = absurd is
puts_stopped {X = X} {e = e} {contents = contents} {r = Err f} {old = old} {new = new} {a = a} b is h =
    let before : Option (List ℕ) = contents (inner_of (writer_of old)) in
    let after : Option (List ℕ) = contents (inner_of (writer_of new)) in
    record {
      passes = subst (λ (t : List ℕ). AppendsFront before after t) (append_assoc (buffered old) a b) (front_of_both before after (buffered old ++ a) b h.passes);
      fault = h.fault ∙ ap (λ (k : WriteError). writer_fault {X = X} (Err k)) (sym is);
      same = h.same;
    }

-- a text that stopped early, after one that stands whole
pub stopped_after : {W X Y Z : Type 0} {v : Y} {e : WriteError} {contents : W → Option (List ℕ)} {r : Result X WriteError} {old mid new : Output W} {a b : List ℕ} (c : List ℕ)
    → IsErrAnd r (λ f. f ≡ e) → Puts contents old mid a (Ok v) → Puts {X = Z} contents mid new b (Err e) → Puts contents old new (a ++ (b ++ c)) r
stopped_after c is h k = puts_after h (puts_stopped c is k)

-- no text
pub puts_nothing : {W : Type 0} (contents : W → Option (List ℕ)) (out : Output W) → IsClear out → Puts {X = Unit {0}} contents out out [] (Ok tt)
puts_nothing contents out clear = record {
  passes = ([], appends_none (contents (inner_of (writer_of out))), sym (append-nil (buffered out)));
  fault = clear;
  same = refl;
}

-- the same text, whatever the call that put it answers besides
pub puts_as : {W X Y : Type 0} {u : X} {v : Y} (contents : W → Option (List ℕ)) (old new : Output W) (text : List ℕ) → Puts contents old new text (Ok u) → Puts contents old new text (Ok v)
puts_as contents old new text h = record { passes = h.passes; fault = h.fault; same = h.same }

-- ---- one piece

-- the buffer is written, and then the piece
pub passes_flushed : {X : Type 0} (r : Result X WriteError) (old mid new : Option (List ℕ)) (x a z : List ℕ) → Appends old mid x → z ≡ [] → Wrote mid new a r → Passes old new x z a r
passes_flushed (Ok v) old mid new x a z h empty k = (x ++ a, appends_more old mid new x a h k, ap (λ (t : List ℕ). (x ++ a) ++ t) empty ∙ append-nil (x ++ a))
passes_flushed (Err v) old mid new x a z h empty k = front_behind old mid new x a h k

-- ---- an output whose buffer is empty at first

written_whole : {X : Type 0} (r : Result X WriteError) (old mid new : Option (List ℕ)) (y text w : List ℕ) → Appends old mid w → w ++ y ≡ text → Wrote mid new y r → Wrote old new text r
written_whole (Ok v) old mid new y text w h e k = subst (λ (t : List ℕ). Appends old new t) e (appends_more old mid new w y h k)
written_whole (Err v) old mid new y text w h e k = subst (λ (t : List ℕ). AppendsFront old new t) e (front_behind old mid new w y h k)

-- a text is put whole, and then the buffer is written
pub wrote_flushed : {W X Y : Type 0} {v : Y} (contents : W → Option (List ℕ)) (r : Result X WriteError) (w : Watched W) (old mid : Output W) (text : List ℕ) (new : Option (List ℕ))
    → writer_of old ≡ w → buffered old ≡ [] → Puts contents old mid text (Ok v) → Wrote (contents (inner_of (writer_of mid))) new (buffered mid) r → Wrote (contents (inner_of w)) new text r
wrote_flushed contents r w old mid text new same empty h k =
    let whole : h.passes.0 ++ buffered mid ≡ text = h.passes.2 ∙ ap (λ (t : List ℕ). t ++ text) empty in
    subst (λ (v : Watched _). Wrote (contents (inner_of v)) new text r) same (written_whole r _ _ new (buffered mid) text h.passes.0 h.passes.1 whole k)

-- a text stops early
pub wrote_stopped : {W X Y : Type 0} {e : WriteError} (contents : W → Option (List ℕ)) (r : Result X WriteError) (w : Watched W) (old new : Output W) (text : List ℕ)
    → writer_of old ≡ w → buffered old ≡ [] → IsErrAnd r (λ f. f ≡ e) → Puts {X = Y} contents old new text (Err e) → Wrote (contents (inner_of w)) (contents (inner_of (writer_of new))) text r
wrote_stopped contents (Ok x) w old new text same empty is h = absurd is
wrote_stopped contents (Err f) w old new text same empty is h =
    let after : Option (List ℕ) = contents (inner_of (writer_of new)) in
    subst (λ (v : Watched _). AppendsFront (contents (inner_of v)) after text) same
    (subst (λ (t : List ℕ). AppendsFront (contents (inner_of (writer_of old))) after (t ++ text)) empty h.passes)

-- an error is passed on
pub wrote_passed : {X : Type 0} (e : WriteError) (r : Result X WriteError) (old new : Option (List ℕ)) (text : List ℕ) → IsErrAnd r (λ f. f ≡ e) → AppendsFront old new text → Wrote old new text r
wrote_passed e (Ok x) old new text is h = absurd is
wrote_passed e (Err f) old new text is h = h

-- ---- a text for each element

each-append : (f : ℕ → List ℕ) (xs ys : List ℕ) → each f (xs ++ ys) ≡ each f xs ++ each f ys
each-append f [] ys = refl
each-append f (x ∷ xs) ys = ap (λ (t : List ℕ). f x ++ t) (each-append f xs ys) ∙ sym (append_assoc (f x) (each f xs) (each f ys))

-- one element more
each_more : (f : ℕ → List ℕ) (xs : List ℕ) (i : ℕ) → i < length xs → each f (take (suc i) xs) ≡ each f (take i xs) ++ f (get_or xs i 0)
each_more f xs i lt =
    ap (each f) (take-suc xs i 0 lt) ∙ each-append f (take i xs) (get_or xs i 0 ∷ []) ∙ ap (λ (t : List ℕ). each f (take i xs) ++ t) (append-nil (f (get_or xs i 0)))

-- the elements before, the element, and those after it
each_split : (f : ℕ → List ℕ) (xs : List ℕ) (i : ℕ) → i < length xs → each f xs ≡ each f (take i xs) ++ (f (get_or xs i 0) ++ each f (drop (suc i) xs))
each_split f [] i lt = absurd (omega arith)
each_split f (x ∷ xs) zero lt = refl
each_split f (x ∷ xs) (suc i) lt =
    ap (λ (t : List ℕ). f x ++ t) (each_split f xs i (omega arith)) ∙ sym (append_assoc (f x) (each f (take i xs)) (f (get_or xs i 0) ++ each f (drop (suc i) xs)))

-- a list in which the text of one element is only begun
pub each_stopped : {W X Y Z : Type 0} {v : Y} {e : WriteError} (contents : W → Option (List ℕ)) (r : Result X WriteError) (f : ℕ → List ℕ) (xs : List ℕ) (i : ℕ) (old mid new : Output W)
    → IsErrAnd r (λ g. g ≡ e) → i < length xs → Puts contents old mid (each f (take i xs)) (Ok v) → Puts {X = Z} contents mid new (f (get_or xs i 0)) (Err e) → Puts contents old new (each f xs) r
each_stopped contents r f xs i old mid new is lt before h =
    subst (λ (t : List ℕ). Puts contents old new t r) (sym (each_split f xs i lt))
    (stopped_after _ is before h)

pub each_whole : {W X Y : Type 0} {v : Y} {u : X} (contents : W → Option (List ℕ)) (f : ℕ → List ℕ) (xs : List ℕ) (i : ℕ) (old mid new : Output W)
    → i < length xs → Puts contents old mid (each f (take i xs)) (Ok v) → Puts contents mid new (f (get_or xs i 0)) (Ok u) → Puts contents old new (each f (take (i + 1) xs)) (Ok u)
each_whole {u = u} contents f xs i old mid new lt before h =
    let one : suc i ≡ i + 1 = omega arith in
    subst (λ (t : List ℕ). Puts contents old new t (Ok u)) (sym (each_more f xs i lt) ∙ ap (λ (k : ℕ). each f (take k xs)) one)
    (puts_after before h)

-- bytes that are written as they are, and one more
pub each_same : (f : ℕ → List ℕ) (xs : List ℕ) (i : ℕ) → i < length xs → each f (take i xs) ≡ take i xs → f (get_or xs i 0) ≡ get_or xs i 0 ∷ [] → each f (take (i + 1) xs) ≡ take (i + 1) xs
each_same f xs i lt before own =
    let one : suc i ≡ i + 1 = omega arith in
    subst (λ (k : ℕ). each f (take k xs) ≡ take k xs) one (each_more f xs i lt ∙ (ap (λ (t : List ℕ). t ++ f (get_or xs i 0)) before ∙ (ap (λ (t : List ℕ). take i xs ++ t) own ∙ sym (take-suc xs i 0 lt))))

pub both_true : (p q : Bool) → IsTrue (p && q) → IsTrue p × IsTrue q
both_true true q h = (refl, h)
both_true false q h = absurd cc

-- ---- a text of which a part is to come

-- what was put is the text without the rest
pub record Reaches {W : Type 0} (contents : W → Option (List ℕ)) (old new : Output W) (rest text : List ℕ) : Type 0 where
  pub front : List ℕ
  pub is_text : text ≡ front ++ rest
  pub puts : Puts {X = Unit {0}} contents old new front (Ok tt)

-- one piece more
pub reaches_more : {W X : Type 0} {u : X} {contents : W → Option (List ℕ)} {old mid new : Output W} {a rest text : List ℕ}
    → Reaches contents old mid (a ++ rest) text → Puts contents mid new a (Ok u) → Reaches contents old new rest text
reaches_more {a = a} {rest = rest} h k = record {
  front = h.front ++ a;
  is_text = h.is_text ∙ sym (append_assoc h.front a rest);
  puts = puts_after h.puts (puts_as _ _ _ a k);
}

-- the next piece is only begun
pub reaches_stopped : {W X Y : Type 0} {e : WriteError} {contents : W → Option (List ℕ)} {r : Result X WriteError} {old mid new : Output W} {a text : List ℕ} (rest : List ℕ)
    → IsErrAnd r (λ f. f ≡ e) → Reaches contents old mid (a ++ rest) text → Puts {X = Y} contents mid new a (Err e) → Puts contents old new text r
reaches_stopped {contents = contents} {r = r} {old = old} {new = new} rest is h k =
    subst (λ (t : List ℕ). Puts contents old new t r) (sym h.is_text) (stopped_after rest is h.puts k)

-- nothing is to come
pub reaches_end : {W X : Type 0} {v : X} {contents : W → Option (List ℕ)} {old new : Output W} {text : List ℕ} → Reaches contents old new [] text → Puts contents old new text (Ok v)
reaches_end {v = v} {contents = contents} {old = old} {new = new} h =
    subst (λ (t : List ℕ). Puts contents old new t (Ok v)) (sym (append-nil h.front) ∙ sym h.is_text) (puts_as contents old new h.front h.puts)
