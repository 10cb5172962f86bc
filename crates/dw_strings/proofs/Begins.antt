-- Bytes that begin with a text and the zero byte that ends it.
use Rattle.std.proofs.Common.{◌≡◌, ◌∙◌, ◌&&◌, ◌==◌, ℕ, Bool, true, false, List, [], ◌∷◌, length, take, Option, Some, None, nat_lt, get_or, Bor, refl, sym, subst, eq-eqb, arith}
use Rattle.std.specs.Prelude.{IfSome, not, is_some, slice_get, if◌then◌else◌}
use Rattle.std.specs.Option.{option_map}
use Rattle.std.specs.Str.{bytes_eq}
use Rattle.std.proofs.lemmas.Bool.{eqb-true, ne_eqb, ltb-true, ltb-false}
use Rattle.std.proofs.lemmas.Option.{slice_get_past, slice_get_read}
use Rattle.dw_leb.specs.ReadNumber.{before_zero}
use Rattle.dw_form.specs.Lent.{ZeroAt}
use Rattle.dw_strings.specs.Text.{is_text, unless_ended}

abbrev is_zero : Option ℕ → Bool
is_zero None = false
is_zero (Some x) = x == 0

-- no test comes out both ways
pub not_both : (v : Bool) → v ≡ false → v ≡ true → ⊥
not_both v e f = absurd cc

and_false : (p : Bool) → p && false ≡ false
and_false true = refl
and_false false = refl

-- a byte more, in front of the bytes and of the text, that is no zero
one_more : (x t : ℕ) (front : Option (List ℕ)) (text : List ℕ) (zero_there same none : Bool)
    → is_text text (unless_ended front) ≡ zero_there && (same && none)
    → is_text (t ∷ text) (unless_ended (elim front [ None ↦ None | Some bytes ↦ Some (x ∷ bytes) ])) ≡ zero_there && (((x == t) && same) && none)
one_more x t front text zero_there same none h = by front (x == t) refl h
  where
    by : (o : Option (List ℕ)) (v : Bool) → (x == t) ≡ v → is_text text (unless_ended o) ≡ zero_there && (same && none)
        → is_text (t ∷ text) (unless_ended (elim o [ None ↦ None | Some bytes ↦ Some (x ∷ bytes) ])) ≡ zero_there && (((x == t) && same) && none)
    by None true e k = rw e k
    by None false e k = rw e (sym (and_false zero_there))
    by (Some bytes) true e k = rw e k
    by (Some bytes) false e k = rw e (sym (and_false zero_there))

-- the byte behind so many is a zero, the bytes before it are the text, and there is no zero in it
begins_is : (xs text : List ℕ) → is_text text (unless_ended (before_zero xs)) ≡ is_zero (slice_get xs (length text)) && (bytes_eq (take (length text) xs) text && not (is_some (before_zero text)))
begins_is [] text = refl
begins_is (x ∷ xs) [] = by (x == 0) (before_zero xs) refl
  where
    by : (v : Bool) (o : Option (List ℕ)) → (x == 0) ≡ v → is_text [] (unless_ended (if v then Some [] else elim o [ None ↦ None | Some bytes ↦ Some (x ∷ bytes) ])) ≡ v && true
    by true o e = refl
    by false None e = refl
    by false (Some bytes) e = refl
begins_is (x ∷ xs) (t ∷ text) = by (x == 0) (x == t) refl refl (begins_is xs text)
  where
    zero_there : Bool
    zero_there = is_zero (slice_get xs (length text))

    same : Bool
    same = bytes_eq (take (length text) xs) text

    more : (o : Option (List ℕ)) → (t == 0) ≡ false → not (is_some (if t == 0 then Some [] else elim o [ None ↦ None | Some bytes ↦ Some (t ∷ bytes) ])) ≡ not (is_some o)
    more None e = rw e refl
    more (Some bytes) e = rw e refl

    zero_in : (t == 0) ≡ true → not (is_some (before_zero (t ∷ text))) ≡ false
    zero_in e = rw e refl

    by : (v w : Bool) → (x == 0) ≡ v → (x == t) ≡ w → is_text text (unless_ended (before_zero xs)) ≡ zero_there && (same && not (is_some (before_zero text)))
        → is_text (t ∷ text) (unless_ended (before_zero (x ∷ xs))) ≡ zero_there && (((x == t) && same) && not (is_some (before_zero (t ∷ text))))
    by true true e f h =
        let none : not (is_some (before_zero (t ∷ text))) ≡ false = zero_in (subst (λ (n : ℕ). (n == 0) ≡ true) (eqb-true x t f) e) in
        rw (e, none, and_false, and_false) refl
    by true false e f h = rw (e, f, and_false) refl
    by false true e f h =
        let none : not (is_some (before_zero (t ∷ text))) ≡ not (is_some (before_zero text)) = more (before_zero text) (subst (λ (n : ℕ). (n == 0) ≡ false) (eqb-true x t f) e) in
        rw (e, none) (one_more x t (before_zero xs) text zero_there same (not (is_some (before_zero text))) h)
    by false false e f h = rw (e, f, and_false) (let is = one_more x t (before_zero xs) text zero_there same (not (is_some (before_zero text))) h in rw (f, and_false) at is)

-- ---- where the byte behind was looked up

-- the byte at a place, if there is one
abbrev Looked : List ℕ → ℕ → Option (Bor ℕ) → Type 0
Looked xs n r = (is_some r ≡ nat_lt n (length xs)) × IfSome r (λ x. x.now ≡ get_or xs n x.now)

looked_is : (xs : List ℕ) (n : ℕ) (r : Option (Bor ℕ)) → Looked xs n r → slice_get xs n ≡ option_map (λ x. x.now) r
looked_is xs n None h = slice_get_past xs n (omega (arith, ltb-false n (length xs) (sym h.0)))
looked_is xs n (Some x) h = slice_get_read xs (length xs) n x.now refl (ltb-true n (length xs) (sym h.0)) h.1

module _ (xs text : List ℕ) (r : Option (Bor ℕ)) (looked : Looked xs (length text) r) where
  -- it is told by the byte behind, and by what stands before it
  abbrev Told : Bool → Type 0
  Told zero_there = is_text text (unless_ended (before_zero xs)) ≡ zero_there && (bytes_eq (take (length text) xs) text && not (is_some (before_zero text)))

  told : Told (is_zero (option_map (λ x. x.now) r))
  told = rw (← looked_is xs (length text) r looked) (begins_is xs text)

  told_by : (o : Option (Bor ℕ)) → r ≡ o → Told (is_zero (option_map (λ x. x.now) o))
  told_by o e = subst (λ (q : Option (Bor ℕ)). Told (is_zero (option_map (λ x. x.now) q))) e told

  pub none_behind : r ≡ None → false ≡ is_text text (unless_ended (before_zero xs))
  none_behind e = sym (told_by None e)

  pub no_zero_behind : (x : Bor ℕ) → r ≡ Some x → (x.now ≡ 0 → ⊥) → false ≡ is_text text (unless_ended (before_zero xs))
  no_zero_behind x e h = sym (subst Told (ne_eqb x.now 0 h) (told_by (Some x) e))

  zero_behind : (x : Bor ℕ) → r ≡ Some x → x.now ≡ 0 → Told true
  zero_behind x e h = subst Told (eq-eqb x.now 0 h) (told_by (Some x) e)

  pub differs : (x : Bor ℕ) → r ≡ Some x → x.now ≡ 0 → (same : Bool) → same ≡ bytes_eq (take (length text) xs) text → same ≡ false → same ≡ is_text text (unless_ended (before_zero xs))
  differs x e h same is f = f ∙ sym (zero_behind x e h ∙ rw (← is, f) refl)

  pub is_same : (x : Bor ℕ) → r ≡ Some x → x.now ≡ 0 → (same none : Bool) (at : Option ℕ) → same ≡ bytes_eq (take (length text) xs) text → same ≡ true
      → ZeroAt text at (before_zero text) → is_some at ≡ not none → none ≡ is_text text (unless_ended (before_zero xs))
  is_same x e h same none at is f zero tells = sym (zero_behind x e h ∙ rw (← is, f) (none_is none at zero tells))
    where
      none_is : (none : Bool) (at : Option ℕ) → ZeroAt text at (before_zero text) → is_some at ≡ not none → not (is_some (before_zero text)) ≡ none
      none_is true None zero tells = rw zero refl
      none_is false (Some k) zero tells = rw zero refl
      none_is false None zero tells = absurd cc
      none_is true (Some k) zero tells = absurd cc
