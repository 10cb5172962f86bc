-- Declarations that are found by where their codes say that they stand.
use Rattle.std.proofs.Common.{◌≡◌, ℕ, zero, suc, ◌+◌, ◌<◌, ◌≤◌, ◌⊎◌, inl, inr, Bool, true, false, cond, eqb, nat_lt, List, [], ◌∷◌, ◌++◌, length, drop, get_or, Option, Some, None, IfSome, IfNone, option_copied, Bor, refl, sym, ap, subst, ◌∙◌, arith}
use Rattle.std.specs.Prelude.{◌==◌, if◌then◌else◌, slice_get, is_some}
use Rattle.std.specs.List.{AllByRecursion}
use Rattle.std.specs.Map.{lookup}
use Rattle.std.proofs.lemmas.Bool.{eqb-true, eqb-false, eq-eqb, ne_eqb, ltb-true, ltb-false}
use Rattle.std.proofs.lemmas.Option.{slice_get_past, slice_get_read}
use Rattle.dw_abbrev.specs.Table.{Declaration, declared_in}
use Rattle.dw_abbrev.specs.Places.{AreApart, AreNumbered, ArePlaces, StandsAt, places_from}
use Rattle.dw_abbrev.proofs.ListLemmas.{declared_before, declared_after, append_none}

-- ---- codes that are numbered

pub numbered_at : (n : ℕ) (ds : List Declaration) (i : ℕ) → AreNumbered n ds → i < length ds → StandsAt ds i (suc (n + i))
numbered_at n [] i h lt = absurd (omega (arith, lt))
numbered_at n (d ∷ ds) zero h lt = (d, refl, omega (arith, h.0))
numbered_at n (d ∷ ds) (suc i) h lt =
    let r = numbered_at (suc n) ds i h.1 (omega (arith, lt)) in
    (r.0, r.1, omega (arith, r.2))

pub numbered_below : (n : ℕ) (ds : List Declaration) (c : ℕ) → AreNumbered n ds → c ≤ n → declared_in ds c ≡ None
numbered_below n [] c h le = refl
numbered_below n (d ∷ ds) c h le =
    let other : (c == d.code.value) ≡ false = ne_eqb c d.code.value (λ s. omega (arith, s, h.0, le)) in
    rw other (numbered_below (suc n) ds c h.1 (omega (arith, le)))

pub numbered_above : (n : ℕ) (ds : List Declaration) (c : ℕ) → AreNumbered n ds → n + length ds < c → declared_in ds c ≡ None
numbered_above n [] c h lt = refl
numbered_above n (d ∷ ds) c h lt =
    let other : (c == d.code.value) ≡ false = ne_eqb c d.code.value (λ s. omega (arith, s, h.0, lt)) in
    rw other (numbered_above (suc n) ds c h.1 (omega (arith, lt)))

pub numbered_push : (n : ℕ) (ds : List Declaration) (d : Declaration) → AreNumbered n ds → d.code.value ≡ suc (n + length ds) → AreNumbered n (ds ++ d ∷ [])
numbered_push n [] d h e = (omega (arith, e), tt)
numbered_push n (x ∷ ds) d h e = (h.0, numbered_push (suc n) ds d h.1 (omega (arith, e)))

-- ---- codes whose places are kept

pub placed_at : (n : ℕ) (ds : List Declaration) (c i : ℕ) → lookup (eqb c) (places_from n ds) ≡ Some i → (k : ℕ) × (i ≡ n + k) × StandsAt ds k c
placed_at n [] c i e = absurd cc
placed_at n (d ∷ ds) c i e = by (eqb c d.code.value) refl e (placed_at (suc n) ds c i)
  where
    by : (v : Bool) → eqb c d.code.value ≡ v → cond v (Some n) (lookup (eqb c) (places_from (suc n) ds)) ≡ Some i
        → (lookup (eqb c) (places_from (suc n) ds) ≡ Some i → (k : ℕ) × (i ≡ suc n + k) × StandsAt ds k c) → (k : ℕ) × (i ≡ n + k) × StandsAt (d ∷ ds) k c
    by true is f rest =
        let same : n ≡ i = cc in
        (zero, omega (arith, same), (d, refl, sym (eqb-true c d.code.value is)))
    by false is f rest =
        let r = rest f in
        (suc r.0, omega (arith, r.1), r.2)

pub unplaced : (n : ℕ) (ds : List Declaration) (c : ℕ) → lookup (eqb c) (places_from n ds) ≡ None → declared_in ds c ≡ None
unplaced n [] c e = refl
unplaced n (d ∷ ds) c e = by (eqb c d.code.value) e (unplaced (suc n) ds c)
  where
    by : (v : Bool) → cond v (Some n) (lookup (eqb c) (places_from (suc n) ds)) ≡ None → (lookup (eqb c) (places_from (suc n) ds) ≡ None → declared_in ds c ≡ None) → (if v then Some d else declared_in ds c) ≡ None
    by true f rest = absurd cc
    by false f rest = rest f

pub no_place : (n : ℕ) (ds : List Declaration) (c : ℕ) → declared_in ds c ≡ None → lookup (eqb c) (places_from n ds) ≡ None
no_place n [] c e = refl
no_place n (d ∷ ds) c e = by (eqb c d.code.value) e (no_place (suc n) ds c)
  where
    by : (v : Bool) → (if v then Some d else declared_in ds c) ≡ None → (declared_in ds c ≡ None → lookup (eqb c) (places_from (suc n) ds) ≡ None) → cond v (Some n) (lookup (eqb c) (places_from (suc n) ds)) ≡ None
    by true f rest = absurd cc
    by false f rest = rest f

pub places_push : (n : ℕ) (ds : List Declaration) (d : Declaration) → places_from n (ds ++ d ∷ []) ≡ places_from n ds ++ (d.code.value, n + length ds) ∷ []
places_push n [] d = ap (λ (k : ℕ). (d.code.value, k) ∷ []) (omega arith)
places_push n (x ∷ ds) d =
    let sum : suc n + length ds ≡ n + suc (length ds) = omega arith in
    ap (λ (es : List (ℕ × ℕ)). (x.code.value, n) ∷ es) (places_push (suc n) ds d ∙ ap (λ (k : ℕ). places_from (suc n) ds ++ (d.code.value, k) ∷ []) sum)

pub are_places : (es : List (ℕ × ℕ)) (ds : List Declaration) → es ≡ places_from 0 ds → ArePlaces es ds
are_places [] [] e = tt
are_places [] (d ∷ ds) e = absurd cc
are_places (x ∷ es) ds e = e

pub all_placed : (es : List (ℕ × ℕ)) (ds : List Declaration) → ArePlaces es ds → (length es ≡ 0 → ⊥) → es ≡ places_from 0 ds
all_placed [] ds h some = absurd (some refl)
all_placed (x ∷ es) ds h some = h

pub none_placed : (es : List (ℕ × ℕ)) (ds : List Declaration) → ArePlaces es ds → length es ≡ 0 → AreNumbered 0 ds
none_placed [] ds h none = h
none_placed (x ∷ es) ds h none = absurd (omega (arith, none))

-- ---- codes of their own

-- the declaration at a place is that of its code
pub apart_at : (ds others : List Declaration) (i : ℕ) (d : Declaration) → AreApart ds others → slice_get ds i ≡ Some d → declared_in ds d.code.value ≡ Some d
apart_at [] others i d h e = absurd cc
apart_at (x ∷ ds) others zero d h e =
    let same : x ≡ d = cc in
    subst (λ (y : Declaration). declared_in (x ∷ ds) y.code.value ≡ Some y) same (rw (eq-eqb x.code.value x.code.value refl) refl)
apart_at (x ∷ ds) others (suc i) d h e = by (d.code.value == x.code.value) refl (apart_at ds others i d h.1 e)
  where
    by : (v : Bool) → (d.code.value == x.code.value) ≡ v → declared_in ds d.code.value ≡ Some d → (if v then Some x else declared_in ds d.code.value) ≡ Some d
    by true is rest =
        let same : d.code.value ≡ x.code.value = eqb-true d.code.value x.code.value is in
        let none : declared_in (ds ++ others) d.code.value ≡ None = ap (λ (n : ℕ). declared_in (ds ++ others) n) same ∙ h.0 in
        let some : declared_in (ds ++ others) d.code.value ≡ Some d = declared_before ds others d.code.value d rest in
        absurd cc
    by false is rest = rest

pub none_dropped : (n : ℕ) (ds : List Declaration) (c : ℕ) → declared_in ds c ≡ None → declared_in (drop n ds) c ≡ None
none_dropped zero ds c e = e
none_dropped (suc n) [] c e = refl
none_dropped (suc n) (d ∷ ds) c e = by (c == d.code.value) e (none_dropped n ds c)
  where
    by : (v : Bool) → (if v then Some d else declared_in ds c) ≡ None → (declared_in ds c ≡ None → declared_in (drop n ds) c ≡ None) → declared_in (drop n ds) c ≡ None
    by true f rest = absurd cc
    by false f rest = rest f

own_alone : (d : Declaration) (ds : List Declaration) → AreApart (d ∷ ds) [] → declared_in ds d.code.value ≡ None
own_alone d ds h = ap (λ (xs : List Declaration). declared_in xs d.code.value) (sym (append_none ds)) ∙ h.0

-- of the declarations from a place on: those behind it and before it
pub passed_over : (n i : ℕ) (ds : List Declaration) (c : ℕ) → AreApart ds [] → StandsAt ds i c → i < n → declared_in (drop n ds) c ≡ None
passed_over zero i ds c h at lt = absurd (omega (arith, lt))
passed_over (suc n) i [] c h at lt = refl
passed_over (suc n) zero (x ∷ ds) c h at lt =
    let e : Some x ≡ Some at.0 = at.1 in
    let same : x ≡ at.0 = cc in
    let code : x.code.value ≡ c = ap (λ (d : Declaration). d.code.value) same ∙ at.2 in
    none_dropped n ds c (ap (λ (k : ℕ). declared_in ds k) (sym code) ∙ own_alone x ds h)
passed_over (suc n) (suc i) (x ∷ ds) c h at lt = passed_over n i ds c h.1 at (omega (arith, lt))

pub found_from : (n i : ℕ) (ds : List Declaration) (c : ℕ) → AreApart ds [] → StandsAt ds i c → n ≤ i → declared_in (drop n ds) c ≡ slice_get ds i
found_from zero i ds c h at le = ap (λ (k : ℕ). declared_in ds k) (sym at.2) ∙ (apart_at ds [] i at.0 h at.1 ∙ sym at.1)
found_from (suc n) i [] c h at le =
    let e : None ≡ Some at.0 = at.1 in
    absurd cc
found_from (suc n) zero (x ∷ ds) c h at le = absurd (omega (arith, le))
found_from (suc n) (suc i) (x ∷ ds) c h at le = found_from n i ds c h.1 at (omega (arith, le))

pub apart_push : (ds : List Declaration) (d : Declaration) → AreApart ds [] → declared_in ds d.code.value ≡ None → AreApart (ds ++ d ∷ []) []
apart_push [] d h e = (refl, tt)
apart_push (x ∷ ds) d h e = by (d.code.value == x.code.value) refl e (apart_push ds d h.1)
  where
    by : (v : Bool) → (d.code.value == x.code.value) ≡ v → (if v then Some x else declared_in ds d.code.value) ≡ None → (declared_in ds d.code.value ≡ None → AreApart (ds ++ d ∷ []) []) → AreApart (x ∷ (ds ++ d ∷ [])) []
    by true is f others = absurd cc
    by false is f others =
        let other : (x.code.value == d.code.value) ≡ false = ne_eqb x.code.value d.code.value (λ s. eqb-false d.code.value x.code.value is (sym s)) in
        let last : declared_in (d ∷ []) x.code.value ≡ None = rw other refl in
        let alone = ap (λ (xs : List Declaration). declared_in xs x.code.value) (append_none (ds ++ d ∷ [])) ∙ (declared_after ds (d ∷ []) x.code.value (own_alone x ds h) ∙ last) in
        (alone, others f)

-- a list whose codes others don't have
pub apart_from_all : (ds others : List Declaration) → AreApart ds [] → AllByRecursion (λ d. declared_in others d.code.value ≡ None) ds → AreApart ds others
apart_from_all [] others h all = tt
apart_from_all (d ∷ ds) others h all = (declared_after ds others d.code.value (own_alone d ds h) ∙ all.0, apart_from_all ds others h.1 all.1)

-- the one behind some others has a code that these don't have
is_there : (xs : List Declaration) (d : Declaration) (rest : List Declaration) → declared_in (xs ++ d ∷ rest) d.code.value ≡ None → ⊥
is_there [] d rest e =
    let own : (d.code.value == d.code.value) ≡ true = eq-eqb d.code.value d.code.value refl in
    let f : Some d ≡ None = rw own at e in
    absurd cc
is_there (y ∷ xs) d rest e = by (d.code.value == y.code.value) e (is_there xs d rest)
  where
    by : (v : Bool) → (if v then Some y else declared_in (xs ++ d ∷ rest) d.code.value) ≡ None → (declared_in (xs ++ d ∷ rest) d.code.value ≡ None → ⊥) → ⊥
    by true f g = absurd cc
    by false f g = g f

pub apart_before : (ds : List Declaration) (d : Declaration) (rest : List Declaration) → AreApart (ds ++ d ∷ rest) [] → declared_in ds d.code.value ≡ None
apart_before [] d rest h = refl
apart_before (x ∷ ds) d rest h = by (d.code.value == x.code.value) refl (apart_before ds d rest h.1)
  where
    by : (v : Bool) → (d.code.value == x.code.value) ≡ v → declared_in ds d.code.value ≡ None → (if v then Some x else declared_in ds d.code.value) ≡ None
    by true is others =
        let same : d.code.value ≡ x.code.value = eqb-true d.code.value x.code.value is in
        absurd (is_there ds d rest (ap (λ (k : ℕ). declared_in (ds ++ d ∷ rest) k) same ∙ own_alone x (ds ++ d ∷ rest) h))
    by false is others = others

-- ---- what is told of a look-up

-- what stands at an index of a slice
pub looked_at : (xs : List Declaration) (n : ℕ) (r : Option (Bor Declaration)) → is_some r ≡ nat_lt n (length xs) → IfSome r (λ x. x.now ≡ get_or xs n x.now) → option_copied r ≡ slice_get xs n
looked_at xs n None there is = sym (slice_get_past xs n (omega (arith, ltb-false n (length xs) (sym there))))
looked_at xs n (Some x) there is = sym (slice_get_read xs (length xs) n x.now refl (ltb-true n (length xs) (sym there)) is)

pub numbered_found : (ds : List Declaration) (code count : ℕ) (r : Option ℕ) → AreNumbered 0 ds → count ≡ length ds → IfSome r (λ i. (code ≡ i + 1) × (i < count)) → IfSome r (λ i. StandsAt ds i code)
numbered_found ds code count None h e f = tt
numbered_found ds code count (Some i) h e f =
    let at = numbered_at 0 ds i h (omega (arith, f.1, e)) in
    (at.0, at.1, omega (arith, at.2, f.0))

pub numbered_none : (ds : List Declaration) (code count : ℕ) (r : Option ℕ) → AreNumbered 0 ds → count ≡ length ds → IfNone r ((code ≡ 0) ⊎ (count < code)) → IfNone r (declared_in ds code ≡ None)
numbered_none ds code count None h e (inl f) = numbered_below 0 ds code h (omega (arith, f))
numbered_none ds code count None h e (inr f) = numbered_above 0 ds code h (omega (arith, f, e))
numbered_none ds code count (Some i) h e f = tt

pub placed_found : (ds : List Declaration) (code : ℕ) (r : Option ℕ) → r ≡ lookup (eqb code) (places_from 0 ds) → IfSome r (λ i. StandsAt ds i code)
placed_found ds code None e = tt
placed_found ds code (Some i) e =
    let at = placed_at 0 ds code i (sym e) in
    subst (λ (k : ℕ). StandsAt ds k code) (omega (arith, at.1)) at.2

pub placed_none : (ds : List Declaration) (code : ℕ) (r : Option ℕ) → r ≡ lookup (eqb code) (places_from 0 ds) → IfNone r (declared_in ds code ≡ None)
placed_none ds code None e = unplaced 0 ds code (sym e)
placed_none ds code (Some i) e = tt

pub found_alike : (ds : List Declaration) (code : ℕ) (r : Option ℕ) → AreApart ds [] → IfSome r (λ i. StandsAt ds i code) → IfNone r (declared_in ds code ≡ None) → is_some r ≡ is_some (declared_in ds code)
found_alike ds code None apart found none = ap is_some (sym none)
found_alike ds code (Some i) apart found none = ap is_some (sym (found_from 0 i ds code apart found (omega arith) ∙ found.1))

-- ---- a new code

pub put_behind : (es new : List (ℕ × ℕ)) (ds : List Declaration) (d : Declaration) (code n : ℕ) → es ≡ places_from 0 ds → n ≡ length ds → new ≡ es ++ (code, n) ∷ [] → d.code.value ≡ code → ArePlaces new (ds ++ d ∷ [])
put_behind es new ds d code n there count is same =
    are_places new (ds ++ d ∷ [])
    (is ∙ ap (λ (xs : List (ℕ × ℕ)). xs ++ (code, n) ∷ []) there ∙ ap (λ (k : ℕ). places_from 0 ds ++ (k, n) ∷ []) (sym same) ∙ ap (λ (k : ℕ). places_from 0 ds ++ (d.code.value, k) ∷ []) (omega (arith, count)) ∙ sym (places_push 0 ds d))

pub still_numbered : (es : List (ℕ × ℕ)) (ds : List Declaration) (d : Declaration) (code : ℕ) → ArePlaces es ds → length es ≡ 0 → code ≡ length ds + 1 → d.code.value ≡ code → ArePlaces es (ds ++ d ∷ [])
still_numbered [] ds d code h none is same = numbered_push 0 ds d h (omega (arith, is, same))
still_numbered (x ∷ es) ds d code h none is same = absurd (omega (arith, none))

pub places_length : (n : ℕ) (ds : List Declaration) → length (places_from n ds) ≡ length ds
places_length n [] = refl
places_length n (d ∷ ds) = ap suc (places_length (suc n) ds)

pub none_left : (others ds : List Declaration) → length ds ≡ 0 → AllByRecursion (λ d. declared_in others d.code.value ≡ None) ds
none_left others [] e = tt
none_left others (d ∷ ds) e = absurd (omega (arith, e))
