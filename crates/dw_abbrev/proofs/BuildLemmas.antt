-- What is built fits.
use Rattle.std.proofs.Common.{◌≡◌, ◌+◌, ◌≤◌, ℕ, Bool, true, false, eqb, List, [], ◌∷◌, ◌++◌, length, Option, Some, None, is_some, refl, sym, ap, subst, ◌∙◌, arith}
use Rattle.std.specs.Prelude.{map, option_map, ◌==◌, ◌||◌, nat_le, nat_lt, if◌then◌else◌}
use Rattle.std.proofs.Math.Nat.{one-le-pow}
use Rattle.std.proofs.lemmas.Bool.{eqb-false, ne_eqb, lt-ltb, leb-true, and_parts}
use Rattle.std.proofs.lemmas.List.{length-append, map-append}
use Rattle.dw_leb.specs.declared.unsigned.Uleb.{Uleb}
use Rattle.dw_leb.specs.declared.signed.Sleb.{Sleb}
use Rattle.dw_leb.specs.View.{uleb_of, sleb_of}
use Rattle.dw_leb.specs.Part.{◌then◌, judged, optional}
use Rattle.dw_leb.specs.declared.order.Order.TheVariants.{Little}
use Rattle.dw_leb.specs.Number.{Unsigned, UlebFits, uleb, sleb, fixed}
use Rattle.dw_leb.specs.Repeat.{ItemsFit}
use Rattle.dw_leb.specs.DecideNumber.{uleb_fits, sleb_fits}
use Rattle.dw_leb.specs.declared.errors.Reason.TheVariants.{DuplicateCode as Repeated}
use Rattle.dw_abbrev.specs.declared.pair.Pair.{Pair as RustPair}
use Rattle.dw_abbrev.specs.declared.refusal.TableRefusal.TheVariants.{DuplicateCode, TooManyPairs, BadWidth, HalfPair, WrongConstant}
use Rattle.dw_abbrev.specs.PairView.{pair_of}
use Rattle.dw_abbrev.specs.DecideTable.{Item, pair_head, pair_rest, code_head}
use Rattle.dw_abbrev.specs.Table.{Pair, Declaration, Table, Described, IsZero, is_null, is_end, is_among, half, first_of, bad_flag, described, pair_parts, declaration_parts, zero_of, declared_in, table}
use Rattle.dw_abbrev.specs.Build.{is_width, width_refusal, constant_belongs, pair_refusal, has_too_many, add_refusal, ArePairs, DeclarationFits}
use Rattle.dw_abbrev.proofs.DeclLemmas.{zero_is}
use Rattle.dw_abbrev.proofs.TableLemmas.{among_declared}

-- ---- zeros

zero_holds : (width : ℕ) → is_width width ≡ true → UlebFits (record { value = 0; width = width })
zero_holds width e =
    let h = and_parts (nat_le 1 width) (nat_le width 16) e in
    record {
      some = leb-true 1 width h.0;
      most = leb-true width 16 h.1;
      held = one-le-pow width 128 (omega arith);
      range = omega arith;
    }

pub no_zero : (width : ℕ) → (UlebFits (record { value = 0; width = width }) → false ≡ true) → width_refusal width ≡ Some BadWidth
no_zero width none = by (is_width width) refl
  where
    by : (v : Bool) → is_width width ≡ v → (if v then None else Some BadWidth) ≡ Some BadWidth
    by true e = let h : false ≡ true = none (zero_holds width e) in absurd cc
    by false e = refl

pub zero_fits : (u : Uleb) → IsZero (uleb_of u) → UlebFits (zero_of u.width)
zero_fits u e = subst (λ (v : Unsigned). UlebFits v) (zero_is (uleb_of u) e) u.fits

pub least_zero : uleb.Fits (zero_of 1)
least_zero = uleb_fits (zero_of 1) (zero_holds 1 refl)

-- ---- pairs

abbrev IsWhole : Pair → Type 0
IsWhole p = (is_null p.name ≡ false) × (is_null p.form ≡ false) × (constant_belongs p.form p.constant ≡ true)

is_whole : (p : Pair) → pair_refusal p ≡ None → IsWhole p
is_whole p e = by (is_null p.name) refl (is_null p.form) refl (constant_belongs p.form p.constant) refl e
  where
    by : (n : Bool) → is_null p.name ≡ n → (f : Bool) → is_null p.form ≡ f → (b : Bool) → constant_belongs p.form p.constant ≡ b
        → (if n || f then Some HalfPair else if b then None else Some WrongConstant) ≡ None → IsWhole p
    by false en false ef true eb h = (en, ef, eb)
    by true en f ef b eb h = absurd cc
    by false en true ef b eb h = absurd cc
    by false en false ef false eb h = absurd cc

pub first_none : {X : Type 0} (a b : Option X) → first_of a b ≡ None → a ≡ None
first_none None b e = refl
first_none (Some x) b e = absurd cc

pub whole_pair : (p : Pair) → half (p.name, p.form) ≡ None → is_end (p.name, p.form) ≡ false → constant_belongs p.form p.constant ≡ true → pair_refusal p ≡ None
whole_pair p h e c = by (is_null p.name) refl (is_null p.form) refl (rw (← c) refl)
  where
    by : (n : Bool) → is_null p.name ≡ n → (f : Bool) → is_null p.form ≡ f → constant_belongs p.form p.constant ≡ true → pair_refusal p ≡ None
    by false en false ef eb = rw (en, ef, eb) refl
    by true en f ef eb = absurd cc
    by false en true ef eb = absurd cc

pub more_pairs : (ps : List Pair) (p : Pair) → ArePairs ps → pair_refusal p ≡ None → ArePairs (ps ++ p ∷ [])
more_pairs [] p h e = (e, tt)
more_pairs (q ∷ ps) p h e = (h.0, more_pairs ps p h.1 e)

constant_fits : (v : Bool) (form : Unsigned) (o : Option Sleb) → (form.value == 0x21) ≡ v → constant_belongs form (option_map sleb_of o) ≡ true → (optional v sleb).Fits (option_map sleb_of o)
constant_fits true form None e h = absurd cc
constant_fits false form None e h = tt
constant_fits true form (Some s) e h = sleb_fits (sleb_of s) s.fits
constant_fits false form (Some s) e h = absurd cc

pairs_fit : (before : List Item) (ps : List RustPair) (n f : ℕ) → UlebFits (zero_of n) → UlebFits (zero_of f) → ArePairs (map pair_of ps) → length before + length ps ≤ 1024
    → ItemsFit pair_head is_end pair_rest before (map pair_parts (map pair_of ps)) (zero_of n, zero_of f)
pairs_fit before [] n f zn zf h le = ((((uleb_fits (zero_of n) zn, uleb_fits (zero_of f) zf), refl), refl), refl)
pairs_fit before (p ∷ ps) n f zn zf h le =
    let w = is_whole (pair_of p) h.0 in
    let few : nat_lt (length before) 1024 ≡ true = lt-ltb (length before) 1024 (omega (arith, le)) in
    let one : length (before ++ pair_parts (pair_of p) ∷ []) ≡ length before + 1 = length-append before (pair_parts (pair_of p) ∷ []) in (
      ((((uleb_fits (uleb_of p.name) p.name.fits, uleb_fits (uleb_of p.form) p.form.fits), rw (w.0, w.1) refl), rw (w.0, few) refl), rw w.0 refl, constant_fits (p.form.value == 0x21) (uleb_of p.form) p.constant refl w.2),
      pairs_fit (before ++ pair_parts (pair_of p) ∷ []) ps n f zn zf h.1 (omega (arith, le, one)),
    )

flag_fits : (b : Bool) → (judged (fixed Little 1) bad_flag).Fits (if b then 1 else 0)
flag_fits true = (omega arith, refl)
flag_fits false = (omega arith, refl)

pub declaration_fits : (code tag : Uleb) (children : Bool) (ps : List RustPair) (n f : ℕ) → UlebFits (zero_of n) → UlebFits (zero_of f) → is_null (uleb_of code) ≡ false → ArePairs (map pair_of ps) → length ps ≤ 1024
    → DeclarationFits (record { code = uleb_of code; tag = uleb_of tag; children = children; pairs = map pair_of ps; name_zero = n; form_zero = f })
declaration_fits code tag children ps n f zn zf some h le = record {
  code = uleb_fits (uleb_of code) code.fits;
  some = some;
  rest = (uleb_fits (uleb_of tag) tag.fits, (flag_fits children, pairs_fit [] ps n f zn zf h (omega (arith, le))));
}

-- ---- tables

abbrev AreItems : List (Unsigned × Described) → List (Unsigned × Described) → ℕ → Type 0
AreItems before xs width = ItemsFit code_head is_null (λ _. described) before xs (zero_of width)

neither : (a b : Bool) → a || b ≡ false → (a ≡ false) × (b ≡ false)
neither false false e = (refl, refl)
neither true b e = absurd cc
neither false true e = absurd cc

unrepeated : (b : Bool) → (if b then Some Repeated else None) ≡ None → b ≡ false
unrepeated false e = refl
unrepeated true e = absurd cc

among_push : (code : ℕ) (before : List (Unsigned × Described)) (x : Unsigned × Described) → is_among code before ≡ false → (code == x.0.value) ≡ false → is_among code (before ++ x ∷ []) ≡ false
among_push code [] x h e = rw e refl
among_push code (y ∷ before) x h e =
    let p = neither (code == y.0.value) (is_among code before) h in
    rw (p.0, among_push code before x p.1 e) refl

turned : (a b : ℕ) → (a == b) ≡ false → (b == a) ≡ false
turned a b e = ne_eqb b a (λ s. eqb-false a b e (sym s))

items_ended : (before xs : List (Unsigned × Described)) (v w : ℕ) → uleb.Fits (zero_of w) → AreItems before xs v → AreItems before xs w
items_ended before [] v w fit h = ((fit, h.0.1), refl)
items_ended before (x ∷ xs) v w fit h = (h.0, items_ended (before ++ x ∷ []) xs v w fit h.1)

items_added : (before xs : List (Unsigned × Described)) (x : Unsigned × Described) (w : ℕ) → uleb.Fits x.0 → is_null x.0 ≡ false → described.Fits x.1
    → is_among x.0.value before ≡ false → is_among x.0.value xs ≡ false → AreItems before xs w → AreItems before (xs ++ x ∷ []) w
items_added before [] x w fit some rest b n h = (
  ((fit, rw b refl), some, rest),
  ((h.0.0, rw (among_push 0 before x (unrepeated (is_among 0 before) h.0.1) (turned x.0.value 0 some)) refl), refl),
)
items_added before (y ∷ ys) x w fit some rest b n h =
    let p = neither (x.0.value == y.0.value) (is_among x.0.value ys) n in
    (h.0, items_added (before ++ y ∷ []) ys x w fit some rest (among_push x.0.value before y b p.0) p.1 h.1)

-- one more item before all others
items_led : (x : Unsigned × Described) (before xs : List (Unsigned × Described)) (w : ℕ) → is_null x.0 ≡ false → is_among x.0.value xs ≡ false → AreItems before xs w → AreItems (x ∷ before) xs w
items_led x before [] w some new h = ((h.0.0, rw (turned x.0.value 0 some, unrepeated (is_among 0 before) h.0.1) refl), refl)
items_led x before (y ∷ ys) w some new h =
    let p = neither (x.0.value == y.0.value) (is_among x.0.value ys) new in (
      ((h.0.0.0, rw (turned x.0.value y.0.value p.0, unrepeated (is_among y.0.value before) h.0.0.1) refl), h.0.1, h.0.2),
      items_led x (before ++ y ∷ []) ys w some p.1 h.1,
    )

not_among : (ds : List Declaration) (code : ℕ) → declared_in ds code ≡ None → is_among code (map declaration_parts ds) ≡ false
not_among [] code e = refl
not_among (d ∷ ds) code e = by (code == d.code.value) refl e (not_among ds code)
  where
    by : (v : Bool) → (code == d.code.value) ≡ v → (if v then Some d else declared_in ds code) ≡ None → (declared_in ds code ≡ None → is_among code (map declaration_parts ds) ≡ false)
        → (code == d.code.value) || is_among code (map declaration_parts ds) ≡ false
    by true is f rest = absurd cc
    by false is f rest = rw (is, rest f) refl

-- one more declaration before all others
pub table_led : (d : Declaration) (t : Table) → DeclarationFits d → declared_in t.declarations d.code.value ≡ None → table.Fits t → table.Fits (record { declarations = d ∷ t.declarations; last_zero = t.last_zero })
unfolding table
table_led d t fit new h = (
  ((fit.code, refl), fit.some, fit.rest),
  items_led (declaration_parts d) [] (map declaration_parts t.declarations) t.last_zero fit.some (not_among t.declarations d.code.value new) h,
)

abbrev pub ended : List Declaration → ℕ → Table
ended ds width = record { declarations = ds; last_zero = width }

pub no_declarations : table.Fits (ended [] 1)
unfolding table
no_declarations = ((least_zero, refl), refl)

-- a table without declarations, whatever the width of its zero
pub nothing_fits : (width : ℕ) → uleb.Fits (zero_of width) → table.Fits (ended [] width)
unfolding table
nothing_fits width fit = ((fit, refl), refl)

pub table_ended : (ds : List Declaration) (u : Uleb) → IsZero (uleb_of u) → table.Fits (ended ds 1) → table.Fits (ended ds u.width)
unfolding table
table_ended ds u e h = items_ended [] (map declaration_parts ds) 1 u.width (uleb_fits (zero_of u.width) (zero_fits u e)) h

pub table_added : (ds : List Declaration) (d : Declaration) → is_some (declared_in ds d.code.value) ≡ false → DeclarationFits d → table.Fits (ended ds 1) → table.Fits (ended (ds ++ d ∷ []) 1)
unfolding table
table_added ds d new fit h =
    let n : is_among d.code.value (map declaration_parts ds) ≡ false = among_declared ds d.code.value ∙ new in
    subst (λ (xs : List (Unsigned × Described)). AreItems [] xs 1) (sym (map-append declaration_parts ds (d ∷ [])))
    (items_added [] (map declaration_parts ds) (declaration_parts d) 1 fit.code fit.some fit.rest refl n h)

-- ---- why a declaration is refused

pub add_twice : (ds : List Declaration) (d : Declaration) → is_some (declared_in ds d.code.value) ≡ true → add_refusal ds d ≡ Some DuplicateCode
add_twice ds d e = rw e refl

pub add_long : (ds : List Declaration) (d : Declaration) → is_some (declared_in ds d.code.value) ≡ false → has_too_many d ≡ true → add_refusal ds d ≡ Some TooManyPairs
add_long ds d e l = rw (e, l) refl

pub add_right : (ds : List Declaration) (d : Declaration) → is_some (declared_in ds d.code.value) ≡ false → has_too_many d ≡ false → add_refusal ds d ≡ None
add_right ds d e l = rw (e, l) refl
