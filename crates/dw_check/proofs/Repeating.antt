-- Repeats for pairs, which of them are dropped, and that they are those of the attributes.
use Rattle.std.proofs.Common.{◌≡◌, ℕ, ◌+◌, Bool, true, false, cond, not, ◌||◌, ◌<◌, suc, get_or, drop, drop-cons, eqb, List, [], ◌∷◌, ◌++◌, length, map, refl, sym, ap, ◌∙◌, append_assoc, inl, inr, subst, arith}
use Rattle.std.specs.Prelude.{◌⊎◌, ◌==◌, Option, Some, None, is_some}
use Rattle.std.specs.List.{list_any}
use Rattle.std.proofs.lemmas.Bool.{cases_eq, eq-eqb, ne_eqb}
use Rattle.std.proofs.lemmas.List.{map-append, append-nil}
use Rattle.dw_form.specs.declared.shape.Ctx.{Ctx}
use Rattle.dw_leb.specs.Number.{Unsigned, Signed}
use Rattle.dw_form.specs.Form.{Attribute, attribute, by_indirection, at_number}
use Rattle.dw_form.specs.Pieces.{form_in, spelling}
use Rattle.dw_abbrev.specs.declared.pair.Pair.{Pair as ThePair}
use Rattle.dw_abbrev.specs.PairView.{pair_of}
use Rattle.dw_abbrev.specs.Table.{Pair, Table, declared}
use Rattle.dw_tree.specs.Tree.{declared_pairs, values}
use Rattle.dw_tree.specs.Lent.{LentAttribute, EntryAt, lent_attribute, lent_attributes, code_of, values_in}
use Rattle.dw_check.specs.Findings.{is_named_among}
use Rattle.dw_section.specs.Reference.{ref_forms}
use Rattle.dw_strings.specs.Text.{stored_forms}
use Rattle.dw_check.specs.Repeats.{repeats_behind, is_looked_at, refers_within, AreRepeatsFor, IsPlain, AreRepeatsOf, RepeatsInItsEntries}

-- the pairs that are left, behind others whose names are kept
pub record RepeatsSoFar (has : ℕ → Bool) (repeats : List Bool) (left all : List Pair) : Type 0 where
  pub before : List ℕ
  pub names : (q : ℕ) → has q ≡ list_any (eqb q) before
  pub repeating : repeats ++ repeats_behind before left ≡ repeats_behind [] all

pub eqb_sym : (a b : ℕ) → eqb a b ≡ eqb b a
eqb_sym a b = by (cases_eq a b)
  where
    by : (a ≡ b) ⊎ (a ≡ b → ⊥) → eqb a b ≡ eqb b a
    by (inl same) = eq-eqb a b same ∙ sym (eq-eqb b a (sym same))
    by (inr other) = ne_eqb a b other ∙ sym (ne_eqb b a (λ e. other (sym e)))

any_more : (q n : ℕ) (names : List ℕ) → list_any (eqb q) (names ++ n ∷ []) ≡ cond (eqb n q) true (list_any (eqb q) names)
any_more q n [] = by (eqb n q) (eqb q n) (eqb_sym n q)
  where
    by : (a b : Bool) → a ≡ b → b || false ≡ cond a true false
    by true b e = rw (← e) refl
    by false b e = rw (← e) refl
any_more q n (m ∷ ms) = by (eqb q m) (eqb n q) (any_more q n ms)
  where
    by : (a b : Bool) → list_any (eqb q) (ms ++ n ∷ []) ≡ cond b true (list_any (eqb q) ms) → a || list_any (eqb q) (ms ++ n ∷ []) ≡ cond b true (a || list_any (eqb q) ms)
    by true true e = refl
    by true false e = refl
    by false true e = e
    by false false e = e

not_not : (b : Bool) → not (not b) ≡ b
not_not true = refl
not_not false = refl

pub one_repeating : (has more : ℕ → Bool) (repeats : List Bool) (p : Pair) (left all : List Pair) (is_new : Bool) → RepeatsSoFar has repeats (p ∷ left) all → is_new ≡ not (has p.name.value) → ((q : ℕ) → more q ≡ cond (eqb p.name.value q) true (has q))
    → RepeatsSoFar more (repeats ++ not is_new ∷ []) left all
one_repeating has more repeats p left all is_new h is_is more_is =
    let n : ℕ = p.name.value in
    let mark : not is_new ≡ list_any (eqb n) h.before = ap not is_is ∙ not_not (has n) ∙ h.names n in
    record {
      before = h.before ++ n ∷ [];
      names = λ q. more_is q ∙ ap (cond (eqb n q) true) (h.names q) ∙ sym (any_more q n h.before);
      repeating = append_assoc repeats (not is_new ∷ []) (repeats_behind (h.before ++ n ∷ []) left) ∙ ap (λ (m : Bool). repeats ++ m ∷ repeats_behind (h.before ++ n ∷ []) left) mark ∙ h.repeating;
    }

pub all_repeating : (has : ℕ → Bool) (repeats : List Bool) (all : List Pair) → RepeatsSoFar has repeats [] all → repeats ≡ repeats_behind [] all
all_repeating has repeats all h = sym (append-nil repeats) ∙ h.repeating

-- the first of the pairs that are left
pub pairs_left : (ps : List ThePair) (i : ℕ) (p : ThePair) → i < length ps → p ≡ get_or ps i p → map pair_of (drop i ps) ≡ pair_of p ∷ map pair_of (drop (i + 1) ps)
pairs_left ps i p lt e =
    let one : i + 1 ≡ suc i = omega arith in
    rw (one, drop-cons ps i p) (ap (λ (q : ThePair). pair_of q ∷ map pair_of (drop (suc i) ps)) (sym e))

-- ---- what is dropped

-- all repeats are repeats
pub all_are_repeats : (names : List ℕ) (ps : List Pair) → AreRepeatsFor names ps (repeats_behind names ps)
all_are_repeats names [] = tt
all_are_repeats names (p ∷ ps) = (refl, all_are_repeats (names ++ p.name.value ∷ []) ps)

-- the last flag is dropped where its pair isn't looked at and has no earlier name
pub last_dropped : (names : List ℕ) (ps : List ThePair) (repeats : List Bool) (m : Bool) (p : ThePair) → AreRepeatsFor names (map pair_of ps) (repeats ++ m ∷ []) → m ≡ false
    → p ≡ get_or ps (length repeats) p → is_looked_at p.name.value p.form.value ≡ false → AreRepeatsFor names (map pair_of ps) repeats
last_dropped names [] repeats m p h unrepeated there plain = tt
last_dropped names (q ∷ ps) [] m p h unrepeated there plain = (subst (λ (x : ThePair). is_looked_at x.name.value x.form.value ≡ false) there plain, (sym h.0 ∙ unrepeated, h.1))
last_dropped names (q ∷ ps) (x ∷ repeats) m p h unrepeated there plain = (h.0, last_dropped (names ++ q.name.value ∷ []) ps repeats m p h.1 unrepeated there plain)

-- ---- attributes

any_named : (n : ℕ) (before : List LentAttribute) → list_any (eqb n) (map (λ a. a.name) before) ≡ is_named_among n before
any_named n [] = refl
any_named n (a ∷ before) = ap (λ (b : Bool). eqb n a.name || b) (any_named n before)

neither : (a b : Bool) → (a || b) ≡ false → (a ≡ false) × (b ≡ false)
neither true b e = absurd cc
neither false b e = (refl, e)

-- a value of another form than indirect is of the form that its declaration gives
direct : (k : Ctx) (form : ℕ) (c : Option Signed) (a : Attribute) → (attribute k form c).Fits a → (form == 0x16) ≡ false → a.via ≡ None
unfolding attribute
direct k form c a fits e = by a.via (form == 0x16) e fits
  where
    by : (via : Option Unsigned) (b : Bool) → b ≡ false → (by_indirection k c form b).Fits (record { via = via; value = a.value }) → via ≡ None
    by None b e fits = refl
    by (Some u) true e fits = absurd cc
    by (Some u) false e fits = absurd fits

-- an attribute of a pair that isn't looked at is plain
plain_of : (k : Ctx) (at : ℕ) (p : Pair) (v : Attribute) → (attribute k p.form.value p.constant).Fits v → is_looked_at p.name.value p.form.value ≡ false → IsPlain (lent_attribute at p v)
plain_of k at p v fits plain =
    let form = p.form.value in
    let name = neither (eqb p.name.value 0x01) _ plain in
    let indirect = neither (form == 0x16) _ name.1 in
    let forms = neither (is_some (at_number form ref_forms)) _ indirect.1 in
    let same : form ≡ form_in form v.via = ap (form_in form) (sym (direct k form p.constant v fits indirect.0)) in (
      name.0,
      (
        subst (λ (f : ℕ). is_some (at_number f ref_forms) ≡ false) same forms.0,
        subst (λ (f : ℕ). is_some (at_number f stored_forms) ≡ false) same forms.1,
      ),
    )

module _ (k : Ctx) where
  repeating_behind : (before : List LentAttribute) (names : List ℕ) (at : ℕ) (ps : List Pair) (vs : List Attribute) (repeats : List Bool) → names ≡ map (λ a. a.name) before → (values k ps).Fits vs
      → AreRepeatsFor names ps repeats → AreRepeatsOf before (lent_attributes k at ps vs) repeats
  repeating_behind before names at [] vs repeats same fits h = tt
  repeating_behind before names at (p ∷ ps) [] repeats same fits h = tt
  repeating_behind before names at (p ∷ ps) (v ∷ vs) [] same fits h =
      let a = lent_attribute at p v in
      let name : list_any (eqb p.name.value) names ≡ is_named_among p.name.value before = ap (list_any (eqb p.name.value)) same ∙ any_named p.name.value before in
      let more : names ++ p.name.value ∷ [] ≡ map (λ x. x.name) (before ++ a ∷ []) = ap (λ (ns : List ℕ). ns ++ p.name.value ∷ []) same ∙ sym (map-append (λ x. x.name) before (a ∷ [])) in (
        plain_of k at p v fits.0 h.0,
        (sym name ∙ h.1.0, repeating_behind (before ++ a ∷ []) (names ++ p.name.value ∷ []) (at + length (spelling k p.form.value v)) ps vs [] more fits.1 h.1.1),
      )
  repeating_behind before names at (p ∷ ps) (v ∷ vs) (m ∷ repeats) same fits h =
      let a = lent_attribute at p v in
      let name : list_any (eqb p.name.value) names ≡ is_named_among p.name.value before = ap (list_any (eqb p.name.value)) same ∙ any_named p.name.value before in
      let more : names ++ p.name.value ∷ [] ≡ map (λ x. x.name) (before ++ a ∷ []) = ap (λ (ns : List ℕ). ns ++ p.name.value ∷ []) same ∙ sym (map-append (λ x. x.name) before (a ∷ [])) in
      (h.0 ∙ name, repeating_behind (before ++ a ∷ []) (names ++ p.name.value ∷ []) (at + length (spelling k p.form.value v)) ps vs repeats more fits.1 h.1)

-- the repeats of an entry's code, in the table that is the entry's
pub repeating_entry : (t : Table) (e : EntryAt) (code : ℕ) → e.table ≡ t → (values e.context (declared_pairs (declared e.table (code_of e.node).value))).Fits (values_in e.node) → code ≡ (code_of e.node).value
    → RepeatsInItsEntries t code e
repeating_entry t e code table fits is repeats are =
    let coded = subst (λ (n : ℕ). AreRepeatsFor [] (declared_pairs (declared t n)) repeats) is are in
    let own = subst (λ (s : Table). AreRepeatsFor [] (declared_pairs (declared s (code_of e.node).value)) repeats) (sym table) coded in
    repeating_behind e.context [] [] (e.offset + (code_of e.node).width) (declared_pairs (declared e.table (code_of e.node).value)) (values_in e.node) repeats refl fits own

-- ---- references

pub any_refers : (ps : List ThePair) → list_any (λ p. refers_within p.name.value p.form.value) ps ≡ list_any (λ p. refers_within p.name.value p.form.value) (map pair_of ps)
any_refers [] = refl
any_refers (p ∷ ps) = ap (λ (b : Bool). refers_within p.name.value p.form.value || b) (any_refers ps)
