-- Units under construction: one more entry.
use Rattle.std.proofs.Common.{◌≡◌, ◌≢◌, ◌≤◌, ◌<◌, ◌+◌, ◌∷◌, [], ℕ, suc, List, Bool, true, false, Option, Some, None, length, refl, sym, ap, ap₂, ◌∙◌, arith, length-append}
use Rattle.std.specs.Prelude.{nat_le, nat_lt, ◌==◌, if◌then◌else◌, not, IsSome, IsTrue, ◌↔◌}
use Rattle.std.proofs.lemmas.Bool.{leb-false, le-leb, ltb-true, ltb-false, ne_eqb}
use Rattle.dw_leb.specs.Number.{Unsigned, uleb}
use Rattle.dw_leb.specs.DecideNumber.{length-uleb}
use Rattle.dw_form.specs.declared.shape.Ctx.{Ctx}
use Rattle.dw_form.specs.Form.{Attribute}
use Rattle.dw_abbrev.specs.Table.{Pair, Declaration, Table, declared}
use Rattle.dw_tree.specs.Tree.{Forest, none, more, values, declared_pairs, declares_children, nesting}
use Rattle.dw_tree.specs.Place.{Frame, Spot, UnfinishedEntry, Place}
use Rattle.dw_tree.specs.Emptiness.{is_bare_in}
use Rattle.dw_tree.specs.Steps.{settled, settle}
use Rattle.dw_unit.specs.declared.refusal.Refusal.{Refusal}
use Rattle.dw_unit.specs.declared.refusal.Refusal.TheVariants.{TooDeep, SecondRoot}
use Rattle.dw_header.specs.Header.{context_of}
use Rattle.dw_unit.specs.Draft.{Drafted, with_place, IsOnlyRoot}
use Rattle.dw_unit.specs.Build.{Building, draft_of, building_of, with_entry, opened, is_known, place_refusal, entry_size, values_refusal, ValuesFit, EntryRefused}
use Rattle.dw_unit.proofs.EntryLemmas.{settle_whole}
use Rattle.dw_unit.proofs.DraftLemmas.{not_le}
use Rattle.dw_tree.specs.Levels.{nesting_is}
use Rattle.dw_unit.proofs.PutValues.{the, as_many}

-- ---- where it stands

pub too_deep : (s : Spot) (n : ℕ) → n ≡ length s.above → n ≢ 0 → nesting ≤ n → Some TooDeep ≡ place_refusal s
too_deep s n e some h = rw (ne_eqb (length s.above) 0 (λ z. some (e ∙ z)), le-leb nesting (length s.above) (omega (arith, e, h))) refl

pub not_deep : (s : Spot) (n : ℕ) → n ≡ length s.above → n ≢ 0 → n < nesting → None ≡ place_refusal s
not_deep s n e some h = rw (ne_eqb (length s.above) 0 (λ z. some (e ∙ z)), not_le nesting (length s.above) (omega (arith, e, h))) refl

-- a place where an entry can stand
pub record IsFree (s : Spot) : Type 0 where
  pub level : length s.above < nesting
  pub only : IsOnlyRoot s

abbrev refusal_in : List Frame → Forest → Option Refusal
refusal_in fs ts = if not (length fs == 0) then (if nat_le nesting (length fs) then Some TooDeep else None) else if is_bare_in fs ts then None else Some SecondRoot

shallow : (f : Frame) (fs : List Frame) (ts : Forest) → None ≡ refusal_in (f ∷ fs) ts → length (f ∷ fs) < nesting
shallow f fs ts e = by (suc (length fs) == 0) refl (nat_le nesting (suc (length fs))) refl e
  where
    by : (v : Bool) → (suc (length fs) == 0) ≡ v → (w : Bool) → nat_le nesting (suc (length fs)) ≡ w → None ≡ (if not v then (if w then Some TooDeep else None) else Some SecondRoot) → suc (length fs) < nesting
    by true z w l h = absurd cc
    by false z true l h = absurd cc
    by false z false l h = let lt = leb-false nesting (suc (length fs)) l in omega (arith, lt)

free_in : (fs : List Frame) (ts : Forest) → None ≡ refusal_in fs ts → IsFree (record { above = fs; left = ts })
free_in [] none e = record { level = omega (arith, nesting_is); only = λ _. refl }
free_in [] (more x ts) e = absurd cc
free_in (f ∷ fs) ts e = record { level = shallow f fs ts e; only = λ h. absurd cc }

pub free_when : (s : Spot) → None ≡ place_refusal s → IsFree s
free_when s e = free_in s.above s.left e

-- ---- its code and values

pub not_more : (r : Bool) (m n : ℕ) → r ≡ false → (m < n → IsTrue r) → n ≤ m
not_more true m n e h = absurd cc
not_more false m n e h = by (nat_lt m n) refl
  where
    by : (v : Bool) → nat_lt m n ≡ v → n ≤ m
    by true t = let yes = h (ltb-true m n t) in absurd cc
    by false t = ltb-false m n t

pub known_is : (t : Table) (code : Unsigned) (d : Declaration) → code.value ≢ 0 → declared t code.value ≡ Some d → is_known t code ≡ true
known_is t code d some e = rw (ne_eqb code.value 0 some, e) refl

pub refused_by : (b : Building) (code : Unsigned) (vs : List Attribute) (fits : Bool) (r : Option Refusal) → is_known b.table code ≡ true → IsTrue fits ↔ ValuesFit b code vs → r ≡ values_refusal b code vs fits → EntryRefused b code vs r
refused_by b code vs fits r known iff e = rw known (fits, iff, e)

pub size_is : (b : Building) (code : Unsigned) (vs : List Attribute) (k : Ctx) (qs : List Pair) → k ≡ context_of b.header → qs ≡ declared_pairs (declared b.table code.value) → entry_size b code vs ≡ code.width + length ((values k qs).spell vs)
size_is b code vs k qs ek eq =
    let same = ap₂ (λ (c : Ctx) (ps : List Pair). length ((values c ps).spell vs)) ek eq in
    omega (arith, length-append (uleb.spell code) ((values (context_of b.header) (declared_pairs (declared b.table code.value))).spell vs), length-uleb code, same)

-- ---- what is kept

pub settle_entry : (t : Table) (s : Spot) (code : Unsigned) (vs : List Attribute) → IsSome (declared t code.value) → length vs ≡ length (declared_pairs (declared t code.value))
    → settle t s code vs ≡ record { spot = with_entry (declares_children (declared t code.value)) code vs s; unfinished = None }
settle_entry t s code vs known many =
    let d = the (declared t code.value) known in
    settle_whole t s code vs d.0 d.1 (many ∙ ap (λ (o : Option Declaration). length (declared_pairs o)) d.1)
    ∙ (by d.0.children
    ∙ ap (λ (o : Option Declaration). record { spot = with_entry (declares_children o) code vs s; unfinished = None }) (sym d.1))
  where
    by : (ch : Bool) → settled true ch s code vs ≡ record { spot = with_entry ch code vs s; unfinished = None }
    by true = refl
    by false = refl

pub known_some : (t : Table) (code : Unsigned) → is_known t code ≡ true → IsSome (declared t code.value)
known_some t code e = (Rattle.std.proofs.lemmas.Bool.and_parts (not (code.value == 0)) (Rattle.std.specs.Prelude.is_some (declared t code.value)) e).1

-- a builder's draft is the one that it stands for
pub same_draft : (d : Drafted) → d.place.unfinished ≡ None → draft_of (building_of d) ≡ d
same_draft d e = ap (λ (o : Option UnfinishedEntry). with_place (record { spot = d.place.spot; unfinished = o }) d) (sym e)

pub opened_is : (d : Drafted) (code : Unsigned) (vs : List Attribute) → IsSome (declared d.table code.value) → (values (context_of d.header) (declared_pairs (declared d.table code.value))).Fits vs
    → with_place (settle d.table d.place.spot code vs) d ≡ draft_of (opened code vs (building_of d))
opened_is d code vs known fits = ap (λ (p : Place). with_place p d) (settle_entry d.table d.place.spot code vs known (as_many (context_of d.header) (declared_pairs (declared d.table code.value)) vs fits))
