-- Taking one number and then another.
use Rattle.std.proofs.Common.{◌≡◌, ◌≢◌, ◌+◌, ◌-◌, ◌≤◌, ◌<◌, ℕ, zero, suc, Bool, true, false, List, ◌∷◌, Some, None, refl, sym, ap, ◌∙◌, arith}
use Rattle.std.specs.Prelude.{nat_le}
use Rattle.std.proofs.lemmas.Bool.{leb-true, leb-false, le-leb, lt-leb, eq-eqb, ne_eqb}
use Rattle.dw_tree.specs.Lent.{EntryAt}
use Rattle.dw_section.specs.Item.{Item}
use Rattle.dw_ctype.specs.declared.typed.Typed.{Typed}
use Rattle.dw_ctype.specs.Types.{tag}
use Rattle.dw_ctype.specs.Visits.{less, visits, type_visits, parameter_visits}

pub less_in : (n left : ℕ) → n ≤ left → less n left ≡ Some (left - n)
less_in n left h = rw (le-leb n left h) refl

pub less_out : (n left : ℕ) → left < n → less n left ≡ None
less_out n left h = rw (lt-leb n left h) refl

-- as much is there, or not
pub less_some : (n left rest : ℕ) → less n left ≡ Some rest → left ≡ n + rest
less_some n left rest h = by (nat_le n left) refl
  where
    by : (v : Bool) → nat_le n left ≡ v → left ≡ n + rest
    by true e = let le = leb-true n left e in let same : Some (left - n) ≡ Some rest = sym (less_in n left le) ∙ h in let eq : left - n ≡ rest = cc in omega (arith, le, eq)
    by false e = let same : None ≡ Some rest = sym (less_out n left (leb-false n left e)) ∙ h in absurd cc

pub less_none : (n left : ℕ) → less n left ≡ None → left < n
less_none n left h = by (nat_le n left) refl
  where
    by : (v : Bool) → nat_le n left ≡ v → left < n
    by true e = let same : Some (left - n) ≡ None = sym (less_in n left (leb-true n left e)) ∙ h in absurd cc
    by false e = leb-false n left e

-- both are taken one after the other
pub less_then : (n m left rest : ℕ) → less n left ≡ Some rest → less (n + m) left ≡ less m rest
less_then n m left rest h = let sum = less_some n left rest h in by sum (nat_le m rest) refl
  where
    by : left ≡ n + rest → (v : Bool) → nat_le m rest ≡ v → less (n + m) left ≡ less m rest
    by sum true e = let le = leb-true m rest e in let same : left - (n + m) ≡ rest - m = omega (arith, sum, le) in less_in (n + m) left (omega (arith, sum, le)) ∙ ap Some same ∙ sym (less_in m rest le)
    by sum false e = let lt = leb-false m rest e in less_out (n + m) left (omega (arith, sum, lt)) ∙ sym (less_out m rest lt)

pub less_stops : (n m left : ℕ) → less n left ≡ None → less (n + m) left ≡ None
less_stops n m left h = less_out (n + m) left (omega (arith, less_none n left h))

-- ---- the visits of a type

pub visits_some : (items : List Item) (depth : ℕ) (t : Typed) → 0 < visits items depth t
visits_some items zero t = omega arith
visits_some items (suc depth) t = omega arith

pub visits_next : (items : List Item) (depth : ℕ) (t : Typed) → 0 < depth → visits items depth t ≡ 1 + type_visits (visits items (depth - 1)) items t
visits_next items zero t h = absurd (omega (arith, h))
visits_next items (suc depth) t h = let same : depth ≡ suc depth - 1 = omega arith in
    let sum : suc (type_visits (visits items depth) items t) ≡ 1 + type_visits (visits items depth) items t = omega arith in
    sum ∙ ap (λ (k : ℕ). 1 + type_visits (visits items k) items t) same

-- one visit is taken, and then those of what the type names
pub visits_taken : (items : List Item) (depth : ℕ) (t : Typed) (n left rest : ℕ) → 0 < depth → left ≡ 1 + rest → type_visits (visits items (depth - 1)) items t ≡ n → less (visits items depth t) left ≡ less n rest
visits_taken items depth t n left rest h sum e =
    let le : 1 ≤ left = omega (arith, sum) in
    let same : left - 1 ≡ rest = omega (arith, sum) in
    ap (λ (k : ℕ). less k left) (visits_next items depth t h ∙ ap (λ (k : ℕ). 1 + k) e) ∙ less_then 1 n left rest (less_in 1 left le ∙ ap Some same)

pub visits_end : (items : List Item) (t : Typed) (left rest : ℕ) → left ≡ 1 + rest → less (visits items 0 t) left ≡ Some rest
visits_end items t left rest sum = let same : left - 1 ≡ rest = omega (arith, sum) in less_in 1 left (omega (arith, sum)) ∙ ap Some same

-- ---- the visits of parameters

module _ (one : EntryAt → ℕ) (e : EntryAt) (es all : List EntryAt) (steps : all ≡ e ∷ es) where
  -- those of the first one, and of the others
  pub parameter_first : tag e ≡ 5 → parameter_visits one all ≡ one e + parameter_visits one es
  parameter_first h = ap (parameter_visits one) steps ∙ rw (eq-eqb (tag e) 5 h) refl

  pub parameter_passed : tag e ≢ 5 → parameter_visits one all ≡ parameter_visits one es
  parameter_passed h = ap (parameter_visits one) steps ∙ rw (ne_eqb (tag e) 5 h) refl
