-- The steps of the tests, over their tables.
use Rattle.std.proofs.Common.{◌≡◌, ◌≢◌, ℕ, zero, suc, ◌+◌, ◌-◌, ◌<◌, ◌≤◌, List, [], ◌∷◌, length, refl, sym, ap, subst, ◌∙◌, arith, None, add-one}
use Rattle.std.specs.Prelude.{IsSome, IfSome}
use Rattle.dw_form.specs.Form.{attribute, shaped, shape}
use Rattle.dw_tree.specs.Tree.{Forest, branch, none, more, nesting}
use Rattle.dw_tree.specs.Levels.{nesting_is}
use Rattle.dw_tree.specs.Place.{Frame, Spot, nowhere, enter, leave_from}
use Rattle.dw_tree.specs.Steps.{Growing, begun_at, with_value, partial_in, partial_attribute, started, extended, ended, closed_at, NextFits, IsPlainNext, next_bytes, next_front, finished}
use Rattle.dw_tests.specs.Samples.{two_codes, bare_code, little, wide, a_name, a_size, with_name, with_size}

-- ---- the value of an entry that was just begun

module _ (g : Growing) (w : ℕ) (context : g.context ≡ little) (table : g.table ≡ two_codes) where
  pub name_fits : NextFits g.context g.table (begun_at (wide 1 w) g).place.unfinished a_name
  unfolding attribute shaped shape
  name_fits = rw (context, table) (omega arith, tt)

  pub name_size : 2 ≡ length (next_bytes g.context g.table (begun_at (wide 1 w) g).place.unfinished a_name)
  unfolding attribute shaped shape
  name_size = rw (context, table) refl

  pub name_front : [] ≡ next_front g.context g.table (begun_at (wide 1 w) g).place.unfinished a_name
  unfolding attribute shaped shape
  name_front = refl

  pub name_alone : partial_in (begun_at (wide 1 w) g).place.unfinished ≡ None
  name_alone = rw table refl

  pub size_alone : partial_in (begun_at (wide 2 w) g).place.unfinished ≡ None
  size_alone = rw table refl

  size_fits : NextFits g.context g.table (begun_at (wide 2 w) g).place.unfinished a_size
  unfolding attribute shaped shape
  size_fits = rw (context, table) (omega arith)

  size_bytes : 4 ∷ [] ≡ next_bytes g.context g.table (begun_at (wide 2 w) g).place.unfinished a_size
  unfolding attribute shaped shape
  size_bytes = rw (context, table) refl

  pub size_next : IsPlainNext g.context g.table (begun_at (wide 2 w) g).place.unfinished a_size (4 ∷ [])
  size_next = record { fits = size_fits; plain = refl; spelled = size_bytes }

  pub size_given : with_value a_size (begun_at (wide 2 w) g) ≡ with_size w g
  size_given = rw (context, table) refl

-- ---- a name that comes in two pieces, of which the first is empty

module _ (g : Growing) (context : g.context ≡ little) (table : g.table ≡ two_codes) where
  abbrev pub started_name : Growing
  started_name = started None None (begun_at (wide 1 1) g)

  abbrev pub whole_name : Growing
  whole_name = extended (0x61 ∷ []) (extended [] started_name)

  pub pieces_fit : IfSome (partial_in whole_name.place.unfinished) (λ b. NextFits g.context g.table whole_name.place.unfinished (partial_attribute b))
  unfolding attribute shaped shape
  pieces_fit = rw (context, table) (omega arith, tt)

  pub pieces_size : IfSome (partial_in whole_name.place.unfinished) (λ b. 2 ≡ length (next_bytes g.context g.table whole_name.place.unfinished (partial_attribute b)))
  unfolding attribute shaped shape
  pieces_size = rw (context, table) refl

  pub pieces_front : IfSome (partial_in whole_name.place.unfinished) (λ b. [] ≡ next_front g.context g.table whole_name.place.unfinished (partial_attribute b))
  unfolding attribute shaped shape
  pieces_front = rw (context, table) refl

-- ---- entries that are each the only child of the one before

-- `nesting` stands for its number here: a check would compute with a numeral level by level.

abbrev pub down : ℕ → Spot
down zero = nowhere
down (suc n) = enter (wide 1 1) [] (down n)

abbrev pub opened : ℕ → Growing
opened n = record { context = little; table = bare_code; start = 12; place = record { spot = down n; unfinished = None } }

pub depth_is : (n : ℕ) → length (down n).above ≡ n
depth_is zero = refl
depth_is (suc n) = ap suc (depth_is n)

pub has_room : (n : ℕ) → n < 4096 → length (down n).above < nesting
has_room n h = omega (arith, h, depth_is n, nesting_is)

-- as many as there may be, of which so many are closed
abbrev pub shut : ℕ → Growing
shut zero = opened nesting
shut (suc n) = closed_at 1 (shut n)

-- so many are open, and below the last one stands this
abbrev below : ℕ → Forest → Growing
below n ts = record { context = little; table = bare_code; start = 12; place = record { spot = record { above = (down n).above; left = ts }; unfinished = None } }

abbrev chain : ℕ → Forest
chain zero = none
chain (suc n) = more (branch (wide 1 1) [] (chain n) 1) none

opened_is : (n : ℕ) → opened n ≡ below n none
opened_is zero = refl
opened_is (suc n) = refl

closed_below : (n : ℕ) (ts : Forest) → closed_at 1 (below (suc n) ts) ≡ below n (more (branch (wide 1 1) [] ts 1) none)
closed_below zero ts = refl
closed_below (suc n) ts = refl

shut_is : (n : ℕ) → n ≤ nesting → shut n ≡ below (nesting - n) (chain n)
shut_is zero h = let all : nesting - 0 ≡ nesting = omega arith in opened_is nesting ∙ ap (λ (m : ℕ). below m none) (sym all)
shut_is (suc n) h =
    let one : nesting - n ≡ suc (nesting - suc n) = omega (arith, h) in
    ap (closed_at 1) (shut_is n (omega (arith, h))) ∙ (ap (λ (m : ℕ). closed_at 1 (below m (chain n))) one ∙ closed_below (nesting - suc n) (chain n))

whole : (n : ℕ) → 0 < n → IsSome (finished (below 0 (chain n)))
whole zero h = absurd (omega (arith, h))
whole (suc n) h = refl

pub all_opened : (n : ℕ) → n ≤ 4096 → 4096 ≤ n → opened n ≡ shut 0
all_opened n few many = ap opened (omega (arith, few, many, nesting_is))

pub all_shut : (n : ℕ) → n ≤ 4096 → 4096 ≤ n → IsSome (finished (shut n))
all_shut n few many =
    let none_left : nesting - n ≡ 0 = omega (arith, many, nesting_is) in
    let is : shut n ≡ below 0 (chain n) = shut_is n (omega (arith, few, nesting_is)) ∙ ap (λ (m : ℕ). below m (chain n)) none_left in
    subst (λ (g : Growing). IsSome (finished g)) (sym is) (whole n (omega (arith, many)))

one_shut : (w : ℕ) (fs : List Frame) (ts : Forest) → 0 < length fs → length (leave_from w fs ts).above + 1 ≡ length fs
one_shut w [] ts h = absurd (omega (arith, h))
one_shut w (f ∷ fs) ts h = omega arith

left_open : (n : ℕ) → n ≤ nesting → length (shut n).place.spot.above + n ≡ nesting
left_open zero h = omega (arith, depth_is nesting)
left_open (suc n) h =
    let before = left_open n (omega (arith, h)) in
    let one = one_shut 1 (shut n).place.spot.above (shut n).place.spot.left (omega (arith, before, h)) in
    omega (arith, before, one)

pub some_open : (n : ℕ) → n < 4096 → (shut n).place.spot.above ≢ []
some_open n h e = let k = left_open n (omega (arith, h, nesting_is)) in let none = ap length e in omega (arith, k, none, h, nesting_is)
