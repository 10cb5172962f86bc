-- A plain, slow reader: it computes what the parts of the grammar say. Bodies are proved against it.
use Rattle.std.specs.Prelude.{ℕ, zero, suc, ◌+◌, ◌-◌, Bool, true, false, List, [], ◌∷◌, ◌++◌, length, drop, Option, Some, None, Result, Ok, Err, if◌then◌else◌}
use Rattle.dw_leb.specs.Part.{Reason, Truncated}

-- a value and its size, or the offset of the broken field
pub data Outcome (X : Type 0) : Type 0 where
  Found : X → ℕ → Outcome X
  Broken : ℕ → Reason → Outcome X

-- what the rest of the input, and the count of bytes left to the unit's end, give
abbrev pub Reader : Type 0 → Type 0
Reader X = List ℕ → ℕ → Outcome X

abbrev pub paired : {A B : Type 0} → A → ℕ → Outcome B → Outcome (A × B)
paired a size (Found b own) = Found (a, b) (size + own)
paired a size (Broken offset reason) = Broken (size + offset) reason

abbrev pub behind : {A B : Type 0} → Outcome A → (A → Reader B) → Reader (A × B)
behind (Found a size) next bytes lim = paired a size (next a (drop size bytes) (lim - size))
behind (Broken offset reason) next bytes lim = Broken offset reason

infixr 12 ◌and_then◌
-- one value and then another behind it, which may hang on the first
abbrev pub ◌and_then◌ : {A B : Type 0} → Reader A → (A → Reader B) → Reader (A × B)
(R and_then S) bytes lim = behind (R bytes lim) S bytes lim

abbrev pub mapped : {A X : Type 0} → (A → X) → Outcome A → Outcome X
mapped f (Found a size) = Found (f a) size
mapped f (Broken offset reason) = Broken offset reason

-- a value made of what is read
abbrev pub made : {A X : Type 0} → (A → X) → Reader A → Reader X
made f R bytes lim = mapped f (R bytes lim)

abbrev pub refused_if : {A : Type 0} → Option Reason → A → ℕ → Outcome A
refused_if None a size = Found a size
refused_if (Some reason) a size = Broken 0 reason

abbrev pub judged_outcome : {A : Type 0} → (A → Option Reason) → Outcome A → Outcome A
judged_outcome meaning (Found a size) = refused_if (meaning a) a size
judged_outcome meaning (Broken offset reason) = Broken offset reason

-- what is read is refused at its first byte where its meaning is
abbrev pub checked : {A : Type 0} → Reader A → (A → Option Reason) → Reader A
checked R meaning bytes lim = judged_outcome meaning (R bytes lim)

abbrev pub at_front : {A : Type 0} → Outcome A → Outcome A
at_front (Found a size) = Found a size
at_front (Broken offset reason) = Broken 0 reason

-- one field: it breaks at its first byte
abbrev pub one_field : {A : Type 0} → Reader A → Reader A
one_field R bytes lim = at_front (R bytes lim)

abbrev pub returned : {A : Type 0} → A → Reader A
returned a bytes lim = Found a 0

abbrev pub failing : {A : Type 0} → Reason → Reader A
failing reason bytes lim = Broken 0 reason

abbrev pub read_optional : {A : Type 0} → Bool → Reader A → Reader (Option A)
read_optional true R = made (λ a. Some a) R
read_optional false R = returned None

-- ---- items until a head that ends them

abbrev pub joined : {H B : Type 0} → H × Option (B × (List (H × B) × H)) → List (H × B) × H
joined (h, None) = ([], h)
joined (h, Some (b, (xs, end))) = ((h, b) ∷ xs, end)

module _ {H B : Type 0} (head : List (H × B) → Reader H) (ends : H → Bool) (body : H → Reader B) where
  -- fuel: more than the bytes
  abbrev pub read_items : ℕ → List (H × B) → Reader (List (H × B) × H)
  read_items zero before bytes lim = Broken 0 Truncated
  read_items (suc fuel) before bytes lim =
      made joined
      (head before and_then
      λ h.
      read_optional (if ends h then false else true)
      (body h and_then λ b. read_items fuel (before ++ (h, b) ∷ [])))
      bytes lim

  abbrev pub read_repeated : Reader (List (H × B) × H)
  read_repeated bytes lim = read_items (suc (length bytes)) [] bytes lim

-- what reading one field gives: its value, or why it is refused
abbrev pub answer : {X : Type 0} → Outcome X → Result X Reason
answer (Found x size) = Ok x
answer (Broken offset reason) = Err reason

-- the answer of a call, its value being seen by a view
abbrev pub seen_by : {X Y : Type 0} → (X → Y) → Result X Reason → Result Y Reason
seen_by view (Ok x) = Ok (view x)
seen_by view (Err reason) = Err reason

-- the outcome of reading one field where a call answers so: its size is told by its value, and it breaks at its first
-- byte
abbrev pub outcome_of : {X Y : Type 0} → (X → Y) → (Y → ℕ) → Result X Reason → Outcome Y
outcome_of view size (Ok x) = Found (view x) (size (view x))
outcome_of view size (Err reason) = Broken 0 reason
