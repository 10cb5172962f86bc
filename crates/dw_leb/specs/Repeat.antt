-- Items one after the other, until a head that ends them.
use Rattle.std.specs.Prelude.{◌≡◌, ℕ, Bool, true, false, List, [], ◌∷◌, ◌++◌, ◌⊎◌}
use Rattle.dw_leb.specs.Part.{Breaks, Part, After}

-- Items one after the other, until a head that ends them. An item is a head and what belongs to it; a head may hang on
-- the items before it. They break where, behind some whole items, the next head breaks, or what belongs to a head that
-- is no end.
module _ {H B : Type 0} (head : List (H × B) → Part H) (ends : H → Bool) (body : H → Part B) where
  abbrev pub item_bytes : List (H × B) → H × B → List ℕ
  item_bytes before x = (head before).spell x.0 ++ (body x.0).spell x.1

  abbrev pub ItemFits : List (H × B) → H × B → Type 0
  ItemFits before x = (head before).Fits x.0 × (ends x.0 ≡ false) × (body x.0).Fits x.1

  abbrev pub items_bytes : List (H × B) → List (H × B) → H → List ℕ
  items_bytes before [] end = (head before).spell end
  items_bytes before (x ∷ xs) end = item_bytes before x ++ items_bytes (before ++ x ∷ []) xs end

  abbrev pub ItemsFit : List (H × B) → List (H × B) → H → Type 0
  ItemsFit before [] end = (head before).Fits end × (ends end ≡ true)
  ItemsFit before (x ∷ xs) end = ItemFits before x × ItemsFit (before ++ x ∷ []) xs end

  abbrev pub BreaksBehind : List (H × B) → List (H × B) → Breaks
  BreaksBehind before [] bytes lim offset reason = (head before).Break bytes lim offset reason
      ⊎ ((h : H) × (head before).Fits h × (ends h ≡ false)
      × After ((head before).spell h) (body h).Break bytes lim offset reason)
  BreaksBehind before (x ∷ xs) bytes lim offset reason =
      ItemFits before x × After (item_bytes before x) (BreaksBehind (before ++ x ∷ []) xs) bytes lim offset reason

  abbrev pub repeated : Part (List (H × B) × H)
  repeated = record {
    spell = λ x. items_bytes [] x.0 x.1;
    Fits = λ x. ItemsFit [] x.0 x.1;
    Break = λ bytes lim offset reason. (xs : List (H × B)) × BreaksBehind [] xs bytes lim offset reason;
  }
