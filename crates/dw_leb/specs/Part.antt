-- What a part of the grammar is: how a value is spelled, which values have a spelling, and where bytes break.
use Rattle.std.specs.Prelude.{◌≡◌, ℕ, ◌+◌, ◌-◌, ◌≤◌, ◌⊎◌, List, [], ◌++◌, length, Option, Some, None, Bool, true, false}
pub use Rattle.dw_leb.specs.declared.errors.Reason.{Reason}
pub use
    Rattle.dw_leb.specs.declared.errors.Reason.TheVariants.{
      Truncated,
      PastUnit,
      ReservedLength,
      BadVersion,
      BadUnitType,
      BadAddressSize,
      LebTooLong,
      LebTooBig,
      NoRoot,
      UnknownCode,
      UnknownForm,
      BadIndirect,
      TooDeep,
      SecondRoot,
      AbbrevOffset,
      BadChildren,
      HalfPair,
      DuplicateCode,
      TooManyPairs,
      LengthTooBig,
    }

-- A break of bytes: the bytes, how many of them the unit still has (lim), the offset of the broken field, and why.
abbrev pub Breaks : Type 1
Breaks = List ℕ → ℕ → ℕ → Reason → Type 0

-- A part: the one spelling of a value, the values that have one, and the breaks.
pub record Part (X : Type 0) : Type 1 where
  pub spell : X → List ℕ
  pub Fits : X → Type 0
  pub Break : Breaks

-- Behind s, which stands at the front and within lim, what is left breaks: the offset counts from the first
-- byte of s, and lim is less by s.
pub record After (s : List ℕ) (P : Breaks) (bytes : List ℕ) (lim offset : ℕ) (reason : Reason) : Type 0 where
  pub rest : List ℕ
  pub own : ℕ
  pub split : bytes ≡ s ++ rest
  pub within : length s ≤ lim
  pub sum : offset ≡ length s + own
  pub breaks : P rest (lim - length s) own reason

-- x is spelled at the front, within lim, and its meaning is refused: at its own first byte.
pub record Refused {X : Type 0} (P : Part X) (meaning : X → Option Reason) (bytes : List ℕ) (lim offset : ℕ)
    (reason : Reason) : Type 0 where
  pub value : X
  pub rest : List ℕ
  pub fits : P.Fits value
  pub split : bytes ≡ P.spell value ++ rest
  pub within : length (P.spell value) ≤ lim
  pub refused : meaning value ≡ Some reason
  pub here : offset ≡ 0

infixr 12 ◌then◌
-- One part and then another, which may hang on the first one's value.
-- It breaks in the first, or after a first that is spelled in the second.
abbrev pub ◌then◌ : {A B : Type 0} → Part A → (A → Part B) → Part (A × B)
A then B = record {
  spell = λ x. A.spell x.0 ++ (B x.0).spell x.1;
  Fits = λ x. A.Fits x.0 × (B x.0).Fits x.1;
  Break =
      λ bytes lim offset reason.
      A.Break bytes lim offset reason ⊎ ((a : _) × A.Fits a × After (A.spell a) (B a).Break bytes lim offset reason);
}

-- Spelling is judged before meaning.
abbrev pub judged : {X : Type 0} → Part X → (X → Option Reason) → Part X
judged P meaning = record {
  spell = P.spell;
  Fits = λ x. P.Fits x × (meaning x ≡ None);
  Break = λ bytes lim offset reason. P.Break bytes lim offset reason ⊎ Refused P meaning bytes lim offset reason;
}

-- A part that is one field: it breaks at its first byte.
abbrev pub whole : {X : Type 0} → Part X → Part X
whole P = record {
  spell = P.spell;
  Fits = P.Fits;
  Break = λ bytes lim offset reason. (offset ≡ 0) × (own : ℕ) × P.Break bytes lim own reason;
}

-- The values of X that are seen as values of A, spelled as those.
abbrev pub spelled_as : {A : Type 0} → Part A → Option A → List ℕ
spelled_as P None = []
spelled_as P (Some a) = P.spell a

abbrev pub FitsAs : {A : Type 0} → Part A → Option A → Type 0
FitsAs P None = ⊥
FitsAs P (Some a) = P.Fits a

abbrev pub seen : {X A : Type 0} → (X → Option A) → Part A → Part X
seen view P = record {
  spell = λ x. spelled_as P (view x);
  Fits = λ x. FitsAs P (view x);
  Break = P.Break;
}

-- The values of X that a condition holds of, spelled as their views.
abbrev pub viewed : {X A : Type 0} → (X → A) → (X → Type 0) → Part A → Part X
viewed view Is P = record {
  spell = λ x. P.spell (view x);
  Fits = λ x. Is x × P.Fits (view x);
  Break = P.Break;
}

-- Nothing: no bytes, no break.
abbrev pub nothing : Part (Unit {0})
nothing = record {
  spell = λ _. [];
  Fits = λ _. Unit {0};
  Break = λ _ _ _ _. ⊥;
}

-- x is spelled at the front, in so many bytes, within lim
pub record Taken {X : Type 0} (P : Part X) (bytes : List ℕ) (lim : ℕ) (x : X) (size : ℕ) : Type 0 where
  pub rest : List ℕ
  pub fits : P.Fits x
  pub split : bytes ≡ P.spell x ++ rest
  pub is_size : length (P.spell x) ≡ size
  pub within : size ≤ lim

-- no bytes, and this value
abbrev pub exactly : {X : Type 0} → X → Part X
exactly x = record { spell = λ _. []; Fits = λ y. y ≡ x; Break = λ _ _ _ _. ⊥ }

-- nothing fits: it is refused where it stands
abbrev pub refused : {X : Type 0} → Reason → Part X
refused why = record { spell = λ _. []; Fits = λ _. ⊥; Break = λ _ _ offset reason. (offset ≡ 0) × (reason ≡ why) }

-- there or not, as a flag says
abbrev pub absent : {A : Type 0} → Option A → Option (Unit {0})
absent None = Some tt
absent (Some a) = None

abbrev pub optional : {A : Type 0} → Bool → Part A → Part (Option A)
optional true P = seen (λ x. x) P
optional false P = seen absent nothing
