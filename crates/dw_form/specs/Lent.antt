-- Lent values as values of the grammar.
use Rattle.std.specs.Prelude.{◌≡◌, ◌≤◌, ℕ, List, length, take, Option, Some, None, option_map, Result, Ok, Err, IfOk, IfErr, IsOkAnd}
use Rattle.std.proofs.Common.{sym, ap, ◌∙◌, arith}
use Rattle.dw_leb.specs.Part.{Part, Taken}
use Rattle.dw_leb.specs.Decide.{Decides, Says, found_value, found_broken}
use Rattle.dw_leb.specs.View.{uleb_of, sleb_of}
use Rattle.dw_leb.specs.declared.errors.Reason.{Reason}
use Rattle.dw_leb.specs.Reader.{Reader, Outcome, Found, Broken, mapped, at_front}
use Rattle.dw_form.specs.Form as grammar
use Rattle.dw_form.specs.declared.value.Value.{Value}
use Rattle.dw_form.specs.declared.value.Value.TheVariants as values
use Rattle.dw_form.specs.declared.value.AttrValue.{AttrValue}

-- the value that is lent
abbrev pub value_of : Value → grammar.Value
value_of (values.Num x) = grammar.Num x
value_of (values.Wide x) = grammar.Wide x
value_of (values.Uleb u) = grammar.Uleb (uleb_of u)
value_of (values.Sleb s) = grammar.Sleb (sleb_of s)
value_of (values.Block width bytes) = grammar.Block width bytes.now
value_of (values.Text bytes) = grammar.Text bytes.now
value_of values.Present = grammar.Present
value_of (values.Implicit s) = grammar.Implicit (sleb_of s)

-- the number that a value is, unless it is signed or has more than eight bytes
abbrev pub number_in : grammar.Value → Option ℕ
number_in (grammar.Num x) = Some x
number_in (grammar.Wide x) = None
number_in (grammar.Uleb u) = Some u.value
number_in (grammar.Sleb s) = None
number_in (grammar.Block width bytes) = None
number_in (grammar.Text bytes) = None
number_in grammar.Present = None
number_in (grammar.Implicit s) = None

-- the text that stands in the unit itself
abbrev pub text_in : grammar.Value → Option (List ℕ)
text_in (grammar.Num x) = None
text_in (grammar.Wide x) = None
text_in (grammar.Uleb u) = None
text_in (grammar.Sleb s) = None
text_in (grammar.Block width bytes) = None
text_in (grammar.Text bytes) = Some bytes
text_in grammar.Present = None
text_in (grammar.Implicit s) = None

-- the attribute's value that is lent
abbrev pub attribute_of : AttrValue → grammar.Attribute
attribute_of a = record { via = option_map uleb_of a.via; value = value_of a.value }

-- What a call that lends from bytes answers is what the plain reader reads: a value and its size, or why it is refused.
abbrev pub Lends : {X Y : Type 0} → (X → Y) → Result (X × ℕ) Reason → Outcome Y → Type 0
Lends view (Ok x) (Found y size) = (view x.0 ≡ y) × (x.1 ≡ size)
Lends view (Ok x) (Broken offset reason) = ⊥
Lends view (Err e) (Found y size) = ⊥
Lends view (Err e) (Broken offset reason) = e ≡ reason

-- the place of the first zero byte, by the bytes before it
abbrev pub ZeroAt : List ℕ → Option ℕ → Option (List ℕ) → Type 0
ZeroAt bytes None front = front ≡ None
ZeroAt bytes (Some end) front = front ≡ Some (take end bytes)

-- the outcome of reading one field where a call lends so: it breaks at its first byte
abbrev pub lent_outcome : {X Y : Type 0} → (X → Y) → Result (X × ℕ) Reason → Outcome Y
lent_outcome view (Ok x) = Found (view x.0) x.1
lent_outcome view (Err reason) = Broken 0 reason

-- a refusal is passed on by what is made of the value
pub lends_err : {X Y Z W : Type 0} (view : X → Y) (seen : W → Z) (f : Y → Z) (e : Reason) (o : Outcome Y)
    → Lends view (Err e) o → Lends seen (Err e) (mapped f o)
lends_err view seen f e (Found y size) h = h
lends_err view seen f e (Broken offset reason) h = h

-- one field's outcome is told by what is lent
pub lends_front : {X Y : Type 0} (view : X → Y) (r : Result (X × ℕ) Reason) (o : Outcome Y) → Lends view r o
    → at_front o ≡ lent_outcome view r
lends_front view (Ok x) (Found y size) h = cc
lends_front view (Ok x) (Broken offset reason) h = absurd h
lends_front view (Err e) (Found y size) h = absurd h
lends_front view (Err e) (Broken offset reason) h = cc

-- ---- what is lent, by what the plain reader says

pub lent_found : {X Y : Type 0} (view : X → Y) (P : Part Y) (bytes : List ℕ) (lim : ℕ) (r : Result (X × ℕ) Reason)
    → Says P bytes lim (lent_outcome view r) → IfOk r (λ x. Taken P bytes lim (view x.0) x.1)
lent_found view P bytes lim (Ok x) h = h
lent_found view P bytes lim (Err reason) h = tt

pub lent_broken : {X Y : Type 0} (view : X → Y) (P : Part Y) (bytes : List ℕ) (lim : ℕ) (r : Result (X × ℕ) Reason)
    → Says P bytes lim (lent_outcome view r) → IfErr r (λ reason. P.Break bytes lim 0 reason)
lent_broken view P bytes lim (Ok x) h = tt
lent_broken view P bytes lim (Err reason) h = h

pub lent_only : {X Y : Type 0} (view : X → Y) (P : Part Y) (R : Reader Y) → Decides P R → (bytes : List ℕ) (lim : ℕ)
    (r : Result (X × ℕ) Reason) → R bytes lim ≡ lent_outcome view r
    → (y : Y) (size : ℕ) → Taken P bytes lim y size → IsOkAnd r (λ x. (view x.0 ≡ y) × (x.1 ≡ size))
lent_only {X} {Y} view P R it bytes lim r e y size h =
    by r (sym e ∙ ap (λ (b : List ℕ). R b lim) h.split ∙ it.takes y h.rest lim h.fits within)
  where
    within : length (P.spell y) ≤ lim
    within = omega (arith, h.is_size, h.within)

    by : (r : Result (X × ℕ) Reason) → lent_outcome view r ≡ Found y (length (P.spell y))
        → IsOkAnd r (λ x. (view x.0 ≡ y) × (x.1 ≡ size))
    by (Ok x) same = let w = found_value (view x.0) y x.1 (length (P.spell y)) same in (w.0, w.1 ∙ h.is_size)
    by (Err reason) same = absurd (found_broken Y y (length (P.spell y)) 0 reason (sym same))
