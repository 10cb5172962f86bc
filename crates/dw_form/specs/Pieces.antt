-- The spelling of a value in three pieces: what stands before its content, the content, and what ends it.
use Rattle.std.specs.Prelude.{◌≡◌, ◌<◌, ◌^◌, ℕ, List, [], ◌∷◌, ◌++◌, length, Option, Some, None, ◌==◌, Bool, true, false, if◌then◌else◌}
use Rattle.std.proofs.Common.{refl, sym, ap, subst, ◌∙◌, append-nil}
use Rattle.dw_leb.specs.Number.{Unsigned, Signed, UlebFits, fixed, content, fixed_bytes, uleb, sleb}
use Rattle.dw_leb.specs.Part.{Part, FitsAs, spelled_as, ◌then◌}
use Rattle.dw_leb.specs.DecideNumber.{fits_uleb}
use Rattle.dw_form.specs.declared.shape.Ctx.{Ctx}
use Rattle.dw_form.specs.declared.shape.Shape.{Shape}
use Rattle.dw_form.specs.declared.shape.Shape.TheVariants as shapes
use Rattle.dw_form.specs.Form.{Value, Num, Wide, Uleb, Sleb, Block, Text, Present, Implicit, Attribute, shape, shaped, shaped_if, by_indirection, attribute}

-- before the content: a number, or a block's length
abbrev pub head_of : Ctx → Shape → Value → List ℕ
head_of k (shapes.Fixed n) (Num x) = fixed_bytes k.order n x
head_of k (shapes.Fixed n) (Wide x) = fixed_bytes k.order n x
head_of k (shapes.Counted n) (Block width bytes) = fixed_bytes k.order n (length bytes)
head_of k shapes.CountedUleb (Block width bytes) = uleb.spell (record { value = length bytes; width = width })
head_of k s (Uleb u) = uleb.spell u
head_of k s (Sleb x) = sleb.spell x
head_of k s v = []

-- the numbers fit their bytes
abbrev pub HeadFits : Ctx → Shape → Value → Type 0
HeadFits k (shapes.Fixed n) (Num x) = x < 256 ^ n
HeadFits k (shapes.Fixed n) (Wide x) = x < 256 ^ n
HeadFits k (shapes.Counted n) (Block width bytes) = length bytes < 256 ^ n
HeadFits k shapes.CountedUleb (Block width bytes) = UlebFits (record { value = length bytes; width = width })
HeadFits k s v = Unit {0}

-- the content of a text or block
abbrev pub content_of : Value → List ℕ
content_of (Block width bytes) = bytes
content_of (Text bytes) = bytes
content_of v = []

-- the zero byte of a text
abbrev pub tail_of : Value → List ℕ
tail_of (Text bytes) = 0 ∷ []
tail_of v = []

-- the three pieces
abbrev pub pieces_of : Ctx → Shape → Value → List ℕ
pieces_of k s v = head_of k s v ++ (content_of v ++ tail_of v)

-- the constant of the declaration whose value this is
abbrev pub constant_in : Value → Option Signed
constant_in (Implicit c) = Some c
constant_in v = None

-- the form in effect: of an indirect value the one that it names
abbrev pub form_in : ℕ → Option Unsigned → ℕ
form_in form None = form
form_in form (Some u) = u.value

-- the bytes of the form that an indirect value names
abbrev pub via_bytes : Option Unsigned → List ℕ
via_bytes None = []
via_bytes (Some u) = uleb.spell u

-- the same behind the form that an indirect value names
abbrev pub all_pieces : Ctx → Shape → Attribute → List ℕ
all_pieces k s a = via_bytes a.via ++ pieces_of k s a.value

-- a value has a spelling under a form; and that spelling, which doesn't need the declaration
abbrev pub HasSpelling : Ctx → ℕ → Attribute → Type 0
HasSpelling k form a = (attribute k form (constant_in a.value)).Fits a

abbrev pub spelling : Ctx → ℕ → Attribute → List ℕ
spelling k form a = (attribute k form (constant_in a.value)).spell a

-- ---- the pieces make up the spelling

one_way : {X : Type 0} (b : Bool) (P : Part X) (x : X) → FitsAs P (if b then Some x else None)
    → (spelled_as P (if b then Some x else None) ≡ P.spell x) × P.Fits x
one_way true P x fits = (refl, fits)
one_way false P x fits = absurd fits

other_way : {X : Type 0} (b : Bool) (P : Part X) (x : X) → FitsAs P (if b then None else Some x)
    → (spelled_as P (if b then None else Some x) ≡ P.spell x) × P.Fits x
other_way true P x fits = absurd fits
other_way false P x fits = (refl, fits)

pub pieces_spell : (k : Ctx) (c : Option Signed) (s : Shape) (v : Value) → (shaped k c s).Fits v
    → ((shaped k c s).spell v ≡ pieces_of k s v) × HeadFits k s v
unfolding shaped
pieces_spell k c (shapes.Fixed n) (Num x) fits =
    let w = other_way (n == 16) (fixed k.order n) x fits in (w.0 ∙ sym (append-nil (fixed_bytes k.order n x)), w.1)
pieces_spell k c (shapes.Fixed n) (Wide x) fits =
    let w = one_way (n == 16) (fixed k.order n) x fits in (w.0 ∙ sym (append-nil (fixed_bytes k.order n x)), w.1)
pieces_spell k c (shapes.Fixed n) _ fits = absurd fits
pieces_spell k c shapes.Uleb (Uleb u) fits = (sym (append-nil (uleb.spell u)), tt)
pieces_spell k c shapes.Uleb _ fits = absurd fits
pieces_spell k c shapes.Sleb (Sleb x) fits = (sym (append-nil (sleb.spell x)), tt)
pieces_spell k c shapes.Sleb _ fits = absurd fits
pieces_spell k c (shapes.Counted n) (Block width bytes) fits =
    let w = one_way (width == n) (fixed k.order n then content) (length bytes, bytes) fits in
    (w.0 ∙ ap (λ (b : List ℕ). fixed_bytes k.order n (length bytes) ++ b) (sym (append-nil bytes)), w.1.0)
pieces_spell k c (shapes.Counted n) _ fits = absurd fits
pieces_spell k c shapes.CountedUleb (Block width bytes) fits =
    let u : Unsigned = record { value = length bytes; width = width } in
    (ap (λ (b : List ℕ). uleb.spell u ++ b) (sym (append-nil bytes)), fits_uleb u fits.0)
pieces_spell k c shapes.CountedUleb _ fits = absurd fits
pieces_spell k c shapes.Text (Text bytes) fits = (refl, tt)
pieces_spell k c shapes.Text _ fits = absurd fits
pieces_spell k c shapes.Present Present fits = (refl, tt)
pieces_spell k c shapes.Present _ fits = absurd fits
pieces_spell k None shapes.Implicit v fits = absurd fits
pieces_spell k (Some x) shapes.Implicit (Implicit y) fits = (refl, tt)
pieces_spell k (Some x) shapes.Implicit _ fits = absurd cc
pieces_spell k c shapes.Indirect v fits = absurd fits

formed_pieces : (k : Ctx) (c : Option Signed) (o : Option Shape) (s : Shape) (v : Value) → o ≡ Some s
    → (shaped_if k c o).Fits v → ((shaped_if k c o).spell v ≡ pieces_of k s v) × HeadFits k s v
formed_pieces k c None s v e fits = absurd fits
formed_pieces k c (Some t) s v e fits =
    let same : t ≡ s = cc in
    let w = pieces_spell k c t v fits in
    (w.0 ∙ ap (λ (z : Shape). pieces_of k z v) same, subst (λ (z : Shape). HeadFits k z v) same w.1)

-- a value's spelling is its pieces behind the form that it names
pub attribute_pieces : (k : Ctx) (form : ℕ) (c : Option Signed) (a : Attribute) (s : Shape)
    → (attribute k form c).Fits a → shape (form_in form a.via) k.address_size k.format ≡ Some s
    → ((attribute k form c).spell a ≡ via_bytes a.via ++ pieces_of k s a.value) × HeadFits k s a.value
unfolding attribute
attribute_pieces k form c a s fits e = by (form == 0x16) a.via e fits
  where
    by : (b : Bool) (via : Option Unsigned) → shape (form_in form via) k.address_size k.format ≡ Some s
        → (by_indirection k c form b).Fits (record { via = via; value = a.value })
        → ((by_indirection k c form b).spell (record { via = via; value = a.value })
        ≡ via_bytes via ++ pieces_of k s a.value)
        × HeadFits k s a.value
    by true None e fits = absurd fits
    by true (Some u) e fits =
        let w = formed_pieces k None (shape u.value k.address_size k.format) s a.value e fits.1 in
        (ap (λ (b : List ℕ). uleb.spell u ++ b) w.0, w.1)
    by false None e fits = formed_pieces k c (shape form k.address_size k.format) s a.value e fits
    by false (Some u) e fits = absurd fits

shaped_some : (k : Ctx) (c : Option Signed) (o : Option Shape) (v : Value) → (shaped_if k c o).Fits v → o ≡ None → ⊥
shaped_some k c None v fits e = fits
shaped_some k c (Some s) v fits e = cc

-- the form of a value that has a spelling is in the form table
pub form_known : (k : Ctx) (form : ℕ) (c : Option Signed) (a : Attribute) → (attribute k form c).Fits a
    → shape (form_in form a.via) k.address_size k.format ≡ None → ⊥
unfolding attribute
form_known k form c a fits e = by (form == 0x16) a.via e fits
  where
    by : (b : Bool) (via : Option Unsigned) → shape (form_in form via) k.address_size k.format ≡ None
        → (by_indirection k c form b).Fits (record { via = via; value = a.value }) → ⊥
    by true None e fits = fits
    by true (Some u) e fits = shaped_some k None (shape u.value k.address_size k.format) a.value fits.1 e
    by false None e fits = shaped_some k c (shape form k.address_size k.format) a.value fits e
    by false (Some u) e fits = fits

-- ---- the declaration's constant is needed by the value of implicit_const alone, and is that value

shaped_alone : (k : Ctx) (c : Option Signed) (s : Shape) (v : Value) → (shaped k c s).Fits v
    → (shaped k (constant_in v) s).Fits v × ((shaped k (constant_in v) s).spell v ≡ (shaped k c s).spell v)
unfolding shaped
shaped_alone k None shapes.Implicit v fits = absurd fits
shaped_alone k (Some x) shapes.Implicit (Implicit y) fits = (refl, refl)
shaped_alone k (Some x) shapes.Implicit _ fits = absurd cc
shaped_alone k c (shapes.Fixed n) v fits = (fits, refl)
shaped_alone k c shapes.Uleb v fits = (fits, refl)
shaped_alone k c shapes.Sleb v fits = (fits, refl)
shaped_alone k c (shapes.Counted n) v fits = (fits, refl)
shaped_alone k c shapes.CountedUleb v fits = (fits, refl)
shaped_alone k c shapes.Text v fits = (fits, refl)
shaped_alone k c shapes.Present v fits = (fits, refl)
shaped_alone k c shapes.Indirect v fits = absurd fits

formed_alone : (k : Ctx) (c : Option Signed) (o : Option Shape) (v : Value) → (shaped_if k c o).Fits v
    → (shaped_if k (constant_in v) o).Fits v × ((shaped_if k (constant_in v) o).spell v ≡ (shaped_if k c o).spell v)
formed_alone k c None v fits = absurd fits
formed_alone k c (Some s) v fits = shaped_alone k c s v fits

-- a value that fits under a declaration's constant has a spelling, and that is it
pub has_spelling : (k : Ctx) (form : ℕ) (c : Option Signed) (a : Attribute) → (attribute k form c).Fits a
    → HasSpelling k form a × (spelling k form a ≡ (attribute k form c).spell a)
unfolding attribute
has_spelling k form c a fits = by (form == 0x16) a.via fits
  where
    by : (b : Bool) (via : Option Unsigned) → (by_indirection k c form b).Fits (record { via = via; value = a.value })
        → (by_indirection k (constant_in a.value) form b).Fits (record { via = via; value = a.value })
        × ((by_indirection k (constant_in a.value) form b).spell (record { via = via; value = a.value })
        ≡ (by_indirection k c form b).spell (record { via = via; value = a.value }))
    by true None fits = absurd fits
    by true (Some u) fits = (fits, refl)
    by false None fits = formed_alone k c (shape form k.address_size k.format) a.value fits
    by false (Some u) fits = absurd fits
