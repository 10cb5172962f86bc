-- The head of a value from the bytes that spell it.
use Rattle.std.specs.Prelude.{◌≡◌, ◌≤◌, ℕ, ◌+◌, List, [], ◌∷◌, ◌++◌, length, take, Option, Some, None, ◌==◌}
use Rattle.std.proofs.Common.{refl, sym, ap, subst, ◌∙◌, arith, length-append, append_assoc, append-nil}
use Rattle.std.proofs.lemmas.List.{take_at, take_all}
use Rattle.dw_leb.specs.Number.{Unsigned, Signed, fixed, content}
use Rattle.dw_leb.specs.Part.{◌then◌}
use Rattle.dw_leb.specs.Digits.{length-fixed}
use Rattle.dw_leb.specs.DecideNumber.{length-uleb}
use Rattle.dw_form.specs.declared.shape.Ctx.{Ctx}
use Rattle.dw_form.specs.declared.shape.Shape.{Shape}
use Rattle.dw_form.specs.declared.shape.Shape.TheVariants as shapes
use Rattle.dw_form.specs.Form.{Value, Num, Wide, Uleb, Sleb, Block, Text, Present, Implicit, Attribute, shape, shaped, attribute}
use Rattle.dw_form.specs.Pieces.{head_of, via_bytes, form_in, pieces_of, attribute_pieces, form_known}
use Rattle.dw_form.specs.Head.{finder, head_if, head, via_width, own_constant}
use Rattle.dw_form.specs.HeadLent.{same_width, via_size, in_effect}

-- how many of the bytes that spell a value are of its head
abbrev pub own_size : Value → ℕ → ℕ → ℕ
own_size (Block width bytes) via all = via + width
own_size (Text bytes) via all = via
own_size v via all = all

abbrev pub front_size : Attribute → ℕ → ℕ
front_size a all = own_size a.value (via_width a.via) all

-- the bytes before the content, by the value's kind
length_field : (k : Ctx) (c : Option Signed) (s : Shape) (w : ℕ) (bytes : List ℕ) → (shaped k c s).Fits (Block w bytes)
    → length (head_of k s (Block w bytes)) ≡ w
unfolding shaped
length_field k c (shapes.Counted n) w bytes fits =
    length-fixed k.order n (length bytes)
    ∙ sym (same_width (fixed k.order n then content) n w (length bytes, bytes) fits).0
length_field k c shapes.CountedUleb w bytes fits = length-uleb (record { value = length bytes; width = w })
length_field k c (shapes.Fixed n) w bytes fits = absurd fits
length_field k c shapes.Uleb w bytes fits = absurd fits
length_field k c shapes.Sleb w bytes fits = absurd fits
length_field k c shapes.Text w bytes fits = absurd fits
length_field k c shapes.Present w bytes fits = absurd fits
length_field k None shapes.Implicit w bytes fits = absurd fits
length_field k (Some x) shapes.Implicit w bytes fits = absurd cc
length_field k c shapes.Indirect w bytes fits = absurd fits

no_field : (k : Ctx) (c : Option Signed) (s : Shape) (bytes : List ℕ) → (shaped k c s).Fits (Text bytes)
    → head_of k s (Text bytes) ≡ []
unfolding shaped
no_field k c shapes.Text bytes fits = refl
no_field k c (shapes.Fixed n) bytes fits = absurd fits
no_field k c shapes.Uleb bytes fits = absurd fits
no_field k c shapes.Sleb bytes fits = absurd fits
no_field k c (shapes.Counted n) bytes fits = absurd fits
no_field k c shapes.CountedUleb bytes fits = absurd fits
no_field k c shapes.Present bytes fits = absurd fits
no_field k None shapes.Implicit bytes fits = absurd fits
no_field k (Some x) shapes.Implicit bytes fits = absurd cc
no_field k c shapes.Indirect bytes fits = absurd fits

-- a beginning of joined lists
begins_both : (a b rest : List ℕ) (n : ℕ) → n ≡ length a + length b → take n (a ++ (b ++ rest)) ≡ a ++ b
begins_both a b rest n e =
    ap (take n) (sym (append_assoc a b rest)) ∙ take_at (a ++ b) rest n (length-append a b ∙ sym e)

-- without a content that is all
all_of : (a b : List ℕ)
    → (take (length (a ++ (b ++ []))) (a ++ (b ++ [])) ≡ a ++ b) × (length (a ++ (b ++ [])) ≤ length (a ++ (b ++ [])))
all_of a b = (
  take_all (length (a ++ (b ++ []))) (a ++ (b ++ [])) (omega arith) ∙ ap (λ (c : List ℕ). a ++ c) (append-nil b),
  omega arith,
)

module _ (k : Ctx) (c : Option Signed) (s : Shape) (via : Option Unsigned) where
  by_value : (v : Value) → (shaped k c s).Fits v
      → (take (own_size v (via_width via) (length (via_bytes via ++ pieces_of k s v)))
      (via_bytes via ++ pieces_of k s v)
      ≡ via_bytes via ++ head_of k s v)
      × (own_size v (via_width via) (length (via_bytes via ++ pieces_of k s v))
      ≤ length (via_bytes via ++ pieces_of k s v))
  by_value (Block w bytes) fits =
      let field = length_field k c s w bytes fits in
      let size : via_width via + w ≡ length (via_bytes via) + length (head_of k s (Block w bytes)) =
      omega (arith, via_size via, field) in (
        begins_both (via_bytes via) (head_of k s (Block w bytes)) (bytes ++ []) (via_width via + w) size,
        omega (
          arith,
          size,
          length-append (via_bytes via) (head_of k s (Block w bytes) ++ (bytes ++ [])),
          length-append (head_of k s (Block w bytes)) (bytes ++ []),
        ),
      )
  by_value (Text bytes) fits =
      let none = no_field k c s bytes fits in
      let size : via_width via ≡ length (via_bytes via) + length (head_of k s (Text bytes)) =
      omega (arith, via_size via, ap length none) in (
        begins_both (via_bytes via) (head_of k s (Text bytes)) (bytes ++ 0 ∷ []) (via_width via) size,
        omega (
          arith,
          size,
          length-append (via_bytes via) (head_of k s (Text bytes) ++ (bytes ++ 0 ∷ [])),
          length-append (head_of k s (Text bytes)) (bytes ++ 0 ∷ []),
        ),
      )
  by_value (Num x) fits = all_of (via_bytes via) (head_of k s (Num x))
  by_value (Wide x) fits = all_of (via_bytes via) (head_of k s (Wide x))
  by_value (Uleb x) fits = all_of (via_bytes via) (head_of k s (Uleb x))
  by_value (Sleb x) fits = all_of (via_bytes via) (head_of k s (Sleb x))
  by_value Present fits = all_of (via_bytes via) (head_of k s Present)
  by_value (Implicit x) fits = all_of (via_bytes via) (head_of k s (Implicit x))

-- the bytes that stand before the content, by those that spell the value; all of them, where it has none
abbrev pub front_bytes : Attribute → List ℕ → List ℕ
front_bytes a spelled = take (front_size a (length spelled)) spelled

-- they are the form that an indirect value names, and the number or the length field
pub front_is : (k : Ctx) (form : ℕ) (c : Option Signed) (a : Attribute) (s : Shape) → (attribute k form c).Fits a
    → shape (form_in form a.via) k.address_size k.format ≡ Some s
    → (front_bytes a ((attribute k form c).spell a) ≡ via_bytes a.via ++ head_of k s a.value)
    × (front_size a (length ((attribute k form c).spell a)) ≤ length ((attribute k form c).spell a))
unfolding attribute
front_is k form c a s fits e =
    let own = in_effect k c form (form == 0x16) a.via a.value s e fits in
    let same = (attribute_pieces k form c a s fits e).0 in
    let w = by_value k (own_constant a.via c) s a.via a.value own in
    (ap (front_bytes a) same ∙ w.0, subst (λ (b : List ℕ). front_size a (length b) ≤ length b) (sym same) w.1)

-- a head is those bytes, and what finds the content
pub head_front : (k : Ctx) (form : ℕ) (c : Option Signed) (a : Attribute) (start : ℕ) → (attribute k form c).Fits a
    → front_bytes a ((attribute k form c).spell a) ++ finder start a.value ≡ head k form start a
head_front k form c a start fits = by (shape (form_in form a.via) k.address_size k.format) refl
  where
    by : (o : Option Shape) → shape (form_in form a.via) k.address_size k.format ≡ o
        → front_bytes a ((attribute k form c).spell a) ++ finder start a.value ≡ head_if k o start a
    by None e = absurd (form_known k form c a fits e)
    by (Some s) e =
        ap (λ (b : List ℕ). b ++ finder start a.value) (front_is k form c a s fits e).0
        ∙ append_assoc (via_bytes a.via) (head_of k s a.value) (finder start a.value)

-- they are a beginning of those
pub front_within : (k : Ctx) (form : ℕ) (c : Option Signed) (a : Attribute) → (attribute k form c).Fits a
    → front_size a (length ((attribute k form c).spell a)) ≤ length ((attribute k form c).spell a)
front_within k form c a fits = by (shape (form_in form a.via) k.address_size k.format) refl
  where
    by : (o : Option Shape) → shape (form_in form a.via) k.address_size k.format ≡ o
        → front_size a (length ((attribute k form c).spell a)) ≤ length ((attribute k form c).spell a)
    by None e = absurd (form_known k form c a fits e)
    by (Some s) e = (front_is k form c a s fits e).1
