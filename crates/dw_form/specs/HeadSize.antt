-- How long heads are, by the spelling of their values.
use Rattle.std.specs.Prelude.{◌≡◌, ◌≤◌, ◌<◌, ℕ, ◌+◌, ◌*◌, Bool, true, false, List, [], ◌∷◌, ◌++◌, length, Option, Some, None, ◌==◌, if◌then◌else◌, cond, ltb}
use Rattle.std.proofs.Common.{refl, ap, subst, arith, length-append}
use Rattle.std.proofs.lemmas.Bool.{ltb-true}
use Rattle.dw_leb.specs.declared.order.Order.TheVariants.{Little}
use Rattle.dw_leb.specs.declared.order.Format.{Format}
use Rattle.dw_leb.specs.Number.{Unsigned, Signed, fixed_bytes, uleb}
use Rattle.dw_leb.specs.Part.{◌then◌}
use Rattle.dw_leb.specs.Digits.{length-fixed}
use Rattle.dw_leb.specs.DecideNumber.{uleb_some}
use Rattle.dw_form.specs.declared.shape.Ctx.{Ctx}
use Rattle.dw_form.specs.declared.shape.Shape.{Shape}
use Rattle.dw_form.specs.declared.shape.Shape.TheVariants as shapes
use Rattle.dw_form.specs.Form.{forms, at_number, Value, Num, Wide, Uleb, Sleb, Block, Text, Present, Implicit, Attribute, shape, shaped, attribute, by_indirection}
use Rattle.dw_form.specs.Pieces.{head_of, content_of, tail_of, via_bytes, form_in, pieces_of, attribute_pieces, form_known}
use Rattle.dw_form.specs.StoredView.{value_bytes, bytes_in}
use Rattle.dw_form.specs.Head.{word, finder, head_if, head, has_content, own_constant}
use Rattle.dw_form.specs.HeadLent.{plain_pieces, in_effect, plain_spelled}

-- ---- the length field of a block has a byte

abbrev some_field : Shape → Bool
some_field (shapes.Counted n) = ltb 0 n
some_field _ = true

abbrev all_some : List (ℕ × Shape) → Bool
all_some [] = true
all_some (row ∷ rows) = cond (some_field row.1) (all_some rows) false

both : (v w : Bool) → cond v w false ≡ true → (v ≡ true) × (w ≡ true)
both true w e = (refl, e)
both false w e = absurd cc

field_in : (n : ℕ) (rows : List (ℕ × Shape)) (s : Shape) → all_some rows ≡ true → at_number n rows ≡ Some s
    → some_field s ≡ true
field_in n [] s test e = absurd cc
field_in n (row ∷ rows) s test e = by (row.0 == n) e (field_in n rows s parts.1)
  where
    parts : (some_field row.1 ≡ true) × (all_some rows ≡ true)
    parts = both (some_field row.1) (all_some rows) test

    by : (v : Bool) → (if v then Some row.1 else at_number n rows) ≡ Some s
        → (at_number n rows ≡ Some s → some_field s ≡ true) → some_field s ≡ true
    by true f later = let same : row.1 ≡ s = cc in subst (λ (z : Shape). some_field z ≡ true) same parts.0
    by false f later = later f

field_some : (form address_size : ℕ) (format : Format) (s : Shape) → shape form address_size format ≡ Some s
    → some_field s ≡ true
unfolding shape
field_some form address_size format s e = field_in form (forms address_size format) s refl e

-- ---- heads take at most sixteen times the bytes of their values' spelling: a text's takes sixteen bytes for at
-- least its zero byte, a block's eight for at least a byte of its length

shape_size : (k : Ctx) (c : Option Signed) (s : Shape) (v : Value) (start : ℕ) → (b : Bool) → has_content s ≡ b
    → some_field s ≡ true → (shaped k c s).Fits v
    → length (head_of k s v ++ finder start v) ≤ 16 * length (pieces_of k s v)
unfolding shaped
shape_size k c s v start false e some fits =
    let same = ap length (plain_pieces k c s v start e fits) in omega (arith, same)
shape_size k c (shapes.Counted n) (Block w bytes) start true e some fits =
    let one = length-append (fixed_bytes k.order n (length bytes)) (word start) in
    let two = length-fixed k.order n (length bytes) in
    let three = length-fixed Little 8 start in
    let four = length-append (fixed_bytes k.order n (length bytes)) (bytes ++ []) in
    let five : 0 < n = ltb-true 0 n some in
    omega (arith, one, two, three, four, five)
shape_size k c (shapes.Counted n) _ start true e some fits = absurd fits
shape_size k c shapes.CountedUleb (Block w bytes) start true e some fits =
    let u : Unsigned = record { value = length bytes; width = w } in
    let one = length-append (uleb.spell u) (word start) in
    let three = length-fixed Little 8 start in
    let four = length-append (uleb.spell u) (bytes ++ []) in
    let five = uleb_some u fits.0 in
    omega (arith, one, three, four, five)
shape_size k c shapes.CountedUleb _ start true e some fits = absurd fits
shape_size k c shapes.Text (Text bytes) start true e some fits =
    let one = length-append (word (length bytes)) (word start) in
    let two = length-fixed Little 8 (length bytes) in
    let three = length-fixed Little 8 start in
    let four = length-append bytes (0 ∷ []) in
    omega (arith, one, two, three, four)
shape_size k c shapes.Text _ start true e some fits = absurd fits
shape_size k c (shapes.Fixed n) v start true e some fits = absurd cc
shape_size k c shapes.Uleb v start true e some fits = absurd cc
shape_size k c shapes.Sleb v start true e some fits = absurd cc
shape_size k c shapes.Present v start true e some fits = absurd cc
shape_size k c shapes.Implicit v start true e some fits = absurd cc
shape_size k c shapes.Indirect v start true e some fits = absurd cc

either_way : (k : Ctx) (form : ℕ) (c : Option Signed) (a : Attribute) → (attribute k form c).Fits a
    → (by_indirection k c form (form == 0x16)).Fits a
unfolding attribute
either_way k form c a fits = fits

pub head_size : (k : Ctx) (form : ℕ) (c : Option Signed) (a : Attribute) (start : ℕ) → (attribute k form c).Fits a
    → length (head k form start a) ≤ 16 * length ((attribute k form c).spell a)
head_size k form c a start fits = by (shape (form_in form a.via) k.address_size k.format) refl
  where
    by : (o : Option Shape) → shape (form_in form a.via) k.address_size k.format ≡ o
        → length (head_if k o start a) ≤ 16 * length ((attribute k form c).spell a)
    by None e = absurd (form_known k form c a fits e)
    by (Some s) e =
        let own = in_effect k c form (form == 0x16) a.via a.value s e (either_way k form c a fits) in
        let some = field_some (form_in form a.via) k.address_size k.format s e in
        let part = shape_size k (own_constant a.via c) s a.value start (has_content s) refl some own in
        let one = length-append (via_bytes a.via) (head_of k s a.value ++ finder start a.value) in
        let two = length-append (via_bytes a.via) (pieces_of k s a.value) in
        let same = ap length (attribute_pieces k form c a s fits e).0 in
        omega (arith, part, one, two, same)

-- ---- values without content: their heads are their spelling

abbrev pub is_plain : Value → Bool
is_plain (Block width bytes) = false
is_plain (Text bytes) = false
is_plain v = true

plain_shape : (k : Ctx) (c : Option Signed) (s : Shape) (v : Value) → is_plain v ≡ true → (shaped k c s).Fits v
    → has_content s ≡ false
unfolding shaped
plain_shape k c (shapes.Counted n) (Block w bytes) e fits = absurd cc
plain_shape k c (shapes.Counted n) _ e fits = absurd fits
plain_shape k c shapes.CountedUleb (Block w bytes) e fits = absurd cc
plain_shape k c shapes.CountedUleb _ e fits = absurd fits
plain_shape k c shapes.Text (Text bytes) e fits = absurd cc
plain_shape k c shapes.Text _ e fits = absurd fits
plain_shape k c (shapes.Fixed n) v e fits = refl
plain_shape k c shapes.Uleb v e fits = refl
plain_shape k c shapes.Sleb v e fits = refl
plain_shape k c shapes.Present v e fits = refl
plain_shape k c shapes.Implicit v e fits = refl
plain_shape k c shapes.Indirect v e fits = refl

pub plain_head : (k : Ctx) (form : ℕ) (c : Option Signed) (a : Attribute) (start : ℕ) → is_plain a.value ≡ true
    → (attribute k form c).Fits a → head k form start a ≡ (attribute k form c).spell a
plain_head k form c a start plain fits = by (shape (form_in form a.via) k.address_size k.format) refl
  where
    by : (o : Option Shape) → shape (form_in form a.via) k.address_size k.format ≡ o
        → head_if k o start a ≡ (attribute k form c).spell a
    by None e = absurd (form_known k form c a fits e)
    by (Some s) e =
        let own = in_effect k c form (form == 0x16) a.via a.value s e (either_way k form c a fits) in
        plain_spelled k form c a start s e (plain_shape k (own_constant a.via c) s a.value plain own) fits

-- ---- a content is no longer than the spelling

same_content : (v : Value) → value_bytes v ≡ content_of v
same_content (Num x) = refl
same_content (Wide x) = refl
same_content (Uleb u) = refl
same_content (Sleb x) = refl
same_content (Block width bytes) = refl
same_content (Text bytes) = refl
same_content Present = refl
same_content (Implicit x) = refl

pub content_size : (k : Ctx) (form : ℕ) (c : Option Signed) (a : Attribute) → (attribute k form c).Fits a
    → length (bytes_in a) ≤ length ((attribute k form c).spell a)
content_size k form c a fits = by (shape (form_in form a.via) k.address_size k.format) refl
  where
    by : (o : Option Shape) → shape (form_in form a.via) k.address_size k.format ≡ o
        → length (bytes_in a) ≤ length ((attribute k form c).spell a)
    by None e = absurd (form_known k form c a fits e)
    by (Some s) e =
        let v = a.value in
        let one = length-append (via_bytes a.via) (pieces_of k s v) in
        let two = length-append (head_of k s v) (content_of v ++ tail_of v) in
        let three = length-append (content_of v) (tail_of v) in
        omega (arith, one, two, three, ap length (same_content v), ap length (attribute_pieces k form c a s fits e).0)

-- ---- the size of a value by its head

-- how many bytes find a content
abbrev pub finder_size : Value → ℕ
finder_size (Block width bytes) = 8
finder_size (Text bytes) = 16
finder_size v = 0

-- how many bytes a content has, with the zero that ends a text
abbrev pub content_count : Value → ℕ
content_count (Block width bytes) = length bytes
content_count (Text bytes) = length bytes + 1
content_count v = 0

finder_long : (start : ℕ) (v : Value) → length (finder start v) ≡ finder_size v
finder_long start (Block width bytes) = length-fixed Little 8 start
finder_long start (Text bytes) =
    omega (
      arith,
      length-append (word (length bytes)) (word start),
      length-fixed Little 8 (length bytes),
      length-fixed Little 8 start,
    )
finder_long start (Num x) = refl
finder_long start (Wide x) = refl
finder_long start (Uleb u) = refl
finder_long start (Sleb x) = refl
finder_long start Present = refl
finder_long start (Implicit x) = refl

content_long : (v : Value) → length (content_of v ++ tail_of v) ≡ content_count v
content_long (Block width bytes) = omega (arith, length-append bytes [])
content_long (Text bytes) = omega (arith, length-append bytes (0 ∷ []))
content_long (Num x) = refl
content_long (Wide x) = refl
content_long (Uleb u) = refl
content_long (Sleb x) = refl
content_long Present = refl
content_long (Implicit x) = refl

-- the content stands in a spelling in the place of what finds it in the head
pub size_by_head : (k : Ctx) (form : ℕ) (c : Option Signed) (a : Attribute) (start : ℕ) → (attribute k form c).Fits a
    → length ((attribute k form c).spell a) + finder_size a.value ≡ length (head k form start a) + content_count a.value
size_by_head k form c a start fits = by (shape (form_in form a.via) k.address_size k.format) refl
  where
    by : (o : Option Shape) → shape (form_in form a.via) k.address_size k.format ≡ o
        → length ((attribute k form c).spell a) + finder_size a.value
        ≡ length (head_if k o start a) + content_count a.value
    by None e = absurd (form_known k form c a fits e)
    by (Some s) e =
        let v = a.value in
        omega (
          arith,
          ap length (attribute_pieces k form c a s fits e).0,
          length-append (via_bytes a.via) (pieces_of k s v),
          length-append (head_of k s v) (content_of v ++ tail_of v),
          content_long v,
          length-append (via_bytes a.via) (head_of k s v ++ finder start v),
          length-append (head_of k s v) (finder start v),
          finder_long start v,
        )
