-- What a head spells is read back from it.
use Rattle.std.specs.Prelude.{◌≡◌, ◌≤◌, ◌<◌, ◌^◌, ℕ, ◌+◌, ◌-◌, Bool, true, false, List, ◌++◌, length, drop, Option, Some, None, option_map, ◌==◌, if◌then◌else◌}
use Rattle.std.proofs.Common.{refl, sym, ap, subst, ◌∙◌, arith, append_assoc, length-append}
use Rattle.std.proofs.lemmas.List.{drop_at, take_at}
use Rattle.std.proofs.lemmas.Bool.{le-ltb, eqb-true}
use Rattle.dw_leb.specs.Part.{Part, FitsAs, ◌then◌}
use Rattle.dw_leb.specs.declared.order.Order.{Order}
use Rattle.dw_leb.specs.declared.order.Order.TheVariants.{Little}
use Rattle.dw_leb.specs.Number.{Unsigned, Signed, fixed, content, fixed_bytes, uleb}
use Rattle.dw_leb.specs.Digits.{fixed_decides, length-fixed}
use Rattle.dw_leb.specs.DecideNumber.{uleb_decides, length-uleb}
use Rattle.dw_leb.specs.Reader.{Outcome}
use Rattle.dw_form.specs.declared.shape.Ctx.{Ctx}
use Rattle.dw_form.specs.declared.shape.Shape.{Shape}
use Rattle.dw_form.specs.declared.shape.Shape.TheVariants as shapes
use Rattle.dw_form.specs.Form.{Value, Num, Wide, Uleb, Sleb, Block, Text, Present, Implicit, Attribute, shape, shaped, shaped_if, by_indirection, attribute}
use Rattle.dw_form.specs.ReadForm.{read_shaped}
use Rattle.dw_form.specs.DecideForm.{shaped_decides}
use Rattle.dw_form.specs.StoredView.{value_bytes, bytes_in}
use Rattle.dw_form.specs.Pieces.{head_of, via_bytes, form_in, pieces_of, pieces_spell, attribute_pieces, form_known}
use Rattle.dw_form.specs.Head.{word, finder, head_bytes, head_if, head, Lies, and_so, value_found, both_found, fixed_at, uleb_at, in_width, count_at, part_at, value_with, placed_at, has_content, via_at, via_width, behind_via, own_constant, by_content, by_shape, by_via, head_at}

abbrev some_of : Attribute × ℕ → Option (Attribute × ℕ)
some_of x = Some x

abbrev some_value : Value × ℕ → Option (Value × ℕ)
some_value x = Some x

-- ---- numbers at the front

pub fixed_there : (order : Order) (n x : ℕ) (rest : List ℕ) → x < 256 ^ n
    → fixed_at order n (fixed_bytes order n x ++ rest) ≡ Some x
fixed_there order n x rest fits =
    let long : length (fixed_bytes order n x) ≤ length (fixed_bytes order n x ++ rest) =
    omega (arith, length-append (fixed_bytes order n x) rest) in
    ap (λ (o : Outcome ℕ). value_found o)
    ((fixed_decides order n).takes x rest (length (fixed_bytes order n x ++ rest)) fits long)

pub uleb_there : (u : Unsigned) (rest : List ℕ) → uleb.Fits u → uleb_at (uleb.spell u ++ rest) ≡ Some u
uleb_there u rest fits =
    let long : length (uleb.spell u) ≤ length (uleb.spell u ++ rest) =
    omega (arith, length-append (uleb.spell u) rest) in
    ap (λ (o : Outcome Unsigned). value_found o) (uleb_decides.takes u rest (length (uleb.spell u ++ rest)) fits long)

-- ---- a content in the pool

pub lies_there : (pool : List ℕ) (start : ℕ) (bytes : List ℕ) → Lies pool start bytes
    → part_at pool start (length bytes) ≡ Some bytes
lies_there pool start bytes h =
    let one = length-append h.before (bytes ++ h.after) in
    let two = length-append bytes h.after in
    let sum : length pool ≡ start + (length bytes + length h.after) =
    ap length h.split
    ∙ (one ∙ (ap (λ (n : ℕ). n + length (bytes ++ h.after)) h.at ∙ ap (λ (n : ℕ). start + n) two)) in
    let here : drop start pool ≡ bytes ++ h.after =
    ap (drop start) h.split ∙ drop_at h.before (bytes ++ h.after) start h.at in
    let low : start ≤ length pool = omega (arith, sum) in
    let high : length bytes ≤ length pool - start = omega (arith, sum) in
    rw (
      le-ltb (length pool) start low,
      le-ltb (length pool - start) (length bytes) high,
      here,
      take_at bytes h.after (length bytes) refl,
    )
    refl

pub lies_small : (pool : List ℕ) (start : ℕ) (bytes : List ℕ) → Lies pool start bytes → length pool < 256 ^ 8
    → (start < 256 ^ 8) × (length bytes < 256 ^ 8)
lies_small pool start bytes h small =
    let one = length-append h.before (bytes ++ h.after) in
    let two = length-append bytes h.after in
    let sum : length pool ≡ start + (length bytes + length h.after) =
    ap length h.split
    ∙ (one ∙ (ap (λ (n : ℕ). n + length (bytes ++ h.after)) h.at ∙ ap (λ (n : ℕ). start + n) two)) in
    (omega (arith, sum, small), omega (arith, sum, small))

-- ---- a text or block

module _ (k : Ctx) (pool : List ℕ) (start : ℕ) (bytes rest : List ℕ) (lies : Lies pool start bytes)
    (small : length pool < 256 ^ 8) where
  -- behind its length, by its shape
  counted_there : (s : Shape) (u : Unsigned) (field : List ℕ) → u.value ≡ length bytes → length field ≡ u.width
      → count_at k s (field ++ (word start ++ rest)) ≡ Some u
      → placed_at k s (field ++ (word start ++ rest)) pool ≡ Some (value_with s u.width bytes, u.width + 8)
  counted_there s u field value width e =
      let after : drop u.width (field ++ (word start ++ rest)) ≡ word start ++ rest =
      drop_at field (word start ++ rest) u.width width in
      let at : fixed_at Little 8 (drop u.width (field ++ (word start ++ rest))) ≡ Some start =
      ap (λ (b : List ℕ). fixed_at Little 8 b) after
      ∙ fixed_there Little 8 start rest (lies_small pool start bytes lies small).0 in
      let there : part_at pool start u.value ≡ Some bytes =
      ap (λ (n : ℕ). part_at pool start n) value ∙ lies_there pool start bytes lies in
      rw (e, at, there) refl

  text_there : placed_at k shapes.Text (word (length bytes) ++ (word start ++ rest)) pool ≡ Some (Text bytes, 8 + 8)
  text_there =
      counted_there shapes.Text (in_width 8 (length bytes)) (word (length bytes)) refl
      (length-fixed Little 8 (length bytes))
      (ap (option_map (in_width 8))
      (fixed_there Little 8 (length bytes) (word start ++ rest) (lies_small pool start bytes lies small).1))

  block_there : (n : ℕ) → length bytes < 256 ^ n
      → placed_at k (shapes.Counted n) (fixed_bytes k.order n (length bytes) ++ (word start ++ rest)) pool
      ≡ Some (Block n bytes, n + 8)
  block_there n fits =
      counted_there (shapes.Counted n) (in_width n (length bytes)) (fixed_bytes k.order n (length bytes)) refl
      (length-fixed k.order n (length bytes))
      (ap (option_map (in_width n)) (fixed_there k.order n (length bytes) (word start ++ rest) fits))

  uleb_block_there : (u : Unsigned) → u.value ≡ length bytes → uleb.Fits u
      → placed_at k shapes.CountedUleb (uleb.spell u ++ (word start ++ rest)) pool
      ≡ Some (Block u.width bytes, u.width + 8)
  uleb_block_there u value fits =
      counted_there shapes.CountedUleb u (uleb.spell u) value (length-uleb u) (uleb_there u (word start ++ rest) fits)

pub same_width : {A : Type 0} (P : Part A) (n w : ℕ) (x : A) → FitsAs P (if w == n then Some x else None)
    → (w ≡ n) × P.Fits x
same_width P n w x fits = by (w == n) refl fits
  where
    by : (b : Bool) → (w == n) ≡ b → FitsAs P (if b then Some x else None) → (w ≡ n) × P.Fits x
    by true e f = (eqb-true w n e, f)
    by false e f = absurd f

-- the value of a shape with content is found by its head
pub placed_there : (k : Ctx) (c : Option Signed) (s : Shape) (v : Value) (start : ℕ) (rest pool : List ℕ)
    → has_content s ≡ true → (shaped k c s).Fits v → Lies pool start (value_bytes v) → length pool < 256 ^ 8
    → placed_at k s ((head_of k s v ++ finder start v) ++ rest) pool
    ≡ Some (v, length (head_of k s v ++ finder start v))
unfolding shaped
placed_there k c (shapes.Counted n) (Block w bytes) start rest pool e fits lies small =
    let is = same_width (fixed k.order n then content) n w (length bytes, bytes) fits in
    let size : length (fixed_bytes k.order n (length bytes) ++ word start) ≡ n + 8 =
    length-append (fixed_bytes k.order n (length bytes)) (word start)
    ∙ (ap (λ (m : ℕ). m + length (word start)) (length-fixed k.order n (length bytes))
    ∙ ap (λ (m : ℕ). n + m) (length-fixed Little 8 start)) in
    ap (λ (b : List ℕ). placed_at k (shapes.Counted n) b pool)
    (append_assoc (fixed_bytes k.order n (length bytes)) (word start) rest)
    ∙ (block_there k pool start bytes rest lies small n is.1.0 ∙ rw (is.0, size) refl)
placed_there k c (shapes.Counted n) _ start rest pool e fits lies small = absurd fits
placed_there k c shapes.CountedUleb (Block w bytes) start rest pool e fits lies small =
    let u : Unsigned = record { value = length bytes; width = w } in
    let size : length (uleb.spell u ++ word start) ≡ w + 8 =
    length-append (uleb.spell u) (word start)
    ∙ (ap (λ (m : ℕ). m + length (word start)) (length-uleb u)
    ∙ ap (λ (m : ℕ). w + m) (length-fixed Little 8 start)) in
    ap (λ (b : List ℕ). placed_at k shapes.CountedUleb b pool) (append_assoc (uleb.spell u) (word start) rest)
    ∙ (uleb_block_there k pool start bytes rest lies small u refl fits.0 ∙ rw size refl)
placed_there k c shapes.CountedUleb _ start rest pool e fits lies small = absurd fits
placed_there k c shapes.Text (Text bytes) start rest pool e fits lies small =
    let size : length (word (length bytes) ++ word start) ≡ 16 =
    length-append (word (length bytes)) (word start)
    ∙ (ap (λ (m : ℕ). m + length (word start)) (length-fixed Little 8 (length bytes))
    ∙ ap (λ (m : ℕ). 8 + m) (length-fixed Little 8 start)) in
    ap (λ (b : List ℕ). placed_at k shapes.Text b pool) (append_assoc (word (length bytes)) (word start) rest)
    ∙ (text_there k pool start bytes rest lies small ∙ rw size refl)
placed_there k c shapes.Text _ start rest pool e fits lies small = absurd fits
placed_there k c (shapes.Fixed n) v start rest pool e fits lies small = absurd cc
placed_there k c shapes.Uleb v start rest pool e fits lies small = absurd cc
placed_there k c shapes.Sleb v start rest pool e fits lies small = absurd cc
placed_there k c shapes.Present v start rest pool e fits lies small = absurd cc
placed_there k c shapes.Implicit v start rest pool e fits lies small = absurd cc
placed_there k c shapes.Indirect v start rest pool e fits lies small = absurd cc

-- ---- a value without content: its head is its spelling

pub plain_pieces : (k : Ctx) (c : Option Signed) (s : Shape) (v : Value) (start : ℕ) → has_content s ≡ false
    → (shaped k c s).Fits v → head_of k s v ++ finder start v ≡ pieces_of k s v
unfolding shaped
plain_pieces k c (shapes.Fixed n) (Num x) start e fits = refl
plain_pieces k c (shapes.Fixed n) (Wide x) start e fits = refl
plain_pieces k c (shapes.Fixed n) _ start e fits = absurd fits
plain_pieces k c shapes.Uleb (Uleb u) start e fits = refl
plain_pieces k c shapes.Uleb _ start e fits = absurd fits
plain_pieces k c shapes.Sleb (Sleb x) start e fits = refl
plain_pieces k c shapes.Sleb _ start e fits = absurd fits
plain_pieces k c shapes.Present Present start e fits = refl
plain_pieces k c shapes.Present _ start e fits = absurd fits
plain_pieces k None shapes.Implicit v start e fits = absurd fits
plain_pieces k (Some x) shapes.Implicit (Implicit y) start e fits = refl
plain_pieces k (Some x) shapes.Implicit _ start e fits = absurd cc
plain_pieces k c shapes.Indirect v start e fits = absurd fits
plain_pieces k c (shapes.Counted n) v start e fits = absurd cc
plain_pieces k c shapes.CountedUleb v start e fits = absurd cc
plain_pieces k c shapes.Text v start e fits = absurd cc

-- ---- the form that an indirect value names

via_there : (k : Ctx) (c : Option Signed) (form : ℕ) (b : Bool) (via : Option Unsigned) (v : Value) (tail : List ℕ)
    → (by_indirection k c form b).Fits (record { via = via; value = v }) → via_at b (via_bytes via ++ tail) ≡ Some via
via_there k c form true None v tail fits = absurd fits
via_there k c form true (Some u) v tail fits = ap (option_map (λ (w : Unsigned). Some w)) (uleb_there u tail fits.0.0)
via_there k c form false None v tail fits = refl
via_there k c form false (Some u) v tail fits = absurd fits

pub via_size : (via : Option Unsigned) → length (via_bytes via) ≡ via_width via
via_size None = refl
via_size (Some u) = length-uleb u

of_shape : (k : Ctx) (c : Option Signed) (o : Option Shape) (s : Shape) (v : Value) → o ≡ Some s
    → (shaped_if k c o).Fits v → (shaped k c s).Fits v
of_shape k c None s v e fits = absurd fits
of_shape k c (Some t) s v e fits = let same : t ≡ s = cc in subst (λ (z : Shape). (shaped k c z).Fits v) same fits

-- the value is one of the shape in effect
pub in_effect : (k : Ctx) (c : Option Signed) (form : ℕ) (b : Bool) (via : Option Unsigned) (v : Value) (s : Shape)
    → shape (form_in form via) k.address_size k.format ≡ Some s
    → (by_indirection k c form b).Fits (record { via = via; value = v })
    → (shaped k (own_constant via c) s).Fits v
in_effect k c form true None v s e fits = absurd fits
in_effect k c form true (Some u) v s e fits = of_shape k None (shape u.value k.address_size k.format) s v e fits.1
in_effect k c form false None v s e fits = of_shape k c (shape form k.address_size k.format) s v e fits
in_effect k c form false (Some u) v s e fits = absurd fits

-- ---- what is put is lent again

module _ (k : Ctx) (form : ℕ) (c : Option Signed) (a : Attribute) (start : ℕ) where
  -- a value without content
  pub plain_spelled : (s : Shape) → shape (form_in form a.via) k.address_size k.format ≡ Some s → has_content s ≡ false
      → (attribute k form c).Fits a → head_bytes k s start a ≡ (attribute k form c).spell a
  unfolding attribute
  plain_spelled s e plain fits =
      let own = in_effect k c form (form == 0x16) a.via a.value s e fits in
      ap (λ (b : List ℕ). via_bytes a.via ++ b) (plain_pieces k (own_constant a.via c) s a.value start plain own)
      ∙ sym (attribute_pieces k form c a s fits e).0

  module _ (rest pool : List ℕ) (lies : Lies pool start (bytes_in a)) (small : length pool < 256 ^ 8) where
    -- behind the form that an indirect value names
    found_by_content : (s : Shape) (b : Bool) → has_content s ≡ b → (shaped k (own_constant a.via c) s).Fits a.value
        → by_content k (own_constant a.via c) ((head_of k s a.value ++ finder start a.value) ++ rest) pool s b
        ≡ Some (a.value, length (head_of k s a.value ++ finder start a.value))
    found_by_content s true content fits =
        placed_there k (own_constant a.via c) s a.value start rest pool content fits lies small
    found_by_content s false content fits =
        let d = own_constant a.via c in
        let same = plain_pieces k d s a.value start content fits ∙ sym (pieces_spell k d s a.value fits).0 in
        let long : length ((shaped k d s).spell a.value) ≤ length ((shaped k d s).spell a.value ++ rest) =
        omega (arith, length-append ((shaped k d s).spell a.value) rest) in
        ap (λ (b : List ℕ). both_found (read_shaped k d s (b ++ rest) (length (b ++ rest)))) same
        ∙ (ap (λ (o : Outcome Value). both_found o)
        ((shaped_decides k d s).takes a.value rest (length ((shaped k d s).spell a.value ++ rest)) fits long)
        ∙ ap (λ (b : List ℕ). some_value (a.value, length b)) (sym same))

    by_known : (o : Option Shape) → shape (form_in form a.via) k.address_size k.format ≡ o → (attribute k form c).Fits a
        → head_at k form c (head_if k o start a ++ rest) pool ≡ Some (a, length (head_if k o start a))
    unfolding attribute head_at
    by_known None e fits = absurd (form_known k form c a fits e)
    by_known (Some s) e fits =
        let d = own_constant a.via c in
        let tail : List ℕ = head_of k s a.value ++ finder start a.value in
        let split : head_bytes k s start a ++ rest ≡ via_bytes a.via ++ (tail ++ rest) =
        append_assoc (via_bytes a.via) tail rest in
        let behind : drop (via_width a.via) (head_bytes k s start a ++ rest) ≡ tail ++ rest =
        ap (drop (via_width a.via)) split
        ∙ drop_at (via_bytes a.via) (tail ++ rest) (via_width a.via) (via_size a.via) in
        let size : via_width a.via + length tail ≡ length (head_bytes k s start a) =
        ap (λ (n : ℕ). n + length tail) (sym (via_size a.via)) ∙ sym (length-append (via_bytes a.via) tail) in
        ap (λ (o : Option (Option Unsigned)). and_so o (by_via k form c (head_bytes k s start a ++ rest) pool))
        (ap (via_at (form == 0x16)) split ∙ via_there k c form (form == 0x16) a.via a.value (tail ++ rest) fits)
        ∙ (ap
        (λ (o : Option Shape).
        behind_via a.via (by_shape k d (drop (via_width a.via) (head_bytes k s start a ++ rest)) pool o)) e
        ∙ (ap (λ (b : List ℕ). behind_via a.via (by_content k d b pool s (has_content s))) behind
        ∙ (ap (behind_via a.via)
        (found_by_content s (has_content s) refl (in_effect k c form (form == 0x16) a.via a.value s e fits))
        ∙ ap (λ (n : ℕ). some_of (a, n)) size)))

    pub head_there : (attribute k form c).Fits a
        → head_at k form c (head k form start a ++ rest) pool ≡ Some (a, length (head k form start a))
    head_there fits = by_known (shape (form_in form a.via) k.address_size k.format) refl fits
