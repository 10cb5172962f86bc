-- Partial values: what was taken of one is a front of its spelling, wants more, and with what ends it is the spelling.
use Rattle.std.proofs.Common.{◌≡◌, ◌≢◌, ℕ, ◌+◌, ◌-◌, ◌^◌, ◌<◌, ◌≤◌, false, List, [], ◌∷◌, ◌++◌, length, Option, Some, None, refl, sym, ap, ◌∙◌, append_assoc, append-nil, arith, length-append, subst, ◌⊎◌, inl, inr}
use Rattle.std.specs.Prelude.{◌==◌}
use Rattle.std.specs.List.{AllByRecursion}
use Rattle.std.proofs.lemmas.Bool.{eq-eqb, ne_eqb}
use Rattle.dw_leb.specs.declared.order.Format.{Format}
use Rattle.dw_leb.specs.Part.{judged}
use Rattle.dw_leb.specs.Number.{Unsigned, Signed, uleb, fixed_bytes}
use Rattle.dw_leb.specs.DecideNumber.{length-uleb}
use Rattle.dw_leb.specs.Digits.{length-fixed}
use Rattle.dw_form.specs.declared.shape.Ctx.{Ctx}
use Rattle.dw_form.specs.declared.shape.Shape.{Shape}
use Rattle.dw_form.specs.declared.shape.Shape.TheVariants as shapes
use Rattle.dw_form.specs.Form.{shape, shaped, shaped_if, by_indirection, attribute, bad_inner}
use Rattle.dw_form.specs.Pieces.{form_in, via_bytes}
use Rattle.dw_form.specs.StoredView.{text_or_block}
use Rattle.dw_abbrev.specs.Table.{Pair}
use Rattle.dw_tree.specs.Place.{PartialValue}
use Rattle.dw_tree.specs.Steps.{partial_attribute, first_bytes, longer}
use Rattle.dw_leb.specs.NumberMoments.{is_zero, leb_moment, text_wants}
use Rattle.dw_form.specs.FormMoments.{shaped_moment, shaped_moment_if, formed_moment, attribute_moment, block_wants, uleb_block_wants, named_wants, plain_wants}
use Rattle.dw_feed.specs.BodyFeed.{first_form, count_bytes, count_if, partial_taken}

-- ---- a partial value with all its bytes: what was taken of it, with what ends it, is its spelling

-- what comes in pieces: a text, or a block with the width of its length field
abbrev pub ComesInPieces : Shape → Option ℕ → Type 0
ComesInPieces shapes.Text None = Unit {0}
ComesInPieces (shapes.Counted n) (Some width) = width ≡ n
ComesInPieces shapes.CountedUleb (Some width) = Unit {0}
ComesInPieces s o = ⊥

-- the zero that ends a text
abbrev pub ending : Option ℕ → List ℕ
ending None = 0 ∷ []
ending (Some width) = []

shaped_bytes : (k : Ctx) (c : Option Signed) (s : Shape) (width : Option ℕ) (bytes : List ℕ) → ComesInPieces s width
    → (shaped k c s).spell (text_or_block width bytes)
    ≡ count_if k (Some s) width (length bytes) ++ (bytes ++ ending width)
unfolding shaped
shaped_bytes k c shapes.Text None bytes is = refl
shaped_bytes k c (shapes.Counted n) (Some width) bytes is =
    rw (is, eq-eqb n n refl) (ap (λ (bs : List ℕ). fixed_bytes k.order n (length bytes) ++ bs) (sym (append-nil bytes)))
shaped_bytes k c shapes.CountedUleb (Some width) bytes is =
    ap (λ (bs : List ℕ). uleb.spell (record { value = length bytes; width = width }) ++ bs) (sym (append-nil bytes))
shaped_bytes k c shapes.Text (Some width) bytes is = absurd is
shaped_bytes k c (shapes.Counted n) None bytes is = absurd is
shaped_bytes k c shapes.CountedUleb None bytes is = absurd is
shaped_bytes k c (shapes.Fixed n) o bytes is = absurd is
shaped_bytes k c shapes.Uleb o bytes is = absurd is
shaped_bytes k c shapes.Sleb o bytes is = absurd is
shaped_bytes k c shapes.Present o bytes is = absurd is
shaped_bytes k c shapes.Implicit o bytes is = absurd is
shaped_bytes k c shapes.Indirect o bytes is = absurd is

-- what a partial value is under a pair: a text or block of its form's shape, indirect where the pair says so
pub record IsPartialAs (k : Ctx) (p : Pair) (b : PartialValue) : Type 0 where
  pub shape_is : Shape
  pub has : shape (form_in p.form.value b.via) k.address_size k.format ≡ Some shape_is
  pub begins : ComesInPieces shape_is b.width
  pub direct : b.via ≡ None → p.form.value ≢ 0x16
  pub indirect : (u : Unsigned) → b.via ≡ Some u → p.form.value ≡ 0x16

pub ended_bytes : (k : Ctx) (p : Pair) (ps : List Pair) (b : PartialValue) → IsPartialAs k p b
    → first_bytes k (p ∷ ps) (partial_attribute b) ≡ partial_taken k (p ∷ ps) 0 b ++ ending b.width
unfolding attribute
ended_bytes k p ps b is = by b.via refl
  where
    plain : (v : Option Unsigned) → b.via ≡ v → (s : Option Shape) → s ≡ Some is.shape_is → (c : Option Signed)
        → (shaped_if k c s).spell (text_or_block b.width b.bytes)
        ≡ (count_if k s b.width (length b.bytes + 0) ++ b.bytes) ++ ending b.width
    plain v e s h c =
        ap (λ (o : Option Shape). (shaped_if k c o).spell (text_or_block b.width b.bytes)) h
        ∙ shaped_bytes k c is.shape_is b.width b.bytes is.begins
        ∙ (let n : length b.bytes ≡ length b.bytes + 0 = omega arith in
        ap (λ (m : ℕ). count_if k (Some is.shape_is) b.width m ++ (b.bytes ++ ending b.width)) n)
        ∙ ap (λ (o : Option Shape). count_if k o b.width (length b.bytes + 0) ++ (b.bytes ++ ending b.width)) (sym h)
        ∙ sym (append_assoc (count_if k s b.width (length b.bytes + 0)) b.bytes (ending b.width))

    by : (v : Option Unsigned) → b.via ≡ v
        → (by_indirection k p.constant p.form.value (p.form.value == 0x16)).spell
        (record { via = b.via; value = text_or_block b.width b.bytes })
        ≡ partial_taken k (p ∷ ps) 0 b ++ ending b.width
    by None e =
        rw (e, ne_eqb p.form.value 0x16 (is.direct e))
        (plain None e (shape p.form.value k.address_size k.format) (rw e at is.has) p.constant)
    by (Some u) e =
        rw (e, is.indirect u e)
        (ap (λ (bs : List ℕ). uleb.spell u ++ bs)
        (plain (Some u) e (shape u.value k.address_size k.format) (rw e at is.has) None)
        ∙ sym
        (append_assoc (uleb.spell u)
        (count_if k (shape u.value k.address_size k.format) b.width (length b.bytes + 0) ++ b.bytes)
        (ending b.width)))

-- ---- one that isn't whole wants more

-- a text has no zero yet, and no count of bytes that are to come; a block has a length that its field holds, within
-- lim, and content still to come
abbrev pub IsIncomplete : Shape → Option ℕ → List ℕ → ℕ → ℕ → Type 0
IsIncomplete shapes.Text None bytes to_come lim =
    AllByRecursion (λ b. is_zero b ≡ false) bytes × (length bytes < lim) × (to_come ≡ 0)
IsIncomplete (shapes.Counted n) (Some width) bytes to_come lim =
    (width ≡ n) × (length bytes + to_come < 256 ^ n) × (n + (length bytes + to_come) ≤ lim) × (0 < to_come)
IsIncomplete shapes.CountedUleb (Some width) bytes to_come lim =
    uleb.Fits (record { value = length bytes + to_come; width = width }) × (width + (length bytes + to_come) ≤ lim)
    × (0 < to_come)
IsIncomplete s o bytes to_come lim = ⊥

shaped_short : (k : Ctx) (s : Shape) (width : Option ℕ) (bytes : List ℕ) (to_come lim : ℕ)
    → IsIncomplete s width bytes to_come lim
    → length (count_if k (Some s) width (length bytes + to_come) ++ bytes)
    < shaped_moment k s (count_if k (Some s) width (length bytes + to_come) ++ bytes) lim
shaped_short k shapes.Text None bytes to_come lim h = omega (arith, text_wants bytes lim h.0 h.1)
shaped_short k (shapes.Counted n) (Some width) bytes to_come lim h =
    omega (
      arith,
      block_wants k n (length bytes + to_come) bytes lim h.1 h.2,
      length-append (fixed_bytes k.order n (length bytes + to_come)) bytes,
      length-fixed k.order n (length bytes + to_come),
      h.3,
    )
shaped_short k shapes.CountedUleb (Some width) bytes to_come lim h =
    let u : Unsigned = record { value = length bytes + to_come; width = width } in
    omega (arith, uleb_block_wants k u bytes lim h.0 h.1, length-append (uleb.spell u) bytes, length-uleb u, h.2)
shaped_short k shapes.Text (Some width) bytes to_come lim h = absurd h
shaped_short k (shapes.Counted n) None bytes to_come lim h = absurd h
shaped_short k shapes.CountedUleb None bytes to_come lim h = absurd h
shaped_short k (shapes.Fixed n) o bytes to_come lim h = absurd h
shaped_short k shapes.Uleb o bytes to_come lim h = absurd h
shaped_short k shapes.Sleb o bytes to_come lim h = absurd h
shaped_short k shapes.Present o bytes to_come lim h = absurd h
shaped_short k shapes.Implicit o bytes to_come lim h = absurd h
shaped_short k shapes.Indirect o bytes to_come lim h = absurd h

-- ---- what is kept of a value before its content

-- no more than its length field: of a text nothing, and of a number as an unsigned LEB128 nothing behind its last byte;
-- no more than the number of a form that isn't named yet
abbrev pub FewKept : Shape → List ℕ → ℕ → Type 0
FewKept shapes.Text bytes lim = bytes ≡ []
FewKept (shapes.Counted n) bytes lim = length bytes ≤ n
FewKept shapes.CountedUleb bytes lim = length bytes ≤ leb_moment bytes lim
FewKept shapes.Indirect bytes lim = length bytes ≤ leb_moment bytes lim
FewKept s bytes lim = Unit {0}

abbrev pub FewKeptIf : Option Shape → List ℕ → ℕ → Type 0
FewKeptIf None bytes lim = Unit {0}
FewKeptIf (Some s) bytes lim = FewKept s bytes lim

pub none_kept : (s : Option Shape) (lim : ℕ) → FewKeptIf s [] lim
none_kept None lim = tt
none_kept (Some shapes.Text) lim = refl
none_kept (Some (shapes.Counted n)) lim = omega arith
none_kept (Some shapes.CountedUleb) lim = omega arith
none_kept (Some (shapes.Fixed n)) lim = tt
none_kept (Some shapes.Uleb) lim = tt
none_kept (Some shapes.Sleb) lim = tt
none_kept (Some shapes.Present) lim = tt
none_kept (Some shapes.Implicit) lim = tt
none_kept (Some shapes.Indirect) lim = omega arith

-- before its form is named, of an indirect value the bytes of that form are
pub shape_of_indirect : (address_size : ℕ) (format : Format) → shape 0x16 address_size format ≡ Some shapes.Indirect
unfolding shape
shape_of_indirect address_size format = refl

kept_of_form : (address_size : ℕ) (format : Format) (form : ℕ) → form ≡ 0x16
    → shape form address_size format ≡ Some shapes.Indirect
kept_of_form address_size format form e =
    ap (λ (n : ℕ). shape n address_size format) e ∙ shape_of_indirect address_size format

pub unnamed_kept : (address_size : ℕ) (format : Format) (form : ℕ) (bytes : List ℕ) (lim : ℕ) → form ≡ 0x16
    → length bytes ≤ leb_moment bytes lim → FewKeptIf (shape form address_size format) bytes lim
unnamed_kept address_size format form bytes lim e few =
    subst (λ (o : Option Shape). FewKeptIf o bytes lim) (sym (kept_of_form address_size format form e)) few

pub unnamed_few : (address_size : ℕ) (format : Format) (form : ℕ) (bytes : List ℕ) (lim : ℕ) → form ≡ 0x16
    → FewKeptIf (shape form address_size format) bytes lim → length bytes ≤ leb_moment bytes lim
unnamed_few address_size format form bytes lim e few =
    subst (λ (o : Option Shape). FewKeptIf o bytes lim) (kept_of_form address_size format form e) few

-- ---- what waits

-- The number of a form that isn't named yet, or a length field, isn't whole, and a text has begun: with the bytes that
-- are kept of a value nothing else begins.
abbrev pub FewerKept : Shape → List ℕ → ℕ → Type 0
FewerKept shapes.Text bytes lim = ⊥
FewerKept (shapes.Counted n) bytes lim = length bytes < n
FewerKept shapes.CountedUleb bytes lim = length bytes < leb_moment bytes lim
FewerKept shapes.Indirect bytes lim = length bytes < leb_moment bytes lim
FewerKept s bytes lim = Unit {0}

abbrev pub FewerKeptIf : Option Shape → List ℕ → ℕ → Type 0
FewerKeptIf None bytes lim = Unit {0}
FewerKeptIf (Some s) bytes lim = FewerKept s bytes lim

pub unnamed_fewer : (address_size : ℕ) (format : Format) (form : ℕ) (bytes : List ℕ) (lim : ℕ) → form ≡ 0x16
    → length bytes < leb_moment bytes lim → FewerKeptIf (shape form address_size format) bytes lim
unnamed_fewer address_size format form bytes lim e fewer =
    subst (λ (o : Option Shape). FewerKeptIf o bytes lim) (sym (kept_of_form address_size format form e)) fewer

pub fewer_unnamed : (address_size : ℕ) (format : Format) (form : ℕ) (bytes : List ℕ) (lim : ℕ) → form ≡ 0x16
    → FewerKeptIf (shape form address_size format) bytes lim → length bytes < leb_moment bytes lim
fewer_unnamed address_size format form bytes lim e fewer =
    subst (λ (o : Option Shape). FewerKeptIf o bytes lim) (kept_of_form address_size format form e) fewer

-- the form that is named may stand in an indirect value, within lim
abbrev pub NamedFits : Option Unsigned → ℕ → Type 0
NamedFits None lim = Unit {0}
NamedFits (Some u) lim = (judged uleb bad_inner).Fits u × (u.width ≤ lim)

abbrev pub lim_behind : Option Unsigned → ℕ → ℕ
lim_behind None lim = lim
lim_behind (Some u) lim = lim - u.width

-- so a partial value wants more than what was taken of it
pub partial_wants : (k : Ctx) (p : Pair) (ps : List Pair) (b : PartialValue) (to_come lim : ℕ)
    → (is : IsPartialAs k p b) → NamedFits b.via lim
    → IsIncomplete is.shape_is b.width b.bytes to_come (lim_behind b.via lim)
    → length (partial_taken k (p ∷ ps) to_come b)
    < attribute_moment k p.form.value (partial_taken k (p ∷ ps) to_come b) lim
partial_wants k p ps b to_come lim is named it = by b.via refl named it
  where
    formed_short : (form left : ℕ) → shape form k.address_size k.format ≡ Some is.shape_is
        → IsIncomplete is.shape_is b.width b.bytes to_come left
        → length (count_if k (shape form k.address_size k.format) b.width (length b.bytes + to_come) ++ b.bytes)
        < formed_moment k form
        (count_if k (shape form k.address_size k.format) b.width (length b.bytes + to_come) ++ b.bytes) left
    formed_short form left h i =
        subst
        (λ (s : Option Shape).
        length (count_if k s b.width (length b.bytes + to_come) ++ b.bytes)
        < shaped_moment_if k s (count_if k s b.width (length b.bytes + to_come) ++ b.bytes) left)
        (sym h)
        (shaped_short k is.shape_is b.width b.bytes to_come left i)

    by : (v : Option Unsigned) → b.via ≡ v → NamedFits v lim
        → IsIncomplete is.shape_is b.width b.bytes to_come (lim_behind v lim)
        → length
        (via_bytes v
        ++ (count_if k (shape (form_in p.form.value v) k.address_size k.format) b.width
        (length b.bytes + to_come)
        ++ b.bytes))
        < attribute_moment k p.form.value
        (via_bytes v
        ++ (count_if k (shape (form_in p.form.value v) k.address_size k.format) b.width (length b.bytes + to_come)
        ++ b.bytes))
        lim
    by None e f i =
        let bytes : List ℕ =
        count_if k (shape p.form.value k.address_size k.format) b.width (length b.bytes + to_come) ++ b.bytes in
        omega (
          arith,
          plain_wants k p.form.value bytes lim (is.direct e),
          formed_short p.form.value lim
              (ap (λ (v : Option Unsigned). shape (form_in p.form.value v) k.address_size k.format) (sym e) ∙ is.has) i,
        )
    by (Some u) e f i =
        let bytes : List ℕ =
        count_if k (shape u.value k.address_size k.format) b.width (length b.bytes + to_come) ++ b.bytes in
        omega (
          arith,
          named_wants k p.form.value u bytes lim (is.indirect u e) f.0 f.1,
          formed_short u.value (lim - u.width)
              (ap (λ (v : Option Unsigned). shape (form_in p.form.value v) k.address_size k.format) (sym e) ∙ is.has) i,
          length-append (uleb.spell u) bytes,
          length-uleb u,
        )

-- more of its bytes are taken
pub longer_bytes : (k : Ctx) (ps : List Pair) (b : PartialValue) (to_come : ℕ) (more : List ℕ)
    → (b.width ≡ None) ⊎ (length more ≤ to_come)
    → partial_taken k ps (to_come - length more) (longer more b) ≡ partial_taken k ps to_come b ++ more
longer_bytes k ps b to_come more h =
    let v : List ℕ = via_bytes b.via in
    let s : Option Shape = shape (form_in (first_form ps) b.via) k.address_size k.format in
    let c : List ℕ = count_if k s b.width (length b.bytes + to_come) in
    ap (λ (bs : List ℕ). v ++ (bs ++ (b.bytes ++ more))) (same_count s b.width h)
    ∙ (ap (λ (bs : List ℕ). v ++ bs) (sym (append_assoc c b.bytes more)) ∙ sym (append_assoc v (c ++ b.bytes) more))
  where
    same_count : (s : Option Shape) (w : Option ℕ) → (w ≡ None) ⊎ (length more ≤ to_come)
        → count_if k s w (length (b.bytes ++ more) + (to_come - length more))
        ≡ count_if k s w (length b.bytes + to_come)
    same_count s None h = refl
    same_count s (Some width) (inl none) = absurd cc
    same_count s (Some width) (inr le) =
        let n : length (b.bytes ++ more) + (to_come - length more) ≡ length b.bytes + to_come =
        omega (arith, length-append b.bytes more, le) in
        ap (λ (m : ℕ). count_bytes k s width m) n
