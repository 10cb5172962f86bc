-- Values without content: their heads are their spelling, so that only their end has to be found.
use Rattle.std.specs.Prelude.{◌≡◌, ◌<◌, ◌≤◌, ℕ, suc, ◌+◌, ◌-◌, Bool, true, false, cond, List, [], ◌∷◌, ◌++◌, length, take, drop, position, Option, Some, None, IfSome, ◌==◌}
use Rattle.std.specs.List.{AllByRecursion, position_from}
use Rattle.std.proofs.Common.{refl, sym, ap, subst, ◌∙◌, arith, length-append}
use Rattle.std.proofs.lemmas.List.{drop_at, take_at}
use Rattle.std.proofs.lemmas.Bool.{eqb-true, lt-ltb, le-ltb}
use Rattle.std.proofs.lemmas.Iterator.Adapters.{position_from-zero}
use Rattle.dw_leb.specs.Number.{Unsigned, Signed, marked, uleb_groups, sleb_groups}
use Rattle.dw_leb.specs.Digits.{length-marked}
use Rattle.dw_leb.specs.Scan.{is_last}
use Rattle.dw_form.specs.declared.shape.Ctx.{Ctx}
use Rattle.dw_form.specs.declared.shape.Shape.{Shape}
use Rattle.dw_form.specs.declared.shape.Shape.TheVariants as shapes
use Rattle.dw_form.specs.Form.{Value, Uleb, Sleb, Attribute, shape, shaped, shaped_if, attribute, by_indirection}
use Rattle.dw_form.specs.Head.{head}
use Rattle.dw_form.specs.HeadSize.{is_plain, plain_head}
use Rattle.dw_abbrev.specs.Table.{Pair}
use Rattle.dw_tree.specs.RowHeads.{First}
use Rattle.dw_tree.specs.Runs.{size_of_shape, form_size_there}

-- a value of this form whose head stands at the front has no content, and so many bytes
abbrev pub IsWhole : Ctx → ℕ → List ℕ → ℕ → Type 0
IsWhole k form hs n =
    (c : Option Signed) (a : Attribute) (start : ℕ) (rest : List ℕ) → (attribute k form c).Fits a
    → hs ≡ head k form start a ++ rest
    → (is_plain a.value ≡ true) × (length ((attribute k form c).spell a) ≡ n)

-- ---- a number ends at its first byte without bit 7

marked_from : (j d : ℕ) (ds rest : List ℕ) → AllByRecursion (λ x. x < 128) (d ∷ ds)
    → position_from is_last j (marked (d ∷ ds) ++ rest) ≡ Some (j + length ds)
marked_from j d [] rest small =
    let same : j ≡ j + 0 = omega arith in rw (lt-ltb d 128 small.0) (ap (λ (n : ℕ). Some n) same)
marked_from j d (e ∷ ds) rest small =
    let high : 128 ≤ d + 128 = omega arith in
    let sum : j + 1 + length ds ≡ j + suc (length ds) = omega arith in
    rw (le-ltb (d + 128) 128 high) (marked_from (j + 1) e ds rest small.1 ∙ ap (λ (n : ℕ). Some n) sum)

pub marked_end : (ds rest hs : List ℕ) (n : ℕ) → 0 < length ds → AllByRecursion (λ x. x < 128) ds
    → hs ≡ marked ds ++ rest → 0 < n → position is_last hs ≡ Some (n - 1) → length (marked ds) ≡ n
marked_end [] rest hs n some small split more found = absurd (omega (arith, some))
marked_end (d ∷ ds) rest hs n some small split more found =
    let same : Some (n - 1) ≡ Some (0 + length ds) =
    sym found
    ∙ (ap (position is_last) split
    ∙ (position_from-zero is_last (marked (d ∷ ds) ++ rest) ∙ marked_from 0 d ds rest small)) in
    let equal : n - 1 ≡ 0 + length ds = cc in
    omega (arith, length-marked (d ∷ ds), equal, more)

-- ---- values that are LEB128 numbers

abbrev pub is_leb : Option Shape → Bool
is_leb (Some shapes.Uleb) = true
is_leb (Some shapes.Sleb) = true
is_leb _ = false

-- the groups of such a value
record Grouped (v : Value) (spelled : List ℕ) : Type 0 where
  groups : List ℕ
  some : 0 < length groups
  small : AllByRecursion (λ x. x < 128) groups
  plain : is_plain v ≡ true
  spells : spelled ≡ marked groups

by_shape : (k : Ctx) (c : Option Signed) (o : Option Shape) (v : Value) → is_leb o ≡ true → (shaped_if k c o).Fits v
    → Grouped v ((shaped_if k c o).spell v)
unfolding shaped
by_shape k c (Some shapes.Uleb) (Uleb u) e fits =
    record { groups = uleb_groups u; some = fits.0.1.0; small = fits.0.1.2; plain = refl; spells = refl }
by_shape k c (Some shapes.Uleb) _ e fits = absurd fits
by_shape k c (Some shapes.Sleb) (Sleb s) e fits =
    record { groups = sleb_groups s; some = fits.0.1.0; small = fits.0.1.2; plain = refl; spells = refl }
by_shape k c (Some shapes.Sleb) _ e fits = absurd fits
by_shape k c None v e fits = absurd cc
by_shape k c (Some (shapes.Fixed n)) v e fits = absurd cc
by_shape k c (Some shapes.Present) v e fits = absurd cc
by_shape k c (Some shapes.Implicit) v e fits = absurd cc
by_shape k c (Some (shapes.Counted m)) v e fits = absurd cc
by_shape k c (Some shapes.CountedUleb) v e fits = absurd cc
by_shape k c (Some shapes.Text) v e fits = absurd cc
by_shape k c (Some shapes.Indirect) v e fits = absurd cc

-- form indirect is none of theirs
indirect_shape : (k : Ctx) → is_leb (shape 0x16 k.address_size k.format) ≡ false
unfolding shape
indirect_shape k = refl

grouped : (k : Ctx) (form : ℕ) (c : Option Signed) (a : Attribute) → is_leb (shape form k.address_size k.format) ≡ true
    → (attribute k form c).Fits a → Grouped a.value ((attribute k form c).spell a)
unfolding attribute
grouped k form c a e fits = by (form == 0x16) refl a.via fits
  where
    by : (b : Bool) → (form == 0x16) ≡ b → (via : Option Unsigned)
        → (by_indirection k c form b).Fits (record { via = via; value = a.value })
        → Grouped a.value ((by_indirection k c form b).spell (record { via = via; value = a.value }))
    by true is via f =
        let none : is_leb (shape form k.address_size k.format) ≡ false =
        subst (λ (m : ℕ). is_leb (shape m k.address_size k.format) ≡ false) (sym (eqb-true form 0x16 is))
        (indirect_shape k) in
        absurd cc
    by false is None f = by_shape k c (shape form k.address_size k.format) a.value e f
    by false is (Some u) f = absurd f

pub number_whole : (k : Ctx) (form : ℕ) (hs : List ℕ) (n : ℕ) → is_leb (shape form k.address_size k.format) ≡ true
    → 0 < n → position is_last hs ≡ Some (n - 1) → IsWhole k form hs n
number_whole k form hs n e more found c a start rest fits split =
    let g = grouped k form c a e fits in
    let same = plain_head k form c a start g.plain fits in
    let stands : hs ≡ marked g.groups ++ rest = split ∙ ap (λ (b : List ℕ). b ++ rest) (same ∙ g.spells) in
    (g.plain, ap length g.spells ∙ marked_end g.groups rest hs n g.some g.small stands more found)

pub sized_whole : (k : Ctx) (form : ℕ) (hs : List ℕ) (n : ℕ)
    → size_of_shape (shape form k.address_size k.format) ≡ Some n → IsWhole k form hs n
sized_whole k form hs n e c a start rest fits split = form_size_there k form c a n e fits

-- ---- where an end was found

-- whatever stands behind
found_still : (j i : ℕ) (bytes more : List ℕ) → position_from is_last j bytes ≡ Some i
    → position_from is_last j (bytes ++ more) ≡ Some i
found_still j i [] more e = absurd cc
found_still j i (b ∷ bytes) more e = by (is_last b) e (found_still (j + 1) i bytes more)
  where
    by : (l : Bool) → cond l (Some j) (position_from is_last (j + 1) bytes) ≡ Some i
        → (position_from is_last (j + 1) bytes ≡ Some i → position_from is_last (j + 1) (bytes ++ more) ≡ Some i)
        → cond l (Some j) (position_from is_last (j + 1) (bytes ++ more)) ≡ Some i
    by true h others = h
    by false h others = others h

position_still : (i : ℕ) (bytes more : List ℕ) → position is_last bytes ≡ Some i
    → position is_last (bytes ++ more) ≡ Some i
position_still i bytes more e =
    position_from-zero is_last (bytes ++ more) ∙ found_still 0 i bytes more (sym (position_from-zero is_last bytes) ∙ e)

module _ (k : Ctx) (form : ℕ) (hs : List ℕ) (size : ℕ) where
  pub number_ends_still : (o : Option ℕ) → is_leb (shape form k.address_size k.format) ≡ true
      → IfSome o (λ end. size < end) → IfSome o (λ end. position is_last hs ≡ Some (end - size - 1))
      → IfSome o (λ end. (more : List ℕ) → IsWhole k form (hs ++ more) (end - size))
  number_ends_still None e behind found = tt
  number_ends_still (Some end) e behind found =
      λ more.
      number_whole k form (hs ++ more) (end - size) e (omega (arith, behind))
      (position_still (end - size - 1) hs more found)

  pub sized_ends_still : (o : Option ℕ)
      → IfSome o (λ end. size_of_shape (shape form k.address_size k.format) ≡ Some (end - size))
      → IfSome o (λ end. (more : List ℕ) → IsWhole k form (hs ++ more) (end - size))
  sized_ends_still None sized = tt
  sized_ends_still (Some end) sized = λ more. sized_whole k form (hs ++ more) (end - size) sized

  pub number_ends : (o : Option ℕ) → is_leb (shape form k.address_size k.format) ≡ true → IfSome o (λ end. size < end)
      → IfSome o (λ end. position is_last hs ≡ Some (end - size - 1)) → IfSome o (λ end. IsWhole k form hs (end - size))
  number_ends None e behind found = tt
  number_ends (Some end) e behind found = number_whole k form hs (end - size) e (omega (arith, behind)) found

  pub sized_ends : (o : Option ℕ)
      → IfSome o (λ end. size_of_shape (shape form k.address_size k.format) ≡ Some (end - size))
      → IfSome o (λ end. IsWhole k form hs (end - size))
  sized_ends None sized = tt
  sized_ends (Some end) sized = sized_whole k form hs (end - size) sized

-- ---- the value's bytes are the next ones

pub whole_next : (k : Ctx) (p : Pair) (hs pool : List ℕ) (n : ℕ) → IsWhole k p.form.value hs n → (x : First k p hs pool)
    → (take n hs ≡ (attribute k p.form.value p.constant).spell x.value) × (drop n hs ≡ x.rest) × (n ≤ length hs)
whole_next k p hs pool n whole x =
    let own = whole p.constant x.value x.start x.rest x.fits x.split in
    let same = plain_head k p.form.value p.constant x.value x.start own.0 x.fits in
    let split : hs ≡ (attribute k p.form.value p.constant).spell x.value ++ x.rest =
    x.split ∙ ap (λ (b : List ℕ). b ++ x.rest) same in
    let size = own.1 in (
      ap (take n) split ∙ take_at ((attribute k p.form.value p.constant).spell x.value) x.rest n size,
      ap (drop n) split ∙ drop_at ((attribute k p.form.value p.constant).spell x.value) x.rest n size,
      omega (arith, ap length split, length-append ((attribute k p.form.value p.constant).spell x.value) x.rest, size),
    )
