-- What a value with another number in the place of its own keeps: that it has a spelling, and how long that is.
use Rattle.std.specs.Prelude.{◌≡◌, ◌<◌, ◌^◌, ◌*◌, ◌==◌, ℕ, ℤ, pos, negsuc, Bool, true, false, [], length, Option, Some, None, option_map, nat_le, nat_lt, not, ◌&&◌, if◌then◌else◌}
use Rattle.std.proofs.Common.{refl, sym, ap, subst, ◌∙◌, arith, length-append, append-nil}
use Rattle.std.proofs.lemmas.Bool.{leb-true, ltb-true, and_parts}
use Rattle.dw_leb.specs.Part.{Part, FitsAs}
use Rattle.dw_leb.specs.Number.{Unsigned, Signed, UlebFits, SlebFits, extent, fixed, fixed_bytes, uleb}
use Rattle.dw_leb.specs.Digits.{length-fixed}
use Rattle.dw_leb.specs.DecideNumber.{uleb_fits, sleb_fits, length-uleb, length-sleb}
use Rattle.dw_form.specs.declared.shape.Ctx.{Ctx}
use Rattle.dw_form.specs.declared.shape.Shape.{Shape}
use Rattle.dw_form.specs.declared.shape.Shape.TheVariants as shapes
use Rattle.dw_form.specs.Form.{Value, Num, Wide, Uleb, Sleb, Block, Text, Present, Implicit, Attribute, shape, shaped, shaped_if, by_indirection, attribute}
use Rattle.dw_form.specs.Pieces.{form_in, pieces_spell}
use Rattle.dw_form.specs.StoredView.{value_bytes, bytes_in}
use Rattle.dw_form.specs.Head.{head}
use Rattle.dw_form.specs.HeadSize.{is_plain, plain_head}
use Rattle.dw_form.specs.Renumber.{fixed_number, unsigned_number, signed_number, renumbered, with_value}

-- ---- numbers that are held

unless_sixteen : (b : Bool) (P : Part ℕ) (x : ℕ) → not b ≡ true → P.Fits x → FitsAs P (if b then None else Some x)
unless_sixteen true P x e h = absurd cc
unless_sixteen false P x e h = h

fixed_held : (n : ℕ) (x : ℤ) (m : ℕ) → fixed_number (Some (shapes.Fixed n)) x ≡ Some m
    → (not (n == 16) ≡ true) × (m < 256 ^ n)
fixed_held n (negsuc x) m e = absurd cc
fixed_held n (pos x) m e = by (not (n == 16) && nat_lt x (256 ^ n)) refl e
  where
    by : (b : Bool) → (not (n == 16) && nat_lt x (256 ^ n)) ≡ b → (if b then Some x else None) ≡ Some m
        → (not (n == 16) ≡ true) × (m < 256 ^ n)
    by true f h =
        let w = and_parts (not (n == 16)) (nat_lt x (256 ^ n)) f in
        let same : x ≡ m = cc in
        (w.0, subst (λ (y : ℕ). y < 256 ^ n) same (ltb-true x (256 ^ n) w.1))
    by false f h = absurd cc

unsigned_held : (width : ℕ) (x : ℤ) (u : Unsigned) → unsigned_number width x ≡ Some u → UlebFits u × (u.width ≡ width)
unsigned_held width (negsuc x) u e = absurd cc
unsigned_held width (pos x) u e =
    by ((nat_le 1 width && nat_le width 16) && (nat_lt x (128 ^ width) && nat_lt x (2 ^ 64))) refl e
  where
    by : (b : Bool) → ((nat_le 1 width && nat_le width 16) && (nat_lt x (128 ^ width) && nat_lt x (2 ^ 64))) ≡ b
        → (if b then Some (record { value = x; width = width }) else None) ≡ Some u → UlebFits u × (u.width ≡ width)
    by true f h =
        let w = and_parts (nat_le 1 width && nat_le width 16) (nat_lt x (128 ^ width) && nat_lt x (2 ^ 64)) f in
        let one = and_parts (nat_le 1 width) (nat_le width 16) w.0 in
        let two = and_parts (nat_lt x (128 ^ width)) (nat_lt x (2 ^ 64)) w.1 in
        let own : Unsigned = record { value = x; width = width } in
        let same : own ≡ u = cc in
        let fits : UlebFits own =
        record {
          some = leb-true 1 width one.0;
          most = leb-true width 16 one.1;
          held = ltb-true x (128 ^ width) two.0;
          range = ltb-true x (2 ^ 64) two.1;
        } in
        (subst UlebFits same fits, ap (λ (y : Unsigned). y.width) (sym same))
    by false f h = absurd cc

signed_held : (width : ℕ) (x : ℤ) (s : Signed) → signed_number width x ≡ Some s → SlebFits s × (s.width ≡ width)
signed_held width x s e =
    by ((nat_le 1 width && nat_le width 16) && (nat_lt (2 * extent x) (128 ^ width) && nat_lt (extent x) (2 ^ 63))) refl
    e
  where
    by : (b : Bool)
        → ((nat_le 1 width && nat_le width 16) && (nat_lt (2 * extent x) (128 ^ width) && nat_lt (extent x) (2 ^ 63)))
        ≡ b
        → (if b then Some (record { value = x; width = width }) else None) ≡ Some s → SlebFits s × (s.width ≡ width)
    by true f h =
        let w =
        and_parts (nat_le 1 width && nat_le width 16)
        (nat_lt (2 * extent x) (128 ^ width) && nat_lt (extent x) (2 ^ 63)) f in
        let one = and_parts (nat_le 1 width) (nat_le width 16) w.0 in
        let two = and_parts (nat_lt (2 * extent x) (128 ^ width)) (nat_lt (extent x) (2 ^ 63)) w.1 in
        let own : Signed = record { value = x; width = width } in
        let same : own ≡ s = cc in
        let fits : SlebFits own =
        record {
          some = leb-true 1 width one.0;
          most = leb-true width 16 one.1;
          held = ltb-true (2 * extent x) (128 ^ width) two.0;
          range = ltb-true (extent x) (2 ^ 63) two.1;
        } in
        (subst SlebFits same fits, ap (λ (y : Signed). y.width) (sym same))
    by false f h = absurd cc

-- ---- a value of a shape

pub record Keeps (k : Ctx) (c : Option Signed) (s : Shape) (v w : Value) : Type 0 where
  pub fits : (shaped k c s).Fits w
  pub size : length ((shaped k c s).spell w) ≡ length ((shaped k c s).spell v)
  pub plain : is_plain v ≡ true
  pub new_plain : is_plain w ≡ true

some_mapped : {X Y : Type 0} (f : X → Y) (o : Option X) (y : Y) → option_map f o ≡ Some y
    → (x : X) × (o ≡ Some x) × (f x ≡ y)
some_mapped f None y e = absurd cc
some_mapped f (Some x) y e = (x, refl, cc)

abbrev as_num : ℕ → Value
as_num n = Num n

abbrev as_uleb : Unsigned → Value
as_uleb u = Uleb u

abbrev as_sleb : Signed → Value
as_sleb u = Sleb u

keeps_num : (k : Ctx) (c : Option Signed) (n y : ℕ) (x : ℤ) (w : Value) → (shaped k c (shapes.Fixed n)).Fits (Num y)
    → option_map as_num (fixed_number (Some (shapes.Fixed n)) x) ≡ Some w → Keeps k c (shapes.Fixed n) (Num y) w
unfolding shaped
keeps_num k c n y x w fits e =
    let m : (z : ℕ) × (fixed_number (Some (shapes.Fixed n)) x ≡ Some z) × (as_num z ≡ w) =
    some_mapped as_num (fixed_number (Some (shapes.Fixed n)) x) w e in
    let z = m.0 in
    let held = fixed_held n x z m.1 in
    let new : (shaped k c (shapes.Fixed n)).Fits (Num z) = unless_sixteen (n == 16) (fixed k.order n) z held.0 held.1 in
    let one = ap length (pieces_spell k c (shapes.Fixed n) (Num z) new).0 in
    let two = ap length (pieces_spell k c (shapes.Fixed n) (Num y) fits).0 in
    let three = ap length (append-nil (fixed_bytes k.order n z)) in
    let four = ap length (append-nil (fixed_bytes k.order n y)) in
    subst (λ (v : Value). Keeps k c (shapes.Fixed n) (Num y) v) m.2
    (record {
      fits = new;
      size = omega (arith, one, two, three, four, length-fixed k.order n z, length-fixed k.order n y);
      plain = refl;
      new_plain = refl;
    })

keeps_uleb : (k : Ctx) (c : Option Signed) (u : Unsigned) (x : ℤ) (w : Value) → (shaped k c shapes.Uleb).Fits (Uleb u)
    → option_map as_uleb (unsigned_number u.width x) ≡ Some w → Keeps k c shapes.Uleb (Uleb u) w
unfolding shaped
keeps_uleb k c u x w fits e =
    let m : (z : Unsigned) × (unsigned_number u.width x ≡ Some z) × (as_uleb z ≡ w) =
    some_mapped as_uleb (unsigned_number u.width x) w e in
    let z = m.0 in
    let held = unsigned_held u.width x z m.1 in
    let new : (shaped k c shapes.Uleb).Fits (Uleb z) = uleb_fits z held.0 in
    subst (λ (v : Value). Keeps k c shapes.Uleb (Uleb u) v) m.2
    (record { fits = new; size = length-uleb z ∙ (held.1 ∙ sym (length-uleb u)); plain = refl; new_plain = refl })

keeps_sleb : (k : Ctx) (c : Option Signed) (u : Signed) (x : ℤ) (w : Value) → (shaped k c shapes.Sleb).Fits (Sleb u)
    → option_map as_sleb (signed_number u.width x) ≡ Some w → Keeps k c shapes.Sleb (Sleb u) w
unfolding shaped
keeps_sleb k c u x w fits e =
    let m : (z : Signed) × (signed_number u.width x ≡ Some z) × (as_sleb z ≡ w) =
    some_mapped as_sleb (signed_number u.width x) w e in
    let z = m.0 in
    let held = signed_held u.width x z m.1 in
    let new : (shaped k c shapes.Sleb).Fits (Sleb z) = sleb_fits z held.0 in
    subst (λ (v : Value). Keeps k c shapes.Sleb (Sleb u) v) m.2
    (record { fits = new; size = length-sleb z ∙ (held.1 ∙ sym (length-sleb u)); plain = refl; new_plain = refl })

shape_keeps : (k : Ctx) (c : Option Signed) (form : ℕ) (s : Shape) (x : ℤ) (v w : Value)
    → shape form k.address_size k.format ≡ Some s → (shaped k c s).Fits v → renumbered k form x v ≡ Some w
    → Keeps k c s v w
unfolding shaped
shape_keeps k c form (shapes.Fixed n) x (Num y) w is fits e =
    keeps_num k c n y x w fits (ap (λ (o : Option Shape). option_map as_num (fixed_number o x)) (sym is) ∙ e)
shape_keeps k c form (shapes.Fixed n) x (Wide y) w is fits e = absurd cc
shape_keeps k c form (shapes.Fixed n) x _ w is fits e = absurd fits
shape_keeps k c form shapes.Uleb x (Uleb u) w is fits e = keeps_uleb k c u x w fits e
shape_keeps k c form shapes.Uleb x _ w is fits e = absurd fits
shape_keeps k c form shapes.Sleb x (Sleb u) w is fits e = keeps_sleb k c u x w fits e
shape_keeps k c form shapes.Sleb x _ w is fits e = absurd fits
shape_keeps k c form (shapes.Counted n) x (Block width bytes) w is fits e = absurd cc
shape_keeps k c form (shapes.Counted n) x _ w is fits e = absurd fits
shape_keeps k c form shapes.CountedUleb x (Block width bytes) w is fits e = absurd cc
shape_keeps k c form shapes.CountedUleb x _ w is fits e = absurd fits
shape_keeps k c form shapes.Text x (Text bytes) w is fits e = absurd cc
shape_keeps k c form shapes.Text x _ w is fits e = absurd fits
shape_keeps k c form shapes.Present x Present w is fits e = absurd cc
shape_keeps k c form shapes.Present x _ w is fits e = absurd fits
shape_keeps k None form shapes.Implicit x v w is fits e = absurd fits
shape_keeps k (Some d) form shapes.Implicit x (Implicit y) w is fits e = absurd cc
shape_keeps k (Some d) form shapes.Implicit x _ w is fits e = absurd cc
shape_keeps k c form shapes.Indirect x v w is fits e = absurd fits

-- ---- an attribute's value

pub record Kept (k : Ctx) (form : ℕ) (c : Option Signed) (a b : Attribute) : Type 0 where
  pub fits : (attribute k form c).Fits b
  pub size : length ((attribute k form c).spell b) ≡ length ((attribute k form c).spell a)
  pub plain : is_plain a.value ≡ true
  pub new_plain : is_plain b.value ≡ true

formed_keeps : (k : Ctx) (c : Option Signed) (form : ℕ) (x : ℤ) (v w : Value) (o : Option Shape)
    → shape form k.address_size k.format ≡ o → (shaped_if k c o).Fits v → renumbered k form x v ≡ Some w
    → (shaped_if k c o).Fits w × (length ((shaped_if k c o).spell w) ≡ length ((shaped_if k c o).spell v))
    × (is_plain v ≡ true) × (is_plain w ≡ true)
formed_keeps k c form x v w None is fits e = absurd fits
formed_keeps k c form x v w (Some s) is fits e =
    let h = shape_keeps k c form s x v w is fits e in (h.fits, h.size, h.plain, h.new_plain)

pub number_kept : (k : Ctx) (form : ℕ) (c : Option Signed) (a : Attribute) (x : ℤ) (w : Value)
    → (attribute k form c).Fits a → renumbered k (form_in form a.via) x a.value ≡ Some w
    → Kept k form c a (with_value a w)
unfolding attribute
number_kept k form c a x w fits e =
    let h = by (form == 0x16) a.via fits e in
    record { fits = h.0; size = h.1; plain = h.2; new_plain = h.3 }
  where
    by : (b : Bool) (via : Option Unsigned) → (by_indirection k c form b).Fits (record { via = via; value = a.value })
        → renumbered k (form_in form via) x a.value ≡ Some w
        → (by_indirection k c form b).Fits (record { via = via; value = w })
        × (length ((by_indirection k c form b).spell (record { via = via; value = w }))
        ≡ length ((by_indirection k c form b).spell (record { via = via; value = a.value })))
        × (is_plain a.value ≡ true) × (is_plain w ≡ true)
    by true None fits e = absurd fits
    by true (Some u) fits e =
        let h = formed_keeps k None u.value x a.value w (shape u.value k.address_size k.format) refl fits.1 e in (
          (fits.0, h.0),
          omega (
            arith,
            length-append (uleb.spell u) ((shaped_if k None (shape u.value k.address_size k.format)).spell w),
            length-append (uleb.spell u) ((shaped_if k None (shape u.value k.address_size k.format)).spell a.value),
            h.1,
          ),
          h.2,
          h.3,
        )
    by false None fits e = formed_keeps k c form x a.value w (shape form k.address_size k.format) refl fits e
    by false (Some u) fits e = absurd fits

no_content : (v : Value) → is_plain v ≡ true → value_bytes v ≡ []
no_content (Num x) e = refl
no_content (Wide x) e = refl
no_content (Uleb u) e = refl
no_content (Sleb s) e = refl
no_content (Block width bytes) e = absurd cc
no_content (Text bytes) e = absurd cc
no_content Present e = refl
no_content (Implicit s) e = refl

-- such values have no content, and their heads are as long, wherever others' contents are
module _ (k : Ctx) (form : ℕ) (c : Option Signed) (a b : Attribute) (fits : (attribute k form c).Fits a)
    (h : Kept k form c a b) where
  pub old_content : bytes_in a ≡ []
  old_content = no_content a.value h.plain

  pub new_content : bytes_in b ≡ []
  new_content = no_content b.value h.new_plain

  pub new_head : (start : ℕ) → head k form start b ≡ (attribute k form c).spell b
  new_head start = plain_head k form c b start h.new_plain h.fits

  pub head_kept : (start : ℕ) → length (head k form start b) ≡ length (head k form start a)
  head_kept start = ap length (new_head start) ∙ (h.size ∙ ap length (sym (plain_head k form c a start h.plain fits)))
