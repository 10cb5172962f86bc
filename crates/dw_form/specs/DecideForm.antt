-- Values: each reader decides its part, and breaks of values stay.
use Rattle.std.proofs.Common.{◌≡◌, ℕ, Bool, true, false, cond, List, length, Option, Some, None, refl, sym, ap}
use Rattle.std.specs.Prelude.{if◌then◌else◌, ◌==◌}
use Rattle.std.proofs.lemmas.Bool.{eqb-true, eq-eqb}
use Rattle.dw_leb.specs.Part.{◌then◌, judged, nothing}
use Rattle.dw_leb.specs.declared.order.Order.{Order}
use Rattle.dw_leb.specs.Number.{fixed, content, text, Unsigned, Signed, uleb, sleb}
use Rattle.dw_leb.specs.Reader.{returned}
use Rattle.dw_leb.specs.ReadNumber.{read_text, read_uleb, read_sleb}
use Rattle.dw_leb.specs.Decide.{Decides, IsView, then_decides, judged_decides, whole_decides, seen_decides, nothing_decides, exactly_decides, refused_decides}
use Rattle.dw_leb.specs.PartLaws.{Stays, then_stays, judged_stays, whole_stays, nothing_stays, refused_stays}
use Rattle.dw_leb.specs.Digits.{content_decides, fixed_decides, text_decides, Short_stays, text_stays}
use Rattle.dw_leb.specs.DecideNumber.{uleb_decides, uleb_stays, sleb_decides, sleb_stays}
use Rattle.dw_form.specs.declared.shape.Ctx.{Ctx}
use Rattle.dw_form.specs.declared.shape.Shape.{Shape}
use Rattle.dw_form.specs.Form.{shape, Value, Num, Wide, Uleb, Sleb, Block, Text, Present, Implicit, as_fixed, as_unsigned, as_signed, as_counted, as_counted_unsigned, as_text, as_flag, constant, shaped, shaped_if, formed, as_direct, as_indirect, bad_inner, indirect, by_indirection, attribute}
use Rattle.dw_form.specs.ReadForm.{fixed_from, read_constant, read_shaped, read_shaped_if, read_formed, direct_from, indirect_from, read_by_indirection, read_attribute}
use Rattle.dw_form.specs.declared.shape.Shape.TheVariants as shapes

-- an Option that a test chose
chosen : {A : Type 0} (v : Bool) (x y : A) → cond v (Some x) None ≡ Some y → (v ≡ true) × (x ≡ y)
chosen true x y e = (refl, cc)
chosen false x y e = absurd cc

fixed_view : (order : Order) (n : ℕ) → IsView (fixed order n) (as_fixed n) (fixed_from n)
fixed_view order n = record { back = λ x a e fits. back x a e; there = λ a fits. there (n == 16) a }
  where
    in_number : (v : Bool) (x a : ℕ) → cond v None (Some x) ≡ Some a → cond v (Wide a) (Num a) ≡ Num x
    in_number true x a e = absurd cc
    in_number false x a e = let c : x ≡ a = cc in ap Num (sym c)

    in_wide : (v : Bool) (x a : ℕ) → cond v (Some x) None ≡ Some a → cond v (Wide a) (Num a) ≡ Wide x
    in_wide true x a e = let c : x ≡ a = cc in ap Wide (sym c)
    in_wide false x a e = absurd cc

    back : (x : Value) (a : ℕ) → as_fixed n x ≡ Some a → fixed_from n a ≡ x
    back (Num x) a e = in_number (n == 16) x a e
    back (Wide x) a e = in_wide (n == 16) x a e
    back (Uleb u) a e = absurd cc
    back (Sleb u) a e = absurd cc
    back (Block w b) a e = absurd cc
    back (Text b) a e = absurd cc
    back Present a e = absurd cc
    back (Implicit c) a e = absurd cc

    there : (v : Bool) (a : ℕ) → as_fixed n (fixed_from n a) ≡ Some a
    there v a = at (n == 16) refl
      where
        at : (v : Bool) → (n == 16) ≡ v → as_fixed n (if v then Wide a else Num a) ≡ Some a
        at true e = rw e refl
        at false e = rw e refl

unsigned_view : IsView uleb as_unsigned (λ u. Uleb u)
unsigned_view = record { back = λ x a e fits. back x a e; there = λ a fits. refl }
  where
    back : (x : Value) (a : Unsigned) → as_unsigned x ≡ Some a → Uleb a ≡ x
    back (Uleb u) a e = let c : u ≡ a = cc in ap Uleb (sym c)
    back (Num x) a e = absurd cc
    back (Wide x) a e = absurd cc
    back (Sleb u) a e = absurd cc
    back (Block w b) a e = absurd cc
    back (Text b) a e = absurd cc
    back Present a e = absurd cc
    back (Implicit c) a e = absurd cc

signed_view : IsView sleb as_signed (λ s. Sleb s)
signed_view = record { back = λ x a e fits. back x a e; there = λ a fits. refl }
  where
    back : (x : Value) (a : Signed) → as_signed x ≡ Some a → Sleb a ≡ x
    back (Sleb u) a e = let c : u ≡ a = cc in ap Sleb (sym c)
    back (Uleb u) a e = absurd cc
    back (Num x) a e = absurd cc
    back (Wide x) a e = absurd cc
    back (Block w b) a e = absurd cc
    back (Text b) a e = absurd cc
    back Present a e = absurd cc
    back (Implicit c) a e = absurd cc

text_view : IsView text as_text (λ b. Text b)
text_view = record { back = λ x a e fits. back x a e; there = λ a fits. refl }
  where
    back : (x : Value) (a : List ℕ) → as_text x ≡ Some a → Text a ≡ x
    back (Text b) a e = let c : b ≡ a = cc in ap Text (sym c)
    back (Sleb u) a e = absurd cc
    back (Uleb u) a e = absurd cc
    back (Num x) a e = absurd cc
    back (Wide x) a e = absurd cc
    back (Block w b) a e = absurd cc
    back Present a e = absurd cc
    back (Implicit c) a e = absurd cc

flag_view : IsView nothing as_flag (λ _. Present)
flag_view = record { back = λ x a e fits. back x a e; there = λ a fits. refl }
  where
    back : (x : Value) (a : Unit {0}) → as_flag x ≡ Some a → Present ≡ x
    back Present a e = refl
    back (Text b) a e = absurd cc
    back (Sleb u) a e = absurd cc
    back (Uleb u) a e = absurd cc
    back (Num x) a e = absurd cc
    back (Wide x) a e = absurd cc
    back (Block w b) a e = absurd cc
    back (Implicit c) a e = absurd cc

counted_view : (order : Order) (n : ℕ) → IsView (fixed order n then content) (as_counted n) (λ x. Block n x.1)
counted_view order n = record { back = λ x a e fits. back x a e; there = λ a fits. rw (eq-eqb n n refl, fits.1) refl }
  where
    back : (x : Value) (a : ℕ × List ℕ) → as_counted n x ≡ Some a → Block n a.1 ≡ x
    back (Block w b) a e =
        let c = chosen (w == n) (length b, b) a e in
        rw (eqb-true w n c.0) (ap (λ (y : ℕ × List ℕ). Block n y.1) (sym c.1))
    back Present a e = absurd cc
    back (Text b) a e = absurd cc
    back (Sleb u) a e = absurd cc
    back (Uleb u) a e = absurd cc
    back (Num x) a e = absurd cc
    back (Wide x) a e = absurd cc
    back (Implicit c) a e = absurd cc

counted_unsigned_view : IsView (uleb then λ u. content u.value) as_counted_unsigned (λ x. Block x.0.width x.1)
counted_unsigned_view = record { back = λ x a e fits. back x a e; there = λ a fits. rw fits.1 refl }
  where
    back : (x : Value) (a : Unsigned × List ℕ) → as_counted_unsigned x ≡ Some a → Block a.0.width a.1 ≡ x
    back (Block w b) a e =
        let c : (record { value = length b; width = w }, b) ≡ a = cc in
        ap (λ (y : Unsigned × List ℕ). Block y.0.width y.1) (sym c)
    back Present a e = absurd cc
    back (Text b) a e = absurd cc
    back (Sleb u) a e = absurd cc
    back (Uleb u) a e = absurd cc
    back (Num x) a e = absurd cc
    back (Wide x) a e = absurd cc
    back (Implicit c) a e = absurd cc

constant_decides : (c : Option Signed) → Decides (constant c) (read_constant c)
constant_decides None = refused_decides _
constant_decides (Some c) = exactly_decides (Implicit c)

pub shaped_decides : (k : Ctx) (c : Option Signed) (s : Shape) → Decides (shaped k c s) (read_shaped k c s)
unfolding shaped
shaped_decides k c (shapes.Fixed n) =
    seen_decides _ _ (as_fixed n) (fixed_from n) (fixed_view k.order n) (fixed_decides k.order n)
shaped_decides k c shapes.Uleb = seen_decides uleb read_uleb as_unsigned _ unsigned_view uleb_decides
shaped_decides k c shapes.Sleb = seen_decides sleb read_sleb as_signed _ signed_view sleb_decides
shaped_decides k c (shapes.Counted n) =
    seen_decides (fixed k.order n then content) _ (as_counted n) _ (counted_view k.order n)
    (then_decides _ _ _ _ (fixed_decides k.order n) content_decides)
shaped_decides k c shapes.CountedUleb =
    seen_decides (uleb then λ u. content u.value) _ as_counted_unsigned _ counted_unsigned_view
    (then_decides _ _ _ _ uleb_decides (λ u. content_decides u.value))
shaped_decides k c shapes.Text = seen_decides text read_text as_text _ text_view text_decides
shaped_decides k c shapes.Present = seen_decides nothing (returned tt) as_flag _ flag_view nothing_decides
shaped_decides k c shapes.Implicit = constant_decides c
shaped_decides k c shapes.Indirect = refused_decides _

shaped_if_decides : (k : Ctx) (c : Option Signed) (s : Option Shape) → Decides (shaped_if k c s) (read_shaped_if k c s)
shaped_if_decides k c None = refused_decides _
shaped_if_decides k c (Some s) = shaped_decides k c s

formed_decides : (k : Ctx) (c : Option Signed) (form : ℕ) → Decides (formed k c form) (read_formed k c form)
formed_decides k c form = shaped_if_decides k c (shape form k.address_size k.format)

indirection_decides : (k : Ctx) (c : Option Signed) (form : ℕ) (b : Bool)
    → Decides (by_indirection k c form b) (read_by_indirection k c form b)
indirection_decides k c form true =
    seen_decides (indirect k) _ as_indirect indirect_from
    (record { back = λ x a e fits. back x.via x.value a e; there = λ a fits. refl })
    (then_decides _ _ _ _ (judged_decides uleb read_uleb bad_inner uleb_decides) (λ u. formed_decides k None u.value))
  where
    back : (via : Option Unsigned) (v : Value) (a : Unsigned × Value)
        → as_indirect (record { via = via; value = v }) ≡ Some a → indirect_from a ≡ record { via = via; value = v }
    back None v a e = absurd cc
    back (Some u) v a e = let c : (u, v) ≡ a = cc in ap indirect_from (sym c)
indirection_decides k c form false =
    seen_decides (formed k c form) _ as_direct direct_from
    (record { back = λ x a e fits. back x.via x.value a e; there = λ a fits. refl }) (formed_decides k c form)
  where
    back : (via : Option Unsigned) (v : Value) (a : Value) → as_direct (record { via = via; value = v }) ≡ Some a
        → direct_from a ≡ record { via = via; value = v }
    back None v a e = let c : v ≡ a = cc in ap direct_from (sym c)
    back (Some u) v a e = absurd cc

pub attribute_decides : (k : Ctx) (form : ℕ) (c : Option Signed)
    → Decides (attribute k form c) (read_attribute k form c)
unfolding attribute read_attribute
attribute_decides k form c = whole_decides _ _ (indirection_decides k c form (form == 0x16))

-- ---- breaks of values that stay

constant_stays : (c : Option Signed) → Stays (constant c).Break
constant_stays None = refused_stays Value _
constant_stays (Some c) = nothing_stays

shaped_stays : (k : Ctx) (c : Option Signed) (s : Shape) → Stays (shaped k c s).Break
unfolding shaped
shaped_stays k c (shapes.Fixed n) = Short_stays n
shaped_stays k c shapes.Uleb = uleb_stays
shaped_stays k c shapes.Sleb = sleb_stays
shaped_stays k c (shapes.Counted n) = then_stays (fixed k.order n) content (Short_stays n) Short_stays
shaped_stays k c shapes.CountedUleb = then_stays uleb (λ u. content u.value) uleb_stays (λ u. Short_stays u.value)
shaped_stays k c shapes.Text = text_stays
shaped_stays k c shapes.Present = nothing_stays
shaped_stays k c shapes.Implicit = constant_stays c
shaped_stays k c shapes.Indirect = refused_stays Value _

shaped_if_stays : (k : Ctx) (c : Option Signed) (s : Option Shape) → Stays (shaped_if k c s).Break
shaped_if_stays k c None = refused_stays Value _
shaped_if_stays k c (Some s) = shaped_stays k c s

indirection_stays : (k : Ctx) (c : Option Signed) (form : ℕ) (b : Bool) → Stays (by_indirection k c form b).Break
indirection_stays k c form true =
    then_stays (judged uleb bad_inner) (λ u. formed k None u.value) (judged_stays uleb bad_inner uleb_stays)
    (λ u. shaped_if_stays k None (shape u.value k.address_size k.format))
indirection_stays k c form false = shaped_if_stays k c (shape form k.address_size k.format)

pub attribute_stays : (k : Ctx) (form : ℕ) (c : Option Signed) → Stays (attribute k form c).Break
unfolding attribute
attribute_stays k form c =
    whole_stays (by_indirection k c form (form == 0x16)) (indirection_stays k c form (form == 0x16))
