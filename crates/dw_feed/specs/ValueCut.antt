-- What is there of a value isn't the whole value: the input's end cuts it off.
use Rattle.std.proofs.Common.{◌≡◌, ℕ, ◌<◌, List, [], ◌++◌, Option, Some, length, refl, ap, subst, arith, inl, inr}
use Rattle.std.specs.Prelude.{◌==◌}
use Rattle.dw_leb.specs.declared.errors.Reason.{Reason}
use Rattle.dw_leb.specs.declared.errors.Reason.TheVariants.{Truncated}
use Rattle.dw_leb.specs.Number.{Signed}
use Rattle.dw_leb.specs.Reader.{Outcome, Found, Broken, at_front}
use Rattle.dw_leb.specs.Decide.{broken}
use Rattle.dw_leb.specs.Moments.{IsCut, fewer_or_enough}
use Rattle.dw_form.specs.declared.shape.Ctx.{Ctx}
use Rattle.dw_form.specs.Form.{Attribute}
use Rattle.dw_form.specs.ReadForm.{read_attribute, read_by_indirection}
use Rattle.dw_abbrev.specs.Table.{Pair}
use Rattle.dw_tree.specs.Steps.{next_pair}
use Rattle.dw_feed.specs.BodyFeed.{PartialUnit, part}
use Rattle.dw_feed.specs.FeedInvariant.{context, left, wanted}
use Rattle.dw_feed.specs.FieldSteps.{Standing, has_moment}
use Rattle.dw_feed.specs.PlainFeed.{field_at}
use Rattle.dw_feed.specs.ValueSteps.{value_read, value_short}

abbrev pub IsCutHere : Pair → PartialUnit → Type 0
IsCutHere p g = read_attribute (context g) p.form.value p.constant (part g) (left g) ≡ Broken 0 Truncated

-- whatever breaks in a value is told at its first byte
at_first : (out : Outcome Attribute) (offset : ℕ) (reason : Reason) → at_front out ≡ Broken offset reason
    → reason ≡ Truncated → at_front out ≡ Broken 0 Truncated
at_first (Found v size) offset reason e cut = absurd cc
at_first (Broken own why) offset reason e cut =
    let same : why ≡ Truncated = cc in ap (λ (r : Reason). broken Attribute 0 r) same

cut_first : (k : Ctx) (form : ℕ) (c : Option Signed) (bytes : List ℕ) (lim offset : ℕ) (reason : Reason)
    → read_attribute k form c bytes lim ≡ Broken offset reason → reason ≡ Truncated
    → read_attribute k form c bytes lim ≡ Broken 0 Truncated
unfolding read_attribute
cut_first k form c bytes lim offset reason e cut =
    at_first (read_by_indirection k c form (form == 0x16) bytes lim) offset reason e cut

-- it is so where fewer bytes are there than the value wants
pub cut_here : (g : PartialUnit) (p : Pair) → Standing g → next_pair g.table g.place.unfinished ≡ Some p
    → length (part g) < wanted g (part g) → IsCutHere p g
cut_here g p stands next short = by (read_attribute (context g) p.form.value p.constant (part g) (left g)) refl
  where
    cut : IsCut (field_at g (part g) (left g))
    cut = (has_moment g).waits (part g) (left g) short

    by : (out : Outcome Attribute) → read_attribute (context g) p.form.value p.constant (part g) (left g) ≡ out
        → IsCutHere p g
    by (Found v size) e = absurd (subst IsCut (value_read g p stands next (part g) (Found v size) e) cut)
    by (Broken offset reason) e =
        cut_first (context g) p.form.value p.constant (part g) (left g) offset reason e
        (subst IsCut (value_read g p stands next (part g) (Broken offset reason) e) cut)

-- where a value is cut off, it is so before its first byte
pub cut_before : (g : PartialUnit) (p : Pair) → Standing g → next_pair g.table g.place.unfinished ≡ Some p → part g ≡ []
    → (bytes : List ℕ) → read_attribute (context g) p.form.value p.constant bytes (left g) ≡ Broken 0 Truncated
    → IsCutHere p g
cut_before g p stands next none_there bytes e = elim (fewer_or_enough (length (part g)) (wanted g (part g))) [
  | inl short ↦ cut_here g p stands next short
  | inr enough ↦ absurd
      (omega (
        arith,
        value_short g p stands next bytes e,
        enough,
        ap length none_there,
        (has_moment g).steady (part g) bytes (left g) enough,
        ap (λ (bs : List ℕ). wanted g (bs ++ bytes)) none_there,
      ))
]
