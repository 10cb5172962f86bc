-- A value by the form in effect: behind the form that an indirect value names, what that form reads.
use Rattle.std.proofs.Common.{◌≡◌, ◌≢◌, ℕ, ◌-◌, ◌≤◌, List, ◌++◌, length, Option, Some, None, refl, ap, subst, ◌∙◌, arith}
use Rattle.std.specs.Prelude.{◌==◌}
use Rattle.std.proofs.lemmas.Bool.{ne_eqb}
use Rattle.std.proofs.lemmas.List.{drop_at}
use Rattle.dw_leb.specs.Part.{judged}
use Rattle.dw_leb.specs.Number.{Unsigned, Signed, uleb}
use Rattle.dw_leb.specs.Reader.{Outcome, Found, Broken, paired, behind, mapped, at_front}
use Rattle.dw_leb.specs.ReadNumber.{read_uleb}
use Rattle.dw_leb.specs.Decide.{judged_decides}
use Rattle.dw_leb.specs.DecideNumber.{uleb_decides, length-uleb}
use Rattle.dw_leb.specs.Moments.{IsCut}
use Rattle.dw_form.specs.declared.shape.Ctx.{Ctx}
use Rattle.dw_form.specs.Form.{bad_inner}
use Rattle.dw_form.specs.ReadForm.{read_formed, direct_from, indirect_from, read_by_indirection, read_attribute}
use Rattle.dw_form.specs.Pieces.{form_in, via_bytes}
use Rattle.dw_feed.specs.PartialValues.{NamedFits, lim_behind}

-- inside an indirect value there is no constant
abbrev pub constant_behind : Option Unsigned → Option Signed → Option Signed
constant_behind None c = c
constant_behind (Some u) c = None

module _ (k : Ctx) (form : ℕ) (c : Option Signed) (bytes : List ℕ) (lim : ℕ) where
  -- a value that isn't indirect is read by its own form
  pub plain_reads : form ≢ 0x16
      → read_attribute k form c bytes lim ≡ at_front (mapped direct_from (read_formed k c form bytes lim))
  unfolding read_attribute
  plain_reads ne = rw (ne_eqb form 0x16 ne) refl

  -- an indirect one by the form that it names, behind it
  pub named_reads : (u : Unsigned) → form ≡ 0x16 → (judged uleb bad_inner).Fits u → u.width ≤ lim
      → read_attribute k form c (uleb.spell u ++ bytes) lim
      ≡ at_front (mapped indirect_from (paired u u.width (read_formed k None u.value bytes (lim - u.width))))
  unfolding read_attribute
  named_reads u e fits within =
      let long : length (uleb.spell u) ≡ u.width = length-uleb u in
      ap (λ (f : ℕ). at_front (read_by_indirection k c f (f == 0x16) (uleb.spell u ++ bytes) lim)) e
      ∙ ap
      (λ (o : Outcome Unsigned).
      at_front
      (mapped indirect_from
      (behind o (λ (v : Unsigned). read_formed k None v.value) (uleb.spell u ++ bytes) lim)))
      ((judged_decides uleb read_uleb bad_inner uleb_decides).takes u bytes lim fits (omega (arith, long, within)))
      ∙ ap
      (λ (bs : List ℕ).
      at_front
      (mapped indirect_from
      (paired u (length (uleb.spell u)) (read_formed k None u.value bs (lim - length (uleb.spell u))))))
      (drop_at (uleb.spell u) bytes (length (uleb.spell u)) refl)
      ∙ ap (λ (n : ℕ). at_front (mapped indirect_from (paired u n (read_formed k None u.value bytes (lim - n))))) long

-- ---- a value that is cut off is cut off behind the form that it names

made_cut : {A X : Type 0} (f : A → X) (o : Outcome A) → IsCut (at_front (mapped f o)) → IsCut o
made_cut f (Found a size) h = h
made_cut f (Broken offset reason) h = h

paired_cut : {A B : Type 0} (a : A) (size : ℕ) (o : Outcome B) → IsCut (paired a size o) → IsCut o
paired_cut a size (Found b own) h = h
paired_cut a size (Broken offset reason) h = h

pub value_cut : (k : Ctx) (form : ℕ) (c : Option Signed) (bytes : List ℕ) (lim : ℕ) (v : Option Unsigned)
    → (v ≡ None → form ≢ 0x16) → ((u : Unsigned) → v ≡ Some u → form ≡ 0x16) → NamedFits v lim
    → IsCut (read_attribute k form c (via_bytes v ++ bytes) lim)
    → IsCut (read_formed k (constant_behind v c) (form_in form v) bytes (lim_behind v lim))
value_cut k form c bytes lim None direct indirect fits cut =
    made_cut direct_from (read_formed k c form bytes lim)
    (subst IsCut (plain_reads k form c bytes lim (direct refl)) cut)
value_cut k form c bytes lim (Some u) direct indirect fits cut =
    paired_cut u u.width (read_formed k None u.value bytes (lim - u.width))
    (made_cut indirect_from (paired u u.width (read_formed k None u.value bytes (lim - u.width)))
    (subst IsCut (named_reads k form c bytes lim u (indirect u refl) fits.0 fits.1) cut))
