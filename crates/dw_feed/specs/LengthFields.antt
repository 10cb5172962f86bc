-- The length field of a block that is cut off: where it is whole, the content is cut off, and else one byte more is
-- wanted.
use Rattle.std.proofs.Common.{◌≡◌, ◌⊎◌, ℕ, zero, suc, ◌+◌, ◌^◌, ◌<◌, ◌≤◌, Bool, true, false, List, [], ◌∷◌, ◌++◌, length, Option, Some, None, sym, ap, subst, ◌∙◌, append-nil, arith, length-append, inl, inr}
use Rattle.std.specs.Prelude.{IsSomeAnd, if◌then◌else◌}
use Rattle.dw_leb.specs.declared.order.Order.{Order}
use Rattle.dw_leb.specs.declared.errors.Reason.{Reason}
use Rattle.dw_leb.specs.declared.errors.Reason.TheVariants.{Truncated, PastUnit}
use Rattle.dw_leb.specs.Part.{Taken}
use Rattle.dw_leb.specs.Number.{Unsigned, Signed, uleb, fixed, fixed_bytes}
use Rattle.dw_leb.specs.Reader.{Outcome, Found, Broken, mapped, behind}
use Rattle.dw_leb.specs.ReadNumber.{bytes_of, read_fixed, read_uleb}
use Rattle.dw_leb.specs.DecideNumber.{uleb_decides, length-uleb}
use Rattle.dw_leb.specs.Digits.{fixed_decides}
use Rattle.dw_leb.specs.Moments.{IsCut, fewer_or_enough}
use Rattle.dw_leb.specs.NumberMoments.{until, ends_number, most_groups, leb_moment, text_moment, uleb_has, count_moment}
use Rattle.dw_form.specs.declared.shape.Ctx.{Ctx}
use Rattle.dw_form.specs.declared.shape.Shape.{Shape}
use Rattle.dw_form.specs.declared.shape.Shape.TheVariants as shapes
use Rattle.dw_form.specs.Form.{ShapeFits, Block}
use Rattle.dw_form.specs.ReadForm.{read_shaped}
use Rattle.dw_form.specs.FormMoments.{shaped_moment, shaped_has, block_wants, block_faults, uleb_block_wants, uleb_block_faults}
use Rattle.dw_feed.specs.BodyFeed.{count_if}
use Rattle.dw_feed.specs.PartialValues.{ComesInPieces, IsIncomplete, FewKept, FewerKept}

-- what stands before the content, where it is whole: a block's length field, its width and count; of a text nothing
abbrev pub HasLength : Order → Shape → Option ℕ → ℕ → List ℕ → ℕ → Type 0
HasLength order shapes.Text width count bytes lim = (width ≡ None) × (count ≡ 0)
HasLength order (shapes.Counted n) width count bytes lim = (width ≡ Some n) × Taken (fixed order n) bytes lim count n
HasLength order shapes.CountedUleb width count bytes lim =
    IsSomeAnd width (λ w. Taken uleb bytes lim (record { value = count; width = w }) w)
HasLength order s width count bytes lim = ⊥

-- where it isn't; other shapes have none
abbrev pub HasNoLength : Order → Shape → List ℕ → ℕ → Type 0
HasNoLength order shapes.Text bytes lim = ⊥
HasNoLength order (shapes.Counted n) bytes lim = (reason : Reason) × (fixed order n).Break bytes lim 0 reason
HasNoLength order shapes.CountedUleb bytes lim = (reason : Reason) × uleb.Break bytes lim 0 reason
HasNoLength order s bytes lim = Unit {0}

-- nothing stands behind what is all
none_behind : (xs rest bytes : List ℕ) → bytes ≡ xs ++ rest → length bytes ≤ length xs → bytes ≡ xs
none_behind xs [] bytes e le = e ∙ append-nil xs
none_behind xs (r ∷ rest) bytes e le = absurd (omega (arith, le, ap length e, length-append xs (r ∷ rest)))

module _ (k : Ctx) (c : Option Signed) (bytes : List ℕ) (lim : ℕ) where
  -- a value that is cut off wants more
  cut_short : (s : Shape) → IsCut (read_shaped k c s bytes lim) → length bytes < shaped_moment k s bytes lim
  cut_short s cut = elim (fewer_or_enough (length bytes) (shaped_moment k s bytes lim)) [
    | inl short ↦ short
    | inr enough ↦ absurd ((shaped_has k c s).stands bytes lim enough cut)
  ]

  text_room : bytes ≡ [] → IsCut (read_shaped k c shapes.Text bytes lim) → 0 < lim
  text_room none cut = by lim (cut_short shapes.Text cut)
    where
      by : (n : ℕ) → length bytes < text_moment bytes n → 0 < n
      by zero h = absurd (omega (arith, h))
      by (suc n) h = omega arith

  counted_room : (n count : ℕ) → length bytes ≤ n → Taken (fixed k.order n) bytes lim count n
      → IsCut (read_shaped k c (shapes.Counted n) bytes lim)
      → (bytes ≡ fixed_bytes k.order n count) × (count < 256 ^ n) × (n + count ≤ lim) × (0 < count)
  counted_room n count few t cut =
      let all : bytes ≡ fixed_bytes k.order n count =
      none_behind (fixed_bytes k.order n count) t.rest bytes t.split (omega (arith, few, t.is_size)) in
      let long : length bytes ≡ n = ap length all ∙ t.is_size in
      let short : length bytes < shaped_moment k (shapes.Counted n) (fixed_bytes k.order n count ++ []) lim =
      subst (λ (bs : List ℕ). length bytes < shaped_moment k (shapes.Counted n) bs lim)
      (all ∙ sym (append-nil (fixed_bytes k.order n count))) (cut_short (shapes.Counted n) cut) in
      elim (fewer_or_enough lim (n + count)) [
        | inl past ↦ absurd (omega (arith, short, long, block_faults k n count [] lim t.fits t.within past))
        | inr within ↦ (all, t.fits, within, omega (arith, short, long, block_wants k n count [] lim t.fits within))
      ]

  uleb_room : (u : Unsigned) → length bytes ≤ leb_moment bytes lim → Taken uleb bytes lim u u.width
      → IsCut (read_shaped k c shapes.CountedUleb bytes lim)
      → (bytes ≡ uleb.spell u) × uleb.Fits u × (u.width + u.value ≤ lim) × (0 < u.value)
  uleb_room u few t cut =
      let read : read_uleb bytes lim ≡ Found u (length (uleb.spell u)) =
      ap (λ (bs : List ℕ). read_uleb bs lim) t.split
      ∙ uleb_decides.takes u t.rest lim t.fits (omega (arith, t.is_size, t.within)) in
      let moment : leb_moment bytes lim ≡ length (uleb.spell u) =
      uleb_has.whole bytes lim u (length (uleb.spell u)) read in
      let all : bytes ≡ uleb.spell u = none_behind (uleb.spell u) t.rest bytes t.split (omega (arith, few, moment)) in
      let long : length bytes ≡ u.width = ap length all ∙ length-uleb u in
      let short : length bytes < shaped_moment k shapes.CountedUleb (uleb.spell u ++ []) lim =
      subst (λ (bs : List ℕ). length bytes < shaped_moment k shapes.CountedUleb bs lim)
      (all ∙ sym (append-nil (uleb.spell u))) (cut_short shapes.CountedUleb cut) in
      elim (fewer_or_enough lim (u.width + u.value)) [
        | inl past ↦ absurd (omega (arith, short, long, uleb_block_faults k u [] lim t.fits t.within past))
        | inr within ↦ (all, t.fits, within, omega (arith, short, long, uleb_block_wants k u [] lim t.fits within))
      ]

  -- so a length field that is whole opens the block
  pub length_opens : (s : Shape) (width : Option ℕ) (count : ℕ) → FewKept s bytes lim
      → HasLength k.order s width count bytes lim → IsCut (read_shaped k c s bytes lim)
      → ComesInPieces s width × (bytes ≡ count_if k (Some s) width count) × IsIncomplete s width [] count lim
  length_opens shapes.Text None count few h cut = (tt, few, (tt, text_room few cut, h.1))
  length_opens shapes.Text (Some w) count few h cut = absurd cc
  length_opens (shapes.Counted n) None count few h cut = absurd cc
  length_opens (shapes.Counted n) (Some w) count few h cut =
      let r = counted_room n count few h.1 cut in
      let same : w ≡ n = cc in
      let n_less : 0 + count ≡ count = omega arith in
      (same, r.0, (same, subst (λ (m : ℕ). m < 256 ^ n) (sym n_less) r.1, omega (arith, r.2), r.3))
  length_opens shapes.CountedUleb None count few h cut = absurd h
  length_opens shapes.CountedUleb (Some w) count few h cut =
      let r = uleb_room (record { value = count; width = w }) few h cut in
      let n_less : 0 + count ≡ count = omega arith in (
        tt,
        r.0,
        (subst (λ (m : ℕ). uleb.Fits (record { value = m; width = w })) (sym n_less) r.1, omega (arith, r.2), r.3),
      )
  length_opens (shapes.Fixed n) width count few h cut = absurd h
  length_opens shapes.Uleb width count few h cut = absurd h
  length_opens shapes.Sleb width count few h cut = absurd h
  length_opens shapes.Present width count few h cut = absurd h
  length_opens shapes.Implicit width count few h cut = absurd h
  length_opens shapes.Indirect width count few h cut = absurd h

  -- ---- and one that isn't wants one byte more, and has room for it

  until_most : (last : ℕ → Bool) (n : ℕ) (bs : List ℕ) → until last n bs ≤ n
  until_most last zero bs = omega arith
  until_most last (suc n) [] = omega arith
  until_most last (suc n) (b ∷ bs) = by (last b) (until_most last n bs)
    where
      by : (v : Bool) → until last n bs ≤ n → (if v then 1 else suc (until last n bs)) ≤ suc n
      by true h = omega arith
      by false h = omega (arith, h)

  leb_most : leb_moment bytes lim ≤ 16
  leb_most = omega (arith, until_most ends_number (most_groups lim) bytes)

  count_most : (n : ℕ) → count_moment n bytes lim ≤ n
  count_most n = by (Rattle.std.specs.Prelude.nat_lt lim n)
    where
      by : (v : Bool) → (if v then 0 else n) ≤ n
      by true = omega arith
      by false = omega arith

  -- a length field that is refused for good isn't cut off
  counted_waits : (n : ℕ) (reason : Reason) → (fixed k.order n).Break bytes lim 0 reason
      → IsCut (read_shaped k c (shapes.Counted n) bytes lim) → length bytes < n
  counted_waits n reason breaks cut = by breaks.1
    where
      refused : (why : Reason) → read_fixed k.order n bytes lim ≡ Broken 0 why → why ≡ Truncated
      refused why e =
          subst (λ (o : Outcome ℕ). IsCut (mapped (λ (x : ℕ × List ℕ). Block n x.1) (behind o bytes_of bytes lim))) e
          cut

      by : ((lim < n) × (reason ≡ PastUnit)) ⊎ ((n ≤ lim) × (length bytes < n) × (reason ≡ Truncated))
          → length bytes < n
      by (inl h) =
          let t : reason ≡ Truncated = refused reason ((fixed_decides k.order n).faults bytes lim 0 reason breaks) in
          absurd cc
      by (inr h) = h.1

  uleb_waits : (reason : Reason) → uleb.Break bytes lim 0 reason → IsCut (read_shaped k c shapes.CountedUleb bytes lim)
      → length bytes < leb_moment bytes lim
  uleb_waits reason breaks cut =
      let e : read_uleb bytes lim ≡ Broken 0 reason = uleb_decides.faults bytes lim 0 reason breaks in
      let t : reason ≡ Truncated =
      subst
      (λ (o : Outcome Unsigned).
      IsCut
      (mapped (λ (x : Unsigned × List ℕ). Block x.0.width x.1)
      (behind o (λ (u : Unsigned). bytes_of u.value) bytes lim)))
      e cut in
      elim (fewer_or_enough (length bytes) (leb_moment bytes lim)) [
        | inl short ↦ short
        | inr enough ↦ absurd (uleb_has.stands bytes lim enough (subst IsCut (sym e) t))
      ]

  pub one_more : (b : ℕ) → length bytes < leb_moment bytes lim
      → length (bytes ++ b ∷ []) ≤ leb_moment (bytes ++ b ∷ []) lim
  one_more b short = elim (fewer_or_enough (length bytes) (leb_moment (bytes ++ b ∷ []) lim)) [
    | inl h ↦ omega (arith, h, length-append bytes (b ∷ []))
    | inr h ↦ absurd (omega (arith, short, uleb_has.early bytes (b ∷ []) lim h))
  ]

  -- so of it fewer bytes are there than it has
  pub length_fewer : (s : Shape) → HasNoLength k.order s bytes lim → IsCut (read_shaped k c s bytes lim)
      → FewerKept s bytes lim
  length_fewer shapes.Text h cut = absurd h
  length_fewer (shapes.Counted n) h cut = counted_waits n h.0 h.1 cut
  length_fewer shapes.CountedUleb h cut = uleb_waits h.0 h.1 cut
  length_fewer (shapes.Fixed n) h cut = tt
  length_fewer shapes.Uleb h cut = tt
  length_fewer shapes.Sleb h cut = tt
  length_fewer shapes.Present h cut = tt
  length_fewer shapes.Implicit h cut = tt
  length_fewer shapes.Indirect h cut = absurd (omega (arith, cut_short shapes.Indirect cut))

  pub length_waits : (s : Shape) → ShapeFits s → HasNoLength k.order s bytes lim → IsCut (read_shaped k c s bytes lim)
      → (length bytes < 16) × ((b : ℕ) → FewKept s (bytes ++ b ∷ []) lim)
  length_waits shapes.Text fits h cut = absurd h
  length_waits (shapes.Counted n) fits h cut =
      let short : length bytes < n = counted_waits n h.0 h.1 cut in
      (omega (arith, short, fits.1), λ b. omega (arith, short, length-append bytes (b ∷ [])))
  length_waits shapes.CountedUleb fits h cut =
      let short : length bytes < leb_moment bytes lim = uleb_waits h.0 h.1 cut in
      (omega (arith, short, leb_most), λ b. one_more b short)
  length_waits (shapes.Fixed n) fits h cut =
      (omega (arith, cut_short (shapes.Fixed n) cut, count_most n, fits.1), λ b. tt)
  length_waits shapes.Uleb fits h cut = (omega (arith, cut_short shapes.Uleb cut, leb_most), λ b. tt)
  length_waits shapes.Sleb fits h cut = (omega (arith, cut_short shapes.Sleb cut, leb_most), λ b. tt)
  length_waits shapes.Present fits h cut = absurd (omega (arith, cut_short shapes.Present cut))
  length_waits shapes.Implicit fits h cut = absurd (omega (arith, cut_short shapes.Implicit cut))
  length_waits shapes.Indirect fits h cut = absurd (omega (arith, cut_short shapes.Indirect cut))
