-- The bytes that are there of a value tell what is kept of it: the form that it names, bytes, or a text or block that
-- isn't whole.
use Rattle.std.proofs.Common.{◌≡◌, ℕ, ◌+◌, ◌<◌, ◌≤◌, List, [], ◌∷◌, ◌++◌, length, drop, Option, Some, None, refl, sym, ap, ap₂, subst, ◌∙◌, append_assoc, append-nil, arith, length-append}
use Rattle.std.specs.Prelude.{option_map}
use Rattle.std.proofs.lemmas.List.{drop_at}
use Rattle.dw_leb.specs.Number.{Unsigned, uleb, fixed_bytes}
use Rattle.dw_leb.specs.PartLaws.{one_front}
use Rattle.dw_leb.specs.Reader.{Found}
use Rattle.dw_leb.specs.ReadNumber.{read_uleb}
use Rattle.dw_leb.specs.DecideNumber.{uleb_decides, length-uleb}
use Rattle.dw_leb.specs.Digits.{length-fixed}
use Rattle.dw_leb.specs.NumberMoments.{leb_moment, uleb_has}
use Rattle.dw_form.specs.declared.shape.Ctx.{Ctx}
use Rattle.dw_form.specs.declared.shape.Shape.{Shape}
use Rattle.dw_form.specs.declared.shape.Shape.TheVariants as shapes
use Rattle.dw_form.specs.Form.{shape}
use Rattle.dw_form.specs.Pieces.{form_in, via_bytes}
use Rattle.dw_abbrev.specs.Table.{Pair, Table}
use Rattle.dw_tree.specs.Place.{PartialValue, UnfinishedEntry}
use Rattle.dw_tree.specs.Steps.{given_partial, next_pairs, partial_in}
use Rattle.dw_feed.specs.BodyFeed.{PartialUnit, count_if, partial_taken, pairs_left, value_part, part}
use Rattle.dw_feed.specs.FeedInvariant.{context, left}
use Rattle.dw_feed.specs.PartialValues.{IsPartialAs, IsIncomplete, NamedFits, FewerKept, FewerKeptIf, fewer_unnamed, lim_behind}
use Rattle.dw_feed.specs.FieldSteps.{ValuePart, ValueWaits, FieldPart, FieldWaits}

-- a number that is whole at the front is no longer than it wants
whole_uleb : (u : Unsigned) (rest : List ℕ) (lim : ℕ) → uleb.Fits u → u.width ≤ lim
    → length (uleb.spell u ++ rest) < leb_moment (uleb.spell u ++ rest) lim → ⊥
whole_uleb u rest lim fits within short =
    let read : read_uleb (uleb.spell u ++ rest) lim ≡ Found u (length (uleb.spell u)) =
    uleb_decides.takes u rest lim fits (omega (arith, length-uleb u, within)) in
    omega (
      arith,
      short,
      uleb_has.whole (uleb.spell u ++ rest) lim u (length (uleb.spell u)) read,
      length-append (uleb.spell u) rest,
    )

-- ---- behind the form that is named: the length field and what came of the content

module _ (k : Ctx) (lim : ℕ) where
  -- no content has begun where fewer bytes are kept
  none_begun : (s : Shape) (pending : List ℕ) (b : PartialValue) (n : ℕ) → FewerKept s pending lim
      → IsIncomplete s b.width b.bytes n lim → pending ≡ count_if k (Some s) b.width (length b.bytes + n) ++ b.bytes → ⊥
  none_begun s pending b n fewer it e = by s b.width fewer it e
    where
      by : (s : Shape) (w : Option ℕ) → FewerKept s pending lim → IsIncomplete s w b.bytes n lim
          → pending ≡ count_if k (Some s) w (length b.bytes + n) ++ b.bytes → ⊥
      by shapes.Text w fewer it e = fewer
      by (shapes.Counted m) (Some w) fewer it e =
          omega (
            arith,
            fewer,
            ap length e,
            length-append (fixed_bytes k.order m (length b.bytes + n)) b.bytes,
            length-fixed k.order m (length b.bytes + n),
          )
      by shapes.CountedUleb (Some w) fewer it e =
          let u : Unsigned = record { value = length b.bytes + n; width = w } in
          whole_uleb u b.bytes lim it.0 (omega (arith, it.1))
          (subst (λ (bs : List ℕ). length bs < leb_moment bs lim) e fewer)
      by (shapes.Counted m) None fewer it e = it
      by shapes.CountedUleb None fewer it e = it
      by (shapes.Fixed m) w fewer it e = it
      by shapes.Uleb w fewer it e = it
      by shapes.Sleb w fewer it e = it
      by shapes.Present w fewer it e = it
      by shapes.Implicit w fewer it e = it
      by shapes.Indirect w fewer it e = it

  -- of a text or block the same bytes came
  same_content : (s : Shape) (a b : PartialValue) (m n : ℕ) → IsIncomplete s a.width a.bytes m lim
      → IsIncomplete s b.width b.bytes n lim
      → count_if k (Some s) a.width (length a.bytes + m) ++ a.bytes
      ≡ count_if k (Some s) b.width (length b.bytes + n) ++ b.bytes
      → (a.width ≡ b.width) × (a.bytes ≡ b.bytes)
  same_content s a b m n it other e = by s a.width b.width it other e
    where
      behind : (xs ys cs bs : List ℕ) → length xs ≡ length ys → xs ++ cs ≡ ys ++ bs → cs ≡ bs
      behind xs ys cs bs l e =
          sym (drop_at xs cs (length xs) refl) ∙ ap₂ (λ (n : ℕ) (zs : List ℕ). drop n zs) l e
          ∙ drop_at ys bs (length ys) refl

      by : (s : Shape) (v w : Option ℕ) → IsIncomplete s v a.bytes m lim → IsIncomplete s w b.bytes n lim
          → count_if k (Some s) v (length a.bytes + m) ++ a.bytes
          ≡ count_if k (Some s) w (length b.bytes + n) ++ b.bytes
          → (v ≡ w) × (a.bytes ≡ b.bytes)
      by shapes.Text None None it other e = (refl, e)
      by (shapes.Counted c) (Some v) (Some w) it other e = (
        ap (λ (x : ℕ). Some x) (it.0 ∙ sym other.0),
        behind (fixed_bytes k.order c (length a.bytes + m)) (fixed_bytes k.order c (length b.bytes + n)) a.bytes b.bytes
            (length-fixed k.order c (length a.bytes + m) ∙ sym (length-fixed k.order c (length b.bytes + n))) e,
      )
      by shapes.CountedUleb (Some v) (Some w) it other e =
          let u : Unsigned = record { value = length a.bytes + m; width = v } in
          let x : Unsigned = record { value = length b.bytes + n; width = w } in
          let same = one_front uleb read_uleb uleb_decides u x a.bytes b.bytes it.0 other.0 e in
          (ap (λ (y : Unsigned). Some y.width) same.0, same.1)
      by shapes.Text None (Some w) it other e = absurd other
      by shapes.Text (Some v) w it other e = absurd it
      by (shapes.Counted c) None w it other e = absurd it
      by (shapes.Counted c) (Some v) None it other e = absurd other
      by shapes.CountedUleb None w it other e = absurd it
      by shapes.CountedUleb (Some v) None it other e = absurd other
      by (shapes.Fixed c) v w it other e = absurd it
      by shapes.Uleb v w it other e = absurd it
      by shapes.Sleb v w it other e = absurd it
      by shapes.Present v w it other e = absurd it
      by shapes.Implicit v w it other e = absurd it
      by shapes.Indirect v w it other e = absurd it

-- ---- a value under its pair

module _ (k : Ctx) (p : Pair) (ps : List Pair) (lim : ℕ) where
  abbrev shape_of : Option Unsigned → Option Shape
  shape_of v = shape (form_in p.form.value v) k.address_size k.format

  -- what is kept of it: the form that it names and bytes, or a text or block of which so many bytes are to come
  abbrev IsThere : Option PartialValue → Option Unsigned → List ℕ → ℕ → Type 0
  IsThere None named pending n =
      NamedFits named lim × ((u : Unsigned) → named ≡ Some u → p.form.value ≡ 0x16)
      × FewerKeptIf (shape_of named) pending (lim_behind named lim)
  IsThere (Some b) named pending n =
      (pending ≡ []) × NamedFits b.via lim
      × ((is : IsPartialAs k p b) × IsIncomplete is.shape_is b.width b.bytes n (lim_behind b.via lim))

  abbrev via_of : Option PartialValue → Option Unsigned → Option Unsigned
  via_of None named = named
  via_of (Some b) named = b.via

  abbrev rest_of : Option PartialValue → List ℕ → ℕ → List ℕ
  rest_of None pending n = pending
  rest_of (Some b) pending n = (count_if k (shape_of b.via) b.width (length b.bytes + n) ++ b.bytes) ++ pending

  abbrev bytes_of : Option PartialValue → Option Unsigned → List ℕ → ℕ → List ℕ
  bytes_of None named pending n = via_bytes named ++ pending
  bytes_of (Some b) named pending n = partial_taken k (p ∷ ps) n b ++ pending

  bytes_are : (o : Option PartialValue) (named : Option Unsigned) (pending : List ℕ) (n : ℕ)
      → bytes_of o named pending n ≡ via_bytes (via_of o named) ++ rest_of o pending n
  bytes_are None named pending n = refl
  bytes_are (Some b) named pending n =
      append_assoc (via_bytes b.via) (count_if k (shape_of b.via) b.width (length b.bytes + n) ++ b.bytes) pending

  via_fits : (o : Option PartialValue) (named : Option Unsigned) (pending : List ℕ) (n : ℕ) → IsThere o named pending n
      → NamedFits (via_of o named) lim
  via_fits None named pending n h = h.0
  via_fits (Some b) named pending n h = h.1

  -- a form that is named stands in an indirect value
  via_indirect : (o : Option PartialValue) (named : Option Unsigned) (pending : List ℕ) (n : ℕ)
      → IsThere o named pending n → (u : Unsigned) → via_of o named ≡ Some u → p.form.value ≡ 0x16
  via_indirect None named pending n h = h.1
  via_indirect (Some b) named pending n h = h.2.0.indirect

  -- where it isn't named, its number isn't whole
  unnamed : (o : Option PartialValue) (named : Option Unsigned) (pending : List ℕ) (n : ℕ) → IsThere o named pending n
      → via_of o named ≡ None → p.form.value ≡ 0x16 → (u : Unsigned) (rest : List ℕ) → NamedFits (Some u) lim
      → rest_of o pending n ≡ uleb.spell u ++ rest → ⊥
  unnamed None named pending n h none is u rest fits e =
      let fewer : FewerKeptIf (shape_of None) pending lim =
      subst (λ (v : Option Unsigned). FewerKeptIf (shape_of v) pending (lim_behind v lim)) none h.2 in
      whole_uleb u rest lim fits.0.0 fits.1
      (subst (λ (bs : List ℕ). length bs < leb_moment bs lim) e
      (fewer_unnamed k.address_size k.format p.form.value pending lim is fewer))
  unnamed (Some b) named pending n h none is u rest fits e = h.2.0.direct none is

  -- the same form is named
  same_via : (v w : Option Unsigned) (xs ys : List ℕ) → NamedFits v lim → NamedFits w lim
      → ((u : Unsigned) (rest : List ℕ) → v ≡ None → w ≡ Some u → xs ≡ uleb.spell u ++ rest → ⊥)
      → ((u : Unsigned) (rest : List ℕ) → w ≡ None → v ≡ Some u → ys ≡ uleb.spell u ++ rest → ⊥)
      → via_bytes v ++ xs ≡ via_bytes w ++ ys → (v ≡ w) × (xs ≡ ys)
  same_via None None xs ys f g first other e = (refl, e)
  same_via None (Some u) xs ys f g first other e = absurd (first u ys refl refl e)
  same_via (Some u) None xs ys f g first other e = absurd (other u xs refl refl (sym e))
  same_via (Some u) (Some w) xs ys f g first other e =
      let same = one_front uleb read_uleb uleb_decides u w xs ys f.0.0 g.0.0 e in
      (ap (λ (x : Unsigned). Some x) same.0, same.1)

  -- of a shape that is there what holds of the form's holds
  fewer_of : (v : Option Unsigned) (s : Shape) (pending : List ℕ) → shape_of v ≡ Some s
      → FewerKeptIf (shape_of v) pending (lim_behind v lim) → FewerKept s pending (lim_behind v lim)
  fewer_of v s pending has fewer = subst (λ (o : Option Shape). FewerKeptIf o pending (lim_behind v lim)) has fewer

  rest_is : (b : PartialValue) (s : Shape) (pending : List ℕ) (n : ℕ) → pending ≡ [] → shape_of b.via ≡ Some s
      → rest_of (Some b) pending n ≡ count_if k (Some s) b.width (length b.bytes + n) ++ b.bytes
  rest_is b s pending n none has =
      ap (λ (bs : List ℕ). (count_if k (shape_of b.via) b.width (length b.bytes + n) ++ b.bytes) ++ bs) none
      ∙ append-nil (count_if k (shape_of b.via) b.width (length b.bytes + n) ++ b.bytes)
      ∙ ap (λ (o : Option Shape). count_if k o b.width (length b.bytes + n) ++ b.bytes) has

  no_mixed : (named : Option Unsigned) (pending others : List ℕ) (b : PartialValue) (m n : ℕ)
      → IsThere None named pending m → IsThere (Some b) None others n → named ≡ b.via
      → pending ≡ rest_of (Some b) others n → ⊥
  no_mixed named pending others b m n h it same e =
      let is : IsPartialAs k p b = it.2.0 in
      let fewer : FewerKeptIf (shape_of b.via) pending (lim_behind b.via lim) =
      subst (λ (v : Option Unsigned). FewerKeptIf (shape_of v) pending (lim_behind v lim)) same h.2 in
      none_begun k (lim_behind b.via lim) is.shape_is pending b n (fewer_of b.via is.shape_is pending is.has fewer)
      it.2.1 (e ∙ rest_is b is.shape_is others n it.0 is.has)

  -- the same value is kept
  pub same_value : (o q : Option PartialValue) (v w : Option Unsigned) (xs ys : List ℕ) (m n : ℕ) → IsThere o v xs m
      → IsThere q w ys n → bytes_of o v xs m ≡ bytes_of q w ys n → (o ≡ q) × (xs ≡ ys)
  same_value o q v w xs ys m n h it e = by o q h it same.0 same.1
    where
      same : (via_of o v ≡ via_of q w) × (rest_of o xs m ≡ rest_of q ys n)
      same =
          same_via (via_of o v) (via_of q w) (rest_of o xs m) (rest_of q ys n) (via_fits o v xs m h)
          (via_fits q w ys n it)
          (λ u rest none some there.
          unnamed o v xs m h none (via_indirect q w ys n it u some) u rest
          (subst (λ (x : Option Unsigned). NamedFits x lim) some (via_fits q w ys n it)) there)
          (λ u rest none some there.
          unnamed q w ys n it none (via_indirect o v xs m h u some) u rest
          (subst (λ (x : Option Unsigned). NamedFits x lim) some (via_fits o v xs m h)) there)
          (sym (bytes_are o v xs m) ∙ e ∙ bytes_are q w ys n)

      by : (o q : Option PartialValue) → IsThere o v xs m → IsThere q w ys n → via_of o v ≡ via_of q w
          → rest_of o xs m ≡ rest_of q ys n → (o ≡ q) × (xs ≡ ys)
      by None None h it same rest = (refl, rest)
      by None (Some b) h it same rest = absurd (no_mixed v xs ys b m n h it same rest)
      by (Some a) None h it same rest = absurd (no_mixed w ys xs a n m it h (sym same) (sym rest))
      by (Some a) (Some b) h it same rest =
          let s : Shape = h.2.0.shape_is in
          let shapes_are : Some s ≡ Some it.2.0.shape_is = sym h.2.0.has ∙ ap shape_of same ∙ it.2.0.has in
          let s_is : s ≡ it.2.0.shape_is = cc in
          let incomplete : IsIncomplete s b.width b.bytes n (lim_behind a.via lim) =
          subst (λ (x : Option Unsigned). IsIncomplete s b.width b.bytes n (lim_behind x lim)) (sym same)
          (subst (λ (x : Shape). IsIncomplete x b.width b.bytes n (lim_behind b.via lim)) (sym s_is) it.2.1) in
          let c = same_content k (lim_behind a.via lim) s a b m n h.2.1 incomplete
          (sym (rest_is a s xs m h.0 h.2.0.has) ∙ rest ∙ rest_is b s ys n it.0 (sym (ap shape_of same) ∙ h.2.0.has)) in (
            ap (λ (x : PartialValue). Some x)
                (ap₂ (λ (x : Option Unsigned) (y : Option ℕ × List ℕ). record { via = x; width = y.0; bytes = y.1 })
                same
                (ap₂ (λ (y : Option ℕ) (z : List ℕ). (y, z)) c.0 c.1)),
            h.0 ∙ sym it.0,
          )

-- ---- of two feeds

-- what is there of the field at the place, in the words of its pair
is_there : (g : PartialUnit) (p : Pair) (ps : List Pair) (o : Option PartialValue) → ValuePart g (p ∷ ps) o
    → ValueWaits g o (p ∷ ps) → IsThere (context g) p ps (left g) o g.named g.pending g.to_come
is_there g p ps None h waits = (h.1, h.2, waits)
is_there g p ps (Some b) h waits = (h.1, h.2, h.3)

there_is : (g : PartialUnit) (p : Pair) (ps : List Pair) (r : UnfinishedEntry) → g.place.unfinished ≡ Some r
    → next_pairs g.table r ≡ p ∷ ps → (o : Option PartialValue) → r.partial ≡ o
    → part g ≡ bytes_of (context g) p ps (left g) o g.named g.pending g.to_come
there_is g p ps r is next None free =
    ap (λ (x : Option PartialValue). value_part g x ++ g.pending) (ap partial_in is ∙ free)
there_is g p ps r is next (Some b) some =
    ap (λ (x : Option PartialValue). value_part g x ++ g.pending) (ap partial_in is ∙ some)
    ∙ ap (λ (qs : List Pair). partial_taken (context g) qs g.to_come b ++ g.pending) (ap (pairs_left g.table) is ∙ next)

-- Two feeds of a unit at the same place, but for a partial value, where of the field the same bytes are there: the same
-- is kept.
pub same_kept : (g h : PartialUnit) → context g ≡ context h → g.table ≡ h.table → left g ≡ left h
    → option_map (given_partial None) g.place.unfinished ≡ option_map (given_partial None) h.place.unfinished
    → FieldPart g g.place.unfinished → FieldPart h h.place.unfinished → FieldWaits g g.place.unfinished
    → FieldWaits h h.place.unfinished → part g ≡ part h
    → (g.place.unfinished ≡ h.place.unfinished) × (g.pending ≡ h.pending)
same_kept g h k t l same a b wait other e = by g.place.unfinished h.place.unfinished refl refl same a b wait other
  where
    by_pairs : (r s : UnfinishedEntry) → g.place.unfinished ≡ Some r → h.place.unfinished ≡ Some s
        → given_partial None r ≡ given_partial None s → (qs : List Pair) → next_pairs g.table r ≡ qs
        → next_pairs h.table s ≡ qs
        → ValuePart g qs r.partial → ValuePart h qs s.partial → ValueWaits g r.partial qs → ValueWaits h s.partial qs
        → (r.partial ≡ s.partial) × (g.pending ≡ h.pending)
    by_pairs r s x y q [] m n a b wait other = absurd a
    by_pairs r s x y q (p ∷ ps) m n a b wait other =
        let there : IsThere (context g) p ps (left g) s.partial h.named h.pending h.to_come =
        subst (λ (c : Ctx). IsThere c p ps (left g) s.partial h.named h.pending h.to_come) (sym k)
        (subst (λ (c : ℕ). IsThere (context h) p ps c s.partial h.named h.pending h.to_come) (sym l)
        (is_there h p ps s.partial b other))
        in
        let bytes : part h ≡ bytes_of (context g) p ps (left g) s.partial h.named h.pending h.to_come =
        there_is h p ps s y n s.partial refl
        ∙ ap₂ (λ (c : Ctx) (d : ℕ). bytes_of c p ps d s.partial h.named h.pending h.to_come) (sym k) (sym l) in
        same_value (context g) p ps (left g) r.partial s.partial g.named h.named g.pending h.pending g.to_come h.to_come
        (is_there g p ps r.partial a wait) there (sym (there_is g p ps r x m r.partial refl) ∙ e ∙ bytes)

    by : (o q : Option UnfinishedEntry) → g.place.unfinished ≡ o → h.place.unfinished ≡ q
        → option_map (given_partial None) o ≡ option_map (given_partial None) q → FieldPart g o → FieldPart h q
        → FieldWaits g o → FieldWaits h q → (o ≡ q) × (g.pending ≡ h.pending)
    by None None x y same a b wait other = (refl, sym (code_is g x a.0) ∙ e ∙ code_is h y b.0)
      where
        code_is : (f : PartialUnit) → f.place.unfinished ≡ None → f.named ≡ None → part f ≡ f.pending
        code_is f free named =
            ap (λ (u : Option UnfinishedEntry). value_part f (partial_in u) ++ f.pending) free
            ∙ ap (λ (v : Option Unsigned). via_bytes v ++ f.pending) named
    by None (Some s) x y same a b wait other = absurd cc
    by (Some r) None x y same a b wait other = absurd cc
    by (Some r) (Some s) x y same a b wait other =
        let q : given_partial None r ≡ given_partial None s = cc in
        let pairs_are : next_pairs h.table s ≡ next_pairs g.table r =
        ap (λ (z : UnfinishedEntry). next_pairs h.table z) (sym q) ∙ ap (λ (z : Table). next_pairs z r) (sym t) in
        let c =
        by_pairs r s x y q (next_pairs g.table r) refl pairs_are a
        (subst (λ (qs : List Pair). ValuePart h qs s.partial) pairs_are b) wait
        (subst (ValueWaits h s.partial) pairs_are other) in (
          ap (λ (z : UnfinishedEntry). Some z)
              (ap₂ (λ (z : UnfinishedEntry) (u : Option PartialValue). given_partial u z) q c.0),
          c.1,
        )
