-- A value at the place of a body feed: what an attempt to read it gives, what is kept of it, and the steps of the
-- functions that read it byte by byte.
use Rattle.std.proofs.Common.{◌≡◌, ◌≢◌, ℕ, suc, zero, ◌-◌, ◌<◌, ◌≤◌, List, [], ◌∷◌, ◌++◌, length, drop, slice_get, Option, Some, None, refl, sym, ap, subst, ◌∙◌, append_assoc, append-nil, arith, length-append, length-drop, inl, inr}
use Rattle.std.specs.Prelude.{◌==◌, ◌||◌}
use Rattle.std.proofs.lemmas.List.{drop_at, nil_from_length}
use Rattle.dw_leb.specs.declared.errors.Reason.{Reason}
use Rattle.dw_leb.specs.declared.errors.Reason.TheVariants.{Truncated, BadIndirect}
use Rattle.dw_leb.specs.Part.{Taken, judged}
use Rattle.dw_leb.specs.Number.{Unsigned, Signed, uleb}
use Rattle.dw_leb.specs.Reader.{Outcome, Found, Broken, behind, mapped, checked, at_front}
use Rattle.dw_leb.specs.ReadNumber.{read_uleb}
use Rattle.dw_leb.specs.DecideNumber.{uleb_decides}
use Rattle.dw_leb.specs.Moments.{IsCut, fewer_or_enough, refuses_where, checked_moment}
use Rattle.dw_leb.specs.NumberMoments.{leb_moment, uleb_has}
use Rattle.dw_form.specs.declared.shape.Ctx.{Ctx}
use Rattle.dw_form.specs.Form.{Attribute, shape, bad_inner}
use Rattle.dw_form.specs.ReadForm.{read_attribute, read_formed, indirect_from}
use Rattle.dw_form.specs.Pieces.{form_in, via_bytes}
use Rattle.dw_abbrev.specs.Table.{Table, Pair, declared}
use Rattle.dw_tree.specs.Tree.{Forest, none, more, declared_pairs}
use Rattle.dw_tree.specs.Place.{Frame, PartialValue, UnfinishedEntry}
use Rattle.dw_tree.specs.Steps.{partial_in, next_pair, next_pairs, value_at}
use Rattle.dw_unit.specs.Draft.{tree_in, given}
use Rattle.dw_feed.specs.declared.step.Attempt.{Attempt}
use Rattle.dw_feed.specs.declared.step.Attempt.TheVariants as attempts
use Rattle.dw_feed.specs.declared.step.Step.{Step}
use Rattle.dw_feed.specs.declared.step.Step.TheVariants as steps
use Rattle.dw_feed.specs.FieldPlace.{PaddingFits}
use Rattle.dw_feed.specs.BodyFeed.{PartialUnit, value_part, part}
use Rattle.dw_feed.specs.BodyView.{drafted}
use Rattle.dw_feed.specs.FieldReader.{PlaceBehind, read_value, read_field}
use Rattle.dw_feed.specs.FeedInvariant.{context, frames_of, chain_of, left, wanted, moved_to, Keeps}
use Rattle.dw_feed.specs.PlainFeed.{field_at, holding}
use Rattle.dw_feed.specs.FeedSteps.{cut_wants}
use Rattle.dw_feed.specs.PartialValues.{NamedFits, FewKeptIf, FewerKeptIf, lim_behind, none_kept, unnamed_kept, unnamed_few, unnamed_fewer}
use Rattle.dw_feed.specs.LengthFields.{one_more}
use Rattle.dw_feed.specs.FieldSteps.{Standing, ValuePart, FieldPart, ValueWaits, FieldWaits, KeepsNoWhole, HasPart, HasNextHere, FrontsWait, StepSays, keeps_stands, step_same, stop_found, stop_broken, wait_more}

-- ---- an attempt to read the value at the front of bytes

-- It is there, and the draft has it; or it is refused, and nothing was changed.
abbrev pub ValueSays : PartialUnit → Pair → List ℕ → Attempt → PartialUnit → Type 0
ValueSays g p bytes (attempts.Whole size) new =
    (q : PlaceBehind) × (field_at g bytes (left g) ≡ Found q size) × (size ≤ length bytes) × (new ≡ moved_to q.0 q.1 g)
ValueSays g p bytes (attempts.Broken reason) new =
    (read_attribute (context g) p.form.value p.constant bytes (left g) ≡ Broken 0 reason) × (new ≡ g)
ValueSays g p bytes attempts.NoMemory new = Unit {0}

-- the place behind a value
abbrev pub behind_value : PartialUnit → Attribute → PlaceBehind
behind_value g v = ((given v (drafted g)).place, g.padding)

-- ---- what is kept of a value

-- these bytes of a number or of a length field
abbrev pub keeping : PartialUnit → List ℕ → PartialUnit
keeping g bytes =
    record {
      header = g.header;
      unit_length = g.unit_length;
      table = g.table;
      place = g.place;
      padding = g.padding;
      named = g.named;
      to_come = g.to_come;
      pending = bytes;
    }

-- the form that an indirect value names, and no longer the bytes of its number
abbrev pub naming : PartialUnit → Unsigned → PartialUnit
naming g u =
    record {
      header = g.header;
      unit_length = g.unit_length;
      table = g.table;
      place = g.place;
      padding = g.padding;
      named = Some u;
      to_come = g.to_come;
      pending = drop u.width g.pending;
    }

-- ---- what is read of the value is the field

pairs_at : (ps : List Pair) (n : ℕ) (p : Pair) → slice_get ps n ≡ Some p → (qs : List Pair) × (drop n ps ≡ p ∷ qs)
pairs_at [] zero p e = absurd cc
pairs_at [] (suc n) p e = absurd cc
pairs_at (q ∷ ps) zero p e = let same : q ≡ p = cc in (ps, ap (λ (x : Pair). x ∷ ps) same)
pairs_at (q ∷ ps) (suc n) p e = pairs_at ps n p e

-- the pairs that are left, where the next one is there
next_of : (t : Table) (r : UnfinishedEntry) (p : Pair) → next_pair t (Some r) ≡ Some p
    → (qs : List Pair) × (next_pairs t r ≡ p ∷ qs)
next_of t r p e = pairs_at (declared_pairs (declared t r.code.value)) (length r.values) p e

-- no padding is behind an unfinished entry
bare : (k : Ctx) (t : Table) (fs : List Frame) (ts : Forest) (r : UnfinishedEntry) (ws : List ℕ)
    → PaddingFits k t fs ts (Some r) ws → ws ≡ []
bare k t fs ts r [] h = refl
bare k t [] none r (w ∷ ws) h = absurd h
bare k t [] (more x ts) r (w ∷ ws) h = absurd h
bare k t (f ∷ fs) ts r (w ∷ ws) h = absurd h

module _ (g : PartialUnit) (p : Pair) where
  read_by : (o : Option UnfinishedEntry) (ws : List ℕ) → PaddingFits (context g) g.table (frames_of g) (chain_of g) o ws
      → next_pair g.table o ≡ Some p → (bytes : List ℕ) (out : Outcome Attribute)
      → read_attribute (context g) p.form.value p.constant bytes (left g) ≡ out
      → read_field (context g) g.table (frames_of g) (chain_of g) o ws bytes (left g)
      ≡ mapped (λ v. ((value_at v (tree_in (drafted g)) o).place, ws)) out
  read_by None ws h next bytes out e = absurd cc
  read_by (Some r) ws h next bytes out e =
      let is = next_of g.table r p next in
      subst
      (λ (xs : List ℕ).
      read_value (context g) g.table (frames_of g) (chain_of g) r (next_pairs g.table r) bytes (left g)
      ≡ mapped (λ v. ((value_at v (tree_in (drafted g)) (Some r)).place, xs)) out)
      (sym (bare (context g) g.table (frames_of g) (chain_of g) r ws h))
      (ap (λ (qs : List Pair). read_value (context g) g.table (frames_of g) (chain_of g) r qs bytes (left g)) is.1
      ∙ ap (mapped (λ v. ((value_at v (tree_in (drafted g)) (Some r)).place, []))) e)

  module _ (stands : Standing g) (next : next_pair g.table g.place.unfinished ≡ Some p) where
    pub value_read : (bytes : List ℕ) (out : Outcome Attribute)
        → read_attribute (context g) p.form.value p.constant bytes (left g) ≡ out
        → field_at g bytes (left g) ≡ mapped (behind_value g) out
    value_read bytes out e = read_by g.place.unfinished g.padding stands.stands.padding_fits next bytes out e

    -- one that is refused
    pub value_refused : (bytes rest : List ℕ) → FrontsWait g bytes → (reason : Reason) → reason ≢ Truncated
        → read_attribute (context g) p.form.value p.constant bytes (left g) ≡ Broken 0 reason
        → (new : PartialUnit) → StepSays g (bytes ++ rest) (steps.Refused (length rest) reason) new
    value_refused bytes rest wait reason ne e new =
        let f = stop_broken g bytes rest wait 0 reason (value_read bytes (Broken 0 reason) e) ne in
        (0, f.0, ne, omega (arith, f.1, length-append bytes rest))

    -- one that is cut off wants more
    pub value_short : (bytes : List ℕ)
        → read_attribute (context g) p.form.value p.constant bytes (left g) ≡ Broken 0 Truncated
        → length bytes < wanted g bytes
    value_short bytes e = cut_wants g bytes 0 (value_read bytes (Broken 0 Truncated) e)

  -- one that is whole
  pub value_whole : (bytes rest : List ℕ) → FrontsWait g bytes → (size : ℕ) (new : PartialUnit)
      → ValueSays g p bytes (attempts.Whole size) new → StepSays g (bytes ++ rest) (steps.Found (length rest)) new
  value_whole bytes rest wait size new h =
      let f = stop_found g bytes rest wait h.0 size h.1 in
      (h.0, size, f.0, omega (arith, f.1, length-append bytes rest), h.3)

-- ---- the form that an indirect value names

-- where it is refused the value is
form_broken : (k : Ctx) (c : Option Signed) (bytes : List ℕ) (lim : ℕ) (reason : Reason)
    → checked read_uleb bad_inner bytes lim ≡ Broken 0 reason → read_attribute k 0x16 c bytes lim ≡ Broken 0 reason
unfolding read_attribute
form_broken k c bytes lim reason e =
    ap
    (λ (o : Outcome Unsigned).
    at_front (mapped indirect_from (behind o (λ form. read_formed k None form.value) bytes lim)))
    e

pub form_refused : (k : Ctx) (p : Pair) → p.form.value ≡ 0x16 → (bytes : List ℕ) (lim : ℕ) (reason : Reason)
    → checked read_uleb bad_inner bytes lim ≡ Broken 0 reason
    → read_attribute k p.form.value p.constant bytes lim ≡ Broken 0 reason
form_refused k p is bytes lim reason e =
    ap (λ (form : ℕ). read_attribute k form p.constant bytes lim) is ∙ form_broken k p.constant bytes lim reason e

-- ---- what is there of a value of which no text or block has begun

pub part_free : (g : PartialUnit) → partial_in g.place.unfinished ≡ None → part g ≡ via_bytes g.named ++ g.pending
part_free g between = ap (λ (o : Option PartialValue). value_part g o ++ g.pending) between

module _ (g : PartialUnit) (between : partial_in g.place.unfinished ≡ None) where
  pub keeping_part : (x : ℕ) → part (keeping g (g.pending ++ x ∷ [])) ≡ part g ++ x ∷ []
  keeping_part x =
      part_free (keeping g (g.pending ++ x ∷ [])) between
      ∙ sym (append_assoc (via_bytes g.named) g.pending (x ∷ []))
      ∙ ap (λ (bs : List ℕ). bs ++ x ∷ []) (sym (part_free g between))

  pub naming_part : g.named ≡ None → (u : Unsigned) (lim : ℕ) → Taken (judged uleb bad_inner) g.pending lim u u.width
      → part (naming g u) ≡ part g
  naming_part unnamed u lim taken =
      part_free (naming g u) between
      ∙ ap (λ (bs : List ℕ). uleb.spell u ++ bs)
      (ap (drop u.width) taken.split ∙ drop_at (uleb.spell u) taken.rest u.width taken.is_size)
      ∙ sym taken.split
      ∙ ap (λ (o : Option Unsigned). via_bytes o ++ g.pending) (sym unnamed)
      ∙ sym (part_free g between)

  -- of an indirect value whose form isn't named yet bytes of its number are kept
  pub form_kept : (p : Pair) → next_pair g.table g.place.unfinished ≡ Some p → p.form.value ≡ 0x16 → g.named ≡ None
      → (bytes : List ℕ) → length bytes ≤ leb_moment bytes (left g) → HasPart g → HasPart (keeping g bytes)
  form_kept p next is unnamed bytes few has = by g.place.unfinished next between has
    where
      kept : (q : Pair) → q ≡ p
          → FewKeptIf (shape (form_in q.form.value g.named) (context g).address_size (context g).format) bytes
          (lim_behind g.named (left g))
      kept q first =
          subst
          (λ (o : Option Unsigned).
          FewKeptIf (shape (form_in q.form.value o) (context g).address_size (context g).format) bytes
          (lim_behind o (left g)))
          (sym unnamed)
          (unnamed_kept (context g).address_size (context g).format q.form.value bytes (left g)
          (ap (λ (x : Pair). x.form.value) first ∙ is) few)

      value : (ps qs : List Pair) (o : Option PartialValue) → ps ≡ p ∷ qs → o ≡ None → ValuePart g ps o
          → ValuePart (keeping g bytes) ps o
      value [] qs o same none_there h = absurd h
      value (q ∷ ps) qs None same none_there h = let first : q ≡ p = cc in (h.0, h.1, h.2, kept q first)
      value (q ∷ ps) qs (Some b) same none_there h = absurd cc

      by : (o : Option UnfinishedEntry) → next_pair g.table o ≡ Some p → partial_in o ≡ None → FieldPart g o
          → FieldPart (keeping g bytes) o
      by None e none_there h = absurd cc
      by (Some r) e none_there h =
          let is_next = next_of g.table r p e in value (next_pairs g.table r) is_next.0 r.partial is_next.1 none_there h

  -- where that number isn't whole, nothing whole is kept
  pub form_waits : (p : Pair) → next_pair g.table g.place.unfinished ≡ Some p → p.form.value ≡ 0x16 → g.named ≡ None
      → length g.pending < leb_moment g.pending (left g) → KeepsNoWhole g
  form_waits p next is unnamed fewer = by g.place.unfinished next
    where
      value : (ps qs : List Pair) (o : Option PartialValue) → ps ≡ p ∷ qs → ValueWaits g o ps
      value ps qs (Some b) same = tt
      value [] qs None same = tt
      value (q ∷ ps) qs None same =
          let first : q ≡ p = cc in
          subst
          (λ (o : Option Unsigned).
          FewerKeptIf (shape (form_in q.form.value o) (context g).address_size (context g).format) g.pending
          (lim_behind o (left g)))
          (sym unnamed)
          (unnamed_fewer (context g).address_size (context g).format q.form.value g.pending (left g)
          (ap (λ (x : Pair). x.form.value) first ∙ is) fewer)

      by : (o : Option UnfinishedEntry) → next_pair g.table o ≡ Some p → FieldWaits g o
      by None e = tt
      by (Some r) e = let is_next = next_of g.table r p e in value (next_pairs g.table r) is_next.0 r.partial is_next.1

  -- and no others
  pub form_few : (p : Pair) → next_pair g.table g.place.unfinished ≡ Some p → p.form.value ≡ 0x16 → g.named ≡ None
      → HasPart g → length g.pending ≤ leb_moment g.pending (left g)
  form_few p next is unnamed has = by g.place.unfinished next between has
    where
      value : (ps qs : List Pair) (o : Option PartialValue) → ps ≡ p ∷ qs → o ≡ None → ValuePart g ps o
          → length g.pending ≤ leb_moment g.pending (left g)
      value [] qs o same none_there h = absurd h
      value (q ∷ ps) qs None same none_there h =
          let first : q ≡ p = cc in
          unnamed_few (context g).address_size (context g).format q.form.value g.pending (left g)
          (ap (λ (x : Pair). x.form.value) first ∙ is)
          (subst
          (λ (o : Option Unsigned).
          FewKeptIf (shape (form_in q.form.value o) (context g).address_size (context g).format) g.pending
          (lim_behind o (left g)))
          unnamed h.3)
      value (q ∷ ps) qs (Some b) same none_there h = absurd cc

      by : (o : Option UnfinishedEntry) → next_pair g.table o ≡ Some p → partial_in o ≡ None → FieldPart g o
          → length g.pending ≤ leb_moment g.pending (left g)
      by None e none_there h = absurd cc
      by (Some r) e none_there h =
          let is_next = next_of g.table r p e in value (next_pairs g.table r) is_next.0 r.partial is_next.1 none_there h

  pub has_named : (p : Pair) → next_pair g.table g.place.unfinished ≡ Some p → p.form.value ≡ 0x16 → (u : Unsigned)
      → NamedFits (Some u) (left g) → drop u.width g.pending ≡ [] → HasPart g → HasPart (naming g u)
  has_named p next is u fits none_behind has = by g.place.unfinished next between has
    where
      value : (ps qs : List Pair) (o : Option PartialValue) → ps ≡ p ∷ qs → o ≡ None → ValuePart g ps o
          → ValuePart (naming g u) ps o
      value [] qs o same none_there h = absurd h
      value (q ∷ ps) qs None same none_there h =
          let first : q ≡ p = cc in
          let few :
          FewKeptIf (shape u.value (context g).address_size (context g).format) (drop u.width g.pending)
          (left g - u.width) =
          subst
          (λ (bs : List ℕ).
          FewKeptIf (shape u.value (context g).address_size (context g).format) bs (left g - u.width))
          (sym none_behind) (none_kept (shape u.value (context g).address_size (context g).format) (left g - u.width))
          in
          (h.0, fits, λ _ _. ap (λ (x : Pair). x.form.value) first ∙ is, few)
      value (q ∷ ps) qs (Some b) same none_there h = absurd cc

      by : (o : Option UnfinishedEntry) → next_pair g.table o ≡ Some p → partial_in o ≡ None → FieldPart g o
          → FieldPart (naming g u) o
      by None e none_there h = absurd cc
      by (Some r) e none_there h =
          let is_next = next_of g.table r p e in value (next_pairs g.table r) is_next.0 r.partial is_next.1 none_there h

-- nothing is behind the number of a form
form_ends : (bytes : List ℕ) (u : Unsigned) (lim : ℕ) → length bytes ≤ leb_moment bytes lim
    → Taken (judged uleb bad_inner) bytes lim u u.width → drop u.width bytes ≡ []
form_ends bytes u lim few taken =
    let read : read_uleb bytes lim ≡ Found u (length (uleb.spell u)) =
    ap (λ (bs : List ℕ). read_uleb bs lim) taken.split
    ∙ uleb_decides.takes u taken.rest lim taken.fits.0 (omega (arith, taken.is_size, taken.within)) in
    let moment : leb_moment bytes lim ≡ length (uleb.spell u) =
    uleb_has.whole bytes lim u (length (uleb.spell u)) read in
    nil_from_length (drop u.width bytes) (omega (arith, length-drop u.width bytes, few, moment, taken.is_size))

-- a number of a form that is cut off wants more
pub form_short : (bytes : List ℕ) (lim : ℕ) → checked read_uleb bad_inner bytes lim ≡ Broken 0 Truncated
    → length bytes < leb_moment bytes lim
form_short bytes lim e = elim (fewer_or_enough (length bytes) (leb_moment bytes lim)) [
  | inl short ↦ short
  | inr enough ↦ absurd
      ((checked_moment read_uleb bad_inner
      (λ u. refuses_where (u.value == 0x16 || u.value == 0x21) BadIndirect (λ q. cc)) leb_moment uleb_has).stands
      bytes lim enough (subst IsCut (sym e) refl))
]

pub form_more : (k : Ctx) (bytes : List ℕ) (lim : ℕ) → checked read_uleb bad_inner bytes lim ≡ Broken 0 Truncated
    → (b : ℕ) → length (bytes ++ b ∷ []) ≤ leb_moment (bytes ++ b ∷ []) lim
form_more k bytes lim e b = one_more k None bytes lim b (form_short bytes lim e)

-- ---- a loop over the bytes of a value

-- Where a call is in the value at its place, that began with g0 and the bytes b: what is there of the value, and what
-- is left of the bytes.
pub record InValue (g0 : PartialUnit) (b : List ℕ) (p : Pair) (g : PartialUnit) (rest : List ℕ) : Type 0 where
  pub first : HasNextHere g0
  pub same : holding g0 [] ≡ holding g []
  pub all : part g ++ rest ≡ part g0 ++ b
  pub next : next_pair g.table g.place.unfinished ≡ Some p
  pub between : partial_in g.place.unfinished ≡ None
  pub keeps : Keeps g
  pub has : HasPart g
  pub waits : FrontsWait g (part g)

module _ (g0 : PartialUnit) (b : List ℕ) (p : Pair) (g : PartialUnit) (rest : List ℕ) (i : InValue g0 b p g rest) where
  -- a step there is one of the call
  pub value_step : (s : Step) (new : PartialUnit) → StepSays g (part g ++ rest) s new → StepSays g0 (part g0 ++ b) s new
  value_step s new h =
      subst (λ (bs : List ℕ). StepSays g0 bs s new) i.all (step_same g0 g i.same i.first (part g ++ rest) s new h)

  -- all bytes are kept, and the value wants more
  pub value_wants : rest ≡ []
      → read_attribute (context g) p.form.value p.constant (part g) (left g) ≡ Broken 0 Truncated → KeepsNoWhole g
      → StepSays g0 (part g0 ++ b) steps.Wanting g
  value_wants none_left e none_whole =
      let all : part g ≡ part g ++ rest =
      sym (append-nil (part g)) ∙ ap (λ (bs : List ℕ). part g ++ bs) (sym none_left) in
      value_step steps.Wanting g
      (subst (λ (bs : List ℕ). StepSays g bs steps.Wanting g) all
      (refl, refl, value_short g p (keeps_stands g i.keeps) i.next (part g) e, (i.has, none_whole)))

  -- one more byte is kept
  pub value_goes_on : (x : ℕ) (others : List ℕ) → rest ≡ x ∷ others
      → read_attribute (context g) p.form.value p.constant (part g) (left g) ≡ Broken 0 Truncated
      → HasPart (keeping g (g.pending ++ x ∷ [])) → InValue g0 b p (keeping g (g.pending ++ x ∷ [])) others
  value_goes_on x others is e has =
      let kept : part (keeping g (g.pending ++ x ∷ [])) ≡ part g ++ x ∷ [] = keeping_part g i.between x in
      record {
        first = i.first;
        same = i.same;
        all =
            ap (λ (bs : List ℕ). bs ++ others) kept ∙ append_assoc (part g) (x ∷ []) others
            ∙ ap (λ (bs : List ℕ). part g ++ bs) (sym is) ∙ i.all;
        next = i.next;
        between = i.between;
        keeps =
            record {
              head = i.keeps.head;
              stands = i.keeps.stands;
              within = i.keeps.within;
              unended = i.keeps.unended;
              first = i.keeps.first;
            };
        has = has;
        waits =
            subst (FrontsWait g) (sym kept)
            (wait_more g (part g) x (value_short g p (keeps_stands g i.keeps) i.next (part g) e));
      }

  -- the form that an indirect value names is whole
  pub value_named : p.form.value ≡ 0x16 → g.named ≡ None → (u : Unsigned) (lim : ℕ) → lim ≡ left g
      → Taken (judged uleb bad_inner) g.pending lim u u.width → InValue g0 b p (naming g u) rest
  value_named is unnamed u lim l taken =
      let same : part (naming g u) ≡ part g = naming_part g i.between unnamed u lim taken in
      record {
        first = i.first;
        same = i.same;
        all = ap (λ (bs : List ℕ). bs ++ rest) same ∙ i.all;
        next = i.next;
        between = i.between;
        keeps =
            record {
              head = i.keeps.head;
              stands = i.keeps.stands;
              within = i.keeps.within;
              unended = i.keeps.unended;
              first = i.keeps.first;
            };
        has =
            has_named g i.between p i.next is u (taken.fits, omega (arith, taken.within, l))
            (form_ends g.pending u (left g) (form_few g i.between p i.next is unnamed i.has)
            (subst (λ (m : ℕ). Taken (judged uleb bad_inner) g.pending m u u.width) l taken))
            i.has;
        waits = subst (FrontsWait g) (sym same) i.waits;
      }
