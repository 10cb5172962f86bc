-- A text or block that begins: what stands before its content is whole, and there is room for all of it.
use Rattle.std.proofs.Common.{◌≡◌, ◌≢◌, ◌+◌, ℕ, List, [], ◌∷◌, ◌++◌, length, Option, Some, None, refl, sym, ap, ap₂, subst, ◌∙◌, append-nil, arith}
use Rattle.std.specs.Prelude.{◌<◌, zero, suc, drop, option_map, slice_get, IsSome, IsSomeAnd}
use Rattle.dw_leb.specs.Number.{Unsigned, Signed}
use Rattle.dw_leb.specs.declared.order.Format.{Format}
use Rattle.dw_form.specs.declared.shape.Shape.{Shape}
use Rattle.dw_form.specs.declared.shape.Shape.TheVariants as shapes
use Rattle.dw_form.specs.Form.{shape}
use Rattle.dw_form.specs.Pieces.{form_in, via_bytes}
use Rattle.dw_abbrev.specs.Table.{Pair, declared}
use Rattle.dw_tree.specs.Tree.{declared_pairs}
use Rattle.dw_tree.specs.Place.{PartialValue, UnfinishedEntry}
use Rattle.dw_tree.specs.Steps.{partial_in, given_partial, next_pair, next_pairs}
use Rattle.dw_unit.specs.Draft.{Drafted, started}
use Rattle.dw_feed.specs.declared.step.Step.{Step}
use Rattle.dw_feed.specs.BodyFeed.{PartialUnit, count_if, partial_taken, value_part, part}
use Rattle.dw_feed.specs.BodyView.{coming}
use Rattle.dw_feed.specs.FeedInvariant.{Keeps, context, left}
use Rattle.dw_feed.specs.PartialValues.{shape_of_indirect, ComesInPieces, NamedFits, FewKept, FewKeptIf, FewerKeptIf, IsIncomplete, lim_behind}
use Rattle.dw_feed.specs.PlainFeed.{holding, held_keeps, keeps_held}
use Rattle.dw_feed.specs.FieldSteps.{ValuePart, FieldPart, HasPart, ValueWaits, FieldWaits, KeepsNoWhole, HasNextHere, HasNext, StepSays, step_same, same_left}
use Rattle.dw_leb.specs.declared.errors.Reason.TheVariants.{Truncated}
use Rattle.dw_leb.specs.Reader.{Broken}
use Rattle.dw_leb.specs.Moments.{IsCut}
use Rattle.dw_form.specs.Form.{ShapeFits}
use Rattle.dw_form.specs.ReadForm.{read_shaped_if, read_attribute}
use Rattle.dw_feed.specs.NamedValues.{constant_behind, value_cut}
use Rattle.dw_feed.specs.LengthFields.{HasLength, HasNoLength, length_opens, length_waits, length_fewer}
use Rattle.dw_feed.specs.ContentSteps.{PartialHere, here_has}

-- Of the value at the place, under this pair, the length field is all that is kept, or of a text nothing. There is room
-- for the content up to the unit's end, and there is some to come.
pub record IsOpening (g : PartialUnit) (p : Pair) (width : Option ℕ) (count : ℕ) : Type 0 where
  pub shape_is : Shape
  pub has : shape (form_in p.form.value g.named) (context g).address_size (context g).format ≡ Some shape_is
  pub begins : ComesInPieces shape_is width
  pub kept : g.pending ≡ count_if (context g) (Some shape_is) width count
  pub room : IsIncomplete shape_is width [] count (lim_behind g.named (left g))

-- the same of the pair at the place
abbrev pub OpensHere : PartialUnit → Option ℕ → ℕ → Type 0
OpensHere g width count = IsSomeAnd (next_pair g.table g.place.unfinished) (λ p. IsOpening g p width count)

-- the text or block stands in the unit, with no bytes of its content
abbrev pub begun_value : PartialUnit → Option ℕ → PartialValue
begun_value g width = record { via = g.named; width = width; bytes = [] }

abbrev pub opened : PartialUnit → Option ℕ → ℕ → PartialUnit
opened g width count = record {
  header = g.header;
  unit_length = g.unit_length;
  table = g.table;
  place =
      record {
        spot = g.place.spot;
        unfinished = option_map (given_partial (Some (begun_value g width))) g.place.unfinished;
      };
  padding = g.padding;
  named = None;
  to_come = count;
  pending = [];
}

-- one more byte is kept of a number or of a length field
abbrev pub with_byte : PartialUnit → ℕ → PartialUnit
with_byte g b =
    record {
      header = g.header;
      unit_length = g.unit_length;
      table = g.table;
      place = g.place;
      padding = g.padding;
      named = g.named;
      to_come = g.to_come;
      pending = g.pending ++ b ∷ [];
    }

-- the program's unit after it began one
pub opened_is : (g : PartialUnit) (d d1 : Drafted) (n : ℕ) (named : Option Unsigned) (to_come count : ℕ)
    (pending none_kept : List ℕ) (width : Option ℕ) → coming d n named to_come pending ≡ g → d1 ≡ started named width d
    → none_kept ≡ [] → coming d1 n None count none_kept ≡ opened g width count
opened_is g d d1 n named to_come count pending none_kept width e e1 e2 =
    ap₂ (λ (x : Drafted) (bs : List ℕ). coming x n None count bs) e1 e2
    ∙ ap (λ (u : PartialUnit). opened u width count) e

-- a value that names its form comes in no pieces
not_indirect : (address_size : ℕ) (format : Format) (form : ℕ) (s : Shape) (width : Option ℕ) → form ≡ 0x16
    → shape form address_size format ≡ Some s → ComesInPieces s width → ⊥
not_indirect address_size format form s width e h begins =
    let same : Some shapes.Indirect ≡ Some s =
    sym (shape_of_indirect address_size format) ∙ ap (λ (n : ℕ). shape n address_size format) (sym e) ∙ h in
    let i : shapes.Indirect ≡ s = cc in
    subst (λ (x : Shape). ComesInPieces x width) (sym i) begins

-- ---- a place where the next value may begin

pub record ValueHere (g : PartialUnit) : Type 0 where
  pub entry : UnfinishedEntry
  pub pair : Pair
  pub pairs : List Pair
  pub unfinished : g.place.unfinished ≡ Some entry
  pub none_partial : entry.partial ≡ None
  pub next : next_pairs g.table entry ≡ pair ∷ pairs
  pub pair_is : next_pair g.table g.place.unfinished ≡ Some pair
  pub none_to_come : g.to_come ≡ 0
  pub named_fits : NamedFits g.named (left g)
  pub indirect : (u : Unsigned) → g.named ≡ Some u → pair.form.value ≡ 0x16
  pub few_kept :
      FewKeptIf (shape (form_in pair.form.value g.named) (context g).address_size (context g).format) g.pending
      (lim_behind g.named (left g))

slice_first : (ps : List Pair) (n : ℕ) (p : Pair) (qs : List Pair) → drop n ps ≡ p ∷ qs → slice_get ps n ≡ Some p
slice_first [] zero p qs e = absurd cc
slice_first [] (suc n) p qs e = absurd cc
slice_first (x ∷ ps) zero p qs e = cc
slice_first (x ∷ ps) (suc n) p qs e = slice_first ps n p qs e

pub value_here : (g : PartialUnit) → HasPart g → IsSome (next_pair g.table g.place.unfinished)
    → partial_in g.place.unfinished ≡ None → ValueHere g
value_here g has some free = by g.place.unfinished refl has some free
  where
    by_pairs : (r : UnfinishedEntry) → g.place.unfinished ≡ Some r → r.partial ≡ None → (ps : List Pair)
        → next_pairs g.table r ≡ ps → ValuePart g ps None → ValueHere g
    by_pairs r same free [] next v = absurd v
    by_pairs r same free (p ∷ ps) next v = record {
      entry = r;
      pair = p;
      pairs = ps;
      unfinished = same;
      none_partial = free;
      next = next;
      pair_is =
          ap (next_pair g.table) same
          ∙ slice_first (declared_pairs (declared g.table r.code.value)) (length r.values) p ps next;
      none_to_come = v.0;
      named_fits = v.1;
      indirect = v.2;
      few_kept = v.3;
    }

    by : (o : Option UnfinishedEntry) → g.place.unfinished ≡ o → FieldPart g o → IsSome (next_pair g.table o)
        → partial_in o ≡ None → ValueHere g
    by None same v some free = absurd cc
    by (Some r) same v some free =
        by_pairs r same free (next_pairs g.table r) refl (subst (ValuePart g (next_pairs g.table r)) free v)

-- ---- it begins

module _ (g : PartialUnit) (width : Option ℕ) (count : ℕ) (h : ValueHere g)
    (opens : IsOpening g h.pair width count) where
  abbrev new : PartialUnit
  new = opened g width count

  next_value : HasNextHere g
  next_value =
      let n : HasNext g.table (Some h.entry) = omega (arith, ap length h.next) in
      subst (HasNext g.table) (sym h.unfinished) n

  same_place : holding g [] ≡ holding new []
  same_place =
      ap
      (λ (o : Option UnfinishedEntry).
      record {
        header = g.header;
        unit_length = g.unit_length;
        table = g.table;
        place = record { spot = g.place.spot; unfinished = o };
        padding = g.padding;
        named = None;
        to_come = 0;
        pending = [];
      })
      (by g.place.unfinished (Some (begun_value g width)))
    where
      by : (o : Option UnfinishedEntry) (q : Option PartialValue)
          → option_map (given_partial None) o ≡ option_map (given_partial None) (option_map (given_partial q) o)
      by None q = refl
      by (Some r) q = refl

  left_same : left g ≡ left new
  left_same = same_left g new same_place next_value

  pub opened_keeps : Keeps g → Keeps new
  opened_keeps keeps = keeps_held new [] (subst Keeps same_place (held_keeps g [] keeps))

  value_is : PartialHere new (begun_value g width)
  value_is = record {
    entry = given_partial (Some (begun_value g width)) h.entry;
    pair = h.pair;
    pairs = h.pairs;
    unfinished = ap (option_map (given_partial (Some (begun_value g width)))) h.unfinished;
    partial = refl;
    next = h.next;
    none_named = refl;
    none_pending = refl;
    via_fits = subst (NamedFits g.named) left_same h.named_fits;
    is = record {
      shape_is = opens.shape_is;
      has = opens.has;
      begins = opens.begins;
      direct =
          λ none i.
          not_indirect (context g).address_size (context g).format h.pair.form.value opens.shape_is width i
          (ap
          (λ (o : Option Unsigned).
          shape (form_in h.pair.form.value o) (context g).address_size (context g).format)
          (sym none)
          ∙ opens.has)
          opens.begins;
      indirect = h.indirect;
    };
  }

  pub opened_has : HasPart new
  unfolding value_is
  opened_has =
      here_has new (begun_value g width) value_is
      (subst (λ (lim : ℕ). IsIncomplete opens.shape_is width [] count (lim_behind g.named lim)) left_same opens.room)

  -- what was kept of the length field stands in the value now
  pub opened_part : part new ≡ part g
  opened_part =
      let k : Option Shape = shape (form_in h.pair.form.value g.named) (context g).address_size (context g).format in
      let none_more : 0 + count ≡ count = omega arith in
      let before : part g ≡ via_bytes g.named ++ g.pending =
      ap (λ (o : Option PartialValue). value_part g o ++ g.pending)
      (ap partial_in h.unfinished ∙ h.none_partial) in
      let now : part new ≡ (via_bytes g.named ++ (count_if (context g) k width (0 + count) ++ [])) ++ [] =
      ap
      (λ (o : Option UnfinishedEntry).
      value_part
      (record {
        header = g.header;
        unit_length = g.unit_length;
        table = g.table;
        place = record
            { spot = g.place.spot; unfinished = option_map (given_partial (Some (begun_value g width))) o };
        padding = g.padding;
        named = None;
        to_come = count;
        pending = [];
      })
      (partial_in (option_map (given_partial (Some (begun_value g width))) o))
      ++ [])
      h.unfinished
      ∙ ap (λ (ps : List Pair). partial_taken (context g) ps count (begun_value g width) ++ []) h.next in
      now
      ∙ append-nil (via_bytes g.named ++ (count_if (context g) k width (0 + count) ++ []))
      ∙ ap (λ (bs : List ℕ). via_bytes g.named ++ bs)
      (append-nil (count_if (context g) k width (0 + count))
      ∙ ap₂ (λ (o : Option Shape) (n : ℕ). count_if (context g) o width n) opens.has none_more ∙ sym opens.kept)
      ∙ sym before

  -- so a step in the value is one of the unit before
  pub opened_step : (bytes : List ℕ) (s : Step) (after : PartialUnit) → StepSays new (part new ++ bytes) s after
      → StepSays g (part g ++ bytes) s after
  opened_step bytes s after says =
      subst (λ (bs : List ℕ). StepSays g (bs ++ bytes) s after) opened_part
      (step_same g new same_place next_value (part new ++ bytes) s after says)

-- the pair that opens here is that of the place
pub opens_at : (g : PartialUnit) (width : Option ℕ) (count : ℕ) (h : ValueHere g) → OpensHere g width count
    → IsOpening g h.pair width count
opens_at g width count h opens =
    subst (λ (o : Option Pair). IsSomeAnd o (λ p. IsOpening g p width count)) h.pair_is opens

pub opens_some : (g : PartialUnit) (width : Option ℕ) (count : ℕ) → OpensHere g width count
    → IsSome (next_pair g.table g.place.unfinished)
opens_some g width count opens = by (next_pair g.table g.place.unfinished) opens
  where
    by : (o : Option Pair) → IsSomeAnd o (λ p. IsOpening g p width count) → IsSome o
    by None h = absurd h
    by (Some p) h = refl

-- ---- whether one begins here

module _ (g : PartialUnit) (h : ValueHere g) (named : h.pair.form.value ≡ 0x16 → IsSome g.named)
    (cut : read_attribute (context g) h.pair.form.value h.pair.constant (part g) (left g) ≡ Broken 0 Truncated) where
  abbrev form : ℕ
  form = form_in h.pair.form.value g.named

  abbrev constant : Option Signed
  constant = constant_behind g.named h.pair.constant

  abbrev lim : ℕ
  lim = lim_behind g.named (left g)

  shape_cut : (o : Option Shape) → shape form (context g).address_size (context g).format ≡ o
      → IsCut (read_shaped_if (context g) constant o g.pending lim)
  shape_cut o e =
      let there : part g ≡ via_bytes g.named ++ g.pending =
      ap (λ (q : Option PartialValue). value_part g q ++ g.pending)
      (ap partial_in h.unfinished ∙ h.none_partial) in
      let is_cut :
      IsCut
      (read_attribute (context g) h.pair.form.value h.pair.constant (via_bytes g.named ++ g.pending) (left g)) =
      subst (λ (bs : List ℕ). IsCut (read_attribute (context g) h.pair.form.value h.pair.constant bs (left g))) there
      (subst IsCut (sym cut) refl) in
      let direct : g.named ≡ None → h.pair.form.value ≢ 0x16 = λ none i. none_some (subst IsSome none (named i)) in
      subst (λ (x : Option Shape). IsCut (read_shaped_if (context g) constant x g.pending lim)) e
      (value_cut (context g) h.pair.form.value h.pair.constant g.pending (left g) g.named direct h.indirect
      h.named_fits is_cut)
    where
      none_some : IsSome {T = Unsigned} None → ⊥
      none_some i = cc

  few_kept : (s : Shape) → shape form (context g).address_size (context g).format ≡ Some s → FewKept s g.pending lim
  few_kept s e = subst (λ (o : Option Shape). FewKeptIf o g.pending lim) e h.few_kept

  pub known_here : shape form (context g).address_size (context g).format ≡ None → ⊥
  known_here e = let c = shape_cut None e in unknown c
    where
      unknown : IsCut (read_shaped_if (context g) constant None g.pending lim) → ⊥
      unknown c = cc

  opens_where : (s : Shape) → shape form (context g).address_size (context g).format ≡ Some s → (width : Option ℕ)
      (count : ℕ) → HasLength (context g).order s width count g.pending lim → IsOpening g h.pair width count
  opens_where s e width count has =
      let o = length_opens (context g) constant g.pending lim s width count (few_kept s e) has (shape_cut (Some s) e) in
      record { shape_is = s; has = e; begins = o.0; kept = o.1; room = o.2 }

  pub opens_here : (s : Shape) → shape form (context g).address_size (context g).format ≡ Some s → (width : Option ℕ)
      (count : ℕ) → HasLength (context g).order s width count g.pending lim → OpensHere g width count
  opens_here s e width count has =
      subst (λ (o : Option Pair). IsSomeAnd o (λ p. IsOpening g p width count)) (sym h.pair_is)
      (opens_where s e width count has)

  waits_where : (s : Shape) → shape form (context g).address_size (context g).format ≡ Some s → ShapeFits s
      → HasNoLength (context g).order s g.pending lim
      → (length g.pending < 16) × ((b : ℕ) → FewKept s (g.pending ++ b ∷ []) lim)
  waits_where s e fits none = length_waits (context g) constant g.pending lim s fits none (shape_cut (Some s) e)

  -- no length field is whole among the bytes that are kept
  pub keeps_no_length : (s : Shape) → shape form (context g).address_size (context g).format ≡ Some s
      → HasNoLength (context g).order s g.pending lim → KeepsNoWhole g
  keeps_no_length s e none =
      let fewer : FewerKeptIf (shape form (context g).address_size (context g).format) g.pending lim =
      subst (λ (o : Option Shape). FewerKeptIf o g.pending lim) (sym e)
      (length_fewer (context g) constant g.pending lim s none (shape_cut (Some s) e)) in
      subst (FieldWaits g) (sym h.unfinished)
      (subst (λ (o : Option PartialValue). ValueWaits g o (next_pairs g.table h.entry)) (sym h.none_partial)
      (subst (ValueWaits g None) (sym h.next) fewer))

  pub pending_room : (s : Shape) → shape form (context g).address_size (context g).format ≡ Some s → ShapeFits s
      → HasNoLength (context g).order s g.pending lim → length g.pending < 16
  pending_room s e fits none = (waits_where s e fits none).0

  pub byte_has : (s : Shape) → shape form (context g).address_size (context g).format ≡ Some s → ShapeFits s
      → HasNoLength (context g).order s g.pending lim → (b : ℕ) → HasPart (with_byte g b)
  byte_has s e fits none b =
      let few : FewKeptIf (shape form (context g).address_size (context g).format) (g.pending ++ b ∷ []) lim =
      subst (λ (o : Option Shape). FewKeptIf o (g.pending ++ b ∷ []) lim) (sym e)
      ((waits_where s e fits none).1 b) in
      let v : ValuePart (with_byte g b) (h.pair ∷ h.pairs) None = (h.none_to_come, h.named_fits, h.indirect, few) in
      let w : FieldPart (with_byte g b) (Some h.entry) =
      subst (λ (o : Option PartialValue). ValuePart (with_byte g b) (next_pairs g.table h.entry) o)
      (sym h.none_partial) (subst (λ (ps : List Pair). ValuePart (with_byte g b) ps None) (sym h.next) v) in
      subst (FieldPart (with_byte g b)) (sym h.unfinished) w
