-- A feed in the middle of a text or block: it takes more of the content, and with the last of it the value is found.
use Rattle.std.proofs.Common.{◌≡◌, ◌⊎◌, ℕ, ◌+◌, ◌-◌, ◌^◌, ◌<◌, ◌≤◌, min, false, List, [], ◌∷◌, ◌++◌, length, take, Option, Some, None, refl, sym, ap, ap₂, subst, ◌∙◌, append_assoc, append-nil, arith, length-append, take_all, inl, inr}
use Rattle.std.specs.Prelude.{◌==◌, option_map, IsSome, IfSome}
use Rattle.std.specs.List.{AllByRecursion}
use Rattle.std.proofs.lemmas.Bool.{eqb-false, eq-eqb, ne_eqb}
use Rattle.dw_leb.specs.Number.{Unsigned, Signed, uleb, fixed_bytes}
use Rattle.dw_leb.specs.NumberMoments.{is_zero, text_faults}
use Rattle.dw_leb.specs.declared.errors.Reason.TheVariants.{PastUnit}
use Rattle.dw_leb.specs.Reader.{Broken}
use Rattle.dw_leb.specs.DecideNumber.{length-uleb}
use Rattle.dw_leb.specs.Digits.{length-fixed}
use Rattle.dw_form.specs.declared.shape.Ctx.{Ctx}
use Rattle.dw_form.specs.declared.shape.Shape.{Shape}
use Rattle.dw_form.specs.declared.shape.Shape.TheVariants as shapes
use Rattle.dw_form.specs.Form.{shape, shaped, shaped_if, by_indirection, attribute, Attribute}
use Rattle.dw_form.specs.FormMoments.{attribute_moment, shaped_moment_if, named_wants, plain_wants}
use Rattle.dw_form.specs.Pieces.{form_in, via_bytes}
use Rattle.dw_form.specs.StoredView.{text_or_block}
use Rattle.dw_abbrev.specs.Table.{Pair}
use Rattle.dw_tree.specs.Tree.{Forest, none, more}
use Rattle.dw_tree.specs.Place.{Frame, PartialValue, UnfinishedEntry, Place}
use Rattle.dw_tree.specs.Steps.{partial_in, given_partial, longer, partial_attribute, next_pairs, first_bytes, FirstFits, next_bytes, NextFits, ended_by, value_at, settle}
use Rattle.dw_unit.specs.Draft.{Drafted, tree_in, ended, extended, passes_limit, partial_of, value_bytes, PartialFits, PartialShort}
use Rattle.dw_feed.specs.FieldPlace.{PaddingFits}
use Rattle.dw_feed.specs.BodyView.{coming, drafted}
use Rattle.dw_feed.specs.BodyFeed.{PartialUnit, count_if, partial_taken, part}
use Rattle.dw_feed.specs.FeedInvariant.{Keeps, context, frames_of, chain_of, left, wanted, moved_to}
use Rattle.dw_feed.specs.PartialValues.{ComesInPieces, IsPartialAs, NamedFits, IsIncomplete, lim_behind, ending, ended_bytes}
use Rattle.dw_feed.specs.PartialSteps.{taking, taking_stays, part_is, taking_part, partial_waits, partial_found}
use Rattle.dw_feed.specs.FieldOutcomes.{value_broken}
use Rattle.dw_feed.specs.FieldReader.{read_field}
use Rattle.dw_feed.specs.NextField.{next_moment, next_value_moment}
use Rattle.dw_feed.specs.PlainFeed.{field_at, held_keeps, keeps_held}
use Rattle.dw_feed.specs.FieldSteps.{Standing, keeps_stands, ValuePart, FieldPart, ValueWaits, FieldWaits, KeepsNoWhole, HasPart, HasNext, HasNextHere, StepSays, same_left, same_wants, step_same, has_moment}
use Rattle.dw_feed.specs.declared.step.Step.TheVariants as steps

-- how many bytes there are for more of a text, where one has begun
abbrev pub room_by_width : ℕ → Option ℕ → Option ℕ
room_by_width room None = Some room
room_by_width room (Some width) = None

abbrev pub room_of_text : ℕ → Option PartialValue → Option ℕ
room_of_text lim None = None
room_of_text lim (Some b) = room_by_width (lim_behind b.via lim - length b.bytes) b.width

-- no zero is among these bytes
abbrev pub HasNoZero : List ℕ → Type 0
HasNoZero bytes = AllByRecursion (λ b. is_zero b ≡ false) bytes

-- where the first zero is, if there is one
abbrev pub ZeroIn : List ℕ → Option ℕ → Type 0
ZeroIn bytes None = HasNoZero bytes
ZeroIn bytes (Some n) = HasNoZero (take n bytes) × (rest : List ℕ) × (bytes ≡ take n bytes ++ (0 ∷ rest))

-- ---- a text or block that stands at the place

pub record PartialHere (g : PartialUnit) (b : PartialValue) : Type 0 where
  pub entry : UnfinishedEntry
  pub pair : Pair
  pub pairs : List Pair
  pub unfinished : g.place.unfinished ≡ Some entry
  pub partial : entry.partial ≡ Some b
  pub next : next_pairs g.table entry ≡ pair ∷ pairs
  pub none_named : g.named ≡ None
  pub none_pending : g.pending ≡ []
  pub via_fits : NamedFits b.via (left g)
  pub is : IsPartialAs (context g) pair b

-- it isn't whole
abbrev pub IsShort : (g : PartialUnit) (b : PartialValue) → PartialHere g b → Type 0
IsShort g b h = IsIncomplete h.is.shape_is b.width b.bytes g.to_come (lim_behind b.via (left g))

pub partial_here : (g : PartialUnit) → HasPart g → (b : PartialValue) → partial_in g.place.unfinished ≡ Some b
    → (h : PartialHere g b) × IsShort g b h
partial_here g has b e = by g.place.unfinished refl has e
  where
    by_pairs : (r : UnfinishedEntry) → g.place.unfinished ≡ Some r → r.partial ≡ Some b → (ps : List Pair)
        → next_pairs g.table r ≡ ps → ValuePart g ps (Some b) → (h : PartialHere g b) × IsShort g b h
    by_pairs r unfinished partial [] next v = absurd v
    by_pairs r unfinished partial (p ∷ ps) next v = (
      record {
        entry = r;
        pair = p;
        pairs = ps;
        unfinished = unfinished;
        partial = partial;
        next = next;
        none_named = v.0;
        none_pending = v.1;
        via_fits = v.2;
        is = v.3.0;
      },
      v.3.1,
    )

    by : (o : Option UnfinishedEntry) → g.place.unfinished ≡ o → FieldPart g o → partial_in o ≡ Some b
        → (h : PartialHere g b) × IsShort g b h
    by None same v e = absurd cc
    by (Some r) same v e =
        by_pairs r same e (next_pairs g.table r) refl (subst (ValuePart g (next_pairs g.table r)) e v)

pub here_has : (g : PartialUnit) (b : PartialValue) (h : PartialHere g b) → IsShort g b h → HasPart g
here_has g b h short =
    let v : ValuePart g (h.pair ∷ h.pairs) (Some b) = (h.none_named, h.none_pending, h.via_fits, (h.is, short)) in
    let w : FieldPart g (Some h.entry) =
    subst (λ (o : Option PartialValue). ValuePart g (next_pairs g.table h.entry) o) (sym h.partial)
    (subst (λ (ps : List Pair). ValuePart g ps (Some b)) (sym h.next) v) in
    subst (FieldPart g) (sym h.unfinished) w

-- its length field stands in it
pub here_waits : (g : PartialUnit) (b : PartialValue) → PartialHere g b → KeepsNoWhole g
here_waits g b h =
    subst (FieldWaits g) (sym h.unfinished)
    (subst (λ (o : Option PartialValue). ValueWaits g o (next_pairs g.table h.entry)) (sym h.partial) tt)

-- ---- more of its bytes are taken

module _ (g : PartialUnit) (b : PartialValue) (h : PartialHere g b) (bytes : List ℕ) where
  next_is : HasNextHere g
  next_is =
      let n : HasNext g.table (Some h.entry) = omega (arith, ap length h.next) in
      subst (HasNext g.table) (sym h.unfinished) n

  pub left_is : left g ≡ left (taking g bytes)
  left_is = same_left g (taking g bytes) (taking_stays g bytes) next_is

  abbrev pub more_here : PartialHere (taking g bytes) (longer bytes b)
  more_here = record {
    entry = given_partial (Some (longer bytes b)) h.entry;
    pair = h.pair;
    pairs = h.pairs;
    unfinished =
        ap (λ (o : Option UnfinishedEntry). option_map (given_partial (option_map (longer bytes) (partial_in o))) o)
        h.unfinished
        ∙ ap (λ (q : Option PartialValue). Some (given_partial (option_map (longer bytes) q) h.entry)) h.partial;
    partial = refl;
    next = h.next;
    none_named = h.none_named;
    none_pending = h.none_pending;
    via_fits = subst (NamedFits b.via) left_is h.via_fits;
    is =
        record {
          shape_is = h.is.shape_is;
          has = h.is.has;
          begins = h.is.begins;
          direct = h.is.direct;
          indirect = h.is.indirect;
        };
  }

  pub more_keeps : Keeps g → Keeps (taking g bytes)
  more_keeps keeps = keeps_held (taking g bytes) [] (subst Keeps (taking_stays g bytes) (held_keeps g [] keeps))

  -- it isn't whole with them: the feed waits in it
  pub more_waits : (b.width ≡ None) ⊎ (length bytes ≤ g.to_come) → IsShort (taking g bytes) (longer bytes b) more_here
      → StepSays g (part g ++ bytes) steps.Wanting (taking g bytes)
  more_waits few short =
      let all : part (taking g bytes) ≡ part g ++ bytes =
      taking_part g h.entry b h.pair h.pairs h.unfinished h.partial h.next h.none_pending bytes few in
      let m = more_here in
      let wait =
      partial_waits (taking g bytes) m.entry (longer bytes b) m.pair m.pairs m.unfinished m.partial m.next
      m.none_pending m.is m.via_fits short in (
        taking_stays g bytes,
        all,
        omega (
          arith,
          wait,
          ap length all,
          ap (wanted (taking g bytes)) all,
          same_wants g (taking g bytes) (taking_stays g bytes) next_is (part g ++ bytes),
        ),
        (here_has (taking g bytes) (longer bytes b) m short, here_waits (taking g bytes) (longer bytes b) m),
      )

-- ---- what is short of the whole

-- of a block fewer bytes than are to come
pub block_short : (s : Shape) (width : Option ℕ) (bytes xs : List ℕ) (to_come lim lim' : ℕ) → lim ≡ lim'
    → IsIncomplete s width bytes to_come lim → length xs < to_come
    → IsIncomplete s width (bytes ++ xs) (to_come - length xs) lim'
block_short shapes.Text None bytes xs to_come lim lim' e h short = absurd (omega (arith, h.2, short))
block_short (shapes.Counted n) (Some width) bytes xs to_come lim lim' e h short =
    let c : length bytes + to_come ≡ length (bytes ++ xs) + (to_come - length xs) =
    omega (arith, length-append bytes xs, short) in
    (h.0, subst (λ (m : ℕ). m < 256 ^ n) c h.1, omega (arith, c, h.2, e), omega (arith, short))
block_short shapes.CountedUleb (Some width) bytes xs to_come lim lim' e h short =
    let c : length bytes + to_come ≡ length (bytes ++ xs) + (to_come - length xs) =
    omega (arith, length-append bytes xs, short) in (
      subst (λ (m : ℕ). uleb.Fits (record { value = m; width = width })) c h.0,
      omega (arith, c, h.1, e),
      omega (arith, short),
    )
block_short shapes.Text (Some width) bytes xs to_come lim lim' e h short = absurd h
block_short (shapes.Counted n) None bytes xs to_come lim lim' e h short = absurd h
block_short shapes.CountedUleb None bytes xs to_come lim lim' e h short = absurd h
block_short (shapes.Fixed n) o bytes xs to_come lim lim' e h short = absurd h
block_short shapes.Uleb o bytes xs to_come lim lim' e h short = absurd h
block_short shapes.Sleb o bytes xs to_come lim lim' e h short = absurd h
block_short shapes.Present o bytes xs to_come lim lim' e h short = absurd h
block_short shapes.Implicit o bytes xs to_come lim lim' e h short = absurd h
block_short shapes.Indirect o bytes xs to_come lim lim' e h short = absurd h

-- ---- with all of its bytes

-- a text without a zero, or a block with as many bytes as its length field counts, within lim
abbrev pub IsAll : Shape → Option ℕ → List ℕ → ℕ → Type 0
IsAll shapes.Text None bytes lim = HasNoZero bytes × (length bytes < lim)
IsAll (shapes.Counted n) (Some width) bytes lim = (width ≡ n) × (length bytes < 256 ^ n) × (n + length bytes ≤ lim)
IsAll shapes.CountedUleb (Some width) bytes lim =
    uleb.Fits (record { value = length bytes; width = width }) × (width + length bytes ≤ lim)
IsAll s o bytes lim = ⊥

pub block_all : (s : Shape) (width : ℕ) (bytes xs : List ℕ) (to_come lim lim' : ℕ) → lim ≡ lim'
    → IsIncomplete s (Some width) bytes to_come lim → length xs ≡ to_come → IsAll s (Some width) (bytes ++ xs) lim'
block_all (shapes.Counted n) width bytes xs to_come lim lim' e h all =
    let c : length bytes + to_come ≡ length (bytes ++ xs) = omega (arith, length-append bytes xs, all) in
    (h.0, subst (λ (m : ℕ). m < 256 ^ n) c h.1, omega (arith, c, h.2, e))
block_all shapes.CountedUleb width bytes xs to_come lim lim' e h all =
    let c : length bytes + to_come ≡ length (bytes ++ xs) = omega (arith, length-append bytes xs, all) in
    (subst (λ (m : ℕ). uleb.Fits (record { value = m; width = width })) c h.0, omega (arith, c, h.1, e))
block_all shapes.Text width bytes xs to_come lim lim' e h all = absurd h
block_all (shapes.Fixed n) width bytes xs to_come lim lim' e h all = absurd h
block_all shapes.Uleb width bytes xs to_come lim lim' e h all = absurd h
block_all shapes.Sleb width bytes xs to_come lim lim' e h all = absurd h
block_all shapes.Present width bytes xs to_come lim lim' e h all = absurd h
block_all shapes.Implicit width bytes xs to_come lim lim' e h all = absurd h
block_all shapes.Indirect width bytes xs to_come lim lim' e h all = absurd h

some_bytes : (bytes : List ℕ) → HasNoZero bytes → AllByRecursion (λ b. 0 < b) bytes
some_bytes [] h = tt
some_bytes (x ∷ xs) h = (let ne = eqb-false x 0 h.0 in omega (arith, ne), some_bytes xs h.1)

shaped_fits : (k : Ctx) (c : Option Signed) (s : Shape) (width : Option ℕ) (bytes : List ℕ) (lim : ℕ)
    → IsAll s width bytes lim → (shaped k c s).Fits (text_or_block width bytes)
unfolding shaped
shaped_fits k c shapes.Text None bytes lim h = some_bytes bytes h.0
shaped_fits k c (shapes.Counted n) (Some width) bytes lim h = rw (h.0, eq-eqb n n refl) (h.1, refl)
shaped_fits k c shapes.CountedUleb (Some width) bytes lim h = (h.0, refl)
shaped_fits k c shapes.Text (Some width) bytes lim h = absurd h
shaped_fits k c (shapes.Counted n) None bytes lim h = absurd h
shaped_fits k c shapes.CountedUleb None bytes lim h = absurd h
shaped_fits k c (shapes.Fixed n) o bytes lim h = absurd h
shaped_fits k c shapes.Uleb o bytes lim h = absurd h
shaped_fits k c shapes.Sleb o bytes lim h = absurd h
shaped_fits k c shapes.Present o bytes lim h = absurd h
shaped_fits k c shapes.Implicit o bytes lim h = absurd h
shaped_fits k c shapes.Indirect o bytes lim h = absurd h

counted_size : (k : Ctx) (s : Shape) (width : Option ℕ) (bytes : List ℕ) (lim : ℕ) → IsAll s width bytes lim
    → length (count_if k (Some s) width (length bytes)) + (length bytes + length (ending width)) ≤ lim
counted_size k shapes.Text None bytes lim h = omega (arith, h.1)
counted_size k (shapes.Counted n) (Some width) bytes lim h = omega (arith, h.2, length-fixed k.order n (length bytes))
counted_size k shapes.CountedUleb (Some width) bytes lim h =
    omega (arith, h.1, length-uleb (record { value = length bytes; width = width }))
counted_size k shapes.Text (Some width) bytes lim h = absurd h
counted_size k (shapes.Counted n) None bytes lim h = absurd h
counted_size k shapes.CountedUleb None bytes lim h = absurd h
counted_size k (shapes.Fixed n) o bytes lim h = absurd h
counted_size k shapes.Uleb o bytes lim h = absurd h
counted_size k shapes.Sleb o bytes lim h = absurd h
counted_size k shapes.Present o bytes lim h = absurd h
counted_size k shapes.Implicit o bytes lim h = absurd h
counted_size k shapes.Indirect o bytes lim h = absurd h

module _ (k : Ctx) (p : Pair) (b : PartialValue) (lim : ℕ) (is : IsPartialAs k p b) (named : NamedFits b.via lim)
    (all : IsAll is.shape_is b.width b.bytes (lim_behind b.via lim)) where
  -- it has a spelling
  pub all_fits : (attribute k p.form.value p.constant).Fits (partial_attribute b)
  unfolding attribute
  all_fits = by b.via refl named all
    where
      plain : (c : Option Signed) (s : Option Shape) → s ≡ Some is.shape_is → (n : ℕ)
          → IsAll is.shape_is b.width b.bytes n → (shaped_if k c s).Fits (text_or_block b.width b.bytes)
      plain c s e n a =
          subst (λ (o : Option Shape). (shaped_if k c o).Fits (text_or_block b.width b.bytes)) (sym e)
          (shaped_fits k c is.shape_is b.width b.bytes n a)

      by : (v : Option Unsigned) → b.via ≡ v → NamedFits v lim → IsAll is.shape_is b.width b.bytes (lim_behind v lim)
          → (by_indirection k p.constant p.form.value (p.form.value == 0x16)).Fits
          (record { via = b.via; value = text_or_block b.width b.bytes })
      by None e f a =
          rw (e, ne_eqb p.form.value 0x16 (is.direct e))
          (plain p.constant (shape p.form.value k.address_size k.format) (rw e at is.has) lim a)
      by (Some u) e f a =
          rw (e, is.indirect u e)
          (f.0, plain None (shape u.value k.address_size k.format) (rw e at is.has) (lim - u.width) a)

  -- within lim
  pub all_size : (ps : List Pair) → length (partial_taken k (p ∷ ps) 0 b ++ ending b.width) ≤ lim
  all_size ps = by b.via refl named all
    where
      by : (v : Option Unsigned) → b.via ≡ v → NamedFits v lim → IsAll is.shape_is b.width b.bytes (lim_behind v lim)
          → length (partial_taken k (p ∷ ps) 0 b ++ ending b.width) ≤ lim
      by v e f a = by_via v e f a
        where
          counted : List ℕ
          counted = count_if k (shape (form_in p.form.value b.via) k.address_size k.format) b.width (length b.bytes + 0)

          count_is : length counted ≡ length (count_if k (Some is.shape_is) b.width (length b.bytes))
          count_is =
              let n : length b.bytes + 0 ≡ length b.bytes = omega arith in
              ap₂ (λ (o : Option Shape) (m : ℕ). length (count_if k o b.width m)) is.has n

          by_via : (w : Option Unsigned) → b.via ≡ w → NamedFits w lim
              → IsAll is.shape_is b.width b.bytes (lim_behind w lim)
              → length (partial_taken k (p ∷ ps) 0 b ++ ending b.width) ≤ lim
          by_via None q g i =
              omega (
                arith,
                counted_size k is.shape_is b.width b.bytes lim i,
                count_is,
                ap (λ (x : Option Unsigned). length (via_bytes x)) q,
                length-append (via_bytes b.via ++ (counted ++ b.bytes)) (ending b.width),
                length-append (via_bytes b.via) (counted ++ b.bytes),
                length-append counted b.bytes,
              )
          by_via (Some u) q g i =
              omega (
                arith,
                counted_size k is.shape_is b.width b.bytes (lim - u.width) i,
                count_is,
                ap (λ (x : Option Unsigned). length (via_bytes x)) q,
                length-uleb u,
                g.1,
                length-append (via_bytes b.via ++ (counted ++ b.bytes)) (ending b.width),
                length-append (via_bytes b.via) (counted ++ b.bytes),
                length-append counted b.bytes,
              )

-- nulls stand behind a closed root alone
pub none_padded : (g : PartialUnit) (r : UnfinishedEntry) → Standing g → g.place.unfinished ≡ Some r → g.padding ≡ []
none_padded g r stands e =
    by (frames_of g) (chain_of g) g.padding
    (subst (λ (o : Option UnfinishedEntry). PaddingFits (context g) g.table (frames_of g) (chain_of g) o g.padding) e
    stands.stands.padding_fits)
  where
    by : (fs : List Frame) (ts : Forest) (ws : List ℕ) → PaddingFits (context g) g.table fs ts (Some r) ws → ws ≡ []
    by fs ts [] h = refl
    by [] none (w ∷ ws) h = absurd h
    by [] (more x ts) (w ∷ ws) h = absurd h
    by (f ∷ fs) ts (w ∷ ws) h = absurd h

-- the draft with the value, and nothing of the next field
abbrev pub with_ended : PartialUnit → PartialUnit
with_ended g = coming (ended (drafted g)) g.unit_length g.named g.to_come g.pending

module _ (g : PartialUnit) (b : PartialValue) (h : PartialHere g b) (stands : Standing g) (none_left : g.to_come ≡ 0)
    (all : IsAll h.is.shape_is b.width b.bytes (lim_behind b.via (left g))) where
  fits : (attribute (context g) h.pair.form.value h.pair.constant).Fits (partial_attribute b)
  fits = all_fits (context g) h.pair b (left g) h.is h.via_fits all

  partial_is : partial_in g.place.unfinished ≡ Some b
  partial_is = ap partial_in h.unfinished ∙ h.partial

  attribute_is : partial_of (drafted g) ≡ Some (partial_attribute b)
  attribute_is = ap (option_map partial_attribute) partial_is

  pub ends_fit : PartialFits (drafted g)
  ends_fit =
      let f : NextFits (context g) g.table (Some h.entry) (partial_attribute b) =
      subst (λ (ps : List Pair). FirstFits (context g) ps (partial_attribute b)) (sym h.next) fits in
      let n : NextFits (context g) g.table g.place.unfinished (partial_attribute b) =
      subst (λ (o : Option UnfinishedEntry). NextFits (context g) g.table o (partial_attribute b))
      (sym h.unfinished) f in
      subst (λ (o : Option Attribute). IfSome o (λ v. NextFits (context g) g.table g.place.unfinished v))
      (sym attribute_is) n

  bytes_are : value_bytes (drafted g) (partial_attribute b)
      ≡ partial_taken (context g) (h.pair ∷ h.pairs) 0 b ++ ending b.width
  bytes_are =
      ap (λ (o : Option UnfinishedEntry). next_bytes (context g) g.table o (partial_attribute b)) h.unfinished
      ∙ ap (λ (ps : List Pair). first_bytes (context g) ps (partial_attribute b)) h.next
      ∙ ended_bytes (context g) h.pair h.pairs b h.is

  size_fits : length (partial_taken (context g) (h.pair ∷ h.pairs) 0 b ++ ending b.width) ≤ left g
  size_fits = all_size (context g) h.pair b (left g) h.is h.via_fits all h.pairs

  -- where what is left has room
  pub ends_short : ((n : ℕ) → n ≤ left g → passes_limit (drafted g) n ≡ false) → PartialShort (drafted g)
  ends_short room =
      let n : length (value_bytes (drafted g) (partial_attribute b)) ≤ left g =
      omega (arith, size_fits, ap length bytes_are) in
      subst
      (λ (o : Option Attribute).
      IfSome o (λ v. passes_limit (drafted g) (length (value_bytes (drafted g) v)) ≡ false))
      (sym attribute_is) (room (length (value_bytes (drafted g) (partial_attribute b))) n)

  abbrev behind : Place
  behind = settle g.table g.place.spot h.entry.code (h.entry.values ++ partial_attribute b ∷ [])

  place_behind : (ended (drafted g)).place ≡ behind
  place_behind =
      ap (λ (q : Option PartialValue). (ended_by q (tree_in (drafted g))).place) partial_is
      ∙ ap (λ (o : Option UnfinishedEntry). (value_at (partial_attribute b) (tree_in (drafted g)) o).place) h.unfinished

  behind_is : with_ended g ≡ moved_to behind [] g
  behind_is =
      same (ended (drafted g)).place g.padding g.named g.to_come g.pending place_behind
      (none_padded g h.entry stands h.unfinished) h.none_named none_left h.none_pending
    where
      same : (p : Place) (ws : List ℕ) (o : Option Unsigned) (n : ℕ) (bytes : List ℕ) → p ≡ behind → ws ≡ [] → o ≡ None
          → n ≡ 0 → bytes ≡ []
          → record {
            header = g.header;
            unit_length = g.unit_length;
            table = g.table;
            place = p;
            padding = ws;
            named = o;
            to_come = n;
            pending = bytes;
          }
          ≡ moved_to behind [] g
      same p ws o n bytes a c d e f = rw (a, c, d, e, f) refl

  -- it is found, with what ends it
  pub ends : (rest : List ℕ)
      → StepSays g ((part g ++ ending b.width) ++ rest) (steps.Found (length rest)) (with_ended g)
  ends rest =
      let taken : part g ≡ partial_taken (context g) (h.pair ∷ h.pairs) 0 b =
      part_is g h.entry b h.pair h.pairs h.unfinished h.partial h.next h.none_pending
      ∙ ap (λ (n : ℕ). partial_taken (context g) (h.pair ∷ h.pairs) n b) none_left in
      let size : length (part g ++ ending b.width) ≤ left g =
      omega (arith, size_fits, ap (λ (bs : List ℕ). length (bs ++ ending b.width)) taken) in (
        (behind, []),
        length (part g ++ ending b.width),
        partial_found g h.entry b h.pair h.pairs h.unfinished h.partial h.next h.none_pending h.is none_left fits size
            rest,
        omega (arith, length-append (part g ++ ending b.width) rest),
        behind_is,
      )

-- ---- a step in a block

-- the program's unit after it took bytes
pub taking_is : (g : PartialUnit) (d d1 : Drafted) (n : ℕ) (named : Option Unsigned) (to_come rest : ℕ)
    (pending xs : List ℕ) → coming d n named to_come pending ≡ g → d1 ≡ extended xs d → rest ≡ to_come - length xs
    → coming d1 n named rest pending ≡ taking g xs
taking_is g d d1 n named to_come rest pending xs e e1 e2 =
    ap₂ (λ (x : Drafted) (m : ℕ). coming x n named m pending) e1 e2 ∙ ap (λ (u : PartialUnit). taking u xs) e

-- and after the value ended
pub ended_is : (g : PartialUnit) (d d1 : Drafted) (n : ℕ) (named : Option Unsigned) (to_come : ℕ) (pending : List ℕ)
    → coming d n named to_come pending ≡ g → d1 ≡ ended d → coming d1 n named to_come pending ≡ with_ended g
ended_is g d d1 n named to_come pending e e1 =
    ap (λ (x : Drafted). coming x n named to_come pending) e1 ∙ ap with_ended e

module _ (g : PartialUnit) (has : HasPart g) (begun : IsSome (partial_in g.place.unfinished))
    (block : room_of_text (left g) (partial_in g.place.unfinished) ≡ None) where
  record IsBlock : Type 0 where
    pub value : PartialValue
    pub width : ℕ
    pub width_is : value.width ≡ Some width
    pub here : PartialHere g value
    pub short : IsShort g value here

  is_block : IsBlock
  is_block = by (partial_in g.place.unfinished) refl begun block
    where
      by_width : (b : PartialValue) (w : Option ℕ) → b.width ≡ w → partial_in g.place.unfinished ≡ Some b
          → room_by_width (lim_behind b.via (left g) - length b.bytes) w ≡ None → IsBlock
      by_width b None e same h = absurd cc
      by_width b (Some width) e same h =
          let p = partial_here g has b same in
          record { value = b; width = width; width_is = e; here = p.0; short = p.1 }

      by : (o : Option PartialValue) → partial_in g.place.unfinished ≡ o → IsSome o → room_of_text (left g) o ≡ None
          → IsBlock
      by None e some h = absurd cc
      by (Some b) e some h = by_width b b.width refl e h

  abbrev b : PartialValue
  b = is_block.value

  abbrev here : PartialHere g b
  here = is_block.here

  -- fewer bytes than are to come
  pub block_waits : (xs : List ℕ) → length xs < g.to_come → StepSays g (part g ++ xs) steps.Wanting (taking g xs)
  block_waits xs short =
      more_waits g b here xs (inr (omega (arith, short)))
      (block_short here.is.shape_is b.width b.bytes xs g.to_come (lim_behind b.via (left g))
      (lim_behind b.via (left (taking g xs))) (ap (lim_behind b.via) (left_is g b here xs)) is_block.short short)

  -- all of them
  module _ (keeps : Keeps g) (xs : List ℕ) (enough : length xs ≡ g.to_come) where
    block_is_all : IsAll here.is.shape_is b.width (b.bytes ++ xs) (lim_behind b.via (left (taking g xs)))
    block_is_all =
        let short :
        IsIncomplete here.is.shape_is (Some is_block.width) b.bytes g.to_come (lim_behind b.via (left g)) =
        subst (λ (o : Option ℕ). IsIncomplete here.is.shape_is o b.bytes g.to_come (lim_behind b.via (left g)))
        is_block.width_is is_block.short in
        subst (λ (o : Option ℕ). IsAll here.is.shape_is o (b.bytes ++ xs) (lim_behind b.via (left (taking g xs))))
        (sym is_block.width_is)
        (block_all here.is.shape_is is_block.width b.bytes xs g.to_come (lim_behind b.via (left g))
        (lim_behind b.via (left (taking g xs))) (ap (lim_behind b.via) (left_is g b here xs)) short enough)

    none_left : g.to_come - length xs ≡ 0
    none_left = omega (arith, enough)

    pub block_stands : Standing (taking g xs)
    block_stands = keeps_stands (taking g xs) (more_keeps g b here xs keeps)

    pub block_fits : PartialFits (drafted (taking g xs))
    block_fits = ends_fit (taking g xs) (longer xs b) (more_here g b here xs) block_stands none_left block_is_all

    pub block_room : ((n : ℕ) → n ≤ left (taking g xs) → passes_limit (drafted (taking g xs)) n ≡ false)
        → PartialShort (drafted (taking g xs))
    block_room room =
        ends_short (taking g xs) (longer xs b) (more_here g b here xs) block_stands none_left block_is_all room

    pub block_ends : (rest : List ℕ)
        → StepSays g (part g ++ (xs ++ rest)) (steps.Found (length rest)) (with_ended (taking g xs))
    block_ends rest =
        let all : part (taking g xs) ≡ part g ++ xs =
        taking_part g here.entry b here.pair here.pairs here.unfinished here.partial here.next
        here.none_pending xs (inr (omega (arith, enough))) in
        let ends_with : ending b.width ≡ [] = ap ending is_block.width_is in
        let bytes : (part (taking g xs) ++ ending b.width) ++ rest ≡ part g ++ (xs ++ rest) =
        ap₂ (λ (bs es : List ℕ). (bs ++ es) ++ rest) all ends_with
        ∙ ap (λ (bs : List ℕ). bs ++ rest) (append-nil (part g ++ xs)) ∙ append_assoc (part g) xs rest in
        subst (λ (bs : List ℕ). StepSays g bs (steps.Found (length rest)) (with_ended (taking g xs))) bytes
        (step_same g (taking g xs) (taking_stays g xs) (next_is g b here xs)
        ((part (taking g xs) ++ ending b.width) ++ rest) (steps.Found (length rest)) (with_ended (taking g xs))
        (ends (taking g xs) (longer xs b) (more_here g b here xs) block_stands none_left block_is_all rest))

-- ---- a step in a text

joined_no_zero : (xs ys : List ℕ) → HasNoZero xs → HasNoZero ys → HasNoZero (xs ++ ys)
joined_no_zero [] ys h i = i
joined_no_zero (x ∷ xs) ys h i = (h.0, joined_no_zero xs ys h.1 i)

text_shape : (s : Shape) → ComesInPieces s None → s ≡ shapes.Text
text_shape shapes.Text h = refl
text_shape (shapes.Counted n) h = absurd h
text_shape shapes.CountedUleb h = absurd h
text_shape (shapes.Fixed n) h = absurd h
text_shape shapes.Uleb h = absurd h
text_shape shapes.Sleb h = absurd h
text_shape shapes.Present h = absurd h
text_shape shapes.Implicit h = absurd h
text_shape shapes.Indirect h = absurd h

-- bytes that reach the unit's end without a zero
module _ (k : Ctx) (p : Pair) (b : PartialValue) (lim : ℕ) (is : IsPartialAs k p b) (text : b.width ≡ None)
    (named : NamedFits b.via lim) (content : List ℕ) (no_zero : HasNoZero content)
    (full : length content ≡ lim_behind b.via lim) where
  is_text : shape (form_in p.form.value b.via) k.address_size k.format ≡ Some shapes.Text
  is_text =
      is.has ∙ ap (λ (s : Shape). Some s) (text_shape is.shape_is (subst (ComesInPieces is.shape_is) text is.begins))

  reaches_moment : (form n : ℕ) → shape form k.address_size k.format ≡ Some shapes.Text → length content ≡ n
      → shaped_moment_if k (shape form k.address_size k.format) content n ≡ length content
  reaches_moment form n e f =
      ap (λ (s : Option Shape). shaped_moment_if k s content n) e ∙ text_faults content n no_zero (omega (arith, f))
      ∙ sym f

  pub reaches_wants : attribute_moment k p.form.value (via_bytes b.via ++ content) lim
      ≡ length (via_bytes b.via ++ content)
  reaches_wants = by b.via refl named full
    where
      by : (v : Option Unsigned) → b.via ≡ v → NamedFits v lim → length content ≡ lim_behind v lim
          → attribute_moment k p.form.value (via_bytes v ++ content) lim ≡ length (via_bytes v ++ content)
      by None e f l =
          plain_wants k p.form.value content lim (is.direct e) ∙ reaches_moment p.form.value lim (rw e at is_text) l
      by (Some u) e f l =
          omega (
            arith,
            named_wants k p.form.value u content lim (is.indirect u e) f.0 f.1,
            reaches_moment u.value (lim - u.width) (rw e at is_text) l,
            length-append (uleb.spell u) content,
            length-uleb u,
          )

  pub reaches_breaks : (attribute k p.form.value p.constant).Break (via_bytes b.via ++ content) lim 0 PastUnit
  unfolding attribute shaped
  reaches_breaks = by b.via refl named full
    where
      text_breaks : (n : ℕ) → length content ≡ n → Rattle.dw_leb.specs.Number.text.Break content n 0 PastUnit
      text_breaks n l =
          let m : min (length content) n ≡ n = omega (arith, l) in (
            refl,
            subst (AllByRecursion (λ x. 0 < x)) (sym (take_all (min (length content) n) content (omega (arith, m, l))))
                (some_bytes content no_zero),
            rw (m, eq-eqb n n refl) refl,
          )

      plain : (c : Option Signed) (s : Option Shape) (n : ℕ) → s ≡ Some shapes.Text → length content ≡ n
          → (shaped_if k c s).Break content n 0 PastUnit
      plain c s n e l =
          subst (λ (o : Option Shape). (shaped_if k c o).Break content n 0 PastUnit) (sym e) (text_breaks n l)

      by : (v : Option Unsigned) → b.via ≡ v → NamedFits v lim → length content ≡ lim_behind v lim
          → (attribute k p.form.value p.constant).Break (via_bytes v ++ content) lim 0 PastUnit
      by None e f l =
          rw (ne_eqb p.form.value 0x16 (is.direct e))
          (refl, 0, plain p.constant (shape p.form.value k.address_size k.format) lim (rw e at is_text) l)
      by (Some u) e f l =
          let n : lim - length (uleb.spell u) ≡ lim - u.width = ap (λ (m : ℕ). lim - m) (length-uleb u) in
          rw (is.indirect u e) (
            refl,
            length (uleb.spell u) + 0,
            inr (
              u,
              f.0,
              record {
                rest = content;
                own = 0;
                split = refl;
                within = omega (arith, length-uleb u, f.1);
                sum = refl;
                breaks =
                    plain None (shape u.value k.address_size k.format) (lim - length (uleb.spell u)) (rw e at is_text)
                    (l ∙ sym n);
              },
            ),
          )

text_short : (s : Shape) (bytes xs : List ℕ) (to_come lim lim' : ℕ) → lim ≡ lim' → IsIncomplete s None bytes to_come lim
    → HasNoZero xs → length xs < lim - length bytes → IsIncomplete s None (bytes ++ xs) (to_come - length xs) lim'
text_short shapes.Text bytes xs to_come lim lim' e h z short =
    (joined_no_zero bytes xs h.0 z, omega (arith, short, e, length-append bytes xs), omega (arith, h.2))
text_short (shapes.Counted n) bytes xs to_come lim lim' e h z short = absurd h
text_short shapes.CountedUleb bytes xs to_come lim lim' e h z short = absurd h
text_short (shapes.Fixed n) bytes xs to_come lim lim' e h z short = absurd h
text_short shapes.Uleb bytes xs to_come lim lim' e h z short = absurd h
text_short shapes.Sleb bytes xs to_come lim lim' e h z short = absurd h
text_short shapes.Present bytes xs to_come lim lim' e h z short = absurd h
text_short shapes.Implicit bytes xs to_come lim lim' e h z short = absurd h
text_short shapes.Indirect bytes xs to_come lim lim' e h z short = absurd h

-- with the zero it is whole
text_all : (s : Shape) (bytes : List ℕ) (to_come lim : ℕ) → IsIncomplete s None bytes to_come lim
    → IsAll s None bytes lim × (to_come ≡ 0) × HasNoZero bytes × (length bytes < lim)
text_all shapes.Text bytes to_come lim h = ((h.0, h.1), h.2, h.0, h.1)
text_all (shapes.Counted n) bytes to_come lim h = absurd h
text_all shapes.CountedUleb bytes to_come lim h = absurd h
text_all (shapes.Fixed n) bytes to_come lim h = absurd h
text_all shapes.Uleb bytes to_come lim h = absurd h
text_all shapes.Sleb bytes to_come lim h = absurd h
text_all shapes.Present bytes to_come lim h = absurd h
text_all shapes.Implicit bytes to_come lim h = absurd h
text_all shapes.Indirect bytes to_come lim h = absurd h

module _ (g : PartialUnit) (has : HasPart g) (room : ℕ)
    (is_room : room_of_text (left g) (partial_in g.place.unfinished) ≡ Some room) where
  record IsText : Type 0 where
    pub value : PartialValue
    pub width_is : value.width ≡ None
    pub here : PartialHere g value
    pub short : IsShort g value here
    pub room_is : lim_behind value.via (left g) - length value.bytes ≡ room

  is_text_here : IsText
  is_text_here = by (partial_in g.place.unfinished) refl is_room
    where
      by_width : (b : PartialValue) (w : Option ℕ) → b.width ≡ w → partial_in g.place.unfinished ≡ Some b
          → room_by_width (lim_behind b.via (left g) - length b.bytes) w ≡ Some room → IsText
      by_width b None e same h =
          let p = partial_here g has b same in record { value = b; width_is = e; here = p.0; short = p.1; room_is = cc }
      by_width b (Some width) e same h = absurd cc

      by : (o : Option PartialValue) → partial_in g.place.unfinished ≡ o → room_of_text (left g) o ≡ Some room → IsText
      by None e h = absurd cc
      by (Some b) e h = by_width b b.width refl e h

  abbrev t : PartialValue
  t = is_text_here.value

  abbrev text_here : PartialHere g t
  text_here = is_text_here.here

  text_so_far : IsIncomplete text_here.is.shape_is None t.bytes g.to_come (lim_behind t.via (left g))
  text_so_far =
      subst (λ (o : Option ℕ). IsIncomplete text_here.is.shape_is o t.bytes g.to_come (lim_behind t.via (left g)))
      is_text_here.width_is is_text_here.short

  -- of a text no bytes are counted
  pub none_counted : g.to_come ≡ 0
  none_counted = (text_all text_here.is.shape_is t.bytes g.to_come (lim_behind t.via (left g)) text_so_far).1

  -- its own bytes, with these behind them
  own_bytes : (xs : List ℕ) → part g ++ xs ≡ via_bytes t.via ++ (t.bytes ++ xs)
  own_bytes xs =
      let k : Option Shape =
      shape (form_in text_here.pair.form.value t.via) (context g).address_size (context g).format in
      let no_length : count_if (context g) k t.width (length t.bytes + g.to_come) ≡ [] =
      ap (λ (w : Option ℕ). count_if (context g) k w (length t.bytes + g.to_come)) is_text_here.width_is in
      ap (λ (bs : List ℕ). bs ++ xs)
      (part_is g text_here.entry t text_here.pair text_here.pairs text_here.unfinished text_here.partial
      text_here.next text_here.none_pending)
      ∙ ap (λ (bs : List ℕ). (via_bytes t.via ++ (bs ++ t.bytes)) ++ xs) no_length
      ∙ append_assoc (via_bytes t.via) t.bytes xs

  module _ (xs : List ℕ) (no_zero : HasNoZero xs) where
    module _ (short : length xs < room) where
      text_is_short : IsShort (taking g xs) (longer xs t) (more_here g t text_here xs)
      text_is_short =
          let lims : lim_behind t.via (left g) ≡ lim_behind t.via (left (taking g xs)) =
          ap (lim_behind t.via) (left_is g t text_here xs) in
          subst
          (λ (o : Option ℕ).
          IsIncomplete text_here.is.shape_is o (t.bytes ++ xs) (g.to_come - length xs)
          (lim_behind t.via (left (taking g xs))))
          (sym is_text_here.width_is)
          (text_short text_here.is.shape_is t.bytes xs g.to_come (lim_behind t.via (left g))
          (lim_behind t.via (left (taking g xs))) lims text_so_far no_zero
          (omega (arith, short, is_text_here.room_is)))

      -- no zero, and room for one
      pub text_waits : StepSays g (part g ++ xs) steps.Wanting (taking g xs)
      text_waits = more_waits g t text_here xs (inl is_text_here.width_is) text_is_short

      -- the zero comes next
      text_is_all : IsAll text_here.is.shape_is t.width (t.bytes ++ xs) (lim_behind t.via (left (taking g xs)))
          × (g.to_come - length xs ≡ 0)
      text_is_all =
          let s :
          IsIncomplete text_here.is.shape_is None (t.bytes ++ xs) (g.to_come - length xs)
          (lim_behind t.via (left (taking g xs))) =
          subst
          (λ (o : Option ℕ).
          IsIncomplete text_here.is.shape_is o (t.bytes ++ xs) (g.to_come - length xs)
          (lim_behind t.via (left (taking g xs))))
          is_text_here.width_is text_is_short in
          let a =
          text_all text_here.is.shape_is (t.bytes ++ xs) (g.to_come - length xs)
          (lim_behind t.via (left (taking g xs))) s in (
            subst
                (λ (o : Option ℕ).
                IsAll text_here.is.shape_is o (t.bytes ++ xs) (lim_behind t.via (left (taking g xs))))
                (sym is_text_here.width_is) a.0,
            a.1,
          )

      module _ (keeps : Keeps g) where
        pub text_stands : Standing (taking g xs)
        text_stands = keeps_stands (taking g xs) (more_keeps g t text_here xs keeps)

        pub text_fits : PartialFits (drafted (taking g xs))
        text_fits =
            ends_fit (taking g xs) (longer xs t) (more_here g t text_here xs) text_stands text_is_all.1 text_is_all.0

        pub text_room : ((n : ℕ) → n ≤ left (taking g xs) → passes_limit (drafted (taking g xs)) n ≡ false)
            → PartialShort (drafted (taking g xs))
        text_room fit =
            ends_short (taking g xs) (longer xs t) (more_here g t text_here xs) text_stands text_is_all.1 text_is_all.0
            fit

        pub text_ends : (rest : List ℕ)
            → StepSays g (part g ++ (xs ++ (0 ∷ rest))) (steps.Found (length rest)) (with_ended (taking g xs))
        text_ends rest =
            let all : part (taking g xs) ≡ part g ++ xs =
            taking_part g text_here.entry t text_here.pair text_here.pairs text_here.unfinished
            text_here.partial text_here.next text_here.none_pending xs (inl is_text_here.width_is) in
            let ends_with : ending t.width ≡ 0 ∷ [] = ap ending is_text_here.width_is in
            let bytes : (part (taking g xs) ++ ending t.width) ++ rest ≡ part g ++ (xs ++ (0 ∷ rest)) =
            ap₂ (λ (bs es : List ℕ). (bs ++ es) ++ rest) all ends_with ∙ append_assoc (part g ++ xs) (0 ∷ []) rest
            ∙ append_assoc (part g) xs (0 ∷ rest) in
            subst (λ (bs : List ℕ). StepSays g bs (steps.Found (length rest)) (with_ended (taking g xs))) bytes
            (step_same g (taking g xs) (taking_stays g xs) (next_is g t text_here xs)
            ((part (taking g xs) ++ ending t.width) ++ rest) (steps.Found (length rest)) (with_ended (taking g xs))
            (ends (taking g xs) (longer xs t) (more_here g t text_here xs) text_stands text_is_all.1 text_is_all.0
            rest))

    -- no zero up to the unit's end
    pub text_refused : length xs ≡ room → (rest : List ℕ) (new : PartialUnit)
        → StepSays g (part g ++ (xs ++ rest)) (steps.Refused (length rest) PastUnit) new
    text_refused full rest new =
        let a = text_all text_here.is.shape_is t.bytes g.to_come (lim_behind t.via (left g)) text_so_far in
        let content : List ℕ = t.bytes ++ xs in
        let reaches : length content ≡ lim_behind t.via (left g) =
        omega (arith, a.3, is_text_here.room_is, full, length-append t.bytes xs) in
        let bytes : List ℕ = part g ++ xs in
        let breaks =
        reaches_breaks (context g) text_here.pair t (left g) text_here.is is_text_here.width_is
        text_here.via_fits content (joined_no_zero t.bytes xs a.2 no_zero) reaches in
        let wants =
        reaches_wants (context g) text_here.pair t (left g) text_here.is is_text_here.width_is
        text_here.via_fits content (joined_no_zero t.bytes xs a.2 no_zero) reaches in
        let broken : field_at g bytes (left g) ≡ Broken 0 PastUnit =
        ap
        (λ (o : Option UnfinishedEntry).
        read_field (context g) g.table (frames_of g) (chain_of g) o g.padding bytes (left g))
        text_here.unfinished
        ∙ value_broken (context g) g.table g.padding bytes (left g) (frames_of g) (chain_of g) text_here.entry
        text_here.pair text_here.pairs text_here.next 0 PastUnit
        (subst
        (λ (bs : List ℕ).
        (attribute (context g) text_here.pair.form.value text_here.pair.constant).Break bs (left g) 0 PastUnit)
        (sym (own_bytes xs)) breaks)
        in
        let want : wanted g bytes ≡ length bytes =
        ap (λ (o : Option UnfinishedEntry). next_moment (context g) g.table (frames_of g) (chain_of g) o bytes (left g))
        text_here.unfinished
        ∙ ap (λ (ps : List Pair). next_value_moment (context g) g.table ps bytes (left g)) text_here.next
        ∙ ap (λ (bs : List ℕ). attribute_moment (context g) text_here.pair.form.value bs (left g)) (own_bytes xs)
        ∙ wants
        ∙ ap length (sym (own_bytes xs)) in
        let enough : wanted g bytes ≤ length bytes = omega (arith, want) in
        subst (λ (bs : List ℕ). StepSays g bs (steps.Refused (length rest) PastUnit) new)
        (append_assoc (part g) xs rest) (
          0,
          (has_moment g).stays bytes rest (left g) enough ∙ broken,
          λ e. cc,
          omega (arith, (has_moment g).steady bytes rest (left g) enough, want, length-append bytes rest),
        )
