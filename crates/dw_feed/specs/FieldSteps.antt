-- One step of a body feed, as its functions say it: the field at the place, over what is there of it and what is left
-- of the piece.
use Rattle.std.proofs.Common.{◌≡◌, ◌≢◌, ◌⊎◌, ℕ, ◌+◌, ◌-◌, ◌<◌, ◌≤◌, Bool, true, false, List, [], ◌∷◌, ◌++◌, length, Option, Some, None, refl, sym, ap, subst, ◌∙◌, arith, inl, inr, length-append, length-drop}
use Rattle.std.specs.Prelude.{option_map, is_some, IsTrue, ◌↔◌}
use Rattle.dw_leb.specs.declared.errors.Reason.{Reason}
use Rattle.dw_leb.specs.declared.errors.Reason.TheVariants.{Truncated}
use Rattle.dw_leb.specs.Reader.{Outcome, Found, Broken, mapped, made, checked}
use Rattle.dw_leb.specs.Number.{Unsigned}
use Rattle.dw_leb.specs.ReadNumber.{read_uleb}
use Rattle.dw_form.specs.declared.shape.Ctx.{Ctx}
use Rattle.dw_abbrev.specs.Table.{Table, Pair, declared, is_null}
use Rattle.dw_header.specs.Laws.{HasHeaderBytes}
use Rattle.dw_tree.specs.Tree.{Tree, Forest, none, more, bad_root, bad_child, not_null, nesting, declared_pairs}
use Rattle.dw_tree.specs.Place.{Frame, PartialValue, UnfinishedEntry}
use Rattle.dw_tree.specs.Steps.{given_partial, partial_in, next_pairs, settle}
use Rattle.dw_unit.specs.Unit.{left_behind}
use Rattle.dw_feed.specs.Room.{has_room}
use Rattle.dw_leb.specs.Moments.{HasMoment, fewer_or_enough, there, returned_moment, made_moment}
use Rattle.dw_leb.specs.NumberMoments.{leb_moment}
use Rattle.dw_form.specs.ReadForm.{read_attribute}
use Rattle.dw_form.specs.FormMoments.{attribute_moment, attribute_has}
use Rattle.dw_feed.specs.CodeMoments.{root_code_has, child_code_has, null_has}
use Rattle.dw_feed.specs.FeedSteps.{broken_wants, cut_wants, RanSays, waiting_ends, refused_ends}
use Rattle.dw_feed.specs.declared.progress.Progress.TheVariants as answers
use Rattle.dw_feed.specs.declared.step.Taken.{Taken}
use Rattle.dw_feed.specs.declared.step.Taken.TheVariants as takes
use Rattle.dw_feed.specs.declared.step.Step.{Step}
use Rattle.dw_feed.specs.declared.step.Step.TheVariants as steps
use Rattle.dw_feed.specs.FieldPlace.{PlaceFits}
use Rattle.dw_feed.specs.FieldFound.{place}
use Rattle.dw_feed.specs.NextField.{read_next, next_value_moment, next_moment, next_has}
use Rattle.dw_feed.specs.FieldReader.{PlaceBehind, by_code, read_value, read_field}
use Rattle.dw_form.specs.Form.{shape}
use Rattle.dw_form.specs.Pieces.{form_in, via_bytes}
use Rattle.dw_feed.specs.BodyFeed.{PartialUnit, Reading, Refused, Finished, EndsBody, started, value_part, part}
use Rattle.dw_feed.specs.FeedInvariant.{Keeps, Kept, body_so_far, frames_of, chain_of, context, left, wanted, moved_to}
use Rattle.dw_feed.specs.PlainFeed.{ran, fault_at, root_if_whole, unit_with, field_at, holding, held_left, held_wanted}
use Rattle.dw_feed.specs.PartialValues.{IsPartialAs, NamedFits, FewKeptIf, FewerKeptIf, IsIncomplete, lim_behind}

-- ---- a place that stands, where the unit may be whole

pub record Standing (g : PartialUnit) : Type 0 where
  pub head : HasHeaderBytes g.header g.unit_length
  pub stands : PlaceFits (context g) g.table (frames_of g) (chain_of g) g.place.unfinished g.padding
  pub within : length (body_so_far g) ≤ left_behind g.header g.unit_length

pub keeps_stands : (g : PartialUnit) → Keeps g → Standing g
keeps_stands g keeps = record { head = keeps.head; stands = keeps.stands; within = keeps.within }

-- ---- what may be there of the field at the place

-- of a value with this pair: the form that it names, and bytes of a number or of a length field; or a text or block
-- that isn't whole
abbrev pub ValuePart : PartialUnit → List Pair → Option PartialValue → Type 0
ValuePart g [] o = ⊥
ValuePart g (p ∷ ps) None =
    (g.to_come ≡ 0) × NamedFits g.named (left g) × ((u : Unsigned) → g.named ≡ Some u → p.form.value ≡ 0x16)
    × FewKeptIf (shape (form_in p.form.value g.named) (context g).address_size (context g).format) g.pending
    (lim_behind g.named (left g))
ValuePart g (p ∷ ps) (Some b) =
    (g.named ≡ None) × (g.pending ≡ []) × NamedFits b.via (left g)
    × ((is : IsPartialAs (context g) p b)
    × IsIncomplete is.shape_is b.width b.bytes g.to_come (lim_behind b.via (left g)))

-- of a code the bytes of its number alone
abbrev pub FieldPart : PartialUnit → Option UnfinishedEntry → Type 0
FieldPart g None = (g.named ≡ None) × (g.to_come ≡ 0)
FieldPart g (Some r) = ValuePart g (next_pairs g.table r) r.partial

abbrev pub HasPart : PartialUnit → Type 0
HasPart g = FieldPart g g.place.unfinished

-- Nothing that is whole is kept as bytes: of a value whose text or block hasn't begun neither the number of the form
-- that it names nor a length field
abbrev pub ValueWaits : PartialUnit → Option PartialValue → List Pair → Type 0
ValueWaits g (Some b) ps = Unit {0}
ValueWaits g None [] = Unit {0}
ValueWaits g None (p ∷ ps) =
    FewerKeptIf (shape (form_in p.form.value g.named) (context g).address_size (context g).format) g.pending
    (lim_behind g.named (left g))

abbrev pub FieldWaits : PartialUnit → Option UnfinishedEntry → Type 0
FieldWaits g None = Unit {0}
FieldWaits g (Some r) = ValueWaits g r.partial (next_pairs g.table r)

abbrev pub KeepsNoWhole : PartialUnit → Type 0
KeepsNoWhole g = FieldWaits g g.place.unfinished

-- what is there where more is wanted
abbrev pub HoldsPart : PartialUnit → Type 0
HoldsPart g = HasPart g × KeepsNoWhole g

-- of a code nothing whole is kept
pub code_waits : (g : PartialUnit) → g.place.unfinished ≡ None → KeepsNoWhole g
code_waits g free = subst (FieldWaits g) (sym free) tt

-- no fewer bytes of the field stand: with one less it waits
abbrev pub FrontsWait : PartialUnit → List ℕ → Type 0
FrontsWait g bytes = (front : List ℕ) (b : ℕ) → bytes ≡ front ++ b ∷ [] → length front < wanted g front

-- ---- a step

-- The field at the place, where these bytes are there of it and of what follows. It is found, and so many of the bytes
-- are left over; it wants more, and all of them are kept; or it is refused for good, and so many are left over.
abbrev pub StepSays : PartialUnit → List ℕ → Step → PartialUnit → Type 0
StepSays g bytes (steps.Found over) new =
    (q : PlaceBehind) × (size : ℕ) × (field_at g bytes (left g) ≡ Found q size) × (over + size ≡ length bytes)
    × (new ≡ moved_to q.0 q.1 g)
StepSays g bytes steps.Wanting new =
    (holding g [] ≡ holding new []) × (part new ≡ bytes) × (length bytes < wanted g bytes) × HoldsPart new
StepSays g bytes (steps.Refused over reason) new =
    (own : ℕ) × (field_at g bytes (left g) ≡ Broken own reason) × (reason ≢ Truncated)
    × (over + wanted g bytes ≡ length bytes)
StepSays g bytes steps.NoMemory new = Unit {0}

-- ---- the same field

-- an unfinished entry has a value still to come
abbrev pub HasNext : Table → Option UnfinishedEntry → Type 0
HasNext t None = Unit {0}
HasNext t (Some r) = 0 < length (next_pairs t r)

module _ (k : Ctx) (t : Table) where
  pub has_next : (fs : List Frame) (ts : Forest) (o : Option UnfinishedEntry) (ws : List ℕ) → PlaceFits k t fs ts o ws
      → HasNext t o
  has_next fs ts None ws h = tt
  has_next fs ts (Some r) ws h =
      omega (arith, h.spot_fits.short, length-drop (length r.values) (declared_pairs (declared t r.code.value)))

  value_holding : (fs : List Frame) (ts : Forest) (r : UnfinishedEntry) (ps : List Pair) (bytes : List ℕ) (m n : ℕ)
      → m ≡ n → 0 < length ps
      → read_value k t fs ts (given_partial None r) ps bytes m ≡ read_value k t fs ts r ps bytes n
  value_holding fs ts r [] bytes m n e h = absurd (omega (arith, h))
  value_holding fs ts r (p ∷ ps) bytes m n e h = ap (λ (l : ℕ). read_value k t fs ts r (p ∷ ps) bytes l) e

  field_holding : (fs : List Frame) (ts : Forest) (o : Option UnfinishedEntry) (ws bytes : List ℕ) (m n : ℕ) → m ≡ n
      → HasNext t o
      → read_field k t fs ts (option_map (given_partial None) o) ws bytes m ≡ read_field k t fs ts o ws bytes n
  field_holding [] none (Some r) ws bytes m n e h = value_holding [] none r (next_pairs t r) bytes m n e h
  field_holding [] (more x ts) (Some r) ws bytes m n e h = value_holding [] (more x ts) r (next_pairs t r) bytes m n e h
  field_holding (f ∷ fs) ts (Some r) ws bytes m n e h = value_holding (f ∷ fs) ts r (next_pairs t r) bytes m n e h
  field_holding [] none None ws bytes m n e h = ap (λ (l : ℕ). read_field k t [] none None ws bytes l) e
  field_holding [] (more x ts) None ws bytes m n e h = ap (λ (l : ℕ). read_field k t [] (more x ts) None ws bytes l) e
  field_holding (f ∷ fs) ts None ws bytes m n e h = ap (λ (l : ℕ). read_field k t (f ∷ fs) ts None ws bytes l) e

abbrev pub HasNextHere : PartialUnit → Type 0
HasNextHere g = HasNext g.table g.place.unfinished

pub next_here : (g : PartialUnit) → Standing g → HasNextHere g
next_here g stands = has_next (context g) g.table (frames_of g) (chain_of g) g.place.unfinished g.padding stands.stands

pub held_field : (g : PartialUnit) (field bytes : List ℕ) → HasNextHere g
    → field_at (holding g field) bytes (left (holding g field)) ≡ field_at g bytes (left g)
held_field g field bytes h =
    field_holding (context g) g.table (frames_of g) (chain_of g) g.place.unfinished g.padding bytes
    (left (holding g field)) (left g) (held_left g field) h

same_next : (t : Table) (o o' : Option UnfinishedEntry)
    → option_map (given_partial None) o ≡ option_map (given_partial None) o' → HasNext t o → HasNext t o'
same_next t o None e h = tt
same_next t None (Some s) e h = absurd cc
same_next t (Some r) (Some s) e h =
    let a : given_partial None r ≡ given_partial None s = cc in
    let n : length (next_pairs t r) ≡ length (next_pairs t s) =
    ap (λ (x : UnfinishedEntry). length (next_pairs t x)) a in
    omega (arith, h, n)

module _ (g h : PartialUnit) (same : holding g [] ≡ holding h []) (next : HasNextHere g) where
  next_there : HasNextHere h
  next_there =
      subst (λ (t : Table). HasNext t h.place.unfinished) (ap (λ (x : PartialUnit). x.table) same)
      (same_next g.table g.place.unfinished h.place.unfinished (ap (λ (x : PartialUnit). x.place.unfinished) same)
      next)

  pub same_field : (bytes : List ℕ) → field_at g bytes (left g) ≡ field_at h bytes (left h)
  same_field bytes =
      sym (held_field g [] bytes next) ∙ ap (λ (x : PartialUnit). field_at x bytes (left x)) same
      ∙ held_field h [] bytes next_there

  pub same_left : left g ≡ left h
  same_left = sym (held_left g []) ∙ ap left same ∙ held_left h []

  pub same_wants : (bytes : List ℕ) → wanted g bytes ≡ wanted h bytes
  same_wants bytes =
      sym (held_wanted g [] bytes) ∙ ap (λ (x : PartialUnit). wanted x bytes) same ∙ held_wanted h [] bytes

  pub same_moved : (q : PlaceBehind) → moved_to q.0 q.1 h ≡ moved_to q.0 q.1 g
  same_moved q = ap (moved_to q.0 q.1) (sym same)

  -- a step of a feed that took more of the field is one of the feed before
  pub step_same : (bytes : List ℕ) (s : Step) (new : PartialUnit) → StepSays h bytes s new → StepSays g bytes s new
  step_same bytes (steps.Found over) new (q, size, e, all, moved) =
      (q, size, same_field bytes ∙ e, all, moved ∙ same_moved q)
  step_same bytes steps.Wanting new (e, all, short, has) = (same ∙ e, all, omega (arith, short, same_wants bytes), has)
  step_same bytes (steps.Refused over reason) new (own, e, ne, all) =
      (own, same_field bytes ∙ e, ne, omega (arith, all, same_wants bytes))
  step_same bytes steps.NoMemory new h = tt

-- ---- bytes of which fewer wait

module _ (g : PartialUnit) where
  has :
      HasMoment (read_next (context g) g.table (frames_of g) (chain_of g) g.place.unfinished)
      (next_moment (context g) g.table (frames_of g) (chain_of g) g.place.unfinished)
  has = next_has (context g) g.table (frames_of g) (chain_of g) g.place.unfinished

  split_last : (x : ℕ) (xs : List ℕ) → (ps : List ℕ) × (p : ℕ) × (x ∷ xs ≡ ps ++ p ∷ [])
  split_last x [] = ([], x, refl)
  split_last x (y ∷ xs) = let s = split_last y xs in (x ∷ s.0, s.1, ap (λ (zs : List ℕ). x ∷ zs) s.2)

  -- with enough of them it stands at the last one, whatever follows
  pub stands_here : (bytes rest : List ℕ) → FrontsWait g bytes → wanted g bytes ≤ length bytes
      → wanted g (bytes ++ rest) ≡ length bytes
  stands_here bytes rest wait enough = (has.steady bytes rest (left g) enough) ∙ here bytes refl
    where
      here : (bs : List ℕ) → bytes ≡ bs → wanted g bytes ≡ length bytes
      here [] e = omega (arith, enough, ap length e)
      here (x ∷ xs) e =
          let s = split_last x xs in
          let all : bytes ≡ s.0 ++ s.1 ∷ [] = e ∙ s.2 in
          elim (fewer_or_enough (length s.0) (wanted g bytes)) [
            | inl short ↦ omega (arith, enough, short, ap length all, length-append s.0 (s.1 ∷ []))
            | inr few ↦ absurd
                (omega
                (arith, wait s.0 s.1 all, has.early s.0 (s.1 ∷ []) (left g) (omega (arith, few, ap (wanted g) all))))
          ]

  -- the outcome there is the outcome with whatever follows
  pub wait_more : (bytes : List ℕ) (b : ℕ) → length bytes < wanted g bytes → FrontsWait g (bytes ++ b ∷ [])
  wait_more bytes b short front c e =
      subst (λ (bs : List ℕ). length bs < wanted g bs)
      (Rattle.std.proofs.lemmas.List.same_from_push bytes front b c e).0 short

-- ---- the outcome stands at the last byte

module _ (k : Ctx) (t : Table) where
  value_has : (fs : List Frame) (ts : Forest) (r : UnfinishedEntry) (ps : List Pair)
      → HasMoment (read_value k t fs ts r ps) (next_value_moment k t ps)
  value_has fs ts r [] = returned_moment (place fs ts (Some r), [])
  value_has fs ts r (p ∷ ps) =
      made_moment _ (read_attribute k p.form.value p.constant) (attribute_moment k p.form.value)
      (attribute_has k p.form.value p.constant)

  pub field_has : (fs : List Frame) (ts : Forest) (o : Option UnfinishedEntry) (ws : List ℕ)
      → HasMoment (read_field k t fs ts o ws) (next_moment k t fs ts o)
  field_has [] none (Some r) ws = value_has [] none r (next_pairs t r)
  field_has [] (more x ts) (Some r) ws = value_has [] (more x ts) r (next_pairs t r)
  field_has (f ∷ fs) ts (Some r) ws = value_has (f ∷ fs) ts r (next_pairs t r)
  field_has [] none None ws = made_moment _ (checked read_uleb (bad_root t)) leb_moment (root_code_has t)
  field_has [] (more x ts) None ws = made_moment _ (checked read_uleb not_null) leb_moment null_has
  field_has (f ∷ fs) ts None ws =
      made_moment _ (checked read_uleb (bad_child t (has_room (nesting - length (f ∷ fs))))) leb_moment
      (child_code_has t (has_room (nesting - length (f ∷ fs))))

module _ (g : PartialUnit) where
  pub has_moment :
      HasMoment (read_field (context g) g.table (frames_of g) (chain_of g) g.place.unfinished g.padding)
      (next_moment (context g) g.table (frames_of g) (chain_of g) g.place.unfinished)
  has_moment = field_has (context g) g.table (frames_of g) (chain_of g) g.place.unfinished g.padding

  pub stop_found : (bytes rest : List ℕ) → FrontsWait g bytes → (q : PlaceBehind) (size : ℕ)
      → field_at g bytes (left g) ≡ Found q size
      → (field_at g (bytes ++ rest) (left g) ≡ Found q size) × (size ≡ length bytes)
  stop_found bytes rest wait q size e =
      let want : wanted g bytes ≡ size = has_moment.whole bytes (left g) q size e in
      let le : size ≤ length bytes = there _ _ has_moment bytes (left g) q size e in
      let enough : wanted g bytes ≤ length bytes = omega (arith, want, le) in (
        has_moment.stays bytes rest (left g) enough ∙ e,
        sym want ∙ sym (has_moment.steady bytes rest (left g) enough) ∙ stands_here g bytes rest wait enough,
      )

  pub stop_broken : (bytes rest : List ℕ) → FrontsWait g bytes → (own : ℕ) (reason : Reason)
      → field_at g bytes (left g) ≡ Broken own reason → reason ≢ Truncated
      → (field_at g (bytes ++ rest) (left g) ≡ Broken own reason) × (wanted g (bytes ++ rest) ≡ length bytes)
  stop_broken bytes rest wait own reason e ne =
      let enough : wanted g bytes ≤ length bytes = broken_wants g bytes own reason e ne in
      (has_moment.stays bytes rest (left g) enough ∙ e, stands_here g bytes rest wait enough)

-- ---- a code or null at the place

-- what refuses one there
abbrev pub code_meaning : Table → List Frame → Forest → Unsigned → Option Reason
code_meaning t [] none = bad_root t
code_meaning t [] (more x ts) = not_null
code_meaning t (f ∷ fs) ts = bad_child t (has_room (nesting - length (f ∷ fs)))

-- the place behind it
abbrev pub behind_code : Ctx → Table → List Frame → Forest → List ℕ → Unsigned → PlaceBehind
behind_code k t [] none ws code = (settle t (record { above = []; left = none }) code [], [])
behind_code k t [] (more x ts) ws code = (place [] (more x ts) None, ws ++ code.width ∷ [])
behind_code k t (f ∷ fs) ts ws code = by_code k t (is_null code) (record { above = f ∷ fs; left = ts }) code

pub code_field : (k : Ctx) (t : Table) (fs : List Frame) (ts : Forest) (ws bytes : List ℕ) (lim : ℕ)
    → read_field k t fs ts None ws bytes lim
    ≡ made (behind_code k t fs ts ws) (checked read_uleb (code_meaning t fs ts)) bytes lim
code_field k t [] none ws bytes lim = refl
code_field k t [] (more x ts) ws bytes lim = refl
code_field k t (f ∷ fs) ts ws bytes lim = refl

-- a step behind a code that was found
abbrev pub BehindCode : PartialUnit → Unsigned → ℕ → Step → PartialUnit → Type 0
BehindCode g code over (steps.Found n) new =
    let q : PlaceBehind = behind_code (context g) g.table (frames_of g) (chain_of g) g.padding code in
    (n ≡ over) × (new ≡ moved_to q.0 q.1 g)
BehindCode g code over steps.Wanting new = ⊥
BehindCode g code over (steps.Refused n reason) new = ⊥
BehindCode g code over steps.NoMemory new = Unit {0}

-- what is read of a code is the field
pub code_read : (g : PartialUnit) → g.place.unfinished ≡ None → (bytes : List ℕ) (o : Outcome Unsigned)
    → checked read_uleb (code_meaning g.table (frames_of g) (chain_of g)) bytes (left g) ≡ o
    → field_at g bytes (left g) ≡ mapped (behind_code (context g) g.table (frames_of g) (chain_of g) g.padding) o
code_read g free bytes o e =
    ap
    (λ (u : Option UnfinishedEntry).
    read_field (context g) g.table (frames_of g) (chain_of g) u g.padding bytes (left g))
    free
    ∙ code_field (context g) g.table (frames_of g) (chain_of g) g.padding bytes (left g)
    ∙ ap (mapped (behind_code (context g) g.table (frames_of g) (chain_of g) g.padding)) e

-- of a code the bytes of its number are there
pub code_part : (g : PartialUnit) → g.place.unfinished ≡ None → g.named ≡ None → part g ≡ g.pending
code_part g free named =
    ap (λ (u : Option UnfinishedEntry). value_part g (partial_in u) ++ g.pending) free
    ∙ ap (λ (o : Option Unsigned). via_bytes o ++ g.pending) named

-- a code that is whole: the step behind it
pub code_step : (g : PartialUnit) → g.place.unfinished ≡ None → (bytes rest : List ℕ) → FrontsWait g bytes
    → (code : Unsigned) (size : ℕ)
    → checked read_uleb (code_meaning g.table (frames_of g) (chain_of g)) bytes (left g) ≡ Found code size
    → (over : ℕ) → over ≡ length rest → (s : Step) (new : PartialUnit) → BehindCode g code over s new
    → StepSays g (bytes ++ rest) s new
code_step g free bytes rest wait code size e over is (steps.Found n) new h =
    let q : PlaceBehind = behind_code (context g) g.table (frames_of g) (chain_of g) g.padding code in
    let f = stop_found g bytes rest wait q size (code_read g free bytes (Found code size) e) in
    (q, size, f.0, omega (arith, f.1, h.0, is, length-append bytes rest), h.1)
code_step g free bytes rest wait code size e over is steps.Wanting new h = absurd h
code_step g free bytes rest wait code size e over is (steps.Refused n reason) new h = absurd h
code_step g free bytes rest wait code size e over is steps.NoMemory new h = tt

-- one that is refused
pub code_refused : (g : PartialUnit) → g.place.unfinished ≡ None → (bytes rest : List ℕ) → FrontsWait g bytes
    → (reason : Reason) → reason ≢ Truncated
    → checked read_uleb (code_meaning g.table (frames_of g) (chain_of g)) bytes (left g) ≡ Broken 0 reason
    → (over : ℕ) → over ≡ length rest → (new : PartialUnit) → StepSays g (bytes ++ rest) (steps.Refused over reason) new
code_refused g free bytes rest wait reason ne e over is new =
    let f = stop_broken g bytes rest wait 0 reason (code_read g free bytes (Broken 0 reason) e) ne in
    (0, f.0, ne, omega (arith, f.1, is, length-append bytes rest))

-- one that is cut off wants more
pub code_short : (g : PartialUnit) → g.place.unfinished ≡ None → (bytes : List ℕ)
    → checked read_uleb (code_meaning g.table (frames_of g) (chain_of g)) bytes (left g) ≡ Broken 0 Truncated
    → length bytes < wanted g bytes
code_short g free bytes e = cut_wants g bytes 0 (code_read g free bytes (Broken 0 Truncated) e)

-- what is told by a flag
pub told : {P : Type 0} (b : Bool) → (IsTrue b ↔ P) → b ≡ true → P
told b h e = h.0 e

pub told_not : {P : Type 0} (b : Bool) → (IsTrue b ↔ P) → b ≡ false → P → ⊥
told_not b h e p = let q : false ≡ true = sym e ∙ h.1 p in cc

-- ---- a call, as the functions say it

-- of the field at the place fewer bytes are there than it wants, or none
abbrev pub Waits : PartialUnit → Type 0
Waits g = (length (part g) < wanted g (part g)) ⊎ (part g ≡ [])

pub waits_fronts : (g : PartialUnit) → Waits g → FrontsWait g (part g)
waits_fronts g (inl short) front b e = elim (fewer_or_enough (length front) (wanted g front)) [
  | inl less ↦ less
  | inr enough ↦ absurd
      (omega (
        arith,
        short,
        enough,
        ap (wanted g) e,
        ap length e,
        length-append front (b ∷ []),
        (has_moment g).steady front (b ∷ []) (left g) enough,
      ))
]
waits_fronts g (inr none_there) front b e =
    absurd (omega (arith, ap length (sym none_there ∙ e), length-append front (b ∷ [])))

-- what a call made of its piece
abbrev pub TakenSays : PartialUnit → List ℕ → Taken → PartialUnit → Type 0
TakenSays g piece takes.More new = RanSays g piece (ran answers.More (Reading new) 0) × HoldsPart new
TakenSays g piece (takes.Whole over) new =
    (x : Tree) × (root_if_whole new ≡ Some x) × Standing new
    × RanSays g piece (ran (answers.Done (unit_with new x)) Finished over)
TakenSays g piece (takes.Refused over fault) new = RanSays g piece (ran (answers.Fault fault) (Refused fault) over)
TakenSays g piece takes.NoMemory new = Unit {0}

-- ---- where memory is wanted

-- where a code or null is next, it isn't refused for good
abbrev pub CodeStands : PartialUnit → List ℕ → Type 0
CodeStands g bytes =
    g.place.unfinished ≡ None → (own : ℕ) (reason : Reason) → field_at g bytes (left g) ≡ Broken own reason
    → reason ≡ Truncated

abbrev pub IfNoMemory : Step → Type 0 → Type 0
IfNoMemory (steps.Found over) P = Unit {0}
IfNoMemory steps.Wanting P = Unit {0}
IfNoMemory (steps.Refused over reason) P = Unit {0}
IfNoMemory steps.NoMemory P = P

pub if_no_memory : (s : Step) (P : Type 0) → P → IfNoMemory s P
if_no_memory (steps.Found over) P p = tt
if_no_memory steps.Wanting P p = tt
if_no_memory (steps.Refused over reason) P p = tt
if_no_memory steps.NoMemory P p = p

abbrev pub IfNoneLeft : Taken → Type 0 → Type 0
IfNoneLeft takes.More P = Unit {0}
IfNoneLeft (takes.Whole over) P = Unit {0}
IfNoneLeft (takes.Refused over fault) P = Unit {0}
IfNoneLeft takes.NoMemory P = P

-- a field that is found isn't refused
pub found_stands : (g : PartialUnit) (bytes : List ℕ) (q : PlaceBehind) (size : ℕ)
    → field_at g bytes (left g) ≡ Found q size → CodeStands g bytes
found_stands g bytes q size f free own reason e = let no : Found q size ≡ Broken own reason = sym f ∙ e in absurd cc

-- nor is a code that was found in fewer of the bytes
pub code_stands : (g : PartialUnit) → g.place.unfinished ≡ None → (bytes rest : List ℕ) → FrontsWait g bytes
    → (code : Unsigned) (size : ℕ)
    → checked read_uleb (code_meaning g.table (frames_of g) (chain_of g)) bytes (left g) ≡ Found code size
    → CodeStands g (bytes ++ rest)
code_stands g free bytes rest wait code size e =
    let q : PlaceBehind = behind_code (context g) g.table (frames_of g) (chain_of g) g.padding code in
    found_stands g (bytes ++ rest) q size
    (stop_found g bytes rest wait q size (code_read g free bytes (Found code size) e)).0

-- a feed that took more of the field is one of the feed before
pub stands_same : (g h : PartialUnit) → holding g [] ≡ holding h [] → HasNextHere g → (bytes : List ℕ)
    → CodeStands h bytes → CodeStands g bytes
stands_same g h same next bytes stands free own reason e =
    stands (by g.place.unfinished h.place.unfinished (ap (λ (x : PartialUnit). x.place.unfinished) same) free) own
    reason (sym (same_field g h same next bytes) ∙ e)
  where
    by : (o p : Option UnfinishedEntry) → option_map (given_partial None) o ≡ option_map (given_partial None) p
        → o ≡ None → p ≡ None
    by o None q n = refl
    by None (Some s) q n = absurd cc
    by (Some r) (Some s) q n = absurd cc

-- where a value is next, no code is
pub no_code : (g : PartialUnit) (bytes : List ℕ) → true ≡ is_some g.place.unfinished → CodeStands g bytes
no_code g bytes some free own reason e = let no : true ≡ false = some ∙ ap is_some free in absurd cc

-- at the first field of a call, or the code that came first there stands
abbrev pub FirstStands : PartialUnit → List ℕ → PartialUnit → List ℕ → Type 0
FirstStands g0 piece g rest = CodeStands g0 (part g0 ++ piece) ⊎ ((g ≡ g0) × (rest ≡ piece))

pub first_wants : (g0 : PartialUnit) (piece : List ℕ) (g : PartialUnit) (rest : List ℕ) → FirstStands g0 piece g rest
    → CodeStands g (part g ++ rest) → CodeStands g0 (part g0 ++ piece)
first_wants g0 piece g rest (inl stands) here = stands
first_wants g0 piece g rest (inr same) here =
    subst (λ (bs : List ℕ). CodeStands g0 (part g0 ++ bs)) same.1
    (subst (λ (x : PartialUnit). CodeStands x (part x ++ rest)) same.0 here)

pub first_found : (g0 : PartialUnit) (piece : List ℕ) (g : PartialUnit) (rest : List ℕ) → FirstStands g0 piece g rest
    → (over : ℕ) (new : PartialUnit) → StepSays g (part g ++ rest) (steps.Found over) new
    → CodeStands g0 (part g0 ++ piece)
first_found g0 piece g rest first over new (q, size, e, all, moved) =
    first_wants g0 piece g rest first (found_stands g (part g ++ rest) q size e)

-- ---- where the input ends

-- what is there of a code is refused
abbrev pub CodeBreaks : PartialUnit → Reason → Type 0
CodeBreaks g reason =
    checked read_uleb (code_meaning g.table (frames_of g) (chain_of g)) (part g) (left g) ≡ Broken 0 reason

pub code_ends : (g : PartialUnit) → g.place.unfinished ≡ None → Kept (Reading g) → (reason : Reason)
    → CodeBreaks g reason → EndsBody (Reading g) (Some (fault_at g reason))
code_ends g free kept reason breaks =
    refused_ends g kept.0 kept.1 0 reason (code_read g free (part g) (Broken 0 reason) breaks)

-- a value that isn't whole is cut off
pub value_ends : (g : PartialUnit) → (is_some g.place.unfinished ≡ true) → Kept (Reading g)
    → EndsBody (Reading g) (Some (fault_at g Truncated))
value_ends g some kept = by kept.2
  where
    by : (length (part g) < wanted g (part g)) ⊎ (g ≡ started g.header g.unit_length g.table)
        → EndsBody (Reading g) (Some (fault_at g Truncated))
    by (inl short) = waiting_ends g kept.0 kept.1 short
    by (inr new) =
        let none_there : false ≡ true = ap (λ (x : PartialUnit). is_some x.place.unfinished) (sym new) ∙ some in
        absurd cc

-- a code that is there was read
pub none_found : (g : PartialUnit) → g.place.unfinished ≡ None → Kept (Reading g) → (code : Unsigned) (size : ℕ)
    → 0 < size → checked read_uleb (code_meaning g.table (frames_of g) (chain_of g)) (part g) (left g) ≡ Found code size
    → ⊥
none_found g free kept code size some e =
    let q : PlaceBehind = behind_code (context g) g.table (frames_of g) (chain_of g) g.padding code in
    let f : field_at g (part g) (left g) ≡ Found q size = code_read g free (part g) (Found code size) e in
    let want : wanted g (part g) ≡ size = has_moment_whole g (part g) q size f in
    let le : size ≤ length (part g) = there _ _ (has_moment g) (part g) (left g) q size f in
    by kept.2 want le
  where
    has_moment_whole : (g : PartialUnit) (bytes : List ℕ) (q : PlaceBehind) (size : ℕ)
        → field_at g bytes (left g) ≡ Found q size → wanted g bytes ≡ size
    has_moment_whole g bytes q size f = (has_moment g).whole bytes (left g) q size f

    by : (length (part g) < wanted g (part g)) ⊎ (g ≡ started g.header g.unit_length g.table) → wanted g (part g) ≡ size
        → size ≤ length (part g) → ⊥
    by (inl short) want le = omega (arith, short, want, le)
    by (inr new) want le = omega (arith, some, le, ap (λ (x : PartialUnit). length (part x)) new)
