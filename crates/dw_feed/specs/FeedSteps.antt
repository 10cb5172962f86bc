-- One step of a feed in its piece: the field at its place wants more, is refused, or is found and leads to the next
-- place. A loop over fields keeps At, from kept_at on; its ways out are more_says, fault_says and done_says, and it
-- goes on by goes_on, and by at_same_field within a field.
use Rattle.std.proofs.Common.{◌≡◌, ◌≢◌, ◌⊎◌, ℕ, zero, suc, ◌+◌, ◌-◌, ◌<◌, ◌≤◌, List, [], ◌∷◌, ◌++◌, length, take, drop, Option, Some, None, refl, sym, ap, subst, ◌∙◌, append_assoc, arith, inl, inr, length-append, length-drop, take-append-drop}
use Rattle.std.proofs.lemmas.List.{length-take-le, take_at}
use Rattle.std.proofs.Math.Seq.{take-append-add}
use Rattle.dw_leb.specs.declared.errors.Reason.{Reason}
use Rattle.dw_leb.specs.declared.errors.Reason.TheVariants.{Truncated}
use Rattle.dw_leb.specs.Reader.{Outcome, Found, Broken, mapped}
use Rattle.dw_leb.specs.Decide.{AreBytes, AreBytes-behind, found}
use Rattle.dw_header.specs.HeaderPlace.{header_bytes}
use Rattle.dw_header.specs.Laws.{HasHeaderBytes}
use Rattle.dw_tree.specs.Tree.{Tree, Forest, none, more}
use Rattle.dw_tree.specs.Place.{Frame, UnfinishedEntry}
use Rattle.dw_unit.specs.Unit.{bytes_of, UnitFits, left_behind}
use Rattle.dw_leb.specs.Moments.{IsCut, HasMoment, fewer_or_enough, there, front_stands}
use Rattle.dw_leb.specs.ByteLists.{front_is_bytes, joined_are_bytes}
use Rattle.dw_feed.specs.PlaceBytes.{place_bytes}
use Rattle.dw_feed.specs.FieldPlace.{PlaceFits}
use Rattle.dw_feed.specs.NextField.{nothing_of, read_next, next_moment, next_has, GoesOn}
use Rattle.dw_feed.specs.UnitAtPlace.{unit_done}
use Rattle.dw_feed.specs.FieldReader.{PlaceBehind, is_next, Follows, follows}
use Rattle.dw_feed.specs.declared.progress.Progress.TheVariants as answers
use Rattle.dw_feed.specs.BodyFeed.{PartialUnit, Reading, Refused, Finished, started, part, before, stream, SameUnit, StandsFirst, SaysMore, SaysDone, FeedsBody, EndsBody}
use Rattle.dw_feed.specs.FeedInvariant.{Keeps, Kept, IsUnended, body_so_far, frames_of, chain_of, context, left, next, wanted, cut_at_field, refused, found_first, moved_to, keeps_on}
use Rattle.dw_feed.specs.FeedAnswers.{says_more, says_fault, same_first}
use Rattle.dw_feed.specs.PlainFeed.{field_at, holding, Ran, ran, fault_at, whole_at, root_if_whole, unit_with, held_before, held_wanted, held_keeps, keeps_held}

-- the piece without what is left of it
pub cut_end : (xs piece ys zs : List ℕ) → xs ++ piece ≡ ys ++ zs → length zs ≤ length piece
    → xs ++ take (length piece - length zs) piece ≡ ys
cut_end xs piece ys zs e le =
    let n : length ys ≡ length xs + (length piece - length zs) =
    omega (arith, ap length e, length-append xs piece, length-append ys zs, le) in
    sym (take-append-add xs piece (length piece - length zs))
    ∙ ap (λ (m : ℕ). take m (xs ++ piece)) (sym n)
    ∙ ap (take (length ys)) e
    ∙ take_at ys zs (length ys) refl

-- ---- the field at the place

module _ (g : PartialUnit) where
  has :
      HasMoment (read_next (context g) g.table (frames_of g) (chain_of g) g.place.unfinished)
      (next_moment (context g) g.table (frames_of g) (chain_of g) g.place.unfinished)
  has = next_has (context g) g.table (frames_of g) (chain_of g) g.place.unfinished

  -- the next field is that of the reader that gives the place behind it too
  pub next_is : (bytes : List ℕ) (o : Outcome PlaceBehind) → field_at g bytes (left g) ≡ o
      → next g bytes ≡ mapped {X = Unit {0}} nothing_of o
  next_is bytes o e =
      sym (is_next (context g) g.table (frames_of g) (chain_of g) g.place.unfinished g.padding bytes (left g))
      ∙ ap (mapped nothing_of) e

  -- a field that is found wants its own bytes, and they are there
  pub found_wants : (bytes : List ℕ) (q : PlaceBehind) (size : ℕ) → field_at g bytes (left g) ≡ Found q size
      → (wanted g bytes ≡ size) × (size ≤ length bytes)
  found_wants bytes q size e =
      let seen : next g bytes ≡ Found tt size = next_is bytes (Found q size) e in
      (has.whole bytes (left g) tt size seen, there _ _ has bytes (left g) tt size seen)

  -- one that is refused for good wants no more than is there ..
  pub broken_wants : (bytes : List ℕ) (own : ℕ) (reason : Reason) → field_at g bytes (left g) ≡ Broken own reason
      → reason ≢ Truncated → wanted g bytes ≤ length bytes
  broken_wants bytes own reason e ne = elim (fewer_or_enough (length bytes) (wanted g bytes)) [
    | inl short ↦ absurd (ne (subst IsCut (next_is bytes (Broken own reason) e) (has.waits bytes (left g) short)))
    | inr enough ↦ enough
  ]

  -- .. and one that is cut off wants more
  pub cut_wants : (bytes : List ℕ) (own : ℕ) → field_at g bytes (left g) ≡ Broken own Truncated
      → length bytes < wanted g bytes
  cut_wants bytes own e = elim (fewer_or_enough (length bytes) (wanted g bytes)) [
    | inl short ↦ short
    | inr enough ↦ absurd
        (has.stands bytes (left g) enough (subst IsCut (sym (next_is bytes (Broken own Truncated) e)) refl))
  ]

  -- with the bytes that it wants alone it is the same, and it wants no fewer
  module _ (bytes : List ℕ) (enough : wanted g bytes ≤ length bytes) where
    abbrev own : List ℕ
    own = take (wanted g bytes) bytes

    own_long : length own ≡ wanted g bytes
    own_long = length-take-le (wanted g bytes) bytes enough

    all : own ++ drop (wanted g bytes) bytes ≡ bytes
    all = take-append-drop (wanted g bytes) bytes

    same_wanted : wanted g (own ++ drop (wanted g bytes) bytes) ≡ wanted g bytes
    same_wanted = ap (wanted g) all

    own_next : next g own ≡ next g bytes
    own_next =
        front_stands _ _ has own (drop (wanted g bytes) bytes) (left g) (omega (arith, same_wanted, own_long))
        ∙ ap (next g) all

    own_enough : length own ≤ wanted g own
    own_enough =
        let early : wanted g own ≤ length own =
        has.early own (drop (wanted g bytes) bytes) (left g) (omega (arith, same_wanted, own_long)) in
        let steady : wanted g (own ++ drop (wanted g bytes) bytes) ≡ wanted g own =
        has.steady own (drop (wanted g bytes) bytes) (left g) early in
        omega (arith, steady, same_wanted, own_long)

-- ---- the unit is whole, or isn't

unended_by : (g : PartialUnit) → PlaceFits (context g) g.table (frames_of g) (chain_of g) g.place.unfinished g.padding
    → root_if_whole g ≡ None → IsUnended g
unended_by g stands e = by (frames_of g) (chain_of g) g.place.unfinished g.padding (left g) stands e
  where
    by : (fs : List Frame) (ts : Forest) (o : Option UnfinishedEntry) (ws : List ℕ) (lim : ℕ)
        → PlaceFits (context g) g.table fs ts o ws → whole_at fs ts o lim ≡ None
        → GoesOn (context g) g.table fs ts o lim
    by [] none (Some r) ws lim h e = tt
    by [] (more x ts) (Some r) ws lim h e = tt
    by (f ∷ fs) ts (Some r) ws lim h e = tt
    by [] none None ws lim h e = tt
    by (f ∷ fs) ts None ws lim h e = tt
    by [] (more x none) None ws zero h e = absurd cc
    by [] (more x none) None ws (suc lim) h e = omega arith
    by [] (more x (more y ts)) None ws lim h e = absurd h.spot_fits

whole_by : (g : PartialUnit) (x : Tree)
    → PlaceFits (context g) g.table (frames_of g) (chain_of g) g.place.unfinished g.padding
    → length (body_so_far g) ≤ left_behind g.header g.unit_length
    → HasHeaderBytes g.header g.unit_length → root_if_whole g ≡ Some x
    → UnitFits (unit_with g x) × (before g ≡ bytes_of (unit_with g x))
whole_by g x stands within head e =
    by (frames_of g) (chain_of g) g.place.unfinished g.padding (left g) refl stands within e
  where
    by : (fs : List Frame) (ts : Forest) (o : Option UnfinishedEntry) (ws : List ℕ) (lim : ℕ)
        → lim ≡ left_behind g.header g.unit_length - length (place_bytes (context g) g.table fs ts o ws)
        → PlaceFits (context g) g.table fs ts o ws
        → length (place_bytes (context g) g.table fs ts o ws) ≤ left_behind g.header g.unit_length
        → whole_at fs ts o lim ≡ Some x
        → UnitFits (record { header = g.header; table = g.table; root = x; padding = ws })
        × (header_bytes g.header g.unit_length ++ place_bytes (context g) g.table fs ts o ws
        ≡ bytes_of (record { header = g.header; table = g.table; root = x; padding = ws }))
    by [] none (Some r) ws lim l h w e = absurd cc
    by [] (more y ts) (Some r) ws lim l h w e = absurd cc
    by (f ∷ fs) ts (Some r) ws lim l h w e = absurd cc
    by [] none None ws lim l h w e = absurd cc
    by (f ∷ fs) ts None ws lim l h w e = absurd cc
    by [] (more y (more z ts)) None ws lim l h w e = absurd h.spot_fits
    by [] (more y none) None ws (suc lim) l h w e = absurd cc
    by [] (more y none) None ws zero l h w e =
        let same : y ≡ x = cc in
        let full : length (place_bytes (context g) g.table [] (more y none) None ws)
        ≡ left_behind g.header g.unit_length =
        omega (arith, l, w) in
        let d = unit_done g.header g.unit_length g.table head y ws h full in
        subst (λ (z : Tree). UnitFits (record { header = g.header; table = g.table; root = z; padding = ws })
        × (header_bytes g.header g.unit_length ++ place_bytes (context g) g.table [] (more y none) None ws
        ≡ bytes_of (record { header = g.header; table = g.table; root = z; padding = ws }))) same d

-- ---- the steps of one call

module _ (g0 : PartialUnit) (piece : List ℕ) where
  -- the answer is right, and what has to be true after the call is
  abbrev pub RanSays : Ran → Type 0
  RanSays r = (r.over ≤ length piece) × FeedsBody (Reading g0) piece (length piece - r.over) r.answer r.new × Kept r.new

  -- where the feed is in the piece: these bytes are what is there of the field at its place, and what is left of the
  -- piece
  pub record At (g : PartialUnit) (bytes : List ℕ) : Type 0 where
    pub same : SameUnit g0 g
    pub keeps : Keeps g
    pub fit : AreBytes bytes
    pub split : stream g0 ++ piece ≡ before g ++ bytes
    pub over : wanted g bytes ≤ length bytes → length bytes - wanted g bytes ≤ length piece

  -- it doesn't hang on what is there of the field, and how it is kept
  pub at_holding : (g : PartialUnit) (field bytes : List ℕ) → At g bytes → At (holding g field) bytes
  at_holding g field bytes at = record {
    same = at.same;
    keeps = held_keeps g field at.keeps;
    fit = at.fit;
    split = at.split ∙ ap (λ (bs : List ℕ). bs ++ bytes) (sym (held_before g field));
    over =
        λ h.
        let o = at.over (omega (arith, h, held_wanted g field bytes)) in omega (arith, o, held_wanted g field bytes);
  }

  pub holding_at : (g : PartialUnit) (field bytes : List ℕ) → At (holding g field) bytes → At g bytes
  holding_at g field bytes at = record {
    same = at.same;
    keeps = keeps_held g field at.keeps;
    fit = at.fit;
    split = at.split ∙ ap (λ (bs : List ℕ). bs ++ bytes) (held_before g field);
    over =
        λ h.
        let o = at.over (omega (arith, h, held_wanted g field bytes)) in omega (arith, o, held_wanted g field bytes);
  }

  -- so a feed that takes more of the same field stays where it is
  pub at_same_field : (g g' : PartialUnit) (bytes : List ℕ) → holding g [] ≡ holding g' [] → At g bytes → At g' bytes
  at_same_field g g' bytes same at =
      holding_at g' [] bytes (subst (λ (x : PartialUnit). At x bytes) same (at_holding g [] bytes at))

  taken_to : (g : PartialUnit) (bytes : List ℕ) → At g bytes → (n : ℕ) → n ≤ length bytes
      → length bytes - n ≤ length piece
      → stream g0 ++ take (length piece - (length bytes - n)) piece ≡ before g ++ take n bytes
  taken_to g bytes at n le over =
      let left_over : length (drop n bytes) ≡ length bytes - n = length-drop n bytes in
      let parts : stream g0 ++ piece ≡ (before g ++ take n bytes) ++ drop n bytes =
      at.split ∙ ap (λ (bs : List ℕ). before g ++ bs) (sym (take-append-drop n bytes))
      ∙ sym (append_assoc (before g) (take n bytes) (drop n bytes)) in
      ap (λ (m : ℕ). stream g0 ++ take (length piece - m) piece) (sym left_over)
      ∙ cut_end (stream g0) piece (before g ++ take n bytes) (drop n bytes) parts (omega (arith, left_over, over))

  front_fit : (n : ℕ) (bytes : List ℕ) → AreBytes bytes → AreBytes (take n bytes)
  front_fit n bytes fit =
      front_is_bytes (take n bytes) (drop n bytes) (subst AreBytes (sym (take-append-drop n bytes)) fit)

  rest_fit : (n : ℕ) (bytes : List ℕ) → AreBytes bytes → AreBytes (drop n bytes)
  rest_fit n bytes fit =
      AreBytes-behind (take n bytes) (drop n bytes) (subst AreBytes (sym (take-append-drop n bytes)) fit)

  -- More: all that is left of the piece was taken, and the field wants more
  pub more_says : (g : PartialUnit) (bytes : List ℕ) → At g bytes → part g ≡ bytes → length bytes < wanted g bytes
      → RanSays (ran answers.More (Reading g) 0)
  more_says g bytes at is short =
      let longer : stream g ≡ stream g0 ++ piece = ap (λ (bs : List ℕ). before g ++ bs) is ∙ sym at.split in
      let none_over : length piece ≡ length piece - 0 = omega arith in
      let fit : AreBytes (part g) = subst AreBytes (sym is) at.fit in
      let wants : length (part g) < wanted g (part g) = omega (arith, short, ap length is, ap (wanted g) is) in (
        omega arith,
        subst (λ (n : ℕ). SaysMore g0 piece n g) none_over (says_more g0 g piece at.same longer at.keeps fit wants),
        (at.keeps, fit, inl wants),
      )

  -- Fault: the field is refused for good
  pub fault_says : (g : PartialUnit) (bytes : List ℕ) → At g bytes → wanted g bytes ≤ length bytes → (offset : ℕ)
      (reason : Reason) → next g bytes ≡ Broken offset reason
      → RanSays (ran (answers.Fault (fault_at g reason)) (Refused (fault_at g reason)) (length bytes - wanted g bytes))
  fault_says g bytes at enough offset reason e =
      let over : length bytes - wanted g bytes ≤ length piece = at.over enough in
      let for_good : reason ≢ Truncated = λ c. (has g).stands bytes (left g) enough (subst IsCut (sym e) c) in (
        over,
        (
          refl,
          says_fault g0 g piece (length piece - (length bytes - wanted g bytes)) at.same (omega arith)
              (take (wanted g bytes) bytes) (front_fit (wanted g bytes) bytes at.fit)
              (taken_to g bytes at (wanted g bytes) enough over) at.keeps offset reason for_good
              (own_next g bytes enough ∙ e) (own_enough g bytes enough),
        ),
        tt,
      )

  -- the field is refused, by the reader that gives the place behind it
  pub field_fault_says : (g : PartialUnit) (bytes : List ℕ) → At g bytes → (offset : ℕ) (reason : Reason)
      → field_at g bytes (left g) ≡ Broken offset reason → reason ≢ Truncated
      → RanSays (ran (answers.Fault (fault_at g reason)) (Refused (fault_at g reason)) (length bytes - wanted g bytes))
  field_fault_says g bytes at offset reason e ne =
      fault_says g bytes at (broken_wants g bytes offset reason e ne) offset reason
      (next_is g bytes (Broken offset reason) e)

  -- the field is found
  module _ (g : PartialUnit) (bytes : List ℕ) (at : At g bytes) (q : PlaceBehind) (size : ℕ)
      (e : field_at g bytes (left g) ≡ Found q size) where
    abbrev g1 : PartialUnit
    g1 = moved_to q.0 q.1 g

    seen : next g bytes ≡ Found tt size
    seen = next_is g bytes (Found q size) e

    want : wanted g bytes ≡ size
    want = (found_wants g bytes q size e).0

    le : size ≤ length bytes
    le = (found_wants g bytes q size e).1

    enough : wanted g bytes ≤ length bytes
    enough = omega (arith, want, le)

    own_size : length (take size bytes) ≡ size
    own_size = length-take-le size bytes le

    fit_own : AreBytes (take size bytes)
    fit_own = front_fit size bytes at.fit

    own_seen : next g (take size bytes) ≡ Found tt (length (take size bytes))
    own_seen =
        ap (λ (n : ℕ). next g (take n bytes)) (sym want) ∙ own_next g bytes enough ∙ seen
        ∙ ap (λ (n : ℕ). found tt n) (sym own_size)

    to : Follows (context g) g.table g.place g.padding bytes (left g) size q
    to =
        follows (context g) g.table (frames_of g) (chain_of g) g.place.unfinished g.padding bytes (left g) at.fit
        at.keeps.stands q size e

    behind : before g1 ≡ before g ++ take size bytes
    behind =
        ap (λ (bs : List ℕ). header_bytes g.header g.unit_length ++ bs) to.0.1
        ∙ sym (append_assoc (header_bytes g.header g.unit_length) (body_so_far g) (take size bytes))

    first : StandsFirst g (before g ++ take size bytes)
    first = found_first g at.keeps (take size bytes) fit_own own_seen

    over : length bytes - size ≤ length piece
    over = omega (arith, at.over enough, want)

    rest_long : length (drop size bytes) ≡ length bytes - size
    rest_long = length-drop size bytes

    within : length (body_so_far g1) ≤ left_behind g.header g.unit_length
    within =
        omega
        (arith, ap length to.0.1, length-append (body_so_far g) (take size bytes), own_size, to.1, at.keeps.within)

    -- Done: the unit is whole behind it
    pub done_says : (x : Tree) → root_if_whole g1 ≡ Some x
        → RanSays (ran (answers.Done (unit_with g1 x)) Finished (length (drop size bytes)))
    done_says x w =
        let d = whole_by g1 x to.0.0 within at.keeps.head w in
        let taken : stream g0 ++ take (length piece - (length bytes - size)) piece ≡ before g ++ take size bytes =
        taken_to g bytes at size le over in
        let first0 : StandsFirst g0 (stream g0 ++ take (length piece - (length bytes - size)) piece) =
        subst (StandsFirst g0) (sym taken) (same_first g0 g at.same (before g ++ take size bytes) first) in
        let says : SaysDone g0 piece (length piece - (length bytes - size)) (unit_with g1 x) =
        record {
          within = omega arith;
          header_is = at.same.0;
          table_is = at.same.2;
          fits = d.0;
          whole = taken ∙ sym behind ∙ d.1;
          first = first0;
        }
        in (
          omega (arith, rest_long, over),
          subst (λ (n : ℕ). SaysDone g0 piece (length piece - n) (unit_with g1 x)) (sym rest_long) says,
          tt,
        )

    -- or the feed goes on behind it
    pub goes_on : root_if_whole g1 ≡ None → At g1 (drop size bytes)
    goes_on w =
        let kept =
        keeps_on g at.keeps (take size bytes) q.0 q.1 fit_own own_seen (omega (arith, own_size, to.1)) to.0
        (unended_by g1 to.0.0 w) in
        record {
          same = at.same;
          keeps = kept.0;
          fit = rest_fit size bytes at.fit;
          split =
              at.split ∙ ap (λ (bs : List ℕ). before g ++ bs) (sym (take-append-drop size bytes))
              ∙ sym (append_assoc (before g) (take size bytes) (drop size bytes))
              ∙ ap (λ (bs : List ℕ). bs ++ drop size bytes) (sym behind);
          over = λ h. omega (arith, rest_long, over);
        }

-- ---- where a call begins

-- of the field at the place fewer bytes are there than it wants, or none
pub at_first : (g : PartialUnit) (piece : List ℕ) → Keeps g → AreBytes (part g ++ piece)
    → (length (part g) < wanted g (part g)) ⊎ (part g ≡ []) → At g piece g (part g ++ piece)
at_first g piece keeps fit waiting = record {
  same = (refl, refl, refl);
  keeps = keeps;
  fit = fit;
  split = append_assoc (before g) (part g) piece;
  over = λ enough. by waiting;
}
  where
    by : (length (part g) < wanted g (part g)) ⊎ (part g ≡ [])
        → length (part g ++ piece) - wanted g (part g ++ piece) ≤ length piece
    by (inr empty) = omega (arith, length-append (part g) piece, ap length empty)
    by (inl short) = elim (fewer_or_enough (length (part g)) (wanted g (part g ++ piece))) [
      | inl many ↦ omega (arith, many, length-append (part g) piece)
      | inr few ↦ absurd (omega (arith, short, (has g).early (part g) piece (left g) few))
    ]

-- what is true of a feed between its calls is enough
pub kept_at : (g : PartialUnit) (piece : List ℕ) → Kept (Reading g) → AreBytes piece → At g piece g (part g ++ piece)
kept_at g piece kept fit = at_first g piece kept.0 (joined_are_bytes (part g) piece kept.1 fit) (by kept.2)
  where
    by : (length (part g) < wanted g (part g)) ⊎ (g ≡ started g.header g.unit_length g.table)
        → (length (part g) < wanted g (part g)) ⊎ (part g ≡ [])
    by (inl short) = inl short
    by (inr new) = inr (ap part new)

-- ---- where the input ends

-- of the field at the place fewer bytes are there than it wants: it is cut off there
pub waiting_ends : (g : PartialUnit) → Keeps g → AreBytes (part g) → length (part g) < wanted g (part g)
    → EndsBody (Reading g) (Some (fault_at g Truncated))
waiting_ends g keeps fit short = cut_at_field g keeps (part g) fit short

-- what is there of it is refused
pub refused_ends : (g : PartialUnit) → Keeps g → AreBytes (part g) → (own : ℕ) (reason : Reason)
    → field_at g (part g) (left g) ≡ Broken own reason → EndsBody (Reading g) (Some (fault_at g reason))
refused_ends g keeps fit own reason e =
    refused g keeps (part g) own reason fit (next_is g (part g) (Broken own reason) e)
