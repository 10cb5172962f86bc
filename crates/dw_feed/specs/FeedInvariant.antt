-- What a body feed keeps from field to field: all before its place has a spelling, and with a byte less it was cut off.
use Rattle.std.proofs.Common.{◌≡◌, ℕ, ◌-◌, ◌<◌, ◌≤◌, ◌⊎◌, List, [], ◌∷◌, ◌++◌, length, None, refl, sym, ap, subst, ◌∙◌, append_assoc, append-nil, arith, inl, length-append}
use Rattle.std.proofs.lemmas.List.{same_from_push}
use Rattle.dw_leb.specs.declared.errors.Reason.{Reason}
use Rattle.dw_leb.specs.declared.errors.Reason.TheVariants.{Truncated}
use Rattle.dw_leb.specs.declared.errors.SectionId.TheVariants.{Info}
use Rattle.dw_leb.specs.Reader.{Outcome, Found, Broken}
use Rattle.dw_leb.specs.Decide.{AreBytes}
use Rattle.dw_form.specs.declared.shape.Ctx.{Ctx}
use Rattle.dw_abbrev.specs.Table.{Table}
use Rattle.dw_header.specs.Header.{Header, versions_for, context_of}
use Rattle.dw_header.specs.FittingHeaders.{accepted}
use Rattle.dw_header.specs.HeaderPlace.{header_bytes}
use Rattle.dw_header.specs.Laws.{HasHeaderBytes}
use Rattle.dw_tree.specs.Tree.{Forest, none}
use Rattle.dw_tree.specs.Spelling.{tree_bytes}
use Rattle.dw_tree.specs.Place.{Frame, Place}
use Rattle.dw_unit.specs.Unit.{left_behind, UnitBreaksUnder}
use Rattle.dw_header.specs.HeaderMoments.{header_front_waits}
use Rattle.dw_leb.specs.ByteLists.{front_is_bytes}
use Rattle.dw_feed.specs.PlaceBytes.{place_bytes}
use Rattle.dw_feed.specs.FieldPlace.{PlaceFits}
use Rattle.dw_feed.specs.NextPlace.{bytes_at}
use Rattle.dw_feed.specs.FieldFound.{Leads, at_start}
use Rattle.dw_feed.specs.NextField.{read_next, next_moment, next_has, GoesOn}
use Rattle.dw_feed.specs.UnitAtPlace.{unit_refused, unit_cut, unit_was_cut}
use Rattle.dw_feed.specs.BodyFeed.{PartialUnit, BodyFeed, Reading, Refused, Finished, started, part, before, BreaksAt, IsCutOff, StandsFirst}

abbrev pub frames_of : PartialUnit → List Frame
frames_of g = g.place.spot.above

abbrev pub chain_of : PartialUnit → Forest
chain_of g = g.place.spot.left

abbrev pub context : PartialUnit → Ctx
context g = context_of g.header

-- the bytes behind the header, up to the place
abbrev pub body_so_far : PartialUnit → List ℕ
body_so_far g = place_bytes (context g) g.table (frames_of g) (chain_of g) g.place.unfinished g.padding

-- how many bytes the unit has left there
abbrev pub left : PartialUnit → ℕ
left g = left_behind g.header g.unit_length - length (body_so_far g)

-- the next field, its value aside, over these bytes
abbrev pub next : PartialUnit → List ℕ → Outcome (Unit {0})
next g bytes = read_next (context g) g.table (frames_of g) (chain_of g) g.place.unfinished bytes (left g)

-- how many bytes it wants, given these
abbrev pub wanted : PartialUnit → List ℕ → ℕ
wanted g bytes = next_moment (context g) g.table (frames_of g) (chain_of g) g.place.unfinished bytes (left g)

-- the unit isn't whole before the next field
abbrev pub IsUnended : PartialUnit → Type 0
IsUnended g = GoesOn (context g) g.table (frames_of g) (chain_of g) g.place.unfinished (left g)

-- All before the place has a spelling, within the unit; the unit isn't whole there; and with a byte less it was cut
-- off.
pub record Keeps (g : PartialUnit) : Type 0 where
  pub head : HasHeaderBytes g.header g.unit_length
  pub stands : PlaceFits (context g) g.table (frames_of g) (chain_of g) g.place.unfinished g.padding
  pub within : length (body_so_far g) ≤ left_behind g.header g.unit_length
  pub unended : IsUnended g
  pub first : StandsFirst g (before g)

-- What is true of a feed between its calls: while it takes bytes, of the field at its place fewer bytes are there than
-- it wants, or it is new.
abbrev pub Kept : BodyFeed → Type 0
Kept (Reading g) =
    Keeps g × AreBytes (part g) × ((length (part g) < wanted g (part g)) ⊎ (g ≡ started g.header g.unit_length g.table))
Kept (Refused f) = Unit {0}
Kept Finished = Unit {0}

-- ---- what follows for the bytes of the field at the place

-- the front behind other bytes
front_in : (xs ps front : List ℕ) (p b : ℕ) → xs ++ (ps ++ p ∷ []) ≡ front ++ b ∷ [] → front ≡ xs ++ ps
front_in xs ps front p b e = sym (same_from_push (xs ++ ps) front p b (append_assoc xs ps (p ∷ []) ∙ e)).0

module _ (g : PartialUnit) (keeps : Keeps g) where
  -- the field wants more than these bytes: what was taken is cut off, at its first byte
  pub cut_at_field : (bytes : List ℕ) → AreBytes bytes → length bytes < wanted g bytes
      → BreaksAt g (before g ++ bytes) (record { section = Info; offset = length (before g); reason = Truncated })
  cut_at_field bytes fit short = (
    refl,
    unit_cut g.header g.unit_length g.table keeps.head (versions_for g.header.kind) (accepted g.header.kind)
        (frames_of g) (chain_of g) g.place.unfinished g.padding keeps.stands keeps.within bytes keeps.unended fit short,
  )

  pub waits : (bytes : List ℕ) → AreBytes bytes → length bytes < wanted g bytes → IsCutOff g (before g ++ bytes)
  waits bytes fit short = (length (before g), (cut_at_field bytes fit short).1)

  -- bytes of the field, no more than it wants: with one less it was cut off
  pub stood_first : (bytes rest : List ℕ) → AreBytes bytes → length bytes ≤ wanted g (bytes ++ rest)
      → StandsFirst g (before g ++ bytes)
  stood_first bytes rest fit enough front b e = by bytes refl
    where
      split : (x : ℕ) (xs : List ℕ) → (ps : List ℕ) × (p : ℕ) × (x ∷ xs ≡ ps ++ p ∷ [])
      split x [] = ([], x, refl)
      split x (y ∷ xs) = let s = split y xs in (x ∷ s.0, s.1, ap (λ (zs : List ℕ). x ∷ zs) s.2)

      by : (bs : List ℕ) → bytes ≡ bs → IsCutOff g front
      by [] same =
          keeps.first front b (sym (append-nil (before g)) ∙ ap (λ (bs : List ℕ). before g ++ bs) (sym same) ∙ e)
      by (x ∷ xs) same =
          let s = split x xs in
          let all : bytes ≡ s.0 ++ s.1 ∷ [] = same ∙ s.2 in
          let f : front ≡ before g ++ s.0 =
          front_in (before g) s.0 front s.1 b (ap (λ (bs : List ℕ). before g ++ bs) (sym all) ∙ e) in
          let is_front : bytes ++ rest ≡ s.0 ++ (s.1 ∷ rest) =
          ap (λ (bs : List ℕ). bs ++ rest) all ∙ append_assoc s.0 (s.1 ∷ []) rest in
          let short : length s.0 < wanted g (s.0 ++ (s.1 ∷ rest)) =
          omega (arith, ap length all, length-append s.0 (s.1 ∷ []), enough, ap (wanted g) is_front) in
          subst (IsCutOff g) (sym f) (
            length (before g),
            unit_was_cut g.header g.unit_length g.table keeps.head (versions_for g.header.kind) (accepted g.header.kind)
                (frames_of g) (chain_of g) g.place.unfinished g.padding keeps.stands keeps.within
                s.0 (s.1 ∷ rest) keeps.unended (front_is_bytes s.0 (s.1 ∷ []) (subst AreBytes all fit)) short,
          )

  -- the field is refused: what was taken breaks at its first byte
  pub refused : (bytes : List ℕ) (own : ℕ) (reason : Reason) → AreBytes bytes → next g bytes ≡ Broken own reason
      → BreaksAt g (before g ++ bytes) (record { section = Info; offset = length (before g); reason = reason })
  refused bytes own reason fit e = (
    refl,
    unit_refused g.header g.unit_length g.table keeps.head (versions_for g.header.kind) (accepted g.header.kind)
        (frames_of g) (chain_of g) g.place.unfinished g.padding keeps.stands keeps.within bytes own reason keeps.unended
        fit e,
  )

  -- the field is found in all of these bytes: with one less it was cut off
  pub found_first : (bytes : List ℕ) → AreBytes bytes → next g bytes ≡ Found tt (length bytes)
      → StandsFirst g (before g ++ bytes)
  found_first bytes fit e =
      let want : wanted g bytes ≡ length bytes =
      (next_has (context g) g.table (frames_of g) (chain_of g) g.place.unfinished).whole bytes (left g) tt
      (length bytes) e in
      stood_first bytes [] fit (omega (arith, want, ap (wanted g) (append-nil bytes)))

-- ---- where a feed begins

module _ (h : Header) (n : ℕ) (t : Table) (head : HasHeaderBytes h n) where
  -- a header without its last byte is cut off
  header_first : (front : List ℕ) (b : ℕ) → header_bytes h n ≡ front ++ b ∷ []
      → (offset : ℕ) × UnitBreaksUnder (versions_for h.kind) h.order t front offset Truncated
  header_first front b e =
      let w = header_front_waits (versions_for h.kind) h n (accepted h.kind) head front b [] e in (w.0, inl w.1)

  none_before : place_bytes (context_of h) t [] none None [] ≡ []
  unfolding tree_bytes
  none_before = refl

  -- a new feed keeps it
  pub start_keeps : Keeps (started h n t)
  start_keeps = record {
    head = head;
    stands = at_start (context_of h) t;
    within = omega (arith, ap length none_before);
    unended = tt;
    first =
        λ front b e.
        header_first front b
        (sym (append-nil (header_bytes h n)) ∙ ap (λ (bs : List ℕ). header_bytes h n ++ bs) (sym none_before) ∙ e);
  }

-- ---- from field to field

-- the feed at the next place
abbrev pub moved_to : Place → List ℕ → PartialUnit → PartialUnit
moved_to p padding g =
    record {
      header = g.header;
      unit_length = g.unit_length;
      table = g.table;
      place = p;
      padding = padding;
      named = None;
      to_come = 0;
      pending = [];
    }

-- It is kept at the next place, unless the unit is whole there.
pub keeps_on : (g : PartialUnit) → Keeps g → (bytes : List ℕ) (p : Place) (padding : List ℕ) → AreBytes bytes
    → next g bytes ≡ Found tt (length bytes) → length bytes ≤ left g
    → Leads (context g) g.table g.place g.padding bytes p padding → IsUnended (moved_to p padding g)
    → Keeps (moved_to p padding g) × (before (moved_to p padding g) ≡ before g ++ bytes)
keeps_on g keeps bytes p padding fit e room leads on =
    let old : List ℕ = bytes_at (context g) g.table g.place g.padding in
    let longer : before (moved_to p padding g) ≡ before g ++ bytes =
    ap (λ (bs : List ℕ). header_bytes g.header g.unit_length ++ bs) leads.1
    ∙ sym (append_assoc (header_bytes g.header g.unit_length) old bytes) in (
      record {
        head = keeps.head;
        stands = leads.0;
        within = omega (arith, ap length leads.1, length-append old bytes, room, keeps.within);
        unended = on;
        first = λ front b q. found_first g keeps bytes fit e front b (sym longer ∙ q);
      },
      longer,
    )
