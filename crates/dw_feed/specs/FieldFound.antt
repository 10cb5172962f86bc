-- Each field that is found at a place leads to the next place.
use Rattle.std.proofs.Common.{◌≡◌, ℕ, zero, suc, ◌-◌, ◌<◌, ◌≤◌, Bool, true, false, List, [], ◌∷◌, ◌++◌, length, drop, Option, Some, None, refl, sym, ap, subst, ◌∙◌, append_assoc, append-nil, arith, length-append}
use Rattle.std.specs.Prelude.{if◌then◌else◌}
use Rattle.dw_leb.specs.declared.errors.Reason.{Reason}
use Rattle.dw_leb.specs.declared.errors.Reason.TheVariants.{NoRoot, TooDeep}
use Rattle.dw_leb.specs.Part.{judged}
use Rattle.dw_leb.specs.Number.{Unsigned, uleb}
use Rattle.dw_form.specs.declared.shape.Ctx.{Ctx}
use Rattle.dw_form.specs.Form.{Attribute}
use Rattle.dw_abbrev.specs.Table.{Pair, Table, declared, is_null, zero_of}
use Rattle.dw_abbrev.specs.DecideTable.{null_is}
use Rattle.dw_tree.specs.Tree.{Tree, Forest, none, more, declared_pairs, unknown, bad_root, bad_child, nesting}
use Rattle.dw_tree.specs.Spelling.{forest_bytes}
use Rattle.dw_tree.specs.Place.{Frame, UnfinishedEntry, Place, leave}
use Rattle.dw_tree.specs.Steps.{first_values, FirstsFit, FirstFits, first_bytes, next_pairs, settle}
use Rattle.dw_feed.specs.Room.{has_room}
use Rattle.dw_feed.specs.PlaceBytes.{open_bytes, place_bytes}
use Rattle.dw_feed.specs.FieldPlace.{BeginsEntry, BeforeFits, FramesFit}
use Rattle.dw_feed.specs.PlaceBreaks.{room_is}
use Rattle.dw_feed.specs.NextPlace.{Stands, bytes_at, settle_fits, settle_bytes, firsts_more, firsts_bytes, leave_fits, leave_bytes, pad_fits, pad_bytes}

abbrev pub place : List Frame → Forest → Option UnfinishedEntry → Place
place fs ts o = record { spot = record { above = fs; left = ts }; unfinished = o }

module _ (k : Ctx) (t : Table) where
  -- the next place stands, behind these bytes
  abbrev pub Leads : Place → List ℕ → List ℕ → Place → List ℕ → Type 0
  Leads p padding field q padding' = Stands k t q padding' × (bytes_at k t q padding' ≡ bytes_at k t p padding ++ field)

  -- ---- what a code tells

  root_by : (v : Bool) (known : Option Reason) → (if v then Some NoRoot else known) ≡ None
      → (v ≡ false) × (known ≡ None)
  root_by true known h = absurd cc
  root_by false known h = (refl, h)

  pub root_begins : (code : Unsigned) → (judged uleb (bad_root t)).Fits code → BeginsEntry k t code
  root_begins code fits =
      let c = root_by (is_null code) (unknown t code.value) fits.1 in record { fits = fits.0; some = c.0; known = c.1 }

  child_by : (v room : Bool) (known : Option Reason) → v ≡ false
      → (if v then None else (if room then known else Some TooDeep)) ≡ None → (room ≡ true) × (known ≡ None)
  child_by true room known e h = absurd cc
  child_by false true known e h = (refl, h)
  child_by false false known e h = absurd cc

  room_some : (n : ℕ) → has_room n ≡ true → 0 < n
  room_some zero e = absurd cc
  room_some (suc n) e = omega arith

  -- ---- an entry begins, or is given a value

  -- it has these values so far
  entry_leads : (fs : List Frame) (ts : Forest) (room : ℕ) (code : Unsigned) (vs : List Attribute)
      → FramesFit k t fs room → 0 < room → BeforeFits k t fs room ts → BeginsEntry k t code
      → FirstsFit k (declared_pairs (declared t code.value)) vs
      → length vs ≤ length (declared_pairs (declared t code.value))
      → Stands k t (settle t (record { above = fs; left = ts }) code vs) []
      × (bytes_at k t (settle t (record { above = fs; left = ts }) code vs) []
      ≡ open_bytes k t fs
      ++ (forest_bytes k t ts ++ (uleb.spell code ++ first_values k (declared_pairs (declared t code.value)) vs)))
  entry_leads fs ts zero code vs frames deep before begins firsts within = absurd (omega (arith, deep))
  entry_leads fs ts (suc room) code vs frames deep before begins firsts within = (
    settle_fits k t fs ts room code vs frames before begins firsts within,
    settle_bytes k t fs ts room code vs frames before begins firsts within,
  )

  no_values : (ps : List Pair) → first_values k ps [] ≡ []
  no_values [] = refl
  no_values (p ∷ ps) = refl

  firsts_none : (ps : List Pair) → FirstsFit k ps []
  firsts_none [] = tt
  firsts_none (p ∷ ps) = tt

  begun_leads : (fs : List Frame) (ts : Forest) (room : ℕ) (code : Unsigned) → FramesFit k t fs room → 0 < room
      → BeforeFits k t fs room ts → BeginsEntry k t code
      → Leads (place fs ts None) [] (uleb.spell code) (settle t (record { above = fs; left = ts }) code []) []
  begun_leads fs ts room code frames deep before begins =
      let ps : List Pair = declared_pairs (declared t code.value) in
      let l = entry_leads fs ts room code [] frames deep before begins (firsts_none ps) (omega arith) in (
        l.0,
        l.1
            ∙ (ap (λ (bs : List ℕ). open_bytes k t fs ++ (forest_bytes k t ts ++ bs))
            (ap (λ (bs : List ℕ). uleb.spell code ++ bs) (no_values ps) ∙ append-nil (uleb.spell code))
            ∙ joined (open_bytes k t fs) (forest_bytes k t ts) (uleb.spell code)),
      )
    where
      joined : (a b c : List ℕ) → a ++ (b ++ c) ≡ (a ++ (b ++ ([] ++ []))) ++ c
      joined a b c = sym (append_assoc a b c) ∙ ap (λ (bs : List ℕ). (a ++ bs) ++ c) (sym (append-nil b))

  -- the root's code
  pub root_leads : (code : Unsigned) → Stands k t (place [] none None) [] → (judged uleb (bad_root t)).Fits code
      → Leads (place [] none None) [] (uleb.spell code) (settle t (record { above = []; left = none }) code []) []
  unfolding nesting
  root_leads code stands fits =
      begun_leads [] none stands.room code stands.frames_fit (omega (arith, stands.frames_fit)) refl
      (root_begins code fits)

  -- a code of a chain that begins an entry
  pub child_leads : (f : Frame) (fs : List Frame) (ts : Forest) (code : Unsigned)
      → Stands k t (place (f ∷ fs) ts None) []
      → (judged uleb (bad_child t (has_room (nesting - length (f ∷ fs))))).Fits code → is_null code ≡ false
      → Leads (place (f ∷ fs) ts None) [] (uleb.spell code) (settle t (record { above = f ∷ fs; left = ts }) code []) []
  child_leads f fs ts code stands fits some =
      let c = child_by (is_null code) (has_room (nesting - length (f ∷ fs))) (unknown t code.value) some fits.1 in
      let deep : 0 < stands.room =
      omega
      (arith, room_some (nesting - length (f ∷ fs)) c.0, room_is k t (f ∷ fs) stands.room stands.frames_fit) in
      begun_leads (f ∷ fs) ts stands.room code stands.frames_fit deep stands.spot_fits
      (record { fits = fits.0; some = some; known = c.1 })

  -- a null that ends a chain
  pub close_leads : (f : Frame) (fs : List Frame) (ts : Forest) (code : Unsigned)
      → Stands k t (place (f ∷ fs) ts None) [] → uleb.Fits code → is_null code ≡ true
      → Leads (place (f ∷ fs) ts None) [] (uleb.spell code)
      (record { spot = leave code.width (record { above = f ∷ fs; left = ts }); unfinished = None }) []
  close_leads f fs ts code stands fits null =
      let z : zero_of code.width ≡ code = null_is code null in (
        leave_fits k t f fs ts code.width stands (subst uleb.Fits (sym z) fits),
        leave_bytes k t f fs ts code.width
            ∙ ap (λ (c : Unsigned). place_bytes k t (f ∷ fs) ts None [] ++ uleb.spell c) z,
      )

  -- the next value
  pub value_leads : (fs : List Frame) (ts : Forest) (r : UnfinishedEntry) (v : Attribute)
      → Stands k t (place fs ts (Some r)) [] → FirstFits k (next_pairs t r) v
      → Leads (place fs ts (Some r)) [] (first_bytes k (next_pairs t r) v)
      (settle t (record { above = fs; left = ts }) r.code (r.values ++ v ∷ [])) []
  value_leads fs ts r v stands fits =
      let ps : List Pair = declared_pairs (declared t r.code.value) in
      let u = stands.spot_fits in
      let one : List ℕ = first_bytes k (drop (length r.values) ps) v in
      let l =
      entry_leads fs ts stands.room r.code (r.values ++ v ∷ []) stands.frames_fit u.deep u.before u.begins
      (firsts_more k t ps r.values v u.values_fit fits)
      (omega (arith, length-append r.values (v ∷ []), u.short)) in (
        l.0,
        l.1
            ∙ (ap (λ (bs : List ℕ). open_bytes k t fs ++ (forest_bytes k t ts ++ (uleb.spell r.code ++ bs)))
            (firsts_bytes k t ps r.values v u.values_fit fits)
            ∙ joined (open_bytes k t fs) (forest_bytes k t ts) (uleb.spell r.code) (first_values k ps r.values) one),
      )
    where
      joined : (a b c d e : List ℕ) → a ++ (b ++ (c ++ (d ++ e))) ≡ (a ++ (b ++ ((c ++ d) ++ []))) ++ e
      joined a b c d e =
          ap (λ (bs : List ℕ). a ++ (b ++ bs)) (sym (append_assoc c d e))
          ∙ (ap (λ (bs : List ℕ). a ++ bs) (sym (append_assoc b (c ++ d) e))
          ∙ (sym (append_assoc a (b ++ (c ++ d)) e)
          ∙ ap (λ (bs : List ℕ). (a ++ (b ++ bs)) ++ e) (sym (append-nil (c ++ d)))))

  -- a null behind the root
  pub pad_leads : (x : Tree) (ts : Forest) (ws : List ℕ) (code : Unsigned) → Stands k t (place [] (more x ts) None) ws
      → uleb.Fits code → is_null code ≡ true
      → Leads (place [] (more x ts) None) ws (uleb.spell code) (place [] (more x ts) None) (ws ++ code.width ∷ [])
  pad_leads x ts ws code stands fits null =
      let z : zero_of code.width ≡ code = null_is code null in (
        pad_fits k t x ts ws code.width stands (subst uleb.Fits (sym z) fits),
        pad_bytes k t x ts ws code.width
            ∙ ap (λ (c : Unsigned). place_bytes k t [] (more x ts) None ws ++ uleb.spell c) z,
      )

  -- where a unit begins
  pub at_start : Stands k t (place [] none None) []
  at_start = record { room = nesting; frames_fit = refl; spot_fits = tt; padding_fits = tt }
