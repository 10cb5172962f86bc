-- Where the next field at a place breaks, the entries and the padding of the unit break there.
use Rattle.std.proofs.Common.{◌≡◌, ℕ, zero, suc, ◌+◌, ◌-◌, Bool, true, false, List, [], ◌∷◌, ◌++◌, length, drop, Option, Some, None, refl, sym, ap, ap₂, subst, ◌∙◌, append-nil, arith, inl, inr}
use Rattle.std.specs.Prelude.{if◌then◌else◌}
use Rattle.dw_leb.specs.declared.errors.Reason.{Reason}
use Rattle.dw_leb.specs.declared.errors.Reason.TheVariants.{NoRoot, TooDeep}
use Rattle.dw_leb.specs.Part.{Breaks, Part, After, judged, optional}
use Rattle.dw_leb.specs.Number.{Unsigned, uleb}
use Rattle.dw_form.specs.declared.shape.Ctx.{Ctx}
use Rattle.dw_form.specs.Form.{Attribute, attribute}
use Rattle.dw_abbrev.specs.Table.{Pair, Table, declared, is_null}
use Rattle.dw_tree.specs.Tree.{Tree, Forest, none, more, node_of, values, declared_pairs, declares_children, unknown, bad_root, bad_child, body, children, nesting, nulls, AreNulls, MoreBreaks, unit_tree}
use Rattle.dw_tree.specs.Spelling.{entry_bytes, tree_bytes, forest_bytes}
use Rattle.dw_tree.specs.Structure.{spelled_by_structure}
use Rattle.dw_tree.specs.Place.{Frame, UnfinishedEntry}
use Rattle.dw_tree.specs.Steps.{first_values, FirstsFit, unfinished_bytes, next_pairs}
use Rattle.dw_tree.specs.DecideTree.{After_split}
use Rattle.dw_feed.specs.Room.{has_room}
use Rattle.dw_unit.specs.Unit.{EntriesBreak}
use Rattle.dw_feed.specs.BreaksBehind.{AlsoBreaks, After_map, After_nil, After_same, behind_item}
use Rattle.dw_feed.specs.PlaceBytes.{open_bytes, place_bytes}
use Rattle.dw_feed.specs.FieldPlace.{ChildFits, ChainFits, BeginsEntry, IsOpen, FramesFit, SpotFits, PaddingFits, PlaceFits, ValueBreaks, NextBreaks}

module _ (k : Ctx) (t : Table) where
  -- ---- an entry of a chain is spelled by its structure alone

  child_spelled : (room : ℕ) (x : Tree) → ChildFits k t room x
      → uleb.spell (node_of x).0 ++ (body k t (children k t room) (node_of x).0).spell (node_of x).1 ≡ tree_bytes k t x
  child_spelled room x fits =
      spelled_by_structure k t room x
      ((fits.0.0, root_code (is_null (node_of x).0) (unknown t (node_of x).0.value) fits.1 fits.0.1), fits.2)
    where
      root_code : (null : Bool) (known : Option Reason) → null ≡ false
          → (if null then None else (if true then known else Some TooDeep)) ≡ None
          → (if null then Some NoRoot else known) ≡ None
      root_code true known e h = absurd cc
      root_code false known e h = h

  -- ---- a chain breaks behind its closed entries

  entry_in_chain : (room : ℕ) (x : Tree) → ChildFits k t room x
      → AlsoBreaks (After (tree_bytes k t x) (children k t (suc room)).Break) (children k t (suc room)).Break
  unfolding children
  entry_in_chain room x fits bytes lim offset reason h =
      behind_item (judged uleb (bad_child t true)) is_null (body k t (children k t room)) (node_of x) fits bytes lim
      offset reason
      (After_same (tree_bytes k t x) _ _ (sym (child_spelled room x fits)) bytes lim offset reason h)

  pub chain_behind : (room : ℕ) (ts : Forest) → ChainFits k t room ts
      → AlsoBreaks (After (forest_bytes k t ts) (children k t room).Break) (children k t room).Break
  unfolding tree_bytes
  chain_behind zero none fits = After_nil (children k t zero).Break
  chain_behind (suc room) none fits = After_nil (children k t (suc room)).Break
  chain_behind zero (more x ts) fits = absurd fits
  chain_behind (suc room) (more x ts) fits = λ bytes lim offset reason h.
      entry_in_chain room x fits.0 bytes lim offset reason
      (After_map (tree_bytes k t x) _ _ (chain_behind (suc room) ts fits.1) bytes lim offset reason
      (After_split (tree_bytes k t x) (forest_bytes k t ts) (children k t (suc room)).Break bytes lim offset reason h))

  -- ---- an entry's code and values, and then what belongs to it

  pub child_fits : (code : Unsigned) → BeginsEntry k t code → (judged uleb (bad_child t true)).Fits code
  child_fits code h = (h.fits, rw h.some h.known)

  pub root_fits : (code : Unsigned) → BeginsEntry k t code → (judged uleb (bad_root t)).Fits code
  root_fits code h = (h.fits, rw h.some h.known)

  abbrev kids_break : ℕ → Unsigned → Breaks
  kids_break room code = (body k t (children k t room) code).Break

  -- what belongs to a code breaks
  child_behind : (room : ℕ) (code : Unsigned) → BeginsEntry k t code
      → AlsoBreaks (After (uleb.spell code) (kids_break room code)) (children k t (suc room)).Break
  unfolding children
  child_behind room code fits bytes lim offset reason h = ([], inr (code, child_fits code fits, fits.some, h))

  root_behind : (code : Unsigned) → BeginsEntry k t code
      → AlsoBreaks (After (uleb.spell code) (kids_break (nesting - 1) code)) (unit_tree k t).Break
  root_behind code fits bytes lim offset reason h = inr (code, root_fits code fits, h)

  optional_break : (b : Bool) (kids : Part (Forest × Unsigned)) → b ≡ true
      → AlsoBreaks kids.Break (optional b kids).Break
  optional_break true kids e = λ bytes lim offset reason h. h
  optional_break false kids e = absurd cc

  -- the children break behind the values
  values_then : (room : ℕ) (f : Frame) → IsOpen k t f
      → AlsoBreaks
      (After ((values k (declared_pairs (declared t f.code.value))).spell f.values) (children k t room).Break)
      (kids_break room f.code)
  values_then room f fits bytes lim offset reason h =
      inr (
        f.values,
        fits.values_fit,
        After_map _ _ _ (optional_break (declares_children (declared t f.code.value)) (children k t room) fits.parent)
            bytes lim offset reason h,
      )

  opened_behind : (room : ℕ) (f : Frame) → IsOpen k t f
      → AlsoBreaks (After (entry_bytes k t f.code f.values) (children k t room).Break)
      (After (uleb.spell f.code) (kids_break room f.code))
  opened_behind room f fits bytes lim offset reason h =
      After_map (uleb.spell f.code) _ _ (values_then room f fits) bytes lim offset reason
      (After_split (uleb.spell f.code) ((values k (declared_pairs (declared t f.code.value))).spell f.values)
      (children k t room).Break bytes lim offset reason h)

  -- ---- the chain at a place breaks: so does the tree, behind the open entries

  pub chain_breaks : (f : Frame) (fs : List Frame) (room : ℕ) → FramesFit k t (f ∷ fs) room
      → AlsoBreaks (After (open_bytes k t (f ∷ fs)) (children k t room).Break) (unit_tree k t).Break
  unfolding tree_bytes
  chain_breaks f [] room fits bytes lim offset reason h =
      let deep : room ≡ nesting - 1 = omega (arith, fits.2) in
      let e : open_bytes k t (f ∷ []) ≡ entry_bytes k t f.code f.values =
      ap (λ (ts : Forest). forest_bytes k t ts ++ entry_bytes k t f.code f.values) fits.1 in
      root_behind f.code fits.0.begins bytes lim offset reason
      (opened_behind (nesting - 1) f fits.0 bytes lim offset reason
      (subst (λ (n : ℕ). After (entry_bytes k t f.code f.values) (children k t n).Break bytes lim offset reason) deep
      (After_same (open_bytes k t (f ∷ [])) (entry_bytes k t f.code f.values) _ e bytes lim offset reason h)))
  chain_breaks f (g ∷ gs) room fits bytes lim offset reason h =
      chain_breaks g gs (suc room) fits.2 bytes lim offset reason
      (After_map (open_bytes k t (g ∷ gs)) _ _ (λ bs l o r i.
      chain_behind (suc room) f.left fits.1 bs l o r
      (After_map (forest_bytes k t f.left) _ _
      (λ bs l o r j. child_behind room f.code fits.0.begins bs l o r (opened_behind room f fits.0 bs l o r j)) bs l
      o r
      (After_split (forest_bytes k t f.left) (entry_bytes k t f.code f.values) (children k t room).Break bs l o r i)))
      bytes lim offset reason
      (After_split (open_bytes k t (g ∷ gs)) (forest_bytes k t f.left ++ entry_bytes k t f.code f.values)
      (children k t room).Break bytes lim offset reason h))

  -- ---- the next value breaks

  pub value_behind : (ps : List Pair) (vs : List Attribute) → FirstsFit k ps vs
      → AlsoBreaks (After (first_values k ps vs) (ValueBreaks k t (drop (length vs) ps))) (values k ps).Break
  value_behind [] [] fits = λ bytes lim offset reason h. absurd (After_nil _ bytes lim offset reason h)
  value_behind (p ∷ ps) [] fits = λ bytes lim offset reason h. inl (After_nil _ bytes lim offset reason h)
  value_behind [] (v ∷ vs) fits = absurd fits
  value_behind (p ∷ ps) (v ∷ vs) fits = λ bytes lim offset reason h.
      inr (
        v,
        fits.0,
        After_map _ _ _ (value_behind ps vs fits.1) bytes lim offset reason
            (After_split ((attribute k p.form.value p.constant).spell v) (first_values k ps vs) _ bytes lim offset
            reason h),
      )

  read_behind : (room : ℕ) (r : UnfinishedEntry) → FirstsFit k (declared_pairs (declared t r.code.value)) r.values
      → AlsoBreaks (After (unfinished_bytes k t (Some r)) (ValueBreaks k t (next_pairs t r)))
      (After (uleb.spell r.code) (kids_break room r.code))
  read_behind room r fits bytes lim offset reason h =
      After_map (uleb.spell r.code) _ _
      (λ bs l o q i. inl (value_behind (declared_pairs (declared t r.code.value)) r.values fits bs l o q i)) bytes lim
      offset reason
      (After_split (uleb.spell r.code) (first_values k (declared_pairs (declared t r.code.value)) r.values) _ bytes lim
      offset reason h)

  -- ---- the room at a place

  pub room_is : (fs : List Frame) (room : ℕ) → FramesFit k t fs room → room + length fs ≡ nesting
  room_is [] room fits = omega (arith, fits)
  room_is (f ∷ fs) room fits = omega (arith, room_is fs (suc room) fits.2)

  child_code_breaks : (room : ℕ)
      → AlsoBreaks (judged uleb (bad_child t (has_room room))).Break (children k t room).Break
  unfolding children
  child_code_breaks zero bytes lim offset reason h = ([], inl h)
  child_code_breaks (suc room) bytes lim offset reason h = ([], inl h)

  -- ---- the theorem

  by_place : (fs : List Frame) (ts : Forest) (o : Option UnfinishedEntry) (padding : List ℕ) (room : ℕ)
      → FramesFit k t fs room → SpotFits k t fs ts room o → PaddingFits k t fs ts o padding
      → AlsoBreaks (After (place_bytes k t fs ts o padding) (NextBreaks k t fs ts o)) (EntriesBreak k t)
  unfolding tree_bytes
  by_place [] none None [] room frames here padded =
      λ bytes lim offset reason h. inl (inl (After_nil _ bytes lim offset reason h))
  by_place [] none (Some r) [] room frames here padded = λ bytes lim offset reason h.
      inl
      (root_behind r.code here.begins bytes lim offset reason
      (read_behind (nesting - 1) r here.values_fit bytes lim offset reason
      (After_same _ (unfinished_bytes k t (Some r)) _ (append-nil (unfinished_bytes k t (Some r))) bytes lim
      offset reason h)))
  by_place [] (more x none) None ws room frames here padded = λ bytes lim offset reason h.
      let e : place_bytes k t [] (more x none) None ws ≡ (unit_tree k t).spell x ++ nulls ws =
      ap₂ (λ (bs cs : List ℕ). bs ++ cs)
      (append-nil (tree_bytes k t x) ∙ sym (spelled_by_structure k t (nesting - 1) x here)) refl in
      inr (
        x,
        here,
        After_map _ _ _ (λ bs l o r i. (ws, padding_nulls ws padded, i)) bytes lim offset reason
            (After_split ((unit_tree k t).spell x) (nulls ws) MoreBreaks bytes lim offset reason
            (After_same _ _ _ e bytes lim offset reason h)),
      )
    where
      padding_nulls : (ws : List ℕ) → PaddingFits k t [] (more x none) None ws → AreNulls ws
      padding_nulls [] h = tt
      padding_nulls (w ∷ ws) h = h
  by_place [] (more x none) (Some r) ws room frames here padded = absurd cc
  by_place [] (more x (more y ts)) None ws room frames here padded = absurd here
  by_place [] (more x (more y ts)) (Some r) ws room frames here padded = absurd cc
  by_place [] none None (w ∷ ws) room frames here padded = absurd padded
  by_place [] none (Some r) (w ∷ ws) room frames here padded = absurd padded
  by_place (f ∷ fs) ts o (w ∷ ws) room frames here padded = absurd padded
  by_place (f ∷ fs) ts None [] room frames here padded = λ bytes lim offset reason h.
      let e : place_bytes k t (f ∷ fs) ts None [] ≡ open_bytes k t (f ∷ fs) ++ forest_bytes k t ts =
      ap (λ (bs : List ℕ). open_bytes k t (f ∷ fs) ++ bs) (append-nil (forest_bytes k t ts)) in
      let n : nesting - length (f ∷ fs) ≡ room = omega (arith, room_is (f ∷ fs) room frames) in
      inl (chain_breaks f fs room frames bytes lim offset reason
      (After_map _ _ _
      (λ bs l o r i.
      chain_behind room ts here bs l o r
      (After_map _ _ _
      (λ bs l o r j.
      child_code_breaks room bs l o r
      (subst (λ (m : ℕ). (judged uleb (bad_child t (has_room m))).Break bs l o r) n j))
      bs l o r i))
      bytes lim offset reason
      (After_split (open_bytes k t (f ∷ fs)) (forest_bytes k t ts) _ bytes lim offset reason
      (After_same _ _ _ e bytes lim offset reason h))))
  by_place (f ∷ fs) ts (Some r) [] zero frames here padded = absurd (omega (arith, here.deep))
  by_place (f ∷ fs) ts (Some r) [] (suc room) frames here padded = λ bytes lim offset reason h.
      let e : place_bytes k t (f ∷ fs) ts (Some r) []
      ≡ open_bytes k t (f ∷ fs) ++ (forest_bytes k t ts ++ unfinished_bytes k t (Some r)) =
      ap (λ (bs : List ℕ). open_bytes k t (f ∷ fs) ++ (forest_bytes k t ts ++ bs))
      (append-nil (unfinished_bytes k t (Some r))) in
      inl (chain_breaks f fs (suc room) frames bytes lim offset reason
      (After_map _ _ _ (λ bs l o q i. chain_behind (suc room) ts here.before bs l o q
      (After_map _ _ _
      (λ bs l o q j. child_behind room r.code here.begins bs l o q (read_behind room r here.values_fit bs l o q j))
      bs l o q
      (After_split (forest_bytes k t ts) (unfinished_bytes k t (Some r)) _ bs l o q i))) bytes lim offset reason
      (After_split (open_bytes k t (f ∷ fs)) (forest_bytes k t ts ++ unfinished_bytes k t (Some r)) _ bytes lim offset
      reason (After_same _ _ _ e bytes lim offset reason h))))

  -- Where all before a place has a spelling and the next field breaks there, the entries and the padding break so.
  pub place_breaks : (fs : List Frame) (ts : Forest) (o : Option UnfinishedEntry) (padding : List ℕ)
      → PlaceFits k t fs ts o padding
      → AlsoBreaks (After (place_bytes k t fs ts o padding) (NextBreaks k t fs ts o)) (EntriesBreak k t)
  place_breaks fs ts o padding h = by_place fs ts o padding h.room h.frames_fit h.spot_fits h.padding_fits
