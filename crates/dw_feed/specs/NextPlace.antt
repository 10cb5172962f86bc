-- The next place, behind a field that is found: all before it has a spelling too, and its bytes are those before the
-- field and the field's.
use Rattle.std.proofs.Common.{◌≡◌, ◌≢◌, ℕ, zero, suc, ◌-◌, ◌<◌, ◌≤◌, Bool, true, false, List, [], ◌∷◌, ◌++◌, length, take, drop, Option, Some, None, refl, sym, ap, subst, ◌∙◌, append_assoc, append-nil, arith, take_all}
use Rattle.std.specs.Prelude.{◌==◌}
use Rattle.std.proofs.lemmas.Bool.{eqb-true, eqb-false}
use Rattle.dw_leb.specs.Part.{Part, judged, optional}
use Rattle.dw_leb.specs.Number.{Unsigned, uleb}
use Rattle.dw_leb.specs.Repeat.{ItemsFit}
use Rattle.dw_form.specs.declared.shape.Ctx.{Ctx}
use Rattle.dw_form.specs.Form.{Attribute, attribute}
use Rattle.dw_abbrev.specs.Table.{Pair, Declaration, Table, declared, is_null, zero_of}
use Rattle.dw_tree.specs.Tree.{Tree, leaf, branch, Forest, none, more, Body, node_of, nodes_of, values, declared_pairs, declares_children, unless_declared, bad_child, body, children, nesting, nulls, AreNulls}
use Rattle.dw_tree.specs.Spelling.{entry_bytes, tree_bytes, forest_bytes}
use Rattle.dw_tree.specs.Row.{push}
use Rattle.dw_tree.specs.Place.{Frame, Spot, Place, leave_from}
use Rattle.dw_tree.specs.Steps.{first_values, FirstsFit, FirstFits, first_bytes, settled, settle_by, settle}
use Rattle.dw_feed.specs.PlaceBytes.{open_bytes, place_bytes}
use Rattle.dw_feed.specs.FieldPlace.{ChildFits, ChainFits, BeginsEntry, RootFits, LeftFits, BeforeFits, FramesFit, PaddingFits, PlaceFits}
use Rattle.dw_feed.specs.PlaceBreaks.{child_fits, root_fits}

module _ (k : Ctx) (t : Table) where
  -- all before a place has a spelling
  abbrev pub Stands : Place → List ℕ → Type 0
  Stands p padding = PlaceFits k t p.spot.above p.spot.left p.unfinished padding

  -- the bytes before it
  abbrev pub bytes_at : Place → List ℕ → List ℕ
  bytes_at p padding = place_bytes k t p.spot.above p.spot.left p.unfinished padding

  -- ---- one more closed entry

  chain_push : (room : ℕ) (ts : Forest) (x : Tree) → ChainFits k t (suc room) ts → ChildFits k t room x
      → ChainFits k t (suc room) (push ts x)
  chain_push room none x fits it = (it, tt)
  chain_push room (more y ts) x fits it = (fits.0, chain_push room ts x fits.1 it)

  closed_in : (fs : List Frame) (room : ℕ) (ts : Forest) (x : Tree) → FramesFit k t fs (suc room)
      → BeforeFits k t fs (suc room) ts → BeginsEntry k t (node_of x).0
      → (body k t (children k t room) (node_of x).0).Fits (node_of x).1
      → LeftFits k t fs (suc room) (push ts x)
  closed_in [] room ts x frames before begins fits =
      let deep : room ≡ nesting - 1 = omega (arith, frames) in
      subst (λ (us : Forest). RootFits k t (push us x)) (sym before) (
        root_fits k t (node_of x).0 begins,
        subst (λ (n : ℕ). (body k t (children k t n) (node_of x).0).Fits (node_of x).1) deep fits,
      )
  closed_in (f ∷ fs) room ts x frames before begins fits =
      chain_push room ts x before (child_fits k t (node_of x).0 begins, begins.some, fits)

  forest_push : (ts : Forest) (x : Tree) → forest_bytes k t (push ts x) ≡ forest_bytes k t ts ++ tree_bytes k t x
  unfolding tree_bytes
  forest_push none x = append-nil (tree_bytes k t x)
  forest_push (more y ts) x =
      ap (λ (bs : List ℕ). tree_bytes k t y ++ bs) (forest_push ts x)
      ∙ sym (append_assoc (tree_bytes k t y) (forest_bytes k t ts) (tree_bytes k t x))

  -- ---- an entry with some of its values

  no_kids_fit : (b : Bool) (kids : Part (Forest × Unsigned)) → b ≡ false → (optional b kids).Fits None
  no_kids_fit true kids e = absurd cc
  no_kids_fit false kids e = tt

  kids_fit : (b : Bool) (kids : Part (Forest × Unsigned)) (x : Forest × Unsigned) → b ≡ true → kids.Fits x
      → (optional b kids).Fits (Some x)
  kids_fit true kids x e h = h
  kids_fit false kids x e h = absurd cc

  module _ (fs : List Frame) (ts : Forest) (room : ℕ) (code : Unsigned) (vs : List Attribute)
      (frames : FramesFit k t fs (suc room)) (before : BeforeFits k t fs (suc room) ts)
      (begins : BeginsEntry k t code) (firsts : FirstsFit k (declared_pairs (declared t code.value)) vs)
      (within : length vs ≤ length (declared_pairs (declared t code.value))) where
    abbrev spot : Spot
    spot = record { above = fs; left = ts }

    abbrev pairs : List Pair
    pairs = declared_pairs (declared t code.value)

    whole : (d : Declaration) → declared t code.value ≡ Some d → length vs ≡ length d.pairs
        → take (length vs) pairs ≡ pairs
    whole d e n =
        take_all (length vs) pairs (omega (arith, n, ap (λ (o : Option Declaration). length (declared_pairs o)) e))

    all_fit : (d : Declaration) → declared t code.value ≡ Some d → length vs ≡ length d.pairs → (values k pairs).Fits vs
    all_fit d e n = subst (λ (ps : List Pair). (values k ps).Fits vs) (whole d e n) firsts

    settled_fits : (d : Declaration) → declared t code.value ≡ Some d → (b ch : Bool)
        → (length vs == length d.pairs) ≡ b → d.children ≡ ch → Stands (settled b ch spot code vs) []
    settled_fits d e true true h c = record {
      room = room;
      frames_fit = (
        record { begins = begins; values_fit = all_fit d e (eqb-true _ _ h); parent = ap declares_children e ∙ c },
        before,
        frames,
      );
      spot_fits = none_left room;
      padding_fits = tt;
    }
      where
        none_left : (n : ℕ) → ChainFits k t n none
        none_left zero = tt
        none_left (suc n) = tt
    settled_fits d e true false h c = record {
      room = suc room;
      frames_fit = frames;
      spot_fits =
          closed_in fs room ts (leaf code vs) frames before begins (
            all_fit d e (eqb-true _ _ h),
            no_kids_fit (declares_children (declared t code.value)) (children k t room) (ap declares_children e ∙ c),
          );
      padding_fits = tt;
    }
    settled_fits d e false ch h c = record {
      room = suc room;
      frames_fit = frames;
      spot_fits = record {
        begins = begins;
        deep = omega arith;
        before = before;
        values_fit = firsts;
        short =
            (let n = eqb-false _ _ h in
            let l : length pairs ≡ length d.pairs = ap (λ (o : Option Declaration). length (declared_pairs o)) e in
            lt_of (length vs) (length pairs) within (λ q. n (q ∙ l)));
      };
      padding_fits = tt;
    }
      where
        lt_of : (m n : ℕ) → m ≤ n → m ≢ n → m < n
        lt_of m n le ne = omega (arith, le, ne)

    -- it stands as it is settled
    pub settle_fits : Stands (settle t spot code vs) []
    settle_fits = by (declared t code.value) refl begins.known
      where
        by : (o : Option Declaration) → declared t code.value ≡ o → unless_declared o ≡ None
            → Stands (settle_by o spot code vs) []
        by None e h = absurd cc
        by (Some d) e h = settled_fits d e (length vs == length d.pairs) d.children refl refl

    abbrev so_far : List ℕ
    so_far = uleb.spell code ++ first_values k pairs vs

    own_bytes : (d : Declaration) → declared t code.value ≡ Some d → length vs ≡ length d.pairs
        → entry_bytes k t code vs ≡ so_far
    own_bytes d e n = ap (λ (ps : List Pair). uleb.spell code ++ (values k ps).spell vs) (sym (whole d e n))

    settled_bytes : (d : Declaration) → declared t code.value ≡ Some d → (b ch : Bool)
        → (length vs == length d.pairs) ≡ b
        → bytes_at (settled b ch spot code vs) [] ≡ open_bytes k t fs ++ (forest_bytes k t ts ++ so_far)
    unfolding tree_bytes
    settled_bytes d e true true h =
        append-nil (open_bytes k t fs ++ (forest_bytes k t ts ++ entry_bytes k t code vs))
        ∙ ap (λ (bs : List ℕ). open_bytes k t fs ++ (forest_bytes k t ts ++ bs)) (own_bytes d e (eqb-true _ _ h))
    settled_bytes d e true false h =
        ap (λ (bs : List ℕ). open_bytes k t fs ++ bs)
        (append-nil (forest_bytes k t (push ts (leaf code vs))) ∙ forest_push ts (leaf code vs))
        ∙ ap (λ (bs : List ℕ). open_bytes k t fs ++ (forest_bytes k t ts ++ bs)) (own_bytes d e (eqb-true _ _ h))
    settled_bytes d e false ch h =
        ap (λ (bs : List ℕ). open_bytes k t fs ++ (forest_bytes k t ts ++ bs)) (append-nil so_far)

    pub settle_bytes : bytes_at (settle t spot code vs) [] ≡ open_bytes k t fs ++ (forest_bytes k t ts ++ so_far)
    settle_bytes = by (declared t code.value) refl begins.known
      where
        by : (o : Option Declaration) → declared t code.value ≡ o → unless_declared o ≡ None
            → bytes_at (settle_by o spot code vs) [] ≡ open_bytes k t fs ++ (forest_bytes k t ts ++ so_far)
        by None e h = absurd cc
        by (Some d) e h = settled_bytes d e (length vs == length d.pairs) d.children refl

  -- ---- one more value

  pub firsts_more : (ps : List Pair) (vs : List Attribute) (v : Attribute) → FirstsFit k ps vs
      → FirstFits k (drop (length vs) ps) v → FirstsFit k ps (vs ++ v ∷ [])
  firsts_more [] [] v h n = absurd n
  firsts_more (p ∷ ps) [] v h n = (n, tt)
  firsts_more [] (w ∷ vs) v h n = absurd h
  firsts_more (p ∷ ps) (w ∷ vs) v h n = (h.0, firsts_more ps vs v h.1 n)

  pub firsts_bytes : (ps : List Pair) (vs : List Attribute) (v : Attribute) → FirstsFit k ps vs
      → FirstFits k (drop (length vs) ps) v
      → first_values k ps (vs ++ v ∷ []) ≡ first_values k ps vs ++ first_bytes k (drop (length vs) ps) v
  firsts_bytes [] [] v h n = absurd n
  firsts_bytes (p ∷ ps) [] v h n = append-nil ((attribute k p.form.value p.constant).spell v)
  firsts_bytes [] (w ∷ vs) v h n = absurd h
  firsts_bytes (p ∷ ps) (w ∷ vs) v h n =
      ap (λ (bs : List ℕ). (attribute k p.form.value p.constant).spell w ++ bs) (firsts_bytes ps vs v h.1 n)
      ∙ sym
      (append_assoc ((attribute k p.form.value p.constant).spell w) (first_values k ps vs)
      (first_bytes k (drop (length vs) ps) v))

  -- ---- an entry is closed

  chain_fits : (room : ℕ) (ts : Forest) (before : List (Unsigned × Body)) (w : ℕ) → ChainFits k t (suc room) ts
      → uleb.Fits (zero_of w)
      → ItemsFit (λ _. judged uleb (bad_child t true)) is_null (body k t (children k t room)) before (nodes_of ts)
      (zero_of w)
  chain_fits room none before w fits z = ((z, refl), refl)
  chain_fits room (more x ts) before w fits z = (fits.0, chain_fits room ts (before ++ node_of x ∷ []) w fits.1 z)

  children_fit : (room : ℕ) (ts : Forest) (w : ℕ) → ChainFits k t room ts → uleb.Fits (zero_of w)
      → (children k t room).Fits (ts, zero_of w)
  unfolding children
  children_fit zero none w fits z = ((z, refl), refl)
  children_fit zero (more x ts) w fits z = absurd fits
  children_fit (suc room) ts w fits z = chain_fits room ts [] w fits z

  pub leave_fits : (f : Frame) (fs : List Frame) (ts : Forest) (w : ℕ) → PlaceFits k t (f ∷ fs) ts None []
      → uleb.Fits (zero_of w)
      → PlaceFits k t (leave_from w (f ∷ fs) ts).above (leave_from w (f ∷ fs) ts).left None []
  leave_fits f fs ts w h z = record {
    room = suc h.room;
    frames_fit = h.frames_fit.2;
    spot_fits =
        closed_in fs h.room f.left (branch f.code f.values ts w) h.frames_fit.2 h.frames_fit.1 h.frames_fit.0.begins (
          h.frames_fit.0.values_fit,
          kids_fit (declares_children (declared t f.code.value)) (children k t h.room) (ts, zero_of w)
              h.frames_fit.0.parent (children_fit h.room ts w h.spot_fits z),
        );
    padding_fits = tt;
  }

  pub leave_bytes : (f : Frame) (fs : List Frame) (ts : Forest) (w : ℕ)
      → place_bytes k t (leave_from w (f ∷ fs) ts).above (leave_from w (f ∷ fs) ts).left None []
      ≡ place_bytes k t (f ∷ fs) ts None [] ++ uleb.spell (zero_of w)
  unfolding tree_bytes
  leave_bytes f fs ts w =
      let o : List ℕ = open_bytes k t fs in
      let l : List ℕ = forest_bytes k t f.left in
      let e : List ℕ = entry_bytes k t f.code f.values in
      let c : List ℕ = forest_bytes k t ts in
      let z : List ℕ = uleb.spell (zero_of w) in
      ap (λ (bs : List ℕ). o ++ bs)
      (append-nil (forest_bytes k t (push f.left (branch f.code f.values ts w)))
      ∙ forest_push f.left (branch f.code f.values ts w))
      ∙ (regroup o l e c z
      ∙ ap (λ (bs : List ℕ). ((o ++ (l ++ e)) ++ bs) ++ z) (sym (append-nil c)))
    where
      regroup : (o l e c z : List ℕ) → o ++ (l ++ (e ++ (c ++ z))) ≡ ((o ++ (l ++ e)) ++ c) ++ z
      regroup o l e c z =
          ap (λ (bs : List ℕ). o ++ bs) (sym (append_assoc l e (c ++ z)))
          ∙ (sym (append_assoc o (l ++ e) (c ++ z))
          ∙ sym (append_assoc (o ++ (l ++ e)) c z))

  -- ---- one more null behind the root

  nulls_more : (ws : List ℕ) (w : ℕ) → nulls (ws ++ w ∷ []) ≡ nulls ws ++ uleb.spell (zero_of w)
  nulls_more [] w = append-nil (uleb.spell (zero_of w))
  nulls_more (v ∷ ws) w =
      ap (λ (bs : List ℕ). uleb.spell (zero_of v) ++ bs) (nulls_more ws w)
      ∙ sym (append_assoc (uleb.spell (zero_of v)) (nulls ws) (uleb.spell (zero_of w)))

  are_more : (ws : List ℕ) (w : ℕ) → AreNulls ws → uleb.Fits (zero_of w) → AreNulls (ws ++ w ∷ [])
  are_more [] w h z = (z, tt)
  are_more (v ∷ ws) w h z = (h.0, are_more ws w h.1 z)

  pub pad_fits : (x : Tree) (ts : Forest) (ws : List ℕ) (w : ℕ) → PlaceFits k t [] (more x ts) None ws
      → uleb.Fits (zero_of w) → PlaceFits k t [] (more x ts) None (ws ++ w ∷ [])
  pad_fits x ts ws w h z =
      record { room = h.room; frames_fit = h.frames_fit; spot_fits = h.spot_fits; padding_fits = by ws h.padding_fits }
    where
      by : (ws : List ℕ) → PaddingFits k t [] (more x ts) None ws → PaddingFits k t [] (more x ts) None (ws ++ w ∷ [])
      by [] p = (z, tt)
      by (v ∷ ws) p = (p.0, are_more ws w p.1 z)

  pub pad_bytes : (x : Tree) (ts : Forest) (ws : List ℕ) (w : ℕ)
      → place_bytes k t [] (more x ts) None (ws ++ w ∷ [])
      ≡ place_bytes k t [] (more x ts) None ws ++ uleb.spell (zero_of w)
  pad_bytes x ts ws w =
      ap (λ (bs : List ℕ). forest_bytes k t (more x ts) ++ bs) (nulls_more ws w)
      ∙ sym (append_assoc (forest_bytes k t (more x ts)) (nulls ws) (uleb.spell (zero_of w)))
