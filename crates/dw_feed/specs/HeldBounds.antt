-- Bounds on what a feed holds: the entries and the bytes of texts and blocks are no more than the bytes that it took,
-- the values at most 1,024 times the entries, and no more entries are nested than may be.
use Rattle.std.proofs.Common.{◌≡◌, ℕ, zero, suc, ◌+◌, ◌-◌, ◌*◌, ◌≤◌, Bool, true, false, List, [], ◌∷◌, ◌++◌, length, Option, Some, None, refl, sym, ap, subst, arith, length-append, take}
use Rattle.std.specs.Prelude.{IsSome, if◌then◌else◌}
use Rattle.std.specs.List.{AllByRecursion}
use Rattle.dw_leb.specs.declared.errors.Reason.{Reason}
use Rattle.dw_leb.specs.declared.errors.Reason.TheVariants.{TooDeep}
use Rattle.dw_leb.specs.Part.{Part, judged, optional}
use Rattle.dw_leb.specs.Number.{Unsigned, uleb}
use Rattle.dw_leb.specs.Repeat.{ItemsFit}
use Rattle.dw_leb.specs.DecideNumber.{uleb_some}
use Rattle.dw_form.specs.declared.shape.Ctx.{Ctx}
use Rattle.dw_form.specs.Form.{Attribute, shape}
use Rattle.dw_form.specs.Pieces.{form_in, via_bytes}
use Rattle.dw_abbrev.specs.Table.{Pair, Declaration, Table, declared, is_null, zero_of}
use Rattle.dw_abbrev.specs.FewPairs.{FewPairs}
use Rattle.dw_tree.specs.Tree.{Tree, leaf, branch, Forest, none, more, Body, node_of, nodes_of, values, declared_pairs, declares_children, unless_declared, unknown, bad_child, body, children, nesting, nulls, AreNulls}
use Rattle.dw_tree.specs.Spelling.{forest_bytes}
use Rattle.dw_tree.specs.Row.{Token, branch_row, null_row, rows_of, all_rows, rows_bytes}
use Rattle.dw_tree.specs.Place.{Frame, PartialValue, UnfinishedEntry, rows_before}
use Rattle.dw_tree.specs.Steps.{first_values, partial_in, unfinished_bytes}
use Rattle.dw_tree.specs.PoolBytes.{joined, held, partial_bytes, read_bytes}
use Rattle.dw_tree.specs.DraftInvariant.{EntryFits, TokenFits}
use Rattle.dw_tree.specs.Counts.{count_entries, count_values, unfinished_entries, unfinished_values, few_entries, few_declared, few_values}
use Rattle.dw_tree.specs.Sizes.{values_short, rows_short}
use Rattle.dw_feed.specs.PlaceBytes.{open_bytes}
use Rattle.dw_feed.specs.PlaceRows.{place_rows}
use Rattle.dw_feed.specs.FieldPlace.{ChildFits, ChainFits, BeginsEntry, RootFits, BeforeFits, FramesFit, PaddingFits, PlaceFits}
use Rattle.dw_feed.specs.PlaceBreaks.{room_is}
use Rattle.dw_feed.specs.FieldFound.{root_begins}
use Rattle.dw_feed.specs.BodyFeed.{PartialUnit, first_form, count_if, pairs_left, value_part, part}
use Rattle.dw_feed.specs.HeldCounts.{held_by}
use Rattle.dw_feed.specs.HeldView.{HeldWithin}
use Rattle.dw_feed.specs.FeedInvariant.{Keeps, context, frames_of, chain_of, body_so_far}

module _ (k : Ctx) (t : Table) where
  abbrev pub RowsFit : List Token → Type 0
  RowsFit xs = AllByRecursion (TokenFits k t) xs

  pub rows_joined : (xs ys : List Token) → RowsFit xs → RowsFit ys → RowsFit (xs ++ ys)
  rows_joined [] ys h g = g
  rows_joined (x ∷ xs) ys h g = (h.0, rows_joined xs ys h.1 g)

  -- ---- the rows of trees that have a spelling

  known_some : (code : Unsigned) → unknown t code.value ≡ None → IsSome (declared t code.value)
  known_some code h = by (declared t code.value) h
    where
      by : (o : Option Declaration) → unless_declared o ≡ None → IsSome o
      by None h = absurd cc
      by (Some d) h = cc

  entry_fits : (code : Unsigned) (vs : List Attribute) → BeginsEntry k t code
      → (values k (declared_pairs (declared t code.value))).Fits vs → EntryFits k t code vs
  entry_fits code vs begins fits =
      record
      { code_fits = begins.fits; not_null = begins.some; known = known_some code begins.known; values_fit = fits }

  no_kids : (b : Bool) (kids : Part (Forest × Unsigned)) → (optional b kids).Fits None → b ≡ false
  no_kids true kids h = absurd h
  no_kids false kids h = refl

  some_kids : (b : Bool) (kids : Part (Forest × Unsigned)) (x : Forest × Unsigned) → (optional b kids).Fits (Some x)
      → (b ≡ true) × kids.Fits x
  some_kids true kids x h = (refl, h)
  some_kids false kids x h = absurd h

  begins_child : (room : ℕ) (x : Tree) → ChildFits k t room x → BeginsEntry k t (node_of x).0
  begins_child room x fits =
      record {
        fits = fits.0.0;
        some = fits.1;
        known = by (is_null (node_of x).0) (unknown t (node_of x).0.value) fits.1 fits.0.1;
      }
    where
      by : (null : Bool) (known : Option Reason) → null ≡ false
          → (if null then None else (if true then known else Some TooDeep)) ≡ None → known ≡ None
      by true known e h = absurd cc
      by false known e h = h

  mutual
    unfolding children

    tree_rows : (room : ℕ) (x : Tree) → BeginsEntry k t (node_of x).0
        → (body k t (children k t room) (node_of x).0).Fits (node_of x).1 → RowsFit (rows_of x)
    tree_rows room (leaf code vs) begins fits = (
      (
        entry_fits code vs begins fits.0,
        no_kids (declares_children (declared t code.value)) (children k t room) fits.1,
      ),
      tt,
    )
    tree_rows zero (branch code vs ts w) begins fits =
        let kids = some_kids (declares_children (declared t code.value)) (children k t zero) (ts, zero_of w) fits.1 in
        let chain = empty_rows ts w kids.1 in
        ((entry_fits code vs begins fits.0, kids.0), rows_joined (all_rows ts) (null_row w ∷ []) chain.0 (chain.1, tt))
    tree_rows (suc room) (branch code vs ts w) begins fits =
        let kids =
        some_kids (declares_children (declared t code.value)) (children k t (suc room)) (ts, zero_of w) fits.1 in
        let chain = items_rows room [] ts w kids.1 in
        ((entry_fits code vs begins fits.0, kids.0), rows_joined (all_rows ts) (null_row w ∷ []) chain.0 (chain.1, tt))

    empty_rows : (ts : Forest) (w : ℕ) → (children k t zero).Fits (ts, zero_of w)
        → RowsFit (all_rows ts) × uleb.Fits (zero_of w)
    empty_rows none w fits = (tt, fits.0.0)
    empty_rows (more x ts) w fits = absurd fits.0.2

    items_rows : (room : ℕ) (before : List (Unsigned × Body)) (ts : Forest) (w : ℕ)
        → ItemsFit (λ _. judged uleb (bad_child t true)) is_null (body k t (children k t room)) before (nodes_of ts)
        (zero_of w)
        → RowsFit (all_rows ts) × uleb.Fits (zero_of w)
    items_rows room before none w fits = (tt, fits.0.0)
    items_rows room before (more x ts) w fits =
        let others = items_rows room (before ++ node_of x ∷ []) ts w fits.1 in (
          rows_joined (rows_of x) (all_rows ts) (tree_rows room x (begins_child room x fits.0) fits.0.2) others.0,
          others.1,
        )

  -- ---- the rows before a place

  chain_rows : (room : ℕ) (ts : Forest) → ChainFits k t room ts → RowsFit (all_rows ts)
  chain_rows zero none fits = tt
  chain_rows zero (more x ts) fits = absurd fits
  chain_rows (suc room) none fits = tt
  chain_rows (suc room) (more x ts) fits =
      rows_joined (rows_of x) (all_rows ts) (tree_rows room x (begins_child room x fits.0) fits.0.2)
      (chain_rows (suc room) ts fits.1)

  root_rows : (ts : Forest) → RootFits k t ts → RowsFit (all_rows ts)
  root_rows none fits = tt
  root_rows (more x none) fits =
      rows_joined (rows_of x) [] (tree_rows (nesting - 1) x (root_begins k t (node_of x).0 fits.0) fits.1) tt
  root_rows (more x (more y ts)) fits = absurd fits

  -- the open entries with the closed ones before them
  frame_rows : (fs : List Frame) (room : ℕ) (ts : Forest) → FramesFit k t fs room → BeforeFits k t fs room ts
      → RowsFit (rows_before fs ts)
  frame_rows [] room ts frames before = subst (λ (us : Forest). RowsFit (all_rows us)) (sym before) tt
  frame_rows (f ∷ fs) room ts frames before =
      rows_joined (rows_before fs f.left) (branch_row f.code f.values ∷ all_rows ts)
      (frame_rows fs (suc room) f.left frames.2 frames.1)
      ((entry_fits f.code f.values frames.0.begins frames.0.values_fit, frames.0.parent), chain_rows room ts before)

  pub rows_fit : (fs : List Frame) (ts : Forest) (o : Option UnfinishedEntry) (ws : List ℕ) → PlaceFits k t fs ts o ws
      → RowsFit (rows_before fs ts)
  rows_fit [] ts None ws h = root_rows ts h.spot_fits
  rows_fit (f ∷ fs) ts None ws h = frame_rows (f ∷ fs) h.room ts h.frames_fit h.spot_fits
  rows_fit [] ts (Some r) ws h = frame_rows [] h.room ts h.frames_fit h.spot_fits.before
  rows_fit (f ∷ fs) ts (Some r) ws h = frame_rows (f ∷ fs) h.room ts h.frames_fit h.spot_fits.before

  -- the nulls of the padding
  pub nulls_fit : (fs : List Frame) (ts : Forest) (o : Option UnfinishedEntry) (ws : List ℕ)
      → PaddingFits k t fs ts o ws → AreNulls ws
  nulls_fit fs ts o [] h = tt
  nulls_fit [] (more x ts) None (w ∷ ws) h = h
  nulls_fit [] none None (w ∷ ws) h = absurd h
  nulls_fit [] none (Some r) (w ∷ ws) h = absurd h
  nulls_fit [] (more x ts) (Some r) (w ∷ ws) h = absurd h
  nulls_fit (f ∷ fs) ts o (w ∷ ws) h = absurd h

  -- ---- counted

  -- an unfinished entry has a byte at least, and more than the contents of its values
  few_unfinished : (fs : List Frame) (ts : Forest) (o : Option UnfinishedEntry) (ws : List ℕ) → PlaceFits k t fs ts o ws
      → unfinished_entries o ≤ length (unfinished_bytes k t o)
  few_unfinished fs ts None ws h = omega arith
  few_unfinished fs ts (Some r) ws h =
      omega (
        arith,
        uleb_some r.code h.spot_fits.begins.fits,
        length-append (uleb.spell r.code) (first_values k (declared_pairs (declared t r.code.value)) r.values),
      )

  short_unfinished : (fs : List Frame) (ts : Forest) (r : UnfinishedEntry) (ws : List ℕ)
      → PlaceFits k t fs ts (Some r) ws → length (joined r.values) ≤ length (unfinished_bytes k t (Some r))
  short_unfinished fs ts r ws h =
      let ps : List Pair = declared_pairs (declared t r.code.value) in
      omega (
        arith,
        (values_short k (take (length r.values) ps) r.values 0 h.spot_fits.values_fit).1,
        length-append (uleb.spell r.code) (first_values k ps r.values),
      )

few_nulls : (ws : List ℕ) → AreNulls ws → length ws ≤ length (nulls ws)
few_nulls [] h = omega arith
few_nulls (w ∷ ws) h =
    omega (arith, few_nulls ws h.1, uleb_some (zero_of w) h.0, length-append (uleb.spell (zero_of w)) (nulls ws))

-- ---- what a feed holds

module _ (g : PartialUnit) (keeps : Keeps g) where
  rows_here : RowsFit (context g) g.table (rows_before (frames_of g) (chain_of g))
  rows_here = rows_fit (context g) g.table (frames_of g) (chain_of g) g.place.unfinished g.padding keeps.stands

  -- the bytes before the place are those of the rows, of the unfinished entry, and of the padding
  parts_size : length (body_so_far g)
      ≡ length (rows_bytes (context g) g.table (rows_before (frames_of g) (chain_of g)))
      + (length (unfinished_bytes (context g) g.table g.place.unfinished) + length (nulls g.padding))
  parts_size =
      let o : List ℕ = open_bytes (context g) g.table (frames_of g) in
      let c : List ℕ = forest_bytes (context g) g.table (chain_of g) in
      let u : List ℕ = unfinished_bytes (context g) g.table g.place.unfinished in
      omega (
        arith,
        ap length (place_rows (context g) g.table (frames_of g) (chain_of g)),
        length-append o c,
        length-append o (c ++ (u ++ nulls g.padding)),
        length-append c (u ++ nulls g.padding),
        length-append u (nulls g.padding),
      )

  pub held_entries : (held_by g).entries ≤ length (body_so_far g)
  held_entries =
      omega (
        arith,
        parts_size,
        few_entries (rows_before (frames_of g) (chain_of g)),
        (rows_short (context g) g.table (rows_before (frames_of g) (chain_of g)) 0 rows_here).rows_short,
        few_unfinished (context g) g.table (frames_of g) (chain_of g) g.place.unfinished g.padding keeps.stands,
      )

  pub held_values : FewPairs g.table → (held_by g).values ≤ 1024 * (held_by g).entries
  held_values few =
      by (frames_of g) (chain_of g) g.place.unfinished g.padding keeps.stands
      (few_values (context g) g.table few (rows_before (frames_of g) (chain_of g)) rows_here)
    where
      by : (fs : List Frame) (ts : Forest) (o : Option UnfinishedEntry) (ws : List ℕ)
          → PlaceFits (context g) g.table fs ts o ws
          → count_values (rows_before fs ts) ≤ 1024 * count_entries (rows_before fs ts)
          → count_values (rows_before fs ts) + unfinished_values o
          ≤ 1024 * (count_entries (rows_before fs ts) + unfinished_entries o)
      by fs ts None ws h m = omega (arith, m)
      by fs ts (Some r) ws h m = omega (arith, m, h.spot_fits.short, few_declared g.table few r.code.value)

  pub held_nested : (held_by g).nested ≤ nesting
  held_nested = by (frames_of g) (chain_of g) g.place.unfinished g.padding keeps.stands
    where
      by : (fs : List Frame) (ts : Forest) (o : Option UnfinishedEntry) (ws : List ℕ)
          → PlaceFits (context g) g.table fs ts o ws → length fs + unfinished_entries o ≤ nesting
      by fs ts None ws h = omega (arith, room_is (context g) g.table fs h.room h.frames_fit)
      by fs ts (Some r) ws h = omega (arith, room_is (context g) g.table fs h.room h.frames_fit, h.spot_fits.deep)

  -- the bytes of a partial value were taken of the field at the place
  partial_in_part : (o : Option PartialValue) → partial_in g.place.unfinished ≡ o
      → length (partial_bytes o) ≤ length (part g)
  partial_in_part None e = omega arith
  partial_in_part (Some b) e =
      let n : List ℕ = via_bytes b.via in
      let c : List ℕ =
      count_if (context g)
      (shape (form_in (first_form (pairs_left g.table g.place.unfinished)) b.via) (context g).address_size
      (context g).format)
      b.width (length b.bytes + g.to_come) in
      omega (
        arith,
        ap (λ (p : Option PartialValue). length (value_part g p ++ g.pending)) e,
        length-append (n ++ (c ++ b.bytes)) g.pending,
        length-append n (c ++ b.bytes),
        length-append c b.bytes,
      )

  pub held_pool : (held_by g).pool ≤ length (body_so_far g ++ part g)
  held_pool =
      let xs : List Token = rows_before (frames_of g) (chain_of g) in
      omega (
        arith,
        parts_size,
        length-append (held xs) (read_bytes g.place.unfinished),
        (rows_short (context g) g.table xs 0 rows_here).content_short,
        by (frames_of g) (chain_of g) g.place.unfinished g.padding keeps.stands
            (partial_in_part (partial_in g.place.unfinished) refl),
        length-append (body_so_far g) (part g),
      )
    where
      by : (fs : List Frame) (ts : Forest) (o : Option UnfinishedEntry) (ws : List ℕ)
          → PlaceFits (context g) g.table fs ts o ws → length (partial_bytes (partial_in o)) ≤ length (part g)
          → length (read_bytes o) ≤ length (unfinished_bytes (context g) g.table o) + length (part g)
      by fs ts None ws h m = omega arith
      by fs ts (Some r) ws h m =
          omega (
            arith,
            m,
            short_unfinished (context g) g.table fs ts r ws h,
            length-append (joined r.values) (partial_bytes r.partial),
          )

  pub few_padding : length g.padding ≤ length (body_so_far g ++ part g)
  few_padding =
      omega (
        arith,
        parts_size,
        few_nulls g.padding
            (nulls_fit (context g) g.table (frames_of g) (chain_of g) g.place.unfinished g.padding
            keeps.stands.padding_fits),
        length-append (body_so_far g) (part g),
      )

  pub held_within : FewPairs g.table → length g.pending ≤ 16 → HeldWithin (length (body_so_far g ++ part g)) (held_by g)
  held_within few short = record {
    pending = short;
    nested = held_nested;
    entries = omega (arith, held_entries, length-append (body_so_far g) (part g));
    values = held_values few;
    pool = held_pool;
  }
