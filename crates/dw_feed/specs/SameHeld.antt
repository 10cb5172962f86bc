-- The bytes that a feed took tell what it holds: before its place the same entries and values stand.
use Rattle.std.proofs.Common.{◌≡◌, ℕ, ◌<◌, ◌-◌, true, false, List, [], ◌∷◌, ◌++◌, length, take, drop, map, Option, Some, None, refl, sym, ap, ap₂, subst, ◌∙◌, append_assoc, append-nil, arith, take_all, length-append, option_map}
use Rattle.std.specs.Prelude.{fold}
use Rattle.std.proofs.lemmas.List.{take_at, drop_at}
use Rattle.dw_leb.specs.declared.errors.Reason.{Reason}
use Rattle.dw_leb.specs.Number.{Unsigned, uleb}
use Rattle.dw_leb.specs.PartLaws.{one_front}
use Rattle.dw_leb.specs.Reader.{Outcome, Found, Broken, mapped}
use Rattle.dw_leb.specs.ReadNumber.{read_uleb}
use Rattle.dw_leb.specs.DecideNumber.{uleb_decides, uleb_some}
use Rattle.dw_form.specs.declared.shape.Ctx.{Ctx}
use Rattle.dw_form.specs.Form.{Attribute, attribute}
use Rattle.dw_form.specs.ReadForm.{read_attribute}
use Rattle.dw_form.specs.DecideForm.{attribute_decides}
use Rattle.dw_abbrev.specs.Table.{Pair, Table, declared, is_null, zero_of}
use Rattle.dw_header.specs.Header.{versions_for, context_of}
use Rattle.dw_header.specs.HeaderPlace.{header_bytes}
use Rattle.dw_tree.specs.Tree.{Tree, leaf, branch, Forest, none, more, values, declared_pairs, declares_children, nulls, AreNulls}
use Rattle.dw_tree.specs.Spelling.{entry_bytes, forest_bytes}
use Rattle.dw_tree.specs.Row.{Token, leaf_row, branch_row, null_row, row_bytes, rows_bytes, rows_of, all_rows, push, join, join-none}
use Rattle.dw_tree.specs.RowBytes.{bytes_append}
use Rattle.dw_tree.specs.Place.{Frame, Spot, Place, UnfinishedEntry, add, enter, step, nowhere, spot_after, rows_before}
use Rattle.dw_tree.specs.Steps.{FirstsFit, first_values, next_pairs, unfinished_bytes, given_partial}
use Rattle.dw_tree.specs.ReadTree.{read_values}
use Rattle.dw_tree.specs.DecideTree.{values_decides}
use Rattle.dw_tree.specs.DraftInvariant.{EntryFits, TokenFits}
use Rattle.dw_tree.specs.Counts.{value_count}
use Rattle.dw_unit.specs.Unit.{UnitBreaksUnder}
use Rattle.dw_unit.specs.UnitLaws.{one_break}
use Rattle.dw_feed.specs.PlaceBytes.{open_bytes, place_bytes}
use Rattle.dw_feed.specs.PlaceRows.{place_rows}
use Rattle.dw_feed.specs.FieldPlace.{PaddingFits, SpotFits, PlaceFits}
use Rattle.dw_feed.specs.NextField.{nothing_of, read_next, read_next_value}
use Rattle.dw_feed.specs.HeldBounds.{RowsFit, rows_fit, rows_joined, nulls_fit}
use Rattle.dw_feed.specs.BodyFeed.{PartialUnit, Reading, part, before, stream, BreaksAt, SameUnit}
use Rattle.dw_feed.specs.FeedAnswers.{same_breaks}
use Rattle.dw_feed.specs.Laws.{HoldsSame}
use Rattle.dw_feed.specs.FeedInvariant.{Kept, frames_of, chain_of, context, left, next, refused, body_so_far}
use Rattle.dw_feed.specs.PlainFeed.{fault_at}
use Rattle.dw_feed.specs.FieldSteps.{HoldsPart}
use Rattle.dw_feed.specs.SamePart.{same_kept}
use Rattle.dw_feed.specs.HeldCounts.{held_at}
use Rattle.dw_unit.specs.Unit.{left_behind}
use Rattle.dw_feed.specs.EveryCut.{not_all_there}

-- ---- rows lead to the place behind them

fold-append : (s : Spot) (xs ys : List Token) → fold step s (xs ++ ys) ≡ fold step (fold step s xs) ys
fold-append s [] ys = refl
fold-append s (x ∷ xs) ys = fold-append (step s x) xs ys

join-push : (us : Forest) (x : Tree) (ts : Forest) → join (push us x) ts ≡ join us (more x ts)
join-push none x ts = refl
join-push (more u us) x ts = ap (more u) (join-push us x ts)

mutual
  after_tree : (s : Spot) (x : Tree) → fold step s (rows_of x) ≡ add x s
  after_tree s (leaf code vs) = refl
  after_tree s (branch code vs ts w) =
      fold-append (enter code vs s) (all_rows ts) (null_row w ∷ [])
      ∙ ap (λ (p : Spot). fold step p (null_row w ∷ [])) (after_all (enter code vs s) ts)

  after_all : (s : Spot) (ts : Forest) → fold step s (all_rows ts) ≡ record { above = s.above; left = join s.left ts }
  after_all s none = ap (λ (us : Forest). record { above = s.above; left = us }) (sym (join-none s.left))
  after_all s (more x ts) =
      fold-append s (rows_of x) (all_rows ts)
      ∙ (ap (λ (p : Spot). fold step p (all_rows ts)) (after_tree s x)
      ∙ (after_all (add x s) ts ∙ ap (λ (us : Forest). record { above = s.above; left = us }) (join-push s.left x ts)))

abbrev spot : List Frame → Forest → Spot
spot fs ts = record { above = fs; left = ts }

after_rows : (fs : List Frame) (ts : Forest) → spot_after (rows_before fs ts) ≡ spot fs ts
after_rows [] ts = after_all nowhere ts
after_rows (f ∷ fs) ts =
    fold-append nowhere (rows_before fs f.left) (branch_row f.code f.values ∷ all_rows ts)
    ∙ (ap (λ (p : Spot). fold step p (branch_row f.code f.values ∷ all_rows ts)) (after_rows fs f.left)
    ∙ after_all (enter f.code f.values (spot fs f.left)) ts)

-- nulls behind the root change nothing
nulls_stay : (ts : Forest) (ws : List ℕ) → fold step (spot [] ts) (map null_row ws) ≡ spot [] ts
nulls_stay ts [] = refl
nulls_stay ts (w ∷ ws) = nulls_stay ts ws

same_list : {X : Type 0} (xs ys zs ws : List X) → xs ≡ ys ++ zs → ys ≡ xs ++ ws → xs ≡ ys
same_list xs ys [] ws e q = e ∙ append-nil ys
same_list xs ys (z ∷ zs) ws e q =
    absurd (omega (arith, ap length e, ap length q, length-append ys (z ∷ zs), length-append xs ws))

none_joined : (xs ys : List ℕ) → [] ≡ xs ++ ys → xs ≡ []
none_joined [] ys e = refl
none_joined (x ∷ xs) ys e = cc

module _ (k : Ctx) (t : Table) where
  -- ---- values

  -- no value of the first pair is spelled in no bytes
  abbrev NeverEmpty : List Pair → Type 0
  NeverEmpty [] = Unit {0}
  NeverEmpty (p ∷ ps) =
      (v : Attribute) → (attribute k p.form.value p.constant).Fits v
      → (attribute k p.form.value p.constant).spell v ≡ [] → ⊥

  begins_as : (ps : List Pair) (vs ws : List Attribute) (rest : List ℕ) → FirstsFit k ps vs → FirstsFit k ps ws
      → NeverEmpty (drop (length vs) ps) → first_values k ps vs ≡ first_values k ps ws ++ rest
      → (zs : List Attribute) × (vs ≡ ws ++ zs)
  begins_as ps vs [] rest f g never e = (vs, refl)
  begins_as [] [] (w ∷ ws) rest f g never e = absurd g
  begins_as [] (v ∷ vs) (w ∷ ws) rest f g never e = absurd f
  begins_as (p ∷ ps) [] (w ∷ ws) rest f g never e =
      let one : List ℕ = (attribute k p.form.value p.constant).spell w in
      absurd
      (never w g.0
      (none_joined one (first_values k ps ws ++ rest) (e ∙ append_assoc one (first_values k ps ws) rest)))
  begins_as (p ∷ ps) (v ∷ vs) (w ∷ ws) rest f g never e =
      let one : List ℕ = (attribute k p.form.value p.constant).spell w in
      let same =
      one_front (attribute k p.form.value p.constant) (read_attribute k p.form.value p.constant)
      (attribute_decides k p.form.value p.constant) v w (first_values k ps vs) (first_values k ps ws ++ rest)
      f.0 g.0
      (e ∙ append_assoc one (first_values k ps ws) rest) in
      let others = begins_as ps vs ws rest f.1 g.1 never same.1 in
      (others.0, ap₂ (λ (x : Attribute) (xs : List Attribute). x ∷ xs) same.0 others.1)

  -- ---- an entry that waits for a value

  record EntryWaits (r : UnfinishedEntry) : Type 0 where
    code_fits : uleb.Fits r.code
    not_null : is_null r.code ≡ false
    firsts : FirstsFit k (declared_pairs (declared t r.code.value)) r.values
    short : length r.values < length (declared_pairs (declared t r.code.value))
    never : NeverEmpty (next_pairs t r)

  abbrev IsWaiting : Option UnfinishedEntry → Type 0
  IsWaiting None = Unit {0}
  IsWaiting (Some r) = EntryWaits r

  -- the pairs of two codes that are the same
  abbrev pairs : Unsigned → List Pair
  pairs code = declared_pairs (declared t code.value)

  -- its bytes aren't those of a row
  module _ (r : UnfinishedEntry) (w : EntryWaits r) (b : List ℕ) where
    no_entry : (code : Unsigned) (vs : List Attribute) → EntryFits k t code vs
        → unfinished_bytes k t (Some r) ≡ entry_bytes k t code vs ++ b → ⊥
    no_entry code vs fits e =
        let first =
        one_front uleb read_uleb uleb_decides r.code code (first_values k (pairs r.code) r.values)
        ((values k (pairs code)).spell vs ++ b) w.code_fits fits.code_fits
        (e ∙ append_assoc (uleb.spell code) ((values k (pairs code)).spell vs) b) in
        let own : (values k (pairs r.code)).Fits vs =
        subst (λ (u : Unsigned). (values k (pairs u)).Fits vs) (sym first.0) fits.values_fit in
        let all : length vs ≡ length (pairs r.code) = value_count k (pairs r.code) vs own in
        let whole : pairs r.code ≡ take (length vs) (pairs r.code) =
        sym (take_all (length vs) (pairs r.code) (omega (arith, all))) in
        let spelled : first_values k (pairs r.code) r.values ≡ (values k (pairs r.code)).spell vs ++ b =
        subst (λ (u : Unsigned). first_values k (pairs r.code) r.values ≡ (values k (pairs u)).spell vs ++ b)
        (sym first.0) first.1 in
        let began =
        begins_as (pairs r.code) r.values vs b w.firsts
        (subst (λ (ps : List Pair). (values k ps).Fits vs) whole own) w.never
        (subst (λ (ps : List Pair). first_values k (pairs r.code) r.values ≡ (values k ps).spell vs ++ b)
        whole spelled) in
        let longer : length r.values ≡ length (vs ++ began.0) = ap length {y = vs ++ began.0} began.1 in
        omega (arith, longer, length-append vs began.0, all, w.short)

    no_row : (x : Token) → TokenFits k t x → unfinished_bytes k t (Some r) ≡ row_bytes k t x ++ b → ⊥
    no_row (leaf_row code vs) fits e = no_entry code vs fits.0 e
    no_row (branch_row code vs) fits e = no_entry code vs fits.0 e
    no_row (null_row v) fits e =
        let first =
        one_front uleb read_uleb uleb_decides r.code (zero_of v) (first_values k (pairs r.code) r.values) b
        w.code_fits fits e in
        let q : false ≡ true = sym w.not_null ∙ ap is_null first.0 in
        cc

  -- ---- rows

  same_entry : (code other : Unsigned) (vs ws : List Attribute) (a b : List ℕ) → EntryFits k t code vs
      → EntryFits k t other ws → entry_bytes k t code vs ++ a ≡ entry_bytes k t other ws ++ b
      → (code ≡ other) × (vs ≡ ws) × (a ≡ b)
  same_entry code other vs ws a b f g e =
      let first =
      one_front uleb read_uleb uleb_decides code other ((values k (pairs code)).spell vs ++ a)
      ((values k (pairs other)).spell ws ++ b) f.code_fits g.code_fits
      (sym (append_assoc (uleb.spell code) ((values k (pairs code)).spell vs) a) ∙ e
      ∙ append_assoc (uleb.spell other) ((values k (pairs other)).spell ws) b)
      in
      let fits : (values k (pairs code)).Fits ws =
      subst (λ (u : Unsigned). (values k (pairs u)).Fits ws) (sym first.0) g.values_fit in
      let rest : (values k (pairs code)).spell vs ++ a ≡ (values k (pairs code)).spell ws ++ b =
      subst (λ (u : Unsigned). (values k (pairs code)).spell vs ++ a ≡ (values k (pairs u)).spell ws ++ b)
      (sym first.0) first.1 in
      let second =
      one_front (values k (pairs code)) (read_values k (pairs code)) (values_decides k (pairs code)) vs ws a b
      f.values_fit fits rest in
      (first.0, second.0, second.1)

  no_null : (code : Unsigned) (vs : List Attribute) (w : ℕ) (a b : List ℕ) → EntryFits k t code vs
      → uleb.Fits (zero_of w) → entry_bytes k t code vs ++ a ≡ uleb.spell (zero_of w) ++ b → ⊥
  no_null code vs w a b f g e =
      let first =
      one_front uleb read_uleb uleb_decides code (zero_of w) ((values k (pairs code)).spell vs ++ a) b
      f.code_fits g (sym (append_assoc (uleb.spell code) ((values k (pairs code)).spell vs) a) ∙ e) in
      let q : false ≡ true = sym f.not_null ∙ ap is_null first.0 in
      cc

  no_children : (code other : Unsigned) → code ≡ other → declares_children (declared t code.value) ≡ false
      → declares_children (declared t other.value) ≡ true → ⊥
  no_children code other e f g =
      let q : false ≡ true = sym f ∙ ap (λ (u : Unsigned). declares_children (declared t u.value)) e ∙ g in
      cc

  same_row : (x y : Token) (a b : List ℕ) → TokenFits k t x → TokenFits k t y
      → row_bytes k t x ++ a ≡ row_bytes k t y ++ b → (x ≡ y) × (a ≡ b)
  same_row (leaf_row code vs) (leaf_row other ws) a b f g e =
      let s = same_entry code other vs ws a b f.0 g.0 e in (ap₂ leaf_row s.0 s.1, s.2)
  same_row (branch_row code vs) (branch_row other ws) a b f g e =
      let s = same_entry code other vs ws a b f.0 g.0 e in (ap₂ branch_row s.0 s.1, s.2)
  same_row (null_row v) (null_row w) a b f g e =
      let s = one_front uleb read_uleb uleb_decides (zero_of v) (zero_of w) a b f g e in
      (ap (λ (u : Unsigned). null_row u.width) s.0, s.1)
  same_row (leaf_row code vs) (branch_row other ws) a b f g e =
      absurd (no_children code other (same_entry code other vs ws a b f.0 g.0 e).0 f.1 g.1)
  same_row (branch_row code vs) (leaf_row other ws) a b f g e =
      absurd (no_children other code (sym (same_entry code other vs ws a b f.0 g.0 e).0) g.1 f.1)
  same_row (leaf_row code vs) (null_row w) a b f g e = absurd (no_null code vs w a b f.0 g e)
  same_row (branch_row code vs) (null_row w) a b f g e = absurd (no_null code vs w a b f.0 g e)
  same_row (null_row v) (leaf_row other ws) a b f g e = absurd (no_null other ws v b a g.0 f (sym e))
  same_row (null_row v) (branch_row other ws) a b f g e = absurd (no_null other ws v b a g.0 f (sym e))

  row_some : (x : Token) → TokenFits k t x → 0 < length (row_bytes k t x)
  row_some (leaf_row code vs) f =
      omega (arith, uleb_some code f.0.code_fits, length-append (uleb.spell code) ((values k (pairs code)).spell vs))
  row_some (branch_row code vs) f =
      omega (arith, uleb_some code f.0.code_fits, length-append (uleb.spell code) ((values k (pairs code)).spell vs))
  row_some (null_row w) f = uleb_some (zero_of w) f

  -- the bytes of rows and of an unfinished entry
  abbrev all_bytes : List Token → Option UnfinishedEntry → List ℕ
  all_bytes xs o = rows_bytes k t xs ++ unfinished_bytes k t o

  rows_some : (x : Token) (xs : List Token) (o : Option UnfinishedEntry) → TokenFits k t x → [] ≡ all_bytes (x ∷ xs) o
      → ⊥
  rows_some x xs o f e =
      omega (
        arith,
        row_some x f,
        ap length e,
        length-append (row_bytes k t x ++ rows_bytes k t xs) (unfinished_bytes k t o),
        length-append (row_bytes k t x) (rows_bytes k t xs),
      )

  waiting_some : (r : UnfinishedEntry) → EntryWaits r → [] ≡ unfinished_bytes k t (Some r) → ⊥
  waiting_some r w e =
      omega (
        arith,
        uleb_some r.code w.code_fits,
        ap length e,
        length-append (uleb.spell r.code) (first_values k (pairs r.code) r.values),
      )

  same_waiting : (r s : UnfinishedEntry) → EntryWaits r → EntryWaits s
      → unfinished_bytes k t (Some r) ≡ unfinished_bytes k t (Some s) → given_partial None r ≡ given_partial None s
  same_waiting r s v w e =
      let first =
      one_front uleb read_uleb uleb_decides r.code s.code (first_values k (pairs r.code) r.values)
      (first_values k (pairs s.code) s.values) v.code_fits w.code_fits e in
      let firsts : FirstsFit k (pairs r.code) s.values =
      subst (λ (u : Unsigned). FirstsFit k (pairs u) s.values) (sym first.0) w.firsts in
      let never : NeverEmpty (drop (length s.values) (pairs r.code)) =
      subst (λ (u : Unsigned). NeverEmpty (drop (length s.values) (pairs u))) (sym first.0) w.never in
      let spelled : first_values k (pairs r.code) r.values ≡ first_values k (pairs r.code) s.values =
      subst (λ (u : Unsigned). first_values k (pairs r.code) r.values ≡ first_values k (pairs u) s.values)
      (sym first.0) first.1 in
      let a =
      begins_as (pairs r.code) r.values s.values [] v.firsts firsts v.never
      (spelled ∙ sym (append-nil (first_values k (pairs r.code) s.values))) in
      let b =
      begins_as (pairs r.code) s.values r.values [] firsts v.firsts never
      (sym spelled ∙ sym (append-nil (first_values k (pairs r.code) r.values))) in
      ap₂ (λ (code : Unsigned) (vs : List Attribute). record { code = code; values = vs; partial = None }) first.0
      (same_list r.values s.values a.0 b.0 a.1 b.1)

  -- the rows, and the unfinished entry but for a partial value
  record SameRows (xs ys : List Token) (o p : Option UnfinishedEntry) : Type 0 where
    rows : xs ≡ ys
    unfinished : option_map (given_partial None) o ≡ option_map (given_partial None) p

  same_rows : (xs ys : List Token) (o p : Option UnfinishedEntry) → RowsFit k t xs → RowsFit k t ys → IsWaiting o
      → IsWaiting p → all_bytes xs o ≡ all_bytes ys p → SameRows xs ys o p
  same_rows [] [] None None f g v w e = record { rows = refl; unfinished = refl }
  same_rows [] [] None (Some s) f g v w e = absurd (waiting_some s w e)
  same_rows [] [] (Some r) None f g v w e = absurd (waiting_some r v (sym e))
  same_rows [] [] (Some r) (Some s) f g v w e =
      record { rows = refl; unfinished = ap (λ (u : UnfinishedEntry). Some u) (same_waiting r s v w e) }
  same_rows [] (y ∷ ys) None p f g v w e = absurd (rows_some y ys p g.0 e)
  same_rows (x ∷ xs) [] o None f g v w e = absurd (rows_some x xs o f.0 (sym e))
  same_rows [] (y ∷ ys) (Some r) p f g v w e =
      absurd
      (no_row r v (all_bytes ys p) y g.0
      (e ∙ append_assoc (row_bytes k t y) (rows_bytes k t ys) (unfinished_bytes k t p)))
  same_rows (x ∷ xs) [] o (Some s) f g v w e =
      absurd
      (no_row s w (all_bytes xs o) x f.0
      (sym e ∙ append_assoc (row_bytes k t x) (rows_bytes k t xs) (unfinished_bytes k t o)))
  same_rows (x ∷ xs) (y ∷ ys) o p f g v w e =
      let s = same_row x y (all_bytes xs o) (all_bytes ys p) f.0 g.0
      (sym (append_assoc (row_bytes k t x) (rows_bytes k t xs) (unfinished_bytes k t o)) ∙ e
      ∙ append_assoc (row_bytes k t y) (rows_bytes k t ys) (unfinished_bytes k t p))
      in
      let others = same_rows xs ys o p f.1 g.1 v w s.1 in
      record { rows = ap₂ (λ (z : Token) (zs : List Token). z ∷ zs) s.0 others.rows; unfinished = others.unfinished }

  -- ---- the bytes before a place, as those of rows: the nulls of the padding are rows too

  abbrev rows_at : List Frame → Forest → List ℕ → List Token
  rows_at fs ts ws = rows_before fs ts ++ map null_row ws

  nulls_bytes : (ws : List ℕ) → rows_bytes k t (map null_row ws) ≡ nulls ws
  nulls_bytes [] = refl
  nulls_bytes (w ∷ ws) = ap (λ (bs : List ℕ). uleb.spell (zero_of w) ++ bs) (nulls_bytes ws)

  nulls_rows : (ws : List ℕ) → AreNulls ws → RowsFit k t (map null_row ws)
  nulls_rows [] h = tt
  nulls_rows (w ∷ ws) h = (h.0, nulls_rows ws h.1)

  bytes_without : (fs : List Frame) (ts : Forest) (ws : List ℕ)
      → place_bytes k t fs ts None ws ≡ all_bytes (rows_at fs ts ws) None
  bytes_without fs ts ws =
      let o : List ℕ = open_bytes k t fs in
      let c : List ℕ = forest_bytes k t ts in
      sym (append_assoc o c (nulls ws))
      ∙ ap₂ (λ (bs cs : List ℕ). bs ++ cs) (sym (place_rows k t fs ts)) (sym (nulls_bytes ws))
      ∙ sym (bytes_append k t (rows_before fs ts) (map null_row ws))
      ∙ sym (append-nil (rows_bytes k t (rows_at fs ts ws)))

  bytes_with : (fs : List Frame) (ts : Forest) (r : UnfinishedEntry)
      → place_bytes k t fs ts (Some r) [] ≡ all_bytes (rows_at fs ts []) (Some r)
  bytes_with fs ts r =
      let o : List ℕ = open_bytes k t fs in
      let c : List ℕ = forest_bytes k t ts in
      let u : List ℕ = unfinished_bytes k t (Some r) in
      ap (λ (bs : List ℕ). o ++ (c ++ bs)) (append-nil u)
      ∙ sym (append_assoc o c u)
      ∙ ap (λ (bs : List ℕ). bs ++ u)
      (sym (place_rows k t fs ts)
      ∙ ap (λ (xs : List Token). rows_bytes k t xs) (sym (append-nil (rows_before fs ts))))

  bytes_are : (fs : List Frame) (ts : Forest) (o : Option UnfinishedEntry) (ws : List ℕ) → PaddingFits k t fs ts o ws
      → place_bytes k t fs ts o ws ≡ all_bytes (rows_at fs ts ws) o
  bytes_are fs ts None ws h = bytes_without fs ts ws
  bytes_are fs ts (Some r) [] h = bytes_with fs ts r
  bytes_are [] none (Some r) (w ∷ ws) h = absurd h
  bytes_are [] (more x ts) (Some r) (w ∷ ws) h = absurd h
  bytes_are (f ∷ fs) ts (Some r) (w ∷ ws) h = absurd h

  leads_to : (fs : List Frame) (ts : Forest) (o : Option UnfinishedEntry) (ws : List ℕ) → PaddingFits k t fs ts o ws
      → spot_after (rows_at fs ts ws) ≡ spot fs ts
  leads_to fs ts o ws h =
      fold-append nowhere (rows_before fs ts) (map null_row ws)
      ∙ (ap (λ (p : Spot). fold step p (map null_row ws)) (after_rows fs ts) ∙ by fs ts o ws h)
    where
      by : (fs : List Frame) (ts : Forest) (o : Option UnfinishedEntry) (ws : List ℕ) → PaddingFits k t fs ts o ws
          → fold step (spot fs ts) (map null_row ws) ≡ spot fs ts
      by fs ts o [] h = refl
      by [] ts o (w ∷ ws) h = nulls_stay ts ws
      by (f ∷ fs) ts o (w ∷ ws) h = absurd h

  -- the same bytes before two places: the same stands before them
  module _ (fs gs : List Frame) (ts us : Forest) (o p : Option UnfinishedEntry) (vs ws : List ℕ)
      (f : PlaceFits k t fs ts o vs) (g : PlaceFits k t gs us p ws) (v : IsWaiting o) (w : IsWaiting p)
      (e : place_bytes k t fs ts o vs ≡ place_bytes k t gs us p ws) where
    same_before : SameRows (rows_at fs ts vs) (rows_at gs us ws) o p
    same_before =
        same_rows (rows_at fs ts vs) (rows_at gs us ws) o p
        (rows_joined k t (rows_before fs ts) (map null_row vs) (rows_fit k t fs ts o vs f)
        (nulls_rows vs (nulls_fit k t fs ts o vs f.padding_fits)))
        (rows_joined k t (rows_before gs us) (map null_row ws) (rows_fit k t gs us p ws g)
        (nulls_rows ws (nulls_fit k t gs us p ws g.padding_fits)))
        v w (sym (bytes_are fs ts o vs f.padding_fits) ∙ e ∙ bytes_are gs us p ws g.padding_fits)

    same_spot : spot fs ts ≡ spot gs us
    same_spot =
        sym (leads_to fs ts o vs f.padding_fits) ∙ ap spot_after same_before.rows ∙ leads_to gs us p ws g.padding_fits

-- ---- a feed

-- the unit breaks at its place
breaks_there : (g : PartialUnit) → Kept (Reading g) → (reason : Reason) × BreaksAt g (stream g) (fault_at g reason)
breaks_there g kept = by (next g (part g)) refl
  where
    by : (o : Outcome (Unit {0})) → next g (part g) ≡ o → (reason : Reason) × BreaksAt g (stream g) (fault_at g reason)
    by (Found x size) e = absurd (not_all_there g kept x size e)
    by (Broken at reason) e = (reason, refused g kept.0 (part g) at reason kept.1 e)

read_is : (k : Ctx) (t : Table) (fs : List Frame) (ts : Forest) (r : UnfinishedEntry) (bytes : List ℕ) (lim : ℕ)
    → read_next k t fs ts (Some r) bytes lim ≡ read_next_value k t (next_pairs t r) bytes lim
read_is k t [] none r bytes lim = refl
read_is k t [] (more x ts) r bytes lim = refl
read_is k t (f ∷ fs) ts r bytes lim = refl

-- its unfinished entry waits for a value that has bytes
waits_for : (g : PartialUnit) → Kept (Reading g) → IsWaiting (context g) g.table g.place.unfinished
waits_for g kept = by g.place.unfinished refl kept.0.stands.spot_fits
  where
    k : Ctx
    k = context g

    never : (r : UnfinishedEntry) → g.place.unfinished ≡ Some r → (ps : List Pair) → next_pairs g.table r ≡ ps
        → NeverEmpty k g.table ps
    never r e [] q = tt
    never r e (p ∷ ps) q = λ v fits empty.
        let took =
        (attribute_decides k p.form.value p.constant).takes v (part g) (left g) fits
        (omega (arith, ap length empty)) in
        let there =
        ap (λ (s : List ℕ). read_attribute k p.form.value p.constant (s ++ part g) (left g)) (sym empty) ∙ took in
        not_all_there g kept tt (length ((attribute k p.form.value p.constant).spell v))
        (ap (λ (o : Option UnfinishedEntry). read_next k g.table (frames_of g) (chain_of g) o (part g) (left g)) e
        ∙ read_is k g.table (frames_of g) (chain_of g) r (part g) (left g)
        ∙ ap (λ (qs : List Pair). read_next_value k g.table qs (part g) (left g)) q
        ∙ ap (mapped {X = Unit {0}} nothing_of) there)

    by : (o : Option UnfinishedEntry) → g.place.unfinished ≡ o
        → SpotFits k g.table (frames_of g) (chain_of g) kept.0.stands.room o → IsWaiting k g.table o
    by None e h = tt
    by (Some r) e h =
        record {
          code_fits = h.begins.fits;
          not_null = h.begins.some;
          firsts = h.values_fit;
          short = h.short;
          never = never r e (next_pairs g.table r) refl;
        }

-- ---- two feeds of a unit that took the same bytes

module _ (g h : PartialUnit) (same : SameUnit g h) (a : Kept (Reading g)) (b : Kept (Reading h)) (here : HoldsPart g)
    (there : HoldsPart h) (e : stream g ≡ stream h) where
  abbrev n : ℕ
  n = length (before g)

  same_offset : length (before h) ≡ n
  same_offset =
      let x = breaks_there g a in
      let y = breaks_there h b in
      let there =
      subst
      (λ (s : List ℕ).
      UnitBreaksUnder (versions_for g.header.kind) g.header.order g.table s (length (before h)) y.0)
      (sym e) (same_breaks g h same (stream h) (length (before h)) y.0 y.1.1) in
      sym
      (one_break (versions_for g.header.kind) g.header.order g.table (stream g) n (length (before h)) x.0 y.0 x.1.1
      there).0

  before_is : before g ≡ before h
  before_is = sym (take_at (before g) (part g) n refl) ∙ ap (take n) e ∙ take_at (before h) (part h) n same_offset

  -- of the field at its place the same is there
  part_is : part g ≡ part h
  part_is = sym (drop_at (before g) (part g) n refl) ∙ ap (drop n) e ∙ drop_at (before h) (part h) n same_offset

  body_is : body_so_far g ≡ body_so_far h
  body_is =
      let head : List ℕ = header_bytes g.header g.unit_length in
      let heads : header_bytes h.header h.unit_length ≡ head = ap₂ header_bytes same.0 same.1 in
      sym (drop_at head (body_so_far g) (length head) refl) ∙ ap (drop (length head)) before_is
      ∙ drop_at (header_bytes h.header h.unit_length) (body_so_far h) (length head) (ap length heads)

  context_is : context h ≡ context g
  context_is = ap context_of same.0

  fits_there : PlaceFits (context g) g.table (frames_of h) (chain_of h) h.place.unfinished h.padding
  fits_there =
      subst (λ (k : Ctx). PlaceFits k g.table (frames_of h) (chain_of h) h.place.unfinished h.padding) context_is
      (subst (λ (t : Table). PlaceFits (context h) t (frames_of h) (chain_of h) h.place.unfinished h.padding) same.2
      b.0.stands)

  waits_there : IsWaiting (context g) g.table h.place.unfinished
  waits_there =
      subst (λ (k : Ctx). IsWaiting k g.table h.place.unfinished) context_is
      (subst (λ (t : Table). IsWaiting (context h) t h.place.unfinished) same.2 (waits_for h b))

  bytes_there : place_bytes (context g) g.table (frames_of g) (chain_of g) g.place.unfinished g.padding
      ≡ place_bytes (context g) g.table (frames_of h) (chain_of h) h.place.unfinished h.padding
  bytes_there =
      body_is
      ∙ ap₂ (λ (k : Ctx) (t : Table). place_bytes k t (frames_of h) (chain_of h) h.place.unfinished h.padding)
      context_is same.2

  rows_are :
      SameRows (context g) g.table (rows_at (context g) g.table (frames_of g) (chain_of g) g.padding)
      (rows_at (context g) g.table (frames_of h) (chain_of h) h.padding) g.place.unfinished h.place.unfinished
  rows_are =
      same_before (context g) g.table (frames_of g) (frames_of h) (chain_of g) (chain_of h) g.place.unfinished
      h.place.unfinished g.padding h.padding a.0.stands fits_there (waits_for g a) waits_there bytes_there

  spot_is : spot (frames_of g) (chain_of g) ≡ spot (frames_of h) (chain_of h)
  spot_is =
      same_spot (context g) g.table (frames_of g) (frames_of h) (chain_of g) (chain_of h) g.place.unfinished
      h.place.unfinished g.padding h.padding a.0.stands fits_there (waits_for g a) waits_there bytes_there

  left_is : left g ≡ left h
  left_is = ap₂ (λ (m n : ℕ). m - n) (sym (ap₂ left_behind same.0 same.1)) (ap length body_is)

  kept_is : (g.place.unfinished ≡ h.place.unfinished) × (g.pending ≡ h.pending)
  kept_is =
      same_kept g h (sym context_is) (sym same.2) left_is rows_are.unfinished here.0 there.0 here.1 there.1 part_is

  -- so they stand at the same place, and the same is kept there
  place_is : g.place ≡ h.place
  place_is = ap₂ (λ (s : Spot) (o : Option UnfinishedEntry). record { spot = s; unfinished = o }) spot_is kept_is.0

  pub holds_same : HoldsSame g h
  holds_same =
      record { part = part_is; held = ap₂ (λ (p : Place) (bytes : List ℕ). held_at p bytes) place_is kept_is.1 }
