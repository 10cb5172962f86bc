-- The lists of a draft: what they stand for, and what each call makes of them.
use Rattle.std.proofs.Common.{◌≡◌, ℕ, ◌+◌, ◌-◌, ◌*◌, ◌≤◌, ◌<◌, ◌^◌, List, [], ◌∷◌, ◌++◌, length, take, drop, get_or, set, refl, sym, ◌∙◌, ap, ap₂, subst, arith, length-append, append-nil, Bool, true, false, cond, eqb, Option, Some, None, option_map}
use Rattle.std.proofs.lemmas.Bool.Decides.{nat_tests}
use Rattle.std.proofs.lemmas.List.{length-take}
use Rattle.std.proofs.Math.Nat.{min-le_right}
use Rattle.std.specs.List.{AllByRecursion}
use Rattle.dw_leb.specs.Number.{Unsigned, uleb}
use Rattle.dw_leb.specs.View.{uleb_of}
use Rattle.dw_leb.specs.DecideNumber.{length-uleb}
use Rattle.dw_form.specs.declared.shape.Ctx.{Ctx}
use Rattle.dw_form.specs.Form.{Attribute, attribute}
use Rattle.dw_form.specs.StoredView.{bytes_in}
use Rattle.dw_form.specs.Head.{finder, head}
use Rattle.dw_form.specs.HeadFront.{front_bytes, head_front}
use Rattle.dw_abbrev.specs.Table.{Pair, Declaration, Table, declared, zero_of}
use Rattle.dw_tree.specs.declared.row.Row.{Row}
use Rattle.dw_tree.specs.declared.row.RowKind.TheVariants.{Null}
use Rattle.dw_tree.specs.declared.row.Unfinished.{Unfinished}
use Rattle.dw_tree.specs.Tree.{leaf, declared_pairs, declares_children, nesting}
use Rattle.dw_tree.specs.Spelling.{entry_bytes}
use Rattle.dw_tree.specs.Row.{Token, leaf_row, branch_row, null_row, row_bytes, rows_bytes}
use Rattle.dw_tree.specs.Place.{Spot, spot_after, UnfinishedEntry, Place}
use Rattle.dw_tree.specs.PoolBytes.{joined, held, row_values}
use Rattle.dw_tree.specs.RowHeads.{heads, values_at, row_heads, rows_heads, Account, values_so_far, account_value, account_row, account_undone}
use Rattle.dw_tree.specs.Flat.{pairs_at, code_in, with_end, tokens_at, unfinished_of, place_of, RowIs, RowsAre, IsEntry, RowReads}
use Rattle.dw_tree.specs.Steps.{settled, settle_by, settle, end_of, unfinished_bytes, first_values, FirstFits, first_bytes}
use Rattle.dw_tree.specs.Ends.{bytes_push, prefix_bytes}
use Rattle.dw_tree.specs.Sizes.{AreShort, values_short, rows_short}
use Rattle.dw_tree.specs.Completed.{one_given, row_of, is_whole, settled_rows, settled_open, settled_unfinished}
use Rattle.dw_tree.specs.DraftInvariant.{IsSpelled, Stand, TokenFits, LevelFits, EntryFits, levels_after, IsGivenEntry, IsUnfinished, AreGiven, pairs_given, entry_with, AreLists}
use Rattle.dw_tree.proofs.Spells.{after-push, spells_leaf, spells_branch, spells_null}
use Rattle.dw_tree.proofs.Spelled.{all_tokens_fit}
use Rattle.dw_tree.proofs.Stands.{level_is, open_long, stand_push, stand_set, prefix_push, whole_prefix}
use Rattle.dw_tree.proofs.RowTokens.{rows_are-push, rows_are-set, tokens_are, rows_read}

-- fewer values than pairs: the pairs that are left don't matter
heads_taken : (k : Ctx) (ps : List Pair) (vs : List Attribute) (start : ℕ) → heads k (take (length vs) ps) start vs ≡ heads k ps start vs
heads_taken k ps [] start = refl
heads_taken k [] (v ∷ vs) start = refl
heads_taken k (p ∷ ps) (v ∷ vs) start = ap (λ (b : List ℕ). head k p.form.value start v ++ b) (heads_taken k ps vs (start + length (bytes_in v)))

-- ---- what the lists stand for

module _ (k : Ctx) (t : Table) (start : ℕ) (rows : List Row) (hs pool open_at : List ℕ) (o : Option Unfinished) (here : ℕ) (xs : List Token) (vs : List Attribute) (l : AreLists k t start rows hs pool open_at o here xs vs) where
  abbrev pub seen : Place
  seen = record { spot = spot_after xs; unfinished = option_map (entry_with vs) o }

  all_fit : AllByRecursion (TokenFits k t) xs
  all_fit = all_tokens_fit k t start 1 rows xs l.stand

  pub tokens_are_in : tokens_at k t rows hs pool ≡ xs
  tokens_are_in = tokens_are k t hs pool (omega (arith, l.small)) rows xs (pairs_given t o) vs l.rows_are all_fit l.account

  pub rows_are_read : AllByRecursion (RowReads k t hs pool) rows
  rows_are_read = rows_read k t hs pool (omega (arith, l.small)) rows xs (pairs_given t o) vs l.rows_are all_fit l.account

  entry_is : (q : Option Unfinished) → o ≡ q → option_map (unfinished_of k t hs pool) q ≡ option_map (entry_with vs) q
  entry_is None e = refl
  entry_is (Some r) e =
      let u : IsUnfinished k t start xs vs r = subst (AreGiven k t start xs vs) e l.are_given in
      let whole : Account k t xs (pairs_at t r.code.value) vs hs pool = subst (λ (q : Option Unfinished). Account k t xs (pairs_given t q) vs hs pool) e l.account in
      let ps = pairs_at t r.code.value in
      let short : Account k t xs (take (length vs) ps) vs hs pool = record { heads_are = whole.heads_are ∙ ap (λ (b : List ℕ). rows_heads k t 0 xs ++ b) (sym (heads_taken k ps vs (length (held xs)))); pool_is = whole.pool_is } in
      ap (λ (ws : List Attribute). Some (record { code = uleb_of r.code; values = ws; partial = None }))
      (ap₂ (λ (m n : ℕ). values_at k (take m ps) (drop n hs) pool) u.entry.given u.entry.first
      ∙ values_so_far k t xs hs pool (take (length vs) ps) vs short u.entry.prefix_fits (omega (arith, l.small)))

  -- the place that they are seen as
  pub place_is : place_of k t rows hs pool o ≡ seen
  place_is = ap₂ (λ (ys : List Token) (q : Option UnfinishedEntry). record { spot = spot_after ys; unfinished = q }) tokens_are_in (entry_is o refl)

  -- and where the next byte stands
  pub end_is : end_of (record { context = k; table = t; start = start; place = seen }) ≡ here
  end_is = ap (λ (ys : List Token). start + (length (rows_bytes k t ys) + length (unfinished_bytes k t (option_map (entry_with vs) o)))) (sym l.is_spelled.spelled) ∙ sym l.here_is

  pub as_many_open : length open_at ≡ length (spot_after xs).above
  as_many_open = ap length l.is_spelled.opened ∙ open_long (spot_after xs).above

-- and they are no longer than its bytes ask for
module _ (k : Ctx) (t : Table) (start : ℕ) (rows : List Row) (hs pool open_at : List ℕ) (o : Option Unfinished) (here : ℕ) (xs : List Token) (vs : List Attribute) (l : AreLists k t start rows hs pool open_at o here xs vs) where
  given_short : (q : Option Unfinished) → o ≡ q → (length (heads k (pairs_given t q) (length (held xs)) vs) ≤ 16 * length (unfinished_bytes k t (option_map (entry_with vs) q))) × (length (joined vs) ≤ length (unfinished_bytes k t (option_map (entry_with vs) q)))
  given_short None e =
      let no : vs ≡ [] = subst (AreGiven k t start xs vs) e l.are_given in
      (omega (arith, ap (λ (ws : List Attribute). length (heads k [] (length (held xs)) ws)) no), omega (arith, ap (λ (ws : List Attribute). length (joined ws)) no))
  given_short (Some r) e =
      let u : IsUnfinished k t start xs vs r = subst (AreGiven k t start xs vs) e l.are_given in
      let ps = pairs_at t r.code.value in
      let w = values_short k (take (length vs) ps) vs (length (held xs)) u.entry.prefix_fits in
      let same = ap length (heads_taken k ps vs (length (held xs))) in
      let all = length-append (uleb.spell (uleb_of r.code)) (first_values k ps vs) in
      (omega (arith, w.0, same, all), omega (arith, w.1, all))

  pub lists_short : AreShort (length rows) (length hs) (length pool) (here - start)
  lists_short =
      let all = rows_short k t xs 0 (all_tokens_fit k t start 1 rows xs l.stand) in
      let w = given_short o refl in
      record {
        rows_short = omega (arith, all.rows_short, l.is_spelled.long, l.here_is);
        heads_short = omega (arith, all.heads_short, w.0, ap length l.account.heads_are, length-append (rows_heads k t 0 xs) (heads k (pairs_given t o) (length (held xs)) vs), l.here_is);
        content_short = omega (arith, all.content_short, w.1, ap length l.account.pool_is, length-append (held xs) (joined vs), l.here_is);
      }

-- no lists stand for no entries
pub lists_empty : (k : Ctx) (t : Table) (start : ℕ) (rows : List Row) (hs pool open_at : List ℕ) → rows ≡ [] → hs ≡ [] → pool ≡ [] → open_at ≡ [] → AreLists k t start rows hs pool open_at None start [] []
lists_empty k t start rows hs pool open_at er eh ep eo =
    rw (er, eh, ep, eo) (record {
      rows_are = tt;
      account = record { heads_are = refl; pool_is = refl };
      small = omega arith;
      is_spelled = record { ends = λ i d l e. absurd (omega (arith, l)); long = refl; spelled = refl; opened = refl };
      stand = tt;
      are_given = refl;
      deep = omega arith;
      here_is = omega arith;
    })

-- ---- an entry that may have all its values

-- lists that stand for this place
pub record StandFor (k : Ctx) (t : Table) (start : ℕ) (rows : List Row) (hs pool : List ℕ) (open_at : List ℕ) (o : Option Unfinished) (here : ℕ) (p : Place) : Type 0 where
  pub tokens : List Token
  pub values : List Attribute
  pub lists : AreLists k t start rows hs pool open_at o here tokens values
  pub place : record { spot = spot_after tokens; unfinished = option_map (entry_with values) o } ≡ p

pub place_stood : (k : Ctx) (t : Table) (start : ℕ) (rows : List Row) (hs pool open_at : List ℕ) (o : Option Unfinished) (here : ℕ) (p : Place) → StandFor k t start rows hs pool open_at o here p → place_of k t rows hs pool o ≡ p
place_stood k t start rows hs pool open_at o here p s = place_is k t start rows hs pool open_at o here s.tokens s.values s.lists ∙ s.place

module _ (k : Ctx) (t : Table) (start : ℕ) (rows : List Row) (hs pool open_at : List ℕ) (here : ℕ) (xs : List Token) (vs : List Attribute) (r : Unfinished)
    (g : IsGivenEntry k t start xs vs r) (are : RowsAre k t 0 0 rows xs) (acc : Account k t xs (pairs_at t r.code.value) vs hs pool) (small : length pool < 2 ^ 64) (sp : IsSpelled rows xs open_at) (st : Stand k t start 1 rows xs)
    (at_end : here ≡ start + (length (rows_bytes k t xs) + length (unfinished_bytes k t (Some (entry_with vs r))))) where
  abbrev code : Unsigned
  code = uleb_of r.code

  abbrev ps : List Pair
  ps = pairs_at t r.code.value

  abbrev depth : ℕ
  depth = length open_at + 1

  as_deep : length open_at ≡ length (spot_after xs).above
  as_deep = ap length sp.opened ∙ open_long (spot_after xs).above

  settle_is : settle t (spot_after xs) code vs ≡ settled (is_whole r) r.children (spot_after xs) code vs
  settle_is =
      ap (λ (d : Option Declaration). settle_by d (spot_after xs) code vs) g.declared
      ∙ ap₂ (λ (b ch : Bool). settled b ch (spot_after xs) code vs) (ap₂ eqb (sym g.given) g.count) g.children

  long_enough : is_whole r ≡ true → length vs ≡ length ps
  long_enough e =
      let many = ap (λ (d : Option Declaration). length (declared_pairs d)) g.declared in
      grind (arith, nat_tests, many, g.given, g.count)

  entry_fits : is_whole r ≡ true → EntryFits k t code vs
  entry_fits e = record {
    code_fits = g.code_fits;
    not_null = g.not_null;
    known = rw g.declared refl;
    values_fit = subst (λ (qs : List Pair). (Rattle.dw_tree.specs.Tree.values k qs).Fits vs) (whole_prefix k t ps vs (long_enough e)) g.prefix_fits;
  }

  entry_size : is_whole r ≡ true → length (entry_bytes k t code vs) ≡ length (unfinished_bytes k t (Some (entry_with vs r)))
  entry_size e = ap (λ (qs : List Pair). length (uleb.spell code ++ (Rattle.dw_tree.specs.Tree.values k qs).spell vs)) (sym (whole_prefix k t ps vs (long_enough e)))

  children_is : declares_children (declared t r.code.value) ≡ r.children
  children_is = ap declares_children g.declared ∙ g.children

  -- the rows and tokens with one more
  module _ (q : Row) (x : Token) (open' : List ℕ) (eo : q.offset ≡ r.offset) (ed : q.depth ≡ depth) (is : RowIs (length (rows_heads k t 0 xs)) q x) (own : row_values x ≡ vs) (heads_own : row_heads k t (length (held xs)) x ≡ heads k ps (length (held xs)) vs)
      (fits : TokenFits k t x) (level : (n : ℕ) → n ≤ nesting → LevelFits x n) (size : length (row_bytes k t x) ≡ length (unfinished_bytes k t (Some (entry_with vs r)))) (spelled : IsSpelled (rows ++ q ∷ []) (xs ++ x ∷ []) open') (deep : length open' ≤ nesting) where
    one_more : AreLists k t start (rows ++ q ∷ []) hs pool open' None here (xs ++ x ∷ []) []
    one_more = record {
      rows_are = rows_are-push k t 0 0 rows xs q x are (subst (λ (n : ℕ). RowIs n q x) (omega arith) is);
      account = account_row k t xs hs pool ps vs x own heads_own acc;
      small = small;
      is_spelled = spelled;
      stand = stand_push k t start 1 rows q xs x (eo ∙ g.offset) (omega (arith, ed, as_deep, level_is xs)) fits (level (levels_after 1 xs) (omega (arith, level_is xs, g.level))) st;
      are_given = refl;
      deep = deep;
      here_is = omega (arith, at_end, bytes_push k t xs x, size);
    }

  by : (w ch : Bool) → is_whole r ≡ w → r.children ≡ ch
      → StandFor k t start (cond w (rows ++ row_of ch r (length rows) depth ∷ []) rows) hs pool (cond w (cond ch (open_at ++ length rows ∷ []) open_at) open_at) (cond w None (Some r)) here (settled w ch (spot_after xs) code vs)
  by true true e ec = record {
    tokens = xs ++ branch_row code vs ∷ [];
    values = [];
    lists = one_more (row_of true r (length rows) depth) (branch_row code vs) (open_at ++ length rows ∷ []) refl refl (refl, refl, g.first) refl refl (entry_fits e, children_is ∙ ec) (λ n h. h) (entry_size e)
        (spells_branch rows (row_of true r (length rows) depth) xs open_at (length rows) code vs sp.long sp)
        (omega (arith, as_deep, g.level, length-append open_at (length rows ∷ [])));
    place = ap (λ (s : Spot). record { spot = s; unfinished = None }) (after-push xs (branch_row code vs));
  }
  by true false e ec = record {
    tokens = xs ++ leaf_row code vs ∷ [];
    values = [];
    lists = one_more (row_of false r (length rows) depth) (leaf_row code vs) open_at refl refl (refl, refl, g.first) refl refl (entry_fits e, children_is ∙ ec) (λ n h. h) (entry_size e)
        (spells_leaf rows (row_of false r (length rows) depth) xs open_at code vs refl sp)
        (omega (arith, as_deep, g.level));
    place = ap (λ (s : Spot). record { spot = s; unfinished = None }) (after-push xs (leaf_row code vs));
  }
  by false ch e ec = record {
    tokens = xs;
    values = vs;
    lists = record {
      rows_are = are;
      account = acc;
      small = small;
      is_spelled = sp;
      stand = st;
      are_given = record { entry = g; short = part_short r.given r.count g.within e };
      deep = omega (arith, as_deep, g.level);
      here_is = at_end;
    };
    place = refl;
  }
    where
      part_short : (m n : ℕ) → m ≤ n → eqb m n ≡ false → m < n
      part_short m n h e = grind (arith, nat_tests)

  -- what a call that may complete the entry leaves
  pub settles : (rows' : List Row) (open' : List ℕ) (o : Option Unfinished) (n m : ℕ) → m ≡ length rows → n ≡ depth → rows' ≡ settled_rows r n rows → open' ≡ settled_open r m open_at → o ≡ settled_unfinished r
      → StandFor k t start rows' hs pool open' o here (settle t (spot_after xs) code vs)
  settles rows' open' o n m em en er eo eq =
      rw (er, eo, eq, en, em) (subst (λ (p : Place). StandFor k t start (settled_rows r depth rows) hs pool (settled_open r (length rows) open_at) (settled_unfinished r) here p) (sym settle_is) (by (is_whole r) r.children refl refl))

-- ---- one more value

-- with one value more it still waits for others
abbrev pub one_given_is_short : Unfinished → Type 0
one_given_is_short r = r.given + 1 < r.count

-- the next pair
split : (qs : List Pair) (vs : List Attribute) → length vs < length qs → (front : List Pair) × (p : Pair) × (back : List Pair) × (qs ≡ front ++ p ∷ back) × (length vs ≡ length front) × (drop (length vs) qs ≡ p ∷ back)
split [] [] lt = absurd (omega (arith, lt))
split [] (w ∷ vs) lt = absurd (omega (arith, lt))
split (p ∷ qs) [] lt = ([], p, qs, refl, refl, refl)
split (q ∷ qs) (w ∷ vs) lt = let s = split qs vs (omega (arith, lt)) in (q ∷ s.0, s.1, s.2, ap (λ (ws : List Pair). q ∷ ws) s.3, omega (arith, s.4), s.5)

module _ (k : Ctx) (t : Table) (start : ℕ) (rows : List Row) (hs pool open_at : List ℕ) (here : ℕ) (xs : List Token) (vs : List Attribute) (r : Unfinished) (l : AreLists k t start rows hs pool open_at (Some r) here xs vs)
    (v : Attribute) (n : FirstFits k (drop (length vs) (pairs_at t r.code.value)) v) (hs' pool' : List ℕ) (eh : hs' ≡ hs ++ (front_bytes v (first_bytes k (drop (length vs) (pairs_at t r.code.value)) v) ++ finder (length pool) v.value))
    (ep : pool' ≡ pool ++ bytes_in v) (small : length pool' < 2 ^ 64) (here' : ℕ) (en : here' ≡ here + length (first_bytes k (drop (length vs) (pairs_at t r.code.value)) v)) where
  abbrev own_pairs : List Pair
  own_pairs = pairs_at t r.code.value

  u : IsUnfinished k t start xs vs r
  u = l.are_given

  more : length vs < length own_pairs
  more =
      let many = ap (λ (d : Option Declaration). length (declared_pairs d)) u.entry.declared in
      omega (arith, many, u.short, u.entry.given, u.entry.count)

  own_fits : (attribute k (split own_pairs vs more).1.form.value (split own_pairs vs more).1.constant).Fits v
  own_fits = subst (λ (qs : List Pair). FirstFits k qs v) (split own_pairs vs more).5 n

  given_more : Account k t xs own_pairs (vs ++ v ∷ []) hs' pool'
  given_more =
      let x = split own_pairs vs more in
      let front : front_bytes v (first_bytes k (drop (length vs) own_pairs) v) ++ finder (length pool) v.value ≡ head k x.1.form.value (length pool) v =
      ap (λ (qs : List Pair). front_bytes v (first_bytes k qs v) ++ finder (length pool) v.value) x.5 ∙ head_front k x.1.form.value x.1.constant v (length pool) own_fits in
      let before : Account k t xs (x.0 ++ x.1 ∷ x.2) vs hs pool = subst (λ (qs : List Pair). Account k t xs qs vs hs pool) x.3 l.account in
      let after = account_value k t xs hs pool x.0 x.2 x.1 vs v x.4 before in
      let same : hs' ≡ hs ++ head k x.1.form.value (length pool) v = eh ∙ ap (λ (b : List ℕ). hs ++ b) front in
      subst (λ (b : List ℕ). Account k t xs own_pairs (vs ++ v ∷ []) b pool') (sym same)
      (subst (λ (b : List ℕ). Account k t xs own_pairs (vs ++ v ∷ []) (hs ++ head k x.1.form.value (length pool) v) b) (sym ep)
      (subst (λ (qs : List Pair). Account k t xs qs (vs ++ v ∷ []) (hs ++ head k x.1.form.value (length pool) v) (pool ++ bytes_in v)) (sym x.3) after))

  entry_more : IsGivenEntry k t start xs (vs ++ v ∷ []) (one_given r)
  entry_more =
      let e = u.entry in
      record {
        decl = e.decl;
        declared = e.declared;
        children = e.children;
        count = e.count;
        given = omega (arith, e.given, length-append vs (v ∷ []));
        within = omega (arith, u.short);
        offset = e.offset;
        first = e.first;
        from = e.from;
        code_fits = e.code_fits;
        not_null = e.not_null;
        prefix_fits = prefix_push k t own_pairs vs v e.prefix_fits n;
        level = e.level;
      }

  end_more : here' ≡ start + (length (rows_bytes k t xs) + length (unfinished_bytes k t (Some (entry_with (vs ++ v ∷ []) (one_given r)))))
  end_more =
      let spelled = uleb.spell (uleb_of r.code) in
      omega (arith, en, l.here_is, prefix_bytes k t own_pairs vs v u.entry.prefix_fits n, length-append spelled (first_values k own_pairs (vs ++ v ∷ [])), length-append spelled (first_values k own_pairs vs))

  -- where others are still to come, the lists are those of the entry with this value
  pub value_more : one_given_is_short r → AreLists k t start rows hs' pool' open_at (Some (one_given r)) here' xs (vs ++ v ∷ [])
  value_more h = record {
    rows_are = l.rows_are;
    account = given_more;
    small = small;
    is_spelled = l.is_spelled;
    stand = l.stand;
    are_given = record { entry = entry_more; short = h };
    deep = l.deep;
    here_is = end_more;
  }

  pub value_given : (rows' : List Row) (open' : List ℕ) (o : Option Unfinished) (n m : ℕ) → m ≡ length rows → n ≡ length open_at + 1 → rows' ≡ settled_rows (one_given r) n rows → open' ≡ settled_open (one_given r) m open_at → o ≡ settled_unfinished (one_given r)
      → StandFor k t start rows' hs' pool' open' o here' (settle t (spot_after xs) (uleb_of r.code) (vs ++ v ∷ []))
  value_given = settles k t start rows hs' pool' open_at here' xs (vs ++ v ∷ []) (one_given r) entry_more l.rows_are given_more small l.is_spelled l.stand end_more

-- ---- an entry begins

module _ (k : Ctx) (t : Table) (start : ℕ) (rows : List Row) (hs pool open_at : List ℕ) (here : ℕ) (xs : List Token) (vs : List Attribute) (l : AreLists k t start rows hs pool open_at None here xs vs) (r : Unfinished) (d : Declaration)
    (known : declared t r.code.value ≡ Some d) (children : d.children ≡ r.children) (count : length d.pairs ≡ r.count) (given : r.given ≡ 0) (offset : r.offset ≡ here) (first : r.first ≡ length hs) (from : r.pool ≡ length pool)
    (fits : uleb.Fits (uleb_of r.code)) (not_null : Rattle.dw_abbrev.specs.Table.is_null (uleb_of r.code) ≡ false) (level : length (spot_after xs).above < nesting) (here' : ℕ) (en : here' ≡ here + r.code.width) where
  no_values : vs ≡ []
  no_values = l.are_given

  heads_are : hs ≡ rows_heads k t 0 xs
  heads_are = l.account.heads_are ∙ (ap (λ (ws : List Attribute). rows_heads k t 0 xs ++ heads k [] (length (held xs)) ws) no_values ∙ append-nil (rows_heads k t 0 xs))

  pool_is : pool ≡ held xs
  pool_is = l.account.pool_is ∙ (ap (λ (ws : List Attribute). held xs ++ joined ws) no_values ∙ append-nil (held xs))

  entry_begins : IsGivenEntry k t start xs [] r
  entry_begins = record {
    decl = d;
    declared = known;
    children = children;
    count = count;
    given = given;
    within = omega (arith, given);
    offset = omega (arith, offset, l.here_is);
    first = first ∙ ap length heads_are;
    from = from ∙ ap length pool_is;
    code_fits = fits;
    not_null = not_null;
    prefix_fits = tt;
    level = level;
  }

  account_begins : Account k t xs (pairs_at t r.code.value) [] hs pool
  account_begins = record { heads_are = heads_are ∙ sym (append-nil (rows_heads k t 0 xs)); pool_is = pool_is ∙ sym (append-nil (held xs)) }

  end_begins : here' ≡ start + (length (rows_bytes k t xs) + length (unfinished_bytes k t (Some (entry_with [] r))))
  end_begins =
      let spelled = uleb.spell (uleb_of r.code) in
      omega (arith, en, l.here_is, length-append spelled (first_values k (pairs_at t r.code.value) []), length-uleb (uleb_of r.code))

  -- where it has values, the lists are those of the entry without any
  pub entry_opens : 0 < r.count → AreLists k t start rows hs pool open_at (Some r) here' xs []
  entry_opens h = record {
    rows_are = l.rows_are;
    account = account_begins;
    small = l.small;
    is_spelled = l.is_spelled;
    stand = l.stand;
    are_given = record { entry = entry_begins; short = omega (arith, given, h) };
    deep = l.deep;
    here_is = end_begins;
  }

  pub entry_begun : (rows' : List Row) (open' : List ℕ) (o : Option Unfinished) (n m : ℕ) → m ≡ length rows → n ≡ length open_at + 1 → rows' ≡ settled_rows r n rows → open' ≡ settled_open r m open_at → o ≡ settled_unfinished r
      → StandFor k t start rows' hs pool open' o here' (settle t (spot_after xs) (uleb_of r.code) [])
  entry_begun = settles k t start rows hs pool open_at here' xs [] r entry_begins l.rows_are account_begins l.small l.is_spelled l.stand end_begins

-- ---- the unfinished entry is taken back

pub lists_undone : (k : Ctx) (t : Table) (start : ℕ) (rows : List Row) (hs pool open_at : List ℕ) (here : ℕ) (xs : List Token) (vs : List Attribute) (r : Unfinished) → AreLists k t start rows hs pool open_at (Some r) here xs vs → (hs' pool' : List ℕ) → hs' ≡ take r.first hs → pool' ≡ take r.pool pool
    → AreLists k t start rows hs' pool' open_at None r.offset xs []
lists_undone k t start rows hs pool open_at here xs vs r l hs' pool' eh ep =
    let u : IsUnfinished k t start xs vs r = l.are_given in
    rw (eh, ep) (record {
      rows_are = l.rows_are;
      account = account_undone k t xs hs pool (pairs_at t r.code.value) vs r.first r.pool u.entry.first u.entry.from l.account;
      small = omega (arith, length-take r.pool pool, l.small, min-le_right r.pool (length pool));
      is_spelled = l.is_spelled;
      stand = l.stand;
      are_given = refl;
      deep = l.deep;
      here_is = omega (arith, u.entry.offset);
    })

-- ---- the innermost open entry is closed

module _ (k : Ctx) (t : Table) (start : ℕ) (rows rows' : List Row) (hs pool open_at open' : List ℕ) (here : ℕ) (xs : List Token) (vs : List Attribute) (l : AreLists k t start rows hs pool open_at None here xs vs) (at w : ℕ) (q r d : Row)
    (eo : open_at ≡ open' ++ at ∷ []) (er : rows' ≡ set rows at q ++ r ∷ []) (kind : r.kind ≡ Null) (width : r.width ≡ w) (offset : r.offset ≡ here) (level : r.depth ≡ length open_at + 1) (null_fits : uleb.Fits (zero_of w))
    (same : q ≡ with_end (get_or rows at d) (length rows + 1))
    (here' : ℕ) (en : here' ≡ here + w) where
  no_entry : IsEntry r.kind → ⊥
  no_entry h = subst IsEntry kind h

  none_given : vs ≡ []
  none_given = l.are_given

  row_set_is : RowsAre k t 0 0 (set rows at q) xs
  row_set_is = rows_are-set k t 0 0 rows xs at q d (ap (λ (x : Row). x.kind) same) (ap code_in same) (ap (λ (x : Row). x.first) same) l.rows_are

  closed_account : Account k t (xs ++ null_row w ∷ []) [] [] hs pool
  closed_account = account_row k t xs hs pool [] [] (null_row w) refl refl (subst (λ (ws : List Attribute). Account k t xs [] ws hs pool) none_given l.account)

  pub lists_closed : AreLists k t start rows' hs pool open' None here' (xs ++ null_row w ∷ []) []
  lists_closed = record {
    rows_are = subst (λ (rs : List Row). RowsAre k t 0 0 rs (xs ++ null_row w ∷ [])) (sym er) (rows_are-push k t 0 0 (set rows at q) xs r (null_row w) row_set_is (kind, width));
    account = closed_account;
    small = l.small;
    is_spelled = spells_null rows rows' q r xs open' at w er no_entry (ap (λ (x : Row). x.end) same ∙ ap (λ (n : ℕ). n + 1) l.is_spelled.long) (subst (IsSpelled rows xs) eo l.is_spelled);
    stand = subst (λ (rs : List Row). Stand k t start 1 rs (xs ++ null_row w ∷ [])) (sym er)
        (stand_push k t start 1 (set rows at q) r xs (null_row w) (omega (arith, offset, l.here_is)) (omega (arith, level, as_many_open k t start rows hs pool open_at None here xs vs l, level_is xs)) null_fits tt
        (stand_set k t start 1 rows at q d xs (ap (λ (x : Row). x.offset) same) (ap (λ (x : Row). x.depth) same) l.stand));
    are_given = refl;
    deep = omega (arith, l.deep, ap length eo, length-append open' (at ∷ []));
    here_is = omega (arith, en, l.here_is, bytes_push k t xs (null_row w), length-uleb (zero_of w));
  }
