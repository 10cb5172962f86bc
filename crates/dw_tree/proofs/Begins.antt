-- A draft without a partial value, or with one.
use Rattle.std.proofs.Common.{Bool, true, false, append-nil, append_assoc, take-append-drop, ◌≡◌, ℕ, ◌+◌, ◌-◌, ◌≤◌, ◌<◌, ◌^◌, List, [], ◌∷◌, ◌++◌, length, take, drop, refl, sym, ◌∙◌, ap, ap₂, subst, arith, length-append, length-take-le, Option, Some, None, option_map}
use Rattle.std.specs.Prelude.{IfSome, IsSome, if◌then◌else◌}
use Rattle.std.proofs.lemmas.List.{take-take, take-append-le}
use Rattle.dw_tree.specs.declared.draft.TreeDraft.TheInside.{Inside}
use Rattle.dw_tree.specs.declared.row.PartialValue.{PartialValue as StoredPartial}
use Rattle.dw_tree.specs.declared.row.Unfinished.{Unfinished}
use Rattle.dw_form.specs.declared.shape.Ctx.{Ctx}
use Rattle.dw_form.specs.Form.{Attribute}
use Rattle.dw_form.specs.StoredView.{text_or_block, value_bytes}
use Rattle.dw_tree.specs.declared.row.Row.{Row}
use Rattle.dw_abbrev.specs.Table.{Table, Pair}
use Rattle.dw_tree.specs.Tree.{Forest}
use Rattle.dw_leb.specs.View.{uleb_of}
use Rattle.dw_tree.specs.Place.{Frame, Spot, rows_before, spot_after, UnfinishedEntry, Place}
use Rattle.dw_tree.specs.Flat.{place_of, unfinished_of}
use Rattle.dw_tree.specs.Steps.{Growing, given_partial, partial_in, next_pair, next_pairs, end_of, whole_tree}
use Rattle.dw_tree.specs.Row.{Token}
use Rattle.dw_tree.specs.PoolBytes.{joined, held, held_in, partial_bytes}
use Rattle.dw_tree.specs.RowHeads.{heads, rows_heads, unfinished_heads, heads_in, Account}
use Rattle.dw_tree.specs.Sizes.{AreShort}
use Rattle.dw_abbrev.specs.FewPairs.{FewPairs}
use Rattle.dw_tree.specs.Counts.{AreCounted, count_entries, count_values, entries_counted, values_counted, few_entries, few_values}
use Rattle.dw_tree.specs.DraftInvariant.{AreGiven, pairs_given, entry_with, HasRoom}
use Rattle.dw_tree.specs.DraftView.{front, partial_of, place_with, given, growing, IsGiven, HasPartial, IsDraft}
use Rattle.dw_tree.proofs.Spelled.{all_tokens_fit}
use Rattle.dw_tree.proofs.Lists.{place_is, end_is, lists_short}

none_of_map : {X Y : Type 0} (f : X → Y) (o : Option X) → option_map f o ≡ None → o ≡ None
none_of_map f None e = refl
none_of_map f (Some x) e = cc

place_free : (o : Option StoredPartial) (pool : List ℕ) (p : Place) → (place_with o pool p).unfinished ≡ None → p.unfinished ≡ None
place_free None pool p e = e
place_free (Some b) pool p e = none_of_map (given_partial (Some (partial_of pool b))) p.unfinished e

-- no entry is read
pub idle_is : (a : Inside) → (growing a).place.unfinished ≡ None → a.unfinished ≡ None
idle_is a e = none_of_map (unfinished_of a.context a.table.value a.heads.items (front a.partial a.pool.items)) a.unfinished (place_free a.partial a.pool.items _ e)

none_read : {X : Type 0} (o : Option X) → o ≡ None → IsSome o → ⊥
none_read None e h = absurd cc
none_read (Some x) e h = absurd cc

-- so no value is partial
pub partial_none : (a : Inside) → IsDraft a → a.unfinished ≡ None → a.partial ≡ None
partial_none a d idle = by a.partial d.partial
  where
    by : (o : Option StoredPartial) → IfSome o (HasPartial a) → o ≡ None
    by None h = refl
    by (Some b) h = absurd (none_read a.unfinished idle h.unfinished)

-- no value of the unfinished entry is partial
pub free_is : (a : Inside) → IsDraft a → partial_in (growing a).place.unfinished ≡ None → a.partial ≡ None
free_is a d e = by a.partial d.partial a.unfinished refl e
  where
    by : (o : Option StoredPartial) → IfSome o (HasPartial a) → (q : Option Unfinished) → a.unfinished ≡ q → partial_in (place_with o a.pool.items (place_of a.context a.table.value a.rows.items a.heads.items (front o a.pool.items) q)).unfinished ≡ None → o ≡ None
    by None h q eq e = refl
    by (Some b) h None eq e = absurd (none_read a.unfinished eq h.unfinished)
    by (Some b) h (Some r) eq e = absurd cc

pub given_is : (a : Inside) → a.partial ≡ None → IsDraft a → IsGiven a a.pool.items
given_is a e d = subst (λ (o : Option StoredPartial). IsGiven a (front o a.pool.items)) e d.given

pub view_given : (a : Inside) → a.partial ≡ None → given a a.pool.items ≡ growing a
view_given a e = ap (λ (o : Option StoredPartial). record { context = a.context; table = a.table.value; start = a.start; place = place_with o a.pool.items (place_of a.context a.table.value a.rows.items a.heads.items (front o a.pool.items) a.unfinished) }) (sym e)

pub draft_of : (a : Inside) → a.partial ≡ None → IsGiven a a.pool.items → IsDraft a
draft_of a e g = record {
  given = subst (λ (o : Option StoredPartial). IsGiven a (front o a.pool.items)) (sym e) g;
  partial = subst (λ (o : Option StoredPartial). IfSome o (HasPartial a)) (sym e) tt;
}

-- what is counted, where this is the unfinished entry
pub counted_with : (a : Inside) (pool : List ℕ) (g : IsGiven a pool) (o : Option Unfinished) → a.unfinished ≡ o → AreCounted a.table.value (record { spot = spot_after g.tokens; unfinished = option_map (entry_with g.values) o }) a.entries a.asked
counted_with a pool g o e = subst (λ (q : Option Unfinished). AreCounted a.table.value (record { spot = spot_after g.tokens; unfinished = option_map (entry_with g.values) q }) a.entries a.asked) e g.counted

pub whole_free : (fs : List Frame) (ts : Forest) (o : Option UnfinishedEntry) → IsSome (whole_tree fs ts o) → o ≡ None
whole_free [] ts None h = refl
whole_free [] ts (Some r) h = absurd cc
whole_free (f ∷ fs) ts o h = absurd cc

-- a partial value changes neither where the entries are nor where the next byte stands
pub spot_is : (o : Option StoredPartial) (pool : List ℕ) (p : Place) → (place_with o pool p).spot ≡ p.spot
spot_is None pool p = refl
spot_is (Some b) pool p = refl

pub partial_within : (a : Inside) → IsDraft a → IfSome a.partial (λ b. b.pool ≤ length a.pool.items)
partial_within a d = by a.partial d.partial
  where
    by : (o : Option StoredPartial) → IfSome o (HasPartial a) → IfSome o (λ b. b.pool ≤ length a.pool.items)
    by None h = tt
    by (Some b) h = h.within

pub take_front : (o : Option StoredPartial) (pool : List ℕ) (n : ℕ) → IfSome o (λ b. b.pool ≤ length pool) → n ≤ length (front o pool) → take n (front o pool) ≡ take n pool
take_front None pool n h k = refl
take_front (Some b) pool n h k = take-take n b.pool pool (omega (arith, h, k, length-take-le b.pool pool h))

-- a draft as it is seen, by what its lists stand for
pub view_is : (a : Inside) (d : IsDraft a) → growing a ≡ record { context = a.context; table = a.table.value; start = a.start; place = place_with a.partial a.pool.items (record { spot = spot_after d.given.tokens; unfinished = option_map (entry_with d.given.values) a.unfinished }) }
view_is a d =
    ap (λ (p : Place). record { context = a.context; table = a.table.value; start = a.start; place = place_with a.partial a.pool.items p })
    (place_is a.context a.table.value a.start a.rows.items a.heads.items (front a.partial a.pool.items) a.nested.items a.unfinished a.here d.given.tokens d.given.values d.given.lists)

pub place_given : (o : Option StoredPartial) (k : Ctx) (t : Table) (rows : List Row) (hs pool : List ℕ) (q : Option Unfinished) → o ≡ None → place_of k t rows hs pool q ≡ place_with o pool (place_of k t rows hs (front o pool) q)
place_given o k t rows hs pool q e = ap (λ (b : Option StoredPartial). place_with b pool (place_of k t rows hs (front b pool) q)) (sym e)

-- where no value is partial
pub view_free : (a : Inside) (d : IsDraft a) (e : a.partial ≡ None) → growing a ≡ record { context = a.context; table = a.table.value; start = a.start; place = record { spot = spot_after (given_is a e d).tokens; unfinished = option_map (entry_with (given_is a e d).values) a.unfinished } }
view_free a d e =
    let g = given_is a e d in
    sym (view_given a e)
    ∙ ap (λ (p : Place). record { context = a.context; table = a.table.value; start = a.start; place = p }) (place_is a.context a.table.value a.start a.rows.items a.heads.items a.pool.items a.nested.items a.unfinished a.here g.tokens g.values g.lists)

pub given_open : (a : Inside) (b : StoredPartial) → a.partial ≡ Some b → IsDraft a → IsGiven a (take b.pool a.pool.items)
given_open a b e d = subst (λ (o : Option StoredPartial). IsGiven a (front o a.pool.items)) e d.given

-- where a text or block is partial
pub view_open : (a : Inside) (d : IsDraft a) (r : Unfinished) (b : StoredPartial) → a.unfinished ≡ Some r → (eb : a.partial ≡ Some b) → growing a ≡ record {
  context = a.context;
  table = a.table.value;
  start = a.start;
  place = record {
    spot = spot_after (given_open a b eb d).tokens;
    unfinished = Some (record { code = uleb_of r.code; values = (given_open a b eb d).values; partial = Some (partial_of a.pool.items b) });
  };
}
view_open a d r b er eb =
    let g = given_open a b eb d in
    let first = take b.pool a.pool.items in
    ap (λ (o : Option StoredPartial). record { context = a.context; table = a.table.value; start = a.start; place = place_with o a.pool.items (place_of a.context a.table.value a.rows.items a.heads.items (front o a.pool.items) a.unfinished) }) eb
    ∙ (ap (λ (p : Place). record { context = a.context; table = a.table.value; start = a.start; place = place_with (Some b) a.pool.items p }) (place_is a.context a.table.value a.start a.rows.items a.heads.items first a.nested.items a.unfinished a.here g.tokens g.values g.lists)
    ∙ ap (λ (q : Option Unfinished). record { context = a.context; table = a.table.value; start = a.start; place = place_with (Some b) a.pool.items (record { spot = spot_after g.tokens; unfinished = option_map (entry_with g.values) q }) }) er)

-- where the next byte stands
pub ends_here : (a : Inside) → IsDraft a → end_of (growing a) ≡ a.here
ends_here a d =
    let g = d.given in
    ap end_of (view_is a d)
    ∙ (same a.partial a.unfinished g.values (spot_after g.tokens)
    ∙ end_is a.context a.table.value a.start a.rows.items a.heads.items (front a.partial a.pool.items) a.nested.items a.unfinished a.here g.tokens g.values g.lists)
  where
    at : Place → Growing
    at p = record { context = a.context; table = a.table.value; start = a.start; place = p }

    same : (o : Option StoredPartial) (q : Option Unfinished) (vs : List Attribute) (s : Spot) → end_of (at (place_with o a.pool.items (record { spot = s; unfinished = option_map (entry_with vs) q }))) ≡ end_of (at (record { spot = s; unfinished = option_map (entry_with vs) q }))
    same None q vs s = refl
    same (Some b) None vs s = refl
    same (Some b) (Some r) vs s = refl

pub partial_open : (a : Inside) (b : StoredPartial) → a.partial ≡ Some b → IsDraft a → HasPartial a b
partial_open a b e d = subst (λ (o : Option StoredPartial). IfSome o (HasPartial a)) e d.partial

pub partial_is : (a : Inside) → IsSome (partial_in (growing a).place.unfinished) → (b : StoredPartial) × (a.partial ≡ Some b)
partial_is a h = by a.partial a.unfinished h
  where
    by : (o : Option StoredPartial) (q : Option Unfinished) → IsSome (partial_in (place_with o a.pool.items (place_of a.context a.table.value a.rows.items a.heads.items (front o a.pool.items) q)).unfinished) → (b : StoredPartial) × (o ≡ Some b)
    by (Some b) q h = (b, refl)
    by None None h = absurd cc
    by None (Some r) h = absurd cc

-- the pool has more bytes behind
pub front_stays : (o : Option StoredPartial) (b : StoredPartial) (pool more : List ℕ) → o ≡ Some b → b.pool ≤ length pool → front o (pool ++ more) ≡ front o pool
front_stays o b pool more e h = ap (λ (q : Option StoredPartial). front q (pool ++ more)) e ∙ (take-append-le b.pool pool more h ∙ ap (λ (q : Option StoredPartial). front q pool) (sym e))

-- a list that is as it was, or has more behind
pub more_or_none : (b : Bool) (xs ys : List ℕ) → (zs : List ℕ) × ((if b then xs ++ ys else xs) ≡ xs ++ zs)
more_or_none true xs ys = (ys, refl)
more_or_none false xs ys = ([], sym (append-nil xs))

-- the pool has what is held
pub held_is : (a : Inside) → IsDraft a → a.pool.items ≡ held_in (growing a).place
held_is a d = by a.partial a.unfinished refl refl d.given.lists.account ∙ ap (λ (g : Growing). held_in g.place) (sym (view_is a d))
  where
    xs : List Token
    xs = d.given.tokens

    vs : List Attribute
    vs = d.given.values

    place : Option StoredPartial → Option Unfinished → Place
    place o q = place_with o a.pool.items (record { spot = spot_after xs; unfinished = option_map (entry_with vs) q })

    spelled : held xs ≡ held (rows_before (spot_after xs).above (spot_after xs).left)
    spelled = ap held d.given.lists.is_spelled.spelled

    by : (o : Option StoredPartial) (q : Option Unfinished) → a.partial ≡ o → a.unfinished ≡ q → Account a.context a.table.value xs (pairs_given a.table.value q) vs a.heads.items (front o a.pool.items) → a.pool.items ≡ held_in (place o q)
    by None None eo eq h =
        let no : vs ≡ [] = subst (AreGiven a.context a.table.value a.start xs vs) eq d.given.lists.are_given in
        h.pool_is ∙ ap₂ (λ (b c : List ℕ). b ++ c) spelled (ap joined no)
    by None (Some r) eo eq h = h.pool_is ∙ ap₂ (λ (b c : List ℕ). b ++ c) spelled (sym (append-nil (joined vs)))
    by (Some b) None eo eq h = absurd (none_read a.unfinished eq (partial_open a b eo d).unfinished)
    by (Some b) (Some r) eo eq h =
        sym (take-append-drop b.pool a.pool.items)
        ∙ (ap (λ (bytes : List ℕ). bytes ++ drop b.pool a.pool.items) (h.pool_is ∙ ap (λ (bytes : List ℕ). bytes ++ joined vs) spelled)
        ∙ append_assoc (held (rows_before (spot_after xs).above (spot_after xs).left)) (joined vs) (drop b.pool a.pool.items))

-- and the heads those that are held
pub heads_are : (a : Inside) → IsDraft a → a.heads.items ≡ heads_in a.context a.table.value (growing a).place
heads_are a d = by a.partial a.unfinished refl refl d.given.lists.account ∙ ap (λ (g : Growing). heads_in a.context a.table.value g.place) (sym (view_is a d))
  where
    xs : List Token
    xs = d.given.tokens

    vs : List Attribute
    vs = d.given.values

    place : Option StoredPartial → Option Unfinished → Place
    place o q = place_with o a.pool.items (record { spot = spot_after xs; unfinished = option_map (entry_with vs) q })

    spelled : (u : Option UnfinishedEntry) → rows_heads a.context a.table.value 0 xs ++ unfinished_heads a.context a.table.value (length (held xs)) u ≡ heads_in a.context a.table.value (record { spot = spot_after xs; unfinished = u })
    spelled u = ap (λ (ys : List Token). rows_heads a.context a.table.value 0 ys ++ unfinished_heads a.context a.table.value (length (held ys)) u) d.given.lists.is_spelled.spelled

    by : (o : Option StoredPartial) (q : Option Unfinished) → a.partial ≡ o → a.unfinished ≡ q → Account a.context a.table.value xs (pairs_given a.table.value q) vs a.heads.items (front o a.pool.items) → a.heads.items ≡ heads_in a.context a.table.value (place o q)
    by None None eo eq h =
        let no : vs ≡ [] = subst (AreGiven a.context a.table.value a.start xs vs) eq d.given.lists.are_given in
        h.heads_are ∙ (ap (λ (ws : List Attribute). rows_heads a.context a.table.value 0 xs ++ heads a.context [] (length (held xs)) ws) no ∙ spelled None)
    by None (Some r) eo eq h = h.heads_are ∙ spelled (Some (entry_with vs r))
    by (Some b) None eo eq h = absurd (none_read a.unfinished eq (partial_open a b eo d).unfinished)
    by (Some b) (Some r) eo eq h = h.heads_are ∙ spelled (Some (entry_with vs r))

-- the lists are no longer than the bytes so far ask for
pub draft_short : (a : Inside) (d : IsDraft a) → AreShort (length a.rows.items) (length a.heads.items) (length (front a.partial a.pool.items)) (a.here - a.start)
draft_short a d = lists_short a.context a.table.value a.start a.rows.items a.heads.items (front a.partial a.pool.items) a.nested.items a.unfinished a.here d.given.tokens d.given.values d.given.lists

-- there is room in the counts for one more entry, and the values that its declaration asks for
pub counts_room : (a : Inside) → IsDraft a → a.unfinished ≡ None → FewPairs a.table.value → (a.entries + 1 < 2 ^ 64) × (a.asked + 2 ^ 64 < 2 ^ 128)
counts_room a d idle few =
    let xs : List Token = d.given.tokens in
    let l = d.given.lists in
    let are = counted_with a (front a.partial a.pool.items) d.given None idle in
    let rows : count_entries xs < 2 ^ 63 = omega (arith, few_entries xs, l.is_spelled.long, (draft_short a d).rows_short, d.given.near) in
    let values = few_values a.context a.table.value few xs (all_tokens_fit a.context a.table.value a.start 1 a.rows.items xs l.stand) in
    (omega (arith, are.entries_are, ap count_entries l.is_spelled.spelled, rows), omega (arith, are.asked_are, ap count_values l.is_spelled.spelled, values, rows))

-- a partial value isn't counted
pub entries_given : (o : Option StoredPartial) (pool : List ℕ) (vs : List Attribute) (q : Option Unfinished) (s : Spot)
    → entries_counted (record { spot = s; unfinished = option_map (entry_with vs) q }) ≡ entries_counted (place_with o pool (record { spot = s; unfinished = option_map (entry_with vs) q }))
entries_given None pool vs q s = refl
entries_given (Some b) pool vs None s = refl
entries_given (Some b) pool vs (Some r) s = refl

pub values_given : (o : Option StoredPartial) (pool : List ℕ) (vs : List Attribute) (q : Option Unfinished) (s : Spot)
    → values_counted (record { spot = s; unfinished = option_map (entry_with vs) q }) ≡ values_counted (place_with o pool (record { spot = s; unfinished = option_map (entry_with vs) q }))
values_given None pool vs q s = refl
values_given (Some b) pool vs None s = refl
values_given (Some b) pool vs (Some r) s = refl

pub pool_short : (a : Inside) → IsDraft a → length a.pool.items ≤ a.here - a.start + length (partial_bytes (partial_in (growing a).place.unfinished))
pool_short a d = by a.partial a.unfinished refl refl (draft_short a d).content_short
  where
    by : (o : Option StoredPartial) (q : Option Unfinished) → a.partial ≡ o → a.unfinished ≡ q → length (front o a.pool.items) ≤ a.here - a.start
        → length a.pool.items ≤ a.here - a.start + length (partial_bytes (partial_in (place_with o a.pool.items (place_of a.context a.table.value a.rows.items a.heads.items (front o a.pool.items) q)).unfinished))
    by None q eo eq h = omega (arith, h)
    by (Some b) None eo eq h = absurd (none_read a.unfinished eq (partial_open a b eo d).unfinished)
    by (Some b) (Some r) eo eq h = omega (arith, h, ap length (take-append-drop b.pool a.pool.items), length-append (take b.pool a.pool.items) (drop b.pool a.pool.items))

-- a partial value changes nothing of what the next value is asked for
pub next_given : (t : Table) (o : Option StoredPartial) (pool : List ℕ) (vs : List Attribute) (q : Option Unfinished) (s : Spot)
    → next_pair t (option_map (entry_with vs) q) ≡ next_pair t (place_with o pool (record { spot = s; unfinished = option_map (entry_with vs) q })).unfinished
next_given t None pool vs q s = refl
next_given t (Some b) pool vs None s = refl
next_given t (Some b) pool vs (Some r) s = refl

-- the bytes of a partial value are its content
pub partial_content : (w : Option ℕ) (bytes : List ℕ) → value_bytes (text_or_block w bytes) ≡ bytes
partial_content None bytes = refl
partial_content (Some w) bytes = refl

-- ---- what was made room for

if_some : {X : Type 0} (P : Type 0) (o : Option X) → (IsSome o → P) → IfSome o (λ _. P)
if_some P None h = tt
if_some P (Some x) h = h refl

-- what is said of the value that is there
pub of_some : {X : Type 0} (P : X → Type 0) {o : Option X} {x : X} → o ≡ Some x → IfSome o P → P x
of_some P is h = subst (λ (q : Option _). IfSome q P) is h

pub settled_room : (o : Option Unfinished) (a b c d : ℕ) → (IsSome o → a < b) → IfSome o (λ r. r.children ≡ true → c < d) → HasRoom o a b c d
settled_room o a b c d h k = record { row = if_some (a < b) o h; place = k }

-- the pairs that are left are those of the unfinished entry, with a partial value or without
pub given_pairs : (t : Table) (o : Option StoredPartial) (pool : List ℕ) (vs : List Attribute) (q : Option Unfinished) (s : Spot) (ps : List Pair)
    → IfSome (option_map (entry_with vs) q) (λ r. ps ≡ next_pairs t r) → IfSome (place_with o pool (record { spot = s; unfinished = option_map (entry_with vs) q })).unfinished (λ r. ps ≡ next_pairs t r)
given_pairs t None pool vs q s ps h = h
given_pairs t (Some b) pool vs None s ps h = tt
given_pairs t (Some b) pool vs (Some r) s ps h = h
