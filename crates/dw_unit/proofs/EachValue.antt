-- An entry of a draft that begins, and is given its first values one after the other.
use Rattle.std.proofs.Common.{◌≡◌, ◌+◌, ℕ, List, [], ◌∷◌, ◌++◌, Bool, true, false, Option, Some, None, length, drop, refl, sym, ap, subst, ◌∙◌, arith, length-append}
use Rattle.std.specs.Prelude.{IsSome, Result, Ok, Err, IfOk, OnErr}
use Rattle.dw_leb.specs.Number.{Unsigned}
use Rattle.dw_form.specs.declared.shape.Ctx.{Ctx}
use Rattle.dw_form.specs.Form.{Attribute}
use Rattle.dw_abbrev.specs.Table.{Pair, Declaration, Table, declared}
use Rattle.dw_tree.specs.Tree.{declared_pairs}
use Rattle.dw_tree.specs.Place.{UnfinishedEntry}
use Rattle.dw_tree.specs.Steps.{Growing, begun_at, with_value, with_values, NextFits, next_bytes, ArePlain}
use Rattle.dw_tree.specs.FirstGiven.{given_if, size_if}
use Rattle.dw_tree.specs.LeftPairs.{left_pairs, settled_left, value_left}
use Rattle.dw_header.specs.Header.{context_of}
use Rattle.dw_unit.specs.Draft.{Drafted, tree_in, drafted_size, begun, given, given_each, passes_limit, value_bytes, IsOnlyRoot, IsDrafted}
use Rattle.dw_unit.proofs.DraftLemmas.{within, not_long, value_place, begin_kept, begun_size, value_kept, given_size}

-- the first of the values
record FirstOf (k : Ctx) (t : Table) (o : Option UnfinishedEntry) (v : Attribute) (vs : List Attribute) (bytes : List ℕ) : Type 0 where
  fits : NextFits k t o v
  rest : List ℕ
  split : bytes ≡ next_bytes k t o v ++ rest
  others : ArePlain k (drop 1 (left_pairs t o)) vs rest

first_of : (k : Ctx) (t : Table) (o : Option UnfinishedEntry) (v : Attribute) (vs : List Attribute) (bytes : List ℕ) → ArePlain k (left_pairs t o) (v ∷ vs) bytes → FirstOf k t o v vs bytes
first_of k t None v vs bytes h = absurd h
first_of k t (Some r) v vs bytes h = by (left_pairs t (Some r)) refl h
  where
    by : (qs : List Pair) → left_pairs t (Some r) ≡ qs → ArePlain k qs (v ∷ vs) bytes → FirstOf k t (Some r) v vs bytes
    by [] e g = absurd g
    by (p ∷ qs) e g = record {
      fits = subst (λ (ps : List Pair). Rattle.dw_tree.specs.Steps.FirstFits k ps v) (sym e) g.0.0;
      rest = g.1.0;
      split = g.1.1 ∙ ap (λ (ps : List Pair). Rattle.dw_tree.specs.Steps.first_bytes k ps v ++ g.1.0) (sym e);
      others = subst (λ (ps : List Pair). ArePlain k (drop 1 ps) vs g.1.0) (sym e) g.1.2;
    }

pub values_place : (vs : List Attribute) (d : Drafted) → with_values vs (tree_in d) ≡ tree_in (given_each vs d)
values_place [] d = refl
values_place (v ∷ vs) d = ap (with_values vs) (value_place d v) ∙ values_place vs (given v d)

-- nothing but the place is another
pub each_same : (vs : List Attribute) (d : Drafted) → record { header = d.header; table = (tree_in (given_each vs d)).table; place = (tree_in (given_each vs d)).place; padding = d.padding } ≡ given_each vs d
each_same [] d = refl
each_same (v ∷ vs) d = each_same vs (given v d)

-- what is kept, and how long the unit is then
pub record Kept (d new : Drafted) (padded more : ℕ) : Type 0 where
  pub drafted : IsDrafted new (tree_in new) padded
  pub size : drafted_size new ≡ drafted_size d + more

values_kept : (vs : List Attribute) (d : Drafted) (padded : ℕ) → IsDrafted d (tree_in d) padded → (bytes : List ℕ) → ArePlain (context_of d.header) (left_pairs d.table d.place.unfinished) vs bytes → passes_limit d (length bytes) ≡ false
    → Kept d (given_each vs d) padded (length bytes)
values_kept [] d padded i bytes h short = record { drafted = i; size = omega (arith, ap length h) }
values_kept (v ∷ vs) d padded i bytes h short =
    let f = first_of (context_of d.header) d.table d.place.unfinished v vs bytes h in
    let own = value_bytes d v in
    let all : length bytes ≡ length own + length f.rest = ap length f.split ∙ length-append own f.rest in
    let room = within d (length bytes) short in
    let one = given_size d (tree_in d) padded i v f.fits in
    let kept = value_kept d (tree_in d) padded i v f.fits (with_value v (tree_in d)) refl (not_long d (length own) (omega (arith, room, all))) in
    let next : IsDrafted (given v d) (tree_in (given v d)) padded = subst (λ (g : Growing). IsDrafted (record { header = d.header; table = g.table; place = g.place; padding = d.padding }) g padded) (value_place d v) kept in
    let left : left_pairs d.table (given v d).place.unfinished ≡ drop 1 (left_pairs d.table d.place.unfinished) = value_left v (tree_in d) d.place.unfinished refl in
    let others : ArePlain (context_of d.header) (left_pairs d.table (given v d).place.unfinished) vs f.rest = subst (λ (ps : List Pair). ArePlain (context_of d.header) ps vs f.rest) (sym left) f.others in
    let r = values_kept vs (given v d) padded next f.rest others (not_long (given v d) (length f.rest) (omega (arith, room, all, one))) in
    record { drafted = r.drafted; size = omega (arith, r.size, one, all) }

-- an entry begins, and is given its first values
module _ (d : Drafted) (padded : ℕ) (i : IsDrafted d (tree_in d) padded) (code : Unsigned) (decl : Declaration) (known : declared d.table code.value ≡ Some decl) (free : d.place.unfinished ≡ None) (only : IsOnlyRoot d.place.spot) where
  some : IsSome (declared d.table code.value)
  some = subst IsSome (sym known) refl

  pub begun_kept : (vs : List Attribute) (bytes : List ℕ) → ArePlain (context_of d.header) decl.pairs vs bytes → passes_limit d (code.width + length bytes) ≡ false → Kept d (given_each vs (begun code d)) padded (code.width + length bytes)
  begun_kept vs bytes h short =
      let room = within d (code.width + length bytes) short in
      let one = begun_size d (tree_in d) padded i code some free in
      let kept = begin_kept d (tree_in d) padded i code some free (begun_at code (tree_in d)) refl only (not_long d code.width (omega (arith, room))) in
      let left : left_pairs d.table (begun code d).place.unfinished ≡ decl.pairs = settled_left d.table d.place.spot code [] ∙ ap declared_pairs known in
      let r = values_kept vs (begun code d) padded kept bytes (subst (λ (ps : List Pair). ArePlain (context_of d.header) ps vs bytes) (sym left) h) (not_long (begun code d) (length bytes) (omega (arith, room, one))) in
      record { drafted = r.drafted; size = omega (arith, r.size, one) }

  -- with all of them, or none
  pub begun_kept_if : (all : Bool) (vs : List Attribute) (bytes : List ℕ) → ArePlain (context_of d.header) decl.pairs vs bytes → passes_limit d (code.width + length bytes) ≡ false
      → Kept d (given_each (given_if all vs) (begun code d)) padded (code.width + size_if all (length bytes))
  begun_kept_if true vs bytes h short = begun_kept vs bytes h short
  begun_kept_if false vs bytes h short = begun_kept [] [] refl (not_long d (code.width + 0) (omega (arith, within d (code.width + length bytes) short)))

-- ---- a call that says which, or fails

pub either_if : {X E : Type 0} (r : Result X E) (P : X → Type 0) (Q R : Type 0) → IfOk r P → OnErr r Q → ((x : X) → P x → R) → (Q → R) → R
either_if (Ok x) P Q R p q f g = f x p
either_if (Err e) P Q R p q f g = g q

pub on_if : {X E : Type 0} (r : Result X E) (P Q : X → Type 0) → IfOk r P → ((x : X) → P x → Q x) → IfOk r Q
on_if (Ok x) P Q p f = f x p
on_if (Err e) P Q p f = tt
