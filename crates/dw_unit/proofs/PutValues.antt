-- An entry that is given its values by a caller.
use Rattle.std.proofs.Common.{◌≡◌, ◌+◌, ◌<◌, ◌++◌, ◌∷◌, [], ℕ, zero, suc, List, Option, Some, None, length, drop, map, slice_index_or, refl, sym, ap, ap₂, subst, ◌∙◌, arith, length-append}
use Rattle.std.specs.Prelude.{IsSome}
use Rattle.dw_leb.specs.Number.{Unsigned}
use Rattle.dw_form.specs.declared.shape.Ctx.{Ctx}
use Rattle.dw_form.specs.Form.{Attribute, attribute}
use Rattle.dw_form.specs.declared.value.AttrValue.{AttrValue}
use Rattle.dw_form.specs.Lent.{attribute_of}
use Rattle.dw_abbrev.specs.PairView.{pair_of}
use Rattle.dw_abbrev.specs.declared.pair.Pair.{Pair as RustPair}
use Rattle.dw_abbrev.specs.Table.{Pair, Declaration, declared}
use Rattle.dw_tree.specs.Tree.{values, declared_pairs}
use Rattle.dw_tree.specs.Flat.{value_part}
use Rattle.dw_tree.specs.Place.{Place, UnfinishedEntry}
use Rattle.dw_tree.specs.Steps.{partial_in, settle, NextFits, FirstFits, first_bytes}
use Rattle.dw_header.specs.Header.{context_of}
use Rattle.dw_unit.specs.Draft.{Drafted, with_place, given, undone, value_bytes}
use Rattle.dw_unit.proofs.EntryLemmas.{settle_open}

pub the : {X : Type 0} (o : Option X) → IsSome o → (x : X) × (o ≡ Some x)
the None h = absurd cc
the (Some x) h = (x, refl)

-- ---- the first value, and those behind it

pub record Parted (k : Ctx) (ps : List Pair) (n : ℕ) (v : Attribute) (vs : List Attribute) : Type 0 where
  pub first : FirstFits k (drop n ps) v
  pub rest : (values k (drop (suc n) ps)).Fits vs
  pub size : length ((values k (drop n ps)).spell (v ∷ vs)) ≡ length (first_bytes k (drop n ps) v) + length ((values k (drop (suc n) ps)).spell vs)
  pub short : n < length ps

pub parted : (k : Ctx) (ps : List Pair) (n : ℕ) (v : Attribute) (vs : List Attribute) → (values k (drop n ps)).Fits (v ∷ vs) → Parted k ps n v vs
parted k [] zero v vs h = absurd h
parted k [] (suc n) v vs h = absurd h
parted k (p ∷ ps) zero v vs h = record {
  first = h.0;
  rest = h.1;
  size = length-append ((attribute k p.form.value p.constant).spell v) ((values k ps).spell vs);
  short = omega arith;
}
parted k (p ∷ ps) (suc n) v vs h =
    let w = parted k ps n v vs h in
    record { first = w.first; rest = w.rest; size = w.size; short = let lt = w.short in omega (arith, lt) }

-- values for all pairs are as many
pub as_many : (k : Ctx) (ps : List Pair) (vs : List Attribute) → (values k ps).Fits vs → length vs ≡ length ps
as_many k [] [] h = refl
as_many k [] (v ∷ vs) h = absurd h
as_many k (p ∷ ps) [] h = absurd h
as_many k (p ∷ ps) (v ∷ vs) h = let n = as_many k ps vs h.1 in omega (arith, n)

-- ---- one more value

module _ (old draft : Drafted) (code : Unsigned) (before : List Attribute) (v : Attribute) (known : IsSome (declared old.table code.value)) (draft_is : draft ≡ with_place (settle old.table old.place.spot code before) old)
    (short : length before < length (declared_pairs (declared old.table code.value))) (first : FirstFits (context_of old.header) (drop (length before) (declared_pairs (declared old.table code.value))) v) where
  abbrev open_draft : Drafted
  open_draft = with_place (record { spot = old.place.spot; unfinished = Some (record { code = code; values = before; partial = None }) }) old

  open_is : draft ≡ open_draft
  open_is =
      let d = the (declared old.table code.value) known in
      draft_is ∙ ap (λ (p : Place). with_place p old) (settle_open old.table old.place.spot code before d.0 d.1 (omega (arith, short, ap (λ (o : Option Declaration). length (declared_pairs o)) d.1)))

  pub none_partial : partial_in draft.place.unfinished ≡ None
  none_partial = ap (λ (d : Drafted). partial_in d.place.unfinished) open_is

  pub next_fits : NextFits (context_of draft.header) draft.table draft.place.unfinished v
  next_fits = subst (λ (d : Drafted). NextFits (context_of d.header) d.table d.place.unfinished v) (sym open_is) first

  pub next_size : length (value_bytes draft v) ≡ length (first_bytes (context_of old.header) (drop (length before) (declared_pairs (declared old.table code.value))) v)
  next_size = ap (λ (d : Drafted). length (value_bytes d v)) open_is

  pub with_is : given v draft ≡ with_place (settle old.table old.place.spot code (before ++ v ∷ [])) old
  with_is = ap (given v) open_is

  pub undone_is : old.place.unfinished ≡ None → undone draft ≡ old
  undone_is free = ap undone open_is ∙ ap (λ (o : Option UnfinishedEntry). with_place (record { spot = old.place.spot; unfinished = o }) old) (sym free)

-- ---- values and their pairs, one by one

-- the item at a place, seen by a view
pub next_of : {X Y : Type 0} (f : X → Y) (xs : List X) (i : ℕ) (x : X) → i < length xs → drop i (map f xs) ≡ f (slice_index_or xs i x) ∷ drop (suc i) (map f xs)
next_of f [] i x lt = absurd (omega (arith, lt))
next_of f (y ∷ xs) zero x lt = refl
next_of f (y ∷ xs) (suc i) x lt = next_of f xs i x (omega (arith, lt))

module _ (k : Ctx) (ps : List Pair) (vs : List AttrValue) (i n : ℕ) (v : AttrValue) (value_in : i < length vs) (value_is : v ≡ slice_index_or vs i v) where
  -- the next value, and those behind it
  pub next_here : drop i (map attribute_of vs) ≡ attribute_of v ∷ drop (suc i) (map attribute_of vs)
  next_here = next_of attribute_of vs i v value_in ∙ ap (λ (x : AttrValue). attribute_of x ∷ drop (suc i) (map attribute_of vs)) (sym value_is)

  pub next_parted : (values k (drop n ps)).Fits (drop i (map attribute_of vs)) → Parted k ps n (attribute_of v) (drop (suc i) (map attribute_of vs))
  next_parted fits = parted k ps n (attribute_of v) (drop (suc i) (map attribute_of vs)) (subst (λ (xs : List Attribute). (values k (drop n ps)).Fits xs) next_here fits)

module _ (k : Ctx) (ps : List RustPair) (vs : List AttrValue) (i : ℕ) (p : RustPair) (v : AttrValue) (pair_in : i < length ps) (value_in : i < length vs) (pair_is : p ≡ slice_index_or ps i p) (value_is : v ≡ slice_index_or vs i v) where
  abbrev pairs_behind : List Pair
  pairs_behind = drop (suc i) (map pair_of ps)

  abbrev values_behind : List Attribute
  values_behind = drop (suc i) (map attribute_of vs)

  pairs_here : drop i (map pair_of ps) ≡ pair_of p ∷ pairs_behind
  pairs_here = next_of pair_of ps i p pair_in ∙ ap (λ (q : RustPair). pair_of q ∷ pairs_behind) (sym pair_is)

  values_here : drop i (map attribute_of vs) ≡ attribute_of v ∷ values_behind
  values_here = next_of attribute_of vs i v value_in ∙ ap (λ (x : AttrValue). attribute_of x ∷ values_behind) (sym value_is)

  abbrev Here : Type 0
  Here = (values k (drop i (map pair_of ps))).Fits (drop i (map attribute_of vs))

  abbrev Behind : Type 0
  Behind = (values k pairs_behind).Fits values_behind

  pub apart : Here → (value_part k p).Fits (attribute_of v) × Behind
  apart h = subst (λ (xs : List Attribute). (values k (pair_of p ∷ pairs_behind)).Fits xs) values_here (subst (λ (qs : List Pair). (values k qs).Fits (drop i (map attribute_of vs))) pairs_here h)

  pub together : (value_part k p).Fits (attribute_of v) → Behind → Here
  together f h = subst (λ (qs : List Pair). (values k qs).Fits (drop i (map attribute_of vs))) (sym pairs_here) (subst (λ (xs : List Attribute). (values k (pair_of p ∷ pairs_behind)).Fits xs) (sym values_here) (f, h))

  pub sizes : length ((values k (drop i (map pair_of ps))).spell (drop i (map attribute_of vs))) ≡ length ((value_part k p).spell (attribute_of v)) + length ((values k pairs_behind).spell values_behind)
  sizes = ap₂ (λ (qs : List Pair) (xs : List Attribute). length ((values k qs).spell xs)) pairs_here values_here ∙ length-append ((value_part k p).spell (attribute_of v)) ((values k pairs_behind).spell values_behind)
