-- What is kept of entries, and that it says as much of them as all of their children do.
use Rattle.std.proofs.Common.{◌≡◌, ◌≢◌, ◌∙◌, ℕ, zero, suc, ◌+◌, ◌<◌, ◌≤◌, get_or, drop, drop-cons, length, Bool, true, false, cond, eqb, ◌&&◌, ◌||◌, List, [], ◌∷◌, ◌++◌, Option, Some, None, Bor, refl, sym, ap, subst, append_assoc, arith}
use Rattle.std.specs.Prelude.{IfSome, codes, if◌then◌else◌, ◌==◌}
use Rattle.std.proofs.lemmas.Bool.{eqb-true, eq-eqb, ne_eqb}
use Rattle.std.specs.List.{AllByRecursion}
use Rattle.std.specs.Map.{lookup}
use Rattle.std.specs.Option.{option_copied}
use Rattle.indexmap.specs.IndexMap.{insert_entry}
use Rattle.dw_tree.specs.Lent.{EntryAt, children_of}
use Rattle.dw_section.specs.Item.{Item}
use Rattle.dw_section.specs.Lookup.{entry}
use Rattle.dw_section.specs.declared.id.EntryId.{EntryId}
use Rattle.dw_ctype.specs.declared.kind.Kind.{Kind}
use Rattle.dw_ctype.specs.declared.kind.Kind.TheVariants.{Named, Tagged, Marked, Qualified, Array, Function, Other}
use Rattle.dw_ctype.specs.declared.parts.Parts.{Parts}
use Rattle.dw_ctype.specs.declared.typed.Typed.{Typed}
use Rattle.dw_ctype.specs.InOrder.{is_parameter, parameter_text, to_come}
use Rattle.dw_ctype.specs.Parts.{ArePartsOf, parameter_types, kind_types, types_of, visits_of, is_shown, shown_among, shown_of}
use Rattle.dw_ctype.specs.Types.{tag, kind_of, type_of, behind_commas, dimension, dimensions_of, parameter_texts}
use Rattle.dw_ctype.specs.declared.typed.Typed.TheVariants.{Entry}
use Rattle.dw_ctype.specs.Visits.{less, type_visits, kind_visits, parameter_visits}
use Rattle.dw_ctype.proofs.Spent.{less_stops, less_then}

-- ---- what is kept under an id

both : (a b : Bool) → (a && b) ≡ true → (a ≡ true) × (b ≡ true)
both true true h = (refl, refl)
both true false h = absurd cc
both false b h = absurd cc

pub same_id : (a b : EntryId) → (eqb a.item b.item && eqb a.offset b.offset) ≡ true → a ≡ b
same_id a b h =
    let p = both (eqb a.item b.item) (eqb a.offset b.offset) h in
    let item : a.item ≡ b.item = eqb-true a.item b.item p.0 in
    let offset : a.offset ≡ b.offset = eqb-true a.offset b.offset p.1 in
    λ j. record { item = item j; offset = offset j }

module _ {K X : Type 0} (P : K → X → Type 0) where
  -- what a look-up finds stands there
  pub kept_at : (es : List (K × X)) (k : K) (test : K → Bool) (x : X) → ((other : K) → test other ≡ true → k ≡ other) → AllByRecursion (λ e. P e.0 e.1) es → lookup test es ≡ Some x → P k x
  kept_at [] k test x own h found = absurd cc
  kept_at (e ∷ es) k test x own h found = by (test e.0) refl found (kept_at es k test x own h.1)
    where
      by : (v : Bool) → test e.0 ≡ v → cond v (Some e.1) (lookup test es) ≡ Some x → (lookup test es ≡ Some x → P k x) → P k x
      by true is f rest =
          let same : e.1 ≡ x = cc in
          subst (λ (y : X). P k y) same (subst (λ (n : K). P n e.1) (sym (own e.0 is)) h.0)
      by false is f rest = rest f

  pub kept_more : (eq : K → K → Bool) (es : List (K × X)) (k : K) (x : X) → ((other : K) → eq k other ≡ true → k ≡ other) → AllByRecursion (λ e. P e.0 e.1) es → P k x → AllByRecursion (λ e. P e.0 e.1) (insert_entry eq es k x)
  kept_more eq [] k x own h p = (p, tt)
  kept_more eq (e ∷ es) k x own h p = by (eq k e.0) refl (kept_more eq es k x own h.1 p)
    where
      by : (v : Bool) → eq k e.0 ≡ v → AllByRecursion (λ e. P e.0 e.1) (insert_entry eq es k x) → AllByRecursion (λ e. P e.0 e.1) (if v then (e.0, x) ∷ es else e ∷ insert_entry eq es k x)
      by true is rest = (subst (λ (n : K). P n x) (own e.0 is) p, h.1)
      by false is rest = (h.0, rest)

-- what a look-up answers is what stands there
pub each_copied : {X : Type 0} (P : X → Type 0) (found : Option X) (r : Option (Bor X)) → option_copied r ≡ found → ((x : X) → found ≡ Some x → P x) → IfSome r (λ p. P p.now)
each_copied P found None e h = tt
each_copied P found (Some p) e h = h p.now (sym e)

-- what is kept of an entry that is there
pub parts_there : (items : List Item) (id : EntryId) (e : EntryAt) (parts : Parts) → entry items id ≡ Some e → ArePartsOf items id.item (entry items id) parts → (parts.types.items ≡ types_of items id.item e) × (parts.shown.items ≡ shown_of e)
parts_there items id e parts there h = subst (λ (o : Option EntryAt). ArePartsOf items id.item o parts) there h

pub parts_kept : (items : List Item) (id : EntryId) (e : EntryAt) (parts : Parts) → entry items id ≡ Some e → parts.types.items ≡ types_of items id.item e → parts.shown.items ≡ shown_of e → ArePartsOf items id.item (entry items id) parts
parts_kept items id e parts there types shown = subst (λ (o : Option EntryAt). ArePartsOf items id.item o parts) (sym there) (types, shown)

-- ---- the visits of types

module _ (items : List Item) (i : ℕ) where
  pub parameters_visited : (visits : Typed → ℕ) (es : List EntryAt) → visits_of visits (parameter_types items i es) ≡ parameter_visits (λ p. visits (type_of items i p)) es
  parameters_visited visits [] = refl
  parameters_visited visits (e ∷ es) = by (tag e == 0x05) refl (parameters_visited visits es)
    where
      by : (v : Bool) → (tag e == 0x05) ≡ v → visits_of visits (parameter_types items i es) ≡ parameter_visits (λ p. visits (type_of items i p)) es
          → visits_of visits (parameter_types items i (e ∷ es)) ≡ parameter_visits (λ p. visits (type_of items i p)) (e ∷ es)
      by true is rest = rw is (ap (λ (n : ℕ). visits (type_of items i e) + n) rest)
      by false is rest = rw is rest

  -- the visits of all types of an entry
  pub kind_visited : (visits : Typed → ℕ) (e : EntryAt) (k : Kind) → visits_of visits (kind_types items i e k) ≡ kind_visits visits items i e k
  kind_visited visits e Named = refl
  kind_visited visits e (Tagged k) = refl
  kind_visited visits e (Marked m) = omega arith
  kind_visited visits e (Qualified q) = omega arith
  kind_visited visits e Array = omega arith
  kind_visited visits e Function = ap (λ (n : ℕ). visits (type_of items i e) + n) (parameters_visited visits (children_of e))
  kind_visited visits e Other = refl

  module _ (e : EntryAt) (es all : List EntryAt) (steps : all ≡ e ∷ es) where
    -- the type of the first child that is a parameter
    pub parameter_typed : tag e ≡ 0x05 → parameter_types items i all ≡ type_of items i e ∷ parameter_types items i es
    parameter_typed h = ap (parameter_types items i) steps ∙ rw (eq-eqb (tag e) 0x05 h) refl

    pub parameter_untyped : tag e ≢ 0x05 → parameter_types items i all ≡ parameter_types items i es
    parameter_untyped h = ap (parameter_types items i) steps ∙ rw (ne_eqb (tag e) 0x05 h) refl

-- ---- the children that are shown

module _ (k : Kind) (e : EntryAt) (es : List EntryAt) where
  pub one_shown : is_shown k (tag e) ≡ true → shown_among k (e ∷ es) ≡ e ∷ shown_among k es
  one_shown h = rw h refl

  pub one_hidden : is_shown k (tag e) ≡ false → shown_among k (e ∷ es) ≡ shown_among k es
  one_hidden h = rw h refl

-- a child more is looked at
pub shown_more : (k : Kind) (e : EntryAt) (es left all : List EntryAt) (shown : List EntryAt) → left ≡ e ∷ es → is_shown k (tag e) ≡ true → shown ++ shown_among k left ≡ all → (shown ++ e ∷ []) ++ shown_among k es ≡ all
shown_more k e es left all shown steps is h = append_assoc shown (e ∷ []) (shown_among k es) ∙ ap (λ (l : List EntryAt). shown ++ l) (sym (ap (shown_among k) steps ∙ one_shown k e es is)) ∙ h

pub hidden_more : (k : Kind) (e : EntryAt) (es left all : List EntryAt) (shown : List EntryAt) → left ≡ e ∷ es → is_shown k (tag e) ≡ false → shown ++ shown_among k left ≡ all → shown ++ shown_among k es ≡ all
hidden_more k e es left all shown steps is h = ap (λ (l : List EntryAt). shown ++ l) (sym (ap (shown_among k) steps ∙ one_hidden k e es is)) ∙ h

-- the texts of parameters are those of the children that are shown
pub texts_shown : (text : EntryAt → List ℕ) (es : List EntryAt) → parameter_texts text (shown_among Function es) ≡ parameter_texts text es
texts_shown text [] = refl
texts_shown text (e ∷ es) = by (tag e == 0x05) (tag e == 0x18) refl refl (texts_shown text es)
  where
    by : (a b : Bool) → (tag e == 0x05) ≡ a → (tag e == 0x18) ≡ b → parameter_texts text (shown_among Function es) ≡ parameter_texts text es → parameter_texts text (shown_among Function (e ∷ es)) ≡ parameter_texts text (e ∷ es)
    by true b is or rest = ap (parameter_texts text) (one_shown Function e es (rw is refl)) ∙ rw is (ap (λ (ts : List (List ℕ)). text e ∷ ts) rest)
    by false true is or rest = ap (parameter_texts text) (one_shown Function e es (rw (is, or) refl)) ∙ rw (is, or) (ap (λ (ts : List (List ℕ)). codes "..." ∷ ts) rest)
    by false false is or rest = ap (parameter_texts text) (one_hidden Function e es (rw (is, or) refl)) ∙ rest ∙ rw (is, or) refl

pub dimensions_shown : (es : List EntryAt) → dimensions_of (shown_among Array es) ≡ dimensions_of es
dimensions_shown [] = refl
dimensions_shown (e ∷ es) = by (tag e == 0x21) refl (dimensions_shown es)
  where
    by : (a : Bool) → (tag e == 0x21) ≡ a → dimensions_of (shown_among Array es) ≡ dimensions_of es → dimensions_of (shown_among Array (e ∷ es)) ≡ dimensions_of (e ∷ es)
    by true is rest = ap dimensions_of (one_shown Array e es is) ∙ rw is (ap (λ (l : List ℕ). dimension e ++ l) rest)
    by false is rest = ap dimensions_of (one_hidden Array e es is) ∙ rest ∙ rw is refl

-- ---- by what is kept

module _ (items : List Item) (id : EntryId) (e : EntryAt) (parts : Parts) (there : entry items id ≡ Some e) (are : ArePartsOf items id.item (entry items id) parts) where
  pub kept_visits : (visits : Typed → ℕ) → visits_of visits parts.types.items ≡ kind_visits visits items id.item e (kind_of e)
  kept_visits visits = ap (visits_of visits) (parts_there items id e parts there are).0 ∙ kind_visited items id.item visits e (kind_of e)

  pub kept_texts : (text : EntryAt → List ℕ) → kind_of e ≡ Function → parameter_texts text parts.shown.items ≡ parameter_texts text (children_of e)
  kept_texts text is = ap (parameter_texts text) ((parts_there items id e parts there are).1 ∙ ap (λ (k : Kind). shown_among k (children_of e)) is) ∙ texts_shown text (children_of e)

  pub kept_dimensions : kind_of e ≡ Array → dimensions_of parts.shown.items ≡ dimensions_of (children_of e)
  kept_dimensions is = ap dimensions_of ((parts_there items id e parts there are).1 ∙ ap (λ (k : Kind). shown_among k (children_of e)) is) ∙ dimensions_shown (children_of e)

-- the visits of a type of which parts are kept
pub type_visited : (items : List Item) (t : Typed) (id : EntryId) (parts : Parts) (visits : Typed → ℕ) → t ≡ Entry id → ArePartsOf items id.item (entry items id) parts → visits_of visits parts.types.items ≡ type_visits visits items t
type_visited items t id parts visits is = by (entry items id) refl
  where
    by : (o : Option EntryAt) → entry items id ≡ o → ArePartsOf items id.item o parts → visits_of visits parts.types.items ≡ type_visits visits items t
    by None there are = absurd are
    by (Some e) there are = ap (visits_of visits) are.0 ∙ kind_visited items id.item visits e (kind_of e) ∙ rw (is, there) refl

-- what is to come of parameters is what the first entry adds, and what the others do
pub come_split : (text : EntryAt → List ℕ) (prototyped some : Bool) (e : EntryAt) (es all : List EntryAt) → all ≡ e ∷ es
    → to_come prototyped some (parameter_texts text all) ≡ parameter_text text some e ++ to_come prototyped (some || is_parameter e) (parameter_texts text es)
come_split text prototyped some e es all steps = ap (λ (l : List EntryAt). to_come prototyped some (parameter_texts text l)) steps ∙ by (tag e == 0x05) (tag e == 0x18) some refl refl
  where
    by : (a b some : Bool) → (tag e == 0x05) ≡ a → (tag e == 0x18) ≡ b → to_come prototyped some (parameter_texts text (e ∷ es)) ≡ parameter_text text some e ++ to_come prototyped (some || is_parameter e) (parameter_texts text es)
    by true b true is or = rw is (sym (append_assoc (codes ", ") (text e) (behind_commas (parameter_texts text es))))
    by true b false is or = rw is refl
    by false true true is or = rw (is, or) (sym (append_assoc (codes ", ") (codes "...") (behind_commas (parameter_texts text es))))
    by false true false is or = rw (is, or) refl
    by false false true is or = rw (is, or) refl
    by false false false is or = rw (is, or) refl

-- ---- a list that is looked at from its front

pub one_left : {X : Type 0} (xs : List X) (i : ℕ) (x : X) → i < length xs → x ≡ get_or xs i x → drop i xs ≡ x ∷ drop (i + 1) xs
one_left {X} xs i x lt e =
    let one : i + 1 ≡ suc i = omega arith in
    rw (one, drop-cons xs i x) (ap (λ (y : X). y ∷ drop (suc i) xs) (sym e))

pub none_left : {X : Type 0} (xs : List X) (i : ℕ) → length xs ≤ i → drop i xs ≡ []
none_left [] zero h = refl
none_left [] (suc i) h = refl
none_left (x ∷ xs) zero h = absurd (omega (arith, h))
none_left (x ∷ xs) (suc i) h = none_left xs i (omega (arith, h))

-- the visits of the next type are taken, or there are not as many
module _ (one : Typed → ℕ) (ts : List Typed) (i : ℕ) (t : Typed) (left rest : ℕ) (lt : i < length ts) (so_far : less (visits_of one ts) left ≡ less (visits_of one (drop i ts)) rest) where
  next_type : visits_of one (drop i ts) ≡ one (get_or ts i t) + visits_of one (drop (i + 1) ts)
  next_type =
      let next : i + 1 ≡ suc i = omega arith in
      rw (next, drop-cons ts i t lt) refl

  pub type_counted : (next : ℕ) → less (one (get_or ts i t)) rest ≡ Some next → less (visits_of one ts) left ≡ less (visits_of one (drop (i + 1) ts)) next
  type_counted next h = so_far ∙ ap (λ (n : ℕ). less n rest) next_type ∙ less_then (one (get_or ts i t)) (visits_of one (drop (i + 1) ts)) rest next h

  pub type_stops : less (one (get_or ts i t)) rest ≡ None → less (visits_of one ts) left ≡ None
  type_stops h = so_far ∙ ap (λ (n : ℕ). less n rest) next_type ∙ less_stops (one (get_or ts i t)) (visits_of one (drop (i + 1) ts)) rest h
