-- Units under construction, step by step: what each call keeps.
use Rattle.std.proofs.Common.{◌≡◌, ◌≢◌, ◌≤◌, ◌<◌, ◌+◌, ◌-◌, ◌^◌, ◌++◌, ◌∷◌, [], ℕ, List, Bool, true, false, Option, Some, None, length, refl, sym, ap, subst, ◌∙◌, arith, length-append, append-nil}
use Rattle.std.proofs.Math.Nat.{one-le-pow}
use Rattle.std.specs.Prelude.{nat_le, nat_lt, ◌==◌, is_some, IsSome, IfSome, Result, Ok, Err, OnOk, OnErr, ◌↔◌, option_map}
use Rattle.std.proofs.lemmas.Bool.{leb-true, leb-false, le-leb, lt-ltb, ne_eqb, and_parts}
use Rattle.dw_leb.specs.Part.{Part}
use Rattle.dw_leb.specs.Number.{Unsigned, UlebFits, uleb, length_size, length_field, initial_length}
use Rattle.dw_leb.specs.DecideNumber.{uleb_fits, length-uleb, initial-size}
use Rattle.dw_leb.specs.declared.order.Order.{Order}
use Rattle.dw_leb.specs.declared.order.Format.{Format}
use Rattle.dw_leb.specs.declared.order.Format.TheVariants.{Dwarf32, Dwarf64}
use Rattle.dw_form.specs.HeadFront.{front_size, front_within, front_bytes}
use Rattle.dw_form.specs.Form.{Attribute}
use Rattle.dw_form.specs.Pieces.{HasSpelling, spelling, has_spelling}
use Rattle.dw_abbrev.specs.Build.{is_width}
use Rattle.dw_abbrev.specs.Table.{Pair, Declaration, Table, declared, zero_of}
use Rattle.dw_form.specs.declared.shape.Ctx.{Ctx}
use Rattle.dw_tree.specs.Tree.{Tree, Forest, none, more, leaf, branch, declared_pairs, nulls, AreNulls, nesting, tree as part, unit_tree}
use Rattle.dw_tree.specs.Row.{push}
use Rattle.dw_tree.specs.Place.{Frame, Spot, leave_from, PartialValue, UnfinishedEntry, Place}
use Rattle.dw_tree.specs.Steps.{Growing, TreeAt, settled, settle_by, settle, begun_at, value_at, with_value, partial_in, partial_attribute, ended_by, ended as ended_at, closed_at, undone as undone_at, end_of, finished as finished_at, whole_tree, FirstsFit, FirstFits, NextFits, first_bytes, next_bytes, next_pairs, next_pair}
use Rattle.dw_tree.specs.Next.{next_is}
use Rattle.dw_tree.specs.Ends.{begun_end, value_end, closed_end}
use Rattle.dw_header.specs.Header.{fields, fields_of, context_of}
use Rattle.dw_unit.specs.Unit.{WholeUnit, body_bytes}
use Rattle.dw_unit.specs.UnitView.{IsUnit}
use Rattle.dw_header.specs.HeaderPlace.{header_size}
use Rattle.dw_unit.specs.Draft.{Drafted, tree_in, drafted_size, with_place, begun, given, closed, padded, undone, size_limit, passes_limit, IsOnlyRoot, value_bytes, partial_of, PartialFits, AtMostOne, NoneBefore, HasOneRoot, IsUnfinished, IsDrafted}
use Rattle.dw_unit.proofs.EntryLemmas.{prefix_more}

-- ---- calls that may fail

pub either_way : {X E : Type 0} (r : Result X E) (P Q R : Type 0) → OnOk r P → OnErr r Q → (P → R) → (Q → R) → R
either_way (Ok x) P Q R p q f g = f p
either_way (Err e) P Q R p q f g = g q

pub on_ok : {X E : Type 0} (r : Result X E) (P Q : Type 0) → OnOk r P → (P → Q) → OnOk r Q
on_ok (Ok x) P Q p f = f p
on_ok (Err e) P Q p f = tt

-- ---- nulls

zero_holds : (width : ℕ) → is_width width ≡ true → UlebFits (record { value = 0; width = width })
zero_holds width e =
    let h = and_parts (nat_le 1 width) (nat_le width 16) e in
    record {
      some = leb-true 1 width h.0;
      most = leb-true width 16 h.1;
      held = one-le-pow width 128 (omega arith);
      range = omega arith;
    }

pub null_none : (width : ℕ) → (UlebFits (record { value = 0; width = width }) → false ≡ true) → false ≡ is_width width
null_none width h = by (is_width width) refl
  where
    by : (v : Bool) → is_width width ≡ v → false ≡ v
    by true e = h (zero_holds width e)
    by false e = refl

pub null_some : (width : ℕ) → UlebFits (record { value = 0; width = width }) → true ≡ is_width width
null_some width h = rw (le-leb 1 width h.some, le-leb width 16 h.most) refl

pub null_is : {X : Type 0} (r : Option X) (width : ℕ) → (IsSome r ↔ UlebFits (record { value = 0; width = width })) → is_some r ≡ is_width width
null_is None width h = null_none width h.1
null_is (Some x) width h = null_some width (h.0 refl)

pub null_fits : (width : ℕ) → is_width width ≡ true → uleb.Fits (zero_of width)
null_fits width e = uleb_fits (zero_of width) (zero_holds width e)

pub nulls_push : (ws : List ℕ) (w : ℕ) → length (nulls (ws ++ w ∷ [])) ≡ length (nulls ws) + w
nulls_push [] w = let e = ap length (append-nil (uleb.spell (zero_of w))) in let n = length-uleb (zero_of w) in omega (arith, e, n)
nulls_push (x ∷ ws) w =
    let h = nulls_push ws w in
    let one = uleb.spell (zero_of x) in
    omega (arith, h, length-append one (nulls (ws ++ w ∷ [])), length-append one (nulls ws))

pub nulls_fit : (ws : List ℕ) (w : ℕ) → AreNulls ws → uleb.Fits (zero_of w) → AreNulls (ws ++ w ∷ [])
nulls_fit [] w h f = (f, tt)
nulls_fit (x ∷ ws) w h f = (h.0, nulls_fit ws w h.1 f)

-- ---- lengths

pub not_le : (m n : ℕ) → n < m → nat_le m n ≡ false
not_le m n l = by (nat_le m n) refl
  where
    by : (v : Bool) → nat_le m n ≡ v → nat_le m n ≡ false
    by true t = let h = leb-true m n t in absurd (omega (arith, l, h))
    by false t = t

-- it is not too long
pub within : (d : Drafted) (n : ℕ) → passes_limit d n ≡ false → drafted_size d + n < size_limit d.header.format
within d n e = let h = leb-false (size_limit d.header.format) (drafted_size d + n) e in omega (arith, h)

pub not_long : (d : Drafted) (n : ℕ) → drafted_size d + n < size_limit d.header.format → passes_limit d n ≡ false
not_long d n h = not_le (size_limit d.header.format) (drafted_size d + n) h

pub limit_near : (f : Format) → size_limit f ≤ 2 ^ 63
limit_near Dwarf32 = omega arith
limit_near Dwarf64 = omega arith

pub inside : (fs : List Frame) (n : ℕ) → n ≡ length fs → n ≢ 0 → fs ≢ []
inside [] n e some same = absurd (some e)
inside (f ∷ fs) n e some same = absurd cc

-- ---- one root

leave_one : (w : ℕ) (fs : List Frame) (ts : Forest) → HasOneRoot fs ts → HasOneRoot (leave_from w fs ts).above (leave_from w fs ts).left
leave_one w [] ts h = h
leave_one w (f ∷ []) ts h = subst (λ (us : Forest). AtMostOne (push us (branch f.code f.values ts w))) (sym h) tt
leave_one w (f ∷ g ∷ fs) ts h = h

enter_one : (fs : List Frame) (ts : Forest) → IsOnlyRoot (record { above = fs; left = ts }) → HasOneRoot fs ts → NoneBefore fs ts
enter_one [] none only h = refl
enter_one [] (more x ts) only h = absurd (bare (only refl))
  where
    bare : false ≡ true → ⊥
    bare e = absurd cc
enter_one (f ∷ fs) ts only h = h

add_one : (fs : List Frame) (ts : Forest) (x : Tree) → IsOnlyRoot (record { above = fs; left = ts }) → HasOneRoot fs ts → HasOneRoot fs (push ts x)
add_one [] none x only h = tt
add_one [] (more y ts) x only h = absurd (bare (only refl))
  where
    bare : false ≡ true → ⊥
    bare e = absurd cc
add_one (f ∷ fs) ts x only h = h

-- an entry that is given these values so far, where one can stand
module _ (k : Ctx) (t : Table) (s : Spot) (code : Unsigned) (vs : List Attribute) (known : IsSome (declared t code.value)) (only : IsOnlyRoot s) (prefix : FirstsFit k (declared_pairs (declared t code.value)) vs) (one : HasOneRoot s.above s.left) where
  abbrev Kept : Place → Type 0
  Kept p = HasOneRoot p.spot.above p.spot.left × IfSome p.unfinished (IsUnfinished k t p.spot)

  settled_kept : (done children : Bool) → Kept (settled done children s code vs)
  settled_kept true true = (enter_one s.above s.left only one, tt)
  settled_kept true false = (add_one s.above s.left (leaf code vs) only one, tt)
  settled_kept false children = (one, record { known = known; only = only; prefix = prefix })

  pub settle_kept : Kept (settle t s code vs)
  settle_kept = by (declared t code.value)
    where
      by : (o : Option Declaration) → Kept (settle_by o s code vs)
      by None = (one, tt)
      by (Some d) = settled_kept (length vs == length d.pairs) d.children

-- a value changes nothing of a tree but its place
pub value_place : (d : Drafted) (v : Attribute) → with_value v (tree_in d) ≡ tree_in (given v d)
value_place d v = by d.place.unfinished
  where
    by : (o : Option UnfinishedEntry) → value_at v (tree_in d) o ≡ tree_in (with_place (value_at v (tree_in d) o).place d)
    by None = refl
    by (Some r) = refl

-- the next value as it is measured by its pair: it has a spelling, of as many bytes
pub next_sized : (d : Drafted) (k : Ctx) (v : Attribute) (p : Pair) → k ≡ context_of d.header → next_pair d.table d.place.unfinished ≡ Some p → NextFits (context_of d.header) d.table d.place.unfinished v
    → HasSpelling k p.form.value v × (length (spelling k p.form.value v) ≡ length (value_bytes d v))
next_sized d k v p same pair fits =
    let w = next_is (context_of d.header) v d.table d.place.unfinished p pair fits in
    let whole = has_spelling (context_of d.header) p.form.value p.constant v w.0 in
    subst (λ (x : Ctx). HasSpelling x p.form.value v × (length (spelling x p.form.value v) ≡ length (value_bytes d v))) (sym same) (whole.0, ap length (whole.1 ∙ sym w.1))

-- and its front is that of those bytes
pub next_fronted : (d : Drafted) (k : Ctx) (v : Attribute) (p : Pair) → k ≡ context_of d.header → next_pair d.table d.place.unfinished ≡ Some p → NextFits (context_of d.header) d.table d.place.unfinished v
    → front_bytes v (spelling k p.form.value v) ≡ front_bytes v (value_bytes d v)
next_fronted d k v p same pair fits =
    let w = next_is (context_of d.header) v d.table d.place.unfinished p pair fits in
    let whole = has_spelling (context_of d.header) p.form.value p.constant v w.0 in
    subst (λ (x : Ctx). front_bytes v (spelling x p.form.value v) ≡ front_bytes v (value_bytes d v)) (sym same) (ap (front_bytes v) (whole.1 ∙ sym w.1))

-- a partial text or block is given as a value
pub begun_some : {X Y : Type 0} (f : X → Y) (o : Option X) (y : Y) → Some y ≡ option_map f o → (x : X) × (o ≡ Some x) × (y ≡ f x)
begun_some f None y e = absurd cc
begun_some f (Some x) y e = (x, refl, cc)

pub ended_value : (g : Growing) (v : Attribute) → option_map partial_attribute (partial_in g.place.unfinished) ≡ Some v → ended_at g ≡ with_value v g
ended_value g v e = by (partial_in g.place.unfinished) e
  where
    by : (o : Option PartialValue) → option_map partial_attribute o ≡ Some v → ended_by o g ≡ with_value v g
    by None h = absurd cc
    by (Some b) h = let same : partial_attribute b ≡ v = cc in ap (λ (a : Attribute). with_value a g) same

-- ---- what is kept

module _ (d : Drafted) (tree : Growing) (padded_by : ℕ) (i : IsDrafted d tree padded_by) where
  -- the tree goes on at another place
  module _ (p : Place) (new : Growing) (e : new ≡ tree_in (with_place p d)) (one : HasOneRoot p.spot.above p.spot.left) (unfinished : IfSome p.unfinished (IsUnfinished (context_of d.header) d.table p.spot)) (short : drafted_size (with_place p d) < size_limit d.header.format) where
    pub place_kept : IsDrafted (record { header = d.header; table = new.table; place = new.place; padding = d.padding }) new padded_by
    place_kept = subst (λ (g : Growing). IsDrafted (record { header = d.header; table = g.table; place = g.place; padding = d.padding }) new padded_by) (sym e) (record {
      header_fits = i.header_fits;
      tree_is = e;
      one_root = one;
      unfinished = unfinished;
      nulls_fit = i.nulls_fit;
      counted = i.counted;
      short = short;
    })

  -- or nothing changed
  pub same_kept : (new : Growing) → new ≡ tree → IsDrafted (record { header = d.header; table = new.table; place = new.place; padding = d.padding }) new padded_by
  same_kept new e = place_kept d.place new (e ∙ i.tree_is) i.one_root i.unfinished i.short

  pub new_is : (f : Growing → Growing) (new : Growing) → new ≡ f tree → new ≡ f (tree_in d)
  new_is f new e = e ∙ ap f i.tree_is

  module _ (code : Unsigned) (known : IsSome (declared d.table code.value)) (free : d.place.unfinished ≡ None) where
    pub begun_size : drafted_size (begun code d) ≡ drafted_size d + code.width
    begun_size = let e = begun_end (tree_in d) code known free in omega (arith, e)

    pub begin_kept : (new : Growing) → new ≡ begun_at code tree → IsOnlyRoot d.place.spot → passes_limit d code.width ≡ false → IsDrafted (record { header = d.header; table = new.table; place = new.place; padding = d.padding }) new padded_by
    begin_kept new e only short =
        let kept = settle_kept (context_of d.header) d.table d.place.spot code [] known only tt i.one_root in
        let w = within d code.width short in
        place_kept (begun code d).place new (new_is (begun_at code) new e) kept.0 kept.1 (omega (arith, w, begun_size))

  module _ (v : Attribute) (fits : NextFits (context_of d.header) d.table d.place.unfinished v) where
    abbrev unfinished_at : Option UnfinishedEntry → Drafted
    unfinished_at o = record { header = d.header; table = d.table; place = record { spot = d.place.spot; unfinished = o }; padding = d.padding }

    abbrev after : Option UnfinishedEntry → Place
    after o = (given v (unfinished_at o)).place

    abbrev Given : Option UnfinishedEntry → Type 0
    Given o = (drafted_size (given v (unfinished_at o)) ≡ drafted_size (unfinished_at o) + length (value_bytes (unfinished_at o) v)) × (HasOneRoot (after o).spot.above (after o).spot.left × IfSome (after o).unfinished (IsUnfinished (context_of d.header) d.table (after o).spot))

    given_by : (o : Option UnfinishedEntry) → IfSome o (IsUnfinished (context_of d.header) d.table d.place.spot) → NextFits (context_of d.header) d.table o v → Given o
    given_by None u f = absurd f
    given_by (Some r) u f =
        let e = value_end (tree_in (unfinished_at (Some r))) r v refl u.known u.prefix f in
        let prefix = prefix_more (context_of d.header) (declared_pairs (declared d.table r.code.value)) r.values v u.prefix f in
        (omega (arith, e), settle_kept (context_of d.header) d.table d.place.spot r.code (r.values ++ v ∷ []) u.known u.only prefix i.one_root)

    given_is : Given d.place.unfinished
    given_is = given_by d.place.unfinished i.unfinished fits

    pub given_size : drafted_size (given v d) ≡ drafted_size d + length (value_bytes d v)
    given_size = given_is.0

    pub value_kept : (new : Growing) → new ≡ with_value v tree → passes_limit d (length (value_bytes d v)) ≡ false → IsDrafted (record { header = d.header; table = new.table; place = new.place; padding = d.padding }) new padded_by
    value_kept new e short =
        let w = within d (length (value_bytes d v)) short in
        place_kept (given v d).place new (new_is (with_value v) new e ∙ value_place d v) given_is.1.0 given_is.1.1 (omega (arith, w, given_size))

  pub ended_size : (new : Growing) → new ≡ ended_at tree → PartialFits d → IfSome (partial_of d) (λ v. drafted_size (record { header = d.header; table = new.table; place = new.place; padding = d.padding }) ≡ drafted_size d + length (value_bytes d v))
  ended_size new e fits = by (partial_of d) refl fits
    where
      by : (o : Option Attribute) → partial_of d ≡ o → IfSome o (λ v. NextFits (context_of d.header) d.table d.place.unfinished v)
          → IfSome o (λ v. drafted_size (record { header = d.header; table = new.table; place = new.place; padding = d.padding }) ≡ drafted_size d + length (value_bytes d v))
      by None h f = tt
      by (Some v) h f =
          let given_new : new ≡ tree_in (given v d) = new_is ended_at new e ∙ (ended_value (tree_in d) v h ∙ value_place d v) in
          ap (λ (g : Growing). drafted_size (record { header = d.header; table = g.table; place = g.place; padding = d.padding })) given_new ∙ given_size v f

  pub closed_size : (w : ℕ) → d.place.spot.above ≢ [] → d.place.unfinished ≡ None → drafted_size (closed w d) ≡ drafted_size d + w
  closed_size w inside free = let e = closed_end (tree_in d) w inside free in omega (arith, e)

  pub close_kept : (w : ℕ) (new : Growing) → new ≡ closed_at w tree → d.place.spot.above ≢ [] → d.place.unfinished ≡ None → passes_limit d w ≡ false
      → IsDrafted (record { header = d.header; table = new.table; place = new.place; padding = d.padding }) new padded_by
  close_kept w new e inside free short =
      let size = closed_size w inside free in
      let lt = within d w short in
      place_kept (closed w d).place new (new_is (closed_at w) new e) (leave_one w d.place.spot.above d.place.spot.left i.one_root) tt (omega (arith, size, lt))

  pub undo_kept : (new : Growing) → new ≡ undone_at tree → IsDrafted (record { header = d.header; table = new.table; place = new.place; padding = d.padding }) new padded_by
  undo_kept new e =
      let short = i.short in
      place_kept (undone d).place new (new_is undone_at new e) i.one_root tt (omega (arith, short))

  pub padded_size : (w : ℕ) → drafted_size (padded w d) ≡ drafted_size d + w
  padded_size w = let n = nulls_push d.padding w in omega (arith, n)

  pub pad_kept : (w : ℕ) → is_width w ≡ true → passes_limit d w ≡ false → IsDrafted (padded w d) tree (padded_by + w)
  pad_kept w e short =
      let n = nulls_push d.padding w in
      let lt = within d w short in
      record {
        header_fits = i.header_fits;
        tree_is = i.tree_is;
        one_root = i.one_root;
        unfinished = i.unfinished;
        nulls_fit = nulls_fit d.padding w i.nulls_fit (null_fits w e);
        counted = omega (arith, n, i.counted);
        short = omega (arith, n, lt);
      }

-- ---- a whole unit

length_fits : (order : Order) (format : Format) (n : ℕ) → length_size format + n < size_limit format → (initial_length order 0).Fits (format, n)
length_fits order Dwarf32 n h =
    let small : nat_le 0xfffffff0 n ≡ false = not_le 0xfffffff0 n (omega (arith, h)) in
    let plain : (n == 0xffffffff) ≡ false = ne_eqb n 0xffffffff (λ e. omega (arith, h, e)) in
    let near : nat_lt (0 + 4 + n) (2 ^ 63) ≡ true = lt-ltb (0 + 4 + n) (2 ^ 63) (omega (arith, h)) in
    rw (small, plain, near) (((omega (arith, h), refl), tt), refl)
length_fits order Dwarf64 n h =
    let near : nat_lt (0 + 12 + n) (2 ^ 63) ≡ true = lt-ltb (0 + 12 + n) (2 ^ 63) (omega (arith, h)) in
    rw near (((omega arith, refl), omega (arith, h)), refl)

finished_is : (g : Growing) (t : TreeAt) → finished_at g ≡ Some t → t ≡ record { context = g.context; table = g.table; start = g.start; root = t.root }
finished_is g t e = by (whole_tree g.place.spot.above g.place.spot.left g.place.unfinished) e
  where
    build : Tree → TreeAt
    build x = record { context = g.context; table = g.table; start = g.start; root = x }

    by : (o : Option Tree) → option_map build o ≡ Some t → t ≡ build t.root
    by None h = absurd cc
    by (Some x) h = let same : build x ≡ t = cc in sym same ∙ ap (λ (s : TreeAt). build s.root) same

module _ (d : Drafted) (tree : Growing) (padded_by size : ℕ) (i : IsDrafted d tree padded_by) (sized : size ≡ drafted_size d) where
  module _ (t : TreeAt) (whole : finished_at tree ≡ Some t) (fits : (unit_tree t.context t.table).Fits t.root) (ends : end_of tree ≡ t.start + length ((unit_tree t.context t.table).spell t.root)) where
    abbrev same_tree : TreeAt
    same_tree = record { context = context_of d.header; table = d.table; start = header_size d.header; root = t.root }

    tree_same : t ≡ same_tree
    tree_same = finished_is (tree_in d) t (ap finished_at (sym i.tree_is) ∙ whole)

    abbrev unit_here : WholeUnit
    unit_here = record { header = d.header; table = d.table; root = t.root; padding = d.padding }

    abbrev tree_part : Part Tree
    tree_part = part (context_of d.header) d.table (nesting - 1)

    tree_fits : tree_part.Fits t.root
    tree_fits = subst (λ (s : TreeAt). (unit_tree s.context s.table).Fits s.root) tree_same fits

    abbrev body : List ℕ
    body = body_bytes unit_here

    body_size : length_size d.header.format + length body ≡ size
    body_size =
        let f = (fields d.header.order d.header.format).spell (fields_of d.header) in
        let r = tree_part.spell t.root in
        let one = ends ∙ ap (λ (s : TreeAt). s.start + length ((unit_tree s.context s.table).spell s.root)) tree_same in
        let all = ap end_of i.tree_is in
        omega (arith, length-append f (r ++ nulls d.padding), length-append r (nulls d.padding), one, all, sized)

    here : IsUnit unit_here same_tree size
    here =
        let first = (length_field d.header.order).spell (d.header.format, length body) in
        record {
          fits = record {
            length_fits = length_fits d.header.order d.header.format (length body) (omega (arith, body_size, sized, i.short));
            header_fits = i.header_fits;
            tree_fits = tree_fits;
            padding_fits = i.nulls_fit;
          };
          tree_is = refl;
          sized = omega (arith, body_size, length-append first body, initial-size d.header.order 0 d.header.format (length body));
        }

    pub unit_built : IsUnit (record { header = d.header; table = t.table; root = t.root; padding = d.padding }) t size
    unit_built = subst (λ (s : TreeAt). IsUnit (record { header = d.header; table = s.table; root = s.root; padding = d.padding }) s size) (sym tree_same) here

-- the front of the next value's bytes lies within them
pub next_front_short : (k : Ctx) (t : Table) (o : Option UnfinishedEntry) (v : Attribute) → NextFits k t o v → front_size v (length (next_bytes k t o v)) ≤ length (next_bytes k t o v)
next_front_short k t None v fits = absurd fits
next_front_short k t (Some r) v fits = by (next_pairs t r) fits
  where
    by : (ps : List Pair) → FirstFits k ps v → front_size v (length (first_bytes k ps v)) ≤ length (first_bytes k ps v)
    by [] h = absurd h
    by (p ∷ ps) h = front_within k p.form.value p.constant v h
