-- A section in which one number is another: what the program keeps of it, and when the number is taken.
use Rattle.std.proofs.Common.{◌≡◌, ℕ, ℤ, zero, suc, ◌+◌, ◌<◌, List, [], ◌∷◌, length, map, set, get_or, Option, Some, None, refl, sym, ap, ap₂, subst, ◌∙◌, arith}
use Rattle.std.specs.Prelude.{Result, Ok, Err, IsSome, option_map, slice_get}
use Rattle.std.proofs.lemmas.List.{length-append, length-map}
use Rattle.dw_leb.specs.declared.order.Order.{Order}
use Rattle.dw_leb.specs.Number.{initial_length}
use Rattle.dw_form.specs.declared.shape.Ctx.{Ctx}
use Rattle.dw_form.specs.Form.{Value, Num, Wide, Uleb, Sleb, Block, Text, Present, Implicit}
use Rattle.dw_form.specs.Renumber.{renumbered}
use Rattle.dw_header.specs.declared.versions.Versions.{Versions}
use Rattle.dw_header.specs.Header.{context_of}
use Rattle.dw_tree.specs.Lent.{EntryAt, LentAttribute, attributes_of, first_named, entries_of, find_at}
use Rattle.dw_tree.specs.Put.{Edit, Takes}
use Rattle.dw_unit.specs.Unit.{WholeUnit, UnitFits, body_bytes, bytes_of, tree_of}
use Rattle.dw_unit.specs.Put.{put_in_unit}
use Rattle.dw_section.specs.declared.id.EntryId.{EntryId}
use Rattle.dw_section.specs.declared.item.Item.{Item as TheItem}
use Rattle.dw_section.specs.declared.set_refusal.SetRefusal.{SetRefusal}
use Rattle.dw_section.specs.Item.{Item, Known, Other, item_bytes}
use Rattle.dw_section.specs.ItemView.{item_of}
use Rattle.dw_section.specs.Section.{items_bytes, ItemsFit, HoldsTables, WholeSection, section_bytes}
use Rattle.dw_section.specs.Reference.{items_from, type_in, type_with, type_offset_if, first_type}
use Rattle.dw_section.specs.Lookup.{known_of, unit_at, starts_from, start_of}
use Rattle.dw_section.specs.StringBase.{base_in}
use Rattle.dw_section.specs.SectionView.{IsSection, id_of, first_id, ids_earlier}
use Rattle.dw_section.specs.SetNumber.{put_in_item, put_at, edit_of, edited, or_misfit, new_value, value_refusal, attribute_refusal, entry_refusal, unit_refusal, set_refusal, entry_offsets, KeepsOffsets, ItemKept}

-- ---- an item

unit_kept : (e : Edit) (u : WholeUnit) → UnitFits (put_in_unit e u) → length (body_bytes (put_in_unit e u)) ≡ length (body_bytes u) → length (bytes_of (put_in_unit e u)) ≡ length (bytes_of u) → entry_offsets (Known (put_in_unit e u)) ≡ entry_offsets (Known u)
    → ItemKept (Known u) (Known (put_in_unit e u))
unit_kept e u fits body whole offsets = record {
  size = whole;
  offsets = offsets;
  fits = λ versions order start h. record {
    order_is = h.order_is;
    accepted = h.accepted;
    fits = fits;
    length_fits = subst (λ (n : ℕ). (initial_length order start).Fits (u.header.format, n)) (sym body) h.length_fits;
  };
}

pub known_kept : (e : Edit) (u v : WholeUnit) → v ≡ put_in_unit e u → UnitFits v → length (body_bytes v) ≡ length (body_bytes u) → length (bytes_of v) ≡ length (bytes_of u)
    → map (λ (n : EntryAt). n.offset) (entries_of (tree_of v)) ≡ map (λ (n : EntryAt). n.offset) (entries_of (tree_of u)) → ItemKept (Known u) (Known v)
known_kept e u v is fits body whole offsets =
    subst (λ (w : WholeUnit). ItemKept (Known u) (Known w)) (sym is)
    (unit_kept e u (subst UnitFits is fits) (ap (λ (w : WholeUnit). length (body_bytes w)) (sym is) ∙ body) (ap (λ (w : WholeUnit). length (bytes_of w)) (sym is) ∙ whole) (ap (λ (w : WholeUnit). entry_offsets (Known w)) (sym is) ∙ offsets))

pub known_there : (xs : List Item) (i : ℕ) (u : WholeUnit) → unit_at xs i ≡ Some u → slice_get xs i ≡ Some (Known u)
known_there xs i u e = by (slice_get xs i) e
  where
    by : (o : Option Item) → known_of o ≡ Some u → o ≡ Some (Known u)
    by None h = absurd cc
    by (Some (Known w)) h = cc
    by (Some (Other bytes)) h = absurd cc

-- ---- the items

module _ (e : Edit) where
  pub starts_put : (xs : List Item) (i start : ℕ) (x : Item) → slice_get xs i ≡ Some x → ItemKept x (put_in_item e x) → starts_from start (put_at i e xs) ≡ starts_from start xs
  starts_put [] i start x there kept = absurd cc
  starts_put (y ∷ xs) zero start x there kept =
      let same : y ≡ x = cc in
      let own : ItemKept y (put_in_item e y) = subst (λ (z : Item). ItemKept z (put_in_item e z)) (sym same) kept in
      ap (λ (n : ℕ). start ∷ starts_from (start + n) xs) own.size
  starts_put (y ∷ xs) (suc i) start x there kept = ap (λ (l : List ℕ). start ∷ l) (starts_put xs i (start + length (item_bytes y)) x there kept)

  pub fit_put : (versions : Versions) (order : Order) (xs : List Item) (i start : ℕ) (x : Item) → slice_get xs i ≡ Some x → ItemKept x (put_in_item e x) → ItemsFit versions order start xs → ItemsFit versions order start (put_at i e xs)
  fit_put versions order [] i start x there kept fit = absurd cc
  fit_put versions order (y ∷ xs) zero start x there kept fit =
      let same : y ≡ x = cc in
      let own : ItemKept y (put_in_item e y) = subst (λ (z : Item). ItemKept z (put_in_item e z)) (sym same) kept in
      (own.fits versions order start fit.0, subst (λ (n : ℕ). ItemsFit versions order (start + n) xs) (sym own.size) fit.1)
  fit_put versions order (y ∷ xs) (suc i) start x there kept fit = (fit.0, fit_put versions order xs i (start + length (item_bytes y)) x there kept fit.1)

  pub bytes_put : (xs : List Item) (i : ℕ) (x : Item) → slice_get xs i ≡ Some x → ItemKept x (put_in_item e x) → length (items_bytes (put_at i e xs)) ≡ length (items_bytes xs)
  bytes_put [] i x there kept = absurd cc
  bytes_put (y ∷ xs) zero x there kept =
      let same : y ≡ x = cc in
      let own : ItemKept y (put_in_item e y) = subst (λ (z : Item). ItemKept z (put_in_item e z)) (sym same) kept in
      omega (arith, own.size, length-append (item_bytes (put_in_item e y)) (items_bytes xs), length-append (item_bytes y) (items_bytes xs))
  bytes_put (y ∷ xs) (suc i) x there kept =
      let ih = bytes_put xs i x there kept in
      omega (arith, ih, length-append (item_bytes y) (items_bytes (put_at i e xs)), length-append (item_bytes y) (items_bytes xs))

  entries_put : (xs : List Item) (i : ℕ) (x : Item) → slice_get xs i ≡ Some x → ItemKept x (put_in_item e x) → map entry_offsets (put_at i e xs) ≡ map entry_offsets xs
  entries_put [] i x there kept = absurd cc
  entries_put (y ∷ xs) zero x there kept =
      let same : x ≡ y = cc in
      let own : ItemKept y (put_in_item e y) = subst (λ (z : Item). ItemKept z (put_in_item e z)) same kept in
      ap (λ (os : List ℕ). os ∷ map entry_offsets xs) own.offsets
  entries_put (y ∷ xs) (suc i) x there kept = ap (λ (l : List (List ℕ)). entry_offsets y ∷ l) (entries_put xs i x there kept)

  pub offsets_put : (xs : List Item) (i : ℕ) (x : Item) → slice_get xs i ≡ Some x → ItemKept x (put_in_item e x) → KeepsOffsets xs (put_at i e xs)
  offsets_put xs i x there kept = (starts_put xs i 0 x there kept, entries_put xs i x there kept)

  pub tables_put : (abbreviations : List ℕ) (xs : List Item) (i : ℕ) → HoldsTables abbreviations xs → HoldsTables abbreviations (put_at i e xs)
  tables_put abbreviations [] i h = h
  tables_put abbreviations (Known u ∷ xs) zero h = h
  tables_put abbreviations (Other bytes ∷ xs) zero h = h
  tables_put abbreviations (y ∷ xs) (suc i) h = (h.0, tables_put abbreviations xs i h.1)

  -- the types' signatures and entries stand in the headers
  type_put : (v number : ℕ) (x : Item) → option_map id_of (type_in v number (put_in_item e x)) ≡ option_map id_of (type_in v number x)
  type_put v number (Known u) = by (type_offset_if v u.header.kind)
    where
      by : (o : Option ℕ) → option_map id_of (type_with number (put_in_unit e u) o) ≡ option_map id_of (type_with number u o)
      by None = refl
      by (Some offset) = refl
  type_put v number (Other bytes) = refl

  types_moved : (v number start other : ℕ) (xs : List Item) → option_map id_of (first_type (items_from number start xs) v) ≡ option_map id_of (first_type (items_from number other xs) v)
  types_moved v number start other [] = refl
  types_moved v number start other (y ∷ xs) =
      ids_earlier (type_in v number y) (first_type (items_from (suc number) (start + length (item_bytes y)) xs) v)
      ∙ (ap (first_id (option_map id_of (type_in v number y))) (types_moved v (suc number) (start + length (item_bytes y)) (other + length (item_bytes y)) xs)
      ∙ sym (ids_earlier (type_in v number y) (first_type (items_from (suc number) (other + length (item_bytes y)) xs) v)))

  pub types_put : (v number start : ℕ) (xs : List Item) (i : ℕ) → option_map id_of (first_type (items_from number start (put_at i e xs)) v) ≡ option_map id_of (first_type (items_from number start xs) v)
  types_put v number start [] i = refl
  types_put v number start (y ∷ xs) zero =
      let new = put_in_item e y in
      ids_earlier (type_in v number new) (first_type (items_from (suc number) (start + length (item_bytes new)) xs) v)
      ∙ (ap₂ first_id (type_put v number y) (types_moved v (suc number) (start + length (item_bytes new)) (start + length (item_bytes y)) xs)
      ∙ sym (ids_earlier (type_in v number y) (first_type (items_from (suc number) (start + length (item_bytes y)) xs) v)))
  types_put v number start (y ∷ xs) (suc i) =
      ids_earlier (type_in v number y) (first_type (items_from (suc number) (start + length (item_bytes y)) (put_at i e xs)) v)
      ∙ (ap (first_id (option_map id_of (type_in v number y))) (types_put v (suc number) (start + length (item_bytes y)) xs i)
      ∙ sym (ids_earlier (type_in v number y) (first_type (items_from (suc number) (start + length (item_bytes y)) xs) v)))

  pub bases_put : (xs : List Item) (i : ℕ) (x : Item) → slice_get xs i ≡ Some x → map base_in (put_at i e xs) ≡ set (map base_in xs) i (base_in (put_in_item e x))
  bases_put [] i x there = absurd cc
  bases_put (y ∷ xs) zero x there =
      let same : y ≡ x = cc in
      ap (λ (z : Item). base_in (put_in_item e z) ∷ map base_in xs) same
  bases_put (y ∷ xs) (suc i) x there = ap (λ (l : List (Option ℕ)). base_in y ∷ l) (bases_put xs i x there)

  -- the program's items
  pub items_put : (items : List TheItem) (i : ℕ) (d new : TheItem) → i < length items → item_of new ≡ put_in_item e (item_of (get_or items i d)) → map item_of (set items i new) ≡ put_at i e (map item_of items)
  items_put [] i d new l is = absurd (omega (arith, l))
  items_put (y ∷ items) zero d new l is = ap (λ (z : Item). z ∷ map item_of items) is
  items_put (y ∷ items) (suc i) d new l is = ap (λ (xs : List Item). item_of y ∷ xs) (items_put items i d new (omega (arith, l)) is)

pub item_there : (items : List TheItem) (i : ℕ) (d : TheItem) (x : Item) → slice_get (map item_of items) i ≡ Some x → (i < length items) × (item_of (get_or items i d) ≡ x)
item_there [] i d x there = absurd cc
item_there (y ∷ items) zero d x there = (omega arith, cc)
item_there (y ∷ items) (suc i) d x there = let h = item_there items i d x there in (omega (arith, h.0), h.1)

pub item_bound : (items : List TheItem) (i : ℕ) (x : Item) → slice_get (map item_of items) i ≡ Some x → i < length items
item_bound [] i x there = absurd cc
item_bound (y ∷ items) zero x there = omega arith
item_bound (y ∷ items) (suc i) x there = let h = item_bound items i x there in omega (arith, h)

-- ---- what the program keeps of the section

pub still_section : (s : WholeSection) (starts : List ℕ) (bases : List (Option ℕ)) (types : List (ℕ × EntryId)) (end : ℕ) → IsSection s starts bases types end → (e : Edit) (i : ℕ) (x : Item) → slice_get s.items i ≡ Some x → ItemKept x (put_in_item e x)
    → (xs : List Item) (more : List (Option ℕ)) → xs ≡ put_at i e s.items → more ≡ set bases i (base_in (put_in_item e x)) → IsSection (record { order = s.order; versions = s.versions; items = xs }) starts more types end
still_section s starts bases types end h e i x there kept xs more xs_are more_is = subst (λ (l : List Item). IsSection (record { order = s.order; versions = s.versions; items = l }) starts more types end) (sym xs_are) (record {
  fits = fit_put e s.versions s.order s.items i 0 x there kept h.fits;
  starts_are = h.starts_are ∙ sym (starts_put e s.items i 0 x there kept);
  bases_are = more_is ∙ (ap (λ (l : List (Option ℕ)). set l i (base_in (put_in_item e x))) h.bases_are ∙ sym (bases_put e s.items i x there));
  types_are = λ v. h.types_are v ∙ sym (types_put e v 0 0 s.items i);
  end_is = h.end_is ∙ sym (bytes_put e s.items i x there kept);
})

-- ---- a number that isn't refused is taken

pub record TakenBy (s : WholeSection) (id : EntryId) (name : ℕ) (x : ℤ) : Type 0 where
  pub unit : WholeUnit
  pub there : unit_at s.items id.item ≡ Some unit
  pub takes : Takes (edit_of id name x) (tree_of unit)

misfit : (o : Option Value) (v : Value) → or_misfit o ≡ Ok v → IsSome o
misfit None v e = absurd cc
misfit (Some w) v e = refl

taken_value : (k : Ctx) (form : ℕ) (x : ℤ) (old v : Value) → new_value k form x old ≡ Ok v → IsSome (renumbered k form x old)
taken_value k form x (Num y) v e = misfit (renumbered k form x (Num y)) v e
taken_value k form x (Uleb u) v e = misfit (renumbered k form x (Uleb u)) v e
taken_value k form x (Sleb s) v e = misfit (renumbered k form x (Sleb s)) v e
taken_value k form x (Implicit s) v e = absurd cc
taken_value k form x (Wide y) v e = absurd cc
taken_value k form x (Block width bytes) v e = absurd cc
taken_value k form x (Text bytes) v e = absurd cc
taken_value k form x Present v e = absurd cc

pub not_refused : (s : WholeSection) (id : EntryId) (name : ℕ) (x : ℤ) → set_refusal s id name x ≡ None → TakenBy s id name x
not_refused s id name x e = by_unit (start_of s.items id.item) (unit_at s.items id.item) refl e
  where
    by_value : (u : WholeUnit) → unit_at s.items id.item ≡ Some u → (start : ℕ) (n : EntryAt) → find_at id.offset (entries_of (tree_of u)) ≡ Some n → (a : LentAttribute) → first_named name (attributes_of n) ≡ Some a
        → (r : Result Value SetRefusal) → new_value (context_of u.header) a.form x a.attr.value ≡ r → value_refusal s.items id u start n a r ≡ None → TakenBy s id name x
    by_value u there start n found a first (Ok v) is f = record { unit = u; there = there; takes = record { entry = n; begins = found; attribute = a; first = first; takes = taken_value (context_of u.header) a.form x a.attr.value v is } }
    by_value u there start n found a first (Err why) is f = absurd cc

    by_attribute : (u : WholeUnit) → unit_at s.items id.item ≡ Some u → (start : ℕ) (n : EntryAt) → find_at id.offset (entries_of (tree_of u)) ≡ Some n → (o : Option LentAttribute) → first_named name (attributes_of n) ≡ o
        → attribute_refusal s.items id x u start n o ≡ None → TakenBy s id name x
    by_attribute u there start n found None first f = absurd cc
    by_attribute u there start n found (Some a) first f = by_value u there start n found a first (new_value (context_of u.header) a.form x a.attr.value) refl f

    by_entry : (u : WholeUnit) → unit_at s.items id.item ≡ Some u → (start : ℕ) (o : Option EntryAt) → find_at id.offset (entries_of (tree_of u)) ≡ o → entry_refusal s.items id name x u start o ≡ None → TakenBy s id name x
    by_entry u there start None found f = absurd cc
    by_entry u there start (Some n) found f = by_attribute u there start n found (first_named name (attributes_of n)) refl f

    by_unit : (o : Option ℕ) (p : Option WholeUnit) → unit_at s.items id.item ≡ p → unit_refusal s.items id name x o p ≡ None → TakenBy s id name x
    by_unit None p there f = absurd cc
    by_unit (Some start) None there f = absurd cc
    by_unit (Some start) (Some u) there f = by_entry u there start (find_at id.offset (entries_of (tree_of u))) refl f

-- What the call finds on its way, each by what the calls below it say: that the number isn't refused, then the item, and then
-- the item with the number. The first number is the one that is put, and the second is what the calls below are given.
module _ (items : List TheItem) {order : Order} {versions : Versions} {starts : List ℕ} {bases : List (Option ℕ)}
    {types : List (ℕ × EntryId)} {end : ℕ}
    (is : IsSection (record { order = order; versions = versions; items = map item_of items }) starts bases types end)
    {s : WholeSection} (view : record { order = order; versions = versions; items = map item_of items } ≡ s)
    (id : EntryId) (name : ℕ) {x n : ℤ} (same : n ≡ x) {o : Option SetRefusal} (says : o ≡ set_refusal s id name n)
    (none : o ≡ None) where
  pub not_now_refused : set_refusal s id name x ≡ None
  not_now_refused = ap (λ (y : ℤ). set_refusal s id name y) (sym same) ∙ (sym says ∙ none)

  taken : TakenBy s id name x
  taken = not_refused s id name x not_now_refused

  there : slice_get (map item_of items) id.item ≡ Some (Known taken.unit)
  there =
      known_there (map item_of items) id.item taken.unit
      (subst (λ (w : WholeSection). unit_at w.items id.item ≡ Some taken.unit) (sym view) taken.there)

  pub item_within : id.item < length items
  item_within = item_bound items id.item (Known taken.unit) there

  pub base_within : id.item < length bases
  base_within =
      omega
      (arith, item_within, ap length is.bases_are, length-map (map item_of items) base_in, length-map items item_of)

  module _ {old : TheItem} (old_there : old ≡ get_or items id.item old) where
    old_is : item_of old ≡ Known taken.unit
    old_is = ap item_of old_there ∙ (item_there items id.item old (Known taken.unit) there).1

    pub unit_takes : (u : WholeUnit) × (item_of old ≡ Known u) × Takes (edit_of id name n) (tree_of u)
    unit_takes =
        (taken.unit, old_is, subst (λ (y : ℤ). Takes (edit_of id name y) (tree_of taken.unit)) (sym same) taken.takes)

    module _ (new : TheItem) (put_is : item_of new ≡ put_in_item (edit_of id name n) (item_of old))
        (keeps : ItemKept (item_of old) (item_of new)) where
      put_here : item_of new ≡ put_in_item (edit_of id name x) (item_of old)
      put_here = put_is ∙ ap (λ (y : ℤ). put_in_item (edit_of id name y) (item_of old)) same

      new_is : item_of new ≡ put_in_item (edit_of id name x) (Known taken.unit)
      new_is = put_here ∙ ap (put_in_item (edit_of id name x)) old_is

      kept : ItemKept (Known taken.unit) (put_in_item (edit_of id name x) (Known taken.unit))
      kept =
          subst (λ (z : Item). ItemKept (Known taken.unit) z) new_is
          (subst (λ (z : Item). ItemKept z (item_of new)) old_is keeps)

      items_are : map item_of (set items id.item new) ≡ put_at id.item (edit_of id name x) (map item_of items)
      items_are =
          items_put (edit_of id name x) items id.item old new item_within
          (put_here ∙ ap (λ (z : TheItem). put_in_item (edit_of id name x) (item_of z)) old_there)

      pub is_edited : record { order = order; versions = versions; items = map item_of (set items id.item new) }
          ≡ edited s id name x
      is_edited =
          let build : List Item → WholeSection = λ ys. record { order = order; versions = versions; items = ys } in
          ap build items_are ∙ ap (λ (w : WholeSection). edited w id name x) view

      pub size_stays : length (items_bytes (map item_of (set items id.item new))) ≡ length (section_bytes s)
      size_stays =
          ap (λ (ys : List Item). length (items_bytes ys)) items_are
          ∙ (bytes_put (edit_of id name x) (map item_of items) id.item (Known taken.unit) there kept
          ∙ ap (λ (w : WholeSection). length (section_bytes w)) view)

      pub offsets_stay : KeepsOffsets s.items (map item_of (set items id.item new))
      offsets_stay =
          let stays : KeepsOffsets (map item_of items) (map item_of (set items id.item new)) =
          subst (KeepsOffsets (map item_of items)) (sym items_are)
          (offsets_put (edit_of id name x) (map item_of items) id.item (Known taken.unit) there kept) in
          subst (λ (w : WholeSection). KeepsOffsets w.items (map item_of (set items id.item new))) view stays

      pub tables_stay : (abbreviations : List ℕ) → HoldsTables abbreviations s.items
          → HoldsTables abbreviations (map item_of (set items id.item new))
      tables_stay abbreviations tables =
          subst (HoldsTables abbreviations) (sym items_are)
          (tables_put (edit_of id name x) abbreviations (map item_of items) id.item
          (subst (λ (w : WholeSection). HoldsTables abbreviations w.items) (sym view) tables))

      pub is_still : {base : Option ℕ} → base ≡ base_in (item_of new)
          → IsSection (record { order = order; versions = versions; items = map item_of (set items id.item new) }) starts
          (set bases id.item base) types end
      is_still base_is =
          still_section (record { order = order; versions = versions; items = map item_of items }) starts bases types end is
          (edit_of id name x) id.item (Known taken.unit) there kept _ _ items_are
          (ap (λ (b : Option ℕ). set bases id.item b) (base_is ∙ ap base_in new_is))
