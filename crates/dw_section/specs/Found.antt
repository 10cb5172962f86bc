-- The entry of an id, where it begins in the section, and that each is found there.
use Rattle.std.proofs.Common.{Bool, true, false, ◌≡◌, ℕ, zero, suc, ◌+◌, ◌-◌, ◌<◌, ◌≤◌, List, [], ◌∷◌, ◌++◌, length, Option, Some, None, refl, sym, ap, subst, ◌∙◌, arith}
use Rattle.std.specs.Prelude.{Ok, Err, slice_get, ◌==◌, if◌then◌else◌}
use Rattle.std.specs.List.{AllByRecursion}
use Rattle.std.proofs.lemmas.Bool.{eqb-true}
use Rattle.std.proofs.lemmas.List.{length-append}
use Rattle.dw_leb.specs.Number.{Unsigned, uleb, length_field}
use Rattle.dw_leb.specs.DecideNumber.{uleb_some, initial-size}
use Rattle.dw_leb.specs.declared.order.Order.{Order}
use Rattle.dw_form.specs.declared.shape.Ctx.{Ctx}
use Rattle.dw_form.specs.Form.{Attribute}
use Rattle.dw_abbrev.specs.Table.{Table, declared, zero_of}
use Rattle.dw_header.specs.declared.versions.Versions.{Versions}
use Rattle.dw_header.specs.Header.{fields, fields_of, context_of}
use Rattle.dw_header.specs.HeaderPlace.{header_size}
use Rattle.dw_tree.specs.Tree.{Tree, leaf, branch, Forest, none, more, values, declared_pairs, nesting, nulls, unit_tree}
use Rattle.dw_tree.specs.Spelling.{entry_bytes, tree_bytes, forest_bytes}
use Rattle.dw_tree.specs.Structure.{spelled_by_structure}
use Rattle.dw_tree.specs.Offset.{CodesFit, AllCodesFit}
use Rattle.dw_tree.specs.Offsets.{tree_codes}
use Rattle.dw_tree.specs.Lent.{EntryAt, find_at, preorder, all_preorder, entries_of}
use Rattle.dw_unit.specs.Unit.{WholeUnit, UnitFits, body_bytes, bytes_of, tree_of}
use Rattle.dw_section.specs.declared.id.EntryId.{EntryId}
use Rattle.dw_section.specs.declared.id.RefFault.TheVariants.{NotAnEntry}
use Rattle.dw_section.specs.Item.{Item, Known, Other, item_bytes, ItemFits}
use Rattle.dw_section.specs.Section.{WholeSection, SectionFits, ItemsFit}
use Rattle.dw_section.specs.Reference.{Target, unless_found, items_at, in_section}
use Rattle.dw_section.specs.Lookup.{known_of, unit_at, start_of, entry_of, entry, ok_of, held_there, Stands, names_entry}

-- the entry e has this id, and it begins at this offset of the section
pub record BeginsAt (items : List Item) (id : EntryId) (e : EntryAt) (offset : ℕ) : Type 0 where
  pub start : ℕ
  pub starts : start_of items id.item ≡ Some start
  pub is_entry : entry items id ≡ Some e
  pub sum : start + id.offset ≡ offset

-- ---- what is found begins there

pub found_begins : (items : List Item) (offset : ℕ) (id : EntryId) → in_section (items_at items) offset ≡ Ok id
    → (e : EntryAt) × BeginsAt items id e offset
found_begins items offset id e =
    let s : Stands items 0 0 offset id = names_entry items 0 0 offset id (omega arith) e in
    let item : id.item ≡ s.index = s.item_is ∙ omega arith in (
      s.entry,
      record {
        start = s.at;
        starts = ap (start_of items) item ∙ s.starts;
        is_entry =
            ap (λ (i : ℕ). entry_of (unit_at items i) id.offset) item
            ∙ ap (λ (o : Option Item). entry_of (known_of o) id.offset) s.known ∙ s.found;
        sum = s.sum;
      },
    )

-- ---- entries lie in their unit

abbrev Within : ℕ → List EntryAt → Type 0
Within hi es = AllByRecursion (λ e. e.offset < hi) es

joined : (hi : ℕ) (xs ys : List EntryAt) → Within hi xs → Within hi ys → Within hi (xs ++ ys)
joined hi [] ys h g = g
joined hi (x ∷ xs) ys h g = (h.0, joined hi xs ys h.1 g)

module _ (k : Ctx) (t : Table) where
  entry_some : (code : Unsigned) (vs : List Attribute) → uleb.Fits code → 0 < length (entry_bytes k t code vs)
  entry_some code vs fits =
      omega (
        arith,
        uleb_some code fits,
        length-append (uleb.spell code) ((values k (declared_pairs (declared t code.value))).spell vs),
      )

  mutual
    unfolding tree_bytes CodesFit

    tree_within : (x : Tree) → CodesFit x → (base depth hi : ℕ) → base + length (tree_bytes k t x) ≤ hi
        → Within hi (preorder k t x base depth)
    tree_within (leaf code vs) fits base depth hi le = (omega (arith, le, entry_some code vs fits), tt)
    tree_within (branch code vs ts w) fits base depth hi le =
        let own = length (entry_bytes k t code vs) in
        let size = length-append (entry_bytes k t code vs) (forest_bytes k t ts ++ uleb.spell (zero_of w)) in
        let kids = length-append (forest_bytes k t ts) (uleb.spell (zero_of w)) in (
          omega (arith, le, size, entry_some code vs fits.0),
          forest_within ts fits.1 (base + own) (suc depth) hi (omega (arith, le, size, kids)),
        )

    forest_within : (ts : Forest) → AllCodesFit ts → (base depth hi : ℕ) → base + length (forest_bytes k t ts) ≤ hi
        → Within hi (all_preorder k t ts base depth)
    forest_within none fits base depth hi le = tt
    forest_within (more x ts) fits base depth hi le =
        let size = length-append (tree_bytes k t x) (forest_bytes k t ts) in
        joined hi (preorder k t x base depth) (all_preorder k t ts (base + length (tree_bytes k t x)) depth)
        (tree_within x fits.0 base depth hi (omega (arith, le, size)))
        (forest_within ts fits.1 (base + length (tree_bytes k t x)) depth hi (omega (arith, le, size)))

found_below : (hi o : ℕ) (es : List EntryAt) (e : EntryAt) → Within hi es → find_at o es ≡ Some e → o < hi
found_below hi o [] e h f = absurd cc
found_below hi o (x ∷ xs) e h f = by (x.offset == o) refl f (found_below hi o xs e h.1)
  where
    by : (b : Bool) → (x.offset == o) ≡ b → (if b then Some x else find_at o xs) ≡ Some e
        → (find_at o xs ≡ Some e → o < hi) → o < hi
    by true is g later = omega (arith, h.0, eqb-true x.offset o is)
    by false is g later = later g

pub found_offset : (o : ℕ) (es : List EntryAt) (e : EntryAt) → find_at o es ≡ Some e → e.offset ≡ o
found_offset o [] e f = absurd cc
found_offset o (x ∷ xs) e f = by (x.offset == o) refl f (found_offset o xs e)
  where
    by : (b : Bool) → (x.offset == o) ≡ b → (if b then Some x else find_at o xs) ≡ Some e
        → (find_at o xs ≡ Some e → e.offset ≡ o) → e.offset ≡ o
    by true is g later = let same : x ≡ e = cc in ap (λ (y : EntryAt). y.offset) (sym same) ∙ eqb-true x.offset o is
    by false is g later = later g

-- an entry of a unit begins before the unit's end
pub entry_within : (u : WholeUnit) (o : ℕ) (e : EntryAt) → UnitFits u → find_at o (entries_of (tree_of u)) ≡ Some e
    → o < length (bytes_of u)
entry_within u o e fits found =
    let k : Ctx = context_of u.header in
    let root : List ℕ = tree_bytes k u.table u.root in
    let f : List ℕ = (fields u.header.order u.header.format).spell (fields_of u.header) in
    let same : (unit_tree k u.table).spell u.root ≡ root =
    spelled_by_structure k u.table (nesting - 1) u.root fits.tree_fits in
    let body : length (body_bytes u) ≡ length f + (length root + length (nulls u.padding)) =
    length-append f ((unit_tree k u.table).spell u.root ++ nulls u.padding)
    ∙ ap (λ (m : ℕ). length f + m)
    (length-append ((unit_tree k u.table).spell u.root) (nulls u.padding)
    ∙ ap (λ (b : List ℕ). length b + length (nulls u.padding)) same)
    in
    let whole =
    length-append ((length_field u.header.order).spell (u.header.format, length (body_bytes u))) (body_bytes u) in
    let codes : CodesFit u.root = tree_codes k u.table (nesting - 1) u.root fits.tree_fits in
    found_below (length (bytes_of u)) o (entries_of (tree_of u)) e
    (tree_within k u.table u.root codes (header_size u.header) 1 (length (bytes_of u))
    (omega (arith, body, whole, initial-size u.header.order 0 u.header.format (length (body_bytes u)))))
    found

-- ---- each is found

fits_there : (versions : Versions) (order : Order) (start : ℕ) (xs : List Item) (i : ℕ) (x : Item)
    → ItemsFit versions order start xs → slice_get xs i ≡ Some x → (at : ℕ) × ItemFits versions order at x
fits_there versions order start [] i x fit e = absurd cc
fits_there versions order start (y ∷ ys) zero x fit e =
    let same : y ≡ x = cc in (start, subst (λ (z : Item). ItemFits versions order start z) same fit.0)
fits_there versions order start (y ∷ ys) (suc i) x fit e =
    fits_there versions order (start + length (item_bytes y)) ys i x fit.1 e

-- the unit of an entry
pub record InUnit (items : List Item) (id : EntryId) (e : EntryAt) : Type 0 where
  pub unit : WholeUnit
  pub known : slice_get items id.item ≡ Some (Known unit)
  pub found : find_at id.offset (entries_of (tree_of unit)) ≡ Some e

pub entry_in_unit : (items : List Item) (id : EntryId) (e : EntryAt) → entry items id ≡ Some e → InUnit items id e
entry_in_unit items id e is = by (slice_get items id.item) refl is
  where
    by : (o : Option Item) → slice_get items id.item ≡ o → entry_of (known_of o) id.offset ≡ Some e → InUnit items id e
    by None at f = absurd cc
    by (Some (Known u)) at f = record { unit = u; known = at; found = f }
    by (Some (Other bytes)) at f = absurd cc

pub each_found : (s : WholeSection) (offset : ℕ) (id : EntryId) (e : EntryAt) → SectionFits s
    → BeginsAt s.items id e offset → in_section (items_at s.items) offset ≡ Ok id
each_found s offset id e fits h =
    let i : InUnit s.items id e = entry_in_unit s.items id e h.is_entry in
    let own = fits_there s.versions s.order 0 s.items id.item (Known i.unit) fits i.known in
    let inside : id.offset < length (bytes_of i.unit) = entry_within i.unit id.offset e own.1.fits i.found in
    let back : offset - h.start ≡ id.offset = omega (arith, h.sum) in
    let number : 0 + id.item ≡ id.item = omega arith in
    held_there s.items 0 0 id.item (Known i.unit) h.start offset i.known h.starts (omega (arith, h.sum))
    (omega (arith, h.sum, inside))
    ∙ ap
    (λ (n : ℕ).
    unless_found NotAnEntry (record { item = n; offset = offset - h.start })
    (find_at (offset - h.start) (entries_of (tree_of i.unit))))
    number
    ∙ ap
    (λ (m : ℕ).
    unless_found NotAnEntry (record { item = id.item; offset = m }) (find_at m (entries_of (tree_of i.unit))))
    back
    ∙ ap (unless_found NotAnEntry id) i.found

pub is_ok : (t : Target) (id : EntryId) → ok_of t ≡ Some id → t ≡ Ok id
is_ok (Ok i) id e = let same : i ≡ id = cc in ap Ok same
is_ok (Err why) id e = absurd cc
