-- Items by their numbers, where they start, and the item that holds an offset.
use Rattle.std.proofs.Common.{Bool, true, false, ◌≡◌, ℕ, zero, suc, ◌+◌, ◌-◌, ◌<◌, ◌≤◌, List, [], ◌∷◌, ◌++◌, length, Option, Some, None, refl, sym, ap, subst, ◌∙◌, arith}
use Rattle.std.specs.Prelude.{Ok, Err, nat_lt, slice_get, if◌then◌else◌}
use Rattle.std.proofs.lemmas.Bool.{ltb-false, lt-ltb, le-ltb}
use Rattle.std.proofs.lemmas.List.{length-append}
use Rattle.dw_tree.specs.Lent.{EntryAt, entries_of, find_at}
use Rattle.dw_unit.specs.Unit.{WholeUnit, tree_of}
use Rattle.dw_section.specs.declared.id.EntryId.{EntryId}
use Rattle.dw_section.specs.declared.id.RefFault.TheVariants.{OutsideSection, NotAnEntry}
use Rattle.dw_section.specs.Item.{Item, Known, Other, item_bytes}
use Rattle.dw_section.specs.Section.{items_bytes}
use Rattle.dw_section.specs.Reference.{Target, unless_found, ItemAt, items_from, items_at, in_item, in_section, TypeAt, type_in, earlier, first_type}

-- the unit of a number
abbrev pub known_of : Option Item → Option WholeUnit
known_of None = None
known_of (Some (Known u)) = Some u
known_of (Some (Other bytes)) = None

abbrev pub unit_at : List Item → ℕ → Option WholeUnit
unit_at items i = known_of (slice_get items i)

-- where the items start, the first one's start being given
abbrev pub starts_from : ℕ → List Item → List ℕ
starts_from start [] = []
starts_from start (x ∷ xs) = start ∷ starts_from (start + length (item_bytes x)) xs

abbrev pub start_of : List Item → ℕ → Option ℕ
start_of items i = slice_get (starts_from 0 items) i

abbrev pub entry_of : Option WholeUnit → ℕ → Option EntryAt
entry_of None offset = None
entry_of (Some u) offset = find_at offset (entries_of (tree_of u))

-- the entry of an id
abbrev pub entry : List Item → EntryId → Option EntryAt
entry items id = entry_of (unit_at items id.item) id.offset

abbrev pub ok_of : Target → Option EntryId
ok_of (Ok id) = Some id
ok_of (Err why) = None

-- the entry that begins at an offset of the section
abbrev pub find : List Item → ℕ → Option EntryId
find items offset = ok_of (in_section (items_at items) offset)

-- ---- the item that holds an offset, however it is looked for

start_grows : (xs : List Item) (start i q : ℕ) → slice_get (starts_from start xs) i ≡ Some q → start ≤ q
start_grows [] start i q e = absurd cc
start_grows (x ∷ xs) start zero q e = let same : start ≡ q = cc in omega (arith, same)
start_grows (x ∷ xs) start (suc i) q e = omega (arith, start_grows xs (start + length (item_bytes x)) i q e)

-- what an offset inside of an item names
pub held_there : (xs : List Item) (number start i : ℕ) (x : Item) (q v : ℕ) → slice_get xs i ≡ Some x
    → slice_get (starts_from start xs) i ≡ Some q → q ≤ v → v < q + length (item_bytes x)
    → in_section (items_from number start xs) v ≡ in_item (number + i) (v - q) x
held_there [] number start i x q v e f le lt = absurd cc
held_there (y ∷ ys) number start zero x q v e f le lt =
    let same : y ≡ x = cc in
    let at : start ≡ q = cc in
    let inside : v < start + length (item_bytes y) =
    subst (λ (z : Item). v < start + length (item_bytes z)) (sym same) (omega (arith, lt, at)) in
    let number_is : number ≡ number + 0 = omega arith in
    rw (lt-ltb v (start + length (item_bytes y)) inside)
    (ap (λ (z : Item). in_item number (v - start) z) same ∙ ap (λ (k : ℕ). in_item number (v - k) x) at
    ∙ ap (λ (k : ℕ). in_item k (v - q) x) number_is)
held_there (y ∷ ys) number start (suc i) x q v e f le lt =
    let past : start + length (item_bytes y) ≤ v =
    omega (arith, le, start_grows ys (start + length (item_bytes y)) i q f) in
    let number_is : suc number + i ≡ number + suc i = omega arith in
    rw (le-ltb v (start + length (item_bytes y)) past)
    (held_there ys (suc number) (start + length (item_bytes y)) i x q v e f le lt
    ∙ ap (λ (k : ℕ). in_item k (v - q) x) number_is)

-- an offset past all items names nothing
pub past_all : (xs : List Item) (number start v : ℕ) → start + length (items_bytes xs) ≤ v
    → in_section (items_from number start xs) v ≡ Err OutsideSection
past_all [] number start v le = refl
past_all (x ∷ xs) number start v le =
    let sum = length-append (item_bytes x) (items_bytes xs) in
    rw (le-ltb v (start + length (item_bytes x)) (omega (arith, le, sum)))
    (past_all xs (suc number) (start + length (item_bytes x)) v (omega (arith, le, sum)))

-- An id that an offset names: its item is a unit, an entry of that unit begins at its offset, and both together are the
-- offset.
pub record Stands (xs : List Item) (number start v : ℕ) (id : EntryId) : Type 0 where
  pub index : ℕ
  pub at : ℕ
  pub unit : WholeUnit
  pub entry : EntryAt
  pub item_is : id.item ≡ number + index
  pub known : slice_get xs index ≡ Some (Known unit)
  pub starts : slice_get (starts_from start xs) index ≡ Some at
  pub sum : at + id.offset ≡ v
  pub found : find_at id.offset (entries_of (tree_of unit)) ≡ Some entry

held_stands : (x : Item) (xs : List Item) (number start v : ℕ) (id : EntryId) → start ≤ v
    → in_item number (v - start) x ≡ Ok id → Stands (x ∷ xs) number start v id
held_stands (Other bytes) xs number start v id le e = absurd cc
held_stands (Known u) xs number start v id le e = by (find_at (v - start) (entries_of (tree_of u))) refl e
  where
    by : (o : Option EntryAt) → find_at (v - start) (entries_of (tree_of u)) ≡ o
        → unless_found NotAnEntry (record { item = number; offset = v - start }) o ≡ Ok id
        → Stands (Known u ∷ xs) number start v id
    by None f e = absurd cc
    by (Some n) f e =
        let same : (record { item = number; offset = v - start }) ≡ id = cc in
        let offset_is : v - start ≡ id.offset = ap (λ (i : EntryId). i.offset) same in
        record {
          index = 0;
          at = start;
          unit = u;
          entry = n;
          item_is = ap (λ (i : EntryId). i.item) (sym same) ∙ omega arith;
          known = refl;
          starts = refl;
          sum = omega (arith, le, offset_is);
          found = ap (λ (k : ℕ). find_at k (entries_of (tree_of u))) (sym offset_is) ∙ f;
        }

pub names_entry : (xs : List Item) (number start v : ℕ) (id : EntryId) → start ≤ v
    → in_section (items_from number start xs) v ≡ Ok id → Stands xs number start v id
names_entry [] number start v id le e = absurd cc
names_entry (x ∷ xs) number start v id le e =
    by (nat_lt v (start + length (item_bytes x))) refl e
    (λ past rest. names_entry xs (suc number) (start + length (item_bytes x)) v id past rest)
  where
    by : (b : Bool) → nat_lt v (start + length (item_bytes x)) ≡ b
        → (if b then in_item number (v - start) x
        else in_section (items_from (suc number) (start + length (item_bytes x)) xs) v)
        ≡ Ok id
        → (start + length (item_bytes x) ≤ v
        → in_section (items_from (suc number) (start + length (item_bytes x)) xs) v ≡ Ok id
        → Stands xs (suc number) (start + length (item_bytes x)) v id)
        → Stands (x ∷ xs) number start v id
    by true t h later = held_stands x xs number start v id le h
    by false t h later =
        let s = later (ltb-false _ _ t) h in
        record {
          index = suc s.index;
          at = s.at;
          unit = s.unit;
          entry = s.entry;
          item_is = omega (arith, s.item_is);
          known = s.known;
          starts = s.starts;
          sum = s.sum;
          found = s.found;
        }

-- ---- one more item: what the look-ups that are kept have to follow

pub items_from_end : (xs : List Item) (number start : ℕ) (x : Item)
    → items_from number start (xs ++ x ∷ [])
    ≡ items_from number start xs
    ++ record { number = number + length xs; start = start + length (items_bytes xs); item = x } ∷ []
items_from_end [] number start x =
    let n : number ≡ number + 0 = omega arith in
    let s : start ≡ start + 0 = omega arith in
    ap (λ (m : ℕ). record { number = m; start = start; item = x } ∷ []) n
    ∙ ap (λ (m : ℕ). record { number = number + 0; start = m; item = x } ∷ []) s
items_from_end (y ∷ ys) number start x =
    let n : suc number + length ys ≡ number + suc (length ys) = omega arith in
    let s : start + length (item_bytes y) + length (items_bytes ys)
    ≡ start + length (item_bytes y ++ items_bytes ys) =
    omega (arith, length-append (item_bytes y) (items_bytes ys)) in
    ap (λ (l : List ItemAt). record { number = number; start = start; item = y } ∷ l)
    (items_from_end ys (suc number) (start + length (item_bytes y)) x
    ∙ ap
    (λ (m : ℕ).
    items_from (suc number) (start + length (item_bytes y)) ys
    ++ record { number = m; start = start + length (item_bytes y) + length (items_bytes ys); item = x } ∷ [])
    n
    ∙ ap
    (λ (m : ℕ).
    items_from (suc number) (start + length (item_bytes y)) ys
    ++ record { number = number + suc (length ys); start = m; item = x } ∷ [])
    s)

-- the first of two equal signatures is kept
pub type_end : (ps : List ItemAt) (p : ItemAt) (v : ℕ)
    → first_type (ps ++ p ∷ []) v ≡ earlier (first_type ps v) (earlier (type_in v p.number p.item) None)
type_end [] p v = refl
type_end (q ∷ qs) p v = by (type_end qs p v) (type_in v q.number q.item)
  where
    by : first_type (qs ++ p ∷ []) v ≡ earlier (first_type qs v) (earlier (type_in v p.number p.item) None)
        → (o : Option TypeAt)
        → earlier o (first_type (qs ++ p ∷ []) v)
        ≡ earlier (earlier o (first_type qs v)) (earlier (type_in v p.number p.item) None)
    by ih None = ih
    by ih (Some x) = refl
