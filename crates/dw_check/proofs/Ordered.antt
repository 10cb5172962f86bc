-- Findings are in order: at an attribute, at an entry, in a unit, in a section.
use Rattle.std.proofs.Common.{◌≡◌, ◌⊎◌, ℕ, zero, suc, ◌+◌, ◌-◌, ◌<◌, ◌≤◌, Bool, true, false, List, [], ◌∷◌, ◌++◌, length, get_or, refl, sym, ap, ◌∙◌, arith, inl, inr}
use Rattle.std.specs.Prelude.{not}
use Rattle.std.specs.List.{AllPairs, AllByRecursion}
use Rattle.std.proofs.lemmas.List.{length-append}
use Rattle.dw_leb.specs.declared.order.Order.{Order}
use Rattle.dw_header.specs.declared.versions.Versions.{Versions}
use Rattle.dw_tree.specs.Lent.{LentAttribute, EntryAt, attributes_of, root_of, entries_of}
use Rattle.dw_tree.specs.Offsets.{tree_codes}
use Rattle.dw_tree.specs.Rising.{Rising, entries_rise}
use Rattle.dw_tree.specs.Spelling.{tree_bytes}
use Rattle.dw_tree.specs.Tree.{nesting}
use Rattle.dw_unit.specs.Unit.{UnitFits, bytes_of, tree_of}
use Rattle.dw_section.specs.Item.{Item, Known, Other, item_bytes, ItemFits}
use Rattle.dw_section.specs.Section.{ItemsFit, WholeSection, SectionFits}
use Rattle.dw_section.specs.Reference.{items_from}
use Rattle.dw_strings.specs.Text.{StringSections}
use Rattle.dw_check.specs.declared.finding.Finding.{Finding}
use Rattle.dw_check.specs.declared.finding.FindingKind.{FindingKind}
use Rattle.dw_check.specs.declared.finding.FindingKind.TheVariants.{BadReference, BadSibling, RootTag, TypeOffset, BadText, RepeatedName}
use Rattle.dw_check.specs.Findings.{UnitIn, finding_if, is_bad_reference, is_bad_sibling, is_bad_text, is_named_among, is_root_tag, has_type, root_tag, findings_at, findings_behind, entry_findings, entries_findings, root_findings, unit_findings, item_findings, items_findings, findings}
use Rattle.dw_check.specs.Kinds.{kind_number}
use Rattle.dw_check.specs.Laws.{Precedes}
use Rattle.dw_check.proofs.Entries.{IsOf, all_of, root_within}

-- ---- lists of findings

each_weaker : (P Q : Finding → Type 0) → ((f : Finding) → P f → Q f) → (xs : List Finding) → AllByRecursion P xs → AllByRecursion Q xs
each_weaker P Q from [] h = tt
each_weaker P Q from (x ∷ xs) h = (from x h.0, each_weaker P Q from xs h.1)

each_append : (P : Finding → Type 0) (xs ys : List Finding) → AllByRecursion P xs → AllByRecursion P ys → AllByRecursion P (xs ++ ys)
each_append P [] ys h k = k
each_append P (x ∷ xs) ys h k = (h.0, each_append P xs ys h.1 k)

each_at : (P : Finding → Type 0) (xs : List Finding) → AllByRecursion P xs → (j : ℕ) (d : Finding) → j < length xs → P (get_or xs j d)
each_at P [] h j d lt = absurd (omega (arith, lt))
each_at P (x ∷ xs) h zero d lt = h.0
each_at P (x ∷ xs) h (suc j) d lt = each_at P xs h.1 j d (omega (arith, lt))

-- each precedes all behind it
abbrev Ascend : List Finding → Type 0
Ascend [] = Unit {0}
Ascend (f ∷ fs) = AllByRecursion (Precedes f) fs × Ascend fs

all_pairs : (xs : List Finding) → Ascend xs → AllPairs Precedes xs
all_pairs [] h i j d lt within = absurd (omega (arith, within))
all_pairs (x ∷ xs) h i zero d lt within = absurd (omega (arith, lt))
all_pairs (x ∷ xs) h zero (suc j) d lt within = each_at (Precedes x) xs h.0 j d (omega (arith, within))
all_pairs (x ∷ xs) h (suc i) (suc j) d lt within = all_pairs xs h.1 i j d (omega (arith, lt)) (omega (arith, within))

-- in order, and each is so
abbrev Sorted : (Finding → Type 0) → List Finding → Type 0
Sorted P xs = AllByRecursion P xs × Ascend xs

none_sorted : (P : Finding → Type 0) → Sorted P []
none_sorted P = (tt, tt)

weaker : (P Q : Finding → Type 0) → ((f : Finding) → P f → Q f) → (xs : List Finding) → Sorted P xs → Sorted Q xs
weaker P Q from xs h = (each_weaker P Q from xs h.0, h.1)

-- those that stand in front precede those behind
joined : (P Q R : Finding → Type 0) → ((f g : Finding) → P f → Q g → Precedes f g) → ((f : Finding) → P f → R f) → ((f : Finding) → Q f → R f) → (xs ys : List Finding) → Sorted P xs → Sorted Q ys → Sorted R (xs ++ ys)
joined P Q R before left right [] ys h k = weaker Q R right ys k
joined P Q R before left right (x ∷ xs) ys h k =
    let rest = joined P Q R before left right xs ys (h.0.1, h.1.1) k in
    ((left x h.0.0, rest.0), (each_append (Precedes x) xs ys h.1.0 (each_weaker Q (Precedes x) (λ g q. before x g h.0.0 q) ys k.0), rest.1))

less_or_same : (m n : ℕ) → m ≤ n → (m < n) ⊎ (m ≡ n)
less_or_same zero zero le = inr refl
less_or_same zero (suc n) le = inl (omega arith)
less_or_same (suc m) zero le = absurd (omega (arith, le))
less_or_same (suc m) (suc n) le = elim (less_or_same m n (omega (arith, le))) [
  | inl lt ↦ inl (omega (arith, lt))
  | inr e ↦ inr (ap suc e)
]

-- ---- at an attribute

-- at this offset and position, of a kind with this number or a greater one
abbrev OfKindsFrom : ℕ → ℕ → ℕ → Finding → Type 0
OfKindsFrom o p n f = (f.offset ≡ o) × (f.position ≡ p) × (n ≤ kind_number f.kind)

last_kind : (b : Bool) (o p n : ℕ) (k : FindingKind) → n ≤ kind_number k → Sorted (OfKindsFrom o p n) (finding_if b o p k)
last_kind true o p n k le = (((refl, refl, le), tt), (tt, tt))
last_kind false o p n k le = (tt, tt)

next_kind : (b : Bool) (o p n : ℕ) (k : FindingKind) (xs : List Finding) → n ≤ kind_number k → Sorted (OfKindsFrom o p (suc (kind_number k))) xs → Sorted (OfKindsFrom o p n) (finding_if b o p k ++ xs)
next_kind true o p n k xs le h =
    let first : Finding = record { offset = o; position = p; kind = k } in (
      ((refl, refl, le), each_weaker (OfKindsFrom o p (suc (kind_number k))) (OfKindsFrom o p n) (λ f q. (q.0, q.1, omega (arith, q.2, le))) xs h.0),
      (each_weaker (OfKindsFrom o p (suc (kind_number k))) (Precedes first) (λ g q. inr (sym q.0, inr (sym q.1, omega (arith, q.2)))) xs h.0, h.1),
    )
next_kind false o p n k xs le h = weaker (OfKindsFrom o p (suc (kind_number k))) (OfKindsFrom o p n) (λ f q. (q.0, q.1, omega (arith, q.2, le))) xs h

at_attribute : (u : UnitIn) (e : EntryAt) (p : ℕ) (a : LentAttribute) (repeated : Bool) → Sorted (OfKindsFrom (u.start + e.offset) p 1) (findings_at u e p a repeated)
at_attribute u e p a repeated =
    let o = u.start + e.offset in
    let names = finding_if repeated o p RepeatedName in
    let texts = finding_if (is_bad_text u a) o p BadText ++ names in
    let siblings = finding_if (is_bad_sibling u e a) o p BadSibling ++ texts in
    next_kind (is_bad_reference u a) o p 1 BadReference siblings (omega arith)
    (next_kind (is_bad_sibling u e a) o p 2 BadSibling texts (omega arith)
    (weaker (OfKindsFrom o p 4) (OfKindsFrom o p 3) (λ f q. (q.0, q.1, omega (arith, q.2))) texts
    (next_kind (is_bad_text u a) o p 4 BadText names (omega arith)
    (last_kind repeated o p 6 RepeatedName (omega arith)))))

-- ---- at an entry

abbrev FromPosition : ℕ → ℕ → Finding → Type 0
FromPosition o p f = (f.offset ≡ o) × (p ≤ f.position)

from_position : (u : UnitIn) (e : EntryAt) (before attributes : List LentAttribute) → Sorted (FromPosition (u.start + e.offset) (suc (length before))) (findings_behind u e before attributes)
from_position u e before [] = none_sorted (FromPosition (u.start + e.offset) (suc (length before)))
from_position u e before (a ∷ others) =
    let o = u.start + e.offset in
    let p = suc (length before) in
    let next : length (before ++ a ∷ []) ≡ p = length-append before (a ∷ []) ∙ omega arith in
    joined (OfKindsFrom o p 1) (FromPosition o (suc (length (before ++ a ∷ [])))) (FromPosition o p)
    (λ f g one two. inr (one.0 ∙ sym two.0, inl (omega (arith, one.1, two.1, next))))
    (λ f one. (one.0, omega (arith, one.1)))
    (λ f two. (two.0, omega (arith, two.1, next)))
    (findings_at u e p a (is_named_among a.name before)) (findings_behind u e (before ++ a ∷ []) others)
    (at_attribute u e p a (is_named_among a.name before)) (from_position u e (before ++ a ∷ []) others)

-- ---- in a unit

-- at an attribute of an entry between these offsets
abbrev Within : ℕ → ℕ → Finding → Type 0
Within lo hi f = (lo ≤ f.offset) × (f.offset < hi) × (1 ≤ f.position)

abbrev end_of : UnitIn → ℕ
end_of u = u.start + length (bytes_of u.unit)

of_entries : (u : UnitIn) (lo hi : ℕ) (es : List EntryAt) → Rising lo hi es → AllByRecursion (IsOf u.unit) es → Sorted (Within (u.start + lo) (end_of u)) (entries_findings u es)
of_entries u lo hi [] rise of = none_sorted (Within (u.start + lo) (end_of u))
of_entries u lo hi (e ∷ es) rise of =
    let o = u.start + e.offset in
    joined (FromPosition o 1) (Within (u.start + suc e.offset) (end_of u)) (Within (u.start + lo) (end_of u))
    (λ f g one two. inl (omega (arith, one.0, two.0)))
    (λ f one. (omega (arith, one.0, rise.0), omega (arith, one.0, of.0.1), one.1))
    (λ f two. (omega (arith, two.0, rise.0), two.1, two.2))
    (entry_findings u e) (entries_findings u es)
    (from_position u e [] (attributes_of e)) (of_entries u (suc e.offset) hi es rise.1 of.1)

abbrev Inside : ℕ → ℕ → Finding → Type 0
Inside lo hi f = (lo ≤ f.offset) × (f.offset < hi)

of_root : (u : UnitIn) → Sorted (OfKindsFrom (u.start + (root_of (tree_of u.unit)).offset) 0 1) (root_findings u)
of_root u =
    let root = root_of (tree_of u.unit) in
    let o = u.start + root.offset in
    let types = finding_if (not_typed u) o 0 TypeOffset in
    weaker (OfKindsFrom o 0 3) (OfKindsFrom o 0 1) (λ f q. (q.0, q.1, omega (arith, q.2))) (root_findings u)
    (next_kind (untagged u) o 0 3 RootTag types (omega arith) (last_kind (not_typed u) o 0 4 TypeOffset (omega arith)))
  where
    not_typed : UnitIn → Bool
    not_typed u = not (has_type u.unit u.unit.header.kind)

    untagged : UnitIn → Bool
    untagged u = not (is_root_tag u.unit.header.kind (root_tag (root_of (tree_of u.unit))))

of_unit : (u : UnitIn) → UnitFits u.unit → Sorted (Inside u.start (end_of u)) (unit_findings u)
of_unit u fits =
    let t = tree_of u.unit in
    let o = u.start + t.start in
    let all = all_of u.unit fits in
    joined (OfKindsFrom o 0 1) (Within o (end_of u)) (Inside u.start (end_of u))
    (λ f g one two. elim (less_or_same o g.offset two.0) [ inl lt ↦ inl (omega (arith, lt, one.0)) | inr same ↦ inr (one.0 ∙ same, inl (omega (arith, one.1, two.2))) ])
    (λ f one. (omega (arith, one.0), omega (arith, one.0, root_within u.unit fits)))
    (λ f two. (omega (arith, two.0), two.1))
    (root_findings u) (entries_findings u (entries_of t))
    (of_root u) (of_entries u t.start (t.start + length (tree_bytes t.context t.table t.root)) (entries_of t) (entries_rise t.context t.table t.root (tree_codes t.context t.table (nesting - 1) t.root fits.tree_fits) t.start 1) all)

-- ---- in a section

abbrev From : ℕ → Finding → Type 0
From lo f = lo ≤ f.offset

module _ (items : List Item) (strings : StringSections) (versions : Versions) (order : Order) where
  of_item : (number start : ℕ) (x : Item) → ItemFits versions order start x → Sorted (Inside start (start + length (item_bytes x))) (item_findings items strings number start x)
  of_item number start (Known u) fits = of_unit (record { items = items; strings = strings; number = number; start = start; unit = u }) fits.fits
  of_item number start (Other bytes) fits = none_sorted (Inside start (start + length bytes))

  of_items : (number start : ℕ) (xs : List Item) → ItemsFit versions order start xs → Sorted (From start) (items_findings items strings (items_from number start xs))
  of_items number start [] fits = none_sorted (From start)
  of_items number start (x ∷ xs) fits =
      let next = start + length (item_bytes x) in
      joined (Inside start next) (From next) (From start)
      (λ f g one two. inl (omega (arith, one.1, two)))
      (λ f one. one.0)
      (λ f two. omega (arith, two))
      (item_findings items strings number start x) (items_findings items strings (items_from (suc number) next xs))
      (of_item number start x fits.0) (of_items (suc number) next xs fits.1)

pub findings_ascend : (strings : StringSections) (s : WholeSection) → SectionFits s → AllPairs Precedes (findings strings s)
findings_ascend strings s fits = all_pairs (findings strings s) (of_items s.items strings s.versions s.order 0 0 s.items fits).1
