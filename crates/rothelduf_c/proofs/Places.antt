-- The contents of texts and blocks stand where C is told, in bytes that begin with a section's.
use Rattle.std.proofs.Common.{Bool, true, false, ◌⊎◌, inl, inr, ◌≡◌, ℕ, zero, suc, ◌+◌, ◌-◌, ◌<◌, List, [], ◌∷◌, ◌++◌, length, take, drop, get_or, Option, Some, None, refl, sym, ap, subst, ◌∙◌, append_assoc, length-append, arith}
use Rattle.std.specs.List.{Contains}
use Rattle.std.specs.Prelude.{◌==◌, slice_get, if◌then◌else◌}
use Rattle.std.proofs.lemmas.List.{append-nil, take_at, drop_at, length-take-le, take-append-drop}
use Rattle.std.proofs.lemmas.List.Elements.{Contains-append_cases}
use Rattle.dw_leb.specs.Number.{Unsigned, Signed, uleb, length_field}
use Rattle.dw_leb.specs.DecideNumber.{length-uleb, initial-size}
use Rattle.dw_leb.specs.Part.{judged, optional, refused}
use Rattle.dw_leb.specs.Repeat.{ItemsFit as NodesFit}
use Rattle.dw_leb.specs.declared.errors.Reason.TheVariants.{TooDeep}
use Rattle.dw_leb.specs.declared.order.Order.{Order}
use Rattle.dw_form.specs.declared.shape.Ctx.{Ctx}
use Rattle.dw_form.specs.declared.shape.Shape.{Shape}
use Rattle.dw_form.specs.Form.{Value, Num, Wide, Uleb, Sleb, Block, Text, Present, Implicit, Attribute, shape, attribute}
use Rattle.dw_form.specs.Head.{Lies, via_width}
use Rattle.dw_form.specs.HeadFront.{front_is, own_size}
use Rattle.dw_form.specs.HeadLent.{via_size}
use Rattle.dw_form.specs.Pieces.{attribute_pieces, content_of, form_in, form_known, has_spelling, head_of, pieces_of, spelling, via_bytes}
use Rattle.dw_abbrev.specs.Table.{Pair, Table, declared, is_null, zero_of}
use Rattle.dw_header.specs.Header.{context_of, fields, fields_of}
use Rattle.dw_header.specs.declared.versions.Versions.{Versions}
use Rattle.dw_tree.specs.Lent.{EntryAt, LentAttribute, all_preorder, code_of, entries_of, find_at, lent_attribute, lent_attributes, preorder, values_in}
use Rattle.dw_tree.specs.Paths.{lent_among}
use Rattle.dw_tree.specs.Spelling.{entry_bytes, forest_bytes, tree_bytes}
use Rattle.dw_tree.specs.Structure.{spelled_by_structure}
use Rattle.dw_tree.specs.Tree.{Tree, leaf, branch, Forest, none, more, Body, node_of, nodes_of, values, declared_pairs, declares_children, bad_child, body, children, nesting, nulls, tree, unit_tree}
use Rattle.dw_unit.specs.Unit.{UnitFits, WholeUnit, body_bytes, bytes_of, tree_of}
use Rattle.dw_section.specs.Found.{InUnit, entry_in_unit}
use Rattle.dw_section.specs.Item.{Item, Known, ItemFits, KnownFits, item_bytes}
use Rattle.dw_section.specs.Lookup.{starts_from}
use Rattle.dw_section.specs.Section.{ItemsFit, SectionFits, WholeSection, items_bytes, section_bytes}
use Rattle.rothelduf_c.specs.Opens.{IsOpened}
use Rattle.rothelduf_c.specs.Places.{ContentsStand}
use Rattle.rothelduf_c.specs.Seen.{seen_attr, with_value, without_value}
use Rattle.rothelduf_c.specs.declared.structs.CAttr.{CAttr}

-- ---- lists

none_there : {X : Type 0} (x : X) → Contains [] x → ⊥
none_there x h = omega (arith, h.1)

first_or_later : {X : Type 0} (y : X) (ys : List X) (x : X) → Contains (y ∷ ys) x → (y ≡ x) ⊎ Contains ys x
first_or_later y ys x h = by h.0 h.1 h.2
  where
    by : (n : ℕ) → n < length (y ∷ ys) → get_or (y ∷ ys) n x ≡ x → (y ≡ x) ⊎ Contains ys x
    by zero l is = inl is
    by (suc n) l is = inr (n, omega (arith, l), is)

lies_at : (bytes : List ℕ) (m n : ℕ) (own : List ℕ) → m ≡ n → Lies bytes m own → Lies bytes n own
lies_at bytes m n own same h = record { before = h.before; after = h.after; split = h.split; at = h.at ∙ same }

lies_before : (xs ys : List ℕ) (at : ℕ) (own : List ℕ) → Lies xs at own → Lies (xs ++ ys) at own
lies_before xs ys at own h =
    record {
      before = h.before;
      after = h.after ++ ys;
      split =
          ap (λ (b : List ℕ). b ++ ys) h.split
          ∙ (append_assoc h.before (own ++ h.after) ys
          ∙ ap (λ (b : List ℕ). h.before ++ b) (append_assoc own h.after ys));
      at = h.at;
    }

lies_behind : (xs ys : List ℕ) (at : ℕ) (own : List ℕ) → Lies ys at own → Lies (xs ++ ys) (length xs + at) own
lies_behind xs ys at own h =
    record {
      before = xs ++ h.before;
      after = h.after;
      split =
          ap (λ (b : List ℕ). xs ++ b) h.split ∙ sym (append_assoc xs h.before (own ++ h.after));
      at = length-append xs h.before ∙ ap (λ (n : ℕ). length xs + n) h.at;
    }

lies_in : (bytes : List ℕ) (at : ℕ) (own : List ℕ) (n : ℕ) (inner : List ℕ) → Lies bytes at own → Lies own n inner
    → Lies bytes (at + n) inner
lies_in bytes at own n inner h g =
    let there = lies_behind h.before (own ++ h.after) n inner (lies_before own h.after n inner g) in
    lies_at bytes (length h.before + n) (at + n) inner (ap (λ (m : ℕ). m + n) h.at)
    (subst (λ (b : List ℕ). Lies b (length h.before + n) inner) (sym h.split) there)

taken : (bytes : List ℕ) (at : ℕ) (own : List ℕ) → Lies bytes at own → take (length own) (drop at bytes) ≡ own
taken bytes at own h =
    ap (λ (b : List ℕ). take (length own) (drop at b)) h.split
    ∙ (ap (take (length own)) (drop_at h.before (own ++ h.after) at h.at) ∙ take_at own h.after (length own) refl)

-- ---- a value

-- what C is told of an attribute is that of its fields with its value
told_length : (c : CAttr) (v : Value) → c.length ≡ 0 → (with_value c v).length ≡ length (content_of v)
told_length c (Num x) e = e
told_length c (Wide x) e = e
told_length c (Uleb u) e = e
told_length c (Sleb s) e = e
told_length c (Block width bytes) e = refl
told_length c (Text bytes) e = refl
told_length c Present e = e
told_length c (Implicit s) e = e

told_offset : (c : CAttr) (v : Value) → (with_value c v).offset ≡ c.offset
told_offset c (Num x) = refl
told_offset c (Wide x) = refl
told_offset c (Uleb u) = refl
told_offset c (Sleb s) = refl
told_offset c (Block width bytes) = refl
told_offset c (Text bytes) = refl
told_offset c Present = refl
told_offset c (Implicit s) = refl

module _ (k : Ctx) (s : Shape) (via spelled : List ℕ) (c : CAttr) where
  told_place : (v : Value) → spelled ≡ via ++ pieces_of k s v → length via ≡ c.front
      → length (via ++ head_of k s v) ≡ own_size v c.front (length spelled)
      → Lies spelled (with_value c v).front (content_of v)
  told_place (Block width bytes) is at size =
      record {
        before = via ++ head_of k s (Block width bytes);
        after = [];
        split = is ∙ sym (append_assoc via (head_of k s (Block width bytes)) (bytes ++ []));
        at = size;
      }
  told_place (Text bytes) is at size =
      record {
        before = via ++ head_of k s (Text bytes);
        after = 0 ∷ [];
        split = is ∙ sym (append_assoc via (head_of k s (Text bytes)) (bytes ++ 0 ∷ []));
        at = size;
      }
  told_place (Num x) is at size = record { before = via; after = pieces_of k s (Num x); split = is; at = at }
  told_place (Wide x) is at size = record { before = via; after = pieces_of k s (Wide x); split = is; at = at }
  told_place (Uleb u) is at size = record { before = via; after = pieces_of k s (Uleb u); split = is; at = at }
  told_place (Sleb x) is at size = record { before = via; after = pieces_of k s (Sleb x); split = is; at = at }
  told_place Present is at size = record { before = via; after = pieces_of k s Present; split = is; at = at }
  told_place (Implicit x) is at size =
      record { before = via; after = pieces_of k s (Implicit x); split = is; at = at }

-- its content stands in its spelling behind what C is told to pass
value_lies : (k : Ctx) (form : ℕ) (c : Option Signed) (a : LentAttribute) → (attribute k form c).Fits a.attr
    → Lies ((attribute k form c).spell a.attr) (seen_attr a).front (content_of a.attr.value)
value_lies k form c a fits = by (shape (form_in form a.attr.via) k.address_size k.format) refl
  where
    spelled : List ℕ
    spelled = (attribute k form c).spell a.attr

    by : (o : Option Shape) → shape (form_in form a.attr.via) k.address_size k.format ≡ o
        → Lies spelled (seen_attr a).front (content_of a.attr.value)
    by None e = absurd (form_known k form c a.attr fits e)
    by (Some s) e =
        let front = front_is k form c a.attr s fits e in
        let n = own_size a.attr.value (via_width a.attr.via) (length spelled) in
        let size : length (via_bytes a.attr.via ++ head_of k s a.attr.value) ≡ n =
        ap length (sym front.0) ∙ length-take-le n spelled front.1 in
        told_place k s (via_bytes a.attr.via) spelled (without_value a) a.attr.value
        (attribute_pieces k form c a.attr s fits e).0 (via_size a.attr.via) size

-- ---- the values of an entry, in the bytes that spell them, the first of which has an offset

pub record Holds (bytes : List ℕ) (at : ℕ) (a : LentAttribute) : Type 0 where
  pub place : ℕ
  pub offset_is : a.offset ≡ at + place
  pub lies : Lies bytes (place + (seen_attr a).front) (content_of a.attr.value)

values_hold : (k : Ctx) (ps : List Pair) (vs : List Attribute) (at : ℕ) (a : LentAttribute) → (values k ps).Fits vs
    → Contains (lent_attributes k at ps vs) a → Holds ((values k ps).spell vs) at a
values_hold k [] vs at a fits there = absurd (none_there a there)
values_hold k (p ∷ ps) [] at a fits there = absurd fits
values_hold k (p ∷ ps) (v ∷ vs) at a fits there =
    by (first_or_later (lent_attribute at p v) (lent_attributes k (at + length (spelling k p.form.value v)) ps vs) a there)
    (λ later. values_hold k ps vs (at + length (spelling k p.form.value v)) a fits.1 later)
  where
    own : List ℕ
    own = (attribute k p.form.value p.constant).spell v

    others : List ℕ
    others = (values k ps).spell vs

    next : ℕ
    next = at + length (spelling k p.form.value v)

    by : (lent_attribute at p v ≡ a) ⊎ Contains (lent_attributes k next ps vs) a
        → (Contains (lent_attributes k next ps vs) a → Holds others next a) → Holds (own ++ others) at a
    by (inl same) later =
        let first : LentAttribute = lent_attribute at p v in
        let lies = value_lies k p.form.value p.constant first fits.0 in
        subst (Holds (own ++ others) at) same
        (record {
          place = 0;
          offset_is = omega arith;
          lies =
              lies_at (own ++ others) (seen_attr first).front (0 + (seen_attr first).front) (content_of v.value) (omega arith)
              (lies_before own others (seen_attr first).front (content_of v.value) lies);
        })
    by (inr there) later =
        let h = later there in
        let size : length (spelling k p.form.value v) ≡ length own =
        ap length (has_spelling k p.form.value p.constant v fits.0).1 in
        let sum : length own + (h.place + (seen_attr a).front) ≡ length own + h.place + (seen_attr a).front =
        omega arith in
        record {
          place = length own + h.place;
          offset_is = omega (arith, h.offset_is, size);
          lies =
              lies_at (own ++ others) (length own + (h.place + (seen_attr a).front))
              (length own + h.place + (seen_attr a).front) (content_of a.attr.value) sum
              (lies_behind own others (h.place + (seen_attr a).front) (content_of a.attr.value) h.lies);
        }

-- ---- an entry, in the bytes of its tree

-- values have a spelling under the declaration of a code
abbrev OwnFit : Ctx → Table → Unsigned → List Attribute → Type 0
OwnFit k t code vs = (values k (declared_pairs (declared t code.value))).Fits vs

own_holds : (k : Ctx) (t : Table) (code : Unsigned) (vs : List Attribute) (offset : ℕ) (a : LentAttribute)
    → OwnFit k t code vs → Contains (lent_attributes k (offset + code.width) (declared_pairs (declared t code.value)) vs) a
    → Holds (entry_bytes k t code vs) offset a
own_holds k t code vs offset a fits there =
    let ps : List Pair = declared_pairs (declared t code.value) in
    let h = values_hold k ps vs (offset + code.width) a fits there in
    let front : ℕ = (seen_attr a).front in
    let content : List ℕ = content_of a.attr.value in
    let width : length (uleb.spell code) ≡ code.width = length-uleb code in
    let sum : length (uleb.spell code) + (h.place + front) ≡ code.width + h.place + front = omega (arith, width) in
    record {
      place = code.width + h.place;
      offset_is = omega (arith, h.offset_is);
      lies =
          lies_at (entry_bytes k t code vs) (length (uleb.spell code) + (h.place + front))
          (code.width + h.place + front) content sum
          (lies_behind (uleb.spell code) ((values k ps).spell vs) (h.place + front) content h.lies);
    }

node_holds : (k : Ctx) (t : Table) (x : Tree) (offset : ℕ) (a : LentAttribute) → OwnFit k t (code_of x) (values_in x)
    → Contains
    (lent_attributes k (offset + (code_of x).width) (declared_pairs (declared t (code_of x).value)) (values_in x)) a
    → Holds (tree_bytes k t x) offset a
unfolding tree_bytes
node_holds k t (leaf code vs) offset a fits there = own_holds k t code vs offset a fits there
node_holds k t (branch code vs ts w) offset a fits there =
    let h = own_holds k t code vs offset a fits there in
    record {
      place = h.place;
      offset_is = h.offset_is;
      lies =
          lies_before (entry_bytes k t code vs) (forest_bytes k t ts ++ uleb.spell (zero_of w))
          (h.place + (seen_attr a).front) (content_of a.attr.value) h.lies;
    }

-- its values have a spelling
abbrev Given : EntryAt → Type 0
Given e = OwnFit e.context e.table (code_of e.node) (values_in e.node)

-- ---- each entry of a tree that has a spelling has values that have one

unfoldable mutual
  AllGiven : Ctx → Table → Tree → Type 0
  AllGiven k t (leaf code vs) = OwnFit k t code vs
  AllGiven k t (branch code vs ts w) = OwnFit k t code vs × EachGiven k t ts

  EachGiven : Ctx → Table → Forest → Type 0
  EachGiven k t none = Unit {0}
  EachGiven k t (more x ts) = AllGiven k t x × EachGiven k t ts

module _ (k : Ctx) (t : Table) where
  abbrev KidsGiven : ℕ → Type 0
  KidsGiven room = (x : Forest × Unsigned) → (children k t room).Fits x → EachGiven k t x.0

  node_given : (room : ℕ) → KidsGiven room → (x : Tree)
      → (body k t (children k t room) (node_of x).0).Fits (node_of x).1 → AllGiven k t x
  unfolding AllGiven
  node_given room ih (leaf code vs) fits = fits.0
  node_given room ih (branch code vs ts w) fits = (fits.0, by (declares_children (declared t code.value)) fits.1)
    where
      by : (b : Bool) → (optional b (children k t room)).Fits (Some (ts, zero_of w)) → EachGiven k t ts
      by true h = ih (ts, zero_of w) h
      by false h = absurd h

  nodes_given : (room : ℕ) → KidsGiven room → (before : List (Unsigned × Body)) (ts : Forest) (end : Unsigned)
      → NodesFit (λ _. judged uleb (bad_child t true)) is_null (body k t (children k t room)) before (nodes_of ts) end
      → EachGiven k t ts
  unfolding EachGiven
  nodes_given room ih before none end fits = tt
  nodes_given room ih before (more x ts) end fits =
      (node_given room ih x fits.0.2, nodes_given room ih (before ++ node_of x ∷ []) ts end fits.1)

  kids_given : (room : ℕ) → KidsGiven room
  unfolding children EachGiven
  kids_given zero = λ x fits. by x.0 x.1 fits
    where
      by : (ts : Forest) (end : Unsigned)
          → NodesFit (λ _. judged uleb (bad_child t false)) is_null (λ _. refused TooDeep) [] (nodes_of ts) end
          → EachGiven k t ts
      by none end fits = tt
      by (more x ts) end fits = absurd fits.0.2
  kids_given (suc room) = λ x fits. nodes_given room (kids_given room) [] x.0 x.1 fits

  tree_given : (room : ℕ) (x : Tree) → (tree k t room).Fits x → AllGiven k t x
  tree_given room x fits = node_given room (kids_given room) x fits.1

  abbrev entry : Tree → ℕ → ℕ → EntryAt
  entry x base depth = record { context = k; table = t; node = x; offset = base; depth = depth }

  mutual
    unfolding AllGiven

    given_in : (x : Tree) (base depth : ℕ) (e : EntryAt) → AllGiven k t x → Contains (preorder k t x base depth) e → Given e
    given_in (leaf code vs) base depth e fits there =
        elim (first_or_later (entry (leaf code vs) base depth) [] e there) [
          | inl same ↦ subst Given same fits
          | inr later ↦ absurd (none_there e later)
        ]
    given_in (branch code vs ts w) base depth e fits there =
        let next = base + length (entry_bytes k t code vs) in
        elim
        (first_or_later (entry (branch code vs ts w) base depth) (all_preorder k t ts next (suc depth)) e there) [
          | inl same ↦ subst Given same fits.0
          | inr later ↦ given_below ts next (suc depth) e fits.1 later
        ]

    given_below : (ts : Forest) (base depth : ℕ) (e : EntryAt) → EachGiven k t ts
        → Contains (all_preorder k t ts base depth) e → Given e
    given_below none base depth e fits there = absurd (none_there e there)
    given_below (more x ts) base depth e fits there =
        let next = base + length (tree_bytes k t x) in
        elim (Contains-append_cases (preorder k t x base depth) (all_preorder k t ts next depth) e there) [
          | inl here ↦ given_in x base depth e fits.0 here
          | inr later ↦ given_below ts next depth e fits.1 later
        ]

-- ---- an entry in its unit, and a unit in its section

found_there : (o : ℕ) (es : List EntryAt) (e : EntryAt) → find_at o es ≡ Some e → Contains es e
found_there o [] e f = absurd cc
found_there o (x ∷ xs) e f = by (x.offset == o) f (found_there o xs e)
  where
    by : (b : Bool) → (if b then Some x else find_at o xs) ≡ Some e → (find_at o xs ≡ Some e → Contains xs e)
        → Contains (x ∷ xs) e
    by true g later =
        let same : x ≡ e = cc in
        (0, omega arith, same)
    by false g later = let h = later g in (suc h.0, omega (arith, h.1), h.2)

unit_holds : (u : WholeUnit) (e : EntryAt) → UnitFits u → Contains (entries_of (tree_of u)) e
    → Lies (bytes_of u) e.offset (tree_bytes e.context e.table e.node)
unit_holds u e fits there =
    let k : Ctx = context_of u.header in
    let among = lent_among (tree_of u) e there in
    let own = tree_bytes e.context e.table e.node in
    let l = (length_field u.header.order).spell (u.header.format, length (body_bytes u)) in
    let f = (fields u.header.order u.header.format).spell (fields_of u.header) in
    let root = (unit_tree k u.table).spell u.root in
    let same : root ≡ tree_bytes k u.table u.root = spelled_by_structure k u.table (nesting - 1) u.root fits.tree_fits in
    let in_root : Lies root (length among.0) own =
    record { before = among.0; after = among.1; split = same ∙ among.2; at = refl } in
    let in_body : Lies (body_bytes u) (length f + length among.0) own =
    lies_behind f (root ++ nulls u.padding) (length among.0) own
    (lies_before root (nulls u.padding) (length among.0) own in_root)
    in
    lies_at (bytes_of u) (length l + (length f + length among.0)) e.offset own
    (omega (arith, among.3, initial-size u.header.order 0 u.header.format (length (body_bytes u))))
    (lies_behind l (body_bytes u) (length f + length among.0) own in_body)

record HoldsItem (xs : List Item) (from q : ℕ) (x : Item) : Type 0 where
  pub place : ℕ
  pub start_is : q ≡ from + place
  pub lies : Lies (items_bytes xs) place (item_bytes x)

item_lies : (xs : List Item) (i : ℕ) (x : Item) (from q : ℕ) → slice_get xs i ≡ Some x
    → slice_get (starts_from from xs) i ≡ Some q → HoldsItem xs from q x
item_lies [] i x from q e f = absurd cc
item_lies (y ∷ ys) zero x from q e f =
    let same : y ≡ x = cc in
    let at : from ≡ q = cc in
    record {
      place = 0;
      start_is = omega (arith, at);
      lies =
          record {
            before = [];
            after = items_bytes ys;
            split = ap (λ (z : Item). item_bytes z ++ items_bytes ys) same;
            at = refl;
          };
    }
item_lies (y ∷ ys) (suc i) x from q e f =
    let h = item_lies ys i x (from + length (item_bytes y)) q e f in
    record {
      place = length (item_bytes y) + h.place;
      start_is = omega (arith, h.start_is);
      lies = lies_behind (item_bytes y) (items_bytes ys) h.place (item_bytes x) h.lies;
    }

unit_fits : (versions : Versions) (order : Order) (start : ℕ) (xs : List Item) (i : ℕ) (u : WholeUnit)
    → ItemsFit versions order start xs → slice_get xs i ≡ Some (Known u) → UnitFits u
unit_fits versions order start [] i u fit e = absurd cc
unit_fits versions order start (y ∷ ys) zero u fit e =
    let same : y ≡ Known u = cc in
    let own : KnownFits versions order start u = subst (λ (z : Item). ItemFits versions order start z) same fit.0 in
    own.fits
unit_fits versions order start (y ∷ ys) (suc i) u fit e =
    unit_fits versions order (start + length (item_bytes y)) ys i u fit.1 e

-- ---- all of it

-- In bytes that begin with a section's the contents of all its attributes stand.
contents_before : (versions : Versions) (order : Order) (s : WholeSection) (bytes rest : List ℕ)
    → ItemsFit versions order 0 s.items → bytes ≡ section_bytes s ++ rest → ContentsStand bytes s
contents_before versions order s bytes rest fit is id start e a starts found there =
    let i : InUnit s.items id e = entry_in_unit s.items id e found in
    let u : WholeUnit = i.unit in
    let fits : UnitFits u = unit_fits versions order 0 s.items id.item u fit i.known in
    let lent : Contains (entries_of (tree_of u)) e = found_there id.offset (entries_of (tree_of u)) e i.found in
    let given : Given e =
    given_in (context_of u.header) u.table u.root (tree_of u).start 1 e
    (tree_given (context_of u.header) u.table (nesting - 1) u.root fits.tree_fits) lent
    in
    let h = node_holds e.context e.table e.node e.offset a given there in
    let item : HoldsItem s.items 0 start (Known u) = item_lies s.items id.item (Known u) 0 start i.known starts in
    let own : List ℕ = tree_bytes e.context e.table e.node in
    let front : ℕ = (seen_attr a).front in
    let content : List ℕ = content_of a.attr.value in
    let in_unit : Lies (bytes_of u) (e.offset + (h.place + front)) content =
    lies_in (bytes_of u) e.offset own (h.place + front) content (unit_holds u e fits lent) h.lies
    in
    let in_section : Lies (items_bytes s.items) (item.place + (e.offset + (h.place + front))) content =
    lies_in (items_bytes s.items) item.place (bytes_of u) (e.offset + (h.place + front)) content item.lies in_unit
    in
    let told : ℕ = (seen_attr a).offset in
    let place : item.place + (e.offset + (h.place + front)) ≡ start + told + front =
    omega (arith, item.start_is, h.offset_is, told_offset (without_value a) a.attr.value)
    in
    let in_bytes : Lies bytes (start + told + front) content =
    lies_at bytes (item.place + (e.offset + (h.place + front))) (start + told + front) content place
    (subst (λ (b : List ℕ). Lies b (item.place + (e.offset + (h.place + front))) content) (sym is)
    (lies_before (items_bytes s.items) rest (item.place + (e.offset + (h.place + front))) content in_section))
    in
    let length_is : (seen_attr a).length ≡ length content = told_length (without_value a) a.attr.value refl in
    record {
      length_is = length_is;
      content_is =
          ap (λ (n : ℕ). take n (drop (start + told + front) bytes)) length_is
          ∙ taken bytes (start + told + front) content in_bytes;
    }

pub contents_of_opened : (versions : Versions) (order : Order) (abbreviations info : List ℕ) (s : WholeSection)
    → IsOpened versions order abbreviations info s → ContentsStand info s
contents_of_opened versions order abbreviations info s opened =
    contents_before versions order s info [] opened.is.fit (opened.is.spelled ∙ sym (append-nil (section_bytes s)))

pub contents_of_written : (s : WholeSection) (out : List ℕ) → SectionFits s
    → take (length (section_bytes s)) out ≡ section_bytes s → ContentsStand out s
contents_of_written s out fits is =
    let n : ℕ = length (section_bytes s) in
    contents_before s.versions s.order s out (drop n out) fits
    (sym (take-append-drop n out) ∙ ap (λ (b : List ℕ). b ++ drop n out) is)
