-- A finding is listed exactly where something is wrong: at an attribute, at an entry, in a unit, in a section.
use Rattle.std.proofs.Common.{◌≡◌, ◌⊎◌, ℕ, zero, suc, ◌+◌, ◌<◌, Bool, true, false, List, [], ◌∷◌, ◌++◌, length, get_or, refl, sym, ap, subst, append_assoc, append-nil, arith, inl, inr}
use Rattle.std.specs.Prelude.{◌↔◌, not}
use Rattle.std.specs.List.{Contains}
use Rattle.std.proofs.lemmas.List.Elements.{Contains-append_left, Contains-append_right, Contains-append_cases}
use Rattle.dw_tree.specs.Lent.{LentAttribute, EntryAt, attributes_of, root_of, entries_of}
use Rattle.dw_unit.specs.Unit.{WholeUnit, tree_of}
use Rattle.dw_section.specs.Item.{Item, Known, Other}
use Rattle.dw_section.specs.Section.{WholeSection}
use Rattle.dw_section.specs.Reference.{ItemAt, items_at}
use Rattle.dw_strings.specs.Text.{StringSections}
use Rattle.dw_check.specs.declared.finding.Finding.{Finding}
use Rattle.dw_check.specs.declared.finding.FindingKind.{FindingKind}
use Rattle.dw_check.specs.declared.finding.FindingKind.TheVariants.{BadReference, BadSibling, RootTag, TypeOffset, BadText, RepeatedName}
use Rattle.dw_check.specs.Findings.{UnitIn, finding_if, is_bad_reference, is_bad_sibling, is_bad_text, is_named_among, is_root_tag, has_type, root_tag, findings_at, findings_behind, entry_findings, entries_findings, root_findings, unit_findings, item_findings, items_findings, findings}
use Rattle.dw_check.specs.Laws.{IsWrong, IsWrongRoot, AtRoot, AtAttribute, IsFinding}

-- ---- lists

none_there : {X : Type 0} (x : X) → Contains [] x → ⊥
none_there x h = omega (arith, h.1)

first_or_later : {X : Type 0} (x : X) (xs : List X) (y : X) → Contains (x ∷ xs) y → (x ≡ y) ⊎ Contains xs y
first_or_later {X} x xs y h = by h.0 h.1 h.2
  where
    by : (n : ℕ) → n < length (x ∷ xs) → get_or (x ∷ xs) n y ≡ y → (x ≡ y) ⊎ Contains xs y
    by zero l is = inl is
    by (suc n) l is = inr (n, omega (arith, l), is)

first_there : {X : Type 0} (x : X) (xs : List X) → Contains (x ∷ xs) x
first_there x xs = (0, omega arith, refl)

later_there : {X : Type 0} (x : X) (xs : List X) (y : X) → Contains xs y → Contains (x ∷ xs) y
later_there x xs y h = (suc h.0, omega (arith, h.1), h.2)

-- ---- one finding

-- at this offset and position, and of such a kind
abbrev Said : ℕ → ℕ → (FindingKind → Type 0) → Finding → Type 0
Said o p P f = (f.offset ≡ o) × (f.position ≡ p) × P f.kind

said_if : (b : Bool) (o p : ℕ) (k : FindingKind) (P : FindingKind → Type 0) (f : Finding) → (b ≡ true → P k) → Contains (finding_if b o p k) f → Said o p P f
said_if true o p k P f given h = elim (first_or_later (record { offset = o; position = p; kind = k }) [] f h) [
  | inl is ↦ subst (Said o p P) is (refl, refl, given refl)
  | inr none ↦ absurd (none_there f none)
]
said_if false o p k P f given h = absurd (none_there f h)

listed_if : (b : Bool) (o p : ℕ) (k : FindingKind) → b ≡ true → Contains (finding_if b o p k) (record { offset = o; position = p; kind = k })
listed_if true o p k e = first_there (record { offset = o; position = p; kind = k }) []
listed_if false o p k e = absurd cc

-- what is listed at an offset and a position by its kind
placed : (o p : ℕ) (P : FindingKind → Type 0) (xs : List Finding) → ((k : FindingKind) → P k → Contains xs (record { offset = o; position = p; kind = k })) → (f : Finding) → Said o p P f → Contains xs f
placed o p P xs listed f (at, there, wrong) =
    subst (λ (q : ℕ). Contains xs (record { offset = q; position = f.position; kind = f.kind })) (sym at)
    (subst (λ (q : ℕ). Contains xs (record { offset = o; position = q; kind = f.kind })) (sym there) (listed f.kind wrong))

-- ---- at an attribute

module _ (u : UnitIn) (e : EntryAt) where
  abbrev here : ℕ
  here = u.start + e.offset

  abbrev names : ℕ → List LentAttribute → LentAttribute → List Finding
  names p before a = finding_if (is_named_among a.name before) here p RepeatedName

  abbrev texts : ℕ → LentAttribute → List Finding
  texts p a = finding_if (is_bad_text u a) here p BadText

  abbrev siblings : ℕ → LentAttribute → List Finding
  siblings p a = finding_if (is_bad_sibling u e a) here p BadSibling

  abbrev references : ℕ → LentAttribute → List Finding
  references p a = finding_if (is_bad_reference u a) here p BadReference

  abbrev all_at : ℕ → List LentAttribute → LentAttribute → List Finding
  all_at p before a = findings_at u e p a (is_named_among a.name before)

  said_at : (p : ℕ) (before : List LentAttribute) (a : LentAttribute) (f : Finding) → Contains (all_at p before a) f → Said here p (IsWrong u e before a) f
  said_at p before a f h = elim (Contains-append_cases (references p a) (siblings p a ++ (texts p a ++ names p before a)) f h) [
    | inl one ↦ said_if (is_bad_reference u a) here p BadReference (IsWrong u e before a) f (λ q. q) one
    | inr more ↦ elim (Contains-append_cases (siblings p a) (texts p a ++ names p before a) f more) [
      | inl two ↦ said_if (is_bad_sibling u e a) here p BadSibling (IsWrong u e before a) f (λ q. q) two
      | inr rest ↦ elim (Contains-append_cases (texts p a) (names p before a) f rest) [
        | inl three ↦ said_if (is_bad_text u a) here p BadText (IsWrong u e before a) f (λ q. q) three
        | inr four ↦ said_if (is_named_among a.name before) here p RepeatedName (IsWrong u e before a) f (λ q. q) four
      ]
    ]
  ]

  abbrev of_kind : ℕ → FindingKind → Finding
  of_kind p k = record { offset = here; position = p; kind = k }

  listed_at : (p : ℕ) (before : List LentAttribute) (a : LentAttribute) (k : FindingKind) → IsWrong u e before a k → Contains (all_at p before a) (of_kind p k)
  listed_at p before a BadReference w = Contains-append_left (references p a) (siblings p a ++ (texts p a ++ names p before a)) (of_kind p BadReference) (listed_if (is_bad_reference u a) here p BadReference w)
  listed_at p before a BadSibling w =
      Contains-append_right (references p a) (siblings p a ++ (texts p a ++ names p before a)) (of_kind p BadSibling)
      (Contains-append_left (siblings p a) (texts p a ++ names p before a) (of_kind p BadSibling) (listed_if (is_bad_sibling u e a) here p BadSibling w))
  listed_at p before a BadText w =
      Contains-append_right (references p a) (siblings p a ++ (texts p a ++ names p before a)) (of_kind p BadText)
      (Contains-append_right (siblings p a) (texts p a ++ names p before a) (of_kind p BadText)
      (Contains-append_left (texts p a) (names p before a) (of_kind p BadText) (listed_if (is_bad_text u a) here p BadText w)))
  listed_at p before a RepeatedName w =
      Contains-append_right (references p a) (siblings p a ++ (texts p a ++ names p before a)) (of_kind p RepeatedName)
      (Contains-append_right (siblings p a) (texts p a ++ names p before a) (of_kind p RepeatedName)
      (Contains-append_right (texts p a) (names p before a) (of_kind p RepeatedName) (listed_if (is_named_among a.name before) here p RepeatedName w)))
  listed_at p before a RootTag w = absurd w
  listed_at p before a TypeOffset w = absurd w

  -- ---- at an entry

  -- what is wrong with the attribute that stands behind these
  abbrev SaidBehind : List LentAttribute → LentAttribute → Finding → Type 0
  SaidBehind before a f = Said here (suc (length before)) (IsWrong u e before a) f

  said_behind : (f : Finding) (before attributes : List LentAttribute) → Contains (findings_behind u e before attributes) f
      → (between : List LentAttribute) × (a : LentAttribute) × (others : List LentAttribute) × (attributes ≡ between ++ a ∷ others) × SaidBehind (before ++ between) a f
  said_behind f before [] h = absurd (none_there f h)
  said_behind f before (a ∷ others) h = elim (Contains-append_cases (all_at (suc (length before)) before a) (findings_behind u e (before ++ a ∷ []) others) f h) [
    | inl one ↦ ([], a, others, refl, subst (λ (b : List LentAttribute). SaidBehind b a f) (sym (append-nil before)) (said_at (suc (length before)) before a f one))
    | inr more ↦ let m = said_behind f (before ++ a ∷ []) others more in
        (a ∷ m.0, m.1, m.2, ap (λ (l : List LentAttribute). a ∷ l) m.3, subst (λ (b : List LentAttribute). SaidBehind b m.1 f) (append_assoc before (a ∷ []) m.0) m.4)
  ]

  listed_behind : (f : Finding) (before between : List LentAttribute) (a : LentAttribute) (others : List LentAttribute) → SaidBehind (before ++ between) a f → Contains (findings_behind u e before (between ++ a ∷ others)) f
  listed_behind f before [] a others said =
      let at = subst (λ (b : List LentAttribute). SaidBehind b a f) (append-nil before) said in
      Contains-append_left (all_at (suc (length before)) before a) (findings_behind u e (before ++ a ∷ []) others) f
      (placed here (suc (length before)) (IsWrong u e before a) (all_at (suc (length before)) before a) (listed_at (suc (length before)) before a) f at)
  listed_behind f before (c ∷ between) a others said =
      Contains-append_right (all_at (suc (length before)) before c) (findings_behind u e (before ++ c ∷ []) (between ++ a ∷ others)) f
      (listed_behind f (before ++ c ∷ []) between a others (subst (λ (b : List LentAttribute). SaidBehind b a f) (sym (append_assoc before (c ∷ []) between)) said))

-- ---- in a unit

module _ (u : UnitIn) where
  said_among : (f : Finding) (es : List EntryAt) → Contains (entries_findings u es) f → (e : EntryAt) × Contains es e × Contains (entry_findings u e) f
  said_among f [] h = absurd (none_there f h)
  said_among f (e ∷ es) h = elim (Contains-append_cases (entry_findings u e) (entries_findings u es) f h) [
    | inl one ↦ (e, first_there e es, one)
    | inr more ↦ let m = said_among f es more in (m.0, later_there e es m.0 m.1, m.2)
  ]

  listed_among : (f : Finding) (es : List EntryAt) (e : EntryAt) → Contains es e → Contains (entry_findings u e) f → Contains (entries_findings u es) f
  listed_among f [] e h k = absurd (none_there e h)
  listed_among f (x ∷ es) e h k = elim (first_or_later x es e h) [
    | inl is ↦ Contains-append_left (entry_findings u x) (entries_findings u es) f (subst (λ (y : EntryAt). Contains (entry_findings u y) f) (sym is) k)
    | inr more ↦ Contains-append_right (entry_findings u x) (entries_findings u es) f (listed_among f es e more k)
  ]

  at_attribute : (f : Finding) (e : EntryAt) → Contains (entries_of (tree_of u.unit)) e → Contains (entry_findings u e) f → AtAttribute u f
  at_attribute f e lent h =
      let m = said_behind u e f [] (attributes_of e) h in
      record { entry = e; before = m.0; attribute = m.1; others = m.2; lent = lent; among = m.3; offset_is = m.4.0; position_is = m.4.1; wrong = m.4.2 }

  from_attribute : (f : Finding) → AtAttribute u f → Contains (entries_findings u (entries_of (tree_of u.unit))) f
  from_attribute f h =
      let listed = listed_behind u h.entry f [] h.before h.attribute h.others (h.offset_is, h.position_is, h.wrong) in
      listed_among f (entries_of (tree_of u.unit)) h.entry h.lent (subst (λ (l : List LentAttribute). Contains (findings_behind u h.entry [] l) f) (sym h.among) listed)

  abbrev root : EntryAt
  root = root_of (tree_of u.unit)

  abbrev at_root : ℕ
  at_root = u.start + root.offset

  abbrev is_tagged : Bool
  is_tagged = is_root_tag u.unit.header.kind (root_tag root)

  abbrev is_typed : Bool
  is_typed = has_type u.unit u.unit.header.kind

  not_true : (b : Bool) → not b ≡ true → b ≡ false
  not_true true e = absurd cc
  not_true false e = refl

  not_false : (b : Bool) → b ≡ false → not b ≡ true
  not_false true e = absurd cc
  not_false false e = refl

  said_root : (f : Finding) → Contains (root_findings u) f → AtRoot u f
  said_root f h = by (elim (Contains-append_cases (finding_if (not is_tagged) at_root 0 RootTag) (finding_if (not is_typed) at_root 0 TypeOffset) f h) [
    | inl one ↦ said_if (not is_tagged) at_root 0 RootTag (IsWrongRoot u root) f (not_true is_tagged) one
    | inr two ↦ said_if (not is_typed) at_root 0 TypeOffset (IsWrongRoot u root) f (not_true is_typed) two
  ])
    where
      by : Said at_root 0 (IsWrongRoot u root) f → AtRoot u f
      by (at, there, wrong) = record { offset_is = at; position_is = there; wrong = wrong }

  listed_root : (k : FindingKind) → IsWrongRoot u root k → Contains (root_findings u) (record { offset = at_root; position = 0; kind = k })
  listed_root RootTag w =
      Contains-append_left (finding_if (not is_tagged) at_root 0 RootTag) (finding_if (not is_typed) at_root 0 TypeOffset) (record { offset = at_root; position = 0; kind = RootTag }) (listed_if (not is_tagged) at_root 0 RootTag (not_false is_tagged w))
  listed_root TypeOffset w =
      Contains-append_right (finding_if (not is_tagged) at_root 0 RootTag) (finding_if (not is_typed) at_root 0 TypeOffset) (record { offset = at_root; position = 0; kind = TypeOffset }) (listed_if (not is_typed) at_root 0 TypeOffset (not_false is_typed w))
  listed_root BadReference w = absurd w
  listed_root BadSibling w = absurd w
  listed_root BadText w = absurd w
  listed_root RepeatedName w = absurd w

  said_unit : (f : Finding) → Contains (unit_findings u) f → AtRoot u f ⊎ AtAttribute u f
  said_unit f h = elim (Contains-append_cases (root_findings u) (entries_findings u (entries_of (tree_of u.unit))) f h) [
    | inl one ↦ inl (said_root f one)
    | inr more ↦ let m = said_among f (entries_of (tree_of u.unit)) more in inr (at_attribute f m.0 m.1 m.2)
  ]

  listed_unit : (f : Finding) → AtRoot u f ⊎ AtAttribute u f → Contains (unit_findings u) f
  listed_unit f (inl r) =
      Contains-append_left (root_findings u) (entries_findings u (entries_of (tree_of u.unit))) f
      (placed at_root 0 (IsWrongRoot u root) (root_findings u) listed_root f (r.offset_is, r.position_is, r.wrong))
  listed_unit f (inr a) = Contains-append_right (root_findings u) (entries_findings u (entries_of (tree_of u.unit))) f (from_attribute f a)

-- ---- in a section

module _ (items : List Item) (strings : StringSections) (f : Finding) where
  abbrev there : ItemAt → WholeUnit → UnitIn
  there x u = record { items = items; strings = strings; number = x.number; start = x.start; unit = u }

  said_item : (x : ItemAt) → Contains (item_findings items strings x.number x.start x.item) f → (u : WholeUnit) × (x.item ≡ Known u) × (AtRoot (there x u) f ⊎ AtAttribute (there x u) f)
  said_item x h = by x.item refl h
    where
      by : (y : Item) → x.item ≡ y → Contains (item_findings items strings x.number x.start y) f → (u : WholeUnit) × (x.item ≡ Known u) × (AtRoot (there x u) f ⊎ AtAttribute (there x u) f)
      by (Known u) is k = (u, is, said_unit (there x u) f k)
      by (Other bytes) is k = absurd (none_there f k)

  said_items : (xs : List ItemAt) → Contains (items_findings items strings xs) f → (x : ItemAt) × Contains xs x × Contains (item_findings items strings x.number x.start x.item) f
  said_items [] h = absurd (none_there f h)
  said_items (x ∷ xs) h = elim (Contains-append_cases (item_findings items strings x.number x.start x.item) (items_findings items strings xs) f h) [
    | inl one ↦ (x, first_there x xs, one)
    | inr more ↦ let m = said_items xs more in (m.0, later_there x xs m.0 m.1, m.2)
  ]

  listed_items : (xs : List ItemAt) (x : ItemAt) → Contains xs x → Contains (item_findings items strings x.number x.start x.item) f → Contains (items_findings items strings xs) f
  listed_items [] x h k = absurd (none_there x h)
  listed_items (y ∷ xs) x h k = elim (first_or_later y xs x h) [
    | inl is ↦ Contains-append_left (item_findings items strings y.number y.start y.item) (items_findings items strings xs) f (subst (λ (z : ItemAt). Contains (item_findings items strings z.number z.start z.item) f) (sym is) k)
    | inr more ↦ Contains-append_right (item_findings items strings y.number y.start y.item) (items_findings items strings xs) f (listed_items xs x more k)
  ]

pub findings_are_those : (strings : StringSections) (s : WholeSection) (f : Finding) → Contains (findings strings s) f ↔ IsFinding strings s f
findings_are_those strings s f = (said, listed)
  where
    said : Contains (findings strings s) f → IsFinding strings s f
    said h =
        let m = said_items s.items strings f (items_at s.items) h in
        let i = said_item s.items strings f m.0 m.2 in
        record { item = m.0; unit = i.0; among = m.1; known = i.1; there = i.2 }

    listed : IsFinding strings s f → Contains (findings strings s) f
    listed h =
        let own = listed_unit (record { items = s.items; strings = strings; number = h.item.number; start = h.item.start; unit = h.unit }) f h.there in
        listed_items s.items strings f (items_at s.items) h.item h.among (subst (λ (y : Item). Contains (item_findings s.items strings h.item.number h.item.start y) f) (sym h.known) own)
