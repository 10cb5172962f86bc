-- An entry is lent exactly where a path of child numbers leads to it, and its bytes stand from its offset on.
use Rattle.std.proofs.Common.{◌⊎◌, ◌≡◌, ℕ, zero, suc, ◌+◌, ◌<◌, List, [], ◌∷◌, ◌++◌, length, get_or, Option, Some, None, refl, sym, ap, subst, ◌∙◌, append_assoc, append-nil, arith, inl, inr}
use Rattle.std.specs.List.{Contains}
use Rattle.std.specs.Prelude.{◌↔◌}
use Rattle.std.proofs.lemmas.List.{length-append}
use Rattle.std.proofs.lemmas.List.Elements.{Contains-append_left, Contains-append_right, Contains-append_cases}
use Rattle.dw_leb.specs.Number.{uleb}
use Rattle.dw_form.specs.declared.shape.Ctx.{Ctx}
use Rattle.dw_abbrev.specs.Table.{Table, zero_of}
use Rattle.dw_tree.specs.Tree.{Tree, leaf, branch, Forest, none, more}
use Rattle.dw_tree.specs.Spelling.{entry_bytes, tree_bytes, forest_bytes}
use Rattle.dw_tree.specs.Offset.{node_at, node_in, offset_at, offset_in, end_at, end_in}
use Rattle.dw_tree.specs.Steps.{TreeAt}
use Rattle.dw_tree.specs.Lent.{EntryAt, preorder, all_preorder, entries_of, end_offset_of, LeadsTo}

none_there : (e : EntryAt) → Contains [] e → ⊥
none_there e h = omega (arith, h.1)

first_or_later : (x : EntryAt) (xs : List EntryAt) (e : EntryAt) → Contains (x ∷ xs) e → (x ≡ e) ⊎ Contains xs e
first_or_later x xs e h = by h.0 h.1 h.2
  where
    by : (n : ℕ) → n < length (x ∷ xs) → get_or (x ∷ xs) n e ≡ e → (x ≡ e) ⊎ Contains xs e
    by zero l is = inl is
    by (suc n) l is = inr (n, omega (arith, l), is)

first_there : (x e : EntryAt) (xs : List EntryAt) → x ≡ e → Contains (x ∷ xs) e
first_there x e xs is = (0, omega arith, is)

later_there : (x e : EntryAt) (xs : List EntryAt) → Contains xs e → Contains (x ∷ xs) e
later_there x e xs h = (suc h.0, omega (arith, h.1), h.2)

some_tree : (x y : Tree) → Some x ≡ Some y → x ≡ y
some_tree x y e = cc

some_is : (m n : ℕ) → Some m ≡ Some n → m ≡ n
some_is m n e = cc

module _ (k : Ctx) (t : Table) where
  abbrev entry : Tree → ℕ → ℕ → EntryAt
  entry x base depth = record { context = k; table = t; node = x; offset = base; depth = depth }

  -- what a path leads to, where the root's level is another
  record Leads (node : Option Tree) (offset end : Option ℕ) (level : ℕ) (e : EntryAt) : Type 0 where
    pub context_is : e.context ≡ k
    pub table_is : e.table ≡ t
    pub node_is : node ≡ Some e.node
    pub offset_is : offset ≡ Some e.offset
    pub end_is : end ≡ Some (end_offset_of e)
    pub depth_is : e.depth ≡ level

  abbrev LeadsAt : Tree → ℕ → ℕ → List ℕ → EntryAt → Type 0
  LeadsAt x base depth path e =
      Leads (node_at x path) (offset_at k t base x path) (end_at k t base x path) (length path + depth) e

  abbrev LeadsIn : Forest → ℕ → ℕ → ℕ → List ℕ → EntryAt → Type 0
  LeadsIn ts base depth i path e =
      Leads (node_in ts i path) (offset_in k t base ts i path) (end_in k t base ts i path) (length path + depth) e

  at_level : (n : Option Tree) (o z : Option ℕ) (e : EntryAt) (l m : ℕ) → l ≡ m → Leads n o z l e → Leads n o z m e
  at_level n o z e l m is h = subst (λ (d : ℕ). Leads n o z d e) is h

  to_root : (x : Tree) (base depth : ℕ)
      → Leads (Some x) (Some base) (Some (base + length (tree_bytes k t x))) (0 + depth) (entry x base depth)
  to_root x base depth =
      record
      { context_is = refl; table_is = refl; node_is = refl; offset_is = refl; end_is = refl; depth_is = omega arith }

  is_root : (x : Tree) (base depth : ℕ) (z : Option ℕ) (e : EntryAt) → Leads (Some x) (Some base) z (0 + depth) e
      → entry x base depth ≡ e
  is_root x base depth z e h =
      let node : x ≡ e.node = some_tree x e.node h.node_is in
      let offset : base ≡ e.offset = some_is base e.offset h.offset_is in
      let level : depth ≡ e.depth = omega (arith, h.depth_is) in
      rw (← h.context_is, ← h.table_is, node, offset, level) refl

  mutual
    unfolding node_at offset_at end_at

    path_of : (x : Tree) (base depth : ℕ) (e : EntryAt) → Contains (preorder k t x base depth) e
        → (path : List ℕ) × LeadsAt x base depth path e
    path_of (leaf code vs) base depth e h = elim (first_or_later (entry (leaf code vs) base depth) [] e h) [
      | inl same ↦
          ([], subst (λ (f : EntryAt). LeadsAt (leaf code vs) base depth [] f) same (to_root (leaf code vs) base depth))
      | inr later ↦ absurd (none_there e later)
    ]
    path_of (branch code vs ts w) base depth e h =
        let inner = base + length (entry_bytes k t code vs) in
        elim (first_or_later (entry (branch code vs ts w) base depth) (all_preorder k t ts inner (suc depth)) e h) [
          | inl same ↦ (
            [],
            subst (λ (f : EntryAt). LeadsAt (branch code vs ts w) base depth [] f) same
                (to_root (branch code vs ts w) base depth),
          )
          | inr later ↦ let p = path_in ts inner (suc depth) e later in (
            p.0 ∷ p.1,
            at_level (node_in ts p.0 p.1) (offset_in k t inner ts p.0 p.1) (end_in k t inner ts p.0 p.1) e
                (length p.1 + suc depth) (suc (length p.1) + depth) (omega arith) p.2,
          )
        ]

    path_in : (ts : Forest) (base depth : ℕ) (e : EntryAt) → Contains (all_preorder k t ts base depth) e
        → (i : ℕ) × (path : List ℕ) × LeadsIn ts base depth i path e
    path_in none base depth e h = absurd (none_there e h)
    path_in (more x ts) base depth e h =
        let next = base + length (tree_bytes k t x) in
        elim (Contains-append_cases (preorder k t x base depth) (all_preorder k t ts next depth) e h) [
          | inl here ↦ let p = path_of x base depth e here in (0, p.0, p.1)
          | inr later ↦ let p = path_in ts next depth e later in (suc p.0, p.1, p.2)
        ]

  mutual
    unfolding node_at offset_at end_at

    lent_at : (x : Tree) (base depth : ℕ) (path : List ℕ) (e : EntryAt) → LeadsAt x base depth path e
        → Contains (preorder k t x base depth) e
    lent_at (leaf code vs) base depth [] e h =
        first_there (entry (leaf code vs) base depth) e [] (is_root (leaf code vs) base depth _ e h)
    lent_at (leaf code vs) base depth (i ∷ path) e h = let no : None ≡ Some e.offset = h.offset_is in absurd cc
    lent_at (branch code vs ts w) base depth [] e h =
        first_there (entry (branch code vs ts w) base depth) e
        (all_preorder k t ts (base + length (entry_bytes k t code vs)) (suc depth))
        (is_root (branch code vs ts w) base depth _ e h)
    lent_at (branch code vs ts w) base depth (i ∷ path) e h =
        let inner = base + length (entry_bytes k t code vs) in
        later_there (entry (branch code vs ts w) base depth) e (all_preorder k t ts inner (suc depth))
        (lent_in ts inner (suc depth) i path e
        (at_level (node_in ts i path) (offset_in k t inner ts i path) (end_in k t inner ts i path) e
        (suc (length path) + depth) (length path + suc depth) (omega arith) h))

    lent_in : (ts : Forest) (base depth i : ℕ) (path : List ℕ) (e : EntryAt) → LeadsIn ts base depth i path e
        → Contains (all_preorder k t ts base depth) e
    lent_in none base depth i path e h = let no : None ≡ Some e.offset = h.offset_is in absurd cc
    lent_in (more x ts) base depth zero path e h =
        Contains-append_left (preorder k t x base depth) (all_preorder k t ts (base + length (tree_bytes k t x)) depth)
        e (lent_at x base depth path e h)
    lent_in (more x ts) base depth (suc i) path e h =
        Contains-append_right (preorder k t x base depth) (all_preorder k t ts (base + length (tree_bytes k t x)) depth)
        e (lent_in ts (base + length (tree_bytes k t x)) depth i path e h)

  -- ---- bytes

  abbrev own : EntryAt → List ℕ
  own e = tree_bytes e.context e.table e.node

  -- among these bytes, of which the first stands at an offset, stand those of the entry with all that is below it, at
  -- its own offset
  abbrev Among : List ℕ → ℕ → EntryAt → Type 0
  Among bytes base e =
      (before : List ℕ) × (after : List ℕ) × (bytes ≡ before ++ (own e ++ after)) × (base + length before ≡ e.offset)

  among_front : (xs ys : List ℕ) (base : ℕ) (e : EntryAt) → Among xs base e → Among (xs ++ ys) base e
  among_front xs ys base e h = (
    h.0,
    h.1 ++ ys,
    ap (λ (b : List ℕ). b ++ ys) h.2 ∙ append_assoc h.0 (own e ++ h.1) ys
        ∙ ap (λ (b : List ℕ). h.0 ++ b) (append_assoc (own e) h.1 ys),
    h.3,
  )

  among_back : (xs ys : List ℕ) (base : ℕ) (e : EntryAt) → Among ys (base + length xs) e → Among (xs ++ ys) base e
  among_back xs ys base e h = (
    xs ++ h.0,
    h.1,
    ap (λ (b : List ℕ). xs ++ b) h.2 ∙ sym (append_assoc xs h.0 (own e ++ h.1)),
    omega (arith, h.3, length-append xs h.0),
  )

  among_all : (x : Tree) (base depth : ℕ) → Among (tree_bytes k t x) base (entry x base depth)
  among_all x base depth = ([], [], sym (append-nil (tree_bytes k t x)), omega arith)

  mutual
    unfolding tree_bytes

    among_tree : (x : Tree) (base depth : ℕ) (e : EntryAt) → Contains (preorder k t x base depth) e
        → Among (tree_bytes k t x) base e
    among_tree (leaf code vs) base depth e h = elim (first_or_later (entry (leaf code vs) base depth) [] e h) [
      | inl same ↦ subst (λ (f : EntryAt). Among (tree_bytes k t (leaf code vs)) base f) same
          (among_all (leaf code vs) base depth)
      | inr later ↦ absurd (none_there e later)
    ]
    among_tree (branch code vs ts w) base depth e h =
        let head = entry_bytes k t code vs in
        elim
        (first_or_later (entry (branch code vs ts w) base depth)
        (all_preorder k t ts (base + length head) (suc depth)) e h) [
          | inl same ↦ subst (λ (f : EntryAt). Among (tree_bytes k t (branch code vs ts w)) base f) same
              (among_all (branch code vs ts w) base depth)
          | inr later ↦ among_back head (forest_bytes k t ts ++ uleb.spell (zero_of w)) base e
              (among_front (forest_bytes k t ts) (uleb.spell (zero_of w)) (base + length head) e
              (among_forest ts (base + length head) (suc depth) e later))
        ]

    among_forest : (ts : Forest) (base depth : ℕ) (e : EntryAt) → Contains (all_preorder k t ts base depth) e
        → Among (forest_bytes k t ts) base e
    among_forest none base depth e h = absurd (none_there e h)
    among_forest (more x ts) base depth e h =
        let next = base + length (tree_bytes k t x) in
        elim (Contains-append_cases (preorder k t x base depth) (all_preorder k t ts next depth) e h) [
          | inl here ↦ among_front (tree_bytes k t x) (forest_bytes k t ts) base e (among_tree x base depth e here)
          | inr later ↦ among_back (tree_bytes k t x) (forest_bytes k t ts) base e (among_forest ts next depth e later)
        ]

-- ---- entries that are lent

pub lent_by_path : (u : TreeAt) (e : EntryAt) → Contains (entries_of u) e ↔ ((path : List ℕ) × LeadsTo u path e)
lent_by_path u e = (there, λ h. back h.0 h.1)
  where
    there : Contains (entries_of u) e → (path : List ℕ) × LeadsTo u path e
    there h =
        let p = path_of u.context u.table u.root u.start 1 e h in (
          p.0,
          record {
            context = p.1.context_is;
            table = p.1.table_is;
            node = p.1.node_is;
            offset = p.1.offset_is;
            end = p.1.end_is;
            depth = p.1.depth_is;
          },
        )

    back : (path : List ℕ) → LeadsTo u path e → Contains (entries_of u) e
    back path h =
        lent_at u.context u.table u.root u.start 1 path e
        (record {
          context_is = h.context;
          table_is = h.table;
          node_is = h.node;
          offset_is = h.offset;
          end_is = h.end;
          depth_is = h.depth;
        })

pub lent_among : (u : TreeAt) (e : EntryAt) → Contains (entries_of u) e
    → (before : List ℕ) × (after : List ℕ)
    × (tree_bytes u.context u.table u.root ≡ before ++ (tree_bytes e.context e.table e.node ++ after))
    × (u.start + length before ≡ e.offset)
lent_among u e h = among_tree u.context u.table u.root u.start 1 e h
