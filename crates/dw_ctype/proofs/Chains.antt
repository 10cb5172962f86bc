-- Which types are chains, and their texts.
use Rattle.std.proofs.Common.{◌≡◌, ◌∙◌, ◌-◌, ◌<◌, ◌≤◌, ℕ, zero, suc, Bool, true, false, List, [], ◌++◌, length, Option, None, Some, Result, Ok, Err, ◌⊎◌, inl, inr, refl, sym, ap, append-nil, arith}
use Rattle.std.specs.Prelude.{IfOk, IsErrAnd, Vec, codes, ◌==◌}
use Rattle.std.specs.declared.alloc.AllocError.{AllocError}
use Rattle.std.specs.declared.alloc.Global.{Global}
use Rattle.dw_tree.specs.Lent.{EntryAt}
use Rattle.dw_section.specs.Item.{Item}
use Rattle.dw_section.specs.Lookup.{entry}
use Rattle.dw_section.specs.declared.id.EntryId.{EntryId}
use Rattle.dw_ctype.specs.declared.kind.Keyword.{Keyword}
use Rattle.dw_ctype.specs.declared.kind.PointerKind.{PointerKind}
use Rattle.dw_ctype.specs.declared.kind.PointerKind.TheVariants.{Pointer}
use Rattle.dw_ctype.specs.declared.kind.Qualifier.{Qualifier}
use Rattle.dw_ctype.specs.declared.kind.Kind.{Kind}
use Rattle.dw_ctype.specs.declared.kind.Kind.TheVariants.{Named, Tagged, Marked, Qualified, Other}
use Rattle.dw_ctype.specs.declared.typed.Typed.{Typed}
use Rattle.dw_ctype.specs.declared.typed.Typed.TheVariants.{Missing, Bad, Entry}
use Rattle.dw_ctype.specs.Append.{Puts}
use Rattle.dw_ctype.specs.Chain.{IsChain, IsChainFrom, Tried, end_left}
use Rattle.dw_ctype.specs.InOrder.{cut, type_cut, left, type_left, kind_left, qualified_left, right, type_right, word_before}
use Rattle.dw_ctype.specs.Names.{mark, qualifier}
use Rattle.dw_ctype.specs.Types.{Source, kind_of, type_of, say, under, under_type, unqualified, is_bracketed}
use Rattle.dw_ctype.specs.Visits.{visits, type_visits}
use Rattle.dw_ctype.proofs.Appending.{puts_as, puts_passed, puts_stopped, puts_after, puts_text}
use Rattle.dw_ctype.proofs.Levels.{cut_next, left_next, right_next, said_whole}
use Rattle.dw_ctype.proofs.Spent.{visits_next}

-- ---- what is tried

pub tried_map : {P Q : Type 0} {a b : List ℕ} (old new : Vec ℕ Global) (r : Result Bool AllocError) → (P → Q) → (P → a ≡ b) → Tried P old new a r → Tried Q old new b r
tried_map old new (Ok true) f g h = h
tried_map old new (Ok false) f g h = (f h.0, puts_text (g h.0) h.1)
tried_map old new (Err e) f g h = (f h.0, puts_text (g h.0) h.1)

-- all of it was appended
pub tried_whole : {P : Type 0} {old new : Vec ℕ Global} {a b : List ℕ} (r : Result Bool AllocError) → P → a ≡ b → Puts old new a r → IfOk r (λ other. other ≡ false) → Tried P old new b r
tried_whole (Ok true) p e h is = absurd cc
tried_whole (Ok false) p e h is = (p, puts_text e h)
tried_whole (Err f) p e h is = (p, puts_text e h)

-- it stopped early, and more was to come
pub tried_stopped : {P Q : Type 0} {e : AllocError} {old new : Vec ℕ Global} {a : List ℕ} (r : Result Bool AllocError) (b : List ℕ) {c : List ℕ} → (P → Q) → (P → a ++ b ≡ c) → IsErrAnd r (λ f. f ≡ e) → Tried P old new a (Err e) → Tried Q old new c r
tried_stopped (Ok v) b f g is h = absurd is
tried_stopped (Err x) b f g is h = (f h.0, puts_text (g h.0) (puts_stopped (Err x) b is h.1))

-- what came behind it stopped early
pub tried_after : {P Q : Type 0} {e : AllocError} {mid new : Vec ℕ Global} {b c : List ℕ} {other : Bool} (old : Vec ℕ Global) (a : List ℕ) (r : Result Bool AllocError) → other ≡ false → (P → Q) → (P → a ++ b ≡ c) → IsErrAnd r (λ f. f ≡ e) → Tried P old mid a (Ok other) → Puts {X = Unit {0}} mid new b (Err e) → Tried Q old new c r
tried_after {other = true} old a r o f g is h k = absurd cc
tried_after {other = false} old a (Ok v) o f g is h k = absurd is
tried_after {other = false} old a (Err x) o f g is h k = (f h.0, puts_text (g h.0) (puts_after h.1 (puts_passed (Err x) is k)))

-- and was appended too
pub tried_both : {P Q : Type 0} {u : Unit {0}} {old mid new : Vec ℕ Global} {b c : List ℕ} {other : Bool} (a : List ℕ) → other ≡ false → (P → Q) → (P → a ++ b ≡ c) → Tried P old mid a (Ok other) → Puts mid new b (Ok u) → Tried Q old new c (Ok false)
tried_both {other = true} a o f g h k = absurd cc
tried_both {other = false} a o f g h k = (f h.0, puts_text (g h.0) (puts_after h.1 (puts_as k)))

-- nothing was tried
pub tried_none : {old new : Vec ℕ Global} {other : Bool} (P : Type 0) (a : List ℕ) → other ≡ true → Tried P old new a (Ok other) → new ≡ old
tried_none {other = true} P a o h = h
tried_none {other = false} P a o h = absurd cc

-- ---- types

chain_of : (s : Source) (depth : ℕ) (t : Typed) → 0 < depth → type_cut (cut s.items (depth - 1)) s.items t ≡ false → type_right (right s (depth - 1)) (say s (depth - 1)) s t ≡ []
    → ((steps : ℕ) → is_bracketed (under_type (under s.items steps) s.items t) ≡ false) → type_visits (visits s.items (depth - 1)) s.items t ≤ depth → IsChain s depth t
chain_of s depth t deep whole ends plain few =
    let next = visits_next s.items depth t deep in
    record {
      whole = sym (cut_next s.items depth t deep) ∙ whole;
      ends = sym (right_next s depth t deep) ∙ ends;
      plain = plain;
      few = omega (arith, next, few);
    }

pub missing_chain : (s : Source) (depth : ℕ) (t : Typed) → 0 < depth → t ≡ Missing → IsChain s depth t
missing_chain s depth t deep is = chain_of s depth t deep (rw is refl) (rw is refl) (λ n. rw is refl) (rw is (omega arith))

pub bad_chain : (s : Source) (depth : ℕ) (t : Typed) → 0 < depth → t ≡ Bad → IsChain s depth t
bad_chain s depth t deep is = chain_of s depth t deep (rw is refl) (rw is refl) (λ n. rw is refl) (rw is (omega arith))

pub none_chain : (s : Source) (depth : ℕ) (t : Typed) (id : EntryId) → 0 < depth → t ≡ Entry id → entry s.items id ≡ None → IsChain s depth t
none_chain s depth t id deep is there = chain_of s depth t deep (rw (is, there) refl) (rw (is, there) refl) (λ n. rw (is, there) refl) (rw (is, there) (omega arith))

pub entry_chain : (s : Source) (depth : ℕ) (t : Typed) (id : EntryId) (e : EntryAt) → 0 < depth → t ≡ Entry id → entry s.items id ≡ Some e → IsChainFrom s (depth - 1) id.item e → IsChain s depth t
entry_chain s depth t id e deep is there h =
    let few = h.few in
    chain_of s depth t deep (rw (is, there) h.whole) (rw (is, there) h.ends) (λ n. rw (is, there) (h.plain n)) (rw (is, there) (omega (arith, deep, few)))

-- ---- entries

plain_of : (items : List Item) (n i : ℕ) (e : EntryAt) (k : Kind) → kind_of e ≡ k → ((further : Option Kind) → is_bracketed (unqualified k further) ≡ false) → is_bracketed (under items n i e) ≡ false
plain_of items zero i e k is h = rw is (h None)
plain_of items (suc n) i e k is h = rw is (h (under_type (under items n) items (type_of items i e)))

-- an entry that goes on to no type
abbrev pub IsEnd : Kind → Type 0
IsEnd k = (k ≡ Named) ⊎ (((word : Keyword) × k ≡ Tagged word) ⊎ (k ≡ Other))

pub end_from : (s : Source) (depth i : ℕ) (e : EntryAt) (k : Kind) → kind_of e ≡ k → IsEnd k → IsChainFrom s depth i e
end_from s depth i e k is (inl h) = let at : kind_of e ≡ Named = is ∙ h in
    record { whole = rw at refl; ends = rw at refl; plain = λ n. plain_of s.items n i e Named at (λ f. refl); few = rw at (omega arith) }
end_from s depth i e k is (inr (inl (word, h))) = let at : kind_of e ≡ Tagged word = is ∙ h in
    record { whole = rw at refl; ends = rw at refl; plain = λ n. plain_of s.items n i e (Tagged word) at (λ f. refl); few = rw at (omega arith) }
end_from s depth i e k is (inr (inr h)) = let at : kind_of e ≡ Other = is ∙ h in
    record { whole = rw at refl; ends = rw at refl; plain = λ n. plain_of s.items n i e Other at (λ f. refl); few = rw at (omega arith) }

pub end_said : (s : Source) (depth i : ℕ) (e : EntryAt) (k : Kind) (empty : Bool) → kind_of e ≡ k → IsEnd k → end_left s i e (kind_of e) empty ≡ kind_left (left s depth) (cut s.items depth) s i e (kind_of e) empty
end_said s depth i e k empty is (inl h) = let at : kind_of e ≡ Named = is ∙ h in rw at refl
end_said s depth i e k empty is (inr (inl (word, h))) = let at : kind_of e ≡ Tagged word = is ∙ h in rw at refl
end_said s depth i e k empty is (inr (inr h)) = let at : kind_of e ≡ Other = is ∙ h in rw at refl

module _ (s : Source) (depth i : ℕ) (e : EntryAt) (t : Typed) (typed : t ≡ type_of s.items i e) (h : IsChain s depth t) where
  at_type : IsChain s depth (type_of s.items i e)
  at_type = rw (← typed) h

  pub marked_from : (m : PointerKind) → kind_of e ≡ Marked m → IsChainFrom s depth i e
  marked_from m is =
      let one = at_type in
      let few = one.few in
      record {
        whole = rw is one.whole;
        ends = rw (is, one.plain 64, one.ends) refl;
        plain = λ n. plain_of s.items n i e (Marked m) is (λ f. refl);
        few = rw is few;
      }

  qualified_plain : (q : Qualifier) → kind_of e ≡ Qualified q → (n : ℕ) → is_bracketed (under s.items n i e) ≡ false
  qualified_plain q is zero = rw is refl
  qualified_plain q is (suc n) = rw is (at_type.plain n)

  pub qualified_from : (q : Qualifier) → kind_of e ≡ Qualified q → IsChainFrom s depth i e
  qualified_from q is =
      let one = at_type in
      let few = one.few in
      record {
        whole = rw is one.whole;
        ends = rw is one.ends;
        plain = qualified_plain q is;
        few = rw is few;
      }

  -- what stands before the declarator of a mark
  pub marked_left : (m : PointerKind) (empty : Bool) (word : List ℕ) → word ≡ mark m → kind_of e ≡ Marked m → left s depth t false ++ word_before word true ≡ kind_left (left s depth) (cut s.items depth) s i e (kind_of e) empty
  marked_left m empty word w is = let one = at_type in rw (w, typed, is, one.plain 64, one.whole) refl

-- what is behind a qualifier is behind its type
pub under_through : (items : List Item) (steps i : ℕ) (e : EntryAt) (q : Qualifier) → 0 < steps → kind_of e ≡ Qualified q → under items steps i e ≡ under_type (under items (steps - 1)) items (type_of items i e)
under_through items zero i e q some is = absurd (omega (arith, some))
under_through items (suc n) i e q some is =
    let same : n ≡ suc n - 1 = omega arith in
    ap (λ (k : Kind). unqualified k (under_type (under items n) items (type_of items i e))) is ∙ ap (λ (m : ℕ). under_type (under items m) items (type_of items i e)) same

pub qualified_said : (s : Source) (depth i : ℕ) (e : EntryAt) (t : Typed) (q : Qualifier) (empty : Bool) → t ≡ type_of s.items i e → kind_of e ≡ Qualified q
    → qualified_left (left s depth) (cut s.items depth t) t q (under_type (under s.items 63) s.items t) empty ≡ kind_left (left s depth) (cut s.items depth) s i e (kind_of e) empty
qualified_said s depth i e t q empty typed is =
    let through : under s.items 64 i e ≡ under_type (under s.items 63) s.items (type_of s.items i e) = under_through s.items 64 i e q (omega arith) is in
    rw (typed, is, through) refl

-- ---- what stands before the declarator

pub missing_left : (s : Source) (depth : ℕ) (t : Typed) (empty : Bool) → 0 < depth → t ≡ Missing → word_before (codes "void") empty ≡ left s depth t empty
missing_left s depth t empty deep is =
    let here : word_before (codes "void") empty ≡ type_left (left s (depth - 1)) (cut s.items (depth - 1)) s t empty = rw is refl in
    here ∙ left_next s depth t empty deep

pub bad_left : (s : Source) (depth : ℕ) (t : Typed) (empty : Bool) → 0 < depth → t ≡ Bad → word_before (codes "<bad>") empty ≡ left s depth t empty
bad_left s depth t empty deep is =
    let here : word_before (codes "<bad>") empty ≡ type_left (left s (depth - 1)) (cut s.items (depth - 1)) s t empty = rw is refl in
    here ∙ left_next s depth t empty deep

pub lost_left : (s : Source) (depth : ℕ) (t : Typed) (id : EntryId) (empty : Bool) → 0 < depth → t ≡ Entry id → entry s.items id ≡ None → word_before (codes "<bad>") empty ≡ left s depth t empty
lost_left s depth t id empty deep is there =
    let here : word_before (codes "<bad>") empty ≡ type_left (left s (depth - 1)) (cut s.items (depth - 1)) s t empty = rw (is, there) refl in
    here ∙ left_next s depth t empty deep

pub left_from : (s : Source) (depth : ℕ) (t : Typed) (id : EntryId) (e : EntryAt) (empty : Bool) → 0 < depth → t ≡ Entry id → entry s.items id ≡ Some e
    → kind_left (left s (depth - 1)) (cut s.items (depth - 1)) s id.item e (kind_of e) empty ≡ left s depth t empty
left_from s depth t id e empty deep is there =
    let here : kind_left (left s (depth - 1)) (cut s.items (depth - 1)) s id.item e (kind_of e) empty ≡ type_left (left s (depth - 1)) (cut s.items (depth - 1)) s t empty = rw (is, there) refl in
    here ∙ left_next s depth t empty deep

-- a qualifier before it, unless it is one of a pointer
pub word_first : (s : Source) (depth : ℕ) (t : Typed) (c : Bool) (q : Qualifier) (k : Option Kind) (empty : Bool) (word text : List ℕ) → qualified_left (left s depth) c t q k empty ≡ qualifier q ++ (codes " " ++ left s depth t empty) → word ≡ qualifier q → text ≡ left s depth t empty
    → word ++ (codes " " ++ text) ≡ qualified_left (left s depth) c t q k empty
word_first s depth t c q k empty word text is w e = rw (w, e) (sym is)

-- a qualifier of a pointer
pub word_last : (s : Source) (depth : ℕ) (t : Typed) (q : Qualifier) (k : Option Kind) (empty : Bool) (word : List ℕ) → k ≡ Some (Marked Pointer) → word ≡ qualifier q → IsChain s depth t
    → left s depth t false ++ word_before word empty ≡ qualified_left (left s depth) (cut s.items depth t) t q k empty
word_last s depth t q k empty word is w h = rw (w, is, h.whole) refl

under_end : (items : List Item) (n i : ℕ) (e : EntryAt) (k : Kind) → kind_of e ≡ k → ((further : Option Kind) → unqualified k further ≡ Some k) → under items n i e ≡ Some k
under_end items zero i e k is h = rw is (h None)
under_end items (suc n) i e k is h = rw is (h (under_type (under items n) items (type_of items i e)))

pub end_first : (s : Source) (depth n i : ℕ) (e : EntryAt) (k : Kind) (t : Typed) (c : Bool) (q : Qualifier) (empty : Bool) → kind_of e ≡ k → IsEnd k
    → qualified_left (left s depth) c t q (under s.items n i e) empty ≡ qualifier q ++ (codes " " ++ left s depth t empty)
end_first s depth n i e k t c q empty is (inl h) = rw (under_end s.items n i e Named (is ∙ h) (λ f. refl)) refl
end_first s depth n i e k t c q empty is (inr (inl (word, h))) = rw (under_end s.items n i e (Tagged word) (is ∙ h) (λ f. refl)) refl
end_first s depth n i e k t c q empty is (inr (inr h)) = rw (under_end s.items n i e Other (is ∙ h) (λ f. refl)) refl

-- ---- all of it

pub said_chain : (s : Source) (depth : ℕ) (t : Typed) (x : List ℕ) (empty : Bool) → empty ≡ (length x == 0) → IsChain s depth t → left s depth t empty ++ x ≡ say s depth t x
said_chain s depth t x empty is h =
    ap (λ (l : List ℕ). left s depth t empty ++ l) (sym (append-nil x) ∙ ap (λ (r : List ℕ). x ++ r) (sym h.ends)) ∙ said_whole s depth t x empty is (sym h.whole)
