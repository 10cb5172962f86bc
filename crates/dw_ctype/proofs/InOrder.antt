-- That a text in the order of its bytes is the text of the type and the declarator.
use Rattle.std.proofs.Common.{◌≡◌, ℕ, zero, suc, Bool, true, false, List, [], ◌∷◌, ◌++◌, Option, Some, None, refl, sym, ap, ◌∙◌}
use Rattle.std.specs.Prelude.{codes, unwrap_or}
use Rattle.std.proofs.lemmas.List.{append_assoc, append-nil}
use Rattle.dw_tree.specs.Lent.{EntryAt, children_of}
use Rattle.dw_section.specs.Lookup.{entry}
use Rattle.dw_ctype.specs.declared.kind.PointerKind.{PointerKind}
use Rattle.dw_ctype.specs.declared.kind.PointerKind.TheVariants.{Pointer, Reference, RvalueReference}
use Rattle.dw_ctype.specs.declared.kind.Qualifier.{Qualifier}
use Rattle.dw_ctype.specs.declared.kind.Qualifier.TheVariants.{Const, Volatile, Restrict, Atomic}
use Rattle.dw_ctype.specs.declared.kind.Kind.{Kind}
use Rattle.dw_ctype.specs.declared.kind.Kind.TheVariants.{Named, Tagged, Marked, Qualified, Array, Function, Other}
use Rattle.dw_ctype.specs.declared.typed.Typed.{Typed}
use Rattle.dw_ctype.specs.declared.typed.Typed.TheVariants.{Missing, Bad, Entry}
use Rattle.dw_ctype.specs.Names.{keyword, mark, qualifier}
use Rattle.dw_ctype.specs.Types.{Source, kind_of, type_of, name_of, worded, bracketed, dimensions, dimensions_of, unless_empty, parameters, qualified, is_bracketed, under, under_type, say, say_kind, say_entry}
use Rattle.dw_ctype.specs.InOrder.{is_empty, word_before, unless_cut, when, cut, kind_cut, entry_cut, left, qualified_left, kind_left, entry_left, right, kind_right, entry_right, in_order}

-- a word and a declarator
pub worded_in_order : (word x : List ℕ) → worded word x ≡ word_before word (is_empty x) ++ (x ++ [])
worded_in_order word [] = refl
worded_in_order word (b ∷ bs) = ap (λ (l : List ℕ). word ++ (codes " " ++ l)) (sym (append-nil (b ∷ bs))) ∙ sym (append_assoc word (codes " ") ((b ∷ bs) ++ []))

-- one level: what is put around the declarator stands there unless the depth ends the text
pub around : (is_cut : Bool) (text before x behind right : List ℕ) → text ++ unless_cut is_cut ((before ++ (x ++ behind)) ++ right) ≡ (text ++ unless_cut is_cut before) ++ unless_cut is_cut (x ++ (behind ++ right))
around true text before x behind right = sym (append_assoc text [] [])
around false text before x behind right =
    ap (λ (l : List ℕ). text ++ l) (append_assoc before (x ++ behind) right ∙ ap (λ (l : List ℕ). before ++ l) (append_assoc x behind right)) ∙ sym (append_assoc text before (x ++ (behind ++ right)))

some_behind : (x : List ℕ) (b : ℕ) (bs : List ℕ) → is_empty (x ++ b ∷ bs) ≡ false
some_behind [] b bs = refl
some_behind (y ∷ ys) b bs = refl

unless_empty_some : (x l : List ℕ) → is_empty (x ++ unless_empty (codes "[]") l) ≡ false
unless_empty_some x [] = some_behind x 91 (93 ∷ [])
unless_empty_some x (b ∷ bs) = some_behind x b bs

marked_some : (m : PointerKind) (bracket : Bool) (x : List ℕ) → is_empty (bracketed bracket (mark m ++ x)) ≡ false
marked_some m true x = refl
marked_some Pointer false x = refl
marked_some Reference false x = refl
marked_some RvalueReference false x = refl

bracketed_is : (m : PointerKind) (bracket : Bool) (x : List ℕ) → bracketed bracket (mark m ++ x) ≡ (when bracket (codes "(") ++ mark m) ++ (x ++ when bracket (codes ")"))
bracketed_is m true x = ap (λ (l : List ℕ). codes "(" ++ l) (append_assoc (mark m) x (codes ")")) ∙ sym (append_assoc (codes "(") (mark m) (x ++ codes ")"))
bracketed_is m false x = ap (λ (l : List ℕ). mark m ++ l) (sym (append-nil x))

module _ (s : Source) (depth : ℕ) (deeper : (t : Typed) (x : List ℕ) → say s depth t x ≡ in_order s depth t x) where
  -- what is put behind a declarator
  behind : (t : Typed) (x more : List ℕ) → is_empty (x ++ more) ≡ false → say s depth t (x ++ more) ≡ left s depth t false ++ unless_cut (cut s.items depth t) (x ++ (more ++ right s depth t))
  behind t x more some = deeper t (x ++ more)
      ∙ ap (λ (e : Bool). left s depth t e ++ unless_cut (cut s.items depth t) ((x ++ more) ++ right s depth t)) some
      ∙ ap (λ (l : List ℕ). left s depth t false ++ unless_cut (cut s.items depth t) l) (append_assoc x more (right s depth t))

  pub around_mark : (t : Typed) (m : PointerKind) (b : Bool) (x : List ℕ) → say s depth t (bracketed b (mark m ++ x)) ≡ (left s depth t false ++ unless_cut (cut s.items depth t) (when b (codes "(") ++ mark m)) ++ unless_cut (cut s.items depth t) (x ++ (when b (codes ")") ++ right s depth t))
  around_mark t m b x = deeper t (bracketed b (mark m ++ x))
      ∙ ap (λ (e : Bool). left s depth t e ++ unless_cut (cut s.items depth t) (bracketed b (mark m ++ x) ++ right s depth t)) (marked_some m b x)
      ∙ ap (λ (l : List ℕ). left s depth t false ++ unless_cut (cut s.items depth t) (l ++ right s depth t)) (bracketed_is m b x)
      ∙ around (cut s.items depth t) (left s depth t false) (when b (codes "(") ++ mark m) x (when b (codes ")")) (right s depth t)

  worded_some : (q : Qualifier) (x : List ℕ) → is_empty (worded (qualifier q) x) ≡ false
  worded_some Const x = refl
  worded_some Volatile x = refl
  worded_some Restrict x = refl
  worded_some Atomic x = refl

  with_pointer : (t : Typed) (q : Qualifier) (x : List ℕ) → say s depth t (worded (qualifier q) x) ≡ (left s depth t false ++ unless_cut (cut s.items depth t) (word_before (qualifier q) (is_empty x))) ++ unless_cut (cut s.items depth t) (x ++ right s depth t)
  with_pointer t q x = deeper t (worded (qualifier q) x)
      ∙ ap (λ (e : Bool). left s depth t e ++ unless_cut (cut s.items depth t) (worded (qualifier q) x ++ right s depth t)) (worded_some q x)
      ∙ ap (λ (l : List ℕ). left s depth t false ++ unless_cut (cut s.items depth t) (l ++ right s depth t)) (worded_in_order (qualifier q) x)
      ∙ around (cut s.items depth t) (left s depth t false) (word_before (qualifier q) (is_empty x)) x [] (right s depth t)

  before_type : (t : Typed) (q : Qualifier) (x : List ℕ) → qualifier q ++ (codes " " ++ say s depth t x) ≡ (qualifier q ++ (codes " " ++ left s depth t (is_empty x))) ++ unless_cut (cut s.items depth t) (x ++ right s depth t)
  before_type t q x = let more = unless_cut (cut s.items depth t) (x ++ right s depth t) in
      ap (λ (l : List ℕ). qualifier q ++ (codes " " ++ l)) (deeper t x)
      ∙ ap (λ (l : List ℕ). qualifier q ++ l) (sym (append_assoc (codes " ") (left s depth t (is_empty x)) more))
      ∙ sym (append_assoc (qualifier q) (codes " " ++ left s depth t (is_empty x)) more)

  qualified_in_order : (t : Typed) (q : Qualifier) (k : Option Kind) (x : List ℕ) → qualified (say s depth t) q k x ≡ qualified_left (left s depth) (cut s.items depth t) t q k (is_empty x) ++ unless_cut (cut s.items depth t) (x ++ right s depth t)
  qualified_in_order t q None x = before_type t q x
  qualified_in_order t q (Some Named) x = before_type t q x
  qualified_in_order t q (Some (Tagged w)) x = before_type t q x
  qualified_in_order t q (Some (Marked Pointer)) x = with_pointer t q x
  qualified_in_order t q (Some (Marked Reference)) x = before_type t q x
  qualified_in_order t q (Some (Marked RvalueReference)) x = before_type t q x
  qualified_in_order t q (Some (Qualified r)) x = before_type t q x
  qualified_in_order t q (Some Array) x = before_type t q x
  qualified_in_order t q (Some Function) x = before_type t q x
  qualified_in_order t q (Some Other) x = before_type t q x

  kind_in_order : (i : ℕ) (e : EntryAt) (k : Kind) (x : List ℕ) → say_kind (say s depth) s i e k x ≡ kind_left (left s depth) (cut s.items depth) s i e k (is_empty x) ++ unless_cut (kind_cut (cut s.items depth) s.items i e k) (x ++ kind_right (right s depth) (say s depth) s i e k)
  kind_in_order i e Named x = worded_in_order (unwrap_or (name_of s i e) (codes "<noname>")) x
  kind_in_order i e (Tagged k) x = worded_in_order (keyword k ++ unwrap_or (name_of s i e) (codes "{...}")) x
  kind_in_order i e (Marked m) x = around_mark (type_of s.items i e) m (is_bracketed (under_type (under s.items 64) s.items (type_of s.items i e))) x
  kind_in_order i e (Qualified q) x = qualified_in_order (type_of s.items i e) q (under s.items 64 i e) x
  kind_in_order i e Array x = behind (type_of s.items i e) x (dimensions e) (unless_empty_some x (dimensions_of (children_of e)))
  kind_in_order i e Function x = behind (type_of s.items i e) x (parameters (λ p. say s depth (type_of s.items i p) []) e) (some_behind x 40 _)
  kind_in_order i e Other x = worded_in_order (codes "<tag>") x

  entry_in_order : (i : ℕ) (o : Option EntryAt) (x : List ℕ) → say_entry (say s depth) s i o x ≡ entry_left (left s depth) (cut s.items depth) s i o (is_empty x) ++ unless_cut (entry_cut (cut s.items depth) s.items i o) (x ++ entry_right (right s depth) (say s depth) s i o)
  entry_in_order i None x = worded_in_order (codes "<bad>") x
  entry_in_order i (Some e) x = kind_in_order i e (kind_of e) x

-- the text is the same in the order of its bytes
pub said_in_order : (s : Source) (depth : ℕ) (t : Typed) (x : List ℕ) → say s depth t x ≡ in_order s depth t x
said_in_order s zero t x = refl
said_in_order s (suc depth) Missing x = worded_in_order (codes "void") x
said_in_order s (suc depth) Bad x = worded_in_order (codes "<bad>") x
said_in_order s (suc depth) (Entry id) x = entry_in_order s depth (said_in_order s depth) id.item (entry s.items id) x
