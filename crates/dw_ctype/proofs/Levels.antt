-- One level of a text, and a text by its parts.
use Rattle.std.proofs.Common.{◌≡◌, ◌∙◌, ◌-◌, ◌<◌, ℕ, zero, suc, Bool, true, false, List, [], ◌∷◌, ◌++◌, length, Option, Some, refl, sym, ap, append-nil, arith}
use Rattle.std.specs.Prelude.{◌==◌}
use Rattle.std.proofs.lemmas.Bool.{ne_eqb}
use Rattle.dw_tree.specs.Lent.{EntryAt}
use Rattle.dw_section.specs.Item.{Item}
use Rattle.dw_section.specs.Lookup.{entry}
use Rattle.dw_section.specs.declared.id.EntryId.{EntryId}
use Rattle.dw_ctype.specs.declared.typed.Typed.{Typed}
use Rattle.dw_ctype.specs.declared.typed.Typed.TheVariants.{Entry}
use Rattle.dw_ctype.specs.Types.{Source, kind_of, say}
use Rattle.dw_ctype.specs.InOrder.{cut, type_cut, is_empty, left, type_left, unless_cut, right, kind_right, entry_right, type_right}
use Rattle.dw_ctype.proofs.InOrder.{said_in_order}

pub left_next : (s : Source) (depth : ℕ) (t : Typed) (empty : Bool) → 0 < depth → type_left (left s (depth - 1)) (cut s.items (depth - 1)) s t empty ≡ left s depth t empty
left_next s zero t empty h = absurd (omega (arith, h))
left_next s (suc depth) t empty h = let same : suc depth - 1 ≡ depth = omega arith in ap (λ (d : ℕ). type_left (left s d) (cut s.items d) s t empty) same

pub cut_next : (items : List Item) (depth : ℕ) (t : Typed) → 0 < depth → type_cut (cut items (depth - 1)) items t ≡ cut items depth t
cut_next items zero t h = absurd (omega (arith, h))
cut_next items (suc depth) t h = let same : suc depth - 1 ≡ depth = omega arith in ap (λ (d : ℕ). type_cut (cut items d) items t) same

pub right_next : (s : Source) (depth : ℕ) (t : Typed) → 0 < depth → type_right (right s (depth - 1)) (say s (depth - 1)) s t ≡ right s depth t
right_next s zero t h = absurd (omega (arith, h))
right_next s (suc depth) t h = let same : suc depth - 1 ≡ depth = omega arith in ap (λ (d : ℕ). type_right (right s d) (say s d) s t) same

pub right_of : (s : Source) (depth : ℕ) (t : Typed) (id : EntryId) (e : EntryAt) → 0 < depth → t ≡ Entry id → entry s.items id ≡ Some e
    → kind_right (right s (depth - 1)) (say s (depth - 1)) s id.item e (kind_of e) ≡ right s depth t
right_of s depth t id e deep is there =
    let deeper = right s (depth - 1) in
    let said = say s (depth - 1) in
    sym (ap (λ (o : Option EntryAt). entry_right deeper said s id.item o) there) ∙ sym (ap (type_right deeper said s) is) ∙ right_next s depth t deep

-- ---- a text by its parts

pub emptiness : (x : List ℕ) → (length x == 0) ≡ is_empty x
emptiness [] = refl
emptiness (b ∷ bs) = ne_eqb (length (b ∷ bs)) 0 (λ h. omega (arith, h))

module _ (s : Source) (depth : ℕ) (t : Typed) (x : List ℕ) (empty : Bool) (is : empty ≡ (length x == 0)) where
  pub said : left s depth t empty ++ unless_cut (cut s.items depth t) (x ++ right s depth t) ≡ say s depth t x
  said = ap (λ (e : Bool). left s depth t e ++ unless_cut (cut s.items depth t) (x ++ right s depth t)) (is ∙ emptiness x) ∙ sym (said_in_order s depth t x)

  pub said_cut : true ≡ cut s.items depth t → left s depth t empty ≡ say s depth t x
  said_cut h = sym (append-nil (left s depth t empty)) ∙ ap (λ (c : Bool). left s depth t empty ++ unless_cut c (x ++ right s depth t)) h ∙ said

  pub said_whole : false ≡ cut s.items depth t → left s depth t empty ++ (x ++ right s depth t) ≡ say s depth t x
  said_whole h = ap (λ (c : Bool). left s depth t empty ++ unless_cut c (x ++ right s depth t)) h ∙ said
