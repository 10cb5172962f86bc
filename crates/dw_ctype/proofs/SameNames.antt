-- Where the same texts can be read, the texts of types are the same.
use Rattle.std.proofs.Common.{◌≡◌, ◌∙◌, ℕ, zero, suc, Bool, true, false, List, [], ◌∷◌, ◌++◌, Option, Some, None, refl, ap}
use Rattle.std.specs.Prelude.{Ok, Err, codes, unwrap_or, ◌==◌, if◌then◌else◌}
use Rattle.dw_form.specs.Form.{Value}
use Rattle.dw_tree.specs.Lent.{EntryAt, LentAttribute, children_of}
use Rattle.dw_unit.specs.Unit.{WholeUnit}
use Rattle.dw_section.specs.Item.{Item}
use Rattle.dw_section.specs.Lookup.{unit_at, entry}
use Rattle.dw_strings.specs.SamePlaces.{placed_same}
use Rattle.dw_strings.specs.Text.{StringSections, Placed, Own, InStr, InLineStr, named_place, text_if_placed, named_text}
use Rattle.dw_ctype.specs.declared.kind.PointerKind.TheVariants.{Pointer, Reference, RvalueReference}
use Rattle.dw_ctype.specs.declared.kind.Qualifier.{Qualifier}
use Rattle.dw_ctype.specs.declared.kind.Kind.{Kind}
use Rattle.dw_ctype.specs.declared.kind.Kind.TheVariants.{Named, Tagged, Marked, Qualified, Array, Function, Other}
use Rattle.dw_ctype.specs.declared.typed.Typed.{Typed}
use Rattle.dw_ctype.specs.declared.typed.Typed.TheVariants.{Missing, Bad, Entry}
use Rattle.dw_ctype.specs.SameTexts.{SameTexts}
use Rattle.dw_ctype.specs.Names.{keyword, qualifier}
use Rattle.dw_ctype.specs.Types.{Source, readable, named_by, name_of, first, tag, kind_of, type_of, worded, marked, under, under_type, dimensions, is_prototyped, joined, parameters, parameter_texts, qualified, say, say_kind, say_entry}

-- ---- names

module _ (items : List Item) (one other : StringSections) (same : SameTexts one other) where
  abbrev pub here : Source
  here = record { items = items; strings = one }

  abbrev pub there : Source
  there = record { items = items; strings = other }

  in_place : (p : Placed) → readable (text_if_placed one p) ≡ readable (text_if_placed other p)
  in_place (Err why) = refl
  in_place (Ok (Own bytes)) = refl
  in_place (Ok (InStr offset)) = same.str offset
  in_place (Ok (InLineStr offset)) = same.line_str offset

  text_same : (u : WholeUnit) (form : ℕ) (value : Value) → readable (named_text one u form value) ≡ readable (named_text other u form value)
  text_same u form value = in_place (named_place one u form value) ∙ ap (λ (p : Placed). readable (text_if_placed other p)) (placed_same one other same.str_offsets u form value)

  named_same : (u : Option WholeUnit) (a : Option LentAttribute) → named_by here u a ≡ named_by there u a
  named_same None None = refl
  named_same (Some u) None = refl
  named_same None (Some a) = refl
  named_same (Some u) (Some a) = text_same u a.form a.attr.value

  name_same : (i : ℕ) (e : EntryAt) → name_of here i e ≡ name_of there i e
  name_same i e = named_same (unit_at items i) (first 0x03 e)

  -- ---- texts, where those one level deeper are the same

  module _ (depth : ℕ) (deeper : (t : Typed) (x : List ℕ) → say here depth t x ≡ say there depth t x) where
    parameters_same : (i : ℕ) (es : List EntryAt) → parameter_texts (λ p. say here depth (type_of items i p) []) es ≡ parameter_texts (λ p. say there depth (type_of items i p) []) es
    parameters_same i [] = refl
    parameters_same i (e ∷ es) = by _ _ (parameters_same i es) (tag e == 0x05) (tag e == 0x18)
      where
        by : (xs ys : List (List ℕ)) → xs ≡ ys → (formal unspecified : Bool) → (if formal then say here depth (type_of items i e) [] ∷ xs else (if unspecified then codes "..." ∷ xs else xs)) ≡ (if formal then say there depth (type_of items i e) [] ∷ ys else (if unspecified then codes "..." ∷ ys else ys))
        by xs ys rest true unspecified = rw (deeper (type_of items i e) [], rest) refl
        by xs ys rest false true = ap (λ (l : List (List ℕ)). codes "..." ∷ l) rest
        by xs ys rest false false = rest

    function_same : (i : ℕ) (e : EntryAt) → parameters (λ p. say here depth (type_of items i p) []) e ≡ parameters (λ p. say there depth (type_of items i p) []) e
    function_same i e = ap (λ (l : List (List ℕ)). codes "(" ++ (joined (is_prototyped (first 0x27 e)) l ++ codes ")")) (parameters_same i (children_of e))

    before : (t : Typed) (q : Qualifier) (x : List ℕ) → qualifier q ++ (codes " " ++ say here depth t x) ≡ qualifier q ++ (codes " " ++ say there depth t x)
    before t q x = ap (λ (l : List ℕ). qualifier q ++ (codes " " ++ l)) (deeper t x)

    qualified_same : (t : Typed) (q : Qualifier) (k : Option Kind) (x : List ℕ) → qualified (say here depth t) q k x ≡ qualified (say there depth t) q k x
    qualified_same t q (Some (Marked Pointer)) x = deeper t (worded (qualifier q) x)
    qualified_same t q (Some (Marked Reference)) x = before t q x
    qualified_same t q (Some (Marked RvalueReference)) x = before t q x
    qualified_same t q None x = before t q x
    qualified_same t q (Some Named) x = before t q x
    qualified_same t q (Some (Tagged w)) x = before t q x
    qualified_same t q (Some (Qualified r)) x = before t q x
    qualified_same t q (Some Array) x = before t q x
    qualified_same t q (Some Function) x = before t q x
    qualified_same t q (Some Other) x = before t q x

    kind_same : (i : ℕ) (e : EntryAt) (k : Kind) (x : List ℕ) → say_kind (say here depth) here i e k x ≡ say_kind (say there depth) there i e k x
    kind_same i e Named x = ap (λ (name : Option (List ℕ)). worded (unwrap_or name (codes "<noname>")) x) (name_same i e)
    kind_same i e (Tagged k) x = ap (λ (name : Option (List ℕ)). worded (keyword k ++ unwrap_or name (codes "{...}")) x) (name_same i e)
    kind_same i e (Marked m) x = deeper (type_of items i e) (marked m (under_type (under items 64) items (type_of items i e)) x)
    kind_same i e (Qualified q) x = qualified_same (type_of items i e) q (under items 64 i e) x
    kind_same i e Array x = deeper (type_of items i e) (x ++ dimensions e)
    kind_same i e Function x = deeper (type_of items i e) _ ∙ ap (λ (l : List ℕ). say there depth (type_of items i e) (x ++ l)) (function_same i e)
    kind_same i e Other x = refl

    entry_same : (i : ℕ) (o : Option EntryAt) (x : List ℕ) → say_entry (say here depth) here i o x ≡ say_entry (say there depth) there i o x
    entry_same i None x = refl
    entry_same i (Some e) x = kind_same i e (kind_of e) x

  pub said_same : (depth : ℕ) (t : Typed) (x : List ℕ) → say here depth t x ≡ say there depth t x
  said_same zero t x = refl
  said_same (suc depth) Missing x = refl
  said_same (suc depth) Bad x = refl
  said_same (suc depth) (Entry id) x = entry_same depth (said_same depth) id.item (entry items id) x
