-- A tree that has a spelling is spelled by its structure alone.
use Rattle.std.proofs.Common.{◌≡◌, ℕ, zero, suc, List, [], ◌∷◌, ◌++◌, Bool, true, false, Some, None, refl, sym, ap, ap₂, ◌∙◌, append_assoc, append-nil}
use Rattle.dw_leb.specs.declared.errors.Reason.TheVariants.{TooDeep}
use Rattle.dw_leb.specs.Part.{judged, optional, refused}
use Rattle.dw_leb.specs.Number.{Unsigned, uleb}
use Rattle.dw_leb.specs.Repeat.{ItemsFit, items_bytes}
use Rattle.dw_form.specs.declared.shape.Ctx.{Ctx}
use Rattle.dw_abbrev.specs.Table.{Table, declared, is_null, zero_of}
use Rattle.dw_tree.specs.Tree.{Tree, leaf, branch, Forest, none, more, Body, node_of, nodes_of, values, declared_pairs, declares_children, bad_child, body, children, tree}
use Rattle.dw_tree.specs.Spelling.{tree_bytes, forest_bytes}

module _ (k : Ctx) (t : Table) where
  abbrev KidsSpelled : ℕ → Type 0
  KidsSpelled room =
      (ts : Forest) (end : Unsigned) → (children k t room).Fits (ts, end)
      → (children k t room).spell (ts, end) ≡ forest_bytes k t ts ++ uleb.spell end

  abbrev node_bytes : ℕ → Tree → List ℕ
  node_bytes room x = uleb.spell (node_of x).0 ++ (body k t (children k t room) (node_of x).0).spell (node_of x).1

  node_spelled : (room : ℕ) → KidsSpelled room → (x : Tree)
      → (body k t (children k t room) (node_of x).0).Fits (node_of x).1 → node_bytes room x ≡ tree_bytes k t x
  unfolding tree_bytes
  node_spelled room ih (leaf code vs) fits =
      let own = (values k (declared_pairs (declared t code.value))).spell vs in
      ap (λ (bs : List ℕ). uleb.spell code ++ (own ++ bs)) (by (declares_children (declared t code.value)))
      ∙ ap (λ (bs : List ℕ). uleb.spell code ++ bs) (append-nil own)
    where
      by : (b : Bool) → (optional b (children k t room)).spell None ≡ []
      by true = refl
      by false = refl
  node_spelled room ih (branch code vs ts w) fits =
      let own = (values k (declared_pairs (declared t code.value))).spell vs in
      ap (λ (bs : List ℕ). uleb.spell code ++ (own ++ bs)) (by (declares_children (declared t code.value)) fits.1)
      ∙ sym (append_assoc (uleb.spell code) own (forest_bytes k t ts ++ uleb.spell (zero_of w)))
    where
      by : (b : Bool) → (optional b (children k t room)).Fits (Some (ts, zero_of w))
          → (optional b (children k t room)).spell (Some (ts, zero_of w))
          ≡ forest_bytes k t ts ++ uleb.spell (zero_of w)
      by true h = ih ts (zero_of w) h
      by false h = absurd h

  nodes_spelled : (room : ℕ) → KidsSpelled room → (before : List (Unsigned × Body)) (ts : Forest) (end : Unsigned)
      → ItemsFit (λ _. judged uleb (bad_child t true)) is_null (body k t (children k t room)) before (nodes_of ts) end
      → items_bytes (λ _. judged uleb (bad_child t true)) is_null (body k t (children k t room)) before (nodes_of ts)
      end
      ≡ forest_bytes k t ts ++ uleb.spell end
  unfolding tree_bytes
  nodes_spelled room ih before none end fits = refl
  nodes_spelled room ih before (more x ts) end fits =
      ap₂ (λ (bs cs : List ℕ). bs ++ cs) (node_spelled room ih x fits.0.2)
      (nodes_spelled room ih (before ++ node_of x ∷ []) ts end fits.1)
      ∙ sym (append_assoc (tree_bytes k t x) (forest_bytes k t ts) (uleb.spell end))

  kids_spelled : (room : ℕ) → KidsSpelled room
  unfolding children tree_bytes
  kids_spelled zero = λ ts end fits. by ts end fits
    where
      by : (ts : Forest) (end : Unsigned)
          → ItemsFit (λ _. judged uleb (bad_child t false)) is_null (λ _. refused TooDeep) [] (nodes_of ts) end
          → items_bytes (λ _. judged uleb (bad_child t false)) is_null (λ _. refused {X = Body} TooDeep) []
          (nodes_of ts) end
          ≡ forest_bytes k t ts ++ uleb.spell end
      by none end fits = refl
      by (more x ts) end fits = absurd fits.0.2
  kids_spelled (suc room) = λ ts end fits. nodes_spelled room (kids_spelled room) [] ts end fits

  pub spelled_by_structure : (room : ℕ) (x : Tree) → (tree k t room).Fits x → (tree k t room).spell x ≡ tree_bytes k t x
  spelled_by_structure room x fits = node_spelled room (kids_spelled room) x fits.1
