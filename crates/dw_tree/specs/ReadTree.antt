-- Entries and padding read by a plain, slow reader.
use Rattle.std.specs.Prelude.{ℕ, zero, suc, true, false, List, [], ◌∷◌, Some, None, ◌==◌, if◌then◌else◌}
use Rattle.dw_leb.specs.declared.errors.Reason.TheVariants.{TooDeep}
use Rattle.dw_leb.specs.Number.{Unsigned}
use Rattle.dw_leb.specs.Reader.{Found, Reader, made, checked, returned, failing, read_optional, read_repeated, ◌and_then◌}
use Rattle.dw_leb.specs.ReadNumber.{read_uleb}
use Rattle.dw_form.specs.declared.shape.Ctx.{Ctx}
use Rattle.dw_form.specs.Form.{Attribute}
use Rattle.dw_form.specs.ReadForm.{read_attribute}
use Rattle.dw_abbrev.specs.Table.{Pair, Table, declared, is_null}
use Rattle.dw_tree.specs.Tree.{Tree, leaf, branch, Forest, none, more, Body, declared_pairs, declares_children, bad_root, bad_child, not_null}

abbrev pub node_from : Unsigned × Body → Tree
node_from (code, (values, None)) = leaf code values
node_from (code, (values, Some (children, null))) = branch code values children null.width

abbrev pub nodes_from : List (Unsigned × Body) → Forest
nodes_from [] = none
nodes_from (x ∷ xs) = more (node_from x) (nodes_from xs)

abbrev pub read_values : Ctx → List Pair → Reader (List Attribute)
read_values k [] = returned []
read_values k (p ∷ ps) =
    made (λ x. x.0 ∷ x.1) ((read_attribute k p.form.value p.constant) and_then λ _. read_values k ps)

abbrev pub read_body : Ctx → Table → Reader (Forest × Unsigned) → Unsigned → Reader Body
read_body k t kids code =
    read_values k (declared_pairs (declared t code.value)) and_then
    λ _. read_optional (declares_children (declared t code.value)) kids

unfoldable pub read_children : Ctx → Table → ℕ → Reader (Forest × Unsigned)
read_children k t zero =
    made (λ x. (nodes_from x.0, x.1))
    (read_repeated (λ _. checked read_uleb (bad_child t false)) is_null (λ _. failing TooDeep))
read_children k t (suc room) =
    made (λ x. (nodes_from x.0, x.1))
    (read_repeated (λ _. checked read_uleb (bad_child t true)) is_null (read_body k t (read_children k t room)))

unfoldable pub read_tree : Ctx → Table → ℕ → Reader Tree
read_tree k t room = made node_from (checked read_uleb (bad_root t) and_then read_body k t (read_children k t room))

-- nulls up to the unit's end
abbrev pub read_padding : ℕ → Reader (List ℕ)
read_padding zero bytes lim = Found [] 0
read_padding (suc fuel) bytes lim =
    if lim == 0 then Found [] 0
    else made (λ x. x.0.width ∷ x.1) (checked read_uleb not_null and_then λ _. read_padding fuel) bytes lim
