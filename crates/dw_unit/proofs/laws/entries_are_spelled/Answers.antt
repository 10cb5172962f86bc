use Rattle.std.proofs.Common.{◌≡◌, ◌+◌, ◌-◌, ◌++◌, ℕ, List, length, refl, sym, ap, ◌∙◌, append_assoc, arith}
use Rattle.std.proofs.lemmas.List.{length-append}
use Rattle.dw_leb.specs.Number.{length_field}
use Rattle.dw_leb.specs.DecideNumber.{initial-size}
use Rattle.dw_header.specs.Header.{fields, fields_of, context_of}
use Rattle.dw_tree.specs.Paths.{lent_among}
use Rattle.dw_tree.specs.Spelling.{tree_bytes}
use Rattle.dw_tree.specs.Structure.{spelled_by_structure}
use Rattle.dw_tree.specs.Tree.{nesting, nulls}
use Rattle.dw_unit.specs.Unit.{body_bytes, bytes_of, tree_of}
use Rattle.dw_unit.proofs.UnitWritten.{head_bytes, root_bytes, parted}
use Rattle.dw_unit.proofs.laws.entries_are_spelled.Goals as goal

pub returns : goal.returns
returns c = λ u e fits lent.
    let among = lent_among (tree_of u) e lent in
    let own = tree_bytes e.context e.table e.node in
    let head = head_bytes u (length (body_bytes u)) in
    let root : root_bytes u ≡ among.0 ++ (own ++ among.1) = spelled_by_structure (context_of u.header) u.table (nesting - 1) u.root fits.tree_fits ∙ among.2 in
    let split : bytes_of u ≡ (head ++ among.0) ++ (own ++ (among.1 ++ nulls u.padding)) =
    sym (parted u (length (body_bytes u)) refl)
    ∙ ap (λ (b : List ℕ). head ++ (b ++ nulls u.padding)) root
    ∙ ap (λ (b : List ℕ). head ++ b) (append_assoc among.0 (own ++ among.1) (nulls u.padding) ∙ ap (λ (b : List ℕ). among.0 ++ b) (append_assoc own among.1 (nulls u.padding)))
    ∙ sym (append_assoc head among.0 (own ++ (among.1 ++ nulls u.padding))) in
    let l = (length_field u.header.order).spell (u.header.format, length (body_bytes u)) in
    let f = (fields u.header.order u.header.format).spell (fields_of u.header) in
    let at : length (head ++ among.0) ≡ e.offset = omega (arith, among.3, length-append head among.0, length-append l f, initial-size u.header.order 0 u.header.format (length (body_bytes u))) in
    (head ++ among.0, own, among.1 ++ nulls u.padding, split, refl, at, ap (λ (n : ℕ). n + length own) at)
