-- The one spelling of a unit, in the parts in which it is written.
use Rattle.std.proofs.Common.{◌≡◌, ◌-◌, ℕ, List, ◌++◌, length, ap, ◌∙◌, append_assoc, arith}
use Rattle.std.proofs.lemmas.List.{length-append}
use Rattle.dw_leb.specs.Number.{length_field, length_size}
use Rattle.dw_leb.specs.DecideNumber.{initial-size}
use Rattle.dw_header.specs.Header.{fields, fields_of, context_of}
use Rattle.dw_tree.specs.Tree.{nulls, unit_tree}
use Rattle.dw_unit.specs.Unit.{WholeUnit, body_bytes, bytes_of}

-- the length field counts what follows it
pub counted : (u : WholeUnit) (size : ℕ) → length (bytes_of u) ≡ size → size - length_size u.header.format ≡ length (body_bytes u)
counted u size sized =
    let body = body_bytes u in
    let first = (length_field u.header.order).spell (u.header.format, length body) in
    omega (arith, sized, length-append first body, initial-size u.header.order 0 u.header.format (length body))

abbrev pub head_bytes : WholeUnit → ℕ → List ℕ
head_bytes u n = (length_field u.header.order).spell (u.header.format, n) ++ (fields u.header.order u.header.format).spell (fields_of u.header)

abbrev pub root_bytes : WholeUnit → List ℕ
root_bytes u = (unit_tree (context_of u.header) u.table).spell u.root

pub parted : (u : WholeUnit) (n : ℕ) → n ≡ length (body_bytes u) → head_bytes u n ++ (root_bytes u ++ nulls u.padding) ≡ bytes_of u
parted u n is =
    let f = (fields u.header.order u.header.format).spell (fields_of u.header) in
    let rest = root_bytes u ++ nulls u.padding in
    append_assoc ((length_field u.header.order).spell (u.header.format, n)) f rest
    ∙ ap (λ (m : ℕ). (length_field u.header.order).spell (u.header.format, m) ++ (f ++ rest)) is
