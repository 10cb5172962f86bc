use Rattle.std.proofs.Common.{ℕ, ◌<◌, List, get_or, nat_lt, rules, ap, arith, inl, inr}
use Rattle.std.proofs.Math.Nat.{eq-or-lt_of_le}
use Rattle.std.proofs.lemmas.List.Sorted.{IsPartitionedBy-ltb, IsPartitionPoint-from_clause}
use Rattle.std.specs.List.Sorted.{IsNonDecreasingBy}
use Rattle.dw_tree.specs.declared.row.Row.{Row}
use Rattle.dw_tree.specs.Flat.{OffsetsGrow}
use Rattle.dw_tree.proofs.find.rows_before.Goals as goal

never_less : (rows : List Row) → OffsetsGrow rows → IsNonDecreasingBy (λ r. r.offset) rows
never_less rows up i j d le inside = elim (eq-or-lt_of_le {n = i} {m = j} le) [
  | inl same ↦ omega (arith, ap (λ (k : ℕ). (get_or rows k d).offset) same)
  | inr less ↦ (let grown : (get_or rows i d).offset < (get_or rows j d).offset = up i j d less inside in omega (arith, grown))
]

pub returns-clause-point : goal.returns-clause-point
returns-clause-point c = IsPartitionPoint-from_clause (λ r. nat_lt r.offset c.args.offset) c.args.rows.now c.partition_point.result c.partition_point.ensures.partitioned (IsPartitionedBy-ltb (λ r. r.offset) c.args.rows.now c.args.offset (never_less c.args.rows.now c.requires)) (λ x b f' k. search rules)
