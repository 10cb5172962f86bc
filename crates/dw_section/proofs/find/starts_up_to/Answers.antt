use Rattle.std.proofs.Common.{nat_le, rules}
use Rattle.std.proofs.lemmas.List.Sorted.{IsPartitionedBy-leb, IsPartitionPoint-from_clause}
use Rattle.dw_section.proofs.find.starts_up_to.Goals as goal

pub returns-clause-point : goal.returns-clause-point
returns-clause-point c = IsPartitionPoint-from_clause (λ y. nat_le y c.args.offset) c.args.starts.now c.partition_point.result c.partition_point.ensures.partitioned (IsPartitionedBy-leb (λ x. x) c.args.starts.now c.args.offset c.requires) (λ x b f' k. search rules)
