-- The place at which the search ends parts the choices.
use Rattle.std.proofs.{Common.{nat_lt, rules}, lemmas.List.Sorted.{IsPartitionPoint-from_clause, IsPartitionedBy-ltb}}
use Rattle.kc_tree.specs.declared.rows.Choice.{Choice}
use Rattle.kc_tree.proofs.layout.begun_before.Goals as goal

pub returns-clause-point : goal.returns-clause-point
returns-clause-point c =
    let parted = IsPartitionedBy-ltb (λ (x : Choice). x.entry.0) _ c.args.at.0 c.requires in
    IsPartitionPoint-from_clause (λ (x : Choice). nat_lt x.entry.0 c.args.at.0) _ _ c.partition_point.ensures.partitioned parted (λ a r q k. search rules)
