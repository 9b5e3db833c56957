use Rattle.std.proofs.Common.{rules}
use Rattle.std.proofs.lemmas.List.Sorted.{IsPartitionPoint-from_clause}
use Rattle.pl_points.proofs.Parting.{parting}
use Rattle.pl_state.specs.Keys.{key_before}
use Rattle.pl_state.proofs.Keys.{parted_before}
use Rattle.pl_state.proofs.key.count_before.Goals as goal

pub returns-clause-front : goal.returns-clause-front
returns-clause-front g c = (parting (λ x. key_before (g.T.Keyed.key x) c.args.key) c.args.list.now c.partition_point.result c.partition_point.ensures.bound (parted_before g.T.Keyed.key c.args.key c.args.list.now c.requires) (λ parted. IsPartitionPoint-from_clause (λ x. key_before (g.T.Keyed.key x) c.args.key) _ _ c.partition_point.ensures.partitioned parted (λ a r q k. search rules))).0

pub returns-clause-rest : goal.returns-clause-rest
returns-clause-rest g c = (parting (λ x. key_before (g.T.Keyed.key x) c.args.key) c.args.list.now c.partition_point.result c.partition_point.ensures.bound (parted_before g.T.Keyed.key c.args.key c.args.list.now c.requires) (λ parted. IsPartitionPoint-from_clause (λ x. key_before (g.T.Keyed.key x) c.args.key) _ _ c.partition_point.ensures.partitioned parted (λ a r q k. search rules))).1
