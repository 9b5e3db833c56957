use Rattle.std.proofs.Common.{rules}
use Rattle.std.proofs.lemmas.List.Sorted.{IsPartitionPoint-from_clause}
use Rattle.pl_points.proofs.Parting.{parting}
use Rattle.pl_rate.specs.Orders.{is_upto}
use Rattle.pl_rate.proofs.InOrder.{parted_upto}
use Rattle.pl_rate.proofs.ordering.count_upto.Goals as goal

pub returns-clause-before : goal.returns-clause-before
returns-clause-before c = (parting (is_upto c.args.line) c.args.hinges.now c.partition_point.result c.partition_point.ensures.bound (parted_upto c.args.line 0 0 c.args.hinges.now c.requires) (λ parted. IsPartitionPoint-from_clause (is_upto c.args.line) _ _ c.partition_point.ensures.partitioned parted (λ a r q k. search rules))).0

pub returns-clause-rest : goal.returns-clause-rest
returns-clause-rest c = (parting (is_upto c.args.line) c.args.hinges.now c.partition_point.result c.partition_point.ensures.bound (parted_upto c.args.line 0 0 c.args.hinges.now c.requires) (λ parted. IsPartitionPoint-from_clause (is_upto c.args.line) _ _ c.partition_point.ensures.partitioned parted (λ a r q k. search rules))).1
