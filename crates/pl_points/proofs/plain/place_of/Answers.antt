-- the points before a moment are a front of them all
use Rattle.std.proofs.Common.{rules}
use Rattle.std.proofs.lemmas.List.Sorted.{IsPartitionPoint-from_clause}
use Rattle.pl_points.specs.Points.{is_before}
use Rattle.pl_points.proofs.Parting.{parting}
use Rattle.pl_points.proofs.PointLists.{parted_points}
use Rattle.pl_points.proofs.plain.place_of.Goals as goal

pub returns-clause-before : goal.returns-clause-before
returns-clause-before c = (parting (is_before c.args.at) c.args.points.now c.partition_point.result c.partition_point.ensures.bound (parted_points c.args.at 0 c.args.points.now c.requires) (λ parted. IsPartitionPoint-from_clause (is_before c.args.at) _ _ c.partition_point.ensures.partitioned parted (λ a r q k. search rules))).0

pub returns-clause-rest : goal.returns-clause-rest
returns-clause-rest c = (parting (is_before c.args.at) c.args.points.now c.partition_point.result c.partition_point.ensures.bound (parted_points c.args.at 0 c.args.points.now c.requires) (λ parted. IsPartitionPoint-from_clause (is_before c.args.at) _ _ c.partition_point.ensures.partitioned parted (λ a r q k. search rules))).1
