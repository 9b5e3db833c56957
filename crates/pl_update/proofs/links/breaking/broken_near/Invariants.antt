use Rattle.std.proofs.Common.{◌≡◌, take, filter}
use Rattle.std.specs.List.{flat_map}
use Rattle.pl_links.specs.Sets.{is_of}
use Rattle.pl_update.proofs.links.breaking.broken_near.Given as goal

abbrev pub invariant-loop-id : goal.invariant-loop-id
invariant-loop-id l = l.all.items ≡ flat_map (λ id. filter (is_of id) l.links.broken) (take l.id-index l.ids)
