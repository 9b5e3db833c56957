use Rattle.std.proofs.Common.{◌≡◌, rules, to_z, of_z, w64}
use Rattle.pl_cand.proofs.Bounds.{near_max}
use Rattle.pl_cand.proofs.links.earliest.Goals as goal

pub returns-clause-near : goal.returns-clause-near
returns-clause-near c =
    let floor : to_z w64 (of_z w64 c.floor.result) ≡ c.floor.result = search rules in
    let behind : to_z w64 (of_z w64 c.behind.result) ≡ c.behind.result = search rules in
    let made : to_z w64 (of_z w64 c.max.result) ≡ c.max.result = search rules in
    let value = rw (floor, behind) at c.max.ensures.value in
    rw (made, value) (near_max c.floor.result c.behind.result c.floor.ensures.near c.behind.ensures.near)
