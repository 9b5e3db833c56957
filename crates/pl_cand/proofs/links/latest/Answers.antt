use Rattle.std.proofs.Common.{◌≡◌, rules, to_z, of_z, w64}
use Rattle.pl_cand.proofs.Bounds.{near_min}
use Rattle.pl_cand.proofs.links.latest.Goals as goal

pub returns-clause-near : goal.returns-clause-near
returns-clause-near c =
    let last : to_z w64 (of_z w64 c.last.result) ≡ c.last.result = search rules in
    let behind : to_z w64 (of_z w64 c.behind.result) ≡ c.behind.result = search rules in
    let made : to_z w64 (of_z w64 c.min.result) ≡ c.min.result = search rules in
    let value = rw (last, behind) at c.min.ensures.value in
    rw (made, value) (near_min c.last.result c.behind.result c.last.ensures.near c.behind.ensures.near)
