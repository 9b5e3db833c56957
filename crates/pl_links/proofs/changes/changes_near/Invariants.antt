use Rattle.std.proofs.Common.{◌≡◌, ◌++◌, drop, filter, ℕ}
use Rattle.std.specs.Prelude.{◌&&◌, not}
use Rattle.pl_links.specs.declared.broken.Broken.{Broken}
use Rattle.pl_links.specs.Filed.{left}
use Rattle.pl_links.specs.Sets.{has}
use Rattle.pl_links.specs.Standing.{stands}
use Rattle.pl_links.proofs.changes.changes_near.Given as goal

abbrev pub invariant-loop-broken : goal.invariant-loop-broken
invariant-loop-broken l =
    (l.changes.came.items ++ filter (λ (b : Broken). stands l.model (left l.gone l.store) b && not (has b l.listed.keys)) (drop l.broken-index l.near) ≡ filter (λ (b : Broken). stands l.model (left l.gone l.store) b && not (has b l.listed.keys)) l.near)
    × (l.changes.went.items ++ filter (λ (b : Broken). not (stands l.model (left l.gone l.store) b) && has b l.listed.keys) (drop l.broken-index l.near) ≡ filter (λ (b : Broken). not (stands l.model (left l.gone l.store) b) && has b l.listed.keys) l.near)
