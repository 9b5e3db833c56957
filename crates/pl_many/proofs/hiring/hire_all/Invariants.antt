use Rattle.std.proofs.Common.{◌≡◌, ◌+◌, ◌≤◌, vec_len, vec_capacity}
use Rattle.pl_many.specs.Members.{workers_of, Crewed}
use Rattle.pl_many.proofs.hiring.hire_all.Given as goal

abbrev pub invariant-loop-before : goal.invariant-loop-before
invariant-loop-before l =
    Crewed l.plan l.seed (workers_of l.before) l.fn.first l.first l.members.items × (vec_len l.members ≡ l.before + 1) × (9 ≤ vec_capacity l.members)
