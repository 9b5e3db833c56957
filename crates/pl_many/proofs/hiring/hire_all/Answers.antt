use Rattle.std.proofs.Common.{◌+◌, List, sym, subst, arith}
use Rattle.pl_many.specs.declared.member.Member.{Member}
use Rattle.pl_many.specs.Members.{workers_of, Crewed}
use Rattle.pl_many.proofs.Beginning.{crew_planner}
use Rattle.pl_many.proofs.hiring.hire_all.Goals as goal

pub loop-before-preserved : goal.loop-before-preserved
loop-before-preserved c =
    let before = c.loop-before.before in
    let so_far = c.loop-before.invariant in
    let hired = c.hire-in-loop-before in
    let pushed = c.push_reserved-in-loop-before.ensures in (
      subst (λ (members : List Member). Crewed c.args.plan.now c.args.seed (workers_of (before + 1)) c.args.first.now hired.new.first members) (sym pushed.items)
          (crew_planner c.args.plan.now c.args.seed before c.args.first.now c.loop-before.first hired.new.first c.loop-before.members.items hired.result so_far.0 hired.ensures.fresh hired.ensures.splits hired.ensures.who hired.ensures.new),
      (let len = pushed.len in let was = so_far.1 in omega (arith, len, was)),
      (let capacity = pushed.capacity in let room = so_far.2 in omega (arith, capacity, room)),
    )
