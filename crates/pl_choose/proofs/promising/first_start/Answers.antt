use Rattle.std.proofs.Common.{◌≡◌, ◌≤◌, ◌<◌, max, rules, arith}
use Rattle.std.proofs.lemmas.Grind.{common_steps}
use Rattle.pl_semantics.specs.PlanStates.{floor_of}
use Rattle.pl_cand.proofs.Checks.{present_most}
use Rattle.pl_choose.proofs.Promise.{goal_begins}
use Rattle.pl_choose.proofs.promising.first_start.Goals as goal

pub floor-requires : goal.floor-requires
floor-requires c = present_most c.args.state.now c.requires

pub returns-then-start-get : goal.returns-then-start-get
returns-then-start-get c =
    let s = c.args.state.now in
    let g = c.args.goal.now in
    let is : c.max-start.result ≡ max g.earliest (floor_of s) = first_of (cc (c.max-start.ensures, c.floor.ensures), search rules, grind (arith, common_steps)) in
    let le : c.max-start.result ≤ g.latest = first_of (omega arith, search rules, grind (arith, common_steps)) in
    let lt : c.max-start.result < s.model.horizon = first_of (search rules, omega arith, grind (arith, common_steps)) in
    goal_begins s g c.max-start.result is le lt
