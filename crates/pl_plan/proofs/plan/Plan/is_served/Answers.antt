use Rattle.std.proofs.Common.{is_some, ltb, ap, ◌∙◌}
use Rattle.pl_plan.specs.Serving.{serves}
use Rattle.pl_plan.proofs.Counting.{any_counted}
use Rattle.pl_plan.proofs.Owned.{any_chosen}
use Rattle.pl_plan.proofs.plan.Plan.is_served.Goals as goal

pub returns-in-Some : goal.returns-in-Some
returns-in-Some c =
    let xs = c.args.self.now.activities in
    let counted = rw c.in-Some.is at c.get.ensures in
    ap (ltb 0) (counted.1 ∙ c.counts.ensures c.args.goal counted.0) ∙ any_counted (serves c.args.goal) xs

pub returns-in-None : goal.returns-in-None
returns-in-None c = c.is_some.ensures ∙ (ap is_some c.server.ensures ∙ any_chosen (serves c.args.goal) c.args.self.now.activities)
