use Rattle.std.proofs.Common.{◌≡◌, IfOk, subst, ℕ, List}
use Rattle.pl_plan.specs.Serving.{served_in}
use Rattle.pl_plan.proofs.Owned.{indexed_list}
use Rattle.pl_plan.proofs.plan.Plan.serving.Goals as goal

pub returns : goal.returns
returns c =
    let tied = c.families.ensures in
    subst (λ (l : List ℕ). IfOk c.under.result (λ ids. ids.items ≡ l)) (indexed_list served_in c.args.goal c.args.self.now.activities c.families.result.now.servers tied.rising tied.servers c.under.ensures.rising) c.under.ensures.ids
