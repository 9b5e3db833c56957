use Rattle.std.proofs.Common.{◌≡◌, IfOk, subst, ℕ, List}
use Rattle.pl_plan.specs.Trees.{parent_in}
use Rattle.pl_plan.proofs.Owned.{indexed_list}
use Rattle.pl_plan.proofs.plan.Plan.children.Goals as goal

pub returns-clause-rising : goal.returns-clause-rising
returns-clause-rising c = c.families.ensures.rising

pub returns-clause-ids : goal.returns-clause-ids
returns-clause-ids c =
    let tied = c.families.ensures in
    subst (λ (l : List ℕ). IfOk c.under.result (λ ids. ids.items ≡ l)) (indexed_list parent_in c.args.id c.args.self.now.activities c.families.result.now.children tied.rising tied.children c.under.ensures.rising) c.under.ensures.ids
