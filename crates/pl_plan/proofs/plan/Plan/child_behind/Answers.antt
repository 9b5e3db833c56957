use Rattle.std.proofs.Common.{ap, ◌∙◌, ℕ, List, ltb}
use Rattle.std.specs.Prelude.{find}
use Rattle.pl_plan.specs.Trees.{parent_in}
use Rattle.pl_plan.proofs.Owned.{indexed_list}
use Rattle.pl_plan.proofs.plan.Plan.child_behind.Goals as goal

pub returns : goal.returns
returns c =
    let tied = c.families.ensures in
    c.next_under.ensures.next ∙ ap (λ (l : List ℕ). find (ltb c.args.behind) l) (indexed_list parent_in c.args.id c.args.self.now.activities c.families.result.now.children tied.rising tied.children c.next_under.ensures.rising)
