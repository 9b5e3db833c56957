use Rattle.std.proofs.Common.{ap, ◌∙◌, ℕ, List}
use Rattle.std.specs.Prelude.{slice_get}
use Rattle.pl_plan.specs.Serving.{served_in}
use Rattle.pl_plan.proofs.Owned.{indexed_list}
use Rattle.pl_plan.proofs.plan.Plan.server.Goals as goal

pub returns : goal.returns
returns c =
    let tied = c.families.ensures in
    c.first_under.ensures.first ∙ ap (λ (l : List ℕ). slice_get l 0) (indexed_list served_in c.args.goal c.args.self.now.activities c.families.result.now.servers tied.rising tied.servers c.first_under.ensures.rising)
