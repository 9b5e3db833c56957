use Rattle.std.proofs.Common.{ℕ, List, ap, ◌∙◌}
use Rattle.pl_semantics.specs.PlanStates.{among}
use Rattle.pl_update.proofs.links.near.near.Goals as goal

pub returns : goal.returns
returns c = λ n. c.each_once.ensures.same n ∙ ap (λ (l : List ℕ). among n l) c.in_ok-ids.ensures
