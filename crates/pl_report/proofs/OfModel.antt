-- What was read by the model of a journal fits the model that is planned for.
use Rattle.std.proofs.Common.{◌≡◌, List, sym, ◌∙◌, ap, subst}
use Rattle.std.specs.Prelude.{All}
use Rattle.pl_model.specs.declared.whole.Model.{Model}
use Rattle.pl_entry.specs.declared.entry.Entry.{Entry}
use Rattle.pl_machine.specs.World.{World}
use Rattle.pl_machine.specs.Legal.{IsHistory}
use Rattle.pl_machine.proofs.Models.{model_of_world}
use Rattle.pl_semantics.specs.declared.plan_state.PlanState.{PlanState}

pub items_fit : {X : Type 0} (fits : Model → X → Type 0) (m : Model) (log : List Entry) (w : World) (s : PlanState) (items : List X) → IsHistory m log w → s ≡ w.state → All (fits m) items → All (fits s.model) items
items_fit fits m log w s items history is all = subst (λ (k : Model). All (fits k) items) (sym (ap (λ (x : PlanState). x.model) is ∙ ap (λ (x : World). x.state.model) history.world ∙ model_of_world m log)) all
