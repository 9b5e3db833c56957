use Rattle.std.proofs.Common.{ℕ, List, map, ap, ◌∙◌}
use Rattle.pl_plan.specs.declared.activity.Activity.{Activity}
use Rattle.pl_plan.specs.Trees.{id_of}
use Rattle.pl_semantics.specs.declared.plan_state.PlanState.{PlanState}
use Rattle.pl_moves.specs.Undone.{picked}
use Rattle.pl_moves.proofs.Made.{named_live, near_if}
use Rattle.pl_moves.proofs.Returning.{undone_by}
use Rattle.pl_moves.proofs.trial.trial_of.Goals as goal

pub change_of-requires-clause-named : goal.change_of-requires-clause-named
change_of-requires-clause-named c = named_live c.args.s.now c.args.mv.now c.requires.proper

pub change_of-requires-clause-near : goal.change_of-requires-clause-near
change_of-requires-clause-near c = near_if c.args.s.now c.requires.whole c.args.mv.now c.requires.proper c.requires.allowed

pub returns : goal.returns
returns c =
    let s : PlanState = c.args.s.now in
    record {
      whole = c.requires.whole;
      undone = rw (c.in_ok-undo.ensures.gone, c.in_ok-undo.ensures.placed, c.in_ok-change.ensures.gone, c.in_ok-change.ensures.placed) (undone_by s c.requires.whole c.requires.next c.args.mv.now c.requires.activities c.requires.proper c.requires.allowed);
      gone_is = c.in_ok-change.ensures.gone;
      placed_is = c.in_ok-change.ensures.placed;
      leaving_is = c.in_ok-undo.ensures.gone ∙ ap (λ (l : List Activity). map id_of l) c.in_ok-change.ensures.placed;
      returning_is = c.in_ok-undo.ensures.placed ∙ ap (λ (l : List ℕ). picked s.plan.activities l) c.in_ok-change.ensures.gone;
    }
