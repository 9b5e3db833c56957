use Rattle.std.proofs.Common.{◌++◌, List, [], ◌∷◌, take, None, sym, ap, ◌∙◌}
use Rattle.std.proofs.lemmas.List.{map_push, take_more}
use Rattle.std.proofs.lemmas.List.Elements.{All-get_or, All-push, All-tail}
use Rattle.pl_plan.specs.declared.repair.RepairMove.{RepairMove}
use Rattle.pl_plan.specs.declared.repair.RepairMove.TheVariants.{Add}
use Rattle.pl_moves.specs.Changes.{IsOfActivities}
use Rattle.pl_choose.specs.declared.stages.Stage.{Stage}
use Rattle.pl_choose.specs.Stages.{IsStage, move_of}
use Rattle.pl_choose.proofs.stages.stages_of.Goals as goal

pub stage_of-requires-in-loop-mv-clause-activities : goal.stage_of-requires-in-loop-mv-clause-activities
stage_of-requires-in-loop-mv-clause-activities c = All-get_or IsOfActivities c.args.rest.now c.loop-mv.mv-index (Add 0 0 None) c.loop-mv-test.true (All-tail IsOfActivities c.args.first.now c.args.rest.now c.requires.activities)

pub loop-mv-preserved : goal.loop-mv-preserved
loop-mv-preserved c =
    let rest = c.args.rest.now in
    let i = c.loop-mv.mv-index in
    let old : List Stage = c.loop-mv.stages.items in
    let t : Stage = c.in_ok-stage.stage in
    let front : List RepairMove = c.args.first.now ∷ take i rest in
    record {
      are = rw c.in_ok-push-2.ensures.items (All-push (IsStage c.args.s.now) old t c.loop-mv.invariant.are c.in_ok-stage.ensures.stage);
      moves = rw c.in_ok-push-2.ensures.items (map_push move_of old t
          ∙ (ap (λ (ms : List RepairMove). ms ++ t.mv ∷ []) c.loop-mv.invariant.moves
          ∙ (ap (λ (m : RepairMove). front ++ m ∷ []) c.in_ok-stage.ensures.mv
          ∙ ap (λ (ms : List RepairMove). c.args.first.now ∷ ms) (sym (take_more rest i (Add 0 0 None) c.loop-mv-test.true)))));
    }
