use Rattle.std.proofs.Common.{◌∙◌}
use Rattle.std.proofs.lemmas.List.Elements.{All-push}
use Rattle.pl_bounds.specs.UnmetMusts.{IsUnmet}
use Rattle.pl_bounds.proofs.Having.{has_same}
use Rattle.pl_bounds.proofs.StillUnmet.{asked_by_one}
use Rattle.pl_bounds.proofs.unmet_musts.add_unmet.Goals as goal
use Rattle.pl_bounds.proofs.unmet_musts.add_unmet.Goals.{in-Some+in_ok-push, in_default}

pub unmet_by-requires-clause-asked : goal.unmet_by-requires-clause-asked
unmet_by-requires-clause-asked c =
    asked_by_one c.args.board.now.state c.args.conflict.now.subject _ (has_same c.as_slice-demand-items.result.now _ (c.as_slice-demand-items.ensures.value ∙ c.in_ok-asked.ensures) c.loop-demand.demand-index _ c.loop-demand-test.true)

pub loop-demand-preserved : goal.loop-demand-preserved
loop-demand-preserved c = elim c.match-unmet_by.branch [
  | in-Some+in_ok-push w ↦ rw w.all-is (rw w.in_ok-push.ensures.items (All-push (IsUnmet c.args.board.now.state) c.loop-demand.all.items w.in-Some.unmet c.loop-demand.invariant w.in-Some.ensures))
  | in_default w ↦ rw w.all-is c.loop-demand.invariant
]
