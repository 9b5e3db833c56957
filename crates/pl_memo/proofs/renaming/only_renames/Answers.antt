use Rattle.std.proofs.Common.{◌≡◌, ◌++◌, List, ap, ◌∙◌, subst}
use Rattle.pl_lists.specs.Lists.{Pairwise}
use Rattle.pl_plan.specs.declared.activity.Activity.{Activity}
use Rattle.pl_plan.specs.Activities.{AreRising}
use Rattle.pl_memo.specs.Renames.{AreTwins}
use Rattle.pl_memo.proofs.Joining.{put_together, rising_take}
use Rattle.pl_memo.proofs.renaming.only_renames.Goals as goal

pub stand_before-requires-clause-rest : goal.stand_before-requires-clause-rest
stand_before-requires-clause-rest c = rw c.split_at.ensures.front (rising_take 0 _ c.args.activities.now c.requires.rising)

pub returns : goal.returns
returns c = λ twins.
    let placed : List Activity = c.args.since.now.placed in
    let newest : c.split_at.result.1.now ≡ placed = c.are_same.ensures c.if-not-are_same.false ∙ c.as_slice-placed.ensures in
    record {
      rest = c.split_at.result.0.now;
      is = put_together _ c.args.activities.now c.split_at.result.0.now c.split_at.result.1.now c.split_at.ensures.front c.split_at.ensures.back ∙ ap (λ (l : List Activity). c.split_at.result.0.now ++ l) newest;
      rises = subst (λ (l : List Activity). AreRising (c.split_at.result.0.now ++ l)) c.as_slice-gone.ensures (c.stand_before.ensures c.if-not-stand_before.false);
      twins = subst (λ (l : List Activity). Pairwise AreTwins l placed) c.as_slice-gone.ensures (subst (λ (l : List Activity). Pairwise AreTwins c.as_slice-gone.result.now l) c.as_slice-placed.ensures (c.are_all_twins.ensures twins));
    }
