use Rattle.pl_semantics.specs.Whole.{IsWhole}
use Rattle.pl_update.proofs.AboutChanges.Putting.{puttable}
use Rattle.pl_bounds.proofs.Bare.{can_bare, whole_bare}
use Rattle.pl_bounds.proofs.choosing.chosen_alone.Goals as goal

pub trial_of-requires-clause-whole : goal.trial_of-requires-clause-whole
trial_of-requires-clause-whole c = rw c.in_ok-alone.ensures (whole_bare c.args.s.now c.requires.whole c.args.root.now c.requires.live c.requires.root c.args.alternative c.requires.allowed)

pub trial_of-requires-clause-proper : goal.trial_of-requires-clause-proper
trial_of-requires-clause-proper c = rw c.in_ok-alone.ensures (can_bare c.args.s.now c.requires.whole c.args.root.now c.requires.live c.requires.root c.args.alternative c.requires.allowed).proper

pub trial_of-requires-clause-allowed : goal.trial_of-requires-clause-allowed
trial_of-requires-clause-allowed c = rw c.in_ok-alone.ensures (can_bare c.args.s.now c.requires.whole c.args.root.now c.requires.live c.requires.root c.args.alternative c.requires.allowed).allowed

pub replace-requires-clause-can : goal.replace-requires-clause-can
replace-requires-clause-can c =
    let can = c.in_ok-trial.ensures.undone.can in
    let whole : IsWhole c.in_ok-alone.alone = rw c.in_ok-alone.ensures (whole_bare c.args.s.now c.requires.whole c.args.root.now c.requires.live c.requires.root c.args.alternative c.requires.allowed) in
    rw (c.as_slice.ensures.value, c.as_slice-placed.ensures.value) (puttable c.in_ok-alone.alone.plan.activities c.in_ok-trial.trial.change.gone.items c.in_ok-trial.trial.change.placed.items whole.rising can.once can.free)
