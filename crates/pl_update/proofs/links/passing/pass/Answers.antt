use Rattle.std.proofs.Common.{ap, ◌∙◌, flat_map, map}
use Rattle.pl_detect.specs.Broken.{broken_conflict}
use Rattle.pl_update.specs.Links.Owned.{owner_of}
use Rattle.pl_update.proofs.AboutLinks.Settling.{settled_after}
use Rattle.pl_update.proofs.links.passing.pass.Goals as goal

pub returns : goal.returns
returns c = λ s before shows.
    settled_after s c.args.t.now c.args.conflicts.now c.in_ok-went.went.items c.in_ok-came.came.items c.in_ok-owners.owners.items before c.requires.rising c.in_ok-went.ensures.ordered shows
    c.in_ok-went.ensures.items
    (c.in_ok-owners.ensures ∙ ap (map owner_of) c.as_slice.ensures.value)
    (c.in_ok-came.ensures ∙ ap (flat_map (broken_conflict c.args.t.now)) c.as_slice-2.ensures.value)
