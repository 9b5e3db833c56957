use Rattle.std.proofs.Common.{ℕ, ◌≤◌, List, [], Option, subst}
use Rattle.pl_plan.specs.Trees.{parent_of}
use Rattle.pl_bounds.specs.Remaining.{count_of_untouched}
use Rattle.pl_bounds.proofs.Listed.{few_left}
use Rattle.pl_bounds.proofs.untouched.left_alone_by_deletion.Goals as goal

pub returns : goal.returns
returns c =
    let s = c.args.board.now.state in
    let few = few_left s c.args.standing.now c.requires.standing c.args.subtree.now [] c.parent_of-parent.result c.as_slice.result.now c.as_slice.ensures.value c.count_left.result c.count_left.ensures in
    subst (λ (ids : List ℕ). c.count_left.result ≤ count_of_untouched s ids [] (parent_of c.args.id s.plan.activities)) c.requires.subtree
    (subst (λ (parent : Option ℕ). c.count_left.result ≤ count_of_untouched s c.args.subtree.now [] parent) c.parent_of-parent.ensures few)
