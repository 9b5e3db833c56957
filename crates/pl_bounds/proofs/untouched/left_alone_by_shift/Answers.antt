use Rattle.std.proofs.Common.{ℕ, ◌≤◌, ◌∙◌, List, Option, subst}
use Rattle.pl_plan.specs.Trees.{parent_of}
use Rattle.pl_bounds.specs.Remaining.{count_of_untouched, kinds_of}
use Rattle.pl_bounds.proofs.Listed.{few_left}
use Rattle.pl_bounds.proofs.untouched.left_alone_by_shift.Goals as goal

pub returns : goal.returns
returns c =
    let s = c.args.board.now.state in
    let n = c.count_left-left.result in
    let few = few_left s c.args.standing.now c.requires.standing c.args.subtree.now c.as_slice-2.result.now c.parent_of-parent.result c.as_slice.result.now c.as_slice.ensures.value n c.count_left-left.ensures in
    let kinds = subst (λ (ks : List ℕ). n ≤ count_of_untouched s c.args.subtree.now ks c.parent_of-parent.result) (c.as_slice-2.ensures.value ∙ c.in_ok-kinds.ensures) few in
    let parent = subst (λ (o : Option ℕ). n ≤ count_of_untouched s c.args.subtree.now (kinds_of s c.args.subtree.now) o) c.parent_of-parent.ensures kinds in
    subst (λ (ids : List ℕ). n ≤ count_of_untouched s ids (kinds_of s ids) (parent_of c.args.id s.plan.activities)) c.requires.subtree parent
