use Rattle.std.proofs.Common.{◌≡◌, None, sym, ◌∙◌, rules}
use Rattle.pl_plan.specs.Trees.{root_rule, parent_of}
use Rattle.pl_plan.proofs.Climbs.{parent_smaller, climb_root, climb_child}
use Rattle.pl_plan.proofs.plan.Plan.root.Goals as goal

pub loop-parent-smaller : goal.loop-parent-smaller
loop-parent-smaller c = (parent_smaller c.args.self.now.activities c.requires.rooted c.loop-parent.top c.in-Some.parent (sym c.in-Some.ensures)).1

pub loop-parent-preserved : goal.loop-parent-preserved
loop-parent-preserved c = sym (climb_child root_rule c.args.self.now.activities c.requires.rooted c.loop-parent.top c.in-Some.parent (sym c.in-Some.ensures)) ∙ c.loop-parent.invariant

pub returns : goal.returns
returns c =
    let none : parent_of c.loop-parent.top c.args.self.now.activities ≡ None = search rules in
    sym (climb_root root_rule c.args.self.now.activities c.requires.rooted c.loop-parent.top none) ∙ c.loop-parent.invariant
