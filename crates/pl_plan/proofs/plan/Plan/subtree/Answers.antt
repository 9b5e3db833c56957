use Rattle.std.proofs.Common.{◌≡◌, ℕ, List, IfOk, subst, rules}
use Rattle.pl_plan.specs.Trees.{subtree_of}
use Rattle.pl_plan.proofs.Subtrees.{subtree_is, found_all}
use Rattle.pl_plan.proofs.plan.Plan.subtree.Goals as goal

pub returns : goal.returns
returns c =
    let xs = c.args.self.now.activities in
    let keys = c.gather.new.found.keys in
    let is : IfOk c.collect.result (λ ids. ids.items ≡ keys) = search rules in
    let all : keys ≡ subtree_of c.args.id xs = subtree_is xs c.requires.rooted c.gather.ensures.rising c.args.id keys c.requires.live c.iter.ensures.ordered (λ q. found_all xs c.args.id c.new-found.result c.gather.new.found q c.new-found.ensures.empty (c.in_ok-gather.ensures.found q)) in
    subst (λ (l : List ℕ). IfOk c.collect.result (λ ids. ids.items ≡ l)) all is
