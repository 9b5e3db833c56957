use Rattle.std.proofs.Common.{◌≡◌, ℕ, ◌<◌, ◌||◌, List, get_or, take, eqb, true, ap, ◌∙◌, subst, arith, nat_cmp}
use Rattle.std.specs.List.{list_any}
use Rattle.std.proofs.lemmas.List.{take_all}
use Rattle.std.proofs.lemmas.List.Folds.{list_any_more}
use Rattle.std.specs.BTreeSet.{contains}
use Rattle.pl_plan.specs.Trees.{descends, children_of}
use Rattle.pl_plan.proofs.Climbs.{parent_smaller}
use Rattle.pl_plan.proofs.RisingIds.{among}
use Rattle.pl_plan.proofs.Subtrees.{child_parent, named_live, among_itself, one_more, grouped, descends_below, inserted_one}
use Rattle.pl_plan.proofs.plan.Plan.+gather.Goals as goal

pub gather-requires : goal.gather-requires
gather-requires t c =
    let xs = c.args.self.now.activities in
    let items = c.deref-child-items.result.now in
    let next = get_or items c.loop-child.child-index 0 in
    let is : items ≡ children_of c.args.id xs = c.deref-child-items.ensures.value ∙ c.in_ok-children.ensures.ids in
    let there : among next (children_of c.args.id xs) ≡ true = subst (λ (l : List ℕ). among next l ≡ true) is (among_itself items c.loop-child.child-index c.loop-child-test.true) in
    let named = child_parent xs c.requires.rooted c.children.ensures.rising c.args.id next there in
    let larger : c.args.id < next = (parent_smaller xs c.requires.rooted next c.args.id named).1 in
    let fits : c.args.id < 4294967296 = c.ranges.id.fits in
    (omega (arith, larger, fits, c.decreases), (named_live xs next c.args.id named, c.requires.rooted))

pub loop-child-init : goal.loop-child-init
loop-child-init t c q = inserted_one c.args.found.now c.insert.new.self c.args.id q (c.in_ok-insert.ensures.updates.0 q)

pub loop-child-preserved : goal.loop-child-preserved
loop-child-preserved t c q =
    let xs = c.args.self.now.activities in
    let items = c.deref-child-items.result.now in
    c.in_ok-gather.ensures.found q ∙ rw (c.loop-child.invariant q, list_any_more (λ i. descends xs i q) items c.loop-child.child-index 0 c.loop-child-test.true) (one_more (list_any (λ i. descends xs i q) (take c.loop-child.child-index items)) (descends xs (get_or items c.loop-child.child-index 0) q) _)

pub returns-clause-found : goal.returns-clause-found
returns-clause-found t c q =
    let xs = c.args.self.now.activities in
    let items = c.deref-child-items.result.now in
    let is : items ≡ children_of c.args.id xs = c.deref-child-items.ensures.value ∙ c.in_ok-children.ensures.ids in
    let all : take c.loop-child.child-index items ≡ children_of c.args.id xs = take_all c.loop-child.child-index items c.loop-child-test.false ∙ is in
    c.loop-child.invariant q ∙ (ap (λ (l : List ℕ). list_any (λ i. descends xs i q) l || (eqb c.args.id q || contains nat_cmp c.args.found.now q)) all
    ∙ (grouped (list_any (λ i. descends xs i q) (children_of c.args.id xs)) (eqb c.args.id q) (contains nat_cmp c.args.found.now q)
    ∙ ap (λ b. b || contains nat_cmp c.args.found.now q) (descends_below xs c.requires.rooted c.children.ensures.rising c.args.id q)))
