-- the closure gives an activity's id
use Rattle.std.proofs.Common.{rules}
use Rattle.std.proofs.lemmas.List.Sorted.{answers_always}
use Rattle.pl_plan.proofs.Ids.{searched}
use Rattle.pl_plan.proofs.searching.search_all.Goals as goal

pub returns : goal.returns
returns c =
    let facts = c.binary_search_by_key.ensures in
    let by_key = facts.position (λ a. a.id) (answers_always _ _ _ (λ f a r g called. search rules)) in
    searched c.args.activities.now c.requires.rising c.args.id _ facts.bound by_key
