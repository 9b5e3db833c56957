-- the closure gives an entry's id
use Rattle.std.proofs.Common.{ℕ, rules}
use Rattle.std.proofs.lemmas.List.Sorted.{answers_always}
use Rattle.pl_plan.specs.declared.evaluated.Evaluated.{Evaluated}
use Rattle.pl_update.proofs.AboutEvaluations.Places.{searched}
use Rattle.pl_update.proofs.evaluations.searching.search_all.Goals as goal

pub returns : goal.returns
returns c =
    let facts = c.binary_search_by_key.ensures in
    let by_key = facts.position (λ (e : ℕ × Evaluated). e.0) (answers_always _ _ _ (λ f a r g called. search rules)) in
    searched c.args.entries.now c.requires.rising c.args.id _ facts.bound by_key
