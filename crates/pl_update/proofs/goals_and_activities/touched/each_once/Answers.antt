use Rattle.std.proofs.Common.{ℕ, List, eqb, sym, ap, ◌∙◌}
use Rattle.std.proofs.lemmas.List.Filters.{dedup_is}
use Rattle.std.proofs.lemmas.List.Sorted.{list_any-IsPermutation}
use Rattle.std.proofs.lemmas.Map.Keys.{IsStrictlyIncreasing-dedup}
use Rattle.pl_semantics.specs.PlanStates.{among}
use Rattle.pl_update.proofs.AboutGoalsAndActivities.Once.{among_once}
use Rattle.pl_update.proofs.goals_and_activities.touched.each_once.Goals as goal

pub returns-clause-same : goal.returns-clause-same
returns-clause-same c = λ n.
    ap (λ (l : List ℕ). among n l) (dedup_is _ _ _ c.dedup.ensures.filtered)
    ∙ among_once n c.sort_unstable.new.self.items
    ∙ sym (list_any-IsPermutation (λ i. eqb i n) c.args.numbers.items c.sort_unstable.new.self.items c.sort_unstable.ensures.permutation)

pub returns-clause-rising : goal.returns-clause-rising
returns-clause-rising c = let is = dedup_is _ _ _ c.dedup.ensures.filtered in rw is (IsStrictlyIncreasing-dedup _ c.sort_unstable.ensures.sorted)
