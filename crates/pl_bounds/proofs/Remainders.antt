-- What the choice of an alternative leaves, by what stands where the root is alone in a plan.
use Rattle.std.proofs.Common.{◌≡◌, ℕ, suc, ◌+◌, ◌-◌, ◌≤◌, Bool, true, false, cond, List, [], ◌∷◌, map, filter, length, Some, None, ap, ◌∙◌, subst, arith}
use Rattle.pl_plan.specs.declared.activity.Activity.{Activity}
use Rattle.pl_plan.specs.declared.repair.RepairMove.TheVariants.{Detail}
use Rattle.pl_plan.specs.Trees.{id_of}
use Rattle.pl_semantics.specs.declared.plan_state.PlanState.{PlanState}
use Rattle.pl_semantics.specs.Conflicts.{conflicts_of}
use Rattle.pl_semantics.specs.Moves.{applied, detailed}
use Rattle.pl_semantics.specs.PlanStates.{found}
use Rattle.pl_semantics.specs.Whole.{IsWhole}
use Rattle.pl_moves.specs.Runs.{CanBeMade}
use Rattle.pl_bounds.specs.Askings.{without_goal}
use Rattle.pl_bounds.specs.Choosing.{chosen_alone, kind_of_one, lacks}
use Rattle.pl_bounds.specs.Plain.{count_of_plain}
use Rattle.pl_bounds.specs.Remaining.{count_of_untouched}
use Rattle.pl_bounds.specs.Standing.{is_elsewhere}
use Rattle.pl_bounds.specs.Ties.{count_of_links}
use Rattle.pl_bounds.proofs.Chosen.{alone_is, mine}
use Rattle.pl_bounds.proofs.Detailed.{choice_left}
use Rattle.pl_bounds.proofs.Unlinked.{links_left}

module _ (s : PlanState) (whole : IsWhole s) (next : s.next_id ≤ 3999999000) (a : Activity) (here : found s a.id ≡ Some a) (root : a.parent ≡ None) (alternative : ℕ) (can : CanBeMade s (Detail a.id alternative)) (placed : List Activity) (alone : placed ≡ (chosen_alone s a alternative).plan.activities) where
  placed_is : placed ≡ detailed alternative (without_goal a) ∷ mine s whole next a here root alternative can
  placed_is = alone ∙ alone_is s whole next a here root alternative can

  but_one : (x : Activity) (xs : List Activity) → length (filter (lacks s) (x ∷ xs)) ≤ suc (length (filter (lacks s) xs))
  but_one x xs = by (lacks s x)
    where
      by : (b : Bool) → length (cond b (x ∷ filter (lacks s) xs) (filter (lacks s) xs)) ≤ suc (length (filter (lacks s) xs))
      by true = omega arith
      by false = omega arith

  -- one of those that lack an alternative may be the root
  pub plain_left : (ids : List ℕ) → ids ≡ map id_of placed → (n m : ℕ) → n ≤ length (filter (is_elsewhere ids) (conflicts_of s)) → m ≤ length (filter (lacks s) placed) → n + (m - 1) ≤ count_of_plain (applied s (Detail a.id alternative))
  plain_left ids are n m few some =
      let all : m ≤ length (filter (lacks s) (detailed alternative (without_goal a) ∷ mine s whole next a here root alternative can)) = subst (λ (l : List Activity). m ≤ length (filter (lacks s) l)) placed_is some in
      let but = but_one (detailed alternative (without_goal a)) (mine s whole next a here root alternative can) in
      choice_left s whole next a here root alternative can n (m - 1)
      (subst (λ (l : List ℕ). n ≤ length (filter (is_elsewhere l) (conflicts_of s))) (are ∙ ap (map id_of) placed_is) few)
      (omega (arith, all, but))

  pub alone_left : (kinds : List ℕ) → kinds ≡ map kind_of_one placed → (n : ℕ) → n ≤ count_of_untouched s (a.id ∷ []) kinds None → n ≤ count_of_links (applied s (Detail a.id alternative))
  alone_left kinds are n few = links_left s whole next a here root alternative can n (subst (λ (l : List ℕ). n ≤ count_of_untouched s (a.id ∷ []) l None) (are ∙ ap (map kind_of_one) placed_is) few)
