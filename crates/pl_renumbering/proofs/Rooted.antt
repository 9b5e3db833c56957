-- Trees stay trees under new ids, and were trees before.
use Rattle.std.proofs.Common.{◌≡◌, ⊎_elim, ℕ, ◌<◌, List, [], ◌∷◌, Option, Some, None, IfSome, refl, sym, ap, subst, arith}
use Rattle.std.specs.Prelude.{◌⊎◌, All, IsSome}
use Rattle.std.specs.Option.{option_map}
use Rattle.std.proofs.lemmas.Bool.{cases_order}
use Rattle.std.proofs.lemmas.List.Elements.{All-nil, All-cons, All-head, All-tail}
use Rattle.pl_plan.specs.declared.activity.Activity.{Activity}
use Rattle.pl_plan.specs.Activities.{activity_of, IsLive}
use Rattle.pl_plan.specs.Trees.{IsParented, IsRooted}
use Rattle.pl_renumbering.specs.Renumbered.{KeepsOrder, renumbered_place, renumbered, renumbered_all}
use Rattle.pl_renumbering.proofs.Activities.{found_renumbered}

module _ (f : ℕ → ℕ) (keeps : KeepsOrder f) where
  less_before : (m n : ℕ) → f m < f n → m < n
  less_before m n less = ⊎_elim
      (λ (same : m ≡ n). let e : f m ≡ f n = ap f same in absurd (omega (arith, e, less)))
      (λ (apart : (m < n) ⊎ (n < m)). ⊎_elim
      (λ (lt : m < n). lt)
      (λ (gt : n < m). let more = keeps n m gt in absurd (omega (arith, more, less)))
      apart)
      (cases_order m n)

  module _ (xs : List Activity) where
    some_before : (o : Option Activity) → IsSome (option_map (renumbered f) o) → IsSome o
    some_before None there = there
    some_before (Some a) there = refl

    some_then : (o : Option Activity) → IsSome o → IsSome (option_map (renumbered f) o)
    some_then None there = there
    some_then (Some a) there = refl

    parented_before : (id : ℕ) (o : Option (ℕ × ℕ)) → IfSome (renumbered_place f o) (λ p. IsLive p.0 (renumbered_all f xs) × (p.0 < f id)) → IfSome o (λ p. IsLive p.0 xs × (p.0 < id))
    parented_before id None is = tt
    parented_before id (Some p) is = (some_before (activity_of p.0 xs) (subst IsSome (found_renumbered f keeps p.0 xs) is.0), less_before p.0 id is.1)

    parented_then : (id : ℕ) (o : Option (ℕ × ℕ)) → IfSome o (λ p. IsLive p.0 xs × (p.0 < id)) → IfSome (renumbered_place f o) (λ p. IsLive p.0 (renumbered_all f xs) × (p.0 < f id))
    parented_then id None is = tt
    parented_then id (Some p) is = (subst IsSome (sym (found_renumbered f keeps p.0 xs)) (some_then (activity_of p.0 xs) is.0), keeps p.0 id is.1)

    each_before : (ys : List Activity) → All (IsParented (renumbered_all f xs)) (renumbered_all f ys) → All (IsParented xs) ys
    each_before [] all = All-nil (IsParented xs)
    each_before (y ∷ ys) all = All-cons (IsParented xs) y ys
        (parented_before y.id y.parent (All-head (IsParented (renumbered_all f xs)) (renumbered f y) (renumbered_all f ys) all))
        (each_before ys (All-tail (IsParented (renumbered_all f xs)) (renumbered f y) (renumbered_all f ys) all))

    each_then : (ys : List Activity) → All (IsParented xs) ys → All (IsParented (renumbered_all f xs)) (renumbered_all f ys)
    each_then [] all = All-nil (IsParented (renumbered_all f xs))
    each_then (y ∷ ys) all = All-cons (IsParented (renumbered_all f xs)) (renumbered f y) (renumbered_all f ys)
        (parented_then y.id y.parent (All-head (IsParented xs) y ys all))
        (each_then ys (All-tail (IsParented xs) y ys all))

    pub rooted_before : IsRooted (renumbered_all f xs) → IsRooted xs
    rooted_before rooted = record { parents = each_before xs rooted.parents }

    pub rooted_then : IsRooted xs → IsRooted (renumbered_all f xs)
    rooted_then rooted = record { parents = each_then xs rooted.parents }
