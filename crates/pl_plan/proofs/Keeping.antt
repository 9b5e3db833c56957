-- What a plan keeps through each change: rising ids, the indexes, room for the count, and how many serve each goal.
use Rattle.std.proofs.Common.{◌≡◌, ℕ, ◌<◌, ◌+◌, ◌^◌, List, [], ◌∷◌, length, Some, None, refl, sym, ap, ◌∙◌, subst, arith}
use Rattle.std.proofs.lemmas.Option.{same_Some}
use Rattle.pl_plan.specs.declared.activity.Activity.{Activity}
use Rattle.pl_plan.specs.Activities.{KeepsPlace, activity_of, placed, without, exchanged, ended, with_end}
use Rattle.pl_plan.specs.Index.{Enters, Leaves}
use Rattle.pl_plan.specs.Indexed.{AreIndexed}
use Rattle.pl_plan.specs.Counts.{AreCounted, Raises, count_at}
use Rattle.pl_plan.specs.Trees.{parent_id, parent_in}
use Rattle.pl_plan.specs.Serving.{goal_at_root, served_in}
use Rattle.pl_plan.proofs.Ids.{rising-placed, rising-without, rising-exchanged, length-placed, length-without}
use Rattle.pl_plan.proofs.Ends.{found_id, end_exchanged}
use Rattle.pl_plan.proofs.Indexing.{index-placed, index-without, index-exchanged}
use Rattle.pl_plan.proofs.Counting.{counted-placed, counted-without, counted-exchanged}

abbrev pub AreKept : List Activity → List (ℕ × ℕ) → List (ℕ × ℕ) → List ℕ → Type 0
AreKept xs under serving counts = AreIndexed xs under serving × (length xs < 2 ^ 32) × AreCounted xs counts

pub kept_placed : (ys xs zs : List Activity) (u s v t : List (ℕ × ℕ)) (k m : List ℕ) (a : Activity) → ys ≡ xs → zs ≡ placed a xs → AreKept ys u s k → length xs + 1 < 2 ^ 32 → activity_of a.id xs ≡ None → Enters (parent_in a) a.id u v → Enters (served_in a) a.id s t → Raises (served_in a) k m → AreKept zs v t m
kept_placed ys xs zs u s v t k m a same is kept room none enters serves raises =
    let before : AreIndexed xs u s = subst (λ (l : List Activity). AreIndexed l u s) same kept.0 in
    let tied : AreCounted xs k = subst (λ (l : List Activity). AreCounted l k) same kept.2 in
    let counted : length (placed a xs) < 2 ^ 32 = omega (arith, room, length-placed a xs) in
    subst (λ (l : List Activity). AreKept l v t m) (sym is) (
      record {
        rising = rising-placed a 0 xs none (omega arith) before.rising;
        children = index-placed parent_in a xs u v none before.children enters;
        servers = index-placed served_in a xs s t none before.servers serves;
      },
      counted,
      counted-placed a xs k m tied raises,
    )

pub kept_without : (ys xs zs : List Activity) (u s v t : List (ℕ × ℕ)) (k m : List ℕ) (a : Activity) → ys ≡ xs → zs ≡ without a.id xs → AreKept ys u s k → activity_of a.id xs ≡ Some a → Leaves (parent_in a) a.id u v → Leaves (served_in a) a.id s t → Raises (served_in a) m k → AreKept zs v t m
kept_without ys xs zs u s v t k m a same is kept here leaves unserves lowers =
    let before : AreIndexed xs u s = subst (λ (l : List Activity). AreIndexed l u s) same kept.0 in
    let tied : AreCounted xs k = subst (λ (l : List Activity). AreCounted l k) same kept.2 in
    let counted : length (without a.id xs) < 2 ^ 32 = omega (arith, length-without a.id xs, kept.1, ap length same) in
    subst (λ (l : List Activity). AreKept l v t m) (sym is) (
      record {
        rising = rising-without a.id 0 xs before.rising;
        children = index-without parent_in a xs u v before.rising here before.children leaves;
        servers = index-without served_in a xs s t before.rising here before.servers unserves;
      },
      counted,
      counted-without a xs k m here tied lowers,
    )

length-exchanged : (a : Activity) (xs : List Activity) → length (exchanged a xs) ≡ length xs
length-exchanged a [] = refl
length-exchanged a (x ∷ xs) = omega (arith, length-exchanged a xs)

pub kept_exchanged : (ys xs zs : List Activity) (u s : List (ℕ × ℕ)) (k : List ℕ) (a : Activity) → ys ≡ xs → zs ≡ exchanged a xs → AreKept ys u s k → KeepsPlace a xs → AreKept zs u s k
kept_exchanged ys xs zs u s k a same is kept place =
    let before : AreIndexed xs u s = subst (λ (l : List Activity). AreIndexed l u s) same kept.0 in
    let counted : length (exchanged a xs) < 2 ^ 32 = omega (arith, length-exchanged a xs, kept.1, ap length same) in
    let tied : AreCounted xs k = subst (λ (l : List Activity). AreCounted l k) same kept.2 in
    subst (λ (l : List Activity). AreKept l u s k) (sym is) (
      record {
        rising = rising-exchanged a 0 xs before.rising;
        children = index-exchanged parent_in a xs u (λ b f. ap parent_id (place b f).0) before.children;
        servers = index-exchanged served_in a xs s (λ b f. serves b f) before.servers;
      },
      counted,
      counted-exchanged a xs k before.rising (λ b f. serves b f) tied,
    )
  where
    serves : (b : Activity) → activity_of a.id xs ≡ Some b → served_in b ≡ served_in a
    serves b f = ap (λ p. goal_at_root p b.goal) (place b f).0 ∙ ap (goal_at_root a.parent) (place b f).1

pub kept_ended : (ys xs zs : List Activity) (u s : List (ℕ × ℕ)) (k : List ℕ) (id moment : ℕ) (a : Activity) → ys ≡ xs → zs ≡ with_end id moment xs → AreKept ys u s k → activity_of id xs ≡ Some a → AreKept zs u s k
kept_ended ys xs zs u s k id moment a same is kept here =
    let before : AreIndexed xs u s = subst (λ (l : List Activity). AreIndexed l u s) same kept.0 in
    kept_exchanged ys xs zs u s k (ended moment a) same (is ∙ end_exchanged id moment xs 0 a before.rising here) kept place
  where
    place : KeepsPlace (ended moment a) xs
    place b f =
        let one : b ≡ a = same_Some b a (sym f ∙ (ap (λ n. activity_of n xs) (found_id id xs a here) ∙ here)) in
        (ap (λ (z : Activity). z.parent) one, ap (λ (z : Activity). z.goal) one)

-- a longer table of the same counts
pub kept_grown : (xs ys : List Activity) (u s : List (ℕ × ℕ)) (k m : List ℕ) → ys ≡ xs → AreKept xs u s k → ((n : ℕ) → count_at n m ≡ count_at n k) → AreKept ys u s m
kept_grown xs ys u s k m is kept same = subst (λ (l : List Activity). AreKept l u s m) (sym is) (kept.0, kept.1, λ n lt. same n ∙ kept.2 n lt)
