-- What is left of the moves that are tried.
use Rattle.std.proofs.Common.{◌≡◌, ℕ, ◌≤◌, ◌<◌, min, Bool, true, false, cond, List, [], ◌∷◌, length, take, refl, arith}
use Rattle.std.specs.Prelude.{All, AllPairs, not, filter}
use Rattle.std.specs.List.{list_any}
use Rattle.std.proofs.lemmas.List.{length-take, get_or-take}
use Rattle.std.proofs.lemmas.List.Elements.{All-nil, All-cons, All-head, All-tail, All-take, All-weaker, filter_passes}
use Rattle.std.proofs.lemmas.List.Kept.{AllPairs-cons}
use Rattle.std.proofs.lemmas.Bool.{and_parts, not-true}
use Rattle.pl_lists.proofs.Tests.{or_second_false, or_first_false}
use Rattle.pl_conflict.specs.declared.conflict.Conflict.{Conflict}
use Rattle.pl_plan.specs.declared.repair.RepairMove.{RepairMove}
use Rattle.pl_semantics.specs.declared.plan_state.PlanState.{PlanState}
use Rattle.pl_semantics.specs.Moves.{is_proper}
use Rattle.pl_semantics.specs.Candidates.{tried_for, is_worth, changes_nothing, same_move, once_from, candidates_of}

pub once_keeps : (P : RepairMove → Type 0) (seen xs : List RepairMove) → All P xs → All P (once_from seen xs)
once_keeps P seen [] all = all
once_keeps P seen (m ∷ more) all = cases (list_any (same_move m) seen) (once_keeps P seen more (All-tail P m more all)) (once_keeps P (m ∷ seen) more (All-tail P m more all))
  where
    cases : (b : Bool) → All P (once_from seen more) → All P (once_from (m ∷ seen) more) → All P (cond b (once_from seen more) (m ∷ once_from (m ∷ seen) more))
    cases true left right = left
    cases false left right = All-cons P m (once_from (m ∷ seen) more) (All-head P m more all) right

pub worth : (s : PlanState) (k : Conflict) → All (λ m. is_worth s m ≡ true) (candidates_of s k)
unfolding candidates_of
worth s k = All-take (λ m. is_worth s m ≡ true) 256 (once_from [] (filter (is_worth s) (tried_for s k k.code))) (once_keeps (λ m. is_worth s m ≡ true) [] (filter (is_worth s) (tried_for s k k.code)) (filter_passes (is_worth s) (tried_for s k k.code)))

pub proper : (s : PlanState) (k : Conflict) → All (λ m. is_proper s m ≡ true) (candidates_of s k)
proper s k = All-weaker (λ m. is_worth s m ≡ true) (λ m. is_proper s m ≡ true) (λ m h. (and_parts (is_proper s m) (not (changes_nothing s m)) h).0) (candidates_of s k) (worth s k)

pub changing : (s : PlanState) (k : Conflict) → All (λ m. changes_nothing s m ≡ false) (candidates_of s k)
changing s k = All-weaker (λ m. is_worth s m ≡ true) (λ m. changes_nothing s m ≡ false) (λ m h. not-true (changes_nothing s m) (and_parts (is_proper s m) (not (changes_nothing s m)) h).1) (candidates_of s k) (worth s k)

pub at_most : (s : PlanState) (k : Conflict) → length (candidates_of s k) ≤ 256
unfolding candidates_of
at_most s k = rw (length-take 256 (once_from [] (filter (is_worth s) (tried_for s k k.code)))) (omega arith)

-- ---- none twice

unseen : (seen xs : List RepairMove) → All (λ m. list_any (same_move m) seen ≡ false) (once_from seen xs)
unseen seen [] = All-nil (λ m. list_any (same_move m) seen ≡ false)
unseen seen (m ∷ more) = cases (list_any (same_move m) seen) refl (unseen seen more) (unseen (m ∷ seen) more)
  where
    cases : (b : Bool) → list_any (same_move m) seen ≡ b → All (λ x. list_any (same_move x) seen ≡ false) (once_from seen more) → All (λ x. list_any (same_move x) (m ∷ seen) ≡ false) (once_from (m ∷ seen) more) → All (λ x. list_any (same_move x) seen ≡ false) (cond b (once_from seen more) (m ∷ once_from (m ∷ seen) more))
    cases true e left right = left
    cases false e left right = All-cons (λ x. list_any (same_move x) seen ≡ false) m (once_from (m ∷ seen) more) e (All-weaker (λ x. list_any (same_move x) (m ∷ seen) ≡ false) (λ x. list_any (same_move x) seen ≡ false) (λ x h. or_second_false (same_move x m) (list_any (same_move x) seen) h) (once_from (m ∷ seen) more) right)

apart_once : (seen xs : List RepairMove) → AllPairs (λ one other. same_move other one ≡ false) (once_from seen xs)
apart_once seen [] = λ i j d lt within. absurd (omega (arith, lt, within))
apart_once seen (m ∷ more) = cases (list_any (same_move m) seen) (apart_once seen more) (apart_once (m ∷ seen) more)
  where
    cases : (b : Bool) → AllPairs (λ one other. same_move other one ≡ false) (once_from seen more) → AllPairs (λ one other. same_move other one ≡ false) (once_from (m ∷ seen) more) → AllPairs (λ one other. same_move other one ≡ false) (cond b (once_from seen more) (m ∷ once_from (m ∷ seen) more))
    cases true left right = left
    cases false left right = AllPairs-cons (λ one other. same_move other one ≡ false) m (once_from (m ∷ seen) more) (All-weaker (λ x. list_any (same_move x) (m ∷ seen) ≡ false) (λ x. same_move x m ≡ false) (λ x h. or_first_false (same_move x m) (list_any (same_move x) seen) h) (once_from (m ∷ seen) more) (unseen (m ∷ seen) more)) right

pub none_twice : (s : PlanState) (k : Conflict) → AllPairs (λ one other. same_move other one ≡ false) (candidates_of s k)
unfolding candidates_of
none_twice s k = cut 256 (once_from [] (filter (is_worth s) (tried_for s k k.code))) (apart_once [] (filter (is_worth s) (tried_for s k k.code)))
  where
    cut : (n : ℕ) (xs : List RepairMove) → AllPairs (λ one other. same_move other one ≡ false) xs → AllPairs (λ one other. same_move other one ≡ false) (take n xs)
    cut n xs apart i j d lt within =
        let few : length (take n xs) ≡ min n (length xs) = length-take n xs in
        let upper : j < n = omega (arith, few, within) in
        rw (get_or-take n xs i d (omega (arith, lt, upper)), get_or-take n xs j d upper) (apart i j d lt (omega (arith, few, within)))
