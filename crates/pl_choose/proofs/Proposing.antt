-- What is proposed may be proposed.
use Rattle.std.proofs.Common.{◌≡◌, ℕ, true, false, List, ◌∷◌, [], length, refl, sym, subst, ap, ◌∙◌}
use Rattle.std.specs.Prelude.{find, filter, All, Contains, not, ◌==◌, ◌%◌, is_some, Option, Some, None, IfSome, option_and_then}
use Rattle.std.specs.List.{list_any}
use Rattle.std.proofs.lemmas.List.Elements.{All-nil, All-cons, All-head, All-tail, All-filter, filter_passes}
use Rattle.std.specs.Option.{option_map}
use Rattle.pl_lists.proofs.Elements.{filter_contains, filter_passing, none_from_test}
use Rattle.pl_conflict.specs.declared.conflict.Conflict.{Conflict}
use Rattle.pl_plan.specs.declared.repair.RepairMove.{RepairMove}
use Rattle.pl_semantics.specs.declared.plan_state.PlanState.{PlanState}
use Rattle.pl_semantics.specs.Conflicts.{conflicts_of}
use Rattle.pl_semantics.specs.Candidates.{candidates_of}
use Rattle.pl_semantics.specs.Legal.{is_legal, has_repair, legal_for, left_after, repairable, is_stuck}
use Rattle.pl_semantics.specs.Moves.{refusal_of}
use Rattle.pl_semantics.proofs.Sifting.{proper}
use Rattle.pl_cand.specs.declared.proposal.Proposal.{Proposal}
use Rattle.pl_cand.specs.Proposals.{IsProposal}
use Rattle.pl_choose.specs.declared.draw.Draw.{Draw}
use Rattle.pl_choose.specs.declared.draw.Draw.TheVariants.{AsLeast, AtRandom}
use Rattle.pl_choose.specs.declared.repairs.Repairs.{Repairs}
use Rattle.pl_choose.specs.Found.{IsProper, IsAllowed, AreFirst}
use Rattle.pl_choose.specs.Picks.{proposal, leaves_fewest, fewest, fewest_for, least_pick, picked_by, random_pick, pick_by}
use Rattle.pl_choose.specs.Found.{lowest}
use Rattle.pl_choose.proofs.Lowest.{first_lowest}
use Rattle.pl_choose.proofs.Finding.{HasFirst, nonempty, any_is, any_find, find_passing, get_contains, picked_some}

-- a legal candidate of the conflict, by this rule
abbrev Chosen : PlanState → (Conflict → Option RepairMove) → Conflict → Type 0
Chosen s choose k = (m : RepairMove) × (choose k ≡ Some m) × Contains (legal_for s k) m

made : (s : PlanState) (choose : Conflict → Option RepairMove) (o : Option Conflict) → (o ≡ None → list_any (has_repair s) (conflicts_of s) ≡ false) → ((k : Conflict) → o ≡ Some k → Contains (repairable s) k) → ((k : Conflict) → has_repair s k ≡ true → Chosen s choose k) → IsProposal s (option_and_then (λ k. option_map (proposal k) (choose k)) o)
unfolding is_stuck repairable
made s choose None stuck stands rule = ap not (stuck refl)
made s choose (Some k) stuck stands rule =
    let here : Contains (repairable s) k = stands k refl in
    let chosen : Chosen s choose k = rule k (filter_passing (has_repair s) (conflicts_of s) k here) in
    let P : Option RepairMove → Type 0 = λ o. IsProposal s (option_map (proposal k) o) in
    subst P (sym chosen.1) (filter_contains (has_repair s) (conflicts_of s) k here, chosen.2)

-- there is a legal candidate
some_legal : (s : PlanState) (k : Conflict) → has_repair s k ≡ true → HasFirst (legal_for s k)
unfolding legal_for
some_legal s k has = nonempty (is_legal s) (candidates_of s k) has

fewest_chosen : (s : PlanState) (k : Conflict) → has_repair s k ≡ true → Chosen s (λ c. fewest s (legal_for s c)) k
fewest_chosen s k has =
    let some : HasFirst (legal_for s k) = some_legal s k has in
    let best : RepairMove = lowest (left_after s) some.0 some.1 in
    let P : List RepairMove → Type 0 = λ all. find (leaves_fewest s all) all ≡ Some best in
    let found : fewest s (legal_for s k) ≡ Some best = subst P (sym some.2) (first_lowest (left_after s) some.0 some.1) in
    (best, found, filter_contains (leaves_fewest s (legal_for s k)) (legal_for s k) best (find_passing (leaves_fewest s (legal_for s k)) (legal_for s k) best found))

pub least_is_proposal : (s : PlanState) → IsProposal s (least_pick s)
unfolding least_pick repairable
least_is_proposal s = made s (λ c. fewest s (legal_for s c)) (find (has_repair s) (conflicts_of s)) (λ none. any_find (has_repair s) (conflicts_of s) ∙ ap is_some none) (λ k found. find_passing (has_repair s) (conflicts_of s) k found) (fewest_chosen s)

picked_chosen : (s : PlanState) (word : ℕ) (k : Conflict) → has_repair s k ≡ true → Chosen s (λ c. picked_by word (legal_for s c)) k
picked_chosen s word k has =
    let some : HasFirst (legal_for s k) = some_legal s k has in
    let P : List RepairMove → Type 0 = λ all. (m : RepairMove) × (picked_by word all ≡ Some m) in
    let found : P (legal_for s k) = subst P (sym some.2) (picked_some word some.0 some.1) in
    (found.0, found.1, get_contains (legal_for s k) (word % length (legal_for s k)) found.0 found.1)

-- where none is picked there is none
none_picked : {X : Type 0} (word : ℕ) (xs : List X) → picked_by word xs ≡ None → xs ≡ []
none_picked word [] e = refl
none_picked word (x ∷ more) e = let some = picked_some word x more in absurd (let h : Some some.0 ≡ None = sym some.1 ∙ e in cc)

none_repairable : (s : PlanState) → repairable s ≡ [] → list_any (has_repair s) (conflicts_of s) ≡ false
unfolding repairable
none_repairable s e = any_is (has_repair s) (conflicts_of s) ∙ ap (λ ks. not (length ks == 0)) e

pub random_is_proposal : (s : PlanState) (word other : ℕ) → IsProposal s (random_pick s word other)
unfolding random_pick
random_is_proposal s word other = made s (λ c. picked_by other (legal_for s c)) (picked_by word (repairable s)) (λ none. none_repairable s (none_picked word (repairable s) none)) (λ k found. get_contains (repairable s) (word % length (repairable s)) k found) (picked_chosen s other)

pub drawn_is_proposal : (s : PlanState) (d : Draw) → IsProposal s (pick_by s d)
drawn_is_proposal s AsLeast = least_is_proposal s
drawn_is_proposal s (AtRandom conflict repair) = random_is_proposal s conflict repair

-- ---- where the first conflict that has a legal candidate was looked for

pub first_is_least : (s : PlanState) (r : Repairs) → AreFirst s (Some r) → fewest_for s r.conflict ≡ least_pick s
unfolding least_pick
first_is_least s r first = sym (ap (option_and_then (fewest_for s)) first.0)

pub none_is_stuck : (s : PlanState) → AreFirst s None → IsProposal s None
unfolding is_stuck
none_is_stuck s none = ap not (any_find (has_repair s) (conflicts_of s) ∙ ap is_some none)

pub some_is_not_stuck : (s : PlanState) (r : Repairs) → AreFirst s (Some r) → is_stuck s ≡ false
unfolding is_stuck
some_is_not_stuck s r first = ap not (any_find (has_repair s) (conflicts_of s) ∙ ap is_some first.0)

pub picks_least : (s : PlanState) (r : Repairs) (m : RepairMove) → AreFirst s (Some r) → fewest s r.moves.items ≡ Some m → Some (proposal r.conflict m) ≡ least_pick s
picks_least s r m first is =
    let P : List RepairMove → Type 0 = λ ms. fewest s ms ≡ Some m in
    sym (ap (option_map (proposal r.conflict)) (subst P first.1 is)) ∙ first_is_least s r first

pub picks_none : (s : PlanState) (r : Repairs) → AreFirst s (Some r) → fewest s r.moves.items ≡ None → None ≡ least_pick s
picks_none s r first is =
    let P : List RepairMove → Type 0 = λ ms. fewest s ms ≡ None in
    sym (ap (option_map (proposal r.conflict)) (subst P first.1 is)) ∙ first_is_least s r first

-- where there is one something is proposed
pub something : (s : PlanState) (r : Repairs) (p : Option Proposal) → AreFirst s (Some r) → IsProposal s p → p ≡ None → ⊥
something s r p first legal none =
    let P : Option Proposal → Type 0 = λ o. IsProposal s o in
    let stuck : is_stuck s ≡ true = subst P none legal in
    let h : true ≡ false = sym stuck ∙ some_is_not_stuck s r first in
    cc

pub if_some : (P : Option Proposal → Type 0) (p : Option Proposal) → P p → IfSome p (λ q. P (Some q))
if_some P None h = tt
if_some P (Some q) h = h

-- ---- what a list of legal candidates tells

pub none_legal : (s : PlanState) (k : Conflict) (ms : List RepairMove) → ms ≡ legal_for s k → (length ms == 0) ≡ true → has_repair s k ≡ false
unfolding legal_for
none_legal s k ms is e = any_is (is_legal s) (candidates_of s k) ∙ ap (λ xs. not (length xs == 0)) (sym is) ∙ ap not e

pub one_legal : (s : PlanState) (k : Conflict) (ms : List RepairMove) → ms ≡ legal_for s k → (length ms == 0) ≡ false → has_repair s k ≡ true
unfolding legal_for
one_legal s k ms is e = any_is (is_legal s) (candidates_of s k) ∙ ap (λ xs. not (length xs == 0)) (sym is) ∙ ap not e

both_all : (s : PlanState) (ms : List RepairMove) → All (IsProper s) ms → All (λ m. is_legal s m ≡ true) ms → All (IsAllowed s) ms
both_all s [] one other = All-nil (IsAllowed s)
both_all s (m ∷ more) one other =
    All-cons (IsAllowed s) m more
    (record { proper = All-head (IsProper s) m more one; allowed = none_from_test (refusal_of s m) (All-head (λ m. is_legal s m ≡ true) m more other) })
    (both_all s more (All-tail (IsProper s) m more one) (All-tail (λ m. is_legal s m ≡ true) m more other))

-- the legal candidates make sense, and nothing refuses them
pub all_allowed : (s : PlanState) (k : Conflict) → All (IsAllowed s) (legal_for s k)
unfolding legal_for
all_allowed s k = both_all s (filter (is_legal s) (candidates_of s k)) (All-filter (is_legal s) (IsProper s) (candidates_of s k) (proper s k)) (filter_passes (is_legal s) (candidates_of s k))
