-- What is proposed is a move of the model.
use Rattle.std.proofs.Common.{◌≡◌, ℕ, ℤ, Bool, true, ◌&&◌, List, length, All, Option, Some, None, IfSome, refl, sym, subst, arith}
use Rattle.std.specs.Prelude.{slice_get, nat_lt, int_le}
use Rattle.std.proofs.lemmas.Bool.{ltb-true, and_parts}
use Rattle.std.proofs.lemmas.Int.{ints}
use Rattle.pl_lists.proofs.Elements.{all_at}
use Rattle.pl_lists.proofs.Numbers.{le_from_test}
use Rattle.pl_model.specs.declared.parameters.Param.{Param}
use Rattle.pl_model.specs.declared.kinds.Kind.{Kind}
use Rattle.pl_model.specs.declared.whole.Model.{Model}
use Rattle.pl_model.specs.Checked.{IsAmount, IsChecked, IsCheckedKind, IsCheckedParam, params_of}
use Rattle.pl_plan.specs.declared.activity.Activity.{Activity}
use Rattle.pl_plan.specs.declared.repair.RepairMove.{RepairMove}
use Rattle.pl_plan.specs.declared.repair.RepairMove.TheVariants as repair
use Rattle.pl_plan.specs.Fitting.{kind_of}
use Rattle.pl_plan.specs.Firm.{is_within}
use Rattle.pl_semantics.specs.declared.plan_state.PlanState.{PlanState}
use Rattle.pl_semantics.specs.PlanStates.{found}
use Rattle.pl_semantics.specs.Activities.{bindings_of}
use Rattle.pl_semantics.specs.Moves.{is_free, is_wanted, holds, takes_value, is_proper}
use Rattle.pl_cand.specs.declared.proposal.Proposal.{Proposal}
use Rattle.pl_cand.specs.Proposals.{IsProposal}
use Rattle.pl_cand.proofs.Proposed.{proposed_proper}
use Rattle.pl_machine.specs.Repairs.{IsMoveOf}

within_amounts : (low high v : ℤ) → IsAmount low → IsAmount high → is_within low high (Some v) ≡ true → IsAmount v
within_amounts low high v least most e =
    let both = and_parts (int_le low v) (int_le v high) e in
    let up = le_from_test low v both.0 in
    let down = le_from_test v high both.1 in
    (omega (arith, ints, least.0, up), omega (arith, ints, most.1, down))

-- a value that a parameter of a kind takes
taken : (free : Param → Bool) (value : ℤ) (kinds : List Kind) (m : Model) (n k : ℕ) (o : Option Kind) → All (IsCheckedKind m) kinds → slice_get kinds k ≡ o
    → (q : Option Param) → slice_get (params_of o) n ≡ q → holds (λ p. free p && is_within p.low p.high (Some value)) q ≡ true → IsAmount value
taken free value kinds m n k None checked is None here e = absurd (cc)
taken free value kinds m n k None checked is (Some p) here e = absurd (cc)
taken free value kinds m n k (Some kind) checked is None here e = absurd (cc)
taken free value kinds m n k (Some kind) checked is (Some p) here e =
    let param = all_at (IsCheckedParam (length kind.params)) kind.params n p (all_at (IsCheckedKind m) kinds k kind checked is).params here in
    within_amounts p.low p.high value param.least param.greatest (and_parts (free p) (is_within p.low p.high (Some value)) e).1

assigned : (s : PlanState) (n : ℕ) (value : ℤ) (o : Option Activity) → IsChecked s.model → holds (λ a. takes_value s a n value) o ≡ true → IsAmount value
assigned s n value None checked e = absurd (cc)
assigned s n value (Some a) checked e =
    taken (λ p. is_free (bindings_of s a) (n, p)) value s.model.kinds s.model n a.kind (kind_of s.model a) checked.kinds refl (slice_get (params_of (kind_of s.model a)) n) refl e

-- a proper move may be handed in
pub proper_move : (s : PlanState) (m : RepairMove) → IsChecked s.model → is_proper s m ≡ true → IsMoveOf s.model m
unfolding is_proper
proper_move s (repair.Add kind start goal) checked e = ltb-true kind (length s.model.kinds) (and_parts (nat_lt kind (length s.model.kinds)) (is_wanted s kind goal) e).0
proper_move s (repair.Delete id) checked e = tt
proper_move s (repair.Shift id start) checked e = tt
proper_move s (repair.Detail id alternative) checked e = tt
proper_move s (repair.Abstract id) checked e = tt
proper_move s (repair.Assign id param value) checked e = assigned s param value (found s id) checked e
proper_move s (repair.Drop goal) checked e = tt

pub proposed_move : (m : Model) (s : PlanState) (p : Option Proposal) → IsChecked m → s.model ≡ m → IsProposal s p → IfSome p (λ q. IsMoveOf m q.mv)
proposed_move m s None checked is proposal = tt
proposed_move m s (Some p) checked is proposal =
    subst (λ (n : Model). IsMoveOf n p.mv) is (proper_move s p.mv (subst IsChecked (sym is) checked) (proposed_proper s p proposal))
