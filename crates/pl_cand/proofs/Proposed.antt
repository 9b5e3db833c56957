-- What is proposed may be made.
use Rattle.std.proofs.Common.{◌≡◌, true, false, All, Option, Some, None, sym, ◌∙◌}
use Rattle.std.proofs.lemmas.List.Elements.{All-contains, All-filter, filter_passes}
use Rattle.pl_lists.proofs.Elements.{none_from_test}
use Rattle.pl_conflict.specs.declared.conflict.Conflict.{Conflict}
use Rattle.pl_semantics.specs.declared.plan_state.PlanState.{PlanState}
use Rattle.pl_semantics.specs.Moves.{is_proper, refusal_of}
use Rattle.pl_semantics.specs.Candidates.{candidates_of}
use Rattle.pl_semantics.specs.Legal.{is_legal, legal_for, is_stuck}
use Rattle.pl_semantics.proofs.Sifting.{proper}
use Rattle.pl_cand.specs.declared.proposal.Proposal.{Proposal}
use Rattle.pl_cand.specs.Proposals.{IsProposal}

all_proper : (s : PlanState) (k : Conflict) → All (λ m. is_proper s m ≡ true) (legal_for s k)
unfolding legal_for
all_proper s k = All-filter (is_legal s) (λ m. is_proper s m ≡ true) (candidates_of s k) (proper s k)

all_legal : (s : PlanState) (k : Conflict) → All (λ m. is_legal s m ≡ true) (legal_for s k)
unfolding legal_for
all_legal s k = filter_passes (is_legal s) (candidates_of s k)

pub proposed_proper : (s : PlanState) (p : Proposal) → IsProposal s (Some p) → is_proper s p.mv ≡ true
proposed_proper s p proposal = All-contains (λ m. is_proper s m ≡ true) (legal_for s p.conflict) p.mv (all_proper s p.conflict) proposal.1

pub proposed_allowed : (s : PlanState) (p : Proposal) → IsProposal s (Some p) → refusal_of s p.mv ≡ None
proposed_allowed s p proposal = none_from_test (refusal_of s p.mv) (All-contains (λ m. is_legal s m ≡ true) (legal_for s p.conflict) p.mv (all_legal s p.conflict) proposal.1)

-- where some conflict has a legal candidate something is proposed
pub something : (s : PlanState) (p : Option Proposal) → is_stuck s ≡ false → IsProposal s p → p ≡ None → ⊥
something s None going proposal none = absurd (let h : true ≡ false = sym proposal ∙ going in cc)
something s (Some p) going proposal none = absurd (cc)
