-- That each chooser keeps to its rule. These are proofs; they stand here because a ghost member of an `impl` can name only what stands in specs/.
use Rattle.std.proofs.Common.{◌≡◌, Bool, true, false, Option, Some, None, if◌then◌else◌, refl, sym, ◌∙◌, ap}
use Rattle.std.specs.Prelude.{IsSome}
use Rattle.std.specs.Option.{option_map}
use Rattle.pl_entry.specs.declared.event.Event.{Event}
use Rattle.pl_entry.specs.declared.event.Event.TheVariants as event
use Rattle.pl_entry.specs.declared.reply.Reason.{Reason}
use Rattle.pl_semantics.specs.declared.plan_state.PlanState.{PlanState}
use Rattle.pl_cand.specs.declared.proposal.Proposal.{Proposal}
use Rattle.pl_cand.specs.Proposals.{IsProposal}
use Rattle.pl_choose.specs.Picks.{least_pick}
use Rattle.pl_machine.specs.declared.choice.Choice.{Choice}
use Rattle.pl_machine.specs.declared.choice.Choice.TheVariants as choice
use Rattle.pl_machine.specs.World.{World, reason_of}
use Rattle.pl_machine.specs.Choices.{exec_choice_of, event_of}
use Rattle.pl_machine.specs.Solo as machine
use Rattle.pl_main.specs.Solo.{repair_event, solo_event, IsRuleOf, IsSoloEvent, IsAheadEvent}

at_rest : (b : Bool) (x y : Option Event) → b ≡ true → (if b then x else y) ≡ x
at_rest true x y e = refl
at_rest false x y e = absurd (cc)

in_repair : (b : Bool) (x y : Option Event) → b ≡ false → (if b then x else y) ≡ y
in_repair true x y e = absurd (cc)
in_repair false x y e = refl

rests : (o : Option Reason) (p : Option Proposal) → IsSome o → repair_event o p ≡ Some event.Rest
rests None p e = absurd (cc)
rests (Some r) p e = refl

chosen : (w : World) (it : Choice) → w.rested ≡ true → exec_choice_of w ≡ Some it → solo_event w ≡ Some (event_of it)
chosen w it rested e = at_rest w.rested (option_map event_of (exec_choice_of w)) (repair_event (reason_of w) (least_pick w.state)) rested ∙ ap (λ (o : Option Choice). option_map event_of o) e

-- ---- the chooser that takes the least repair: what it proposes is a function of the plan state

one_least : {C : Type 0} (w : World) (c : C) (e : Event) (c2 : C) → machine.IsSoloEvent (λ (b : C) (s : PlanState) (p : Option Proposal) (n : C). p ≡ least_pick s) w c e c2 → IsSoloEvent w e
one_least w c (event.Opened o) c2 solo = absurd solo
one_least w c (event.Input line) c2 solo = tt
one_least w c (event.Fix k m) c2 solo =
    in_repair w.rested (option_map event_of (exec_choice_of w)) (repair_event (reason_of w) (least_pick w.state)) solo.0
    ∙ ap (λ (o : Option Reason). repair_event o (least_pick w.state)) solo.1
    ∙ ap (λ (p : Option Proposal). repair_event None p) (sym solo.2)
one_least w c event.Rest c2 solo =
    in_repair w.rested (option_map event_of (exec_choice_of w)) (repair_event (reason_of w) (least_pick w.state)) solo.0 ∙ rests (reason_of w) (least_pick w.state) solo.1
one_least w c (event.Commit h) c2 solo = chosen w (choice.Commit h) solo.0 solo.1
one_least w c event.Dispatch c2 solo = chosen w choice.Dispatch solo.0 solo.1
one_least w c event.Close c2 solo = chosen w choice.Close solo.0 solo.1

pub least_rule : {C : Type 0} → IsRuleOf (λ (b : C) (s : PlanState) (p : Option Proposal) (n : C). p ≡ least_pick s) IsSoloEvent
least_rule = record { free = λ w line. tt; allows = λ w c e c2 solo. one_least w c e c2 solo }

-- ---- a chooser of which nothing is known but that it proposes legal candidates

one_ahead : {C : Type 0} (w : World) (c : C) (e : Event) (c2 : C) → machine.IsSoloEvent (λ (b : C) (s : PlanState) (p : Option Proposal) (n : C). IsProposal s p) w c e c2 → IsAheadEvent w e
one_ahead w c (event.Opened o) c2 solo = solo
one_ahead w c (event.Input line) c2 solo = tt
one_ahead w c (event.Fix k m) c2 solo = solo
one_ahead w c event.Rest c2 solo = (solo.0, solo.1)
one_ahead w c (event.Commit h) c2 solo = (solo.0, solo.1)
one_ahead w c event.Dispatch c2 solo = (solo.0, solo.1)
one_ahead w c event.Close c2 solo = (solo.0, solo.1)

pub ahead_rule : {C : Type 0} → IsRuleOf (λ (b : C) (s : PlanState) (p : Option Proposal) (n : C). IsProposal s p) IsAheadEvent
ahead_rule = record { free = λ w line. tt; allows = λ w c e c2 solo. one_ahead w c e c2 solo }
