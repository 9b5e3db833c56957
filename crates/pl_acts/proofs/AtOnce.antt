-- What comes of a repair in the turn in which a planner looks.
use Rattle.std.proofs.Common.{◌≡◌, ℕ, ◌+◌, ◌<◌, ◌≤◌, List, [], ◌∷◌, length, Bool, true, false, Option, Some, None, Result, Ok, Err, refl, sym, ◌∙◌, ap, subst, ◌⊎◌, inl, inr, arith}
use Rattle.std.specs.Prelude.{not, ◌&&◌, ◌||◌, is_some, nat_le, ◌==◌}
use Rattle.std.specs.List.{All}
use Rattle.std.proofs.lemmas.Bool.{leb-false}
use Rattle.pl_turn.proofs.Histories.{prefix_of_same}
use Rattle.pl_marks.specs.declared.author.Author.{Author}
use Rattle.pl_conflict.specs.declared.conflict.Conflict.{Conflict}
use Rattle.pl_entry.specs.declared.event.Event.TheVariants as event
use Rattle.pl_entry.specs.declared.reply.Reply.TheVariants as reply
use Rattle.pl_entry.specs.declared.reply.Reason.{Reason}
use Rattle.pl_entry.specs.declared.entry.Entry.{Entry}
use Rattle.rand_pcg.specs.Lcg.{Lcg}
use Rattle.pl_semantics.specs.declared.plan_state.PlanState.{PlanState}
use Rattle.pl_semantics.specs.Conflicts.{conflicts_of}
use Rattle.pl_semantics.specs.Legal.{is_stuck}
use Rattle.pl_cand.specs.declared.proposal.Proposal.{Proposal}
use Rattle.pl_cand.specs.Proposals.{IsProposal}
use Rattle.pl_choose.specs.Picks.{draw_of, seeded_pick, seeded_after}
use Rattle.pl_choose.proofs.Proposing.{drawn_is_proposal}
use Rattle.pl_machine.specs.declared.stop.Stop.{Stop}
use Rattle.pl_machine.specs.declared.stop.Stop.TheVariants as stop
use Rattle.pl_machine.specs.declared.repaired.Repaired.TheVariants as repaired
use Rattle.pl_machine.specs.World.{World, reason_by, plain_reason_of, reason_of}
use Rattle.pl_machine.specs.Sound.{State}
use Rattle.pl_machine.specs.Taking.{Proposes}
use Rattle.pl_machine.specs.Mending as mending
use Rattle.pl_machine.specs.Mending.{is_repairing}
use Rattle.pl_machine.proofs.Mending.{not_stuck}
use Rattle.pl_acts.specs.declared.held.Held.{Held}
use Rattle.pl_acts.specs.declared.role.Acted.TheVariants as acted
use Rattle.pl_acts.specs.declared.look.Looked.TheVariants as looked
use Rattle.pl_acts.specs.Replicas.{IsReplica}
use Rattle.pl_acts.specs.Signing.{Written, IsTied, IsWritten, HasSameLog, RepairsSigned}
use Rattle.pl_acts.specs.Inside.{is_over, MayRepair, RepairsAtOnce, RepairsIn}
use Rattle.pl_acts.proofs.Replicas.{all_go_on}
use Rattle.pl_acts.proofs.Signing.{tied_same}
use Rattle.pl_acts.proofs.Answering.{with_plan, took_one, same_plan, spoils_held}
use Rattle.pl_acts.proofs.Settled.{seeded, words_drawn}

-- ---- when a planner repairs

none_of : (a b c : Bool) → (a || (b || c)) ≡ false → (a ≡ false) × (b ≡ false) × (c ≡ false)
none_of true b c e = absurd (cc)
none_of false true c e = absurd (cc)
none_of false false true e = absurd (cc)
none_of false false false e = (refl, refl, refl)

pub may_repair : (h : Held) → is_over h ≡ false → is_repairing h.plan.machine.world ≡ true → nat_le h.plan.machine.world.options.entries (length h.plan.machine.log) ≡ false → plain_reason_of h.plan.machine.world ≡ None → MayRepair h
may_repair h over repairing full plain =
    let none = none_of h.plan.machine.spoiled h.plan.machine.world.done (is_some h.stopper) over in
    record {
      going = record { unspoiled = none.0; going = none.1; running = none.2 };
      asks = (none.1, repairing, plain);
      room = leb-false h.plan.machine.world.options.entries (length h.plan.machine.log) full;
    }

-- ---- a chooser draws

pub proposed_keeps : {X : Type 0} (w : Written) (m : State) (r : Result X Stop) → w.machine.spoiled ≡ false → Proposes w.machine r m → HasSameLog w (record w { machine = m })
proposed_keeps w m (Ok x) unspoiled proposes = record { log = ap (λ (s : State). s.log) proposes.1; model = ap (λ (s : State). s.model) proposes.1; signs = refl }
proposed_keeps w m (Err stop.Spoiled) unspoiled proposes = absurd (let h : true ≡ false = sym proposes.0 ∙ unspoiled in cc)
proposed_keeps w m (Err stop.NotNow) unspoiled proposes = absurd proposes
proposed_keeps w m (Err stop.LogFull) unspoiled proposes = absurd proposes
proposed_keeps w m (Err stop.Memory) unspoiled proposes = record { log = proposes.1.log; model = proposes.1.model; signs = refl }

pub written_kept : (rs : List State) (old new : Written) → IsWritten rs old → HasSameLog old new → IsWritten rs new
written_kept rs old new is same = record {
  behind = all_go_on old.machine new.machine rs same.model (prefix_of_same old.machine.log new.machine.log (sym same.log)) is.behind;
  tied = tied_same old new.machine new.signs is.tied same.log same.signs;
}

-- ---- what is repaired

-- the only reason left
only_stuck : (ks : List Conflict) (spent stuck : Bool) (why : Reason) → reason_by ks spent false ≡ None → reason_by ks spent stuck ≡ Some why → stuck ≡ true
only_stuck [] spent stuck why plain reason = absurd (cc)
only_stuck (k ∷ ks) true stuck why plain reason = absurd (cc)
only_stuck (k ∷ ks) false true why plain reason = refl
only_stuck (k ∷ ks) false false why plain reason = absurd (cc)

none_where_stuck : (s : PlanState) (p : Option Proposal) → is_stuck s ≡ true → IsProposal s p → p ≡ None
none_where_stuck s None stuck legal = refl
none_where_stuck s (Some p) stuck legal = absurd (let h : true ≡ false = sym stuck ∙ not_stuck s p legal in cc)

pub seeded_is_proposal : (s : PlanState) (g : Lcg) → IsProposal s (seeded_pick s g)
unfolding seeded_pick
seeded_is_proposal s g = drawn_is_proposal s (draw_of g)

-- what a world's entry is to be
abbrev by : Lcg → Lcg → World → Entry → Type 0
by g g2 w e = RepairsAtOnce g g2 w e.event e.reply

pub fixed_at_once : (a : Author) (old : Held) (w : Written) (g g2 : Lcg) (q : Proposal) (n : ℕ) → MayRepair old → RepairsSigned seeded words_drawn a old.plan g (Ok (repaired.Fixed q)) w g2 → n + 1 ≡ length w.machine.log
    → RepairsIn a g old (Ok (looked.Settled (acted.Did n))) g2 (with_plan w old)
fixed_at_once a old w g g2 q n may did last =
    took_one (by g g2) a old w (event.Fix q.conflict q.mv) reply.Done n may.going.running did.0.3 did.0.4 did.1 last (sym did.0.1.0, refl, did.0.1.1)

pub stuck_at_once : (a : Author) (old : Held) (w w2 : Written) (g g2 g3 : Lcg) (why : Reason) (n : ℕ) → MayRepair old → RepairsSigned seeded words_drawn a old.plan g (Ok (repaired.Rested why)) w g2 → HasSameLog w w2 → words_drawn g2 g3
    → n + 1 ≡ length w2.machine.log → RepairsIn a g old (Ok (looked.Settled (acted.Did n))) g3 (with_plan w2 old)
stuck_at_once a old w w2 g g2 g3 why n may did same drew last =
    let s = old.plan.machine.world in
    let stuck : is_stuck s.state ≡ true = only_stuck (conflicts_of s.state) (s.turn == s.options.turns) (is_stuck s.state) why may.asks.2 did.0.0 in
    let none : seeded_pick s.state g ≡ None = none_where_stuck s.state (seeded_pick s.state g) stuck (seeded_is_proposal s.state g) in
    let one = took_one (by g g3) a old w event.Rest (reply.Rested why) n may.going.running did.0.1 did.0.2 did.1 (last ∙ ap length same.log) (none, drew ∙ ap seeded_after did.0.3) in
    record {
      entry = one.entry;
      unspoiled = one.unspoiled;
      going = one.going;
      log = same.log ∙ one.log;
      model = same.model ∙ one.model;
      signs = same.signs ∙ one.signs;
      same = refl;
      place = one.place;
      step = one.step;
      by = one.by;
    }

asked_once : (w : World) (g g2 : Lcg) → mending.IsAskedAtMost words_drawn w g g2 → (g2 ≡ g) ⊎ (g2 ≡ seeded_after g)
asked_once w g g2 (inl same) = inl same
asked_once w g g2 (inr asked) = inr asked.2

pub repair_stops : (a : Author) (old : Held) (w : Written) (g g2 : Lcg) (s : Stop) → MayRepair old → RepairsSigned seeded words_drawn a old.plan g (Err s) w g2 → RepairsIn a g old (Err s) g2 (with_plan w old)
repair_stops a old w g g2 stop.Spoiled may answers = absurd (let h : true ≡ false = sym answers.0.0 ∙ may.going.unspoiled in cc)
repair_stops a old w g g2 stop.NotNow may answers = absurd (let h : true ≡ false = sym may.asks.1 ∙ answers.0.1 in cc)
repair_stops a old w g g2 stop.LogFull may answers =
    let full : old.plan.machine.world.options.entries ≤ length old.plan.machine.log = answers.0.2 in
    let room : length old.plan.machine.log < old.plan.machine.world.options.entries = may.room in
    absurd (omega (arith, full, room))
repair_stops a old w g g2 stop.Memory may (inl answers) =
    (inl (spoils_held old w answers.0.0 answers.0.1 answers.1), asked_once old.plan.machine.world g g2 answers.0.2)
repair_stops a old w g g2 stop.Memory may (inr same) = (inr (may.going.unspoiled, same_plan old w same.0), inl same.1)
