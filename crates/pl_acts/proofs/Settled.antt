-- What comes of a planner's second turn.
use Rattle.std.proofs.Common.{◌≡◌, ℕ, ◌+◌, ◌<◌, List, [], ◌∷◌, length, Bool, true, false, Option, Some, None, Ok, Err, refl, sym, ◌∙◌, ◌⊎◌, inl, inr, eq-eqb}
use Rattle.std.specs.Prelude.{not, ◌&&◌, nat_lt, is_some, ◌==◌}
use Rattle.std.proofs.lemmas.Bool.{lt-ltb}
use Rattle.pl_marks.specs.declared.author.Author.{Author}
use Rattle.pl_conflict.specs.declared.conflict.Conflict.{Conflict}
use Rattle.pl_entry.specs.declared.event.Event.TheVariants as event
use Rattle.pl_entry.specs.declared.reply.Reply.{Reply}
use Rattle.pl_entry.specs.declared.reply.Reply.TheVariants as reply
use Rattle.pl_entry.specs.declared.entry.Entry.{Entry}
use Rattle.rand_pcg.specs.Lcg.{Lcg}
use Rattle.pl_semantics.specs.Conflicts.{conflicts_of}
use Rattle.pl_semantics.specs.Legal.{is_stuck}
use Rattle.pl_cand.specs.declared.proposal.Proposal.{Proposal}
use Rattle.pl_choose.specs.Picks.{seeded_pick, seeded_after}
use Rattle.pl_machine.specs.declared.stop.Stop.{Stop}
use Rattle.pl_machine.specs.declared.stop.Stop.TheVariants as stop
use Rattle.pl_machine.specs.declared.repaired.Repaired.{Repaired}
use Rattle.pl_machine.specs.declared.repaired.Repaired.TheVariants as repaired
use Rattle.pl_machine.specs.World.{World, reason_by, reason_of}
use Rattle.pl_machine.specs.Solo.{Picks, Drawn}
use Rattle.pl_machine.specs.Mending as mending
use Rattle.pl_machine.specs.Mending.{is_repairing, HasRepaired, RepairsOnce}
use Rattle.pl_acts.specs.declared.held.Held.{Held}
use Rattle.pl_acts.specs.declared.role.Acted.TheVariants as acted
use Rattle.pl_acts.specs.Signing.{Written, SignedAnswers, RepairsSigned}
use Rattle.pl_acts.specs.Inside.{Settles, SettlesIn}
use Rattle.pl_acts.proofs.Answering.{with_plan, took_one, same_plan, same_held, spoils_held, wants_held}

-- what the seeded chooser proposes, and its generator behind it
abbrev pub seeded : Picks Lcg
seeded g w p g2 = (p ≡ seeded_pick w g) × (g2 ≡ seeded_after g)

abbrev pub words_drawn : Drawn Lcg
words_drawn g g2 = g2 ≡ seeded_after g

-- what a world's entry is to be
abbrev by : Lcg → Option Proposal → Lcg → World → Entry → Type 0
by g p g2 w e = Settles g p g2 w e.event e.reply

-- why a planner repairs on the standing plan
abbrev pub IsFree : Option Proposal → World → Type 0
IsFree p w = (p ≡ None) ⊎ (w.turn ≡ w.options.turns)

-- spent turns are a reason to rest
spent_rests : (ks : List Conflict) (spent stuck : Bool) → spent ≡ true → reason_by ks spent stuck ≡ None → true ≡ false
spent_rests [] spent stuck e none = absurd (cc)
spent_rests (k ∷ ks) true stuck e none = absurd (cc)
spent_rests (k ∷ ks) false stuck e none = absurd (cc)

none_proposed : (p : Option Proposal) (w : World) → IsFree p w → reason_of w ≡ None → p ≡ None
none_proposed p w (inl none) reason = none
none_proposed p w (inr spent) reason =
    absurd (let h : true ≡ false = spent_rests (conflicts_of w.state) (w.turn == w.options.turns) (is_stuck w.state) (eq-eqb w.turn w.options.turns spent) reason in cc)

pub repaired_once : (a : Author) (old : Held) (w : Written) (g g2 : Lcg) (p : Option Proposal) (done : Repaired) (n : ℕ) → old.plan.machine.world.done ≡ false → is_some old.stopper ≡ false → is_repairing old.plan.machine.world ≡ true → IsFree p old.plan.machine.world
    → RepairsSigned seeded words_drawn a old.plan g (Ok done) w g2 → n + 1 ≡ length w.machine.log → SettlesIn a g p old (Ok (acted.Did n)) g2 (with_plan w old)
repaired_once a old w g g2 p (repaired.Fixed q) n going running repairing free did last = (
  took_one (by g p g2) a old w (event.Fix q.conflict q.mv) reply.Done n running did.0.3 did.0.4 did.1 last (inr (none_proposed p old.plan.machine.world free did.0.0, sym did.0.1.0, did.0.1.1, refl)),
  going,
  repairing,
)
repaired_once a old w g g2 p (repaired.Rested why) n going running repairing free did last =
    (took_one (by g p g2) a old w event.Rest (reply.Rested why) n running did.0.1 did.0.2 did.1 last (free, did.0.3), going, repairing)

asked_again : (p : Option Proposal) (w : World) (g g2 : Lcg) → IsFree p w → mending.IsAskedAtMost words_drawn w g g2
    → (g2 ≡ g) ⊎ ((p ≡ None) × (is_repairing w ≡ true) × (reason_of w ≡ None) × (g2 ≡ seeded_after g))
asked_again p w g g2 free (inl same) = inl same
asked_again p w g g2 free (inr asked) = inr (none_proposed p w free asked.1, asked.0, asked.1, asked.2)

pub repair_stops : (a : Author) (old : Held) (w : Written) (g g2 : Lcg) (p : Option Proposal) (s : Stop) → old.plan.machine.spoiled ≡ false → old.plan.machine.world.done ≡ false → is_some old.stopper ≡ false → is_repairing old.plan.machine.world ≡ true
    → IsFree p old.plan.machine.world → RepairsSigned seeded words_drawn a old.plan g (Err s) w g2 → SettlesIn a g p old (Err s) g2 (with_plan w old)
repair_stops a old w g g2 p stop.Spoiled unspoiled going running repairing free answers = (answers.0.0, same_held old w answers.0.1 answers.1, answers.0.2)
repair_stops a old w g g2 p stop.NotNow unspoiled going running repairing free answers = absurd (let h : true ≡ false = sym repairing ∙ answers.0.1 in cc)
repair_stops a old w g g2 p stop.LogFull unspoiled going running repairing free answers =
    (record { unspoiled = unspoiled; going = going; running = running }, repairing, answers.0.2, same_held old w answers.0.3 answers.1, answers.0.4)
repair_stops a old w g g2 p stop.Memory unspoiled going running repairing free (inl answers) =
    (inl (spoils_held old w answers.0.0 answers.0.1 answers.1), asked_again p old.plan.machine.world g g2 free answers.0.2)
repair_stops a old w g g2 p stop.Memory unspoiled going running repairing free (inr same) = (inr (unspoiled, same_plan old w same.0), inl same.1)

-- ---- what was proposed before

pub fixed : (a : Author) (old : Held) (w : Written) (g : Lcg) (q : Proposal) (r : Reply) (n : ℕ) → old.plan.machine.world.done ≡ false → is_some old.stopper ≡ false → is_repairing old.plan.machine.world ≡ true
    → SignedAnswers a old.plan (event.Fix q.conflict q.mv) (Ok r) w → n + 1 ≡ length w.machine.log → SettlesIn a g (Some q) old (Ok (acted.Did n)) g (with_plan w old)
fixed a old w g q r n going running repairing answers last =
    (took_one (by g (Some q) g) a old w (event.Fix q.conflict q.mv) r n running answers.0.0 answers.0.1 answers.1 last (inl (refl, refl)), going, repairing)

may_fix : (closed rested b : Bool) → (not closed && not rested) ≡ true → b ≡ true → (not closed && (not rested && b)) ≡ true
may_fix true rested b e f = absurd (cc)
may_fix false true b e f = absurd (cc)
may_fix false false b e f = f

pub fix_stops : (a : Author) (old : Held) (p : Written) (g : Lcg) (q : Proposal) (s : Stop) → old.plan.machine.spoiled ≡ false → old.plan.machine.world.done ≡ false → is_some old.stopper ≡ false → is_repairing old.plan.machine.world ≡ true
    → old.plan.machine.world.turn < old.plan.machine.world.options.turns → SignedAnswers a old.plan (event.Fix q.conflict q.mv) (Err s) p → SettlesIn a g (Some q) old (Err s) g (with_plan p old)
fix_stops a old p g q stop.Spoiled unspoiled going running repairing turns answers = (answers.0.0, same_held old p answers.0.1 answers.1, refl)
fix_stops a old p g q stop.NotNow unspoiled going running repairing turns answers =
    let w = old.plan.machine.world in
    absurd (let h : true ≡ false = sym (may_fix w.closed w.rested (nat_lt w.turn w.options.turns) repairing (lt-ltb w.turn w.options.turns turns)) ∙ answers.0.1 in cc)
fix_stops a old p g q stop.LogFull unspoiled going running repairing turns answers =
    (record { unspoiled = unspoiled; going = going; running = running }, repairing, answers.0.2, same_held old p answers.0.3 answers.1, refl)
fix_stops a old p g q stop.Memory unspoiled going running repairing turns answers = (wants_held a old p (event.Fix q.conflict q.mv) unspoiled answers, inl refl)
