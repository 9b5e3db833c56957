-- What a planner's look comes to.
use Rattle.std.proofs.Common.{◌≡◌, ℕ, ◌+◌, List, [], ◌∷◌, length, Bool, true, false, Option, None, Ok, Err, refl, sym, ◌∙◌, inr}
use Rattle.std.specs.Prelude.{not, ◌&&◌, is_some, nat_le, ◌==◌}
use Rattle.std.proofs.lemmas.Bool.{leb-true, leb-false}
use Rattle.pl_conflict.specs.declared.conflict.Conflict.{Conflict}
use Rattle.pl_marks.specs.declared.author.Author.{Author}
use Rattle.pl_entry.specs.declared.event.Event.TheVariants as event
use Rattle.pl_entry.specs.declared.reply.Reply.{Reply}
use Rattle.pl_entry.specs.declared.reply.Reason.{Reason}
use Rattle.pl_semantics.specs.Conflicts.{conflicts_of}
use Rattle.pl_semantics.specs.Legal.{is_stuck}
use Rattle.pl_machine.specs.declared.stop.Stop.{Stop}
use Rattle.pl_machine.specs.declared.stop.Stop.TheVariants as stop
use Rattle.pl_machine.specs.World.{World, reason_by, plain_reason_of, reason_of}
use Rattle.pl_machine.specs.Step.{is_enabled}
use Rattle.pl_machine.specs.Mending.{is_repairing}
use Rattle.pl_acts.specs.declared.held.Held.{Held}
use Rattle.pl_acts.specs.declared.role.Acted.TheVariants as acted
use Rattle.pl_acts.specs.declared.look.Looked.TheVariants as looked
use Rattle.pl_acts.specs.declared.draft.Draft.{Draft}
use Rattle.pl_acts.specs.Replicas.{IsDraft}
use Rattle.pl_acts.specs.Signing.{Written, SignedAnswers}
use Rattle.pl_acts.specs.Inside.{RestsAtOnce, LooksIn}
use Rattle.pl_acts.proofs.Answering.{with_plan, took_one, same_plan, same_held, wants_held}

pub rested_at_once : (a : Author) (old : Held) (p : Written) (r : Reply) (n : ℕ) → old.plan.machine.world.done ≡ false → is_some old.stopper ≡ false → is_repairing old.plan.machine.world ≡ true → is_some (plain_reason_of old.plan.machine.world) ≡ true
    → SignedAnswers a old.plan event.Rest (Ok r) p → n + 1 ≡ length p.machine.log → LooksIn a old (Ok (looked.Settled (acted.Did n))) (with_plan p old)
rested_at_once a old p r n going running repairing plain answers last =
    (took_one RestsAtOnce a old p event.Rest r n running answers.0.0 answers.0.1 answers.1 last (refl, plain), going, repairing)

-- a plain reason is a reason
still_reason : (ks : List Conflict) (spent stuck : Bool) → is_some (reason_by ks spent false) ≡ true → is_some (reason_by ks spent stuck) ≡ true
still_reason [] spent stuck e = refl
still_reason (k ∷ ks) true stuck e = refl
still_reason (k ∷ ks) false stuck e = absurd (cc)

may_rest : (closed rested : Bool) (o : Option Reason) → (not closed && not rested) ≡ true → is_some o ≡ true → (not closed && (not rested && is_some o)) ≡ true
may_rest true rested o e f = absurd (cc)
may_rest false true o e f = absurd (cc)
may_rest false false o e f = f

rest_enabled : (w : World) → is_repairing w ≡ true → is_some (plain_reason_of w) ≡ true → is_enabled w event.Rest ≡ true
rest_enabled w repairing plain = may_rest w.closed w.rested (reason_of w) repairing (still_reason (conflicts_of w.state) (w.turn == w.options.turns) (is_stuck w.state) plain)

pub rest_stops : (a : Author) (old : Held) (p : Written) (s : Stop) → old.plan.machine.spoiled ≡ false → old.plan.machine.world.done ≡ false → is_some old.stopper ≡ false → is_repairing old.plan.machine.world ≡ true → is_some (plain_reason_of old.plan.machine.world) ≡ true
    → SignedAnswers a old.plan event.Rest (Err s) p → LooksIn a old (Err s) (with_plan p old)
rest_stops a old p stop.Spoiled unspoiled going running repairing plain answers = (answers.0.0, same_held old p answers.0.1 answers.1)
rest_stops a old p stop.NotNow unspoiled going running repairing plain answers = absurd (let h : true ≡ false = sym (rest_enabled old.plan.machine.world repairing plain) ∙ answers.0.1 in cc)
rest_stops a old p stop.LogFull unspoiled going running repairing plain answers = (record { unspoiled = unspoiled; going = going; running = running }, repairing, answers.0.2, same_held old p answers.0.3 answers.1)
rest_stops a old p stop.Memory unspoiled going running repairing plain answers = wants_held a old p event.Rest unspoiled answers

-- ---- a replica is lent

pub lent : (a : Author) (old : Held) (p : Written) (draft : Draft) → old.plan.machine.spoiled ≡ false → old.plan.machine.world.done ≡ false → is_some old.stopper ≡ false → is_repairing old.plan.machine.world ≡ true → plain_reason_of old.plan.machine.world ≡ None
    → nat_le old.plan.machine.world.options.entries (length old.plan.machine.log) ≡ false → p ≡ old.plan → IsDraft old.plan.machine draft → LooksIn a old (Ok (looked.Open draft)) (with_plan p old)
lent a old p draft unspoiled going running repairing plain room same is =
    (record { unspoiled = unspoiled; going = going; running = running }, (going, repairing, plain), leb-false old.plan.machine.world.options.entries (length old.plan.machine.log) room, is, same_plan old p same)

pub lend_fails : (a : Author) (old : Held) (p : Written) → old.plan.machine.spoiled ≡ false → p ≡ old.plan → LooksIn a old (Err stop.Memory) (with_plan p old)
lend_fails a old p unspoiled same = inr (unspoiled, same_plan old p same)

pub is_full : (a : Author) (old : Held) → old.plan.machine.spoiled ≡ false → old.plan.machine.world.done ≡ false → is_some old.stopper ≡ false → is_repairing old.plan.machine.world ≡ true → nat_le old.plan.machine.world.options.entries (length old.plan.machine.log) ≡ true
    → LooksIn a old (Err stop.LogFull) old
is_full a old unspoiled going running repairing full =
    (record { unspoiled = unspoiled; going = going; running = running }, repairing, leb-true old.plan.machine.world.options.entries (length old.plan.machine.log) full, refl)
