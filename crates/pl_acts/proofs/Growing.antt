-- What is done inside a turn adds one item to the history, or none.
use Rattle.std.proofs.Common.{◌≡◌, ℕ, List, [], ◌∷◌, ◌++◌, Bool, true, false, Option, Some, Result, Ok, Err, refl, sym, ◌∙◌, ap, subst, inl, inr}
use Rattle.std.specs.Prelude.{is_some}
use mathlib.Core.List.{IsPrefix}
use Rattle.pl_turn.specs.History.{IsSameOrOneMore}
use Rattle.pl_turn.proofs.Histories.{prefix_of_same}
use Rattle.pl_marks.specs.declared.author.Author.{Author}
use Rattle.pl_marks.specs.Marks.{Signed}
use Rattle.pl_model.specs.declared.whole.Model.{Model}
use Rattle.pl_entry.specs.declared.entry.Entry.{Entry}
use Rattle.rand_pcg.specs.Lcg.{Lcg}
use Rattle.pl_cand.specs.declared.proposal.Proposal.{Proposal}
use Rattle.pl_machine.specs.declared.stop.Stop.{Stop}
use Rattle.pl_machine.specs.declared.stop.Stop.TheVariants as stop
use Rattle.pl_machine.specs.World.{World}
use Rattle.pl_acts.specs.declared.noted.Noted.{Noted}
use Rattle.pl_acts.specs.declared.noted.Noted.TheVariants.{Made, Stopped}
use Rattle.pl_acts.specs.declared.held.Held.{Held}
use Rattle.pl_acts.specs.declared.role.Acted.{Acted}
use Rattle.pl_acts.specs.declared.role.Acted.TheVariants as acted
use Rattle.pl_acts.specs.Items.{signed_on, items_of, model_in, opening_in}
use Rattle.pl_acts.specs.declared.look.Looked.{Looked}
use Rattle.pl_acts.specs.declared.look.Looked.TheVariants as looked
use Rattle.pl_acts.specs.Roles.{IsInputOf}
use Rattle.pl_acts.specs.Signing.{Written}
use Rattle.pl_acts.specs.Inside.{signs_in, items_in, IsSound, Logs, KeepsLog, FeedsIn, Wants, Executes, ExecutesIn, RestsAtOnce, LooksIn, Settles, SettlesIn, RepairsAtOnce, RepairsIn, LooksOrRepairs}
use Rattle.pl_acts.specs.Seen.{IsPlan}
use Rattle.pl_acts.proofs.Items.{model_in_items, model_in_prefix, opening_in_items, opening_in_prefix, items_push, items_stopped}

-- ---- the lists

pub keeps_items : (old new : Held) → KeepsLog old new → items_in new ≡ items_in old
keeps_items old new keeps =
    ap (λ (m : Model). items_of m new.plan.machine.log (signs_in new)) keeps.model
    ∙ ap (λ (log : List Entry). items_of old.plan.machine.model log (signs_in new)) keeps.log
    ∙ ap (λ (s : Signed). items_of old.plan.machine.model old.plan.machine.log (record { by = s; stopper = new.stopper })) keeps.signs
    ∙ ap (λ (s : Option Author). items_of old.plan.machine.model old.plan.machine.log (record { by = old.plan.signs; stopper = s })) keeps.same

pub logs_items : (By : World → Entry → Type 0) (a : Author) (old new : Held) (n : ℕ) → IsSound old.plan → (logs : Logs By a old new n) → items_in new ≡ items_in old ++ Made (Some a) logs.entry ∷ []
logs_items By a old new n sound logs =
    ap (λ (m : Model). items_of m new.plan.machine.log (signs_in new)) logs.model
    ∙ ap (λ (log : List Entry). items_of old.plan.machine.model log (signs_in new)) logs.log
    ∙ ap (λ (s : Signed). items_of old.plan.machine.model (old.plan.machine.log ++ logs.entry ∷ []) (record { by = s; stopper = new.stopper })) logs.signs
    ∙ ap (λ (s : Option Author). items_of old.plan.machine.model (old.plan.machine.log ++ logs.entry ∷ []) (record { by = signed_on a old.plan.signs; stopper = s })) logs.same
    ∙ items_push old.plan.machine.model old.plan.machine.log (signs_in old) a logs.entry sound.legal logs.going sound.tied.some sound.tied.each

pub same_held : (old new : Held) → new ≡ old → KeepsLog old new
same_held old new e = record { log = ap (λ (h : Held). h.plan.machine.log) e; model = ap (λ (h : Held). h.plan.machine.model) e; signs = ap (λ (h : Held). h.plan.signs) e; same = ap (λ (h : Held). h.stopper) e }

grows_same : (seen : List Noted) (old new : Held) → seen ≡ items_in old → KeepsLog old new → IsSameOrOneMore seen (items_in new)
grows_same seen old new found keeps = inl (keeps_items old new keeps ∙ sym found)

grows_more : (By : World → Entry → Type 0) (a : Author) (seen : List Noted) (old new : Held) (n : ℕ) → seen ≡ items_in old → IsSound old.plan → Logs By a old new n → IsSameOrOneMore seen (items_in new)
grows_more By a seen old new n found sound logs =
    inr (Made (Some a) logs.entry, logs_items By a old new n sound logs ∙ ap (λ (xs : List Noted). xs ++ Made (Some a) logs.entry ∷ []) (sym found))

wants_keeps : (old new : Held) → Wants old new → KeepsLog old new
wants_keeps old new (inl spoiled) = spoiled.1
wants_keeps old new (inr same) = same_held old new same.1

pub grows_fed : (a : Author) (line : Option (List ℕ)) (seen : List Noted) (old new : Held) (r : Result ℕ Stop) → seen ≡ items_in old → IsSound old.plan → FeedsIn a line old r new → IsSameOrOneMore seen (items_in new)
grows_fed a line seen old new (Ok n) found sound feeds = grows_more (IsInputOf line) a seen old new n found sound feeds
grows_fed a line seen old new (Err stop.Spoiled) found sound feeds = grows_same seen old new found (same_held old new feeds.1)
grows_fed a line seen old new (Err stop.NotNow) found sound feeds = grows_same seen old new found (same_held old new feeds.2)
grows_fed a line seen old new (Err stop.LogFull) found sound feeds = grows_same seen old new found (same_held old new feeds.3)
grows_fed a line seen old new (Err stop.Memory) found sound feeds = grows_same seen old new found (wants_keeps old new feeds)

pub grows_executed : (a : Author) (seen : List Noted) (old new : Held) (r : Result Acted Stop) → seen ≡ items_in old → IsSound old.plan → ExecutesIn a old r new → IsSameOrOneMore seen (items_in new)
grows_executed a seen old new (Ok (acted.Did n)) found sound acts = grows_more Executes a seen old new n found sound acts.0
grows_executed a seen old new (Ok acted.Nothing) found sound acts = grows_same seen old new found (same_held old new acts.2)
grows_executed a seen old new (Ok acted.Finished) found sound acts = grows_same seen old new found (same_held old new acts.2)
grows_executed a seen old new (Ok acted.Stopped) found sound acts = grows_same seen old new found (same_held old new acts.3)
grows_executed a seen old new (Err stop.Spoiled) found sound acts = grows_same seen old new found (same_held old new acts.1)
grows_executed a seen old new (Err stop.NotNow) found sound acts = absurd acts
grows_executed a seen old new (Err stop.LogFull) found sound acts = grows_same seen old new found (same_held old new acts.3)
grows_executed a seen old new (Err stop.Memory) found sound acts = grows_same seen old new found (wants_keeps old new acts)

pub grows_looked : (a : Author) (seen : List Noted) (old new : Held) (r : Result Looked Stop) → seen ≡ items_in old → IsSound old.plan → LooksIn a old r new → IsSameOrOneMore seen (items_in new)
grows_looked a seen old new (Ok (looked.Settled (acted.Did n))) found sound looks = grows_more RestsAtOnce a seen old new n found sound looks.0
grows_looked a seen old new (Ok (looked.Settled acted.Nothing)) found sound looks = grows_same seen old new found (same_held old new looks.2)
grows_looked a seen old new (Ok (looked.Settled acted.Finished)) found sound looks = grows_same seen old new found (same_held old new looks.2)
grows_looked a seen old new (Ok (looked.Settled acted.Stopped)) found sound looks = grows_same seen old new found (same_held old new looks.3)
grows_looked a seen old new (Ok (looked.Open draft)) found sound looks = grows_same seen old new found (same_held old new looks.4)
grows_looked a seen old new (Err stop.Spoiled) found sound looks = grows_same seen old new found (same_held old new looks.1)
grows_looked a seen old new (Err stop.NotNow) found sound looks = absurd looks
grows_looked a seen old new (Err stop.LogFull) found sound looks = grows_same seen old new found (same_held old new looks.3)
grows_looked a seen old new (Err stop.Memory) found sound looks = grows_same seen old new found (wants_keeps old new looks)

pub grows_settled : (a : Author) (g g2 : Lcg) (p : Option Proposal) (seen : List Noted) (old new : Held) (r : Result Acted Stop) → seen ≡ items_in old → IsSound old.plan → SettlesIn a g p old r g2 new → IsSameOrOneMore seen (items_in new)
grows_settled a g g2 p seen old new (Ok (acted.Did n)) found sound acts = grows_more (λ w e. Settles g p g2 w e.event e.reply) a seen old new n found sound acts.0
grows_settled a g g2 p seen old new (Ok acted.Nothing) found sound acts = grows_same seen old new found (same_held old new acts.2)
grows_settled a g g2 p seen old new (Ok acted.Finished) found sound acts = grows_same seen old new found (same_held old new acts.2)
grows_settled a g g2 p seen old new (Ok acted.Stopped) found sound acts = grows_same seen old new found (same_held old new acts.3)
grows_settled a g g2 p seen old new (Err stop.Spoiled) found sound acts = grows_same seen old new found (same_held old new acts.1)
grows_settled a g g2 p seen old new (Err stop.NotNow) found sound acts = absurd acts
grows_settled a g g2 p seen old new (Err stop.LogFull) found sound acts = grows_same seen old new found (same_held old new acts.3)
grows_settled a g g2 p seen old new (Err stop.Memory) found sound acts = grows_same seen old new found (wants_keeps old new acts.0)

pub grows_repaired : (a : Author) (g g2 : Lcg) (seen : List Noted) (old new : Held) (r : Result Looked Stop) → seen ≡ items_in old → IsSound old.plan → RepairsIn a g old r g2 new → IsSameOrOneMore seen (items_in new)
grows_repaired a g g2 seen old new (Ok (looked.Settled (acted.Did n))) found sound repairs = grows_more (λ w e. RepairsAtOnce g g2 w e.event e.reply) a seen old new n found sound repairs
grows_repaired a g g2 seen old new (Ok (looked.Settled acted.Nothing)) found sound repairs = absurd repairs
grows_repaired a g g2 seen old new (Ok (looked.Settled acted.Finished)) found sound repairs = absurd repairs
grows_repaired a g g2 seen old new (Ok (looked.Settled acted.Stopped)) found sound repairs = absurd repairs
grows_repaired a g g2 seen old new (Ok (looked.Open draft)) found sound repairs = absurd repairs
grows_repaired a g g2 seen old new (Err stop.Spoiled) found sound repairs = absurd repairs
grows_repaired a g g2 seen old new (Err stop.NotNow) found sound repairs = absurd repairs
grows_repaired a g g2 seen old new (Err stop.LogFull) found sound repairs = absurd repairs
grows_repaired a g g2 seen old new (Err stop.Memory) found sound repairs = grows_same seen old new found (wants_keeps old new repairs.0)

pub grows_either : (a : Author) (g g2 : Lcg) (seen : List Noted) (old new : Held) (r : Result Looked Stop) → seen ≡ items_in old → IsSound old.plan → LooksOrRepairs a g old r g2 new → IsSameOrOneMore seen (items_in new)
grows_either a g g2 seen old new r found sound (inl looks) = grows_looked a seen old new r found sound looks.0
grows_either a g g2 seen old new r found sound (inr repairs) = grows_repaired a g g2 seen old new r found sound repairs.1

-- the plan that was stopped, by whoever stopped it first
pub stopped_as : (old new : Held) (s : Option Author) → new.plan ≡ old.plan → new.stopper ≡ s → items_in new ≡ items_of old.plan.machine.model old.plan.machine.log (record (signs_in old) { stopper = s })
stopped_as old new s plan stopper =
    ap (λ (w : Written). items_of w.machine.model w.machine.log (record { by = w.signs; stopper = new.stopper })) plan
    ∙ ap (λ (s : Option Author). items_of old.plan.machine.model old.plan.machine.log (record { by = old.plan.signs; stopper = s })) stopper

pub stopped_first : (by : Author) (old new : Held) → new.plan ≡ old.plan → is_some old.stopper ≡ false → new.stopper ≡ Some by → items_in new ≡ items_in old ++ Stopped by ∷ []
stopped_first by old new plan going stopper = stopped_as old new (Some by) plan stopper ∙ items_stopped old.plan.machine.model old.plan.machine.log (signs_in old) by going

grows_stopped_by : (by : Author) (old new : Held) (t : Bool) → is_some old.stopper ≡ t → new.plan ≡ old.plan → (is_some old.stopper ≡ false → new.stopper ≡ Some by) → (is_some old.stopper ≡ true → new.stopper ≡ old.stopper)
    → IsSameOrOneMore (items_in old) (items_in new)
grows_stopped_by by old new true is plan first again = inl (stopped_as old new old.stopper plan (again is))
grows_stopped_by by old new false is plan first again = inr (Stopped by, stopped_first by old new plan is (first is))

pub grows_stopped : (by : Author) (seen : List Noted) (old new : Held) → seen ≡ items_in old → new.plan ≡ old.plan → (is_some old.stopper ≡ false → new.stopper ≡ Some by) → (is_some old.stopper ≡ true → new.stopper ≡ old.stopper)
    → IsSameOrOneMore seen (items_in new)
grows_stopped by seen old new found plan first again =
    let P : List Noted → Type 0 = λ xs. IsSameOrOneMore xs (items_in new) in
    subst P (sym found) (grows_stopped_by by old new (is_some old.stopper) refl plan first again)

pub grows_copied : (seen : List Noted) (old : Held) → seen ≡ items_in old → IsSameOrOneMore seen (items_in old)
grows_copied seen old found = inl (sym found)

-- ---- what a pass has seen

pub plan_in : (seen : List Noted) (h : Held) → seen ≡ items_in h → IsSound h.plan → IsPlan seen
plan_in seen h is sound = record { model = h.plan.machine.model; log = h.plan.machine.log; signs = signs_in h; legal = sound.legal; some = sound.tied.some; each = sound.tied.each; is = is }

pub some_model : (xs ys : List Noted) → IsPlan xs → IsPrefix xs ys → model_in ys ≡ model_in xs
some_model xs ys plan on =
    let here : model_in xs ≡ Some plan.model = ap model_in plan.is ∙ model_in_items plan.model plan.log plan.signs plan.legal in
    model_in_prefix xs ys plan.model on here ∙ sym here

pub some_opening : (xs ys : List Noted) → IsPlan xs → IsPrefix xs ys → opening_in ys ≡ opening_in xs
some_opening xs ys plan on =
    let here : opening_in xs ≡ Some plan.signs.by.opening = ap opening_in plan.is ∙ opening_in_items plan.model plan.log plan.signs plan.legal in
    opening_in_prefix xs ys plan.signs.by.opening on here ∙ sym here

pub grown_prefix : (xs ys : List Noted) → IsSameOrOneMore xs ys → IsPrefix xs ys
grown_prefix xs ys (inl same) = prefix_of_same xs ys (sym same)
grown_prefix xs ys (inr more) = (more.0 ∷ [], sym more.1)
