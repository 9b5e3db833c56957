-- What the executive of a team commits is its choice, so the log of a run of a team is bounded.
use Rattle.std.proofs.Common.{◌≡◌, ℕ, ◌+◌, ◌*◌, ◌≤◌, List, [], ◌∷◌, ◌++◌, length, true, Option, Some, None, refl, sym, ap, subst, length-append, arith}
use Rattle.std.proofs.Math.Nat.{mul-le-mul_left, mul-le-mul_right}
use Rattle.pl_model.specs.declared.whole.Model.{Model}
use Rattle.pl_model.specs.Checked.{IsChecked}
use Rattle.pl_facts.specs.declared.options.Options.{Options}
use Rattle.pl_entry.specs.declared.event.Event.{Event}
use Rattle.pl_entry.specs.declared.event.Event.TheVariants as event
use Rattle.pl_entry.specs.declared.entry.Entry.{Entry}
use Rattle.pl_machine.specs.declared.choice.Choice.{Choice}
use Rattle.pl_machine.specs.declared.choice.Choice.TheVariants as choice
use Rattle.pl_machine.specs.World.{World, fresh_world}
use Rattle.pl_machine.specs.Choices.{exec_choice_of}
use Rattle.pl_machine.specs.Legal.{Legal, opening, world_from, world_of}
use Rattle.pl_machine.specs.Finished.{inputs_of}
use Rattle.pl_input.specs.Words.{split_of}
use Rattle.pl_machine.proofs.Runs.{world_from_push}
use Rattle.pl_check.proofs.Apart.{checked_model}
use Rattle.pl_laws.specs.Laws.{IsExecutiveChoice, executive_from, AreCommitsOfExecutive}
use Rattle.pl_laws.proofs.PairBudgets.{pair_bounded}
use Rattle.pl_acts.specs.Roles.{is_executed, IsChosen}
use Rattle.pl_pair.specs.declared.duty.Duty.{Duty}
use Rattle.pl_pair.specs.Chosen.{AreChosen}
use Rattle.pl_main.specs.Top.{program_options}
use Rattle.pl_main.specs.Endings.{IsFull}
use Rattle.pl_main.specs.RunKinds.{IsTeamLog, TeamTail, team_run}

-- an event that was chosen, and is a commit
commit_is : (o : Option Choice) (h : ℕ) → IsChosen o (event.Commit h) → o ≡ Some (choice.Commit h)
commit_is None h is = absurd is
commit_is (Some choice.Dispatch) h is = absurd (let d : event.Commit h ≡ event.Dispatch = is in (cc))
commit_is (Some (choice.Commit k)) h is = (let d : event.Commit h ≡ event.Commit k = is in (cc))
commit_is (Some choice.Close) h is = absurd (let d : event.Commit h ≡ event.Close = is in (cc))

one_chosen : (w : World) (e : Event) → (is_executed e ≡ true → IsChosen (exec_choice_of w) e) → IsExecutiveChoice w e
one_chosen w (event.Opened o) chosen = tt
one_chosen w (event.Input line) chosen = tt
one_chosen w (event.Fix k m) chosen = tt
one_chosen w event.Rest chosen = tt
one_chosen w (event.Commit h) chosen = commit_is (exec_choice_of w) h (chosen refl)
one_chosen w event.Dispatch chosen = tt
one_chosen w event.Close chosen = tt

all_chosen : (m : Model) (o : Options) (before es : List Entry) → AreChosen m (opening o ∷ before) es → executive_from (world_from (fresh_world m o) before) es
unfolding world_of
all_chosen m o before [] chosen = tt
all_chosen m o before (e ∷ es) chosen = (
  one_chosen (world_from (fresh_world m o) before) e.event chosen.0,
  subst (λ (w : World). executive_from w es) (world_from_push (fresh_world m o) before e) (all_chosen m o (before ++ e ∷ []) es chosen.1),
)

pub team_bounded : (m : Model) → IsChecked m → (turns : ℕ) (duties : List Duty) (log : List Entry) → IsTeamLog turns duties m log → length log ≤ 10001 + length (inputs_of log) * (2 * turns + 6)
team_bounded m checked turns duties log team =
    let o = program_options turns in
    let legal : Legal m (opening o ∷ team.entries) = subst (λ (l : List Entry). Legal m l) team.opened team.history.legal in
    let chosen : AreCommitsOfExecutive m (opening o ∷ team.entries) = all_chosen m o [] team.entries team.chosen in
    let n : ℕ = length (inputs_of team.entries) in
    let short : length (opening o ∷ team.entries) ≤ 10001 + n * (2 * turns + 5) = pair_bounded m checked (opening o ∷ team.entries) legal chosen in
    let more : n * (2 * turns + 5) ≤ n * (2 * turns + 6) = mul-le-mul_left n (omega arith) in
    subst (λ (l : List Entry). length l ≤ 10001 + length (inputs_of l) * (2 * turns + 6)) (sym team.opened) (omega (arith, short, more))

pub team_full_bounded : (turns : ℕ) (duties : List Duty) (tail : TeamTail turns duties) (input : List ℕ) (left held now : Option (List ℕ)) → IsFull (team_run turns duties tail) input left held now
    → 250000 ≤ 10001 + length (split_of input).messages * (2 * turns + 6)
team_full_bounded turns duties tail input left held now full =
    let checked : IsChecked full.model = checked_model full.words full.model full.accepted in
    let short : length full.log ≤ 10001 + length (inputs_of full.log) * (2 * turns + 6) = team_bounded full.model checked turns duties full.log full.says in
    let all = ap (λ (ms : List (Option (List ℕ))). length ms) full.messages in
    let few : length (inputs_of full.log) ≤ length (split_of input).messages = omega (arith, all, length-append (inputs_of full.log) full.unanswered) in
    let more : length (inputs_of full.log) * (2 * turns + 6) ≤ length (split_of input).messages * (2 * turns + 6) = mul-le-mul_right (2 * turns + 6) few in
    let whole : length full.log ≡ 250000 = full.full in
    omega (arith, short, more, whole)
