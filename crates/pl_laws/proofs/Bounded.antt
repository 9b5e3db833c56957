-- How long the log of a run is.
use Rattle.std.proofs.Common.{◌≡◌, ℕ, ◌+◌, ◌*◌, ◌≤◌, List, length, Option, ap, subst, length-append, arith}
use Rattle.std.proofs.Math.Nat.{mul-le-mul_right}
use Rattle.pl_model.specs.declared.whole.Model.{Model}
use Rattle.pl_model.specs.Checked.{IsChecked}
use Rattle.pl_facts.specs.declared.options.Options.{Options}
use Rattle.pl_entry.specs.declared.entry.Entry.{Entry}
use Rattle.pl_input.specs.Words.{split_of}
use Rattle.pl_machine.specs.Legal.{Legal, options_of}
use Rattle.pl_machine.specs.Finished.{inputs_of}
use Rattle.pl_check.proofs.Apart.{checked_model}
use Rattle.pl_main.specs.Solo.{Rule, FollowsAll}
use Rattle.pl_main.specs.Endings.{IsFull}
use Rattle.pl_main.specs.RunKinds.{run_by}
use Rattle.pl_laws.proofs.Budgets.{bounded}
use Rattle.pl_laws.proofs.Chosen.{CommitsAsChosen, rule_chosen}

pub rule_bounded : (R : Rule) → CommitsAsChosen R → (m : Model) → IsChecked m → (log : List Entry) → Legal m log → FollowsAll R m log
    → length log ≤ 10001 + length (inputs_of log) * ((options_of log).turns + 4)
rule_bounded R commits m checked log legal on = bounded m checked log legal (rule_chosen R commits m log on)

pub full_bounded : (R : Rule) → CommitsAsChosen R → (turns : ℕ) (input : List ℕ) (left held now : Option (List ℕ)) → IsFull (run_by R turns) input left held now
    → 250000 ≤ 10001 + length (split_of input).messages * (turns + 4)
full_bounded R commits turns input left held now full =
    let checked : IsChecked full.model = checked_model full.words full.model full.accepted in
    let long : length full.log ≤ 10001 + length (inputs_of full.log) * ((options_of full.log).turns + 4) = rule_bounded R commits full.model checked full.log full.says.legal full.says.solo in
    let short : length full.log ≤ 10001 + length (inputs_of full.log) * (turns + 4) = subst (λ (o : Options). length full.log ≤ 10001 + length (inputs_of full.log) * (o.turns + 4)) full.says.options long in
    let all = ap (λ (ms : List (Option (List ℕ))). length ms) full.messages in
    let few : length (inputs_of full.log) ≤ length (split_of input).messages = omega (arith, all, length-append (inputs_of full.log) full.unanswered) in
    let more : length (inputs_of full.log) * (turns + 4) ≤ length (split_of input).messages * (turns + 4) = mul-le-mul_right (turns + 4) few in
    let whole : length full.log ≡ 250000 = full.full in
    omega (arith, short, more, whole)
