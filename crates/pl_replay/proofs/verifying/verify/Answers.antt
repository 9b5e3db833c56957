use Rattle.std.proofs.Common.{◌≡◌, ℕ, List, Option, refl, ap, subst, arith}
use Rattle.std.proofs.lemmas.Grind.{common_steps}
use Rattle.pl_io.specs.declared.errors.LineFault.TheVariants as fault
use Rattle.std.specs.Arc.{arc_value}
use Rattle.pl_model.specs.declared.whole.Model.{Model}
use Rattle.pl_facts.specs.declared.options.Options.{Options}
use Rattle.pl_journal.specs.Parsing.Journal.{IsLineOf}
use Rattle.pl_machine.specs.Legal.{opening}
use Rattle.pl_machine.specs.Sound.{State}
use Rattle.pl_replay.specs.Journals.{Opens}
use Rattle.pl_replay.proofs.Steps.{follows_opening, no_lines, wrong_first, stops_first, memory_first, gives_stops}
use Rattle.pl_replay.proofs.verifying.verify.Goals as goal

pub returns-in_err-line-clause-verdict : goal.returns-in_err-line-clause-verdict
returns-in_err-line-clause-verdict g c =
    gives_stops _ c.args.lines.now _ _ _ c.from_residual.result c.in_err-line.field-0.0 c.from_residual.ensures.1
    (stops_first _ c.in_err-line.field-0.0 c.args.lines.now c.next_message.new.lines _ _ c.requires.working c.in_err-line.ensures.message)

pub returns-in_default-clause-verdict : goal.returns-in_default-clause-verdict
returns-in_default-clause-verdict g c = no_lines _ c.args.lines.now c.next_message.new.lines _ _ (rw c.in_default.is at c.in_ok-line.ensures.message)

pub returns-in_err-options-clause-verdict : goal.returns-in_err-options-clause-verdict
returns-in_err-options-clause-verdict g c =
    gives_stops _ c.args.lines.now _ _ _ c.from_residual-in_err-options.result fault.Memory c.from_residual-in_err-options.ensures.1
    (memory_first _ fault.Memory c.args.lines.now c.next_message.new.lines _ _ refl c.requires.working)

pub fresh-requires-clause-options : goal.fresh-requires-clause-options
fresh-requires-clause-options g c =
    let line : c.bytes.result.now ≡ c.in-Some.line.bytes = grind (arith, common_steps) in
    let model : c.as_ref.result.now ≡ arc_value c.args.model = grind (arith, common_steps) in
    let opens : Opens (arc_value c.args.model) c.in-Some.line.bytes c.in_ok-options.field-0 = subst (λ (m : Model). Opens m c.in-Some.line.bytes c.in_ok-options.field-0) model (subst (λ (b : List ℕ). Opens c.as_ref.result.now b c.in_ok-options.field-0) line c.in_ok-options.ensures) in
    let is : IsLineOf (arc_value c.args.model) c.in-Some.line.bytes 0 (opening c.in-Some-2.options) = subst (λ (o : Option Options). Opens (arc_value c.args.model) c.in-Some.line.bytes o) c.in-Some-2.is opens in
    is.entry.event

pub returns-in_err-fresh-in-Some-2-clause-verdict : goal.returns-in_err-fresh-in-Some-2-clause-verdict
returns-in_err-fresh-in-Some-2-clause-verdict g c =
    gives_stops _ c.args.lines.now _ _ _ c.from_residual-in_err-fresh-in-Some-2.result fault.Memory c.from_residual-in_err-fresh-in-Some-2.ensures.1
    (memory_first _ fault.Memory c.args.lines.now c.next_message.new.lines _ _ refl c.requires.working)

pub returns-in_ok-fresh-in-Some-2-clause-verdict : goal.returns-in_ok-fresh-in-Some-2-clause-verdict
returns-in_ok-fresh-in-Some-2-clause-verdict g c =
    let line : c.bytes.result.now ≡ c.in-Some.line.bytes = grind (arith, common_steps) in
    let model : c.as_ref.result.now ≡ arc_value c.args.model = grind (arith, common_steps) in
    let opens : Opens (arc_value c.args.model) c.in-Some.line.bytes c.in_ok-options.field-0 = subst (λ (m : Model). Opens m c.in-Some.line.bytes c.in_ok-options.field-0) model (subst (λ (b : List ℕ). Opens c.as_ref.result.now b c.in_ok-options.field-0) line c.in_ok-options.ensures) in
    follows_opening (arc_value c.args.model) c.in-Some-2.options c.in_ok-fresh-in-Some-2.field-0 c.args.lines.now c.next_message.new.lines c.follow.new.lines _ _ _ c.in-Some.line.bytes c.follow.result
    (ap (λ (s : State). s.model) c.in_ok-fresh-in-Some-2.ensures) (ap (λ (s : State). s.log) c.in_ok-fresh-in-Some-2.ensures) c.requires.working
    (rw c.in-Some.is at c.in_ok-line.ensures.message) (subst (λ (o : Option Options). Opens (arc_value c.args.model) c.in-Some.line.bytes o) c.in-Some-2.is opens) c.follow.ensures.verdict

pub returns-in-None-clause-verdict : goal.returns-in-None-clause-verdict
returns-in-None-clause-verdict g c =
    let line : c.bytes.result.now ≡ c.in-Some.line.bytes = grind (arith, common_steps) in
    let model : c.as_ref.result.now ≡ arc_value c.args.model = grind (arith, common_steps) in
    let opens : Opens (arc_value c.args.model) c.in-Some.line.bytes c.in_ok-options.field-0 = subst (λ (m : Model). Opens m c.in-Some.line.bytes c.in_ok-options.field-0) model (subst (λ (b : List ℕ). Opens c.as_ref.result.now b c.in_ok-options.field-0) line c.in_ok-options.ensures) in
    wrong_first _ c.args.lines.now c.next_message.new.lines _ _ c.in-Some.line.bytes c.requires.working (rw c.in-Some.is at c.in_ok-line.ensures.message)
    (subst (λ (o : Option Options). Opens (arc_value c.args.model) c.in-Some.line.bytes o) c.in-None.is opens)
