use Rattle.std.proofs.Common.{◌≡◌, ℕ, List, Option, refl, ◌∙◌, subst, arith}
use Rattle.std.proofs.lemmas.Grind.{common_steps}
use Rattle.pl_io.specs.declared.errors.LineFault.TheVariants as fault
use Rattle.pl_io.specs.Lines.{ahead}
use Rattle.pl_replay.specs.declared.verdict.Verdict.{Verdict}
use Rattle.pl_input.specs.Waits.{GetsMessage}
use Rattle.pl_replay.specs.Journals.{GoesOn, JudgesLine}
use Rattle.pl_replay.proofs.Steps.{goes_on, wrong_behind, all_right, stops_behind, memory_behind, gives_stops}
use Rattle.pl_replay.proofs.verifying.follow.Goals as goal

pub entries-init : goal.entries-init
entries-init g c = record { so_far = λ first all is. is; unspoiled = c.requires.unspoiled; model = refl; working = c.requires.working; later = omega arith }

pub returns-in_err-line-clause-verdict : goal.returns-in_err-line-clause-verdict
returns-in_err-line-clause-verdict g c = λ first all is.
    gives_stops _ first _ all _ c.from_residual.result c.in_err-line.field-0.0 c.from_residual.ensures.1
    (stops_behind _ c.entries.machine c.in_err-line.field-0.0 first c.entries.lines c.next_message.new.lines all _ _ c.entries.invariant.model c.entries_of-entries.ensures.history.legal (c.entries.invariant.so_far first all is) c.in_err-line.ensures.message)

pub returns-in_default-clause-verdict : goal.returns-in_default-clause-verdict
returns-in_default-clause-verdict g c = λ first all is.
    all_right _ c.entries.machine c.legal.result.0 c.legal.result.1 first c.entries.lines c.next_message.new.lines all _ _ c.entries.invariant.model c.entries.invariant.unspoiled (c.entries.invariant.so_far first all is) (rw c.in_default.is at c.in_ok-line.ensures.message)
    c.entries_of-entries.result c.entries_of-entries.ensures.count c.legal.ensures.verdict c.legal.ensures.machine c.entries_of-entries.ensures.history

pub returns-in_err-wrong-clause-verdict : goal.returns-in_err-wrong-clause-verdict
returns-in_err-wrong-clause-verdict g c = λ first all is.
    gives_stops _ first _ all _ c.from_residual-in_err-wrong.result fault.Memory c.from_residual-in_err-wrong.ensures.1
    (memory_behind _ c.entries.machine fault.Memory first c.entries.lines c.next_message.new.lines all _ _ refl c.entries.invariant.model c.entries_of-entries.ensures.history.legal (c.entries.invariant.so_far first all is))

pub returns-in-Some-2-clause-verdict : goal.returns-in-Some-2-clause-verdict
returns-in-Some-2-clause-verdict g c = λ first all is.
    let same : c.bytes.result.now ≡ c.in-Some.line.bytes = grind (arith, common_steps) in
    let judged : JudgesLine c.entries.machine c.in-Some.line.bytes c.in_ok-wrong.field-0 c.judge.new.machine = subst (λ (b : List ℕ). JudgesLine c.entries.machine b c.in_ok-wrong.field-0 c.judge.new.machine) same c.in_ok-wrong.ensures in
    wrong_behind _ c.entries.machine c.judge.new.machine _ first c.entries.lines c.next_message.new.lines all _ _ c.in-Some.line.bytes c.entries.invariant.model c.entries_of-entries.ensures.history.legal (c.entries.invariant.so_far first all is)
    (rw c.in-Some.is at c.in_ok-line.ensures.message)
    (subst (λ (w : Option Verdict). JudgesLine c.entries.machine c.in-Some.line.bytes w c.judge.new.machine) c.in-Some-2.is judged)

pub entries-preserved : goal.entries-preserved
entries-preserved g c =
    let same : c.bytes.result.now ≡ c.in-Some.line.bytes = grind (arith, common_steps) in
    let judged : JudgesLine c.entries.machine c.in-Some.line.bytes c.in_ok-wrong.field-0 c.judge.new.machine = subst (λ (b : List ℕ). JudgesLine c.entries.machine b c.in_ok-wrong.field-0 c.judge.new.machine) same c.in_ok-wrong.ensures in
    let goes : GoesOn c.entries.machine c.in-Some.line.bytes c.judge.new.machine = subst (λ (w : Option Verdict). JudgesLine c.entries.machine c.in-Some.line.bytes w c.judge.new.machine) c.in_default-2.is judged in
    let gets : GetsMessage c.entries.lines (ahead c.entries.lines.held (g.S.Source.left c.entries.src)) c.in-Some.line.bytes c.next_message.new.lines (ahead c.next_message.new.lines.held (g.S.Source.left c.next_message.new.src)) = rw c.in-Some.is at c.in_ok-line.ensures.message in
    record {
      so_far = λ first all is. goes_on _ c.entries.machine c.judge.new.machine first c.entries.lines c.next_message.new.lines all _ _ c.in-Some.line.bytes c.entries.invariant.model (c.entries.invariant.so_far first all is) gets goes;
      unspoiled = goes.unspoiled;
      model = goes.model ∙ c.entries.invariant.model;
      working = gets.took.working;
      later = omega (arith, c.entries.invariant.later, c.next_message.ensures.later);
    }
