use Rattle.std.proofs.Common.{◌≡◌, ℕ, arith, List, ◌+◌, ◌++◌, flat_map, ap, ◌∙◌}
use Rattle.std.specs.Prelude.{codes}
use Rattle.pl_io.specs.Lines.{with_newline}
use Rattle.pl_report.specs.Demonstration.{model_lines, messages_for, demo_text}
use Rattle.pl_report.proofs.Inputs.{text_more, demo_ends}
use Rattle.pl_report.proofs.demonstration.demo_input.Goals as goal

pub loop-done-preserved : goal.loop-done-preserved
loop-done-preserved c =
    c.in_ok-push_messages.ensures ∙ ap (λ (t : List ℕ). t ++ flat_map with_newline (messages_for (c.loop-done.done + 1))) c.loop-done.invariant
    ∙ text_more model_lines c.loop-done.done

pub returns : goal.returns
returns c =
    let all : c.loop-done.done ≡ c.args.n = omega arith in
    c.in_ok-extend_from_slice.ensures.items ∙ ap (λ (t : List ℕ). t ++ with_newline (codes "end")) c.loop-done.invariant ∙ demo_ends c.loop-done.done ∙ ap demo_text all
