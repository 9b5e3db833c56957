use Rattle.std.proofs.Common.{◌≡◌, ap, sym, ◌∙◌, subst, ◌^◌}
use Rattle.std.proofs.lemmas.List.{take_rest}
use Rattle.pl_points.specs.Spans.{AreSpans}
use Rattle.pl_points.specs.Mending.{reached}
use Rattle.pl_points.proofs.Cuts.{apart_drop}
use Rattle.pl_points.proofs.Rounds.{touched, touched_apart}
use Rattle.pl_points.proofs.cutting.touched_by.Goals as goal

pub reached_count-reach-requires : goal.reached_count-reach-requires
reached_count-reach-requires c =
    rw (take_rest c.args.kept.now c.ended_count-begin.result) (apart_drop 0 (2 ^ 32) c.ended_count-begin.result c.args.kept.now c.requires)

pub returns-clause-apart : goal.returns-clause-apart
returns-clause-apart c =
    let is : c.in_ok-spans.spans.items ≡ touched c.args.window.from c.args.window.to c.args.kept.now =
    c.in_ok-spans.ensures.items ∙ (c.reached_count-reach.ensures.front ∙ ap (reached c.args.window.to) (take_rest c.args.kept.now c.ended_count-begin.result ∙ c.ended_count-begin.ensures.rest)) in
    subst (λ l. AreSpans l) (sym is) (touched_apart c.args.window.from c.args.window.to c.args.kept.now c.requires)
