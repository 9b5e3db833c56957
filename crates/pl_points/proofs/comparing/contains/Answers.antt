use Rattle.std.proofs.Common.{◌<◌, length, arith, sym, ◌∙◌, get_or}
use Rattle.std.proofs.lemmas.List.{get_or_default}
use Rattle.pl_points.specs.declared.span.Span.{Span}
use Rattle.pl_points.proofs.Rounds.{among_none, among_some}
use Rattle.pl_points.proofs.comparing.contains.Goals as goal

pub returns-then-at-spans : goal.returns-then-at-spans
returns-then-at-spans c = sym (among_none c.args.spans.now c.begun_near-at.result c.args.span c.begun_near-at.ensures.rest (omega (arith, c.if-at-spans.true)))

pub returns : goal.returns
returns c =
    let xs = c.args.spans.now in
    let i = c.begun_near-at.result in
    let p : Span = get_or xs i (record { from = 0; to = 0 }) in
    let lt : i < length xs = grind (arith, c.begun_near-at.ensures.bound, c.if-at-spans.false) in
    c.is_same.ensures ∙ sym (among_some xs i p c.args.span c.requires c.begun_near-at.ensures.rest lt (get_or_default xs i (record { from = 0; to = 0 }) p lt))
