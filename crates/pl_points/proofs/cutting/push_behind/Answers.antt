use Rattle.std.proofs.Common.{◌<◌, ◌+◌, [], ◌∷◌, ◌++◌, length, drop, arith, ap, sym, ◌∙◌, get_or, max}
use Rattle.std.proofs.lemmas.List.{take_rest, get_or_default}
use Rattle.pl_points.specs.declared.span.Span.{Span}
use Rattle.pl_points.specs.Spans.{joined, span}
use Rattle.pl_points.proofs.Spanning.{joined_cons}
use Rattle.pl_points.proofs.Cuts.{behind_none, behind_some, joined_nil}
use Rattle.pl_points.proofs.cutting.push_behind.Goals as goal

pub returns-then-passed-old : goal.returns-then-passed-old
returns-then-passed-old c =
    let xs = c.args.spans.now.items in
    sym (ap (joined xs) (behind_none c.args.at c.passed_count-passed.result c.args.old.now c.passed_count-passed.ensures.rest (omega (arith, c.if-passed-old.true))) ∙ joined_nil xs)

pub returns : goal.returns
returns c =
    let xs = c.args.spans.now.items in
    let old = c.args.old.now in
    let i = c.passed_count-passed.result in
    let p : Span = get_or old i (record { from = 0; to = 0 }) in
    let lt : i < length old = grind (arith, c.passed_count-passed.ensures.bound, c.if-passed-old.false) in
    let behind = behind_some c.args.at i old p c.passed_count-passed.ensures.rest lt (get_or_default old i (record { from = 0; to = 0 }) p lt) in
    let rest = take_rest old (i + 1) in
    c.in_ok-extend_from_slice.ensures.items ∙ (ap (λ l. c.extend.new.spans.items ++ l) rest
    ∙ (ap (λ l. l ++ drop (i + 1) old) c.in_ok-extend.ensures
    ∙ (ap (λ n. joined xs (span n p.to ∷ []) ++ drop (i + 1) old) c.max.ensures
    ∙ (sym (joined_cons xs (span (max p.from c.args.at) p.to) (drop (i + 1) old)) ∙ sym (ap (joined xs) behind)))))
