use Rattle.std.proofs.Common.{◌<◌, length, sym, ◌∙◌, subst, arith}
use Rattle.std.proofs.lemmas.Bool.{leb-true}
use Rattle.std.proofs.lemmas.List.{drop_all}
use Rattle.pl_points.specs.Spans.{span}
use Rattle.pl_points.proofs.Parting.{drop_next}
use Rattle.pl_points.proofs.Clearing.{BeginsBy, clear_window}
use Rattle.pl_points.proofs.cutting.are_clear.Goals as goal

pub returns-then-passed-spans : goal.returns-then-passed-spans
returns-then-passed-spans c = λ _ t here.
    let s = c.args.spans.now in
    let n = c.passed_count-passed.result in
    clear_window c.args.window.from c.args.window.to 0 s c.requires (subst (BeginsBy c.args.window.to) (sym (drop_all n s (omega arith)) ∙ c.passed_count-passed.ensures.rest) tt) t here

pub returns : goal.returns
returns c = λ e t here.
    let s = c.args.spans.now in
    let n = c.passed_count-passed.result in
    let lt : n < length s = omega (arith, c.passed_count-passed.ensures.bound, c.if-passed-spans.false) in
    clear_window c.args.window.from c.args.window.to 0 s c.requires (subst (BeginsBy c.args.window.to) (sym (drop_next s n (span 0 0) lt) ∙ c.passed_count-passed.ensures.rest) (leb-true c.args.window.to _ e)) t here
