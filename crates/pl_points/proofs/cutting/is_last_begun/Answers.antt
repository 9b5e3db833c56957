use Rattle.std.proofs.Common.{◌≡◌, ◌^◌, get_or, arith, subst, false}
use Rattle.std.proofs.lemmas.Bool.{leb-true, lt-ltb, le-ltb}
use Rattle.std.proofs.Math.Numerals.{add-one}
use Rattle.pl_points.specs.declared.span.Span.{Span}
use Rattle.pl_points.specs.Mending.{begins_before}
use Rattle.pl_points.proofs.Parting.{last_passing}
use Rattle.pl_points.proofs.Cuts.{parted_begun}
use Rattle.pl_points.proofs.cutting.is_last_begun.Goals as goal

abbrev none : Span
none = record { from = 0; to = 0 }

pub returns-then-place-spans-2-clause-rest : goal.returns-then-place-spans-2-clause-rest
returns-then-place-spans-2-clause-rest c =
    λ _. (last_passing (begins_before c.args.at) c.args.place none c.args.spans.now (parted_begun c.args.at 0 (2 ^ 32) c.args.spans.now c.requires) (omega (arith, c.if-place-spans.false)) (lt-ltb _ c.args.at (omega (arith, c.if-spans-place.false))) (λ h. absurd (omega (arith, h, c.if-place-spans-2.true)))).1

pub returns-clause-rest : goal.returns-clause-rest
returns-clause-rest c =
    λ e. (last_passing (begins_before c.args.at) c.args.place none c.args.spans.now (parted_begun c.args.at 0 (2 ^ 32) c.args.spans.now c.requires) (omega (arith, c.if-place-spans.false)) (lt-ltb _ c.args.at (omega (arith, c.if-spans-place.false))) (λ _. subst (λ n. begins_before c.args.at (get_or c.args.spans.now n none) ≡ false) (add-one c.args.place) (le-ltb _ c.args.at (leb-true c.args.at _ e)))).1
