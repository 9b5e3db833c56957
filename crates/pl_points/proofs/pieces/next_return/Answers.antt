use Rattle.std.proofs.Common.{rules, ◌≡◌, ℕ, true, not, ap, sym, ◌∙◌}
use mir.Val.{to_z, of_z, SFits}
use mir.Syntax.{w64}
use Rattle.std.proofs.lemmas.Int.{to_z-of_z}
use Rattle.std.proofs.lemmas.Bool.{not-true, not-false}
use Rattle.pl_points.specs.Points.{sum_to, is_out}
use Rattle.pl_points.specs.Limits.{is_outside}
use Rattle.pl_points.proofs.Strolls.{same_bounds}
use Rattle.pl_points.proofs.pieces.next_return.Goals as goal

pub next_crossing-requires-clause-inside : goal.next_crossing-requires-clause-inside
next_crossing-requires-clause-inside g c =
    let ps = g.P.Points.points c.args.points.now in
    let at = c.args.at in
    let L = to_z w64 (of_z w64 c.bounds_beyond-least.result.0) in
    let M = to_z w64 (of_z w64 c.bounds_beyond-least.result.1) in
    let fits_low : SFits w64 c.bounds_beyond-least.result.0 = search rules in
    let fits_high : SFits w64 c.bounds_beyond-least.result.1 = search rules in
    let same : (t : ℕ) → is_out L M (sum_to ps t) ≡ not (is_outside c.args.limit (sum_to ps t)) = λ t. same_bounds L M c.bounds_beyond-least.result.0 c.bounds_beyond-least.result.1 (sum_to ps t) (not (is_outside c.args.limit (sum_to ps t))) (to_z-of_z w64 c.bounds_beyond-least.result.0 fits_low) (to_z-of_z w64 c.bounds_beyond-least.result.1 fits_high) (c.bounds_beyond-least.ensures (sum_to ps t) (c.requires.small.small t)) in
    let outside_there : is_outside c.args.limit (sum_to ps at) ≡ true = ap (is_outside c.args.limit) (sym c.requires.sum) ∙ c.requires.outside in
    let sum : to_z w64 (of_z w64 c.args.sum) ≡ sum_to ps at = to_z-of_z w64 c.args.sum c.ranges.sum ∙ c.requires.sum in
    ap (is_out L M) sum ∙ same at ∙ ap not outside_there

pub returns-clause-passes : goal.returns-clause-passes
returns-clause-passes g c =
    let ps = g.P.Points.points c.args.points.now in
    let at = c.args.at in
    let L = to_z w64 (of_z w64 c.bounds_beyond-least.result.0) in
    let M = to_z w64 (of_z w64 c.bounds_beyond-least.result.1) in
    let fits_low : SFits w64 c.bounds_beyond-least.result.0 = search rules in
    let fits_high : SFits w64 c.bounds_beyond-least.result.1 = search rules in
    let same : (t : ℕ) → is_out L M (sum_to ps t) ≡ not (is_outside c.args.limit (sum_to ps t)) = λ t. same_bounds L M c.bounds_beyond-least.result.0 c.bounds_beyond-least.result.1 (sum_to ps t) (not (is_outside c.args.limit (sum_to ps t))) (to_z-of_z w64 c.bounds_beyond-least.result.0 fits_low) (to_z-of_z w64 c.bounds_beyond-least.result.1 fits_high) (c.bounds_beyond-least.ensures (sum_to ps t) (c.requires.small.small t)) in
    let passes = c.next_crossing.ensures.passes in
    record {
      later = passes.later;
      bound = passes.bound;
      meets = λ t low high. not-false (is_outside c.args.limit (sum_to ps t)) (sym (same t) ∙ passes.meets t low high);
      next = passes.next;
    }

pub returns-clause-leaves : goal.returns-clause-leaves
returns-clause-leaves g c =
    let ps = g.P.Points.points c.args.points.now in
    let at = c.args.at in
    let L = to_z w64 (of_z w64 c.bounds_beyond-least.result.0) in
    let M = to_z w64 (of_z w64 c.bounds_beyond-least.result.1) in
    let fits_low : SFits w64 c.bounds_beyond-least.result.0 = search rules in
    let fits_high : SFits w64 c.bounds_beyond-least.result.1 = search rules in
    let same : (t : ℕ) → is_out L M (sum_to ps t) ≡ not (is_outside c.args.limit (sum_to ps t)) = λ t. same_bounds L M c.bounds_beyond-least.result.0 c.bounds_beyond-least.result.1 (sum_to ps t) (not (is_outside c.args.limit (sum_to ps t))) (to_z-of_z w64 c.bounds_beyond-least.result.0 fits_low) (to_z-of_z w64 c.bounds_beyond-least.result.1 fits_high) (c.bounds_beyond-least.ensures (sum_to ps t) (c.requires.small.small t)) in
    λ lt. not-true (is_outside c.args.limit (sum_to ps c.next_crossing.result.0)) (sym (same c.next_crossing.result.0) ∙ c.next_crossing.ensures.leaves lt)
