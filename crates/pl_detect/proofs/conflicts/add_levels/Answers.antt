use Rattle.std.proofs.Common.{◌≡◌, ◌++◌, ◌∙◌, ap, List, append_assoc, ℤ}
use Rattle.std.proofs.lemmas.Int.{to_z-of_z}
use mir.Syntax.{w64}
use Rattle.pl_conflict.specs.declared.conflict.Conflict.{Conflict}
use Rattle.pl_semantics.specs.Timelines.{lows, highs}
use Rattle.pl_detect.proofs.conflicts.add_levels.Goals as goal

pub returns : goal.returns
returns c =
    let s = c.args.s.now in
    let line = c.args.line in
    let low : c.add_lows.new.out.items ≡ c.args.out.now.items ++ lows s line c.args.least = c.in_ok-add_lows.ensures ∙ ap (λ (z : ℤ). c.args.out.now.items ++ lows s line z) (to_z-of_z w64 c.args.least c.ranges.least) in
    let high : c.add_highs.new.out.items ≡ c.add_lows.new.out.items ++ highs s line c.args.most = c.in_ok-add_highs.ensures ∙ ap (λ (z : ℤ). c.add_lows.new.out.items ++ highs s line z) (to_z-of_z w64 c.args.most c.ranges.most) in
    high ∙ (ap (λ (xs : List Conflict). xs ++ highs s line c.args.most) low ∙ append_assoc c.args.out.now.items (lows s line c.args.least) (highs s line c.args.most))
