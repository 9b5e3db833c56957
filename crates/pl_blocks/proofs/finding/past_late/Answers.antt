use Rattle.std.proofs.Common.{◌≡◌, ◌<◌, ◌-◌, suc, true, [], length, take, drop, get_or, ap, sym, ◌∙◌, arith}
use Rattle.std.proofs.lemmas.List.{get_or_default}
use Rattle.pl_points.proofs.Parting.{last_passing}
use Rattle.pl_blocks.specs.Blocks.{is_past}
use Rattle.pl_blocks.proofs.Rows.{parted_blocks}
use Rattle.pl_blocks.proofs.finding.past_late.Goals as goal

-- this block lies whole before the moment, and the next one, if there is one, does not
pub returns-then-is_past : goal.returns-then-is_past
returns-then-is_past c =
    let bs = c.args.blocks.now in
    let at = c.args.at in
    let b = c.index-blocks-count.result in
    let n = length bs - c.loop-behind.behind in
    let i = n - 1 in
    let few : c.loop-behind.behind < length bs = grind (arith, c.loop-behind.invariant.bound, c.if-behind-count.false) in
    let lt : i < length bs = omega (arith, few) in
    let next : suc i ≡ n = omega (arith, few) in
    let passes : is_past at (get_or bs i []) ≡ true = ap (is_past at) (get_or_default bs i [] b lt ∙ sym c.index-blocks-count.is) ∙ ap (λ m. is_past m b) (sym c.from-moment.ensures) ∙ sym c.is_past.ensures ∙ c.if-is_past.true in
    let cut = last_passing (is_past at) i [] bs (parted_blocks at 0 bs c.requires.rising c.requires.sized) lt passes (λ h. ap (λ m. is_past at (get_or bs m [])) next ∙ c.loop-behind.invariant.reaches (omega (arith, h, few))) in
    record { bound = omega arith; before = ap (λ m. take m bs) (sym next) ∙ cut.0; rest = ap (λ m. drop m bs) (sym next) ∙ cut.1 }
