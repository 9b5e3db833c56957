use Rattle.std.proofs.Common.{◌-◌, arith, ap, ◌∙◌, length, ltb, pos}
use Rattle.pl_blocks.specs.Blocks.{is_past}
use Rattle.pl_blocks.proofs.Rows.{last_past}
use Rattle.pl_blocks.proofs.block.Block.is_past.Goals as goal

pub returns : goal.returns
returns c =
    let ps = c.self.inside.points.items in
    ap (λ n. ltb n c.args.at) (c.from.ensures ∙ c.self.invariant.final)
    ∙ last_past 0 c.args.at ps (length ps - 1) (0, pos 0) c.self.invariant.rising (omega (arith, c.self.invariant.some))
    ∙ ap (is_past c.args.at) c.self.view_is
