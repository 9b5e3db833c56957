-- right looks by rising moments, and right ones that are left
use Rattle.std.proofs.Common.{◌-◌, ◌+◌, length, drop}
use Rattle.pl_bounds.specs.Looks.{AreLooksAt}
use Rattle.pl_bounds.specs.Sides.{AreRight}
use Rattle.pl_bounds.proofs.merging.merged.Given as goal

abbrev pub invariant-looks : goal.invariant-looks
invariant-looks l = record {
  looks : AreLooksAt l.board.state l.outside.side l.outside.line l.looking.next l.looking.looks.items;
  here : AreRight l.board.state l.outside.side l.outside.line (drop l.i l.one);
  there : AreRight l.board.state l.outside.side l.outside.line (drop l.j l.more);
}

abbrev pub decreases-looks : goal.decreases-looks
decreases-looks l = (length l.one - l.i) + (length l.more - l.j)
