use Rattle.pl_bounds.proofs.bounding.gone_on.Goals as goal

pub returns : goal.returns
returns c = λ s w steps right walk. record {
  tally = c.looked_at-walk.ensures s s.moment s.model.horizon w steps right walk.added walk.tally;
  added = walk.added;
}
