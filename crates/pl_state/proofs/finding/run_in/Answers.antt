use Rattle.pl_state.proofs.finding.run_in.Goals as goal

pub returns-clause-cut : goal.returns-clause-cut
returns-clause-cut g c = record {
  before = c.end_near-begin.ensures.front;
  on = c.end_near-begin.ensures.rest;
  having = c.end_near-behind.ensures.front;
  rest = c.end_near-behind.ensures.rest;
}
