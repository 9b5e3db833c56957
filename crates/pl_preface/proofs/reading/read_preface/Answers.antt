use Rattle.pl_preface.proofs.Lines.{before_whole, before_refused, few_given}
use Rattle.pl_preface.proofs.reading.read_preface.Goals as goal

pub returns-in-Given-clause-preface : goal.returns-in-Given-clause-preface
returns-in-Given-clause-preface g c = before_whole _ _ _ _ _ _ _ _ _ c.preface.invariant.so_far (rw c.in-Given.is at c.in_ok-more.ensures.line)

pub returns-in-Refused-clause-preface : goal.returns-in-Refused-clause-preface
returns-in-Refused-clause-preface g c = before_refused _ _ _ _ _ _ _ _ _ c.preface.invariant.so_far (rw c.in-Refused.is at c.in_ok-more.ensures.line)

pub returns-in-Given-clause-few : goal.returns-in-Given-clause-few
returns-in-Given-clause-few g c = few_given _ _ _ _ _ _ (before_whole _ _ _ _ _ _ _ _ _ c.preface.invariant.so_far (rw c.in-Given.is at c.in_ok-more.ensures.line))
