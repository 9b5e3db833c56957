use Rattle.std.proofs.Common.{◌∙◌, rules}
use mir.Syntax.{w128}
use mir.Val.{SFits}
use Rattle.std.proofs.lemmas.Int.{to_z-of_z}
use Rattle.pl_prefs.proofs.Counted.{none_counted, some_counted}
use Rattle.pl_prefs.proofs.scored.Scored.new.Goals as goal

pub returns-then-count-gt0-clause-fault : goal.returns-then-count-gt0-clause-fault
returns-then-count-gt0-clause-fault c =
    let count = rw (c.conflicts.ensures c.requires.unspoiled) at c.len-count.ensures.count in
    (count, some_counted _ _ count c.if-count-gt0.true)

pub returns-clause-clear : goal.returns-clause-clear
returns-clause-clear c =
    let count = rw (c.conflicts.ensures c.requires.unspoiled) at c.len-count.ensures.count in
    none_counted _ _ count c.if-count-gt0.false

pub score-score-requires-clause-fits : goal.score-score-requires-clause-fits
score-score-requires-clause-fits c = rw c.deref.ensures.value c.requires.fits

pub score-score-requires-clause-few : goal.score-score-requires-clause-few
score-score-requires-clause-few c = rw c.deref.ensures.value c.requires.few

pub invariant_of-result : goal.invariant_of-result
invariant_of-result c = λ unspoiled. (
    let count = rw (c.conflicts.ensures c.requires.unspoiled) at c.len-count.ensures.count in
    record {
      score_is = to_z-of_z w128 c.score-score.result (let fits : SFits w128 c.score-score.result = search rules in fits) ∙ (rw c.deref.ensures.value at c.score-score.ensures.value);
      clear = none_counted _ _ count c.if-count-gt0.false;
      fits = c.requires.fits;
      few = c.requires.few;
      next = c.requires.next;
    })
