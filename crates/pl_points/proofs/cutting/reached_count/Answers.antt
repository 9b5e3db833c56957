use Rattle.pl_points.proofs.Cuts.{reached_all, reached_more}
use Rattle.pl_points.proofs.cutting.reached_count.Goals as goal

pub returns-then-passed-spans-clause-front : goal.returns-then-passed-spans-clause-front
returns-then-passed-spans-clause-front c = (reached_more c.args.at c.passed_count-passed.result c.args.spans.now c.passed_count-passed.ensures.rest c.passed_count-passed.ensures.before c.if-passed-spans.true).0

pub returns-then-passed-spans-clause-rest : goal.returns-then-passed-spans-clause-rest
returns-then-passed-spans-clause-rest c = (reached_more c.args.at c.passed_count-passed.result c.args.spans.now c.passed_count-passed.ensures.rest c.passed_count-passed.ensures.before c.if-passed-spans.true).1

pub returns-else-passed-spans-clause-front : goal.returns-else-passed-spans-clause-front
returns-else-passed-spans-clause-front c = (reached_all c.args.at c.passed_count-passed.result c.args.spans.now c.passed_count-passed.ensures.rest c.passed_count-passed.ensures.before c.if-passed-spans.false).0

pub returns-else-passed-spans-clause-rest : goal.returns-else-passed-spans-clause-rest
returns-else-passed-spans-clause-rest c = (reached_all c.args.at c.passed_count-passed.result c.args.spans.now c.passed_count-passed.ensures.rest c.passed_count-passed.ensures.before c.if-passed-spans.false).1
