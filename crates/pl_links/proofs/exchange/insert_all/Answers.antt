use Rattle.std.proofs.Common.{◌≡◌, ◌∙◌, sym, ap, true, false, get_or}
use Rattle.std.specs.BTreeSet.{Updates}
use Rattle.pl_links.specs.declared.broken.Broken.{Broken}
use Rattle.pl_links.specs.Sets.{broken_cmp, has}
use Rattle.pl_links.proofs.BrokenLaws.{broken}
use Rattle.pl_links.proofs.Marks.{only_list}
use Rattle.pl_links.proofs.Exchanging.{ok_at, err_at, inserted_more, undone}
use Rattle.pl_links.proofs.exchange.insert_all.Goals as goal

pub loop-at-preserved : goal.loop-at-preserved
loop-at-preserved c =
    let at = c.loop-at.at in
    let updates : Updates broken_cmp c.loop-at.listed c.insert.new.self (get_or c.args.came.now at (broken 0 0 false)) true = ok_at c.insert.result _ (sym c.is_err.ensures.value ∙ c.if-is_err.false) c.insert.ensures.updates in
    record {
      members = λ b. updates.0 b ∙ inserted_more c.args.listed.now.keys c.args.came.now at (broken 0 0 false) b (has b c.loop-at.listed.keys) c.loop-at-test.true (c.loop-at.invariant.members b);
      ordered = c.insert.ensures.ordered;
    }

pub returns-then-is_err-clause-err : goal.returns-then-is_err-clause-err
returns-then-is_err-clause-err c =
    let old = c.args.listed.now.keys in
    let same : c.insert.new.self.keys ≡ c.loop-at.listed.keys = err_at c.insert.result _ (sym c.is_err.ensures.value ∙ c.if-is_err.true) c.insert.ensures.err in
    only_list c.remove_all.new.listed.keys old c.remove_all.ensures.ordered c.requires.ordered
    (λ b. c.remove_all.ensures.members b ∙ undone old c.args.came.now c.loop-at.at b (has b c.insert.new.self.keys) c.requires.absent (ap (has b) same ∙ c.loop-at.invariant.members b))
