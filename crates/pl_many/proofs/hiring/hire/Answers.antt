use Rattle.pl_turn.specs.Passes.{seen_of}
use Rattle.pl_many.proofs.Beginning.{new_member}
use Rattle.pl_many.proofs.hiring.hire.Goals as goal

pub returns-clause-new : goal.returns-clause-new
returns-clause-new c =
    let is = c.unwrap-pass.ensures in
    let own = rw is at c.split.ensures.new_own in
    let follows = rw is at c.split.ensures.new_follows in
    let saw = rw is at c.split.ensures.new_seen in
    let none = rw is at c.split.ensures.new_mine in
    new_member c.args.plan.now c.args.seed c.args.author c.unwrap-pass.result c.first_role.result (seen_of c.args.first.now) c.requires.author own follows saw.0 none c.first_role.ensures
