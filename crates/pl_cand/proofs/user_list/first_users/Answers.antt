use Rattle.std.proofs.Common.{◌∙◌, sym}
use Rattle.pl_cand.proofs.Keeping.{users_later}
use Rattle.pl_cand.proofs.user_list.first_users.Goals as goal

pub parts-preserved : goal.parts-preserved
parts-preserved c =
    let early = users_later c.args.state.now c.args.timeline c.args.role c.parts.ids.items c.args.state.now.plan.activities c.parts.place c.pass_early-begin.result c.pass_early-begin.ensures.low c.pass_early-begin.ensures.early in
    sym c.in_ok-add_users.ensures ∙ (sym early ∙ c.parts.invariant)
