use Rattle.std.proofs.Common.{List, sym, subst}
use Rattle.pl_state.specs.declared.reservation.Must.{Must}
use Rattle.pl_state.specs.declared.answer.BrokenMust.{BrokenMust}
use Rattle.pl_state.specs.Keys.{AreSorted}
use Rattle.pl_state.specs.Musts.{broken_one}
use Rattle.pl_state.specs.Near.{touches, group_key, AreRightBut}
use Rattle.pl_state.specs.Present.{group_at, WasRight}
use Rattle.pl_state.proofs.Parts.{one_keyed, all_sorted}
use Rattle.pl_state.proofs.Renewing.{right_near}
use Rattle.pl_state.proofs.near.mend_musts.Goals as goal

pub renew-requires-clause-sorted : goal.renew-requires-clause-sorted
renew-requires-clause-sorted c =
    let was : WasRight c.args.near c.args.present c.args.sets.now c.args.musts.now c.args.broken.now.items = c.requires.was in
    subst (λ l. AreSorted group_key l) (sym was.told) (all_sorted (broken_one was.state was.moment c.args.present.horizon) (one_keyed was.state was.moment c.args.present.horizon) c.args.musts.now c.in_ok-keys.ensures.sorted)

pub renew-requires-clause-right : goal.renew-requires-clause-right
renew-requires-clause-right c =
    let was : WasRight c.args.near c.args.present c.args.sets.now c.args.musts.now c.args.broken.now.items = c.requires.was in
    let F : Must → List BrokenMust = group_at c.args.present c.args.sets.now in
    let right : AreRightBut c.in_ok-keys.keys.items F c.args.musts.now c.args.broken.now.items = subst (λ l. AreRightBut c.in_ok-keys.keys.items F c.args.musts.now l) (sym was.told)
    (right_near (touches c.args.near) F (broken_one was.state was.moment c.args.present.horizon) (one_keyed was.state was.moment c.args.present.horizon) c.in_ok-keys.keys.items c.args.musts.now c.in_ok-keys.ensures.sorted c.in_ok-keys.ensures.rising was.same c.in_ok-keys.ensures.each) in
    subst (λ l. AreRightBut l F c.args.musts.now c.args.broken.now.items) (sym c.deref.ensures.value) right
