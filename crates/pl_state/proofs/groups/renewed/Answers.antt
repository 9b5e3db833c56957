use Rattle.std.proofs.Common.{◌≡◌, ◌∷◌, ◌+◌, suc, drop, get_or, ap, ◌∙◌, subst, arith}
use Rattle.pl_points.proofs.Parting.{drop_next}
use Rattle.pl_state.specs.declared.key.Key.{Key}
use Rattle.pl_state.specs.Keys.{key_of}
use Rattle.pl_state.specs.Sets.{state_from}
use Rattle.pl_state.specs.Near.{IsBegun}
use Rattle.pl_state.specs.Present.{group_at}
use Rattle.pl_state.proofs.Parts.{one_keyed}
use Rattle.pl_state.proofs.groups.renewed.Goals as goal

pub loop-key-init : goal.loop-key-init
loop-key-init c =
    let p = c.args.present in
    c.begun-renewal.ensures (group_at p c.args.sets.now) (one_keyed (λ t. state_from p.base t p.value c.args.sets.now) p.moment p.horizon) c.requires.right

pub loop-key-preserved : goal.loop-key-preserved
loop-key-preserved c =
    let keys = c.args.keys.now in
    let i = c.loop-key.key-index in
    let r = c.loop-key.renewal in
    let d : Key = key_of 0 0 0 in
    let one : suc i ≡ i + 1 = omega arith in
    let next : drop i keys ≡ get_or keys i d ∷ drop (i + 1) keys = drop_next keys i d c.loop-key-test.true ∙ ap (λ j. get_or keys i d ∷ drop j keys) one in
    c.in_ok-renew_key.ensures (drop (i + 1) keys) (subst (λ l. IsBegun (group_at c.args.present c.args.sets.now) c.args.musts.now c.args.broken.now l r.begin r.passed r.taken r.fresh.items r.went r.came) next c.loop-key.invariant)
