use Rattle.std.proofs.Common.{◌-◌, ◌++◌, take, drop, refl, ap, ◌∙◌, arith}
use Rattle.pl_state.specs.Sets.{state_from}
use Rattle.pl_state.specs.Timelines.{same_broken}
use Rattle.pl_lists.specs.Lists.{left_out}
use Rattle.pl_state.specs.Present.{group_at}
use Rattle.pl_state.proofs.Parts.{one_keyed}
use Rattle.pl_state.proofs.Renewing.{one_key}
use Rattle.pl_state.proofs.groups.renew_key.Goals as goal

pub returns : goal.returns
returns c = λ keys begun.
    let p = c.args.present in
    let sets = c.args.sets.now in
    let b = c.args.broken.now in
    let r = c.args.renewal.now in
    let named = c.run_of-run.result in
    let old = c.run_of-old.result in
    let gone = take (old.behind - old.begin) (drop old.begin b) in
    let kept = take (old.begin - r.taken) (drop r.taken b) in
    one_key (group_at p sets) (one_keyed (λ t. state_from p.base t p.value sets) p.moment p.horizon) c.args.key keys c.args.musts.now b r.begin r.passed r.taken r.fresh.items r.went r.came c.run_of-run.ensures.sorted c.requires.sorted begun
    named.begin named.behind old.begin old.behind c.in_ok-group.group.items gone kept _ _ _ c.run_of-run.ensures.cut c.run_of-old.ensures.cut c.run_of-run.ensures.bound c.run_of-old.ensures.bound
    (omega (arith, c.run_of-old.ensures.begin, c.run_of-old.ensures.behind)) c.in_ok-group.ensures refl refl
    (c.in_ok-push_missing.ensures ∙ ap (λ l. r.went ++ left_out same_broken l gone) c.deref.ensures.value)
    (c.in_ok-push_missing-2.ensures ∙ ap (λ l. r.came ++ left_out same_broken gone l) c.deref-2.ensures.value)
    (c.in_ok-extend_from_slice-2.ensures.items ∙ (ap (λ l. l ++ c.deref-3.result.now) c.in_ok-extend_from_slice.ensures.items ∙ ap (λ l. (r.fresh.items ++ kept) ++ l) c.deref-3.ensures.value))
