use Rattle.std.proofs.Common.{◌≡◌, sym, subst, refl}
use Rattle.pl_lists.specs.Lists.{front, back}
use Rattle.pl_state.specs.Near.{bad_before, bad_by}
use Rattle.pl_state.specs.Present.{bad_at}
use Rattle.pl_state.proofs.Renewed.{mended, answered}
use Rattle.pl_state.proofs.kept.Kept.mend_near.Goals as goal

pub mend_steps-requires-clause-before : goal.mend_steps-requires-clause-before
mend_steps-requires-clause-before c =
    let k = c.args.self.now in
    subst (λ l. front (bad_before c.args.near.from) k.told.bad.items ≡ front (bad_before c.args.near.from) (bad_at k.any l c.args.present k.sets)) (sym c.deref.ensures.value) c.requires.right.before

pub mend_steps-requires-clause-behind : goal.mend_steps-requires-clause-behind
mend_steps-requires-clause-behind c =
    let k = c.args.self.now in
    subst (λ l. back (bad_by c.args.near.to) k.told.bad.items ≡ back (bad_by c.args.near.to) (bad_at k.any l c.args.present k.sets)) (sym c.deref.ensures.value) c.requires.right.behind

pub returns : goal.returns
returns c =
    let k = c.args.self.now in
    mended k (record k { present = c.args.present; told = record { broken = c.mend_musts.new.broken; bad = c.mend_steps.new.bad } }) c.deref.result.now c.args.present c.answer.result
    c.requires.time c.requires.based c.requires.right.ordered c.deref.ensures.value refl c.in_ok-of_musts.ensures.broken c.in_ok-of_steps.ensures.bad c.in_ok-of_steps.ensures.sorted
    (answered k.told.broken.items c.mend_musts.new.broken.items c.in_ok-of_musts.of_musts.went c.in_ok-of_musts.of_musts.came k.told.bad.items c.mend_steps.new.bad.items c.in_ok-of_steps.of_steps.went c.in_ok-of_steps.of_steps.came c.answer.result
    c.answer.ensures c.in_ok-of_musts.ensures.went c.in_ok-of_musts.ensures.came c.in_ok-of_steps.ensures.went c.in_ok-of_steps.ensures.came)
