use Rattle.std.proofs.Common.{◌≡◌, ◌-◌, suc, take, arith, ap, sym, ◌∙◌}
use Rattle.pl_lists.specs.Lists.{front}
use Rattle.pl_state.specs.Sets.{is_passed}
use Rattle.pl_state.specs.Near.{comes_before, state_before}
use Rattle.pl_state.proofs.Steps.{state_before_none, state_before_next, begun_next}
use Rattle.pl_state.proofs.sets.state_before.Goals as goal

pub returns-then-at-eq0 : goal.returns-then-at-eq0
returns-then-at-eq0 c = sym (ap (λ n. state_before c.args.base n c.args.value c.args.sets.now) c.if-at-eq0.true ∙ state_before_none c.args.base c.args.value c.args.sets.now)

pub returns-else-at-eq0 : goal.returns-else-at-eq0
returns-else-at-eq0 c =
    let t = c.args.at - 1 in
    let next : c.args.at ≡ suc t = grind (arith, c.if-at-eq0.false) in
    let begun : take c.args.begun c.args.sets.now ≡ front (is_passed t) c.args.sets.now = c.requires.begun ∙ ap (λ n. front (comes_before n) c.args.sets.now) next ∙ begun_next t c.args.sets.now in
    c.state_left.ensures t begun ∙ sym (ap (λ n. state_before c.args.base n c.args.value c.args.sets.now) next ∙ state_before_next c.args.base t c.args.value c.args.sets.now)
