use Rattle.std.proofs.Common.{◌≡◌, ◌<◌, ◌-◌, suc, [], length, take, arith, ap, sym, ◌∙◌, true, false, cond, ltb}
use Rattle.std.proofs.lemmas.Bool.{lt-ltb, le-ltb}
use Rattle.pl_lists.specs.Lists.{front}
use Rattle.pl_state.specs.Sets.{is_passed}
use Rattle.pl_state.proofs.Orders.{state_none, state_last}
use Rattle.pl_state.proofs.sets.state_left.Goals as goal

pub returns-then-count-eq0 : goal.returns-then-count-eq0
returns-then-count-eq0 c = λ at front_at.
    let none : [] ≡ front (is_passed at) c.args.sets.now = sym (ap (λ n. take n c.args.sets.now) c.if-count-eq0.true) ∙ front_at in
    sym (state_none c.args.base c.args.value 0 at c.args.sets.now c.requires.ordered none)

pub returns-then-base-last : goal.returns-then-base-last
returns-then-base-last c = λ at front_at.
    let xs = c.args.sets.now in
    let i = c.args.count in
    let n = i - 1 in
    let p = c.at-last.result in
    let more : i ≡ suc n = grind (arith, c.if-count-eq0.false) in
    let lt : n < length xs = omega (arith, more, c.requires.bound) in
    let front_is : take (suc n) xs ≡ front (is_passed at) xs = ap (λ k. take k xs) (sym more) ∙ front_at in
    let last = state_last c.args.base c.args.value 0 xs n at p c.requires.ordered front_is lt c.at-last.ensures in
    let test : ltb c.args.base p.at ≡ true = lt-ltb c.args.base p.at c.if-base-last.true in
    sym (last ∙ ap (λ b. cond b p.state c.args.value) test)

pub returns-else-base-last : goal.returns-else-base-last
returns-else-base-last c = λ at front_at.
    let xs = c.args.sets.now in
    let i = c.args.count in
    let n = i - 1 in
    let p = c.at-last.result in
    let more : i ≡ suc n = grind (arith, c.if-count-eq0.false) in
    let lt : n < length xs = omega (arith, more, c.requires.bound) in
    let front_is : take (suc n) xs ≡ front (is_passed at) xs = ap (λ k. take k xs) (sym more) ∙ front_at in
    let last = state_last c.args.base c.args.value 0 xs n at p c.requires.ordered front_is lt c.at-last.ensures in
    let test : ltb c.args.base p.at ≡ false = le-ltb c.args.base p.at c.if-base-last.false in
    sym (last ∙ ap (λ b. cond b p.state c.args.value) test)
