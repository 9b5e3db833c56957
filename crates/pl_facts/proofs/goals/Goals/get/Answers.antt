use Rattle.std.proofs.Common.{◌≡◌, sym, ◌∙◌, refl, arith}
use Rattle.std.specs.Prelude.{Some, None, position}
use Rattle.pl_facts.specs.Goals.{is_numbered}
use Rattle.pl_facts.proofs.Finding.{find-None, within_list}
use Rattle.pl_facts.proofs.Numbered.{absent, found}
use Rattle.pl_facts.proofs.goals.Goals.get.Goals as goal

missing : (c : goal.After-from_residual) → position (is_numbered c.args.number) c.self.inside.goals.items ≡ None
missing c = sym (c.self.invariant.placed c.args.number) ∙ sym c.in_err-place.ensures.value

placed : (c : goal.After-index) → position (is_numbered c.args.number) c.self.inside.goals.items ≡ Some c.in_ok-place.place.now
placed c = sym (c.self.invariant.placed c.args.number) ∙ sym c.in_ok-place.ensures.value

pub index-requires : goal.index-requires
index-requires c =
    let below = within_list (is_numbered c.args.number) c.self.inside.goals.items c.in_ok-place.place.now (sym (c.self.invariant.placed c.args.number) ∙ sym c.in_ok-place.ensures.value) in
    omega (arith, below, c.self.inside.goals.ok.0)

pub returns-in_err-place-clause-goal : goal.returns-in_err-place-clause-goal
returns-in_err-place-clause-goal c = rw (← c.self.view_is, c.from_residual.ensures) (sym (find-None (is_numbered c.args.number) c.self.inside.goals.items (missing c)))

pub returns-in_err-place-clause-none : goal.returns-in_err-place-clause-none
returns-in_err-place-clause-none c = rw (← c.self.view_is, c.from_residual.ensures) (λ _. absent c.args.number _ (missing c), λ _. refl)

pub returns-clause-goal : goal.returns-clause-goal
returns-clause-goal c = rw (← c.self.view_is) (sym (found c.args.number _ _ _ (placed c) c.index.ensures).0)

pub returns-clause-none : goal.returns-clause-none
returns-clause-none c =
    let there = found c.args.number _ _ _ (placed c) c.index.ensures in
    rw (← c.self.view_is) (λ e. absurd (cc), λ none. absurd (none c.in_ok-place.place.now c.index.result.now there.1 there.3))

pub returns-clause-some : goal.returns-clause-some
returns-clause-some c =
    let there = found c.args.number _ _ _ (placed c) c.index.ensures in
    rw (← c.self.view_is) ((c.in_ok-place.place.now, there.1, sym c.index.ensures), there.2)
