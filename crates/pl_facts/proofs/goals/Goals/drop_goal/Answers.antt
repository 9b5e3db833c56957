use Rattle.std.proofs.Common.{◌≡◌, sym, ◌∙◌, refl, arith}
use Rattle.std.specs.Prelude.{Some, IsSome, position}
use Rattle.pl_facts.specs.Goals.{is_numbered, goal_of}
use Rattle.pl_facts.proofs.Finding.{within_list}
use Rattle.pl_facts.proofs.Numbered.{found, is_placed, indexed_set, with_dropped-set}
use Rattle.pl_facts.proofs.goals.Goals.drop_goal.Goals as goal

placed : (c : goal.After-self-1) → position (is_numbered c.args.number) c.self.inside.goals.items ≡ Some c.index-place.result.now
placed c = sym (c.self.invariant.placed c.args.number) ∙ c.index-place.ensures

pub index-place-requires : goal.index-place-requires
index-place-requires c =
    let there : IsSome (goal_of c.args.number c.self.inside.goals.items) = rw c.self.view_is c.requires in
    rw (c.self.invariant.placed c.args.number) (is_placed c.args.number c.self.inside.goals.items there)

pub index_mut-requires : goal.index_mut-requires
index_mut-requires c =
    let below = within_list (is_numbered c.args.number) c.self.inside.goals.items c.index-place.result.now (sym (c.self.invariant.placed c.args.number) ∙ c.index-place.ensures) in
    omega (arith, below, c.self.inside.goals.ok.0)

pub invariant_of-self : goal.invariant_of-self
invariant_of-self c =
    let there = found c.args.number _ _ _ (placed c) c.index_mut.ensures.value in
    indexed_set c.self.inside.places c.self.inside.goals.items c.index-place.result.now c.index_mut.result.now _ c.self.invariant there.1 c.index_mut.ensures.value refl

pub returns : goal.returns
returns c =
    let there = found c.args.number _ _ _ (placed c) c.index_mut.ensures.value in
    rw (← c.self.view_is) (sym (with_dropped-set c.args.number c.self.inside.goals.items c.index-place.result.now c.index_mut.result.now c.self.invariant.distinct there.1 (sym c.index_mut.ensures.value) there.2))
