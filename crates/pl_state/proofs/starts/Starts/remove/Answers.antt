use Rattle.std.proofs.Common.{◌≡◌, ◌++◌, suc, take, drop, sym, ◌∙◌, subst}
use Rattle.pl_points.specs.Standing.{without}
use Rattle.pl_state.specs.declared.reservation.Started.{Started}
use Rattle.pl_state.specs.Starts.{started, same_started, IsIndex}
use Rattle.pl_state.proofs.Indexing.{index_without, knows_started}
use Rattle.pl_state.proofs.starts.Starts.remove.Goals as goal

pub position_in-requires-clause-known : goal.position_in-requires-clause-known
position_in-requires-clause-known c = knows_started

pub invariant_of-self : goal.invariant_of-self
invariant_of-self c =
    let xs = c.self.inside.items in
    let i = c.in-Some.place in
    let u : Started = started c.args.must in
    let gone : take i xs ++ drop (suc i) xs ≡ without same_started u xs = c.in-Some.ensures.gone in
    subst (λ l. IsIndex c.self.inside.longest l) (sym (c.remove.ensures ∙ gone)) (index_without c.self.inside.longest u xs c.self.invariant)
