use Rattle.std.proofs.Common.{◌≡◌, ◌++◌, suc, take, drop, sym, ◌∙◌, subst}
use Rattle.pl_points.specs.Standing.{without}
use Rattle.pl_state.specs.Musts.{same_must}
use Rattle.pl_state.specs.Starts.{AreKept}
use Rattle.pl_state.proofs.Indexing.{kept_without}
use Rattle.pl_state.proofs.musts.Musts.remove.Goals as goal

pub invariant_of-self : goal.invariant_of-self
invariant_of-self c =
    let xs = c.self.inside.items in
    let i = c.in-Some.place in
    let u = c.args.must in
    let gone : take i xs ++ drop (suc i) xs ≡ without same_must u xs = c.in-Some.ensures.gone in
    subst (λ l. AreKept l c.remove.new.self) (sym (c.remove-in-Some.ensures ∙ gone))
    (subst (λ l. AreKept (without same_must u xs) l) (sym c.remove.ensures) (kept_without u xs c.self.inside.starts c.self.invariant))

pub invariant_of-self-in-None : goal.invariant_of-self-in-None
invariant_of-self-in-None c =
    let xs = c.self.inside.items in
    let u = c.args.must in
    let none : without same_must u xs ≡ xs = c.in-None.ensures.none in
    subst (λ l. AreKept l c.remove.new.self) none
    (subst (λ l. AreKept (without same_must u xs) l) (sym c.remove.ensures) (kept_without u xs c.self.inside.starts c.self.invariant))
