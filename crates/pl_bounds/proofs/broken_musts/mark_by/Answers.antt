use Rattle.std.proofs.Common.{refl, inl}
use Rattle.std.proofs.lemmas.Bool.{eq-eqb}
use Rattle.pl_semantics.specs.Demands.{asked_of, set_in}
use Rattle.pl_bounds.proofs.Having.{has_flat}
use Rattle.pl_bounds.proofs.broken_musts.mark_by.Goals as goal

pub mark_broken-requires-clause-comes : goal.mark_broken-requires-clause-comes
mark_broken-requires-clause-comes c =
    let d = c.args.demand.now in
    has_flat (asked_of set_in d.line) d c.in-Set.set c.args.asking.now.coming.items c.requires.comes (rw (eq-eqb d.line d.line refl, c.in-Set.is) (inl refl))
