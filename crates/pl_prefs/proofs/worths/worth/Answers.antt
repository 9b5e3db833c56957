use Rattle.std.proofs.Common.{◌≡◌, ◌++◌, List, ap, ◌∙◌}
use Rattle.pl_detect.proofs.Bounded.{bounded_at}
use Rattle.pl_semantics.specs.declared.demand.Demand.{Demand}
use Rattle.pl_semantics.specs.Demands.{demands_at}
use Rattle.pl_prefs.proofs.worths.worth.Goals as goal

pub worth_with-requires-clause-few : goal.worth_with-requires-clause-few
worth_with-requires-clause-few c =
    let s = c.args.s.now in
    let a = c.args.a.now in
    let same : c.deref.result.now ≡ demands_at s a = c.deref.ensures.value ∙ (c.in_ok-demands_at.ensures ∙ ap (λ (ds : List Demand). ds ++ demands_at s a) c.new-demands.ensures.items) in
    rw same (bounded_at s c.requires.whole a c.requires.live).few
