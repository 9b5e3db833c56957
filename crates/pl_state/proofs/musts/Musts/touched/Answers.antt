use Rattle.std.proofs.Common.{sym, subst}
use Rattle.pl_state.specs.Keys.{Has}
use Rattle.pl_state.proofs.Indexing.{kept_has}
use Rattle.pl_state.proofs.musts.Musts.touched.Goals as goal

pub returns-clause-each : goal.returns-clause-each
returns-clause-each c = λ m has touch. c.in_ok-keys.ensures.each m (kept_has m c.self.inside.items c.self.inside.starts c.self.invariant (subst (λ l. Has m l) (sym c.self.view_is) has)) touch
