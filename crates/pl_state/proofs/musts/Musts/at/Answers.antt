use Rattle.std.proofs.Common.{sym, subst}
use Rattle.pl_state.specs.Keys.{Has}
use Rattle.pl_state.proofs.Indexing.{kept_has, kept_only}
use Rattle.pl_state.proofs.musts.Musts.at.Goals as goal

pub returns : goal.returns
returns c = λ m.
    let i = c.self.inside in
    let found = c.in_ok-musts.ensures m in
    (λ has. (let listed = found.0 has in (subst (λ l. Has m l) c.self.view_is (kept_only m i.items i.starts c.self.invariant listed.0), listed.1)), λ both. found.1 (kept_has m i.items i.starts c.self.invariant (subst (λ l. Has m l) (sym c.self.view_is) both.0), both.1))
