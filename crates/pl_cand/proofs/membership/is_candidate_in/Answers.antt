use Rattle.std.proofs.Common.{◌∙◌}
use Rattle.pl_semantics.specs.Candidates.{tried_for}
use Rattle.pl_cand.specs.declared.told.Told.TheVariants as told
use Rattle.pl_cand.specs.Telling.{Tells}
use Rattle.pl_cand.proofs.Among.{early_candidate, never_candidate}
use Rattle.pl_cand.proofs.membership.is_candidate_in.Goals as goal

pub returns-in-Early : goal.returns-in-Early
returns-in-Early c =
    let s = c.args.state.now in
    let k = c.args.k.now in
    let m = c.args.mv.now in
    let early : Tells (tried_for s k k.code) m told.Early = rw c.in-Early.is at c.in_ok-told.ensures in
    c.is_worth.ensures ∙ early_candidate s k m early

pub returns-in-Untried : goal.returns-in-Untried
returns-in-Untried c =
    let s = c.args.state.now in
    let k = c.args.k.now in
    let m = c.args.mv.now in
    let never : Tells (tried_for s k k.code) m told.Untried = rw c.in-Untried.is at c.in_ok-told.ensures in
    never_candidate s k m never
