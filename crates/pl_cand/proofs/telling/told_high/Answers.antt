use Rattle.pl_semantics.specs.Starts.{help_until, helpers}
use Rattle.pl_semantics.specs.LineRepairs.{lowers}
use Rattle.pl_cand.proofs.Few.{help_few}
use Rattle.pl_cand.proofs.Starting.{no_help_until}
use Rattle.pl_cand.proofs.telling.told_high.Goals as goal

pub returns : goal.returns
returns c =
    let s = c.args.state.now in
    let k = c.args.k.now in
    let m = c.args.mv.now in
    c.in_ok-told.ensures (help_until s (helpers s (lowers k.subject)) k.a) (help_few s (lowers k.subject) k.a) (λ none. no_help_until s m none (helpers s (lowers k.subject)) k.a)
