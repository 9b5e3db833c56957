use Rattle.std.proofs.Common.{◌≡◌, ap, ◌∙◌, true, rules, FitsSigned, pos, if◌then◌else◌}
use Rattle.std.specs.Prelude.{◌==◌, max}
use Rattle.std.specs.Int.{w64}
use Rattle.std.proofs.lemmas.Int.{to_z-of_z}
use Rattle.pl_plan.specs.Index.{is_number}
use Rattle.pl_rate.specs.Hinges.{run_over, since_of}
use Rattle.pl_rate.proofs.Gained.{gains_as}
use Rattle.pl_rate.proofs.Fores.{rate_run}
use Rattle.pl_rate.proofs.gathering.push_rate.Goals as goal

pub returns : goal.returns
returns c =
    let rate = c.args.rate in
    let lasting = c.args.lasting in
    let bases = c.args.bases.now in
    let number : is_number c.args.kind rate.kind ≡ true = cc in
    let from : c.later-from.result ≡ max (since_of bases rate.level) lasting.start = cc in
    let fits : FitsSigned w64 c.args.rate.change = search rules in
    let gains = rw (to_z-of_z w64 c.args.rate.change fits) at c.in_ok-push_run.ensures in
    gains_as _ _ _ _ gains
    (λ line t. ap (λ n. if rate.level == line then run_over n lasting.end rate.change t else pos 0) from ∙ rate_run bases c.args.kind lasting.start lasting.end rate line t number)
