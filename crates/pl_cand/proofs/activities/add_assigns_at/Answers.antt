use Rattle.std.proofs.Common.{◌≤◌, append-nil, length, rules, arith, sym}
use Rattle.std.proofs.lemmas.Grind.{common_steps}
use Rattle.std.proofs.lemmas.Option.{slice_get_past}
use Rattle.pl_cand.proofs.activities.add_assigns_at.Goals as goal

pub returns-in-None : goal.returns-in-None
returns-in-None c =
    let past : length c.args.params.now ≤ c.args.number = first_of (search rules, grind (arith, common_steps)) in
    rw (slice_get_past c.args.params.now c.args.number past) (sym (append-nil c.args.out.now.items))
