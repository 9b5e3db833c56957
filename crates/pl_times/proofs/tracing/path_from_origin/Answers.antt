use Rattle.std.proofs.Common.{◌∙◌, ap, List, ℕ}
use Rattle.std.specs.Prelude.{reverse}
use Rattle.pl_stn.specs.Nets.{time_of}
use Rattle.pl_times.specs.Times.{edges_of}
use Rattle.pl_times.proofs.Turning.{path_back}
use Rattle.pl_times.proofs.tracing.path_from_origin.Goals as goal

pub returns : goal.returns
returns c = (
  reverse c.in_ok-walk.walk.items,
  c.in_ok-path.ensures ∙ ap (λ (ks : List ℕ). edges_of c.args.net.now ks) (c.as_slice.ensures.value ∙ c.reverse.ensures.items),
  path_back c.args.net.now c.args.point 0 (time_of c.args.late.now.times c.args.point) c.in_ok-walk.walk.items c.in_ok-walk.ensures,
)
