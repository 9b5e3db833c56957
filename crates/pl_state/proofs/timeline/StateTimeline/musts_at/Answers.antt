use Rattle.std.proofs.Common.{◌≡◌, true, subst}
use Rattle.std.specs.Prelude.{◌↔◌}
use Rattle.pl_state.specs.declared.reservation.Must.{Must}
use Rattle.pl_state.specs.Keys.{Has}
use Rattle.pl_state.specs.Musts.{holds_at}
use Rattle.pl_state.specs.Timelines.{Standing}
use Rattle.pl_state.proofs.timeline.StateTimeline.musts_at.Goals as goal

pub returns : goal.returns
returns c = subst (λ (v : Standing). (m : Must) → Has m c.in_ok-musts.musts.items ↔ (Has m v.musts × (holds_at c.args.t m ≡ true))) c.self.view_is c.in_ok-musts.ensures
