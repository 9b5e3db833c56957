-- A commit takes back nothing, and leaves the conflicts as they were.
use Rattle.std.proofs.Common.{◌≡◌, ℕ, ◌≤◌, Ok, Err, refl, sym, subst, arith}
use Rattle.std.specs.Prelude.{Result, OnOk}
use Rattle.pl_entry.specs.declared.event.Event.TheVariants as event
use Rattle.pl_entry.specs.declared.reply.Reply.{Reply}
use Rattle.pl_entry.specs.declared.reply.Reply.TheVariants as reply
use Rattle.pl_semantics.specs.Conflicts.{conflicts_of}
use Rattle.pl_machine.specs.declared.stop.Stop.{Stop}
use Rattle.pl_machine.specs.World.{World}
use Rattle.pl_machine.specs.Step.{commit_reply, after_commit}
use Rattle.pl_machine.specs.Sound.{State}
use Rattle.pl_machine.specs.Taking.{Answers}
use Rattle.pl_machine.proofs.Granting.{commit_bounds, grants}
use Rattle.pl_machine.proofs.Granted.{granted_same}

no_less : (w : World) (h : ℕ) (r : Reply) → commit_reply w.state h ≡ r → w.state.committed ≤ (after_commit w h r).state.committed
no_less w h reply.Done is = (commit_bounds w.state h is).0
no_less w h (reply.Held k) is = omega arith
no_less w h _ is = omega arith

same_conflicts : (w : World) (h : ℕ) (r : Reply) → commit_reply w.state h ≡ r → conflicts_of (after_commit w h r).state ≡ conflicts_of w.state
same_conflicts w h reply.Done is = granted_same w.state h ((grants w.state h).0 is)
same_conflicts w h (reply.Held k) is = refl
same_conflicts w h _ is = refl

pub never_falls : (old new : State) (h : ℕ) (r : Result Reply Stop) → Answers old (event.Commit h) r new → OnOk r (old.world.state.committed ≤ new.world.state.committed)
never_falls old new h (Ok answer) took = subst (λ (w : World). old.world.state.committed ≤ w.state.committed) (sym took.1.step.leaves) (no_less old.world h (commit_reply old.world.state h) refl)
never_falls old new h (Err e) took = tt

pub leaves_conflicts : (old new : State) (h : ℕ) (r : Result Reply Stop) → Answers old (event.Commit h) r new → OnOk r (conflicts_of new.world.state ≡ conflicts_of old.world.state)
leaves_conflicts old new h (Ok answer) took = subst (λ (w : World). conflicts_of w.state ≡ conflicts_of old.world.state) (sym took.1.step.leaves) (same_conflicts old.world h (commit_reply old.world.state h) refl)
leaves_conflicts old new h (Err e) took = tt
