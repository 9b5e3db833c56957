use Rattle.std.proofs.Common.{◌≡◌, ◌<◌, ◌+◌, ◌*◌, ℕ, pos, length}
use Rattle.std.specs.Prelude.{slice_index}
use Rattle.pl_stn.specs.Nets.{time_of}
use Rattle.pl_check.proofs.schedules.starts.Given as goal

abbrev pub invariant-loop-slot : goal.invariant-loop-slot
invariant-loop-slot l = record {
  each_slot : length l.starts ≡ l.slot;
  starts : (i : ℕ) → i < l.slot → pos (slice_index l.starts i) ≡ time_of l.times (2 * i + 2);
}
