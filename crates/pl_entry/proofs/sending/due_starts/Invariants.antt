-- the starts that are left give the whole
use Rattle.std.proofs.Common.{◌≡◌, drop, map}
use Rattle.std.specs.Prelude.{filter}
use Rattle.pl_entry.specs.Due.{is_due, start_of, with_starts, due_starts}
use Rattle.pl_entry.proofs.sending.due_starts.Given as goal

abbrev pub invariant-loop-activity : goal.invariant-loop-activity
invariant-loop-activity l = with_starts l.starts.keys (map start_of (filter (is_due l.model l.now l.c) (drop l.activity-index l.activity-items))) ≡ due_starts l.model l.plan.activities l.now l.c
