use Rattle.std.proofs.Common.{◌≡◌, rules}
use Rattle.std.specs.Arc.{arc_value}
use Rattle.pl_machine.proofs.Runs.{sound_fresh}
use Rattle.pl_machine.proofs.machine.Machine.fresh.Goals as goal

pub invariant_of-result : goal.invariant_of-result
invariant_of-result c =
    let same : c.new-shared.result ≡ arc_value c.args.model = search rules in
    rw (c.push.ensures, c.reserve.ensures.entries, c.new-log.ensures, c.in_ok-board.ensures, c.new-2.ensures.due, c.new-2.ensures.next_start, c.new-2.ensures.seen, c.new-2.ensures.ranges, c.closed.ensures, same) (sound_fresh _ _ c.requires.checked c.requires.options)
