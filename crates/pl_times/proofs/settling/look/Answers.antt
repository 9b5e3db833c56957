use Rattle.std.proofs.Common.{sym, w64, ◌∙◌, ap, of_z}
use Rattle.pl_times.proofs.Rises.{rise_small}
use Rattle.pl_times.proofs.Looking.{popped_stale, popped_scanned}
use Rattle.pl_times.proofs.settling.look.Goals as goal

pub key_at-requires-clause-time_small : goal.key_at-requires-clause-time_small
key_at-requires-clause-time_small c =
    rw c.as_slice.ensures.value
    (rise_small _ _ _ c.requires.known _ _ c.requires.popped.rising c.args.point c.requires.popped.within)

pub returns-then-key-key_at : goal.returns-then-key-key_at
returns-then-key-key_at c = popped_scanned _ _ _ _ _ _ c.requires.popped c.in_ok-scan.ensures

pub returns : goal.returns
returns c =
    let same = rw c.as_slice.ensures.value at c.key_at.ensures in
    popped_stale _ _ _ _ _ c.requires.popped
    (λ e. c.if-key-key_at.false (ap (λ x. of_z w64 x) (e ∙ sym same)))
