-- the entries so far, and those to come
use Rattle.std.proofs.Common.{◌≡◌, ◌++◌, ◌-◌, drop}
use Rattle.pl_log.specs.Unpacking.{entries_in}
use Rattle.pl_log.proofs.pack.Pack.unpack.Given as goal

abbrev pub invariant-loop-place : goal.invariant-loop-place
invariant-loop-place l =
    l.into ++ drop (l.from - l.place) (entries_in (drop l.place l.form-items) l.rest.numbers.now l.rest.bytes.now l.rest.values.now l.rest.whole.now)
    ≡ l.initial.into ++ drop l.from (entries_in l.form-items l.initial.rest.numbers.now l.initial.rest.bytes.now l.initial.rest.values.now l.initial.rest.whole.now)
