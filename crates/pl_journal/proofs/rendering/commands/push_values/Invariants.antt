use Rattle.std.proofs.Common.{◌≡◌, ◌++◌}
use Rattle.std.specs.Slice.Iter.{iter_rest}
use Rattle.std.specs.Iterator.Adapters.{zip_first, zip_second}
use Rattle.pl_journal.specs.Rendering.Words.{spaced}
use Rattle.pl_journal.specs.Rendering.Lines.{values_words}
use Rattle.pl_journal.proofs.rendering.commands.push_values.Given as goal

-- what the parameters and values ahead still write
abbrev pub invariant-loop-param : goal.invariant-loop-param
invariant-loop-param l =
    l.out.items ++ spaced (values_words (iter_rest (zip_first l.param-iterator)) (iter_rest (zip_second l.param-iterator)))
    ≡ l.initial.out.items ++ spaced (values_words l.params l.values)
