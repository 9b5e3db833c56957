use Rattle.std.proofs.Common.{◌≡◌, ◌-◌, length, []}
use Rattle.pl_syntax.specs.Parsing.{many_by}
use Rattle.pl_syntax.specs.Reading.{item_at, is_item}
use Rattle.pl_syntax.proofs.reader.Reader.items.Given as goal

-- the rest gives what the whole gives
abbrev pub invariant-items : goal.invariant-items
invariant-items l =
    many_by is_item (item_at 32 32) (l.end - l.counter) l.items l.self.rest.now
    ≡ many_by is_item (item_at 32 32) (length l.fn.self.rest.now) [] l.fn.self.rest.now
