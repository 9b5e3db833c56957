use Rattle.std.proofs.Common.{◌≡◌, ◌-◌, length, []}
use Rattle.pl_text.specs.declared.word.Word.TheVariants as word
use Rattle.pl_syntax.specs.Tokens.{is_word}
use Rattle.pl_syntax.specs.Parsing.{many_by}
use Rattle.pl_syntax.specs.Reading.{order_at}
use Rattle.pl_syntax.proofs.reader.Reader.orders.Given as goal

-- the rest gives what the whole gives
abbrev pub invariant-orders : goal.invariant-orders
invariant-orders l =
    many_by (is_word word.Order) order_at (l.end - l.counter) l.orders l.self.rest.now
    ≡ many_by (is_word word.Order) order_at (length l.fn.self.rest.now) [] l.fn.self.rest.now
