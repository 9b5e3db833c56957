use Rattle.std.proofs.Common.{◌≡◌, ◌-◌, length, []}
use Rattle.pl_text.specs.declared.word.Word.TheVariants as word
use Rattle.pl_syntax.specs.Tokens.{is_word}
use Rattle.pl_syntax.specs.Parsing.{many_by}
use Rattle.pl_syntax.specs.Reading.{alternative_at}
use Rattle.pl_syntax.proofs.reader.Reader.alternatives.Given as goal

-- the rest gives what the whole gives
abbrev pub invariant-alternatives : goal.invariant-alternatives
invariant-alternatives l =
    many_by (is_word word.Alternative) (alternative_at 32 32) (l.end - l.counter) l.alternatives l.self.rest.now
    ≡ many_by (is_word word.Alternative) (alternative_at 32 32) (length l.fn.self.rest.now) [] l.fn.self.rest.now
