use Rattle.std.proofs.Common.{◌≡◌, ◌-◌, length, []}
use Rattle.pl_text.specs.declared.word.Word.TheVariants as word
use Rattle.pl_syntax.specs.Tokens.{is_word}
use Rattle.pl_syntax.specs.Parsing.{many_by}
use Rattle.pl_syntax.specs.Reading.{link_at}
use Rattle.pl_syntax.proofs.reader.Reader.links.Given as goal

-- the rest gives what the whole gives
abbrev pub invariant-links : goal.invariant-links
invariant-links l =
    many_by (is_word word.Link) link_at (l.end - l.counter) l.links l.self.rest.now
    ≡ many_by (is_word word.Link) link_at (length l.fn.self.rest.now) [] l.fn.self.rest.now
