use Rattle.std.proofs.Common.{◌≡◌, ◌-◌, length, []}
use Rattle.pl_text.specs.declared.word.Word.TheVariants as word
use Rattle.pl_syntax.specs.Tokens.{is_word}
use Rattle.pl_syntax.specs.Parsing.{many_by}
use Rattle.pl_syntax.specs.Reading.{step_at}
use Rattle.pl_syntax.proofs.reader.Reader.steps_list.Given as goal

-- the rest gives what the whole gives
abbrev pub invariant-steps : goal.invariant-steps
invariant-steps l =
    many_by (is_word word.Step) step_at (l.end - l.counter) l.steps l.self.rest.now
    ≡ many_by (is_word word.Step) step_at (length l.fn.self.rest.now) [] l.fn.self.rest.now
