use Rattle.std.proofs.Common.{◌≡◌, ◌-◌, length, []}
use Rattle.pl_text.specs.declared.word.Word.TheVariants as word
use Rattle.pl_syntax.specs.Tokens.{is_word}
use Rattle.pl_syntax.specs.Parsing.{many_by, made}
use Rattle.pl_syntax.specs.Reading.{slot_at, list_of}
use Rattle.pl_syntax.proofs.reader.Reader.other_slots.Given as goal

-- the rest gives what the whole gives
abbrev pub invariant-slots : goal.invariant-slots
invariant-slots l =
    many_by (is_word word.Slot) (slot_at 32 32) (l.end - l.counter) l.slots l.self.rest.now
    ≡ made (list_of l.fn.first) (many_by (is_word word.Slot) (slot_at 32 32) (length l.fn.self.rest.now) []) l.fn.self.rest.now
