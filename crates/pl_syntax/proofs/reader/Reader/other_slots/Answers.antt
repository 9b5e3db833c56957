use Rattle.std.proofs.Common.{◌≡◌, ◌-◌, length, [], arith}
use Rattle.pl_text.specs.declared.word.Word.TheVariants as word
use Rattle.pl_syntax.specs.Tokens.{is_word}
use Rattle.pl_syntax.specs.Reading.{slot_at}
use Rattle.pl_syntax.proofs.Turns.{many_behind}
use Rattle.pl_syntax.proofs.reader.Reader.other_slots.Goals as goal

pub slots-init : goal.slots-init
slots-init c =
    let whole : length c.args.self.now.rest.now - 0 ≡ length c.args.self.now.rest.now = omega arith in
    rw (c.in_ok-push.ensures.ok, c.new-slots.ensures, whole) (many_behind (is_word word.Slot) (slot_at 32 32) c.args.first (length c.args.self.now.rest.now) [] c.args.self.now.rest.now)
