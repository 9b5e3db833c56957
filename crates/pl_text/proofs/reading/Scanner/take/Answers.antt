use Rattle.std.proofs.Common.{◌≡◌, ◌-◌, length, length-drop, arith}
use Rattle.pl_text.proofs.Scanning.{takes}
use Rattle.pl_text.proofs.reading.Scanner.take.Goals as goal

pub returns : goal.returns
returns c =
    let len : length c.after-self.result.now ≡ length c.args.rest.now - (c.in_ok-lexeme.lexeme.len - 1) = rw c.after-self.ensures (length-drop (c.in_ok-lexeme.lexeme.len - 1) c.args.rest.now) in (
      rw (c.in_ok-keep.ensures.ok, c.in_ok-keep.ensures.same.1, c.after-self.ensures) (takes c.args.self.now.found.items c.args.self.now.at c.args.first c.args.rest.now c.in_ok-lexeme.lexeme c.in_ok-lexeme.ensures.value c.in_ok-lexeme.ensures.within.0),
      omega (arith, len, c.in_ok-lexeme.ensures.within),
      omega (arith, len, c.in_ok-lexeme.ensures.within, c.in_ok-keep.ensures.same.1),
    )
