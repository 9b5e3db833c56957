use Rattle.std.proofs.Common.{◌≡◌, ◌-◌, length, [], arith}
use Rattle.pl_syntax.specs.declared.symbol.Symbol.TheVariants as symbol
use Rattle.pl_syntax.specs.Tokens.{is_symbol}
use Rattle.pl_syntax.specs.Reading.{further_at}
use Rattle.pl_syntax.proofs.Turns.{many_behind}
use Rattle.pl_syntax.proofs.reader.Reader.other_bindings.Goals as goal

pub bindings-init : goal.bindings-init
bindings-init c =
    let whole : length c.args.self.now.rest.now - 0 ≡ length c.args.self.now.rest.now = omega arith in
    rw (c.in_ok-push.ensures.ok, c.new-bindings.ensures, whole) (many_behind (is_symbol symbol.Comma) (further_at 32 32) c.args.first (length c.args.self.now.rest.now) [] c.args.self.now.rest.now)
