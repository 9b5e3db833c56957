use Rattle.std.proofs.Common.{◌≡◌, ◌-◌, length, []}
use Rattle.pl_syntax.specs.declared.symbol.Symbol.TheVariants as symbol
use Rattle.pl_syntax.specs.Tokens.{is_symbol}
use Rattle.pl_syntax.specs.Parsing.{many_by, made}
use Rattle.pl_syntax.specs.Reading.{further_at, list_of}
use Rattle.pl_syntax.proofs.reader.Reader.other_bindings.Given as goal

-- the rest gives what the whole gives
abbrev pub invariant-bindings : goal.invariant-bindings
invariant-bindings l =
    many_by (is_symbol symbol.Comma) (further_at 32 32) (l.end - l.counter) l.bindings l.self.rest.now
    ≡ made (list_of l.fn.first) (many_by (is_symbol symbol.Comma) (further_at 32 32) (length l.fn.self.rest.now) []) l.fn.self.rest.now
