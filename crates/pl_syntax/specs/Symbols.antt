-- The symbols and their bytes.
use Rattle.std.specs.Prelude.{ℕ, ◌==◌, Option, Some, None, if◌then◌else◌}
use Rattle.pl_syntax.specs.declared.symbol.Symbol.{Symbol}
use Rattle.pl_syntax.specs.declared.symbol.Symbol.TheVariants as symbol

abbrev pub symbol_byte : Symbol → ℕ
symbol_byte symbol.OpenBrace = 123
symbol_byte symbol.CloseBrace = 125
symbol_byte symbol.Open = 40
symbol_byte symbol.Close = 41
symbol_byte symbol.Comma = 44
symbol_byte symbol.Equals = 61
symbol_byte symbol.Plus = 43
symbol_byte symbol.Minus = 45
symbol_byte symbol.Times = 42

-- the symbol that is written so
unfoldable pub symbol_of : ℕ → Option Symbol
symbol_of b =
    if b == 123 then Some symbol.OpenBrace else
    if b == 125 then Some symbol.CloseBrace else
    if b == 40 then Some symbol.Open else
    if b == 41 then Some symbol.Close else
    if b == 44 then Some symbol.Comma else
    if b == 61 then Some symbol.Equals else
    if b == 43 then Some symbol.Plus else
    if b == 45 then Some symbol.Minus else
    if b == 42 then Some symbol.Times else
    None
