-- What is read of a line's tokens.
use Rattle.std.specs.Prelude.{◌≡◌, List, Option, Some, None, Result, Ok, Err}
use Rattle.std.specs.declared.vec.Vec.{Vec}
use Rattle.std.specs.declared.alloc.Global.{Global}
use Rattle.pl_text.specs.declared.token.Token.{Token}
use Rattle.pl_text.specs.declared.fault.TextFault.{TextFault}

-- the tokens, or none where the line has a fault
abbrev pub GivesTokens : Result (List Token) TextFault → Option (Vec Token Global) → Type 0
GivesTokens wanted (Some tokens) = wanted ≡ Ok tokens.items
GivesTokens (Ok tokens) None = ⊥
GivesTokens (Err e) None = Unit {0}
