-- What a function of the reader returned is what reading gives, unless memory ran out.
use Rattle.std.specs.Prelude.{◌≡◌, Bool, true, false, Option, Some, None, List, Result, Ok, Err}
use Rattle.pl_syntax.specs.declared.token.Token.{Token}
use Rattle.pl_syntax.specs.declared.fault.Stopped.{Stopped}
use Rattle.pl_syntax.specs.declared.fault.Stopped.TheVariants as stopped
use Rattle.pl_syntax.specs.Faults.{Stop, too_deep, unexpected}

abbrev pub Fails : {Y : Type 0} → Stopped → Result Y Stop → Type 0
Fails (stopped.TooDeep left) read = read ≡ Err (too_deep, left)
Fails (stopped.Unexpected left) read = read ≡ Err (unexpected, left)
Fails stopped.Memory read = Unit {0}

-- the value, and the tokens that are left
abbrev pub Gives : {Y : Type 0} → Result Y Stopped → List Token → Result (Y × List Token) Stop → Type 0
Gives (Ok x) left read = read ≡ Ok (x, left)
Gives (Err e) left read = Fails e read

-- the token was taken, or it does not come next
abbrev pub Ate : Bool → List Token → List Token → Option (List Token) → Type 0
Ate true old new behind = behind ≡ Some new
Ate false old new behind = (behind ≡ None) × (new ≡ old)

abbrev pub GivesAll : {Y : Type 0} → Result Y Stopped → Result Y Stop → Type 0
GivesAll (Ok x) read = read ≡ Ok x
GivesAll (Err e) read = Fails e read
