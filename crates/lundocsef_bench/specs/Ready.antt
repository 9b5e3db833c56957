-- A pass that may take a turn.
use Rattle.std.specs.Prelude.{◌≡◌, false}
use Rattle.pl_turn.specs.declared.lock.TurnLock.{TurnLock}
use Rattle.pl_turn.specs.declared.pass.Pass.{Pass}
use Rattle.pl_turn.specs.Passes.{IsPassOf, in_turn}

abbrev pub IsReady : {V I : Type 0} → TurnLock V I → Pass V I → Type 0
IsReady lock pass = IsPassOf lock pass × (in_turn pass ≡ false)
