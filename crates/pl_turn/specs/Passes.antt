-- What contracts say of a lock and a pass.
use Rattle.std.specs.Prelude.{◌≡◌, ℕ, false, Bool, cond, List, [], ◌∷◌, Option, None}
use Rattle.std.specs.List.{All}
use Rattle.pl_turn.specs.declared.known.Known.{Known}
use Rattle.pl_turn.specs.declared.known.Crew.{Crew}
use Rattle.pl_turn.specs.declared.pass.Pass.{Pass}
use Rattle.pl_turn.specs.declared.lock.TurnLock.{TurnLock}
use Rattle.pl_turn.specs.History.{StandsIn}
use Rattle.pl_turn.specs.Rule.{own_lists}

-- the slots that a pass holds: the one slot, empty, while it is in its turn
abbrev pub hand_of : {V : Type 0} → Bool → List (ℕ × Option V)
hand_of served = cond served ((0, None) ∷ []) []

module _ {V I : Type 0} where
  abbrev pub known : Pass V I → Known I
  known pass = pass.seat.me.0

  -- the history, as far as the pass has seen it
  abbrev pub seen_of : Pass V I → List I
  seen_of pass = (known pass).seen

  -- the entries that the pass made, each with its place in the history
  abbrev pub mine_of : Pass V I → List (ℕ × I)
  mine_of pass = (known pass).mine

  -- a length of the history that was read, by the pass or by one that it took in
  abbrev pub counted_of : Pass V I → ℕ
  counted_of pass = (known pass).counted

  abbrev pub in_turn : Pass V I → Bool
  in_turn pass = (known pass).served

  -- what the first pass knows of the passes that were split off from it
  abbrev pub crew_of : Pass V I → Crew I
  crew_of pass = (known pass).crew

  -- the pass is the one that the lock was made with
  abbrev pub leads : Pass V I → Bool
  leads pass = (crew_of pass).leads

  -- how many entries the history had as the lock was made
  abbrev pub opening_of : Pass V I → ℕ
  opening_of pass = (crew_of pass).opening

  -- how many passes were split off
  abbrev pub made_by : Pass V I → ℕ
  made_by pass = (crew_of pass).made

  -- the own entries of each pass that was joined
  abbrev pub joined_by : Pass V I → List (List (ℕ × I))
  joined_by pass = (crew_of pass).joined

  -- the pass's own entries, and those of each pass that was joined
  abbrev pub lists_of : Pass V I → List (List (ℕ × I))
  lists_of pass = own_lists (known pass)

  -- The pass belongs to the lock. Each entry of its own, and of the passes that were joined to it, stands at its place in what the pass has seen, and the places of one list rise
  pub record IsPassOf (lock : TurnLock V I) (pass : Pass V I) : Type 0 where
    pub of_lock : pass.seat.table_id ≡ lock.table.shared.table_id
    pub stands : All (StandsIn (seen_of pass)) (lists_of pass)
    pub hand : pass.seat.me.1 ≡ hand_of (in_turn pass)
    pub outside : in_turn pass ≡ false → (known pass).ticket ≡ None
    pub compared : (known pass).heard ≡ []
    pub unspent : (known pass).spent ≡ false
