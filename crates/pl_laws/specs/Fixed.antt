-- A log of one thread that takes the least repair is fixed by its model, its options and its inputs.
use Rattle.std.specs.Prelude.{◌≡◌, ℕ, ◌⊎◌, true, List, ◌++◌, Option}
use Rattle.pl_model.specs.declared.whole.Model.{Model}
use Rattle.pl_entry.specs.declared.entry.Entry.{Entry}
use Rattle.pl_machine.specs.Legal.{Legal, options_of, world_of}
use Rattle.pl_machine.specs.Finished.{Finished, inputs_of}
use Rattle.pl_main.specs.Solo.{Solo}

-- a legal log of one thread
pub record IsSolo (m : Model) (log : List Entry) : Type 0 where
  pub legal : Legal m log
  pub solo : Solo m log

abbrev pub BeginsWith : List Entry → List Entry → Type 0
BeginsWith log front = (rest : List Entry) × (log ≡ front ++ rest)

-- Where the inputs of one log begin with those of another, one of the two begins with the other.
abbrev pub SoloFollowsInputs : Model → Type 0
SoloFollowsInputs m = (one other : List Entry) (more : List (Option (List ℕ))) → IsSolo m one → IsSolo m other → options_of one ≡ options_of other
    → inputs_of other ≡ inputs_of one ++ more → BeginsWith other one ⊎ BeginsWith one other

-- Two logs with the same inputs whose last rounds are closed are one log.
abbrev pub SoloIsFixed : Model → Type 0
SoloIsFixed m = (one other : List Entry) → IsSolo m one → IsSolo m other → options_of one ≡ options_of other
    → inputs_of one ≡ inputs_of other → (world_of m one).closed ≡ true → (world_of m other).closed ≡ true → one ≡ other

-- So no input has two logs that are finished for it.
abbrev pub SoloIsOne : Model → Type 0
SoloIsOne m = (input : List ℕ) (one other : List Entry) → Finished m one input → Finished m other input → Solo m one → Solo m other
    → options_of one ≡ options_of other → one ≡ other
