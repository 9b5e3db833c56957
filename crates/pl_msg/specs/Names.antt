-- What a name of a line names in the model.
use Rattle.std.specs.Prelude.{ℕ, ◌+◌, Bool, true, false, List, [], ◌∷◌, Option, Some, None, if◌then◌else◌, bytes_eq, Ok, Err}
use Rattle.std.specs.List.{position_from}
use Rattle.pl_model.specs.declared.kinds.Kind.{Kind}
use Rattle.pl_model.specs.declared.parameters.Origin.{Origin}
use Rattle.pl_model.specs.declared.parameters.Origin.TheVariants as origin
use Rattle.pl_model.specs.declared.timelines.Timeline.{Timeline}
use Rattle.pl_model.specs.declared.timelines.Timeline.TheVariants as timeline
use Rattle.pl_model.specs.declared.whole.Model.{Model}
use Rattle.pl_text.specs.declared.token.Token.{Token}
use Rattle.pl_text.specs.Tokens.{token_text}
use Rattle.pl_msg.specs.declared.fault.ParseFault.TheVariants as fault
use Rattle.pl_msg.specs.Reads.{Read}

-- the first item from the place on that passes, with its place
abbrev pub first_from : {X : Type 0} → (X → Bool) → ℕ → List X → Option (ℕ × X)
first_from test place [] = None
first_from test place (x ∷ xs) = if test x then Some (place, x) else first_from test (place + 1) xs

-- the kind of this name, with its number
abbrev pub kind_named : Model → List ℕ → Option (ℕ × Kind)
kind_named model name = first_from (λ k. bytes_eq k.name name) 0 model.kinds

abbrev pub timeline_name : Timeline → List ℕ
timeline_name (timeline.Capacity name most) = name
timeline_name (timeline.Level name least most start) = name
timeline_name (timeline.States name states start any steps) = name

-- the timeline of this name, with its number
abbrev pub timeline_named : Model → List ℕ → Option (ℕ × Timeline)
timeline_named model name = first_from (λ t. bytes_eq (timeline_name t) name) 0 model.timelines

-- the number of the state of this name
abbrev pub state_named : List (List ℕ) → List ℕ → Option ℕ
state_named states name = position_from (λ state. bytes_eq state name) 0 states

-- declared without `=`
abbrev pub is_free : Origin → Bool
is_free (origin.Free default) = true
is_free (origin.Dependent expr) = false

-- ---- what a token of a line names, or the fault of the line

abbrev pub kind_found : Option (ℕ × Kind) → Read (ℕ × Kind)
kind_found None = Err fault.UnknownName
kind_found (Some p) = Ok p

-- the kind, with its number
abbrev pub kind_in : Model → List ℕ → Token → Read (ℕ × Kind)
kind_in model line t = kind_found (kind_named model (token_text line t))

-- the number of the timeline that was found, if it is a level
abbrev pub level_found : Option (ℕ × Timeline) → Read ℕ
level_found None = Err fault.UnknownName
level_found (Some (n, timeline.Capacity name most)) = Err fault.UnknownName
level_found (Some (n, timeline.Level name least most start)) = Ok n
level_found (Some (n, timeline.States name states start any steps)) = Err fault.UnknownName

-- the number of the level
abbrev pub level_in : Model → List ℕ → Token → Read ℕ
level_in model line t = level_found (timeline_named model (token_text line t))
