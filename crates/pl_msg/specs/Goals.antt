-- Goal lines: `NUMBER KIND EARLIEST LATEST must` or `may`, and presets `NAME = VALUE`.
use Rattle.std.specs.Prelude.{ℕ, ℤ, pos, Bool, true, false, not, ◌&&◌, nat_le, nat_lt, int_le, List, [], ◌∷◌, Option, Some, None, if◌then◌else◌, codes, bytes_eq, Ok, Err}
use Rattle.std.specs.List.{list_any, list_all}
use Rattle.pl_text.specs.declared.token.Token.{Token}
use Rattle.pl_text.specs.Tokens.{token_text}
use Rattle.pl_model.specs.declared.parameters.Param.{Param}
use Rattle.pl_model.specs.declared.kinds.Kind.{Kind}
use Rattle.pl_model.specs.declared.whole.Model.{Model}
use Rattle.pl_facts.specs.declared.goal.Goal.{Goal}
use Rattle.pl_msg.specs.declared.fault.ParseFault.TheVariants as fault
use Rattle.pl_msg.specs.declared.presets.Preset.{Preset}
use Rattle.pl_msg.specs.declared.forms.GoalForm.{GoalForm}
use Rattle.pl_lists.specs.Judgements.{◌>>=◌, each_made}
use Rattle.pl_msg.specs.Reads.{Read}
use Rattle.pl_msg.specs.Words.{says, number_in, name_in}
use Rattle.pl_msg.specs.Names.{kind_named, is_free}

-- ---- the form

unfoldable pub preset_in : List ℕ → Token → Token → Token → Read Preset
preset_in line name equals value =
    if says line equals (codes "=")
    then (name_in line name >>= λ n. number_in value.kind >>= λ v. Ok (record { name = n; value = v }))
    else Err fault.BadLine

-- a preset, and the tokens behind it
abbrev pub preset_at : List ℕ → List Token → Read (Preset × List Token)
preset_at line (name ∷ equals ∷ value ∷ more) = preset_in line name equals value >>= λ p. Ok (p, more)
preset_at line _ = Err fault.BadLine

unfoldable pub each_preset : List ℕ → List Token → Read (List Preset)
each_preset line [] = Ok []
each_preset line (name ∷ equals ∷ value ∷ more) = preset_in line name equals value >>= λ p. each_preset line more >>= λ ps. Ok (p ∷ ps)
each_preset line _ = Err fault.BadLine

abbrev pub is_named : List ℕ → List ℕ → Preset → Bool
is_named line name p = bytes_eq (token_text line p.name) name

-- no name stands twice
abbrev pub are_distinct : List ℕ → List Preset → Bool
are_distinct line [] = true
are_distinct line (p ∷ ps) = not (list_any (is_named line (token_text line p.name)) ps) && are_distinct line ps

abbrev pub if_distinct : List ℕ → List Preset → Read (List Preset)
if_distinct line ps = if are_distinct line ps then Ok ps else Err fault.BadLine

unfoldable pub presets_in : List ℕ → List Token → Read (List Preset)
presets_in line tokens = each_preset line tokens >>= if_distinct line

abbrev pub must_in : List ℕ → Token → Read Bool
must_in line t = if says line t (codes "must") then Ok true else if says line t (codes "may") then Ok false else Err fault.BadLine

unfoldable pub form_in : List ℕ → List Token → Read GoalForm
form_in line (number ∷ kind ∷ earliest ∷ latest ∷ will ∷ more) = do
  n ← number_in number.kind
  k ← name_in line kind
  e ← number_in earliest.kind
  l ← number_in latest.kind
  m ← must_in line will
  ps ← presets_in line more
  Ok (record { number = n; kind = k; earliest = e; latest = l; must = m; presets = ps })
form_in line _ = Err fault.BadLine

-- ---- the names

-- whether the preset names a parameter that is declared without `=`
abbrev pub names_free : List ℕ → List Param → Preset → Bool
names_free line params p = list_any (λ param. bytes_eq param.name (token_text line p.name) && is_free param.origin) params

-- ---- the ranges

-- a number from 1 to 1,000,000,000, and a window that ends below the horizon
abbrev pub is_in_range : ℕ → GoalForm → Bool
is_in_range horizon form = (nat_le 1 form.number && nat_le form.number 1000000000) && (nat_le form.earliest form.latest && nat_lt form.latest horizon)

-- the value that the presets give the name
abbrev pub value_of : List ℕ → List Preset → List ℕ → Option ℕ
value_of line [] name = None
value_of line (p ∷ ps) name = if is_named line name p then Some p.value else value_of line ps name

-- what the presets give the parameter
abbrev pub given : List ℕ → List Preset → Param → Option ℕ
given line ps param = if is_free param.origin then value_of line ps param.name else None

-- from the parameter's low to its high
abbrev pub place_in : Param → Option ℕ → Read (Option ℤ)
place_in param None = Ok None
place_in param (Some value) = if int_le param.low (pos value) && int_le (pos value) param.high then Ok (Some (pos value)) else Err fault.OutOfRange

-- one place for each parameter: the preset of its name, or none
unfoldable pub places_in : List ℕ → List Preset → List Param → Read (List (Option ℤ))
places_in line ps params = each_made (λ param. place_in param (given line ps param)) params

-- ---- the goal

-- of a kind and its number
unfoldable pub goal_of_kind : ℕ → List ℕ → GoalForm → ℕ → Kind → Read Goal
goal_of_kind horizon line form number kind =
    if list_all (names_free line kind.params) form.presets
    then (if is_in_range horizon form
    then (places_in line form.presets kind.params >>= λ places. Ok (record { number = form.number; kind = number; earliest = form.earliest; latest = form.latest; must = form.must; presets = places; dropped = false }))
    else Err fault.OutOfRange)
    else Err fault.UnknownName

abbrev pub goal_with : ℕ → List ℕ → GoalForm → Option (ℕ × Kind) → Read Goal
goal_with horizon line form None = Err fault.UnknownName
goal_with horizon line form (Some found) = goal_of_kind horizon line form found.0 found.1

-- a goal: the form, then the names, then the ranges
unfoldable pub goal_in : Model → List ℕ → List Token → Read Goal
goal_in model line tokens = form_in line tokens >>= λ form. goal_with model.horizon line form (kind_named model (token_text line form.kind))
