-- The preference of a line, or its first fault: `prefer KIND early WEIGHT`, `prefer KIND late WEIGHT`, `prefer KIND value NAME WEIGHT`,
-- or `prefer level TIMELINE WEIGHT`. First the form is looked at, then the names, then the range of the weight.
use Rattle.std.specs.Prelude.{ℕ, ◌<◌, ℤ, pos, nat_le, ◌≤ℤ◌, ◌&&◌, List, [], ◌∷◌, length, slice_get, Option, Some, None, if◌then◌else◌, codes, bytes_eq, Ok, Err}
use Rattle.pl_lists.specs.Judgements.{◌>>=◌}
use Rattle.pl_text.specs.declared.token.Token.{Token}
use Rattle.pl_text.specs.Tokens.{token_text}
use Rattle.pl_model.specs.declared.parameters.Param.{Param}
use Rattle.pl_model.specs.declared.whole.Model.{Model}
use Rattle.pl_model.specs.Checked.{IsLevelLine, params_of}
use Rattle.pl_msg.specs.declared.fault.ParseFault.TheVariants as fault
use Rattle.pl_msg.specs.Reads.{Read}
use Rattle.pl_msg.specs.Words.{says, number_in, name_in, tokens_in}
use Rattle.pl_msg.specs.Names.{first_from, kind_in, level_in}
use Rattle.pl_prefs.specs.declared.form.PreferForm.{PreferForm}
use Rattle.pl_prefs.specs.declared.form.PreferForm.TheVariants as form
use Rattle.pl_prefs.specs.declared.prefer.Prefer.{Prefer}
use Rattle.pl_prefs.specs.declared.prefer.Prefer.TheVariants as prefer

-- ---- the form

-- by the word behind the kind: `early` or `late`
unfoldable pub by_start : List ℕ → Token → Token → Token → Read PreferForm
by_start line kind word weight = do
  w ← number_in weight.kind
  if says line word (codes "early") then Ok (form.Early kind w)
      else if says line word (codes "late") then Ok (form.Late kind w)
      else Err fault.BadLine

-- the word `value`, and the parameter's name
unfoldable pub by_value : List ℕ → Token → Token → Token → Token → Read PreferForm
by_value line kind word param weight =
    if says line word (codes "value") then (name_in line param >>= λ p. number_in weight.kind >>= λ w. Ok (form.Value kind p w))
    else Err fault.BadLine

unfoldable pub behind_kind : List ℕ → Token → List Token → Read PreferForm
behind_kind line kind (word ∷ weight ∷ []) = by_start line kind word weight
behind_kind line kind (word ∷ param ∷ weight ∷ []) = by_value line kind word param weight
behind_kind line kind _ = Err fault.BadLine

-- the name of a kind, and what is preferred of its activities
unfoldable pub kind_form_in : List ℕ → Token → List Token → Read PreferForm
kind_form_in line kind tokens = name_in line kind >>= λ k. behind_kind line k tokens

-- the name of a level and the weight behind the word `level`
unfoldable pub level_form_in : List ℕ → List Token → Read PreferForm
level_form_in line (level ∷ weight ∷ []) = do
  l ← name_in line level
  w ← number_in weight.kind
  Ok (form.Level l w)
level_form_in line _ = Err fault.BadLine

-- what stands behind the word `prefer`; no kind has the name `level`, which is a reserved word
unfoldable pub preferred_in : List ℕ → List Token → Read PreferForm
preferred_in line [] = Err fault.BadLine
preferred_in line (subject ∷ tokens) =
    if says line subject (codes "level") then level_form_in line tokens else kind_form_in line subject tokens

unfoldable pub form_in : List ℕ → List Token → Read PreferForm
form_in line [] = Err fault.BadLine
form_in line (word ∷ tokens) = if says line word (codes "prefer") then preferred_in line tokens else Err fault.BadLine

-- ---- the names and the range

-- the parameter of this name, with its number
abbrev pub param_named : List Param → List ℕ → Option (ℕ × Param)
param_named params name = first_from (λ p. bytes_eq p.name name) 0 params

abbrev pub param_found : Option (ℕ × Param) → Read ℕ
param_found None = Err fault.UnknownName
param_found (Some p) = Ok p.0

abbrev pub param_by : List Param → List ℕ → Token → Read ℕ
param_by params line t = param_found (param_named params (token_text line t))

-- from 1 to 1,000
abbrev pub weight_of : ℕ → Read ℤ
weight_of w = if nat_le 1 w && nat_le w 1000 then Ok (pos w) else Err fault.OutOfRange

unfoldable pub early_with : Model → List ℕ → Token → ℕ → Read Prefer
early_with model line kind weight = do
  k ← kind_in model line kind
  w ← weight_of weight
  Ok (prefer.Early k.0 w)

unfoldable pub late_with : Model → List ℕ → Token → ℕ → Read Prefer
late_with model line kind weight = do
  k ← kind_in model line kind
  w ← weight_of weight
  Ok (prefer.Late k.0 w)

unfoldable pub value_with : Model → List ℕ → Token → Token → ℕ → Read Prefer
value_with model line kind param weight = do
  k ← kind_in model line kind
  p ← param_by k.1.params line param
  w ← weight_of weight
  Ok (prefer.Value k.0 p w)

unfoldable pub level_with : Model → List ℕ → Token → ℕ → Read Prefer
level_with model line level weight = do
  l ← level_in model line level
  w ← weight_of weight
  Ok (prefer.Level l w)

abbrev pub prefer_with : Model → List ℕ → PreferForm → Read Prefer
prefer_with model line (form.Early kind weight) = early_with model line kind weight
prefer_with model line (form.Late kind weight) = late_with model line kind weight
prefer_with model line (form.Value kind param weight) = value_with model line kind param weight
prefer_with model line (form.Level level weight) = level_with model line level weight

unfoldable pub prefer_of : Model → List ℕ → Read Prefer
prefer_of model line = tokens_in line >>= form_in line >>= prefer_with model line

-- ---- what holds of a preference that is read

abbrev pub IsWeight : ℤ → Type 0
IsWeight w = (pos 1 ≤ℤ w) × (w ≤ℤ pos 1000)

abbrev pub IsKind : Model → ℕ → Type 0
IsKind model kind = kind < length model.kinds

-- the kind has a parameter of this number
abbrev pub HasParam : Model → ℕ → ℕ → Type 0
HasParam model kind param = param < length (params_of (slice_get model.kinds kind))

-- what it names is there, and its weight is in range
abbrev pub IsPreferOf : Model → Prefer → Type 0
IsPreferOf model (prefer.Early kind w) = IsKind model kind × IsWeight w
IsPreferOf model (prefer.Late kind w) = IsKind model kind × IsWeight w
IsPreferOf model (prefer.Value kind param w) = IsKind model kind × HasParam model kind param × IsWeight w
IsPreferOf model (prefer.Level line w) = IsLevelLine (slice_get model.timelines line) × IsWeight w
