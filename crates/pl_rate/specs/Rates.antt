-- The rate of a line, or its first fault: `rate KIND LEVEL CHANGE`, or `drift LEVEL CHANGE`. First the form is looked at, then
-- the names, then the range of the change.
use Rattle.std.specs.Prelude.{ℕ, ◌<◌, ℤ, pos, neg_ℤ, nat_le, ◌≤ℤ◌, true, false, List, [], ◌∷◌, length, slice_get, Option, Some, None, IfSome, if◌then◌else◌, codes, Ok, Err}
use Rattle.pl_lists.specs.Judgements.{◌>>=◌}
use Rattle.pl_text.specs.declared.token.Token.{Token}
use Rattle.pl_model.specs.declared.whole.Model.{Model}
use Rattle.pl_model.specs.Checked.{IsLevelLine}
use Rattle.pl_msg.specs.declared.fault.ParseFault.TheVariants as fault
use Rattle.pl_msg.specs.Reads.{Read}
use Rattle.pl_msg.specs.Words.{says, number_in, name_in, tokens_in}
use Rattle.pl_msg.specs.Names.{kind_in, level_in}
use Rattle.pl_rate.specs.declared.form.Change.{Change}
use Rattle.pl_rate.specs.declared.form.RateForm.{RateForm}
use Rattle.pl_rate.specs.declared.rate.Rate.{Rate}

-- ---- the form

abbrev pub up : ℕ → Change
up n = record { down = false; amount = n }

abbrev pub down : ℕ → Change
down n = record { down = true; amount = n }

-- a number, after at most one `-`
unfoldable pub change_in : List ℕ → List Token → Read Change
change_in line (number ∷ []) = number_in number.kind >>= λ n. Ok (up n)
change_in line (minus ∷ number ∷ []) =
    if says line minus (codes "-") then (number_in number.kind >>= λ n. Ok (down n)) else Err fault.BadLine
change_in line _ = Err fault.BadLine

-- the names and the change behind the word `rate`
unfoldable pub rate_in : List ℕ → List Token → Read RateForm
rate_in line (kind ∷ level ∷ tokens) = do
  k ← name_in line kind
  l ← name_in line level
  c ← change_in line tokens
  Ok (record { kind = Some k; level = l; change = c })
rate_in line _ = Err fault.BadLine

-- the name and the change behind the word `drift`
unfoldable pub drift_in : List ℕ → List Token → Read RateForm
drift_in line (level ∷ tokens) = do
  l ← name_in line level
  c ← change_in line tokens
  Ok (record { kind = None; level = l; change = c })
drift_in line [] = Err fault.BadLine

-- by the first word
unfoldable pub form_in : List ℕ → List Token → Read RateForm
form_in line [] = Err fault.BadLine
form_in line (word ∷ tokens) =
    if says line word (codes "rate") then rate_in line tokens
    else if says line word (codes "drift") then drift_in line tokens
    else Err fault.BadLine

-- ---- the names and the range

-- the number of the kind, or none where none is named
abbrev pub kind_by : Model → List ℕ → Option Token → Read (Option ℕ)
kind_by model line None = Ok None
kind_by model line (Some t) = kind_in model line t >>= λ k. Ok (Some k.0)

abbrev pub signed : Change → ℤ
signed c = if c.down then neg_ℤ (pos c.amount) else pos c.amount

-- at most 1,000,000, up or down
abbrev pub rate_by : Option ℕ → ℕ → Change → Read Rate
rate_by kind level change =
    if nat_le change.amount 1000000 then Ok (record { kind = kind; level = level; change = signed change }) else Err fault.OutOfRange

unfoldable pub rate_with : Model → List ℕ → RateForm → Read Rate
rate_with model line form = do
  k ← kind_by model line form.kind
  l ← level_in model line form.level
  rate_by k l form.change

unfoldable pub rate_of : Model → List ℕ → Read Rate
rate_of model line = tokens_in line >>= form_in line >>= rate_with model line

-- ---- what holds of a rate that is read

-- its kind, if it has one, is one of the model's, its level is a level, and its change is in range
pub record IsRateOf (model : Model) (r : Rate) : Type 0 where
  pub kind_is : IfSome r.kind (λ k. k < length model.kinds)
  pub level_is : IsLevelLine (slice_get model.timelines r.level)
  pub low : neg_ℤ (pos 1000000) ≤ℤ r.change
  pub high : r.change ≤ℤ pos 1000000
