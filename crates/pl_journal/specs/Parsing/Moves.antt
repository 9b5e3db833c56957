-- Conflicts and repair moves, as a text begins with them.
use Rattle.std.specs.Prelude.{ℕ, ◌+◌, nat_lt, List, [], ◌∷◌, Option, Some, None, if◌then◌else◌, bytes_eq, codes, Ok, Err}
use Rattle.pl_lists.specs.Judgements.{◌>>=◌}
use Rattle.pl_model.specs.declared.kinds.Kind.{Kind}
use Rattle.pl_model.specs.declared.whole.Model.{Model}
use Rattle.pl_conflict.specs.declared.conflict.Code.{Code}
use Rattle.pl_conflict.specs.declared.conflict.Code.TheVariants as code
use Rattle.pl_conflict.specs.declared.conflict.Conflict.{Conflict}
use Rattle.pl_plan.specs.declared.repair.RepairMove.{RepairMove}
use Rattle.pl_plan.specs.declared.repair.RepairMove.TheVariants as repair
use Rattle.pl_journal.specs.declared.parsing.fault.EntryFault.TheVariants as fault
use Rattle.pl_journal.specs.Parsing.Reads.{Read}
use Rattle.pl_journal.specs.Parsing.Words.{word_in, count_in, amount_in}

-- ---- conflicts

-- of goals and activities
unfoldable pub activity_code : List ℕ → Read Code
activity_code word =
    if bytes_eq word (codes "open-goal") then Ok code.OpenGoal
    else if bytes_eq word (codes "off-goal") then Ok code.OffGoal
    else if bytes_eq word (codes "late") then Ok code.Late
    else if bytes_eq word (codes "unset") then Ok code.Unset
    else if bytes_eq word (codes "bad-value") then Ok code.BadValue
    else if bytes_eq word (codes "undetailed") then Ok code.Undetailed
    else if bytes_eq word (codes "overrun") then Ok code.Overrun
    else Err fault.NotALine

-- of links and timelines, and else of those
unfoldable pub code_of : List ℕ → Read Code
code_of word =
    if bytes_eq word (codes "temporal") then Ok code.Temporal
    else if bytes_eq word (codes "link") then Ok code.Linked
    else if bytes_eq word (codes "over") then Ok code.Over
    else if bytes_eq word (codes "low") then Ok code.Low
    else if bytes_eq word (codes "high") then Ok code.High
    else if bytes_eq word (codes "must") then Ok code.Must
    else if bytes_eq word (codes "bad-step") then Ok code.BadStep
    else activity_code word

abbrev pub code_in : List ℕ → Read (Code × List ℕ)
code_in text = word_in text >>= λ w. code_of w.0 >>= λ code. Ok (code, w.1)

-- FROM CODE SUBJECT DETAIL A B
unfoldable pub conflict_in : List ℕ → Read (Conflict × List ℕ)
conflict_in text =
    count_in text >>= λ from. code_in from.1 >>= λ code. count_in code.1 >>= λ subject. count_in subject.1 >>= λ detail. count_in detail.1 >>= λ a. count_in a.1 >>= λ b.
    Ok (record { from = from.0; code = code.0; subject = subject.0; detail = detail.0; a = a.0; b = b.0 }, b.1)

-- ---- kinds

-- the first kind of this name from the place on, with its number
abbrev pub kind_from : List ℕ → ℕ → List Kind → Read (ℕ × Kind)
kind_from name place [] = Err fault.NotALine
kind_from name place (k ∷ ks) = if bytes_eq k.name name then Ok (place, k) else kind_from name (place + 1) ks

unfoldable pub kind_named : Model → List ℕ → Read (ℕ × Kind)
kind_named m name = kind_from name 0 m.kinds

-- ---- moves

-- goal GOAL, or another word, which stays
unfoldable pub goal_in : List ℕ → Read (Option ℕ × List ℕ)
goal_in text =
    word_in text >>= λ w. if bytes_eq w.0 (codes "goal") then (count_in w.1 >>= λ goal. Ok (Some goal.0, goal.1)) else Ok (None, text)

-- KIND START, and a goal
unfoldable pub addition_in : Model → List ℕ → Read (RepairMove × List ℕ)
addition_in m text =
    word_in text >>= λ name. kind_named m name.0 >>= λ kind. count_in name.1 >>= λ start. goal_in start.1 >>= λ goal. Ok (repair.Add kind.0 start.0 goal.0, goal.1)

-- ID PARAM VALUE
unfoldable pub assignment_in : List ℕ → Read (RepairMove × List ℕ)
assignment_in text =
    count_in text >>= λ id. count_in id.1 >>= λ param. amount_in param.1 >>= λ value.
    if nat_lt param.0 256 then Ok (repair.Assign id.0 param.0 value.0, value.1) else Err fault.NotALine

-- ID
unfoldable pub deletion_in : List ℕ → Read (RepairMove × List ℕ)
deletion_in text = count_in text >>= λ id. Ok (repair.Delete id.0, id.1)

-- ID START
unfoldable pub shift_in : List ℕ → Read (RepairMove × List ℕ)
shift_in text = count_in text >>= λ id. count_in id.1 >>= λ start. Ok (repair.Shift id.0 start.0, start.1)

-- ID ALTERNATIVE
unfoldable pub detailing_in : List ℕ → Read (RepairMove × List ℕ)
detailing_in text = count_in text >>= λ id. count_in id.1 >>= λ alternative. Ok (repair.Detail id.0 alternative.0, alternative.1)

-- ID
unfoldable pub abstraction_in : List ℕ → Read (RepairMove × List ℕ)
abstraction_in text = count_in text >>= λ id. Ok (repair.Abstract id.0, id.1)

-- GOAL
unfoldable pub drop_in : List ℕ → Read (RepairMove × List ℕ)
drop_in text = count_in text >>= λ goal. Ok (repair.Drop goal.0, goal.1)

-- by its first word
unfoldable pub move_by : Model → List ℕ → List ℕ → Read (RepairMove × List ℕ)
move_by m word text =
    if bytes_eq word (codes "add") then addition_in m text
    else if bytes_eq word (codes "delete") then deletion_in text
    else if bytes_eq word (codes "shift") then shift_in text
    else if bytes_eq word (codes "detail") then detailing_in text
    else if bytes_eq word (codes "abstract") then abstraction_in text
    else if bytes_eq word (codes "assign") then assignment_in text
    else if bytes_eq word (codes "drop") then drop_in text
    else Err fault.NotALine

unfoldable pub move_in : Model → List ℕ → Read (RepairMove × List ℕ)
move_in m text = word_in text >>= λ w. move_by m w.0 w.1
