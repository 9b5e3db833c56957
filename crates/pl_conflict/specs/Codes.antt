-- The order of the codes.
use Rattle.std.specs.Prelude.{ℕ}
use Rattle.pl_conflict.specs.declared.conflict.Code.{Code}
use Rattle.pl_conflict.specs.declared.conflict.Code.TheVariants.{OpenGoal, OffGoal, Late, Unset, BadValue, Undetailed, Overrun, Temporal, Linked, Over, Low, High, Must, BadStep}

-- the place of a code among the codes
abbrev pub code_number : Code → ℕ
code_number OpenGoal = 0
code_number OffGoal = 1
code_number Late = 2
code_number Unset = 3
code_number BadValue = 4
code_number Undetailed = 5
code_number Overrun = 6
code_number Temporal = 7
code_number Linked = 8
code_number Over = 9
code_number Low = 10
code_number High = 11
code_number Must = 12
code_number BadStep = 13
