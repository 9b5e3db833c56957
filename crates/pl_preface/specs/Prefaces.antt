-- What the lines before a journal say: items, up to the line `journal`, or why they are refused.
use Rattle.std.specs.Prelude.{ℕ, suc, List, [], ◌∷◌, ◌++◌, length, nat_lt, All, Result, Ok, Err, if◌then◌else◌, codes, ⊤}
use Rattle.pl_input.specs.Words.{is_line_of, is_blank_line}
use Rattle.pl_msg.specs.declared.fault.ParseFault.{ParseFault}
use Rattle.pl_msg.specs.declared.fault.ParseFault.TheVariants as fault
use Rattle.pl_msg.specs.Reads.{Read}
use Rattle.pl_preface.specs.declared.problem.Problem.{Problem}
use Rattle.pl_preface.specs.declared.problem.Problem.TheVariants as problem
use Rattle.pl_preface.specs.declared.refusal.Refusal.{Refusal}
use Rattle.pl_preface.specs.declared.refusal.Refusal.TheVariants as refusal
use Rattle.pl_preface.specs.declared.found.Found.{Found}
use Rattle.pl_preface.specs.declared.found.Found.TheVariants as found
use Rattle.pl_preface.specs.declared.found.Step.{Step}
use Rattle.pl_preface.specs.declared.found.Step.TheVariants as step

abbrev pub journal_word : List ℕ
journal_word = codes "journal"

-- the most items
abbrev pub most_items : ℕ
most_items = 64

-- what a line says by itself
abbrev pub Reading : Type 0 → Type 0
Reading X = List ℕ → Result X Problem

-- No line means a want of memory.
abbrev pub problem_of : ParseFault → Problem
problem_of fault.BadLine = problem.BadLine
problem_of fault.UnknownName = problem.UnknownName
problem_of fault.OutOfRange = problem.OutOfRange
problem_of fault.Memory = problem.BadLine

-- what a line says, where its fault is told as a problem
abbrev pub told : {X : Type 0} → Read X → Result X Problem
told (Ok x) = Ok x
told (Err e) = Err (problem_of e)

-- ---- one line

abbrev pub found_by : {X : Type 0} → Result X Problem → Found X
found_by (Ok x) = found.Item x
found_by (Err p) = found.Faulty p

-- the line `journal` is told by its only token
abbrev pub found_in : {X : Type 0} → Reading X → List ℕ → Found X
found_in read line =
    if is_line_of journal_word line then found.Journal
    else if is_blank_line line then found.Blank
    else found_by (read line)

-- behind the items so far
abbrev pub add_item : {X : Type 0} → ℕ → X → List X → Step X
add_item number x items = if nat_lt (length items) most_items then step.More (items ++ x ∷ []) else step.Refused (refusal.TooMany number)

-- how the reading goes on behind a line of this number
abbrev pub step_by : {X : Type 0} → ℕ → List X → Found X → Step X
step_by number items found.Journal = step.Given items
step_by number items found.Blank = step.More items
step_by number items (found.Item x) = add_item number x items
step_by number items (found.Faulty p) = step.Refused (refusal.Faulty number p)

-- ---- all lines

-- what lines say so far; or up to the line `journal`, or to the first line that is refused, and then the lines behind it
pub data Said (X : Type 0) : Type 0 where
  so_far : List X → Said X
  whole : List X → List (List ℕ) → Said X
  refused : Refusal → List (List ℕ) → Said X

abbrev pub goes_on : {X : Type 0} → Step X → List (List ℕ) → (List X → Said X) → Said X
goes_on (step.More items) lines rest = rest items
goes_on (step.Given items) lines rest = whole items lines
goes_on (step.Refused why) lines rest = refused why lines
goes_on step.Ended lines rest = refused refusal.NoJournal lines

-- these lines behind so many, and behind these items
abbrev pub said : {X : Type 0} → Reading X → ℕ → List X → List (List ℕ) → Said X
said read before items [] = so_far items
said read before items (line ∷ lines) = goes_on (step_by (suc before) items (found_in read line)) lines (λ more. said read (suc before) more lines)

-- ---- what holds of the items

abbrev pub FitsFound : {X : Type 0} → (X → Type 0) → Found X → Type 0
FitsFound fits (found.Item x) = fits x
FitsFound fits found.Journal = ⊤
FitsFound fits found.Blank = ⊤
FitsFound fits (found.Faulty p) = ⊤

abbrev pub FitsStep : {X : Type 0} → (X → Type 0) → Step X → Type 0
FitsStep fits (step.More items) = All fits items
FitsStep fits (step.Given items) = All fits items
FitsStep fits (step.Refused why) = ⊤
FitsStep fits step.Ended = ⊤
