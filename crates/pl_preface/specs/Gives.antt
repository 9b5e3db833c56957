-- What a reader gives of the lines before a journal.
use Rattle.std.specs.Prelude.{◌≡◌, ℕ, ◌<◌, ◌≤◌, ◌⊎◌, List, [], ◌∷◌, length, All, Option, Result, Ok, Err, ⊤}
use Rattle.pl_io.specs.declared.errors.LineFault.{LineFault}
use Rattle.pl_io.specs.Reader.{Reader}
use Rattle.pl_input.specs.Reads.{ReadsLines, Halts, IsUsedUp}
use Rattle.pl_preface.specs.declared.refusal.Refusal.{Refusal}
use Rattle.pl_preface.specs.declared.refusal.Refusal.TheVariants as refusal
use Rattle.pl_preface.specs.declared.found.Step.{Step}
use Rattle.pl_preface.specs.declared.found.Step.TheVariants as step
use Rattle.pl_preface.specs.declared.preface.Preface.{Preface}
use Rattle.pl_preface.specs.declared.preface.Preface.TheVariants as preface
use Rattle.pl_preface.specs.Prefaces.{Reading, most_items, found_in, step_by, said, so_far, whole, refused}

-- One more line, and how the reading goes on behind it.
pub record SeesLine {X : Type 0} (read : Reading X) (old : Reader) (before : Option (List ℕ)) (items : List X) (next : Step X) (new : Reader) (after : Option (List ℕ)) : Type 0 where
  pub line : List ℕ
  pub took : ReadsLines old before (line ∷ []) new after
  pub less : new.room < old.room
  pub is : next ≡ step_by new.number items (found_in read line)

abbrev pub ReadsStep : {X : Type 0} → Reading X → Reader → Option (List ℕ) → List X → Result (Step X) LineFault → Reader → Option (List ℕ) → Type 0
ReadsStep read old before items (Ok (step.More more)) new after = SeesLine read old before items (step.More more) new after
ReadsStep read old before items (Ok (step.Given all)) new after = SeesLine read old before items (step.Given all) new after
ReadsStep read old before items (Ok (step.Refused why)) new after = SeesLine read old before items (step.Refused why) new after
ReadsStep read old before items (Ok step.Ended) new after = ReadsLines old before [] new after × IsUsedUp before after
ReadsStep read old before items (Err f) new after = Halts old before [] f new after

-- The lines so far, and their items.
pub record IsBeforeJournal {X : Type 0} (read : Reading X) (old : Reader) (before : Option (List ℕ)) (items : List X) (new : Reader) (after : Option (List ℕ)) : Type 0 where
  pub lines : List (List ℕ)
  pub took : ReadsLines old before lines new after
  pub says : said read old.number [] lines ≡ so_far items

-- The lines up to and with the line `journal`, and their items.
pub record HasPreface {X : Type 0} (read : Reading X) (old : Reader) (before : Option (List ℕ)) (items : List X) (new : Reader) (after : Option (List ℕ)) : Type 0 where
  pub lines : List (List ℕ)
  pub took : ReadsLines old before lines new after
  pub says : said read old.number [] lines ≡ whole items []

-- The lines up to and with the first that is refused.
pub record HasRefusedLine {X : Type 0} (read : Reading X) (old : Reader) (before : Option (List ℕ)) (why : Refusal) (new : Reader) (after : Option (List ℕ)) : Type 0 where
  pub lines : List (List ℕ)
  pub took : ReadsLines old before lines new after
  pub says : said read old.number [] lines ≡ refused why []

-- All lines: none is refused, and none is `journal`.
pub record HasNoJournal {X : Type 0} (read : Reading X) (old : Reader) (before : Option (List ℕ)) (new : Reader) (after : Option (List ℕ)) : Type 0 where
  pub lines : List (List ℕ)
  pub items : List X
  pub took : ReadsLines old before lines new after
  pub says : said read old.number [] lines ≡ so_far items
  pub used_up : IsUsedUp before after

-- a line is refused, or there is no line `journal`
abbrev pub IsRefusal : {X : Type 0} → Reading X → Reader → Option (List ℕ) → Refusal → Reader → Option (List ℕ) → Type 0
IsRefusal read old before why new after = HasRefusedLine read old before why new after ⊎ ((why ≡ refusal.NoJournal) × HasNoJournal read old before new after)

-- The reader stopped behind these lines.
pub record PrefaceHalts {X : Type 0} (read : Reading X) (old : Reader) (before : Option (List ℕ)) (f : LineFault) (new : Reader) (after : Option (List ℕ)) : Type 0 where
  pub lines : List (List ℕ)
  pub items : List X
  pub halts : Halts old before lines f new after
  pub says : said read old.number [] lines ≡ so_far items

abbrev pub GivesPreface : {X : Type 0} → Reading X → Reader → Option (List ℕ) → Result (Preface X) LineFault → Reader → Option (List ℕ) → Type 0
GivesPreface read old before (Ok (preface.Given items)) new after = HasPreface read old before items new after
GivesPreface read old before (Ok (preface.Refused why)) new after = IsRefusal read old before why new after
GivesPreface read old before (Err f) new after = PrefaceHalts read old before f new after

-- what holds of the items
abbrev pub FitsPreface : {X : Type 0} → (X → Type 0) → Preface X → Type 0
FitsPreface fits (preface.Given items) = All fits items
FitsPreface fits (preface.Refused why) = ⊤

-- at most 64 of them
abbrev pub HasFewItems : {X : Type 0} → Preface X → Type 0
HasFewItems (preface.Given items) = length items ≤ most_items
HasFewItems (preface.Refused why) = ⊤
