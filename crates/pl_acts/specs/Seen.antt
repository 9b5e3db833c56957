-- What a list of items tells of the plan behind it.
use Rattle.std.specs.Prelude.{◌≡◌, ◌+◌, ◌<◌, ◌≤◌, ℕ, List, length, drop, true, ◌⊎◌}
use Rattle.std.specs.List.{All}
use mathlib.Core.List.{IsPrefix}
use Rattle.pl_model.specs.declared.whole.Model.{Model}
use Rattle.pl_entry.specs.declared.entry.Entry.{Entry}
use Rattle.pl_machine.specs.Legal.{Legal}
use Rattle.pl_acts.specs.declared.noted.Noted.{Noted}
use Rattle.pl_acts.specs.declared.part.Part.{Part}
use Rattle.pl_acts.specs.declared.role.Role.{Role}
use Rattle.pl_acts.specs.Items.{Signs, items_of, entries_in, stop_in, InWorld}
use Rattle.pl_acts.specs.Sights.{IsAskedAtMost}

-- The items of a legal log, each entry of which was handed in or has an author.
pub record IsPlan (items : List Noted) : Type 0 where
  pub model : Model
  pub log : List Entry
  pub signs : Signs
  pub legal : Legal model log
  pub some : 0 < signs.by.opening
  pub each : signs.by.opening + length signs.by.authors ≡ length log
  pub is : items ≡ items_of model log signs

-- as many entries as the options allow
abbrev pub IsFull : List Noted → Type 0
IsFull seen = InWorld seen (λ w. w.options.entries ≤ length (entries_in seen))

-- the input has ended, or the plan was stopped
abbrev pub IsOver : List Noted → Type 0
IsOver seen = InWorld seen (λ w. w.done ≡ true) ⊎ (stop_in seen ≡ true)

-- the entries from this number on, and the world behind them
pub record Copies (from : ℕ) (seen : List Noted) (part : Part) : Type 0 where
  pub entries : part.entries ≡ drop from (entries_in seen)
  pub world : InWorld seen (λ w. (part.closed ≡ w.closed) × (part.done ≡ w.done))
  pub stopped : part.stopped ≡ stop_in seen

-- Behind some of what was seen, among it all of these own items, memory was wanting for an act of the role.
pub record WasAskedAtMost (r : Role) (own : List (ℕ × Noted)) (seen : List Noted) (r2 : Role) : Type 0 where
  pub before : List Noted
  pub front : IsPrefix before seen
  pub low : ℕ
  pub behind : All (λ x. x.0 < low) own
  pub asked : IsAskedAtMost r low before r2
