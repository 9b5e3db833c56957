-- What a role made, entry by entry.
use Rattle.std.specs.Prelude.{◌≡◌, ◌+◌, ℕ, List, [], ◌∷◌, ◌++◌, length, false, Option}
use Rattle.pl_marks.specs.declared.author.Author.{Author}
use Rattle.pl_entry.specs.declared.entry.Entry.{Entry}
use Rattle.pl_acts.specs.declared.noted.Noted.{Noted}
use Rattle.pl_acts.specs.declared.noted.Noted.TheVariants.{Made}
use Rattle.pl_acts.specs.declared.role.Role.{Role}
use Rattle.pl_acts.specs.Items.{stop_in, InWorld}
use Rattle.pl_acts.specs.Sights.{IsDueBy, Idles}
use Rattle.pl_acts.specs.Inside.{IsStepIn}

-- The item stands at this place of what was seen. It is the entry that the role makes behind the items before it, `low` of which it had seen before. They hold no stop, and the role behind it is `r2`.
pub record IsMadeAt (r : Role) (low : ℕ) (seen : List Noted) (place : ℕ) (item : Noted) (r2 : Role) : Type 0 where
  pub before : List Noted
  pub author : Option Author
  pub entry : Entry
  pub behind : List Noted
  pub whole : seen ≡ before ++ Made author entry ∷ behind
  pub stands : place ≡ length before
  pub is : item ≡ Made author entry
  pub running : stop_in before ≡ false
  pub step : InWorld before (λ w. IsStepIn w entry)
  pub by : IsDueBy r r2 low before entry

-- Each of these own items is such an entry, the first of this role, and each further one of the role behind the one before: what the chooser draws for one entry it has drawn for the next. Between them the role may have come too late for an entry. The sight for an entry reaches at least to the own entry before it. `r2` is the role behind them all.
abbrev pub MakesAll : Role → ℕ → List Noted → List (ℕ × Noted) → Role → Type 0
MakesAll r low seen [] r2 = Idles r low seen r2
MakesAll r low seen (x ∷ own) r2 = (first : Role) × Idles r low seen first × (mid : Role) × IsMadeAt first low seen x.0 x.1 mid × MakesAll mid (x.0 + 1) seen own r2

-- how much was seen behind these own items, `low` before them
abbrev pub low_behind : ℕ → List (ℕ × Noted) → ℕ
low_behind low [] = low
low_behind low (x ∷ own) = low_behind (x.0 + 1) own
