-- The own entry that an act made.
use Rattle.std.proofs.Common.{ℕ, ◌≤◌, List, [], ◌∷◌, ◌++◌, Some, refl}
use mathlib.Core.List.{IsPrefix}
use Rattle.pl_turn.specs.Passes.{seen_of}
use Rattle.pl_marks.specs.declared.author.Author.{Author}
use Rattle.pl_acts.specs.declared.noted.Noted.{Noted}
use Rattle.pl_acts.specs.declared.noted.Noted.TheVariants.{Made}
use Rattle.pl_acts.specs.declared.role.Role.{Role}
use Rattle.pl_acts.specs.Sights.{IsDueBy}
use Rattle.pl_acts.specs.Making.{IsMadeAt, MakesAll, low_behind}
use Rattle.pl_acts.proofs.OwnEntries.{makes_all_on, makes_all_append, made_at_late}
use Rattle.pl_acts.proofs.EntryKinds.{low_within}
use Rattle.pl_locked.specs.Plans.{PlanPass}
use Rattle.pl_locked.specs.Turns.{Makes, low_of}

-- the entry that an act made
pub made_at : (by : Author) (old new : PlanPass) (r r2 : Role) (n : ℕ) (makes : Makes (IsDueBy r r2 (low_of old)) by old new n) → IsMadeAt r (low_of old) (seen_of new) n (Made (Some by) makes.entry) r2
made_at by old new r r2 n makes = record {
  before = seen_of old ++ makes.between;
  author = Some by;
  entry = makes.entry;
  behind = [];
  whole = makes.seen;
  stands = makes.place;
  is = refl;
  running = makes.running;
  step = makes.step;
  by = makes.by;
}

-- one more, behind those that were made before
pub makes_all_push : (by : Author) (old new : PlanPass) (r mid r2 : Role) (low : ℕ) (own : List (ℕ × Noted)) (n : ℕ) → IsPrefix (seen_of old) (seen_of new) → low ≤ low_of old → MakesAll r low (seen_of old) own mid
    → (makes : Makes (IsDueBy mid r2 (low_of old)) by old new n) → MakesAll r low (seen_of new) (own ++ (n, Made (Some by) makes.entry) ∷ []) r2
makes_all_push by old new r mid r2 low own n on le all makes =
    let within : low_behind low own ≤ low_of old = low_within r mid low (seen_of old) own le all in
    makes_all_append (seen_of new) r mid r2 low own ((n, Made (Some by) makes.entry) ∷ []) (makes_all_on (seen_of old) (seen_of new) r mid low own on all) (
      mid,
      ([], refl),
      r2,
      made_at_late mid r2 (low_of old) (low_behind low own) (seen_of new) n (Made (Some by) makes.entry) within (made_at by old new mid r2 n makes),
      ([], refl),
    )
