-- What a state timeline keeps, and what a change makes of it.
use Rattle.std.specs.Prelude.{◌≡◌, ◌≤◌, Bool, false}
use Rattle.pl_points.specs.Standing.{without}
use Rattle.pl_state.specs.declared.present.Present.{Present}
use Rattle.pl_state.specs.declared.answer.StateChange.{StateChange}
use Rattle.pl_state.specs.declared.change.Change.{Change}
use Rattle.pl_state.specs.declared.change.Change.TheVariants.{Put, Take, Need, Free, Rebase, Advance}
use Rattle.pl_state.specs.declared.kept.Kept.{Kept}
use Rattle.pl_state.specs.Sets.{same_setting, with_set}
use Rattle.pl_state.specs.Musts.{same_must, with_must}
use Rattle.pl_state.specs.Timelines.{Standing, IsSound, AreChanges, make, broken_now, bad_now}

-- what stands at a present
abbrev pub stands_at : Bool → Present → Kept → Standing
stands_at spoiled p k = make spoiled p.horizon k.any k.steps.items p.moment p.base p.value k.sets k.musts

abbrev pub state_of : Bool → Kept → Standing
state_of spoiled k = stands_at spoiled k.present k

-- what was told is what is broken and bad at the present
abbrev pub IsKept : Kept → Type 0
IsKept k = IsSound (state_of false k) k.told.broken.items k.told.bad.items

-- what stands after a change
abbrev pub after : Change → Standing → Standing
after (Put set) s = record s { sets = with_set set s.sets }
after (Take set) s = record s { sets = without same_setting set s.sets }
after (Need must) s = record s { musts = with_must must s.musts }
after (Free must) s = record s { musts = without same_must must s.musts }
after (Rebase state) s = record s { base = s.moment; value = state }
after (Advance now) s = record s { moment = now }

-- the first set is at 1 or later, and the present moves on, at most up to the horizon
abbrev pub IsTimely : Change → Standing → Type 0
IsTimely (Put set) s = 1 ≤ set.at
IsTimely (Advance now) s = (s.moment ≤ now) × (now ≤ s.horizon)
IsTimely _ s = Unit {0}

-- The change is made, and the answer says what left and came into both lists.
pub record IsMade (change : Change) (old new : Kept) (told : StateChange) : Type 0 where
  pub is : state_of false new ≡ after change (state_of false old)
  pub kept : IsKept new
  pub answers : AreChanges (broken_now (state_of false old)) (broken_now (state_of false new))
      (bad_now (state_of false old)) (bad_now (state_of false new)) told

-- Both lists are what they are to be at the present, and the answer says what left and came.
pub record IsMended (present : Present) (old new : Kept) (told : StateChange) : Type 0 where
  pub same : state_of false new ≡ stands_at false present old
  pub kept : IsKept new
  pub answers : AreChanges old.told.broken.items new.told.broken.items
      old.told.bad.items new.told.bad.items told
