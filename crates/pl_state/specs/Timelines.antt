-- What a state timeline stands for, and what it keeps.
use Rattle.std.specs.Prelude.{◌≡◌, ℕ, ◌≤◌, ◌&&◌, ◌==◌, Bool, List}
use Rattle.pl_lists.specs.Lists.{left_out}
use Rattle.pl_state.specs.declared.reservation.Setting.{Setting}
use Rattle.pl_state.specs.declared.reservation.Must.{Must}
use Rattle.pl_state.specs.declared.answer.BadSet.{BadSet}
use Rattle.pl_state.specs.declared.answer.BrokenMust.{BrokenMust}
use Rattle.pl_state.specs.declared.answer.StateChange.{StateChange}
use Rattle.pl_state.specs.Sets.{AreInOrder, state_from, is_allowed, bad_from}
use Rattle.pl_state.specs.Musts.{broken_all}
use Rattle.pl_state.specs.Keys.{AreSorted}
use Rattle.pl_state.specs.Sorted.{bad_key}

-- the base's moment is 0 at first, before every set. The sets stand by moment, id and index, the musts by id and index
pub record Standing : Type 0 where
  pub spoiled : Bool
  pub horizon : ℕ
  pub any : Bool
  pub steps : List (ℕ × ℕ)
  pub moment : ℕ
  pub base : ℕ
  pub value : ℕ
  pub sets : List Setting
  pub musts : List Must

abbrev pub state_at : Standing → ℕ → ℕ
state_at s t = state_from s.base t s.value s.sets

abbrev pub broken_now : Standing → List BrokenMust
broken_now s = broken_all (λ t. state_from s.base t s.value s.sets) s.moment s.horizon s.musts

abbrev pub bad_now : Standing → List BadSet
bad_now s = bad_from (is_allowed s.any s.steps) s.base s.horizon s.moment s.value s.sets

pub record IsSound (state : Standing) (broken : List BrokenMust) (bad : List BadSet) : Type 0 where
  pub in_time : state.moment ≤ state.horizon
  pub based : state.base ≤ state.moment
  pub ordered : AreInOrder 0 state.sets
  pub musts : broken ≡ broken_now state
  pub sets : bad ≡ bad_now state
  pub sorted : AreSorted bad_key bad

abbrev pub same_broken : BrokenMust → BrokenMust → Bool
same_broken u v = (u.id == v.id) && ((u.index == v.index) && ((u.from == v.from) && (u.to == v.to)))

abbrev pub same_bad : BadSet → BadSet → Bool
same_bad u v = (u.at == v.at) && ((u.id == v.id) && (u.index == v.index))

-- what left and came into both lists
pub record AreChanges (broken broken' : List BrokenMust) (bad bad' : List BadSet) (change : StateChange) : Type 0 where
  pub musts_went : change.musts_went ≡ left_out same_broken broken' broken
  pub musts_came : change.musts_came ≡ left_out same_broken broken broken'
  pub steps_went : change.steps_went ≡ left_out same_bad bad' bad
  pub steps_came : change.steps_came ≡ left_out same_bad bad bad'

abbrev pub make : Bool → ℕ → Bool → List (ℕ × ℕ) → ℕ → ℕ → ℕ → List Setting → List Must → Standing
make spoiled horizon any steps moment base value sets musts = record { spoiled = spoiled; horizon = horizon; any = any; steps = steps; moment = moment; base = base; value = value; sets = sets; musts = musts }
