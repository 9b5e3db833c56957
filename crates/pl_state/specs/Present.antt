-- What is to be told at the present.
use Rattle.std.specs.Prelude.{◌≡◌, ℕ, ◌≤◌, Bool, false, List}
use Rattle.pl_points.specs.declared.span.Span.{Span}
use Rattle.pl_lists.specs.Lists.{front, back}
use Rattle.pl_state.specs.declared.present.Present.{Present}
use Rattle.pl_state.specs.declared.reservation.Setting.{Setting}
use Rattle.pl_state.specs.declared.reservation.Must.{Must}
use Rattle.pl_state.specs.declared.answer.BadSet.{BadSet}
use Rattle.pl_state.specs.declared.answer.BrokenMust.{BrokenMust}
use Rattle.pl_state.specs.Sets.{AreInOrder, state_from, is_allowed, bad_from}
use Rattle.pl_state.specs.Musts.{broken_one}
use Rattle.pl_state.specs.Near.{touches, all_of, bad_before, bad_by}

abbrev pub present_of : ℕ → ℕ → ℕ → ℕ → Present
present_of moment horizon base value =
    record { moment = moment; horizon = horizon; base = base; value = value }

-- where a must is broken
abbrev pub group_at : Present → List Setting → Must → List BrokenMust
group_at p sets m = broken_one (λ t. state_from p.base t p.value sets) p.moment p.horizon m

abbrev pub broken_at : Present → List Setting → List Must → List BrokenMust
broken_at p sets musts = all_of (group_at p sets) musts

abbrev pub bad_at : Bool → List (ℕ × ℕ) → Present → List Setting → List BadSet
bad_at any steps p sets = bad_from (is_allowed any steps) p.base p.horizon p.moment p.value sets

-- what is broken was told for some state from some moment on, by which nothing differs outside the window
pub record WasRight (near : Span) (p : Present) (sets : List Setting) (musts : List Must)
    (broken : List BrokenMust) : Type 0 where
  pub state : ℕ → ℕ
  pub moment : ℕ
  pub told : broken ≡ all_of (broken_one state moment p.horizon) musts
  pub same : (m : Must) → touches near m ≡ false
      → broken_one state moment p.horizon m ≡ group_at p sets m

-- both lists are right outside the window
pub record IsRightBut (near : Span) (any : Bool) (steps : List (ℕ × ℕ)) (p : Present) (sets : List Setting)
    (musts : List Must) (broken : List BrokenMust) (bad : List BadSet) : Type 0 where
  pub rising : near.from ≤ near.to
  pub bound : near.from ≤ p.horizon
  pub ordered : AreInOrder 0 sets
  pub told : WasRight near p sets musts broken
  pub before : front (bad_before near.from) bad
      ≡ front (bad_before near.from) (bad_at any steps p sets)
  pub behind : back (bad_by near.to) bad ≡ back (bad_by near.to) (bad_at any steps p sets)
