-- What a change may touch: a window of moments, the musts that have moments of it, and the sets in it.
use Rattle.std.specs.Prelude.{◌≡◌, ℕ, ◌≤◌, ◌&&◌, nat_lt, nat_le, min, Bool, List, [], ◌∷◌, ◌++◌, length, take, drop, if◌then◌else◌}
use Rattle.pl_lists.specs.Lists.{front, back, left_out}
use Rattle.pl_points.specs.declared.span.Span.{Span}
use Rattle.pl_state.specs.declared.reservation.Setting.{Setting}
use Rattle.pl_state.specs.declared.reservation.Must.{Must}
use Rattle.pl_state.specs.declared.answer.BadSet.{BadSet}
use Rattle.pl_state.specs.declared.answer.BrokenMust.{BrokenMust}
use Rattle.pl_state.specs.declared.reservation.Started.{Started}
use Rattle.pl_state.specs.declared.key.Key.{Key}
use Rattle.pl_state.specs.Keys.{key_of, is_before, is_up_to}
use Rattle.pl_state.specs.Musts.{must_key}
use Rattle.pl_state.specs.Timelines.{same_broken}

-- whether a must has moments of the window
abbrev pub touches : Span → Must → Bool
touches near m = nat_lt m.from near.to && nat_lt near.from m.to

-- the broken spans of all musts
abbrev pub all_of : (Must → List BrokenMust) → List Must → List BrokenMust
all_of group [] = []
all_of group (m ∷ more) = group m ++ all_of group more

-- the key of the must that is broken
abbrev pub group_key : BrokenMust → Key
group_key b = key_of 0 b.id b.index

-- the spans of a must have its key
abbrev pub AllHave : Key → List BrokenMust → Type 0
AllHave k [] = Unit {0}
AllHave k (b ∷ bs) = (group_key b ≡ k) × AllHave k bs

abbrev pub IsKeyed : (Must → List BrokenMust) → Type 0
IsKeyed group = (m : Must) → AllHave (must_key m) (group m)

-- what is broken is right, but for musts with these keys, which rise
abbrev pub AreRightBut : List Key → (Must → List BrokenMust) → List Must → List BrokenMust → Type 0
AreRightBut [] group musts broken = broken ≡ all_of group musts
AreRightBut (k ∷ keys) group musts broken =
    (front (is_before group_key k) broken ≡ all_of group (front (is_before must_key k) musts))
    × AreRightBut keys group (back (is_up_to must_key k) (back (is_before must_key k) musts))
    (back (is_up_to group_key k) (back (is_before group_key k) broken))

-- the keys of the musts that have moments of the window
abbrev pub touched_keys : Span → List Started → List Key
touched_keys near [] = []
touched_keys near (s ∷ more) =
    (if touches near s.must then must_key s.must ∷ [] else []) ++ touched_keys near more

-- the moment of the first of the sets, at most the horizon
abbrev pub next_moment : ℕ → List Setting → ℕ
next_moment horizon [] = horizon
next_moment horizon (x ∷ xs) = min x.at horizon

-- what follows the first such item
abbrev pub rest_after : {T : Type 0} → (T → T → Bool) → T → List T → List T
rest_after same item [] = []
rest_after same item (x ∷ xs) = if same x item then xs else rest_after same item xs

abbrev pub comes_before : ℕ → Setting → Bool
comes_before at x = nat_lt x.at at

abbrev pub bad_before : ℕ → BadSet → Bool
bad_before at x = nat_lt x.at at

abbrev pub bad_by : ℕ → BadSet → Bool
bad_by at x = nat_le x.at at

-- by rising moments
abbrev pub AreBadInOrder : ℕ → List BadSet → Type 0
AreBadInOrder from [] = Unit {0}
AreBadInOrder from (x ∷ xs) = (from ≤ x.at) × AreBadInOrder x.at xs

-- the state that the last set after the base's moment and before this one leaves, else the one given
abbrev pub state_before : ℕ → ℕ → ℕ → List Setting → ℕ
state_before base at state [] = state
state_before base at state (x ∷ xs) = state_before base at (if nat_lt base x.at && nat_lt x.at at then x.state else state) xs

-- How far the work on these keys has come: what is left of the musts and of the old spans gives the whole.
pub record IsBegun (group : Must → List BrokenMust) (musts : List Must) (broken : List BrokenMust) (keys : List Key)
    (begin passed taken : ℕ) (fresh went came : List BrokenMust) : Type 0 where
  pub in_musts : passed ≤ length musts
  pub in_broken : taken ≤ length broken
  pub low : begin ≤ taken
  pub right : AreRightBut keys group (drop passed musts) (drop taken broken)
  pub whole : take begin broken ++ (fresh ++ all_of group (drop passed musts)) ≡ all_of group musts
  pub gone : went ++ left_out same_broken (all_of group (drop passed musts)) (drop taken broken)
      ≡ left_out same_broken (all_of group musts) broken
  pub new : came ++ left_out same_broken (drop taken broken) (all_of group (drop passed musts))
      ≡ left_out same_broken broken (all_of group musts)
