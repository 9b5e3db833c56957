-- Sets of a state, in order, and the state that they leave.
use Rattle.std.specs.Prelude.{ℕ, ◌-◌, ◌≤◌, ◌&&◌, ◌||◌, ◌==◌, not, nat_lt, nat_le, Bool, false, List, [], ◌∷◌, ◌++◌, length, slice_get, Option, if◌then◌else◌}
use Rattle.pl_lists.specs.Lists.{front, back}
use Rattle.pl_state.specs.declared.reservation.Setting.{Setting}
use Rattle.pl_state.specs.declared.answer.BadSet.{BadSet}
use Rattle.pl_state.specs.declared.key.Key.{Key}
use Rattle.pl_state.specs.Keys.{key_of}

abbrev pub setting_of : ℕ → ℕ → ℕ → ℕ → Setting
setting_of at id index state = record { at = at; id = id; index = index; state = state }

abbrev pub same_setting : Setting → Setting → Bool
same_setting u v = (u.at == v.at) && ((u.id == v.id) && ((u.index == v.index) && (u.state == v.state)))

-- by moment, then id, then index
abbrev pub set_before : Setting → Setting → Bool
set_before u x = nat_lt x.at u.at || ((x.at == u.at) && (nat_lt x.id u.id || ((x.id == u.id) && nat_lt x.index u.index)))

-- the sets with one more, in its place
abbrev pub with_set : Setting → List Setting → List Setting
with_set u xs = front (set_before u) xs ++ u ∷ back (set_before u) xs

-- by moment, then id, then index
abbrev pub set_key : Setting → Key
set_key x = key_of x.at x.id x.index

-- by rising moments
abbrev pub AreInOrder : ℕ → List Setting → Type 0
AreInOrder from [] = Unit {0}
AreInOrder from (x ∷ xs) = (from ≤ x.at) × AreInOrder x.at xs

abbrev pub is_passed : ℕ → Setting → Bool
is_passed at x = nat_le x.at at

-- of sets in order the last one at the moment or before it, if there is one
abbrev pub last_by : ℕ → List Setting → Option Setting
last_by at xs = slice_get (front (is_passed at) xs) (length (front (is_passed at) xs) - 1)

-- the state that the last set after the base's moment up to this one leaves, else the one given
abbrev pub state_from : ℕ → ℕ → ℕ → List Setting → ℕ
state_from base t state [] = state
state_from base t state (x ∷ xs) = state_from base t (if nat_lt base x.at && nat_le x.at t then x.state else state) xs

-- a step is allowed from a state to itself, and where it is listed, or any is
abbrev pub is_listed : List (ℕ × ℕ) → ℕ → ℕ → Bool
is_listed [] a b = false
is_listed (p ∷ ps) a b = ((p.0 == a) && (p.1 == b)) || is_listed ps a b

abbrev pub is_allowed : Bool → List (ℕ × ℕ) → ℕ → ℕ → Bool
is_allowed any steps a b = any || ((a == b) || is_listed steps a b)

abbrev pub bad_set : Setting → BadSet
bad_set x = record { at = x.at; id = x.id; index = x.index }

-- whether the set counts: after the base's moment and before the horizon
abbrev pub is_counted : ℕ → ℕ → Setting → Bool
is_counted base horizon x = nat_lt base x.at && nat_lt x.at horizon

-- the sets that count, from the present moment on, whose step from the state before them is not allowed
abbrev pub bad_from : (ℕ → ℕ → Bool) → ℕ → ℕ → ℕ → ℕ → List Setting → List BadSet
bad_from allowed base horizon moment state [] = []
bad_from allowed base horizon moment state (x ∷ xs) =
    (if is_counted base horizon x && (nat_le moment x.at && not (allowed state x.state)) then bad_set x ∷ [] else [])
    ++ bad_from allowed base horizon moment (if is_counted base horizon x then x.state else state) xs
