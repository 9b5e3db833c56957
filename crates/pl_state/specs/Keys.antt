-- The order of what a state keeps: by moment, then id, then index.
use Rattle.std.specs.Prelude.{◌≡◌, ℕ, ◌&&◌, ◌||◌, ◌==◌, not, nat_lt, Bool, false, true, ◌⊎◌, List, [], ◌∷◌, ◌+◌, ◌-◌, take, drop, if◌then◌else◌}
use Rattle.pl_lists.specs.Lists.{front, back}
use Rattle.pl_state.specs.declared.key.Key.{Key}

abbrev pub key_of : ℕ → ℕ → ℕ → Key
key_of at id index = record { at = at; id = id; index = index }

abbrev pub key_before : Key → Key → Bool
key_before a b = nat_lt a.at b.at || ((a.at == b.at) && (nat_lt a.id b.id || ((a.id == b.id) && nat_lt a.index b.index)))

abbrev pub is_before : {T : Type 0} → (T → Key) → Key → T → Bool
is_before key k x = key_before (key x) k

-- to come before the key or to have it
abbrev pub is_up_to : {T : Type 0} → (T → Key) → Key → T → Bool
is_up_to key k x = not (key_before k (key x))

-- none of the items comes before the key
abbrev pub NoneBefore : {T : Type 0} → (T → Key) → Key → List T → Type 0
NoneBefore key k [] = Unit {0}
NoneBefore key k (x ∷ xs) = (key_before (key x) k ≡ false) × NoneBefore key k xs

-- none comes before one that stands before it
abbrev pub AreSorted : {T : Type 0} → (T → Key) → List T → Type 0
AreSorted key [] = Unit {0}
AreSorted key (x ∷ xs) = NoneBefore key (key x) xs × AreSorted key xs

-- items that are the same have one key
abbrev pub KnowsKey : {T : Type 0} → (T → Key) → (T → T → Bool) → Type 0
KnowsKey {T} key same = (x y : T) → same x y ≡ true → key x ≡ key y

-- where those with a key stand among sorted items, from a place on
pub record IsRun {T : Type 0} (key : T → Key) (k : Key) (xs : List T) (from begin behind : ℕ) : Type 0 where
  pub before : take (begin - from) (drop from xs) ≡ front (is_before key k) (drop from xs)
  pub on : drop begin xs ≡ back (is_before key k) (drop from xs)
  pub having : take (behind - begin) (drop begin xs) ≡ front (is_up_to key k) (drop begin xs)
  pub rest : drop behind xs ≡ back (is_up_to key k) (drop begin xs)

abbrev pub AreRising : List Key → Type 0
AreRising keys = AreSorted (λ k. k) keys

-- the list has the item
abbrev pub Has : {T : Type 0} → T → List T → Type 0
Has x [] = ⊥
Has x (y ∷ ys) = (y ≡ x) ⊎ Has x ys

-- how often it has it
abbrev pub many : {T : Type 0} → (T → T → Bool) → T → List T → ℕ
many same u [] = 0
many same u (x ∷ xs) = (if same x u then 1 else 0) + many same u xs
