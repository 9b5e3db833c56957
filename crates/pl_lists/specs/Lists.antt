-- Parts of a list, what stands in it, and lists that go together.
use Rattle.std.specs.Prelude.{ℕ, suc, ◌≤◌, Bool, List, [], ◌∷◌, if◌then◌else◌}
use Rattle.std.specs.List.{list_any}

-- the longest front all of which passes
abbrev pub front : {T : Type 0} → (T → Bool) → List T → List T
front passes [] = []
front passes (x ∷ xs) = if passes x then x ∷ front passes xs else []

-- what follows that front
abbrev pub back : {T : Type 0} → (T → Bool) → List T → List T
back passes [] = []
back passes (x ∷ xs) = if passes x then back passes xs else x ∷ xs

-- the list without the first item that passes
abbrev pub without : {T : Type 0} → (T → Bool) → List T → List T
without passes [] = []
without passes (x ∷ xs) = if passes x then xs else x ∷ without passes xs

-- what stands behind the first item that passes
abbrev pub behind : {T : Type 0} → (T → Bool) → List T → List T
behind passes [] = []
behind passes (x ∷ xs) = if passes x then xs else behind passes xs

-- whether the list has such an item
abbrev pub is_among : {T : Type 0} → (T → T → Bool) → List T → T → Bool
is_among same xs x = list_any (λ y. same y x) xs

-- those that are not among the others
abbrev pub left_out : {T : Type 0} → (T → T → Bool) → List T → List T → List T
left_out same others [] = []
left_out same others (x ∷ xs) =
    if is_among same others x then left_out same others xs else x ∷ left_out same others xs

-- the numbers of the items rise, from this one on
abbrev pub RiseFrom : {T : Type 0} → (T → ℕ) → ℕ → List T → Type 0
RiseFrom number from [] = Unit {0}
RiseFrom number from (x ∷ xs) = (from ≤ number x) × RiseFrom number (suc (number x)) xs

-- the lists are as long as each other, and the relation holds place by place
abbrev pub Pairwise : {X Y : Type 0} → (X → Y → Type 0) → List X → List Y → Type 0
Pairwise R [] [] = Unit {0}
Pairwise R [] (y ∷ ys) = ⊥
Pairwise R (x ∷ xs) [] = ⊥
Pairwise R (x ∷ xs) (y ∷ ys) = R x y × Pairwise R xs ys
