-- The list of what stands, as what came and went leaves it.
use Rattle.std.specs.Prelude.{Bool, false, ◌||◌, List, [], ◌∷◌, ◌++◌, if◌then◌else◌}
use Rattle.pl_points.specs.declared.noted.Noted.{Noted}
use Rattle.pl_points.specs.declared.noted.Noted.TheVariants.{Came, Went}

-- whether such an item stands
abbrev pub stands : {T : Type 0} → (T → T → Bool) → T → List T → Bool
stands same item [] = false
stands same item (x ∷ xs) = same x item || stands same item xs

-- the list without the first such item
abbrev pub without : {T : Type 0} → (T → T → Bool) → T → List T → List T
without same item [] = []
without same item (x ∷ xs) = if same x item then xs else x ∷ without same item xs

abbrev pub noted : {T : Type 0} → (T → T → Bool) → List T → Noted T → List T
noted same items (Came item) = items ++ item ∷ []
noted same items (Went item) = without same item items

abbrev pub standing_from : {T : Type 0} → (T → T → Bool) → List T → List (Noted T) → List T
standing_from same items [] = items
standing_from same items (note ∷ more) = standing_from same (noted same items note) more

-- what stands after all that was noted
abbrev pub standing : {T : Type 0} → (T → T → Bool) → List (Noted T) → List T
standing same notes = standing_from same [] notes

-- each item meets the condition
abbrev pub Each : {T : Type 0} → (T → Type 0) → List T → Type 0
Each P [] = Unit {0}
Each P (x ∷ xs) = P x × Each P xs
