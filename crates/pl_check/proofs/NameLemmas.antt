-- Searches among keys, and among what is seen of them.
use Rattle.std.proofs.Common.{◌≡◌, ℕ, ◌+◌, Bool, List, [], ◌∷◌, map, refl, ap, ◌||◌, cond, Some}
use Rattle.std.specs.List.{list_any, position_from}

module _ {X Y : Type 0} (f : X → Y) (p : Y → Bool) where
  pub any_map : (xs : List X) → list_any (λ x. p (f x)) xs ≡ list_any p (map f xs)
  any_map [] = refl
  any_map (x ∷ xs) = ap (λ b. p (f x) || b) (any_map xs)

  pub position_from_map : (i : ℕ) (xs : List X) → position_from (λ x. p (f x)) i xs ≡ position_from p i (map f xs)
  position_from_map i [] = refl
  position_from_map i (x ∷ xs) = ap (cond (p (f x)) (Some i)) (position_from_map (i + 1) xs)
