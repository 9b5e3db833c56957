-- What it comes to that each place has one owner.
use Rattle.std.specs.Prelude.{◌≡◌, ℕ, Bool, true, false, List, ◌∷◌, ◌++◌, map, drop, length}
use Rattle.std.specs.List.{All, filter}
use Rattle.pl_turn.specs.History.{IsEachOnce, StandsIn, times_in}

module _ {I : Type 0} where
  -- each entry of the list passes the test, or fails it
  abbrev pub AllAnswer : Bool → (I → Bool) → List (ℕ × I) → Type 0
  AllAnswer b test own = All (λ x. test x.1 ≡ b) own

  -- The lists share out the places past the opening. Where one list's entries pass the test, and those of the others fail it, the entries of the history past the opening that pass are the entries of that list, in their order
  abbrev pub PicksOwn : (I → Bool) → List I → ℕ → List (List (ℕ × I)) → List (ℕ × I) → List (List (ℕ × I)) → Type 0
  PicksOwn test history opening before own after =
      All (StandsIn history) (before ++ own ∷ after) → IsEachOnce opening (length history) (λ place. times_in place (before ++ own ∷ after))
      → AllAnswer true test own → All (AllAnswer false test) before → All (AllAnswer false test) after → map (λ x. x.1) own ≡ filter test (drop opening history)
