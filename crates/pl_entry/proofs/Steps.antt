-- The starts of due activities, one activity more.
use Rattle.std.proofs.Common.{◌≡◌, ℕ, zero, suc, ◌+◌, Bool, true, false, cond, if◌then◌else◌, List, [], ◌∷◌, drop, map, Some, slice_get, refl, ap, add-one}
use Rattle.std.specs.Prelude.{filter}
use Rattle.std.specs.BTreeSet.{insert_key}
use Rattle.pl_plan.specs.declared.activity.Activity.{Activity}
use Rattle.pl_entry.specs.Due.{start_of, start_cmp, with_starts}

here_and_on : (xs : List Activity) (k : ℕ) (a : Activity) → slice_get xs k ≡ Some a → drop k xs ≡ a ∷ drop (suc k) xs
here_and_on [] k a e = absurd (cc)
here_and_on (x ∷ xs) zero a e = ap (λ y. y ∷ xs) (cc)
here_and_on (x ∷ xs) (suc k) a e = here_and_on xs k a e

pub drop_here : (xs : List Activity) (k : ℕ) (a : Activity) → slice_get xs k ≡ Some a → drop k xs ≡ a ∷ drop (k + 1) xs
drop_here xs k a e = rw add-one (here_and_on xs k a e)

pub due_step : (p : Activity → Bool) (a : Activity) (more : List Activity) (sorted : List (ℕ × ℕ)) → with_starts sorted (map start_of (filter p (a ∷ more))) ≡ with_starts (if p a then insert_key start_cmp sorted (start_of a) else sorted) (map start_of (filter p more))
due_step p a more sorted = by (p a)
  where
    by : (b : Bool) → with_starts sorted (map start_of (cond b (a ∷ filter p more) (filter p more))) ≡ with_starts (if b then insert_key start_cmp sorted (start_of a) else sorted) (map start_of (filter p more))
    by true = refl
    by false = refl
