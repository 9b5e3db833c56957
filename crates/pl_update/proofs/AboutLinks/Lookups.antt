-- A search in a plan finds the same after a replacement, where it passes over all that goes and comes.
use Rattle.std.proofs.Common.{◌≡◌, ℕ, eqb, ltb, Bool, true, false, cond, List, [], ◌∷◌, find, Option, Some, None, refl, sym, ap, ◌∙◌}
use Rattle.std.specs.Prelude.{All}
use Rattle.std.proofs.lemmas.List.Elements.{All-head, All-tail, All-weaker}
use Rattle.pl_plan.specs.declared.activity.Activity.{Activity}
use Rattle.pl_plan.specs.Activities.{AreRising, activity_of, placed, without}
use Rattle.pl_plan.proofs.Ids.{rising-without}
use Rattle.pl_plan.proofs.Lookups.{found-without}
use Rattle.pl_update.specs.Changes.Replaced.{taken, put, replaced}

-- the activity of this id fails the test
abbrev pub Fails : (Activity → Bool) → List Activity → ℕ → Type 0
Fails f xs id = (a : Activity) → activity_of id xs ≡ Some a → f a ≡ false

module _ (f : Activity → Bool) where
  find-without : (g : ℕ) (xs : List Activity) → Fails f xs g → find f (without g xs) ≡ find f xs
  find-without g [] fails = refl
  find-without g (x ∷ xs) fails = cases (eqb x.id g) refl (find-without g xs)
    where
      cases : (b : Bool) → eqb x.id g ≡ b → (Fails f xs g → find f (without g xs) ≡ find f xs) → find f (without g (x ∷ xs)) ≡ find f (x ∷ xs)
      cases true e more = let here : activity_of g (x ∷ xs) ≡ Some x = rw e refl in let no : f x ≡ false = fails x here in rw (e, no) refl
      cases false e more = let rest : Fails f xs g = λ a h. fails a (let at : activity_of g (x ∷ xs) ≡ Some a = rw e h in at) in rw e (ap (λ o. cond (f x) (Some x) o) (more rest))

  still : (g id : ℕ) (xs : List Activity) → AreRising xs → Fails f xs id → Fails f (without g xs) id
  still g id xs rising fails a e = fails a (by (eqb g id) (activity_of id xs) (sym (found-without g 0 xs id rising) ∙ e))
    where
      by : (b : Bool) (o : Option Activity) → cond b None o ≡ Some a → o ≡ Some a
      by true o h = absurd (cc)
      by false o h = h

  find-taken : (xs : List Activity) (gone : List ℕ) → AreRising xs → All (Fails f xs) gone → find f (taken xs gone) ≡ find f xs
  find-taken xs [] rising fails = refl
  find-taken xs (g ∷ gone) rising fails =
      find-taken (without g xs) gone (rising-without g 0 xs rising) (All-weaker (Fails f xs) (Fails f (without g xs)) (λ id h. still g id xs rising h) gone (All-tail (Fails f xs) g gone fails))
      ∙ find-without g xs (All-head (Fails f xs) g gone fails)

  find-placed : (a : Activity) (xs : List Activity) → f a ≡ false → find f (placed a xs) ≡ find f xs
  find-placed a [] e = rw e refl
  find-placed a (x ∷ xs) e = cases (ltb x.id a.id) refl (find-placed a xs e)
    where
      cases : (b : Bool) → ltb x.id a.id ≡ b → find f (placed a xs) ≡ find f xs → find f (placed a (x ∷ xs)) ≡ find f (x ∷ xs)
      cases true lt more = rw lt (ap (λ o. cond (f x) (Some x) o) more)
      cases false lt more = rw (lt, e) refl

  find-put : (xs more : List Activity) → All (λ a. f a ≡ false) more → find f (put xs more) ≡ find f xs
  find-put xs [] fails = refl
  find-put xs (a ∷ more) fails = find-put (placed a xs) more (All-tail (λ a. f a ≡ false) a more fails) ∙ find-placed a xs (All-head (λ a. f a ≡ false) a more fails)

  pub find-replaced : (xs : List Activity) (gone : List ℕ) (more : List Activity) → AreRising xs → All (Fails f xs) gone → All (λ a. f a ≡ false) more → find f (replaced xs gone more) ≡ find f xs
  unfolding replaced
  find-replaced xs gone more rising fails others = find-put (taken xs gone) more others ∙ find-taken xs gone rising fails
