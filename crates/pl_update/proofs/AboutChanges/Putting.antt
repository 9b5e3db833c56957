-- What stands after a replacement.
use Rattle.std.proofs.Common.{◌≡◌, ◌≢◌, ℕ, suc, ◌+◌, ◌<◌, ◌≤◌, eqb, ltb, Bool, true, false, List, [], ◌∷◌, refl, sym, ap, ◌∙◌, arith}
use Rattle.std.specs.Prelude.{◌||◌, max, All, AllPairs, Option, Some, None, if◌then◌else◌}
use Rattle.std.specs.List.{list_any}
use Rattle.std.proofs.lemmas.Bool.{eqb-false, ne_eqb}
use Rattle.std.proofs.lemmas.List.Elements.{All-nil, All-cons, All-head, All-tail, All-weaker}
use Rattle.std.proofs.lemmas.List.Folds.{list_any_none}
use Rattle.pl_lists.proofs.Tests.{or_first_false, or_second_false}
use Rattle.pl_plan.specs.declared.activity.Activity.{Activity}
use Rattle.pl_plan.specs.Activities.{AreRising, IsLive, activity_of, placed, without}
use Rattle.pl_plan.proofs.Ids.{rising-without, rising-placed}
use Rattle.pl_plan.proofs.Lookups.{found-placed, found-without}
use Rattle.pl_semantics.specs.PlanStates.{among}
use Rattle.pl_update.specs.Changes.Replaced.{taken, put, replaced, next_after}
use Rattle.pl_update.specs.Changes.Putting.{CanPut}

-- ---- those that go

pub rising-taken : (xs : List Activity) (gone : List ℕ) → AreRising xs → AreRising (taken xs gone)
rising-taken xs [] rising = rising
rising-taken xs (g ∷ gone) rising = rising-taken (without g xs) gone (rising-without g 0 xs rising)

pub found-taken : (xs : List Activity) (gone : List ℕ) (id : ℕ) → AreRising xs → activity_of id (taken xs gone) ≡ (if among id gone then None else activity_of id xs)
found-taken xs [] id rising = refl
found-taken xs (g ∷ gone) id rising = found-taken (without g xs) gone id (rising-without g 0 xs rising) ∙ ap (λ o. if among id gone then None else o) (found-without g 0 xs id rising) ∙ both (eqb g id) (among id gone)
  where
    both : (b d : Bool) → (if d then None else (if b then None else activity_of id xs)) ≡ (if b || d then None else activity_of id xs)
    both true true = refl
    both true false = refl
    both false d = refl

-- an id that is not live, or that goes, is free once those that go are out
free_once_gone : (xs : List Activity) (gone : List ℕ) (id : ℕ) → AreRising xs → (IsLive id xs → among id gone ≡ true) → activity_of id (taken xs gone) ≡ None
free_once_gone xs gone id rising goes = found-taken xs gone id rising ∙ by (among id gone) refl (activity_of id xs) refl
  where
    by : (b : Bool) → among id gone ≡ b → (o : Option Activity) → activity_of id xs ≡ o → (if b then None else o) ≡ None
    by true e o f = refl
    by false e None f = refl
    by false e (Some a) f = absurd (let live : IsLive id xs = rw f refl in let bad : true ≡ false = sym (goes live) ∙ e in cc)

-- ---- those that come

-- no id stands twice
abbrev AreApart : List Activity → Type 0
AreApart [] = Unit {0}
AreApart (a ∷ more) = (list_any (λ (y : Activity). eqb y.id a.id) more ≡ false) × AreApart more

pairs_apart : (more : List Activity) → AllPairs (λ one other. one.id ≢ other.id) more → AreApart more
pairs_apart [] once = tt
pairs_apart (a ∷ more) once = (
  list_any_none (λ (y : Activity). eqb y.id a.id) more (λ k d lt. ne_eqb _ _ (λ e. once 0 (suc k) d (omega arith) (omega (arith, lt)) (sym e))),
  pairs_apart more (λ i j d lt within. once (suc i) (suc j) d (omega (arith, lt)) (omega (arith, within))),
)

still_free : (a : Activity) (xs more : List Activity) → activity_of a.id xs ≡ None → list_any (λ (y : Activity). eqb y.id a.id) more ≡ false → All (λ (b : Activity). activity_of b.id xs ≡ None) more → All (λ (b : Activity). activity_of b.id (placed a xs) ≡ None) more
still_free a xs [] none apart free = All-nil (λ (b : Activity). activity_of b.id (placed a xs) ≡ None)
still_free a xs (b ∷ more) none apart free =
    All-cons (λ (b : Activity). activity_of b.id (placed a xs) ≡ None) b more
    (let other : eqb a.id b.id ≡ false = ne_eqb a.id b.id (λ is. eqb-false b.id a.id (or_first_false (eqb b.id a.id) (list_any (λ (y : Activity). eqb y.id a.id) more) apart) (sym is)) in rw (found-placed a xs b.id none, other) (All-head (λ (b : Activity). activity_of b.id xs ≡ None) b more free))
    (still_free a xs more none (or_second_false (eqb b.id a.id) (list_any (λ (y : Activity). eqb y.id a.id) more) apart) (All-tail (λ (b : Activity). activity_of b.id xs ≡ None) b more free))

can_put : (xs more : List Activity) → AreApart more → All (λ (a : Activity). activity_of a.id xs ≡ None) more → CanPut xs more
can_put xs [] apart free = tt
can_put xs (a ∷ more) apart free =
    let none : activity_of a.id xs ≡ None = All-head (λ (b : Activity). activity_of b.id xs ≡ None) a more free in
    (none, can_put (placed a xs) more apart.1 (still_free a xs more none apart.0 (All-tail (λ (b : Activity). activity_of b.id xs ≡ None) a more free)))

-- what may be placed finds its ids free
pub puttable : (xs : List Activity) (gone : List ℕ) (more : List Activity) → AreRising xs → AllPairs (λ one other. one.id ≢ other.id) more → All (λ a. IsLive a.id xs → among a.id gone ≡ true) more → CanPut (taken xs gone) more
puttable xs gone more rising once free =
    can_put (taken xs gone) more (pairs_apart more once) (All-weaker (λ (a : Activity). IsLive a.id xs → among a.id gone ≡ true) (λ (a : Activity). activity_of a.id (taken xs gone) ≡ None) (λ a goes. free_once_gone xs gone a.id rising goes) more free)

rising-put : (xs more : List Activity) → CanPut xs more → AreRising xs → AreRising (put xs more)
rising-put xs [] can rising = rising
rising-put xs (a ∷ more) can rising = rising-put (placed a xs) more can.1 (rising-placed a 0 xs can.0 (omega arith) rising)

pub rising-replaced : (xs : List Activity) (gone : List ℕ) (more : List Activity) → CanPut (taken xs gone) more → AreRising xs → AreRising (replaced xs gone more)
unfolding replaced
rising-replaced xs gone more can rising = rising-put (taken xs gone) more can (rising-taken xs gone rising)

-- ---- what holds of each

module _ (P : Activity → Type 0) where
  All-without : (id : ℕ) (xs : List Activity) → All P xs → All P (without id xs)
  All-without id [] all = all
  All-without id (x ∷ xs) all = cases (eqb x.id id) refl (All-without id xs (All-tail P x xs all))
    where
      cases : (b : Bool) → eqb x.id id ≡ b → All P (without id xs) → All P (without id (x ∷ xs))
      cases true e more = rw e (All-tail P x xs all)
      cases false e more = rw e (All-cons P x (without id xs) (All-head P x xs all) more)

  All-placed : (a : Activity) (xs : List Activity) → P a → All P xs → All P (placed a xs)
  All-placed a [] one all = All-cons P a [] one all
  All-placed a (x ∷ xs) one all = cases (ltb x.id a.id) refl (All-placed a xs one (All-tail P x xs all))
    where
      cases : (b : Bool) → ltb x.id a.id ≡ b → All P (placed a xs) → All P (placed a (x ∷ xs))
      cases true e more = rw e (All-cons P x (placed a xs) (All-head P x xs all) more)
      cases false e more = rw e (All-cons P a (x ∷ xs) one all)

  All-taken : (gone : List ℕ) (xs : List Activity) → All P xs → All P (taken xs gone)
  All-taken [] xs all = all
  All-taken (g ∷ gone) xs all = All-taken gone (without g xs) (All-without g xs all)

  All-put : (more xs : List Activity) → All P more → All P xs → All P (put xs more)
  All-put [] xs new all = all
  All-put (a ∷ more) xs new all = All-put more (placed a xs) (All-tail P a more new) (All-placed a xs (All-head P a more new) all)

  pub All-replaced : (gone : List ℕ) (more xs : List Activity) → All P more → All P xs → All P (replaced xs gone more)
  unfolding replaced
  All-replaced gone more xs new all = All-put more (taken xs gone) new (All-taken gone xs all)

-- ---- the next id

pub next_grows : (next : ℕ) (more : List Activity) → next ≤ next_after next more
next_grows next [] = omega arith
next_grows next (a ∷ more) = let rest = next_grows (max next (a.id + 1)) more in omega (arith, rest)

pub next_above : (next : ℕ) (more : List Activity) → All (λ a. a.id < next_after next more) more
next_above next [] = All-nil (λ (a : Activity). a.id < next)
next_above next (a ∷ more) = All-cons (λ (b : Activity). b.id < next_after next (a ∷ more)) a more (let rest = next_grows (max next (a.id + 1)) more in omega (arith, rest)) (next_above (max next (a.id + 1)) more)

pub next_bounded : (next : ℕ) (more : List Activity) → next ≤ 4000000001 → All (λ a. (1 ≤ a.id) × (a.id ≤ 4000000000)) more → next_after next more ≤ 4000000001
next_bounded next [] le all = le
next_bounded next (a ∷ more) le all =
    let one : (1 ≤ a.id) × (a.id ≤ 4000000000) = All-head (λ (b : Activity). (1 ≤ b.id) × (b.id ≤ 4000000000)) a more all in
    let first : max next (a.id + 1) ≤ 4000000001 = omega (arith, le, one.1) in
    next_bounded (max next (a.id + 1)) more first (All-tail (λ (b : Activity). (1 ≤ b.id) × (b.id ≤ 4000000000)) a more all)
