-- What is found after some activities went and others came, and when that is a replacement.
use Rattle.std.proofs.Common.{◌≡◌, ℕ, suc, ◌+◌, ◌<◌, ◌≤◌, eqb, Bool, true, false, cond, List, [], ◌∷◌, length, get_or, refl, sym, ap, ◌∙◌, subst, arith}
use Rattle.std.specs.Prelude.{◌||◌, max, All, Option, Some, None}
use Rattle.std.specs.Option.{option_or}
use Rattle.std.proofs.lemmas.Bool.{eqb-true, ne_eqb}
use Rattle.std.proofs.lemmas.List.Elements.{All-head, All-tail}
use Rattle.pl_plan.specs.declared.activity.Activity.{Activity}
use Rattle.pl_plan.specs.Activities.{RiseFrom, AreRising, IsLive, activity_of, placed, without}
use Rattle.pl_plan.specs.Fitting.{Fits}
use Rattle.pl_plan.specs.Laws.{AreSameAbove}
use Rattle.pl_plan.specs.Values.{values_of}
use Rattle.pl_plan.proofs.Ids.{rises_above, rises_between, rising-without, rising-placed}
use Rattle.pl_plan.proofs.Lookups.{none_below, found-placed, found-without}
use Rattle.pl_plan.proofs.LookUpLaws.{same_activities}
use Rattle.pl_plan.proofs.LocalValues.{values_local}
use Rattle.pl_semantics.specs.declared.plan_state.PlanState.{PlanState}
use Rattle.pl_semantics.specs.PlanStates.{among}
use Rattle.pl_semantics.specs.Whole.{IsWhole, IsCarried, HasBegun}
use Rattle.pl_update.specs.Changes.Replaced.{CanReplace, taken, put, replaced, touched, next_after}
use Rattle.pl_update.proofs.AboutChanges.Putting.{rising-taken}

-- ---- those that go

found_taken : (xs : List Activity) (gone : List ℕ) (q : ℕ) → AreRising xs → activity_of q (taken xs gone) ≡ cond (among q gone) None (activity_of q xs)
found_taken xs [] q rising = refl
found_taken xs (g ∷ gone) q rising = found_taken (without g xs) gone q (rising-without g 0 xs rising) ∙ ap (λ o. cond (among q gone) None o) (found-without g 0 xs q rising) ∙ both (eqb g q) (among q gone)
  where
    both : (b d : Bool) → cond d None (cond b None (activity_of q xs)) ≡ cond (b || d) None (activity_of q xs)
    both true true = refl
    both true false = refl
    both false d = refl

-- ---- those that come

abbrev Free : List Activity → Activity → Type 0
Free base a = activity_of a.id base ≡ None

still_free : (base : List Activity) (a : Activity) (more : List Activity) → Free base a → RiseFrom (suc a.id) more → All (Free base) more → All (Free (placed a base)) more
still_free base a more none rising free i d lt =
    let above = rises_above more (suc a.id) i d rising lt in
    let other : eqb a.id (get_or more i d).id ≡ false = ne_eqb a.id (get_or more i d).id (λ e. omega (arith, above, e)) in
    found-placed a base (get_or more i d).id none ∙ rw other (free i d lt)

rising_put : (base : List Activity) (c : ℕ) (more : List Activity) → RiseFrom c more → All (Free base) more → AreRising base → AreRising (put base more)
rising_put base c [] rises free rising = rising
rising_put base c (a ∷ more) rises free rising =
    let none = All-head (Free base) a more free in
    rising_put (placed a base) (suc a.id) more rises.1 (still_free base a more none rises.1 (All-tail (Free base) a more free)) (rising-placed a 0 base none (omega arith) rising)

found_put : (base : List Activity) (c : ℕ) (more : List Activity) (q : ℕ) → RiseFrom c more → All (Free base) more → activity_of q (put base more) ≡ option_or (activity_of q more) (activity_of q base)
found_put base c [] q rises free = refl
found_put base c (a ∷ more) q rises free =
    let none = All-head (Free base) a more free in
    found_put (placed a base) (suc a.id) more q rises.1 (still_free base a more none rises.1 (All-tail (Free base) a more free))
    ∙ ap (λ o. option_or (activity_of q more) o) (found-placed a base q none)
    ∙ by_id (eqb a.id q) refl
  where
    by_id : (b : Bool) → eqb a.id q ≡ b → option_or (activity_of q more) (cond (eqb a.id q) (Some a) (activity_of q base)) ≡ option_or (cond (eqb a.id q) (Some a) (activity_of q more)) (activity_of q base)
    by_id true e =
        let is : a.id ≡ q = eqb-true a.id q e in
        let gone : activity_of q more ≡ None = none_below more (suc a.id) q rises.1 (omega (arith, is)) in
        rw (e, gone) refl
    by_id false e = rw e refl

-- ---- both

abbrev pub MayCome : List Activity → List ℕ → Activity → Type 0
MayCome xs gone a = IsLive a.id xs → among a.id gone ≡ true

free_then : (xs : List Activity) (gone : List ℕ) (a : Activity) → AreRising xs → MayCome xs gone a → Free (taken xs gone) a
free_then xs gone a rising may = found_taken xs gone a.id rising ∙ by (among a.id gone) refl (activity_of a.id xs) refl
  where
    by : (b : Bool) → among a.id gone ≡ b → (o : Option Activity) → activity_of a.id xs ≡ o → cond b None o ≡ None
    by true e o f = refl
    by false e None f = refl
    by false e (Some x) f = absurd (let live : IsLive a.id xs = rw f refl in let bad : true ≡ false = sym (may live) ∙ e in cc)

-- what is found after: one that came, else none that went, else what was there
abbrev pub swapped_at : List Activity → List ℕ → List Activity → ℕ → Option Activity
swapped_at xs gone more q = option_or (activity_of q more) (cond (among q gone) None (activity_of q xs))

pub same_replaced : (xs : List Activity) (gone : List ℕ) (more ys : List Activity) → AreRising xs → AreRising more → All (MayCome xs gone) more → AreRising ys → ((q : ℕ) → activity_of q ys ≡ swapped_at xs gone more q) → replaced xs gone more ≡ ys
unfolding replaced
same_replaced xs gone more ys rising rises may rises_then found =
    let free : All (Free (taken xs gone)) more = λ i d lt. free_then xs gone (get_or more i d) rising (may i d lt) in
    same_activities (put (taken xs gone) more) ys (rising_put (taken xs gone) 0 more rises free (rising-taken xs gone rising)) rises_then
    (λ q. found_put (taken xs gone) 0 more q rises free ∙ (ap (λ o. option_or (activity_of q more) o) (found_taken xs gone q rising) ∙ sym (found q)))

-- what makes a list of activities what a replacement leaves
pub record IsSwap (s : PlanState) (gone : List ℕ) (more ys : List Activity) : Type 0 where
  pub live : All (λ id. IsLive id s.plan.activities) gone
  pub rises : AreRising more
  pub may : All (MayCome s.plan.activities gone) more
  pub ids : All (λ a. (1 ≤ a.id) × (a.id < s.next_id + 17)) more
  pub carried : All (IsCarried s.goals) more
  pub begun : All (HasBegun s.moment s.committed) more
  pub rising : AreRising ys
  pub found : (q : ℕ) → activity_of q ys ≡ swapped_at s.plan.activities gone more q
  pub above : (id : ℕ) → among id (touched gone more) ≡ false → AreSameAbove s.plan.activities ys id
  pub fits : Fits s.model ys
  pub few : length ys ≤ s.live_limit

pub swap_is : (s : PlanState) (gone : List ℕ) (more ys : List Activity) → IsWhole s → IsSwap s gone more ys → replaced s.plan.activities gone more ≡ ys
swap_is s gone more ys whole swap = same_replaced s.plan.activities gone more ys whole.rising swap.rises swap.may swap.rising swap.found

pub can_swap : (s : PlanState) (gone : List ℕ) (more ys : List Activity) → IsWhole s → s.next_id ≤ 3999999000 → IsSwap s gone more ys → CanReplace s gone more
can_swap s gone more ys whole next swap =
    let is : ys ≡ replaced s.plan.activities gone more = sym (swap_is s gone more ys whole swap) in
    record {
      live = swap.live;
      once = λ i j d lt within e. let less = rises_between more 0 i j d swap.rises lt within in omega (arith, less, e);
      free = swap.may;
      ids = λ i d lt. let ids = swap.ids i d lt in (ids.0, omega (arith, ids.1, next));
      carried = swap.carried;
      begun = swap.begun;
      kept = λ id apart. subst (λ (l : List Activity). values_of s.model l id ≡ values_of s.model s.plan.activities id) is (sym (values_local s.model s.plan.activities ys whole.fits.rooted swap.fits.rooted id (swap.above id apart)));
      fits = subst (λ (l : List Activity). Fits s.model l) is swap.fits;
      few = subst (λ (l : List Activity). length l ≤ s.live_limit) is swap.few;
    }

-- ---- the next id

pub next_same : (next : ℕ) (more : List Activity) → All (λ a. a.id < next) more → next_after next more ≡ next
next_same next [] below = refl
next_same next (a ∷ more) below =
    let lt : a.id < next = All-head (λ (b : Activity). b.id < next) a more below in
    let first : max next (a.id + 1) ≡ next = omega (arith, lt) in
    ap (λ n. next_after n more) first ∙ next_same next more (All-tail (λ (b : Activity). b.id < next) a more below)
