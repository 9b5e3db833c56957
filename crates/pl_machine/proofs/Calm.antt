-- How long nothing more starts: what changes leave of it, and what is due till then.
use Rattle.std.proofs.Common.{◌≡◌, ℕ, ◌<◌, ◌≤◌, eqb, leb, ltb, Bool, true, false, ◌&&◌, List, [], ◌∷◌, length, map, ◌⊎◌, inl, inr, if◌then◌else◌, refl, sym, ◌∙◌, ap, arith}
use Rattle.std.specs.Prelude.{filter}
use Rattle.std.proofs.lemmas.Bool.{leb-true, le-leb, ltb-true, ltb-false}
use Rattle.std.proofs.lemmas.List.Elements.{All-nil, All-cons, All-head, All-tail, All-weaker, All-map}
use Rattle.pl_lists.proofs.Tests.{same_test}
use Rattle.pl_model.specs.declared.whole.Model.{Model}
use Rattle.pl_plan.specs.declared.activity.Activity.{Activity}
use Rattle.pl_plan.specs.Activities.{ended}
use Rattle.pl_plan.specs.Fitting.{kind_of, alternatives_of}
use Rattle.pl_entry.specs.Due.{is_due, start_of, with_starts, due_of}
use Rattle.pl_semantics.specs.declared.plan_state.PlanState.{PlanState}
use Rattle.pl_machine.specs.World.{due_in, due_at}
use Rattle.pl_machine.specs.declared.ahead.Ahead.{Ahead}
use Rattle.pl_machine.specs.declared.change.Change.{Change}
use Rattle.pl_machine.specs.declared.change.Change.TheVariants.{Accept, Tell, Tick, Commit, Repair, Measure, Withdraw}
use Rattle.pl_machine.specs.Changes.{changed, is_tick}
use Rattle.pl_machine.specs.Calm.{StartsNone, nearer, next_start, ahead_after}

-- ---- changes

always : (moment : ℕ) (xs : List Activity) → StartsNone moment 0 xs
always moment [] = All-nil (λ (a : Activity). (a.start ≤ moment) ⊎ (0 ≤ a.start))
always moment (a ∷ more) = All-cons (λ (a : Activity). (a.start ≤ moment) ⊎ (0 ≤ a.start)) a more (inr (omega arith)) (always moment more)

-- a measured end leaves the start
early_ended : (id end moment next : ℕ) (a : Activity) → (a.start ≤ moment) ⊎ (next ≤ a.start) → ((if eqb a.id id then ended end a else a).start ≤ moment) ⊎ (next ≤ (if eqb a.id id then ended end a else a).start)
early_ended id end moment next a is = by (eqb a.id id)
  where
    by : (b : Bool) → ((if b then ended end a else a).start ≤ moment) ⊎ (next ≤ (if b then ended end a else a).start)
    by true = is
    by false = is

-- a change that leaves the present
pub calm_still : (s : PlanState) (change : Change) (ahead : Ahead) → is_tick change ≡ false → StartsNone s.moment ahead.next_start s.plan.activities
    → StartsNone (changed change s).moment (ahead_after change ahead).next_start (changed change s).plan.activities
calm_still s (Accept goal) ahead still calm = calm
calm_still s (Tell line value) ahead still calm = calm
calm_still s (Tick moment) ahead still calm = absurd (cc)
calm_still s (Commit h) ahead still calm = calm
calm_still s (Repair m) ahead still calm = always (changed (Repair m) s).moment (changed (Repair m) s).plan.activities
calm_still s (Measure id end) ahead still calm =
    All-map (λ (a : Activity). (a.start ≤ s.moment) ⊎ (ahead.next_start ≤ a.start)) (λ (a : Activity). if eqb a.id id then ended end a else a) s.plan.activities
    (All-weaker (λ (a : Activity). (a.start ≤ s.moment) ⊎ (ahead.next_start ≤ a.start)) (λ (a : Activity). ((if eqb a.id id then ended end a else a).start ≤ s.moment) ⊎ (ahead.next_start ≤ (if eqb a.id id then ended end a else a).start)) (early_ended id end s.moment ahead.next_start) s.plan.activities calm)
calm_still s Withdraw ahead still calm = calm

-- ---- as the present moves on

later_by : (start before now next : ℕ) → before ≤ now → (start ≤ before) ⊎ (next ≤ start) → (start ≤ now) ⊎ (next ≤ start)
later_by start before now next le (inl early) = inl (omega (arith, le, early))
later_by start before now next le (inr late) = inr late

pub calm_later : (before now next : ℕ) (xs : List Activity) → before ≤ now → StartsNone before next xs → StartsNone now next xs
calm_later before now next xs le calm =
    All-weaker (λ (a : Activity). (a.start ≤ before) ⊎ (next ≤ a.start)) (λ (a : Activity). (a.start ≤ now) ⊎ (next ≤ a.start)) (λ a is. later_by a.start before now next le is) xs calm

early_by : (start before now next : ℕ) → now < next → (start ≤ before) ⊎ (next ≤ start) → start ≤ now → start ≤ before
early_by start before now next lt (inl early) le = early
early_by start before now next lt (inr late) le = absurd (omega (arith, lt, late, le))

module _ (model : Model) (c before now next : ℕ) (le : before ≤ now) (lt : now < next) where
  one_due : (a : Activity) → (a.start ≤ before) ⊎ (next ≤ a.start) → is_due model now c a ≡ is_due model before c a
  one_due a is =
      let same : leb a.start now ≡ leb a.start before = same_test (leb a.start now) (leb a.start before)
      (λ e. le-leb a.start before (early_by a.start before now next lt is (leb-true a.start now e)))
      (λ e. let early = leb-true a.start before e in le-leb a.start now (omega (arith, le, early))) in
      ap (λ (b : Bool). ltb a.start c && (b && eqb (length (alternatives_of (kind_of model a))) 0)) same

  all_due : (xs : List Activity) → StartsNone before next xs → filter (is_due model now c) xs ≡ filter (is_due model before c) xs
  all_due [] calm = refl
  all_due (a ∷ more) calm = by (is_due model before c a) (is_due model now c a) (one_due a (All-head (λ (a : Activity). (a.start ≤ before) ⊎ (next ≤ a.start)) a more calm)) (all_due more (All-tail (λ (a : Activity). (a.start ≤ before) ⊎ (next ≤ a.start)) a more calm))
    where
      by : (p q : Bool) → q ≡ p → filter (is_due model now c) more ≡ filter (is_due model before c) more
          → (if q then a ∷ filter (is_due model now c) more else filter (is_due model now c) more) ≡ (if p then a ∷ filter (is_due model before c) more else filter (is_due model before c) more)
      by true q is rest = rw is (ap (λ (l : List Activity). a ∷ l) rest)
      by false q is rest = rw is rest

-- nothing more is due before the next start
pub due_still : (s : PlanState) (before next : ℕ) (due : List ℕ) → due ≡ due_at before s → before ≤ s.moment → s.moment < next → StartsNone before next s.plan.activities → due ≡ due_in s
unfolding due_of
due_still s before next due is le lt calm = is ∙ ap (λ (l : List Activity). map (λ (x : ℕ × ℕ). x.1) (with_starts [] (map start_of l))) (sym (all_due s.model s.committed before s.moment next le lt s.plan.activities calm))

-- ---- the next start

nearer_low : (moment next start : ℕ) (a b : Bool) → ltb moment start ≡ a → ltb start next ≡ b → ((start ≤ moment) ⊎ (nearer moment next start ≤ start)) × (nearer moment next start ≤ next)
nearer_low moment next start true true e f = rw (e, f) (inr (omega arith), (let lt = ltb-true start next f in omega (arith, lt)))
nearer_low moment next start true false e f = rw (e, f) (inr (ltb-false start next f), omega arith)
nearer_low moment next start false b e f = rw e (inl (ltb-false moment start e), omega arith)

pub next_low : (moment next : ℕ) (xs : List Activity) → next_start moment next xs ≤ next
next_low moment next [] = omega arith
next_low moment next (a ∷ more) =
    let rest = next_low moment (nearer moment next a.start) more in
    let near = (nearer_low moment next a.start (ltb moment a.start) (ltb a.start next) refl refl).1 in
    omega (arith, rest, near)

pub next_calm : (moment next : ℕ) (xs : List Activity) → StartsNone moment (next_start moment next xs) xs
next_calm moment next [] = All-nil (λ (a : Activity). (a.start ≤ moment) ⊎ (next ≤ a.start))
next_calm moment next (a ∷ more) =
    All-cons (λ (x : Activity). (x.start ≤ moment) ⊎ (next_start moment (nearer moment next a.start) more ≤ x.start)) a more
    (by (nearer_low moment next a.start (ltb moment a.start) (ltb a.start next) refl refl).0 (next_low moment (nearer moment next a.start) more)) (next_calm moment (nearer moment next a.start) more)
  where
    by : (a.start ≤ moment) ⊎ (nearer moment next a.start ≤ a.start) → next_start moment (nearer moment next a.start) more ≤ nearer moment next a.start → (a.start ≤ moment) ⊎ (next_start moment (nearer moment next a.start) more ≤ a.start)
    by (inl early) low = inl early
    by (inr near) low = inr (omega (arith, near, low))
