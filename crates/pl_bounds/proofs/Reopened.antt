-- A goal that the root alone served that goes is open again.
use Rattle.std.proofs.Common.{◌≡◌, ℕ, Bool, true, false, List, [], ◌∷◌, map, filter, get_or, refl, sym, ap, ◌∙◌}
use Rattle.std.specs.Prelude.{◌||◌, All, not}
use Rattle.std.proofs.lemmas.Bool.{eq-eqb, le-leb, false_from_ne_true}
use Rattle.std.proofs.lemmas.List.Folds.{list_any_none}
use Rattle.std.proofs.lemmas.List.Elements.{All-cons, All-nil}
use Rattle.pl_conflict.specs.declared.conflict.Conflict.{Conflict}
use Rattle.pl_conflict.specs.Order.{has}
use Rattle.pl_plan.specs.declared.activity.Activity.{Activity}
use Rattle.pl_plan.specs.declared.repair.RepairMove.TheVariants.{Delete}
use Rattle.pl_plan.specs.Index.{is_number}
use Rattle.pl_plan.specs.Moves.{without_subtree}
use Rattle.pl_plan.specs.Serving.{serves, is_served, serving}
use Rattle.pl_plan.specs.Trees.{id_of, itself, descends}
use Rattle.pl_plan.proofs.Kept.{all_kept}
use Rattle.pl_plan.proofs.TreeLaws.{descends_complete}
use Rattle.pl_semantics.specs.declared.plan_state.PlanState.{PlanState}
use Rattle.pl_semantics.specs.PlanStates.{floor_of}
use Rattle.pl_semantics.specs.Goals.{open_at, open_goal}
use Rattle.pl_semantics.specs.Conflicts.{conflicts_of}
use Rattle.pl_semantics.specs.Moves.{applied}
use Rattle.pl_semantics.specs.Whole.{IsWhole}
use Rattle.pl_update.proofs.AboutGoalsAndActivities.ByIds.{found_any}
use Rattle.pl_bounds.specs.Standing.{IsOpenWithout}
use Rattle.pl_conflict.proofs.Sorting.{same_itself}
use Rattle.pl_bounds.proofs.Opens.{open_is_left, open_not_served, open_stands}

-- ---- a goal that one root alone serves

id_first : (n id : ℕ) (x : Activity) (ids : List ℕ) → x.id ∷ ids ≡ id ∷ [] → (x.id ≡ id) × (ids ≡ [])
id_first n id x ids e = (let first : x.id ≡ id = cc in first, let rest : ids ≡ [] = cc in rest)

none_serves : (n id : ℕ) (xs : List Activity) → map id_of (filter (serves n) xs) ≡ [] → All (λ x. serves n x ≡ true → x.id ≡ id) xs
none_serves n id [] e = All-nil (λ x. serves n x ≡ true → x.id ≡ id)
none_serves n id (x ∷ xs) e = by (serves n x) refl (none_serves n id xs)
  where
    by : (b : Bool) → serves n x ≡ b → (map id_of (filter (serves n) xs) ≡ [] → All (λ x. serves n x ≡ true → x.id ≡ id) xs) → All (λ x. serves n x ≡ true → x.id ≡ id) (x ∷ xs)
    by true f more = absurd (let bad : x.id ∷ map id_of (filter (serves n) xs) ≡ [] = rw f at e in cc)
    by false f more = All-cons (λ x. serves n x ≡ true → x.id ≡ id) x xs (λ h. absurd (let bad : false ≡ true = sym f ∙ h in cc)) (more (rw f at e))

one_serves : (n id : ℕ) (xs : List Activity) → map id_of (filter (serves n) xs) ≡ id ∷ [] → All (λ x. serves n x ≡ true → x.id ≡ id) xs
one_serves n id [] e = All-nil (λ x. serves n x ≡ true → x.id ≡ id)
one_serves n id (x ∷ xs) e = by (serves n x) refl (one_serves n id xs)
  where
    by : (b : Bool) → serves n x ≡ b → (map id_of (filter (serves n) xs) ≡ id ∷ [] → All (λ x. serves n x ≡ true → x.id ≡ id) xs) → All (λ x. serves n x ≡ true → x.id ≡ id) (x ∷ xs)
    by true f more =
        let here : x.id ∷ map id_of (filter (serves n) xs) ≡ id ∷ [] = rw f at e in
        let both = id_first n id x (map id_of (filter (serves n) xs)) here in
        All-cons (λ x. serves n x ≡ true → x.id ≡ id) x xs (λ h. both.0) (none_serves n id xs both.1)
    by false f more = All-cons (λ x. serves n x ≡ true → x.id ≡ id) x xs (λ h. absurd (let bad : false ≡ true = sym f ∙ h in cc)) (more (rw f at e))

-- without it none serves it
not_served : (s : PlanState) → IsWhole s → (n id : ℕ) → serving n s.plan.activities ≡ id ∷ [] → is_served n (without_subtree id s.plan.activities) ≡ false
not_served s whole n id alone =
    list_any_none (serves n) (without_subtree id s.plan.activities)
    (all_kept (λ (x : Activity). not (descends s.plan.activities id x.id)) (λ (x : Activity). serves n x ≡ false) s.plan.activities
    (λ i d lt stays. false_from_ne_true (serves n (get_or s.plan.activities i d)) (λ h. absurd (
    let is = one_serves n id s.plan.activities alone i d lt h in
    let under : descends s.plan.activities id id ≡ true = descends_complete s.plan.activities whole.fits.rooted id id itself in
    let bad : false ≡ true = sym (ap (λ b. not b) (ap (λ k. descends s.plan.activities id k) is ∙ under)) ∙ stays in
    cc))))

module _ (s : PlanState) (whole : IsWhole s) (id : ℕ) (of : IsOpenWithout s id) (whole_then : IsWhole (applied s (Delete id))) where
  abbrev pub again : Conflict
  again = open_goal of.g

  served : is_served of.g.number s.plan.activities ≡ true
  served = found_any (serves of.g.number) s.plan.activities id of.served.a of.served.here (ap (is_number of.g.number) of.served.serves ∙ eq-eqb of.g.number of.g.number refl)

  -- it does not stand before
  pub is_new : has again (conflicts_of s) ≡ false
  is_new = false_from_ne_true (has again (conflicts_of s)) (λ h. absurd (let free = open_not_served s again (open_stands s whole again refl h) in let bad : true ≡ false = sym served ∙ free in cc))

  -- and stands then
  pub stands_again : has again (conflicts_of (applied s (Delete id))) ≡ true
  unfolding applied open_at
  stands_again =
      let free : is_served of.g.number (without_subtree id s.plan.activities) ≡ false = not_served s whole of.g.number id of.alone in
      let ahead = le-leb (floor_of s) of.g.latest of.ahead in
      open_is_left (applied s (Delete id)) whole_then again (rw (of.served.goal, of.stays, free, ahead) (ap (λ b. b || false) (same_itself again)))
