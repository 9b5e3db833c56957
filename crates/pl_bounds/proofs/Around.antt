-- A shift concerns no other activities than those of the subtree that it moves, and no goal that is not served.
use Rattle.std.proofs.Common.{◌≡◌, ℕ, Bool, true, false, List, [], ◌∷◌, ◌++◌, map, filter, Option, Some, None, refl, sym, ap, ◌∙◌, subst}
use Rattle.std.specs.Prelude.{◌||◌}
use Rattle.std.specs.List.{flat_map, filter_map}
use Rattle.pl_update.specs.GoalsAndActivities.Touched.{children_at, touched_ids}
use Rattle.pl_update.proofs.AboutLinks.Nearby.{among-append}
use Rattle.pl_moves.specs.Changes.{placed_by}
use Rattle.pl_moves.specs.Runs.{CanBeMade}
use Rattle.pl_moves.proofs.Made.{named_live}
use Rattle.pl_plan.specs.declared.activity.Activity.{Activity}
use Rattle.pl_plan.specs.declared.repair.RepairMove.TheVariants.{Shift}
use Rattle.pl_plan.specs.Activities.{IsLive}
use Rattle.pl_plan.specs.Fitting.{FitsAlone}
use Rattle.pl_plan.specs.Serving.{is_served, served_in}
use Rattle.pl_plan.specs.Trees.{descends, id_of, subtree_of}
use Rattle.pl_plan.proofs.Climbs.{all_at}
use Rattle.pl_semantics.specs.declared.plan_state.PlanState.{PlanState}
use Rattle.pl_semantics.specs.PlanStates.{among, found}
use Rattle.pl_semantics.specs.Moves.{is_under, moved}
use Rattle.pl_semantics.specs.Whole.{IsWhole}
use Rattle.pl_bounds.proofs.Opens.{moved_served}

or_same : (b : Bool) → (b || b) ≡ (b || false)
or_same true = refl
or_same false = refl

-- ---- those that pass a test of their ids

ids_along : (from to : ℕ) (p : ℕ → Bool) (xs : List Activity) → map id_of (map (moved from to) (filter (λ x. p x.id) xs)) ≡ filter p (map id_of xs)
ids_along from to p [] = refl
ids_along from to p (x ∷ xs) = by (p x.id) refl (ids_along from to p xs)
  where
    by : (b : Bool) → p x.id ≡ b → map id_of (map (moved from to) (filter (λ y. p y.id) xs)) ≡ filter p (map id_of xs) → map id_of (map (moved from to) (filter (λ y. p y.id) (x ∷ xs))) ≡ filter p (map id_of (x ∷ xs))
    by true e more = rw e (ap (λ (l : List ℕ). x.id ∷ l) more)
    by false e more = rw e more

-- ---- a shift

module _ (s : PlanState) (whole : IsWhole s) (id to : ℕ) where
  abbrev xs : List Activity
  xs = s.plan.activities

  abbrev sub : List ℕ
  sub = filter (descends xs id) (map id_of xs)

  abbrev along : ℕ → List Activity
  along from = map (moved from to) (filter (λ x. descends xs id x.id) xs)

  ids_same : (from n : ℕ) → among n (touched_ids s sub (along from)) ≡ among n (touched_ids s sub [])
  unfolding touched_ids
  ids_same from n =
      let moved_on : map id_of (along from) ≡ sub = ids_along from to (descends xs id) xs in
      let twice : among n (sub ++ map id_of (along from)) ≡ among n (sub ++ []) =
      among-append n sub (map id_of (along from)) ∙ ap (λ (l : List ℕ). among n sub || among n l) moved_on ∙ or_same (among n sub) ∙ sym (among-append n sub []) in
      among-append n (sub ++ map id_of (along from)) (flat_map (children_at s) sub)
      ∙ ap (λ b. b || among n (flat_map (children_at s) sub)) twice
      ∙ sym (among-append n (sub ++ []) (flat_map (children_at s) sub))

  placed_is : (top : Activity) → found s id ≡ Some top → placed_by s (Shift id to) ≡ along top.start
  placed_is top here =
      let is_id : top.id ≡ id = (all_at (FitsAlone s.model) xs id top whole.fits.each here).1 in
      rw here (subst (λ k. map (moved top.start to) (filter (is_under s k) xs) ≡ along top.start) (sym is_id) refl)

  -- what holds of the subtree, moved along from anywhere, holds of what the shift places
  of_placed : (P : List Activity → Type 0) → CanBeMade s (Shift id to) → ((from : ℕ) → P (along from)) → P (placed_by s (Shift id to))
  of_placed P can each = by (found s id) refl
    where
      live : IsLive id xs
      live = named_live s (Shift id to) can.proper

      by : (o : Option Activity) → found s id ≡ o → P (placed_by s (Shift id to))
      by None e = absurd (let bad : false ≡ true = rw e at live in cc)
      by (Some top) e = subst P (sym (placed_is top e)) (each top.start)

  pub touch_same : CanBeMade s (Shift id to) → (n : ℕ) → among n (touched_ids s (subtree_of id s.plan.activities) (placed_by s (Shift id to))) ≡ among n (touched_ids s (subtree_of id s.plan.activities) [])
  unfolding subtree_of
  touch_same can n = of_placed (λ (l : List Activity). among n (touched_ids s sub l) ≡ among n (touched_ids s sub [])) can (λ from. ids_same from n)

  pub serve_before : CanBeMade s (Shift id to) → (n : ℕ) → among n (filter_map served_in (placed_by s (Shift id to))) ≡ true → is_served n s.plan.activities ≡ true
  serve_before can n = of_placed (λ (l : List Activity). among n (filter_map served_in l) ≡ true → is_served n xs ≡ true) can (λ from. moved_served n from to (λ x. descends xs id x.id) xs)
