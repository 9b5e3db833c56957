-- A root that goes with all below it, and an activity below which all go, are replacements.
use Rattle.std.proofs.Common.{◌≡◌, ℕ, ◌≤◌, eqb, Bool, true, false, cond, List, [], ◌∷◌, map, filter, length, refl, sym, ap, ◌∙◌, subst, arith}
use Rattle.std.specs.Prelude.{◌||◌, ◌&&◌, not, Option, Some, None, is_some}
use Rattle.std.specs.Option.{option_or, option_map}
use Rattle.std.proofs.lemmas.Bool.{eqb-true, eqb-false, eq-eqb, ne_eqb}
use Rattle.std.proofs.lemmas.List.{length-map}
use Rattle.std.proofs.lemmas.List.Elements.{All-nil, All-cons}
use Rattle.pl_plan.specs.declared.activity.Activity.{Activity}
use Rattle.pl_plan.specs.Activities.{activity_of}
use Rattle.pl_plan.specs.Trees.{itself, descends, subtree_of, parent_of}
use Rattle.pl_plan.specs.Fitting.{FitsAlone}
use Rattle.pl_plan.specs.Moves.{without_subtree, without_below, abstracted}
use Rattle.pl_plan.proofs.Climbs.{all_at}
use Rattle.pl_plan.proofs.Kept.{found-kept, found-changed}
use Rattle.pl_plan.proofs.TreeLaws.{descends_complete}
use Rattle.pl_plan.proofs.ByLookUps.{filter_rising}
use Rattle.pl_plan.proofs.MoveLaws.{fits_deleted, fits_abstracted, abstracted_keeps}
use Rattle.pl_semantics.specs.declared.plan_state.PlanState.{PlanState}
use Rattle.pl_semantics.specs.PlanStates.{among}
use Rattle.pl_semantics.specs.Whole.{IsWhole, IsCarried, HasBegun}
use Rattle.pl_moves.specs.Changes.{undetailed}
use Rattle.pl_moves.proofs.Swaps.{IsSwap, swapped_at}
use Rattle.pl_moves.proofs.Subtrees.{among_subtree, rising_map, goes_if, subtree_swap}

pub fewer : (p : Activity → Bool) (xs : List Activity) → length (filter p xs) ≤ length xs
fewer p [] = omega arith
fewer p (x ∷ xs) = cases (p x) refl (fewer p xs)
  where
    cases : (b : Bool) → p x ≡ b → length (filter p xs) ≤ length xs → length (filter p (x ∷ xs)) ≤ length (x ∷ xs)
    cases true e more = rw e (omega (arith, more))
    cases false e more = rw e (omega (arith, more))

module _ (s : PlanState) (whole : IsWhole s) (top : ℕ) where
  abbrev xs : List Activity
  xs = s.plan.activities

  -- ---- a root goes

  found_deleted : (q : ℕ) → activity_of q (without_subtree top xs) ≡ swapped_at xs (subtree_of top xs) [] q
  found_deleted q = found-kept (λ id. not (descends xs top id)) xs q ∙ rw (among_subtree xs top q) (by (descends xs top q) (activity_of q xs))
    where
      by : (d : Bool) (o : Option Activity) → cond (not d) o None ≡ option_or None (cond (d && is_some o) None o)
      by true None = refl
      by true (Some a) = refl
      by false o = refl

  pub delete_swap : parent_of top xs ≡ None → IsSwap s (subtree_of top xs) [] (without_subtree top xs)
  delete_swap root =
      subtree_swap s whole top [] (without_subtree top xs) (All-nil (λ (a : Activity). among a.id (subtree_of top xs) ≡ true)) found_deleted
      tt (All-nil (IsCarried s.goals)) (All-nil (HasBegun s.moment s.committed))
      (filter_rising (λ a. not (descends xs top a.id)) 0 xs whole.rising)
      (fits_deleted s.model xs whole.rising whole.fits top root)
      (let le = fewer (λ a. not (descends xs top a.id)) xs in omega (arith, le, whole.live))

  -- ---- all below an activity goes

  module _ (a : Activity) (here : activity_of top xs ≡ Some a) where
    is_top : a.id ≡ top
    is_top = (all_at (FitsAlone s.model) xs top a whole.fits.each here).1

    abbrev stays : ℕ → Bool
    stays id = eqb id top || not (descends xs top id)

    found_abstracted : (q : ℕ) → activity_of q (map (abstracted top) (without_below top xs)) ≡ swapped_at xs (subtree_of top xs) (undetailed a) q
    found_abstracted q = found-changed (abstracted top) (abstracted_keeps top) (without_below top xs) q ∙ (ap (λ o. option_map (abstracted top) o) (found-kept stays xs q) ∙ rw (among_subtree xs top q) (by_id (eqb q top) refl))
      where
        by_other : (d : Bool) (o : Option Activity) → ((b : Activity) → o ≡ Some b → eqb b.id top ≡ false) → option_map (abstracted top) (cond (not d) o None) ≡ cond (d && is_some o) None o
        by_other true None others = refl
        by_other true (Some b) others = refl
        by_other false None others = refl
        by_other false (Some b) others = rw (others b refl) refl

        by_id : (e : Bool) → eqb q top ≡ e → option_map (abstracted top) (cond (stays q) (activity_of q xs) None) ≡ option_or (cond (eqb a.id q) (Some (record a { detail = None })) None) (cond (descends xs top q && is_some (activity_of q xs)) None (activity_of q xs))
        by_id true e =
            let is : q ≡ top = eqb-true q top e in
            let found : activity_of q xs ≡ Some a = ap (λ n. activity_of n xs) is ∙ here in
            rw (e, found, eq-eqb a.id q (is_top ∙ sym is), eq-eqb a.id top is_top) refl
        by_id false e =
            let other : eqb a.id q ≡ false = ap (λ n. eqb n q) is_top ∙ swap top q e in
            rw (e, other) (by_other (descends xs top q) (activity_of q xs) (λ b f. ap (λ n. eqb n top) (all_at (FitsAlone s.model) xs q b whole.fits.each f).1 ∙ e))
          where
            swap : (m n : ℕ) → eqb n m ≡ false → eqb m n ≡ false
            swap m n f = ne_eqb m n (λ is. eqb-false n m f (sym is))

    pub abstract_swap : IsSwap s (subtree_of top xs) (undetailed a) (map (abstracted top) (without_below top xs))
    abstract_swap =
        subtree_swap s whole top (undetailed a) (map (abstracted top) (without_below top xs))
        (All-cons (λ (b : Activity). among b.id (subtree_of top xs) ≡ true) (record a { detail = None }) [] (goes_if s whole top a.id (subst (λ n. descends xs top n ≡ true) (sym is_top) (descends_complete xs whole.fits.rooted top top itself)) (rw (is_top, here) refl)) (All-nil (λ (b : Activity). among b.id (subtree_of top xs) ≡ true)))
        found_abstracted
        (omega arith, tt)
        (All-cons (IsCarried s.goals) (record a { detail = None }) [] (all_at (IsCarried s.goals) xs top a whole.carried here).0 (All-nil (IsCarried s.goals)))
        (All-cons (HasBegun s.moment s.committed) (record a { detail = None }) [] (all_at (HasBegun s.moment s.committed) xs top a whole.begun here).0 (All-nil (HasBegun s.moment s.committed)))
        (rising_map (abstracted top) (abstracted_keeps top) 0 (without_below top xs) (filter_rising (λ b. stays b.id) 0 xs whole.rising))
        (fits_abstracted s.model xs whole.rising whole.fits top)
        (let le = fewer (λ b. stays b.id) xs in let same = length-map (without_below top xs) (abstracted top) in omega (arith, le, same, whole.live))
