-- When a change of a subtree is a replacement.
use Rattle.std.proofs.Common.{◌≡◌, ℕ, suc, ◌<◌, ◌≤◌, eqb, Bool, true, false, cond, List, [], ◌∷◌, map, filter, length, get_or, refl, sym, ap, ◌∙◌, subst, arith}
use Rattle.std.specs.Prelude.{◌&&◌, All, Option, Some, None, is_some}
use Rattle.std.specs.Option.{option_or}
use Rattle.std.proofs.lemmas.Bool.{eqb-true}
use Rattle.std.proofs.lemmas.List.Elements.{All-map}
use Rattle.std.proofs.Math.Bool.{and-false}
use Rattle.pl_lists.proofs.Tests.{and_first, and_second}
use Rattle.pl_plan.specs.declared.activity.Activity.{Activity}
use Rattle.pl_plan.specs.Activities.{RiseFrom, AreRising, IsLive, activity_of}
use Rattle.pl_plan.specs.Trees.{id_of, Descends, descends, subtree_of}
use Rattle.pl_plan.specs.Fitting.{Fits}
use Rattle.pl_plan.specs.Moves.{KeepsTree}
use Rattle.pl_plan.proofs.Climbs.{all_at}
use Rattle.pl_plan.proofs.Kept.{all_kept, each_found}
use Rattle.pl_plan.proofs.TreeLaws.{descends_join, descends_sound, descends_complete}
use Rattle.pl_plan.proofs.Subtrees.{descends_live}
use Rattle.pl_semantics.specs.declared.plan_state.PlanState.{PlanState}
use Rattle.pl_semantics.specs.PlanStates.{among}
use Rattle.pl_semantics.specs.Whole.{IsWhole, IsCarried, IsIdBelow, HasBegun}
use Rattle.pl_update.proofs.AboutGoalsAndActivities.Touching.{not_left}
use Rattle.pl_moves.proofs.Swaps.{IsSwap, swapped_at}

-- ---- ids in lists

among_filter : (p : ℕ → Bool) (ids : List ℕ) (q : ℕ) → among q (filter p ids) ≡ (p q && among q ids)
among_filter p [] q = sym (and-false (p q))
among_filter p (i ∷ ids) q = cases (p i) refl (eqb i q) refl (among_filter p ids q)
  where
    cases : (b : Bool) → p i ≡ b → (e : Bool) → eqb i q ≡ e → among q (filter p ids) ≡ (p q && among q ids) → among q (filter p (i ∷ ids)) ≡ (p q && among q (i ∷ ids))
    cases true f true g more = let passes : p q ≡ true = ap p (sym (eqb-true i q g)) ∙ f in rw (f, g, passes) refl
    cases true f false g more = rw (f, g) more
    cases false f true g more = let fails : p q ≡ false = ap p (sym (eqb-true i q g)) ∙ f in rw f (more ∙ rw fails refl)
    cases false f false g more = rw (f, g) more

pub among_ids : (xs : List Activity) (q : ℕ) → among q (map id_of xs) ≡ is_some (activity_of q xs)
among_ids [] q = refl
among_ids (x ∷ xs) q = cases (eqb x.id q) refl (among_ids xs q)
  where
    cases : (e : Bool) → eqb x.id q ≡ e → among q (map id_of xs) ≡ is_some (activity_of q xs) → among q (map id_of (x ∷ xs)) ≡ is_some (activity_of q (x ∷ xs))
    cases true g more = rw g refl
    cases false g more = rw g more

pub among_subtree : (xs : List Activity) (top q : ℕ) → among q (subtree_of top xs) ≡ (descends xs top q && is_some (activity_of q xs))
unfolding subtree_of
among_subtree xs top q = among_filter (descends xs top) (map id_of xs) q ∙ ap (λ b. descends xs top q && b) (among_ids xs q)

pub rising_map : (c : Activity → Activity) → KeepsTree c → (from : ℕ) (xs : List Activity) → RiseFrom from xs → RiseFrom from (map c xs)
rising_map c keeps from [] rising = rising
rising_map c keeps from (x ∷ xs) rising = rw (keeps.id x) (rising.0, rising_map c keeps (suc x.id) xs rising.1)

-- ---- a subtree

module _ (s : PlanState) (whole : IsWhole s) (top : ℕ) where
  abbrev pub xs : List Activity
  xs = s.plan.activities

  abbrev pub gone : List ℕ
  gone = subtree_of top s.plan.activities

  pub live_id : (id : ℕ) → IsLive id xs → (1 ≤ id) × (id < s.next_id)
  live_id id live = by (activity_of id xs) refl
    where
      by : (o : Option Activity) → activity_of id xs ≡ o → (1 ≤ id) × (id < s.next_id)
      by None e = absurd (let bad : false ≡ true = rw e at live in cc)
      by (Some a) e =
          let all = all_at (IsIdBelow s.next_id) xs id a whole.ids e in
          subst (λ n. (1 ≤ n) × (n < s.next_id)) all.1 all.0

  -- those that go are live and descend
  goes : (q : ℕ) → among q gone ≡ true → (descends xs top q ≡ true) × IsLive q xs
  goes q is =
      let both : (descends xs top q && is_some (activity_of q xs)) ≡ true = sym (among_subtree xs top q) ∙ is in
      (and_first (descends xs top q) (is_some (activity_of q xs)) both, and_second (descends xs top q) (is_some (activity_of q xs)) both)

  pub goes_if : (q : ℕ) → descends xs top q ≡ true → IsLive q xs → among q gone ≡ true
  goes_if q under live = among_subtree xs top q ∙ rw (under, live) refl

  pub all_live : All (λ id. IsLive id xs) gone
  unfolding subtree_of
  all_live = all_kept (descends xs top) (λ id. IsLive id xs) (map id_of xs) (All-map (λ id. descends xs top id ≡ true → IsLive id xs) id_of xs (λ i d lt under. rw (each_found xs whole.rising i d lt) refl))

  -- what an activity that stays descends from stays
  stays_above : (id q : ℕ) → among id gone ≡ false → Descends xs q id → among q gone ≡ false
  stays_above id q apart above = by (among q gone) refl
    where
      by : (b : Bool) → among q gone ≡ b → among q gone ≡ false
      by false e = e
      by true e =
          let inside = goes q e in
          let under : descends xs top id ≡ true = descends_complete xs whole.fits.rooted top id (descends_join xs top q id (descends_sound xs whole.fits.rooted top q inside.0) above) in
          let live : IsLive id xs = descends_live xs whole.fits.rooted whole.rising q id inside.1 above in
          absurd (let bad : true ≡ false = sym (goes_if id under live) ∙ apart in cc)

  module _ (more ys : List Activity) (inside : All (λ a. among a.id gone ≡ true) more) (found : (q : ℕ) → activity_of q ys ≡ swapped_at xs gone more q) where
    same_outside : (q : ℕ) → among q gone ≡ false → activity_of q xs ≡ activity_of q ys
    same_outside q apart = sym (found q ∙ by (activity_of q more) refl)
      where
        by : (o : Option Activity) → activity_of q more ≡ o → option_or o (cond (among q gone) None (activity_of q xs)) ≡ activity_of q xs
        by None e = rw apart refl
        by (Some a) e =
            let all = all_at (λ b. among b.id gone ≡ true) more q a inside e in
            absurd (let bad : true ≡ false = sym (subst (λ n. among n gone ≡ true) all.1 all.0) ∙ apart in cc)

    pub subtree_swap : AreRising more → All (IsCarried s.goals) more → All (HasBegun s.moment s.committed) more → AreRising ys → Fits s.model ys → length ys ≤ s.live_limit → IsSwap s gone more ys
    subtree_swap rises carried begun rising fits few = record {
      live = all_live;
      rises = rises;
      may = λ i d lt live. inside i d lt;
      ids = λ i d lt. let id = live_id (get_or more i d).id (goes (get_or more i d).id (inside i d lt)).1 in (id.0, omega (arith, id.1));
      carried = carried;
      begun = begun;
      rising = rising;
      found = found;
      above = λ id apart q above. same_outside q (stays_above id q (not_left id gone (map id_of more) apart) above);
      fits = fits;
      few = few;
    }
