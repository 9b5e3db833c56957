-- What was placed goes on to other starts, and a board from a move to one that goes on with it.
use Rattle.std.proofs.Common.{◌≡◌, ℕ, ◌+◌, ◌≤◌, Bool, true, false, cond, List, [], ◌∷◌, map, length, get_or, refl, sym, ap, ◌∙◌, subst, arith}
use Rattle.std.specs.Prelude.{max, All, Option, Some, None, is_some}
use Rattle.std.specs.Option.{option_or}
use Rattle.std.proofs.lemmas.List.Elements.{All-map}
use Rattle.pl_plan.specs.declared.activity.Activity.{Activity}
use Rattle.pl_plan.specs.declared.repair.RepairMove.{RepairMove}
use Rattle.pl_plan.specs.Activities.{IsLive, activity_of}
use Rattle.pl_plan.specs.Trees.{id_of}
use Rattle.pl_plan.specs.Fitting.{Fits}
use Rattle.pl_plan.specs.Values.{values_of}
use Rattle.pl_plan.proofs.Ids.{rises_between}
use Rattle.pl_plan.proofs.Kept.{each_found}
use Rattle.pl_plan.proofs.LocalValues.{values_local}
use Rattle.pl_semantics.specs.declared.plan_state.PlanState.{PlanState}
use Rattle.pl_semantics.specs.PlanStates.{among}
use Rattle.pl_semantics.specs.Whole.{IsWhole}
use Rattle.pl_semantics.specs.Moves.{moved, applied}
use Rattle.pl_update.specs.Changes.Replaced.{CanReplace, replaced, touched, with_plan, next_after}
use Rattle.pl_update.proofs.AboutChanges.Putting.{next_above}
use Rattle.pl_update.proofs.AboutEvaluations.Keeping.{among_neither}
use Rattle.pl_update.proofs.AboutGoalsAndActivities.Touching.{not_left, not_right}
use Rattle.pl_moves.specs.Changes.{gone_by, placed_by}
use Rattle.pl_moves.specs.Runs.{start_of, goes_on, CanBeMade}
use Rattle.pl_moves.specs.Undone.{IsUndoneBy, picked}
use Rattle.pl_moves.proofs.Kin.{IsKin, all_come_again, kin_on, placed_on}
use Rattle.pl_moves.proofs.Made.{IsMadeBy, made}
use Rattle.pl_moves.proofs.Returning.{undone_by}
use Rattle.pl_moves.proofs.Subtrees.{among_ids}
use Rattle.pl_moves.proofs.Swaps.{IsSwap, MayCome, next_same, same_replaced, swap_is, swapped_at}

-- ---- the next id

next_by_ids : (n : ℕ) (ps qs : List Activity) → map id_of ps ≡ map id_of qs → next_after n ps ≡ next_after n qs
next_by_ids n [] [] e = refl
next_by_ids n [] (b ∷ qs) e = absurd (cc)
next_by_ids n (a ∷ ps) [] e = absurd (cc)
next_by_ids n (a ∷ ps) (b ∷ qs) e =
    let head : a.id ≡ b.id = cc in
    let tail : map id_of ps ≡ map id_of qs = cc in
    ap (λ k. next_after (max n (k + 1)) ps) head ∙ next_by_ids (max n (b.id + 1)) ps qs tail

next_again : (n : ℕ) (ps qs : List Activity) → map id_of ps ≡ map id_of qs → next_after (next_after n ps) qs ≡ next_after n qs
next_again n ps qs e =
    sym (next_by_ids (next_after n ps) ps qs e)
    ∙ (next_same (next_after n ps) ps (next_above n ps)
    ∙ next_by_ids n ps qs e)

-- ---- others of the same ids

module _ (s : PlanState) (whole : IsWhole s) (next : s.next_id ≤ 3999999000) (gone : List ℕ) (ps qs ys zs : List Activity) (one : IsSwap s gone ps ys) (two : IsSwap s gone qs zs) (ids : map id_of ps ≡ map id_of qs) (again : (q : ℕ) → among q gone ≡ true → among q (map id_of ps) ≡ true) where
  abbrev xs : List Activity
  xs = s.plan.activities

  abbrev leaving : List ℕ
  leaving = map id_of ps

  abbrev changed : PlanState
  changed = with_plan gone ps s

  is : replaced xs gone ps ≡ ys
  is = swap_is s gone ps ys whole one

  some_same : (q : ℕ) → is_some (activity_of q ps) ≡ is_some (activity_of q qs)
  some_same q = sym (among_ids ps q) ∙ (ap (λ (l : List ℕ). among q l) ids ∙ among_ids qs q)

  may_again : All (MayCome ys leaving) qs
  may_again i d lt live =
      let here : activity_of (get_or qs i d).id qs ≡ Some (get_or qs i d) = each_found qs two.rises i d lt in
      among_ids ps (get_or qs i d).id ∙ (some_same (get_or qs i d).id ∙ ap (λ (o : Option Activity). is_some o) here)

  found_again : (q : ℕ) → activity_of q zs ≡ swapped_at ys leaving qs q
  found_again q = two.found q ∙ rw (among_ids ps q, one.found q) (by (activity_of q ps) (activity_of q qs) (cond (among q gone) None (activity_of q xs)) (some_same q))
    where
      by : (o p rest : Option Activity) → is_some o ≡ is_some p → option_or p rest ≡ option_or p (cond (is_some o) None (option_or o rest))
      by None None rest e = refl
      by None (Some b) rest e = absurd (cc)
      by (Some a) None rest e = absurd (cc)
      by (Some a) (Some b) rest e = refl

  home : replaced (replaced xs gone ps) leaving qs ≡ zs
  home = ap (λ (l : List Activity). replaced l leaving qs) is ∙ same_replaced ys leaving qs zs one.rising two.rises may_again two.rising found_again

  apart_before : (id : ℕ) → among id (touched leaving qs) ≡ false → among id (touched gone ps) ≡ false
  apart_before id apart = among_neither id gone leaving (by (among id gone) refl) (not_left id leaving (map id_of qs) apart)
    where
      by : (b : Bool) → among id gone ≡ b → among id gone ≡ false
      by false e = e
      by true e = absurd (let bad : true ≡ false = sym (again id e) ∙ not_left id leaving (map id_of qs) apart in cc)

  apart_then : (id : ℕ) → among id (touched leaving qs) ≡ false → among id (touched gone qs) ≡ false
  apart_then id apart = among_neither id gone (map id_of qs) (not_left id gone leaving (apart_before id apart)) (not_right id leaving (map id_of qs) apart)

  live_leaving : All (λ id. IsLive id (replaced xs gone ps)) leaving
  live_leaving = All-map (λ id. IsLive id (replaced xs gone ps)) id_of ps (λ i d lt. subst (λ (l : List Activity). IsLive (get_or ps i d).id l) (sym is) (let here : activity_of (get_or ps i d).id ys ≡ Some (get_or ps i d) = one.found (get_or ps i d).id ∙ rw (each_found ps one.rises i d lt) refl in rw here refl))

  pub can_go_on : CanReplace changed leaving qs
  can_go_on = record {
    live = live_leaving;
    once = λ i j d lt within e. let less = rises_between qs 0 i j d two.rises lt within in omega (arith, less, e);
    free = λ i d lt live. may_again i d lt (subst (λ (l : List Activity). IsLive (get_or qs i d).id l) is live);
    ids = λ i d lt. let of = two.ids i d lt in (of.0, omega (arith, of.1, next));
    carried = two.carried;
    begun = two.begun;
    kept = λ id apart.
        ap (λ (l : List Activity). values_of s.model l id) home
        ∙ (sym (values_local s.model xs zs whole.fits.rooted two.fits.rooted id (two.above id (apart_then id apart)))
        ∙ (values_local s.model xs ys whole.fits.rooted one.fits.rooted id (one.above id (apart_before id apart))
        ∙ ap (λ (l : List Activity). values_of s.model l id) (sym is)));
    fits = subst (λ (l : List Activity). Fits s.model l) (sym home) two.fits;
    few = subst (λ (l : List Activity). length l ≤ s.live_limit) (sym home) two.few;
  }

  pub went_on : with_plan leaving qs changed ≡ with_plan gone qs s
  went_on =
      ap (λ (l : List Activity). record s { plan = record { activities = l }; next_id = next_after (next_after s.next_id ps) qs }) (home ∙ sym (swap_is s gone qs zs whole two))
      ∙ ap (λ (k : ℕ). record s { plan = record { activities = replaced xs gone qs }; next_id = k }) (next_again s.next_id ps qs ids)

-- ---- moves

module _ (s : PlanState) (whole : IsWhole s) (next : s.next_id ≤ 3999999000) (first : RepairMove) (can : CanBeMade s first) where
  abbrev pub leaving_all : List ℕ
  leaving_all = map id_of (placed_by s first)

  abbrev pub placed_at : RepairMove → List Activity
  placed_at m = map (moved (start_of first) (start_of m)) (placed_by s first)

  module _ (now : RepairMove) (kin : IsKin s whole first now) (can_now : CanBeMade s now) where
    by : IsMadeBy s now
    by = made s whole now kin.of can_now.proper can_now.allowed

    module _ (then_ : RepairMove) (on : goes_on first then_ ≡ true) (can_then : CanBeMade s then_) where
      kin_then : IsKin s whole first then_
      kin_then = kin_on s whole first then_ on can can_then

      by_then : IsMadeBy s then_
      by_then = made s whole then_ kin_then.of can_then.proper can_then.allowed

      swap_then : IsSwap s (gone_by s now) (placed_by s then_) (applied s then_).plan.activities
      swap_then = subst (λ (l : List ℕ). IsSwap s l (placed_by s then_) (applied s then_).plan.activities) (kin_then.gone ∙ sym kin.gone) by_then.swap

      same_ids : map id_of (placed_by s now) ≡ map id_of (placed_by s then_)
      same_ids = kin.ids ∙ sym kin_then.ids

      come_again : (q : ℕ) → among q (gone_by s now) ≡ true → among q (map id_of (placed_by s now)) ≡ true
      come_again q goes =
          let there : among q (gone_by s first) ≡ true = subst (λ (l : List ℕ). among q l ≡ true) kin.gone goes in
          subst (λ (l : List ℕ). among q l ≡ true) (sym kin.ids) (all_come_again s whole first then_ on can q there)

      pub can_go : CanReplace (applied s now) leaving_all (placed_at then_)
      can_go =
          let here : CanReplace (with_plan (gone_by s now) (placed_by s now) s) (map id_of (placed_by s now)) (placed_by s then_) = can_go_on s whole next (gone_by s now) (placed_by s now) (placed_by s then_) (applied s now).plan.activities (applied s then_).plan.activities by.swap swap_then same_ids come_again in
          subst (λ (l : List Activity). CanReplace (applied s now) leaving_all l) (placed_on s whole first then_ on can can_then)
          (subst (λ (l : List ℕ). CanReplace (applied s now) l (placed_by s then_)) kin.ids
          (subst (λ (t : PlanState). CanReplace t (map id_of (placed_by s now)) (placed_by s then_)) by.is here))

      pub goes : with_plan leaving_all (placed_at then_) (applied s now) ≡ applied s then_
      goes =
          let here : with_plan (map id_of (placed_by s now)) (placed_by s then_) (with_plan (gone_by s now) (placed_by s now) s) ≡ with_plan (gone_by s now) (placed_by s then_) s = went_on s whole next (gone_by s now) (placed_by s now) (placed_by s then_) (applied s now).plan.activities (applied s then_).plan.activities by.swap swap_then same_ids come_again in
          let made_then : with_plan (gone_by s now) (placed_by s then_) s ≡ applied s then_ = ap (λ (l : List ℕ). with_plan l (placed_by s then_) s) (kin.gone ∙ sym kin_then.gone) ∙ by_then.is in
          ap (λ (l : List Activity). with_plan leaving_all l (applied s now)) (sym (placed_on s whole first then_ on can can_then))
          ∙ (ap (λ (l : List ℕ). with_plan l (placed_by s then_) (applied s now)) (sym kin.ids)
          ∙ (ap (λ (t : PlanState). with_plan (map id_of (placed_by s now)) (placed_by s then_) t) (sym by.is)
          ∙ (here ∙ made_then)))

    -- and back
    pub comes_back : IsUndoneBy s now (gone_by s now) (placed_by s now) leaving_all (picked s.plan.activities (gone_by s first))
    comes_back =
        subst (λ (l : List ℕ). IsUndoneBy s now (gone_by s now) (placed_by s now) l (picked s.plan.activities (gone_by s first))) kin.ids
        (subst (λ (l : List ℕ). IsUndoneBy s now (gone_by s now) (placed_by s now) (map id_of (placed_by s now)) (picked s.plan.activities l)) kin.gone
        (undone_by s whole next now kin.of can_now.proper can_now.allowed))
