-- A replacement is undone by another one.
use Rattle.std.proofs.Common.{◌≡◌, ℕ, suc, ◌≤◌, eqb, Bool, true, false, cond, List, [], ◌∷◌, ◌++◌, map, length, get_or, refl, sym, ap, ◌∙◌, subst, arith}
use Rattle.std.specs.Prelude.{◌||◌, All, Option, Some, None, is_some}
use Rattle.std.specs.Option.{option_or}
use Rattle.std.proofs.lemmas.Bool.{eqb-true}
use Rattle.std.proofs.lemmas.List.Elements.{All-head, All-tail, All-map}
use Rattle.pl_plan.specs.declared.activity.Activity.{Activity}
use Rattle.pl_plan.specs.Activities.{RiseFrom, AreRising, IsLive, activity_of}
use Rattle.pl_plan.specs.Trees.{id_of, subtree_of, descends}
use Rattle.pl_plan.specs.Fitting.{Fits}
use Rattle.pl_plan.specs.Values.{values_of}
use Rattle.pl_plan.proofs.Climbs.{all_at}
use Rattle.pl_plan.proofs.Ids.{rises_between}
use Rattle.pl_plan.proofs.Kept.{each_found}
use Rattle.pl_plan.proofs.LocalValues.{values_local}
use Rattle.pl_plan.proofs.RisingIds.{RiseIds, filter_rises}
use Rattle.pl_plan.proofs.Members.{ids_rise}
use Rattle.pl_semantics.specs.declared.plan_state.PlanState.{PlanState}
use Rattle.pl_semantics.specs.PlanStates.{among, of_found}
use Rattle.pl_semantics.specs.Whole.{IsWhole, IsCarried, IsIdBelow, HasBegun}
use Rattle.pl_update.specs.Changes.Changes.{with_next}
use Rattle.pl_update.specs.Changes.Replaced.{CanReplace, replaced, touched, with_plan}
use Rattle.pl_semantics.specs.Moves.{is_proper, refusal_of, applied}
use Rattle.pl_semantics.proofs.Starting.{rise_lower}
use Rattle.pl_plan.specs.declared.repair.RepairMove.{RepairMove}
use Rattle.pl_plan.specs.declared.repair.RepairMove.TheVariants.{Add, Delete, Shift, Detail, Abstract, Assign, Drop}
use Rattle.pl_moves.specs.Changes.{IsOfActivities, gone_by, placed_by}
use Rattle.pl_update.proofs.AboutChanges.Putting.{next_grows}
use Rattle.pl_update.proofs.AboutEvaluations.Keeping.{among_neither}
use Rattle.pl_update.proofs.AboutGoalsAndActivities.Touching.{not_left, not_right}
use Rattle.pl_moves.specs.Undone.{IsUndoneBy, alone, picked}
use Rattle.pl_moves.proofs.Swaps.{IsSwap, MayCome, same_replaced, swap_is, swapped_at}
use Rattle.pl_moves.proofs.Made.{IsMadeBy, made, can_replace}
use Rattle.pl_moves.proofs.Subtrees.{among_ids}

-- ---- those of some ids

pub has_its_id : (xs : List Activity) (id : ℕ) (a : Activity) → activity_of id xs ≡ Some a → a.id ≡ id
has_its_id xs id a e = (all_at (λ b. Unit {0}) xs id a (λ i d lt. tt) e).1

pub picked_rise : (xs : List Activity) (c : ℕ) (ids : List ℕ) → RiseIds c ids → RiseFrom c (picked xs ids)
picked_rise xs c [] rise = tt
picked_rise xs c (id ∷ ids) rise = by (activity_of id xs) refl (picked_rise xs (suc id) ids rise.1)
  where
    by : (o : Option Activity) → activity_of id xs ≡ o → RiseFrom (suc id) (picked xs ids) → RiseFrom c (of_found alone o ++ picked xs ids)
    by None e more = rise_lower c (suc id) (picked xs ids) (let first : c ≤ id = rise.0 in omega (arith, first)) more
    by (Some a) e more =
        let is : a.id ≡ id = has_its_id xs id a e in
        (subst (λ n. c ≤ n) (sym is) rise.0, subst (λ n. RiseFrom (suc n) (picked xs ids)) (sym is) more)

pub found_picked : (xs : List Activity) (ids : List ℕ) (q : ℕ) → activity_of q (picked xs ids) ≡ cond (among q ids) (activity_of q xs) None
found_picked xs [] q = refl
found_picked xs (id ∷ ids) q = by (activity_of id xs) refl (eqb id q) refl (found_picked xs ids q)
  where
    same_none : (b : Bool) (o : Option Activity) → o ≡ None → cond b o None ≡ None
    same_none true o e = e
    same_none false o e = refl

    by : (o : Option Activity) → activity_of id xs ≡ o → (b : Bool) → eqb id q ≡ b → activity_of q (picked xs ids) ≡ cond (among q ids) (activity_of q xs) None → activity_of q (of_found alone o ++ picked xs ids) ≡ cond (b || among q ids) (activity_of q xs) None
    by None e true f more =
        let none : activity_of q xs ≡ None = ap (λ n. activity_of n xs) (sym (eqb-true id q f)) ∙ e in
        more ∙ same_none (among q ids) (activity_of q xs) none ∙ sym none
    by None e false f more = more
    by (Some a) e true f more =
        let is : a.id ≡ id = has_its_id xs id a e in
        let here : activity_of q xs ≡ Some a = ap (λ n. activity_of n xs) (sym (eqb-true id q f)) ∙ e in
        let test : eqb a.id q ≡ true = ap (λ n. eqb n q) is ∙ f in
        rw test (sym here)
    by (Some a) e false f more =
        let is : a.id ≡ id = has_its_id xs id a e in
        let test : eqb a.id q ≡ false = ap (λ n. eqb n q) is ∙ f in
        rw test more

-- each is one of them, and stands
pub picked_stand : (xs : List Activity) (ids : List ℕ) → RiseIds 0 ids → All (λ a. (among a.id ids ≡ true) × (activity_of a.id xs ≡ Some a)) (picked xs ids)
picked_stand xs ids rise i d lt = by (among a.id ids) refl
  where
    a : Activity
    a = get_or (picked xs ids) i d

    here : activity_of a.id (picked xs ids) ≡ Some a
    here = each_found (picked xs ids) (picked_rise xs 0 ids rise) i d lt

    by : (b : Bool) → among a.id ids ≡ b → (among a.id ids ≡ true) × (activity_of a.id xs ≡ Some a)
    by true e = let is : activity_of a.id (picked xs ids) ≡ activity_of a.id xs = found_picked xs ids a.id ∙ rw e refl in (e, sym is ∙ here)
    by false e = absurd (let is : activity_of a.id (picked xs ids) ≡ None = found_picked xs ids a.id ∙ rw e refl in let bad : Some a ≡ None = sym here ∙ is in cc)

-- ---- lists of ids

among_all : (P : ℕ → Type 0) (ids : List ℕ) (q : ℕ) → All P ids → among q ids ≡ true → P q
among_all P [] q all e = absurd (cc)
among_all P (i ∷ ids) q all e = cases (eqb i q) refl (among_all P ids q (All-tail P i ids all))
  where
    cases : (b : Bool) → eqb i q ≡ b → (among q ids ≡ true → P q) → P q
    cases true f more = subst P (eqb-true i q f) (All-head P i ids all)
    cases false f more = more (rw f at e)

-- ---- back

module _ (s : PlanState) (whole : IsWhole s) (gone : List ℕ) (more ys : List Activity) (swap : IsSwap s gone more ys) (rise : RiseIds 0 gone) where
  abbrev xs : List Activity
  xs = s.plan.activities

  abbrev pub leaving : List ℕ
  leaving = map id_of more

  abbrev pub returning : List Activity
  returning = picked s.plan.activities gone

  abbrev pub changed : PlanState
  changed = with_plan gone more s

  is : replaced xs gone more ≡ ys
  is = swap_is s gone more ys whole swap

  rises : AreRising returning
  rises = picked_rise xs 0 gone rise

  live_gone : (q : ℕ) → among q gone ≡ true → IsLive q xs
  live_gone q e = among_all (λ id. IsLive id xs) gone q swap.live e

  may_return : All (MayCome ys leaving) returning
  may_return i d lt live = by (activity_of a.id more) refl
    where
      a : Activity
      a = get_or returning i d

      went : among a.id gone ≡ true
      went = (picked_stand xs gone rise i d lt).0

      by : (o : Option Activity) → activity_of a.id more ≡ o → among a.id leaving ≡ true
      by (Some b) e = among_ids more a.id ∙ rw e refl
      by None e =
          let none : activity_of a.id ys ≡ None = swap.found a.id ∙ rw (e, went) refl in
          absurd (let bad : false ≡ true = rw none at live in cc)

  found_home : (q : ℕ) → activity_of q xs ≡ swapped_at ys leaving returning q
  found_home q = sym (rw (found_picked xs gone q, among_ids more q, swap.found q) (by (among q gone) refl (activity_of q more) refl (activity_of q xs) refl))
    where
      by : (g : Bool) → among q gone ≡ g → (o : Option Activity) → activity_of q more ≡ o → (p : Option Activity) → activity_of q xs ≡ p → option_or (cond g p None) (cond (is_some o) None (option_or o (cond g None p))) ≡ p
      by true e o f (Some x) h = refl
      by true e o f None h = absurd (let live : IsLive q xs = live_gone q e in let bad : false ≡ true = rw h at live in cc)
      by false e None f p h = refl
      by false e (Some b) f None h = refl
      by false e (Some b) f (Some x) h =
          let came = all_at (MayCome xs gone) more q b swap.may f in
          let here : activity_of b.id xs ≡ Some x = ap (λ n. activity_of n xs) came.1 ∙ h in
          let went : among b.id gone ≡ true = came.0 (rw here refl) in
          absurd (let bad : true ≡ false = sym went ∙ (ap (λ n. among n gone) came.1 ∙ e) in cc)

  home : replaced (replaced xs gone more) leaving returning ≡ xs
  home = ap (λ (l : List Activity). replaced l leaving returning) is ∙ same_replaced ys leaving returning xs swap.rising rises may_return whole.rising found_home

  apart_before : (id : ℕ) → among id (touched leaving returning) ≡ false → among id (touched gone more) ≡ false
  apart_before id apart = among_neither id gone leaving (by (among id gone) refl) (not_left id leaving (map id_of returning) apart)
    where
      by : (b : Bool) → among id gone ≡ b → among id gone ≡ false
      by false e = e
      by true e =
          let back : activity_of id returning ≡ activity_of id xs = found_picked xs gone id ∙ rw e refl in
          let there : among id (map id_of returning) ≡ true = among_ids returning id ∙ (rw back (live_gone id e)) in
          absurd (let bad : true ≡ false = sym there ∙ not_right id leaving (map id_of returning) apart in cc)

  live_leaving : All (λ id. IsLive id (replaced xs gone more)) leaving
  live_leaving = All-map (λ id. IsLive id (replaced xs gone more)) id_of more (λ i d lt. subst (λ (l : List Activity). IsLive (get_or more i d).id l) (sym is) (let here : activity_of (get_or more i d).id ys ≡ Some (get_or more i d) = swap.found (get_or more i d).id ∙ rw (each_found more swap.rises i d lt) refl in rw here refl))

  pub can_return : s.next_id ≤ 3999999000 → CanReplace changed leaving returning
  can_return next = record {
    live = live_leaving;
    once = λ i j d lt within e. let less = rises_between returning 0 i j d rises lt within in omega (arith, less, e);
    free = λ i d lt live. may_return i d lt (subst (λ (l : List Activity). IsLive (get_or returning i d).id l) is live);
    ids = λ i d lt.
        let stands = (picked_stand xs gone rise i d lt).1 in
        let id = (all_at (IsIdBelow s.next_id) xs (get_or returning i d).id (get_or returning i d) whole.ids stands).0 in
        (id.0, omega (arith, id.1, next));
    carried = λ i d lt. (all_at (IsCarried s.goals) xs (get_or returning i d).id (get_or returning i d) whole.carried (picked_stand xs gone rise i d lt).1).0;
    begun = λ i d lt. (all_at (HasBegun s.moment s.committed) xs (get_or returning i d).id (get_or returning i d) whole.begun (picked_stand xs gone rise i d lt).1).0;
    kept = λ id apart.
        ap (λ (l : List Activity). values_of s.model l id) home
        ∙ (values_local s.model xs ys whole.fits.rooted swap.fits.rooted id (swap.above id (apart_before id apart))
        ∙ ap (λ (l : List Activity). values_of s.model l id) (sym is));
    fits = subst (λ (l : List Activity). Fits s.model l) (sym home) whole.fits;
    few = subst (λ (l : List Activity). length l ≤ s.live_limit) (sym home) whole.live;
  }

  pub undone : with_next s.next_id (with_plan leaving returning changed) ≡ s
  undone = ap (λ (l : List Activity). record s { plan = record { activities = l }; next_id = s.next_id }) home

  pub ids_then : All (IsIdBelow s.next_id) (with_plan leaving returning changed).plan.activities
  ids_then = subst (λ (l : List Activity). All (IsIdBelow s.next_id) l) (sym home) whole.ids

  pub next_then : s.next_id ≤ (with_plan leaving returning changed).next_id
  next_then = let one = next_grows s.next_id more in let two = next_grows changed.next_id returning in omega (arith, one, two)

-- ---- moves

pub subtree_rise : (xs : List Activity) → AreRising xs → (top : ℕ) → RiseIds 0 (subtree_of top xs)
unfolding subtree_of
subtree_rise xs rising top = filter_rises (descends xs top) 0 (map id_of xs) (ids_rise 0 xs rising)

pub gone_rise : (s : PlanState) → IsWhole s → (m : RepairMove) → RiseIds 0 (gone_by s m)
gone_rise s whole (Add kind start goal) = tt
gone_rise s whole (Delete id) = subtree_rise s.plan.activities whole.rising id
gone_rise s whole (Shift id start) = subtree_rise s.plan.activities whole.rising id
gone_rise s whole (Detail id alternative) = (omega arith, tt)
gone_rise s whole (Abstract id) = subtree_rise s.plan.activities whole.rising id
gone_rise s whole (Assign id param value) = subtree_rise s.plan.activities whole.rising id
gone_rise s whole (Drop goal) = tt

pub undone_by : (s : PlanState) → IsWhole s → s.next_id ≤ 3999999000 → (m : RepairMove) → IsOfActivities m → is_proper s m ≡ true → refusal_of s m ≡ None → IsUndoneBy s m (gone_by s m) (placed_by s m) (map id_of (placed_by s m)) (picked s.plan.activities (gone_by s m))
undone_by s whole next m of proper allowed =
    let by : IsMadeBy s m = made s whole m of proper allowed in
    let rise = gone_rise s whole m in
    let gone = gone_by s m in
    let more = placed_by s m in
    let ys = (applied s m).plan.activities in
    record {
      can = can_replace s whole next m by;
      made = by.is;
      can_undo = subst (λ (t : PlanState). CanReplace t (map id_of more) (picked s.plan.activities gone)) by.is (can_return s whole gone more ys by.swap rise next);
      undone = subst (λ (t : PlanState). with_next s.next_id (with_plan (map id_of more) (picked s.plan.activities gone) t) ≡ s) by.is (undone s whole gone more ys by.swap rise);
      ids = (whole.next.0, subst (λ (t : PlanState). All (IsIdBelow s.next_id) (with_plan (map id_of more) (picked s.plan.activities gone) t).plan.activities) by.is (ids_then s whole gone more ys by.swap rise));
      next = subst (λ (t : PlanState). s.next_id ≤ (with_plan (map id_of more) (picked s.plan.activities gone) t).next_id) by.is (next_then s whole gone more ys by.swap rise);
    }
