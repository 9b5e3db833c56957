-- One move in place of another that takes out the same activities.
use Rattle.std.proofs.Common.{◌≡◌, ℕ, ◌+◌, ◌≤◌, eqb, Bool, true, false, List, [], ◌∷◌, map, length, get_or, refl, sym, ap, ◌∙◌, subst, arith}
use Rattle.std.specs.Prelude.{max, All, Option, Some, None, if◌then◌else◌}
use Rattle.std.specs.Option.{option_or}
use Rattle.std.proofs.lemmas.Bool.{eqb-true}
use Rattle.std.proofs.lemmas.List.Elements.{All-head, All-tail}
use Rattle.pl_plan.specs.declared.activity.Activity.{Activity}
use Rattle.pl_plan.specs.Activities.{AreRising, IsLive, activity_of}
use Rattle.pl_plan.specs.Trees.{Descends, itself, child, id_of, parent_of}
use Rattle.pl_plan.specs.Fitting.{Fits}
use Rattle.pl_plan.specs.Values.{values_of}
use Rattle.pl_plan.proofs.LocalValues.{values_local}
use Rattle.pl_plan.proofs.LookUpLaws.{same_activities}
use Rattle.pl_semantics.specs.declared.plan_state.PlanState.{PlanState}
use Rattle.pl_semantics.specs.PlanStates.{among}
use Rattle.pl_semantics.specs.Moves.{applied}
use Rattle.pl_semantics.specs.Whole.{IsWhole, IsIdBelow}
use Rattle.pl_update.specs.Changes.Changes.{with_next}
use Rattle.pl_update.specs.Changes.Putting.{CanPut}
use Rattle.pl_update.specs.Changes.Replaced.{CanReplace, next_after, replaced, taken, touched, with_plan}
use Rattle.pl_update.proofs.AboutChanges.Finding.{found-replaced}
use Rattle.pl_update.proofs.AboutChanges.Keeping.{whole_replaced}
use Rattle.pl_update.proofs.AboutChanges.Putting.{puttable, rising-replaced, next_grows}
use Rattle.pl_update.proofs.AboutEvaluations.Keeping.{among_neither, not_there}
use Rattle.pl_update.proofs.AboutGoalsAndActivities.Touching.{not_left, not_right}
use Rattle.pl_board.specs.Boards.{Standing, after}
use Rattle.pl_choose.specs.declared.stages.Stage.{Stage}
use Rattle.pl_choose.specs.Stages.{CanStandInstead, IsStage, TakesOut, instead, next_behind}

-- ---- those that are not there

-- what comes and does not go was not there
came_new : (xs : List Activity) (gone : List ℕ) (more : List Activity) (q : ℕ) → All (λ a. IsLive a.id xs → among a.id gone ≡ true) more → among q (map id_of more) ≡ true → among q gone ≡ false → activity_of q xs ≡ None
came_new xs gone [] q free comes stays = absurd (cc)
came_new xs gone (x ∷ more) q free comes stays = by (eqb x.id q) refl (came_new xs gone more q (All-tail (λ a. IsLive a.id xs → among a.id gone ≡ true) x more free))
  where
    none : x.id ≡ q → (o : Option Activity) → activity_of q xs ≡ o → o ≡ None
    none is None e = refl
    none is (Some a) e =
        let goes : IsLive x.id xs → among x.id gone ≡ true = All-head (λ a. IsLive a.id xs → among a.id gone ≡ true) x more free in
        let live : IsLive x.id xs = rw (is, e) refl in
        let bad : true ≡ false = sym (goes live) ∙ (ap (λ n. among n gone) is ∙ stays) in
        absurd (cc)

    by : (b : Bool) → eqb x.id q ≡ b → (among q (map id_of more) ≡ true → among q gone ≡ false → activity_of q xs ≡ None) → activity_of q xs ≡ None
    by true e others = none (eqb-true x.id q e) (activity_of q xs) refl
    by false e others = others (rw e at comes) stays

-- nothing stands above an id that is not live
none_above : (xs ys : List Activity) (id q : ℕ) → activity_of id xs ≡ None → activity_of id ys ≡ None → Descends xs q id → activity_of q xs ≡ activity_of q ys
none_above xs ys id q none none_too itself = none ∙ sym none_too
none_above xs ys id q none none_too (child n p is above) = absurd (let named : parent_of id xs ≡ Some p = is in let bad : None ≡ Some p = rw none at named in cc)

next_rises : (m n : ℕ) (more : List Activity) → m ≤ n → next_after m more ≤ next_after n more
next_rises m n [] le = le
next_rises m n (a ∷ more) le = let first : max m (a.id + 1) ≤ max n (a.id + 1) = omega (arith, le) in next_rises (max m (a.id + 1)) (max n (a.id + 1)) more first

-- ---- some in place of others

module _ (s : PlanState) (whole : IsWhole s) (gone : List ℕ) (ps qs : List Activity) (can_ps : CanReplace s gone ps) (can_qs : CanReplace s gone qs) where
  abbrev xs : List Activity
  xs = s.plan.activities

  abbrev now : List Activity
  now = replaced s.plan.activities gone ps

  abbrev leaving : List ℕ
  leaving = map id_of ps

  put_ps : CanPut (taken xs gone) ps
  put_ps = puttable xs gone ps whole.rising can_ps.once can_ps.free

  put_qs : CanPut (taken xs gone) qs
  put_qs = puttable xs gone qs whole.rising can_qs.once can_qs.free

  rising : AreRising now
  rising = rising-replaced xs gone ps put_ps whole.rising

  found_now : (q : ℕ) → activity_of q now ≡ option_or (activity_of q ps) (if among q gone then None else activity_of q xs)
  found_now q = found-replaced xs gone ps q whole.rising put_ps

  -- none that comes is there but those that leave
  free : All (λ a. IsLive a.id now → among a.id leaving ≡ true) qs
  free i d lt live = by (among a.id leaving) refl (among a.id gone) refl
    where
      a : Activity
      a = get_or qs i d

      by : (b : Bool) → among a.id leaving ≡ b → (c : Bool) → among a.id gone ≡ c → among a.id leaving ≡ true
      by true e c f = e
      by false e true f = absurd (let none : activity_of a.id now ≡ None = found_now a.id ∙ rw (not_there a.id ps e, f) refl in let bad : false ≡ true = rw none at live in cc)
      by false e false f =
          let was : activity_of a.id now ≡ activity_of a.id xs = found_now a.id ∙ rw (not_there a.id ps e, f) refl in
          let before : IsLive a.id xs = rw was at live in
          absurd (let bad : true ≡ false = sym (can_qs.free i d lt before) ∙ f in cc)

  found_then : (q : ℕ) → activity_of q (replaced now leaving qs) ≡ activity_of q (replaced xs gone qs)
  found_then q =
      found-replaced now leaving qs q rising (puttable now leaving qs rising can_qs.once free)
      ∙ (ap (λ (o : Option Activity). option_or (activity_of q qs) o) (by (among q leaving) refl (among q gone) refl)
      ∙ sym (found-replaced xs gone qs q whole.rising put_qs))
    where
      by : (b : Bool) → among q leaving ≡ b → (c : Bool) → among q gone ≡ c → (if b then None else activity_of q now) ≡ (if c then None else activity_of q xs)
      by true e true f = refl
      by true e false f = sym (came_new xs gone ps q can_ps.free e f)
      by false e true f = found_now q ∙ rw (not_there q ps e, f) refl
      by false e false f = found_now q ∙ rw (not_there q ps e, f) refl

  there : replaced now leaving qs ≡ replaced xs gone qs
  there = same_activities (replaced now leaving qs) (replaced xs gone qs)
      (rising-replaced now leaving qs (puttable now leaving qs rising can_qs.once free) rising)
      (rising-replaced xs gone qs put_qs whole.rising)
      found_then

  -- the values of those that neither leave nor come
  kept : (id : ℕ) → among id (touched leaving qs) ≡ false → values_of s.model (replaced now leaving qs) id ≡ values_of s.model now id
  kept id apart = ap (λ (l : List Activity). values_of s.model l id) there ∙ by (among id gone) refl
    where
      not_leaving : among id leaving ≡ false
      not_leaving = not_left id leaving (map id_of qs) apart

      not_coming : among id (map id_of qs) ≡ false
      not_coming = not_right id leaving (map id_of qs) apart

      by : (b : Bool) → among id gone ≡ b → values_of s.model (replaced xs gone qs) id ≡ values_of s.model now id
      by false e = can_qs.kept id (among_neither id gone (map id_of qs) e not_coming) ∙ sym (can_ps.kept id (among_neither id gone leaving e not_leaving))
      by true e =
          let none : activity_of id (replaced xs gone qs) ≡ None = found-replaced xs gone qs id whole.rising put_qs ∙ rw (not_there id qs not_coming, e) refl in
          let none_now : activity_of id now ≡ None = found_now id ∙ rw (not_there id ps not_leaving, e) refl in
          values_local s.model (replaced xs gone qs) now can_qs.fits.rooted can_ps.fits.rooted id (λ q above. none_above (replaced xs gone qs) now id q none none_now above)

  can_instead : All (λ id. IsLive id now) leaving → CanReplace (with_plan gone ps s) leaving qs
  can_instead live = record {
    live = live;
    once = can_qs.once;
    free = free;
    ids = can_qs.ids;
    carried = can_qs.carried;
    begun = can_qs.begun;
    kept = kept;
    fits = subst (λ (l : List Activity). Fits s.model l) (sym there) can_qs.fits;
    few = subst (λ (l : List Activity). length l ≤ s.live_limit) (sym there) can_qs.few;
  }

  is_instead : with_next (next_after s.next_id qs) (with_plan leaving qs (with_plan gone ps s)) ≡ with_plan gone qs s
  is_instead = ap (λ (l : List Activity). record s { plan = record { activities = l }; next_id = next_after s.next_id qs }) there

  least_next : (1 ≤ next_after s.next_id qs) × All (IsIdBelow (next_after s.next_id qs)) (replaced now leaving qs)
  least_next =
      let then_ = whole_replaced s gone qs whole can_qs in
      (then_.next.0, subst (λ (l : List Activity). All (IsIdBelow (next_after s.next_id qs)) l) (sym there) then_.ids)

  most_next : next_after s.next_id qs ≤ next_after (next_after s.next_id ps) qs
  most_next = next_rises s.next_id (next_after s.next_id ps) qs (next_grows s.next_id ps)

-- ---- moves

module _ (s : PlanState) (whole : IsWhole s) (gone : List ℕ) (one other : Stage) (is_one : IsStage s one) (is_other : IsStage s other) (out_one : TakesOut gone one) (out_other : TakesOut gone other) where
  abbrev ps : List Activity
  ps = one.trial.change.placed.items

  abbrev qs : List Activity
  qs = other.trial.change.placed.items

  can_one : CanReplace s gone ps
  can_one = subst (λ (l : List ℕ). CanReplace s l ps) out_one is_one.undone.can

  can_other : CanReplace s gone qs
  can_other = subst (λ (l : List ℕ). CanReplace s l qs) out_other is_other.undone.can

  leaving_is : one.trial.undo.gone.items ≡ map id_of ps
  leaving_is = is_one.leaving_is ∙ ap (λ (l : List Activity). map id_of l) (sym is_one.placed_is)

  made_one : with_plan gone ps s ≡ applied s one.mv
  made_one = ap (λ (l : List ℕ). with_plan l ps s) (sym out_one) ∙ is_one.undone.made

  made_other : with_plan gone qs s ≡ applied s other.mv
  made_other = ap (λ (l : List ℕ). with_plan l qs s) (sym out_other) ∙ is_other.undone.made

  live : All (λ id. IsLive id (replaced s.plan.activities gone ps)) (map id_of ps)
  live =
      let there = subst (λ (l : List ℕ). All (λ id. IsLive id (applied s one.mv).plan.activities) l) leaving_is is_one.undone.can_undo.live in
      subst (λ (t : PlanState). All (λ id. IsLive id t.plan.activities) (map id_of ps)) (sym made_one) there

  stands : CanStandInstead (with_plan gone ps s) s.next_id one other
  stands =
      let can : CanReplace (with_plan gone ps s) (map id_of ps) qs = can_instead s whole gone ps qs can_one can_other live in
      let least : (1 ≤ next_after s.next_id qs) × All (IsIdBelow (next_after s.next_id qs)) (with_plan (map id_of ps) qs (with_plan gone ps s)).plan.activities = least_next s whole gone ps qs can_one can_other in
      let most : next_after s.next_id qs ≤ (with_plan (map id_of ps) qs (with_plan gone ps s)).next_id = most_next s whole gone ps qs can_one can_other in
      record {
        can = subst (λ (l : List ℕ). CanReplace (with_plan gone ps s) l qs) (sym leaving_is) can;
        least = subst (λ (l : List ℕ). (1 ≤ next_after s.next_id qs) × All (IsIdBelow (next_after s.next_id qs)) (with_plan l qs (with_plan gone ps s)).plan.activities) (sym leaving_is) least;
        most = subst (λ (l : List ℕ). next_after s.next_id qs ≤ (with_plan l qs (with_plan gone ps s)).next_id) (sym leaving_is) most;
      }

  pub can_stand : (b : Standing) → b ≡ after (applied s one.mv) → CanStandInstead b.state s.next_id one other
  can_stand b is = subst (λ (t : PlanState). CanStandInstead t s.next_id one other) (made_one ∙ sym (ap (λ (c : Standing). c.state) is)) stands

  pub stood : (b c : Standing) → b ≡ after (applied s one.mv) → c ≡ after (with_next (next_behind s.next_id other) (instead b.state one other)) → c ≡ after (applied s other.mv)
  stood b c is made =
      made
      ∙ (ap (λ (d : Standing). after (with_next (next_after s.next_id qs) (with_plan one.trial.undo.gone.items qs d.state))) is
      ∙ (ap (λ (l : List ℕ). after (with_next (next_after s.next_id qs) (with_plan l qs (applied s one.mv)))) leaving_is
      ∙ (ap (λ (t : PlanState). after (with_next (next_after s.next_id qs) (with_plan (map id_of ps) qs t))) (sym made_one)
      ∙ (ap after (is_instead s whole gone ps qs can_one can_other)
      ∙ ap after made_other))))
