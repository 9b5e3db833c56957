-- What a repair leaves as it was.
use Rattle.std.proofs.Common.{◌≡◌, ℕ, ◌+◌, ◌≤◌, eqb, ltb, Bool, true, false, cond, List, [], ◌∷◌, map, filter, length, get_or, refl, sym, ap, ◌∙◌, subst, arith}
use Rattle.std.specs.Prelude.{◌&&◌, All, ℤ, Option, Some, None, is_some, slice_get, if◌then◌else◌}
use Rattle.std.specs.Option.{option_or}
use Rattle.std.proofs.lemmas.Bool.{le-ltb, eqb-true, eq-eqb}
use Rattle.std.proofs.lemmas.List.Elements.{All-nil, All-cons, All-map, All-weaker}
use Rattle.pl_lists.proofs.Tests.{and_first}
use Rattle.pl_model.specs.declared.whole.Model.{Model}
use Rattle.pl_model.specs.declared.alternatives.Alternative.{Alternative}
use Rattle.pl_plan.specs.declared.activity.Activity.{Activity}
use Rattle.pl_plan.specs.declared.repair.RepairMove.{RepairMove}
use Rattle.pl_plan.specs.declared.repair.RepairMove.TheVariants.{Add, Delete, Shift, Detail, Abstract, Assign, Drop}
use Rattle.pl_plan.specs.Activities.{AreRising, IsLive, activity_of}
use Rattle.pl_plan.specs.Trees.{id_of, itself, descends, subtree_of}
use Rattle.pl_plan.specs.Fitting.{FitsAlone}
use Rattle.pl_plan.specs.Values.{values_of}
use Rattle.pl_plan.specs.Firm.{end_of}
use Rattle.pl_plan.specs.Laws.{AreSameAbove}
use Rattle.pl_plan.proofs.Climbs.{all_at}
use Rattle.pl_plan.proofs.Kept.{all_kept, each_found}
use Rattle.pl_plan.proofs.LocalValues.{values_local, end_local}
use Rattle.pl_plan.proofs.TreeLaws.{descends_complete}
use Rattle.pl_semantics.specs.declared.plan_state.PlanState.{PlanState}
use Rattle.pl_semantics.specs.PlanStates.{among, found, floor_of, is_committed, of_found}
use Rattle.pl_semantics.specs.Whole.{IsWhole}
use Rattle.pl_semantics.specs.Moves.{is_proper, refusal_of, applied, is_changed, is_locked, is_under, started_by, with_value, children_for, children_in, alternatives_at}
use Rattle.pl_semantics.specs.Legal.{MayBeMade}
use Rattle.pl_semantics.proofs.Refusing.{may}
use Rattle.pl_update.specs.Changes.Replaced.{touched}
use Rattle.pl_update.proofs.AboutEvaluations.Keeping.{among_neither}
use Rattle.pl_moves.specs.Changes.{gone_by, placed_by, assigned, undetailed, with_children, IsOfActivities}
use Rattle.pl_moves.specs.Keeping.{KeepsCommitted, GivesIds}
use Rattle.pl_moves.proofs.Swaps.{MayCome, IsSwap}
use Rattle.pl_moves.proofs.Subtrees.{among_ids, among_subtree}
use Rattle.pl_moves.proofs.Offsets.{paired}
use Rattle.pl_moves.proofs.Branched.{children_count}
use Rattle.pl_moves.proofs.Made.{IsMadeBy, made}
use Rattle.pl_moves.proofs.Unmeasured.{not_both}

-- ---- a replacement of what is not committed

module _ (s : PlanState) (whole : IsWhole s) (gone : List ℕ) (more ys : List Activity) (swap : IsSwap s gone more ys)
    (leave : (q : ℕ) (a : Activity) → among q gone ≡ true → activity_of q s.plan.activities ≡ Some a → is_committed s a ≡ false)
    (come : All (λ a. is_committed s a ≡ false) more) where
  abbrev xs : List Activity
  xs = s.plan.activities

  -- a committed one does not go
  stays : (id : ℕ) (a : Activity) → activity_of id xs ≡ Some a → is_committed s a ≡ true → among id gone ≡ false
  stays id a here early = by (among id gone) refl
    where
      by : (b : Bool) → among id gone ≡ b → among id gone ≡ false
      by true e = absurd (let bad : true ≡ false = sym early ∙ leave id a e here in cc)
      by false e = e

  -- and none comes with its id
  unplaced : (id : ℕ) (a : Activity) → activity_of id xs ≡ Some a → is_committed s a ≡ true → activity_of id more ≡ None
  unplaced id a here early = by (activity_of id more) refl
    where
      live : IsLive id xs
      live = rw here refl

      by : (o : Option Activity) → activity_of id more ≡ o → activity_of id more ≡ None
      by None e = e
      by (Some b) e =
          let at = all_at (MayCome xs gone) more id b swap.may e in
          let goes : among id gone ≡ true = subst (λ n. IsLive n xs → among n gone ≡ true) at.1 at.0 live in
          absurd (let bad : true ≡ false = sym goes ∙ stays id a here early in cc)

  pub stands : (id : ℕ) (a : Activity) → activity_of id xs ≡ Some a → is_committed s a ≡ true → activity_of id ys ≡ Some a
  stands id a here early = swap.found id ∙ rw (unplaced id a here early, stays id a here early, here) refl

  same_above : (id : ℕ) (a : Activity) → activity_of id xs ≡ Some a → is_committed s a ≡ true → AreSameAbove xs ys a.id
  same_above id a here early =
      let is_id : a.id ≡ id = (all_at (FitsAlone s.model) xs id a whole.fits.each here).1 in
      let unplaced_too : among id (map id_of more) ≡ false = among_ids more id ∙ ap is_some (unplaced id a here early) in
      let apart : among id (touched gone more) ≡ false = among_neither id gone (map id_of more) (stays id a here early) unplaced_too in
      swap.above a.id (subst (λ n. among n (touched gone more) ≡ false) (sym is_id) apart)

  pub values : (id : ℕ) (a : Activity) → activity_of id xs ≡ Some a → is_committed s a ≡ true → values_of s.model ys a.id ≡ values_of s.model xs a.id
  values id a here early = sym (values_local s.model xs ys whole.fits.rooted swap.fits.rooted a.id (same_above id a here early))

  pub ends : (id : ℕ) (a : Activity) → activity_of id xs ≡ Some a → is_committed s a ≡ true → end_of s.model ys a.id ≡ end_of s.model xs a.id
  ends id a here early = sym (end_local s.model xs ys whole.fits.rooted swap.fits.rooted a.id (same_above id a here early))

  pub no_other : (id : ℕ) (a : Activity) → activity_of id ys ≡ Some a → is_committed s a ≡ true → activity_of id xs ≡ Some a
  no_other id a here early = by_more (activity_of id more) refl (sym (swap.found id) ∙ here)
    where
      by_gone : (b : Bool) → cond b None (activity_of id xs) ≡ Some a → activity_of id xs ≡ Some a
      by_gone true e = absurd (cc)
      by_gone false e = e

      by_more : (o : Option Activity) → activity_of id more ≡ o → option_or o (cond (among id gone) None (activity_of id xs)) ≡ Some a → activity_of id xs ≡ Some a
      by_more None f e = by_gone (among id gone) e
      by_more (Some b) f e =
          let same : b ≡ a = cc in
          let late : is_committed s b ≡ false = (all_at (λ (c : Activity). is_committed s c ≡ false) more id b come f).0 in
          absurd (let bad : true ≡ false = sym early ∙ (ap (λ c. is_committed s c) (sym same) ∙ late) in cc)

-- ---- what a move that is not refused takes out and puts in is not committed

module _ (s : PlanState) (whole : IsWhole s) where
  abbrev live : List Activity
  live = s.plan.activities

  -- each that goes is changed
  changed : (m : RepairMove) (q : ℕ) (a : Activity) → among q (gone_by s m) ≡ true → found s q ≡ Some a → is_changed s m a ≡ true
  changed m q a goes here = by m goes
    where
      is_id : a.id ≡ q
      is_id = (all_at (FitsAlone s.model) live q a whole.fits.each here).1

      under : (top : ℕ) → among q (subtree_of top live) ≡ true → is_under s top a ≡ true
      under top e =
          let both : (descends live top q && is_some (activity_of q live)) ≡ true = sym (among_subtree live top q) ∙ e in
          subst (λ n. descends live top n ≡ true) (sym is_id) (and_first (descends live top q) (is_some (activity_of q live)) both)

      only : (id : ℕ) (b : Bool) → eqb id q ≡ b → among q (id ∷ []) ≡ true → eqb a.id id ≡ true
      only id true e h = eq-eqb a.id id (is_id ∙ sym (eqb-true id q e))
      only id false e h = absurd (let bad : false ≡ true = rw e at h in cc)

      by : (m : RepairMove) → among q (gone_by s m) ≡ true → is_changed s m a ≡ true
      by (Add kind start goal) e = absurd (cc)
      by (Delete id) e = under id e
      by (Shift id start) e = under id e
      by (Detail id alternative) e = only id (eqb id q) refl e
      by (Abstract id) e = under id e
      by (Assign id param value) e = under id e
      by (Drop goal) e = absurd (cc)

  module _ (m : RepairMove) (keeps : MayBeMade s m) where
    -- what it changes is not committed
    late : (q : ℕ) (a : Activity) → found s q ≡ Some a → is_changed s m a ≡ true → is_committed s a ≡ false
    late q a here is = not_both (is_changed s m a) (is_committed s a) (all_at (λ b. is_locked s m b ≡ false) live q a keeps.unlocked here).0 is

    pub gone_late : (q : ℕ) (a : Activity) → among q (gone_by s m) ≡ true → found s q ≡ Some a → is_committed s a ≡ false
    gone_late q a goes here = late q a here (changed m q a goes here)

    started_late : All (λ a. is_committed s a ≡ false) (started_by s m)
    started_late = All-weaker (λ a. floor_of s ≤ a.start) (λ a. is_committed s a ≡ false) (λ a up. le-ltb a.start s.committed (omega (arith, up))) (started_by s m) keeps.above

  -- an activity is of its own subtree
  itself_under : (id : ℕ) (a : Activity) → found s id ≡ Some a → is_under s id a ≡ true
  itself_under id a here = subst (λ n. descends live id n ≡ true) (sym (all_at (FitsAlone s.model) live id a whole.fits.each here).1) (descends_complete live whole.fits.rooted id id itself)

  detailed_late : (id alternative : ℕ) → MayBeMade s (Detail id alternative) → (o : Option Activity) → found s id ≡ o → All (λ a. is_committed s a ≡ false) (children_for s alternative o) → All (λ a. is_committed s a ≡ false) (of_found (with_children s alternative) o)
  detailed_late id alternative keeps None e children = All-nil (λ (a : Activity). is_committed s a ≡ false)
  detailed_late id alternative keeps (Some a) e children =
      let is_id : a.id ≡ id = (all_at (FitsAlone s.model) live id a whole.fits.each e).1 in
      All-cons (λ (b : Activity). is_committed s b ≡ false) (record a { detail = Some alternative }) (children_for s alternative (Some a)) (late (Detail id alternative) keeps id a e (eq-eqb a.id id is_id)) children

  abstracted_late : (id : ℕ) → MayBeMade s (Abstract id) → (o : Option Activity) → found s id ≡ o → All (λ a. is_committed s a ≡ false) (of_found undetailed o)
  abstracted_late id keeps None e = All-nil (λ (a : Activity). is_committed s a ≡ false)
  abstracted_late id keeps (Some a) e = All-cons (λ (b : Activity). is_committed s b ≡ false) (record a { detail = None }) [] (late (Abstract id) keeps id a e (itself_under id a e)) (All-nil (λ (b : Activity). is_committed s b ≡ false))

  assigned_late : (id param : ℕ) (value : ℤ) → MayBeMade s (Assign id param value) → All (λ a. is_committed s a ≡ false) (map (assigned id param value) (filter (is_under s id) live))
  assigned_late id param value keeps = All-map (λ (a : Activity). is_committed s a ≡ false) (assigned id param value) (filter (is_under s id) live) (all_kept (is_under s id) (λ a. is_committed s (assigned id param value a) ≡ false) live (λ i d lt test. same (get_or live i d) (eqb (get_or live i d).id id) (late (Assign id param value) keeps (get_or live i d).id (get_or live i d) (each_found live whole.rising i d lt) test)))
    where
      -- its start stays
      same : (a : Activity) (b : Bool) → is_committed s a ≡ false → is_committed s (if b then with_value param value a else a) ≡ false
      same a true e = e
      same a false e = e

  pub placed_late : (m : RepairMove) → MayBeMade s m → All (λ a. is_committed s a ≡ false) (placed_by s m)
  placed_late (Add kind start goal) keeps = started_late (Add kind start goal) keeps
  placed_late (Delete id) keeps = All-nil (λ (a : Activity). is_committed s a ≡ false)
  placed_late (Shift id start) keeps = started_late (Shift id start) keeps
  placed_late (Detail id alternative) keeps = detailed_late id alternative keeps (found s id) refl (started_late (Detail id alternative) keeps)
  placed_late (Abstract id) keeps = abstracted_late id keeps (found s id) refl
  placed_late (Assign id param value) keeps = assigned_late id param value keeps
  placed_late (Drop goal) keeps = All-nil (λ (a : Activity). is_committed s a ≡ false)

  -- ---- a move of activities

  keeps_of : (m : RepairMove) → IsOfActivities m → is_proper s m ≡ true → refusal_of s m ≡ None → KeepsCommitted s (applied s m)
  keeps_of m of proper allowed =
      let by : IsMadeBy s m = made s whole m of proper allowed in
      let keeps : MayBeMade s m = may s m allowed in
      let model : (applied s m).model ≡ s.model = ap (λ (t : PlanState). t.model) (sym by.is) in
      let committed : (applied s m).committed ≡ s.committed = ap (λ (t : PlanState). t.committed) (sym by.is) in
      record {
        model = model;
        moment = ap (λ (t : PlanState). t.moment) (sym by.is);
        committed = committed;
        bases = ap (λ (t : PlanState). t.bases) (sym by.is);
        live_limit = ap (λ (t : PlanState). t.live_limit) (sym by.is);
        stands = stands s whole (gone_by s m) (placed_by s m) (applied s m).plan.activities by.swap (gone_late m keeps) (placed_late m keeps);
        values = λ id a here early. ap (λ (k : Model). values_of k (applied s m).plan.activities a.id) model ∙ values s whole (gone_by s m) (placed_by s m) (applied s m).plan.activities by.swap (gone_late m keeps) (placed_late m keeps) id a here early;
        ends = λ id a here early. ap (λ (k : Model). end_of k (applied s m).plan.activities a.id) model ∙ ends s whole (gone_by s m) (placed_by s m) (applied s m).plan.activities by.swap (gone_late m keeps) (placed_late m keeps) id a here early;
        no_other = λ id a here early. no_other s whole (gone_by s m) (placed_by s m) (applied s m).plan.activities by.swap (gone_late m keeps) (placed_late m keeps) id a here (ap (λ c. ltb a.start c) (sym committed) ∙ early);
      }

  -- ---- a goal that is dropped

  keeps_drop : (n : ℕ) → KeepsCommitted s (applied s (Drop n))
  unfolding applied
  keeps_drop n = record { model = refl; moment = refl; committed = refl; bases = refl; live_limit = refl; stands = λ id a here early. here; values = λ id a here early. refl; ends = λ id a here early. refl; no_other = λ id a here early. here }

  -- ---- ids

  few_children : (id alternative : ℕ) → length (children_for s alternative (found s id)) ≤ 16
  few_children id alternative = by (found s id)
    where
      by_chosen : (a : Activity) (o : Option Alternative) → slice_get (alternatives_at s a) alternative ≡ o → length (children_in s a o) ≤ 16
      by_chosen a None e = omega arith
      by_chosen a (Some of) e =
          let pairs = paired s.model whole.checked a alternative of e in
          let same = children_count s a 0 of.slots of.offsets pairs.each in
          omega (arith, same, pairs.few)

      by : (o : Option Activity) → length (children_for s alternative o) ≤ 16
      by None = omega arith
      by (Some a) = by_chosen a (slice_get (alternatives_at s a) alternative) refl

  least_id : (m : RepairMove) → s.next_id ≤ (applied s m).next_id
  unfolding applied
  least_id (Add kind start goal) = omega arith
  least_id (Delete id) = omega arith
  least_id (Shift id start) = omega arith
  least_id (Detail id alternative) = omega arith
  least_id (Abstract id) = omega arith
  least_id (Assign id param value) = omega arith
  least_id (Drop goal) = omega arith

  most_id : (m : RepairMove) → (applied s m).next_id ≤ s.next_id + 16
  unfolding applied
  most_id (Add kind start goal) = omega arith
  most_id (Delete id) = omega arith
  most_id (Shift id start) = omega arith
  most_id (Detail id alternative) = let few = few_children id alternative in omega (arith, few)
  most_id (Abstract id) = omega arith
  most_id (Assign id param value) = omega arith
  most_id (Drop goal) = omega arith

  drop_rises : (n : ℕ) → AreRising (applied s (Drop n)).plan.activities
  unfolding applied
  drop_rises n = whole.rising

-- ---- a move

pub keeps : (s : PlanState) (m : RepairMove) → IsWhole s → is_proper s m ≡ true → refusal_of s m ≡ None → KeepsCommitted s (applied s m)
keeps s (Add kind start goal) whole proper allowed = keeps_of s whole (Add kind start goal) tt proper allowed
keeps s (Delete id) whole proper allowed = keeps_of s whole (Delete id) tt proper allowed
keeps s (Shift id start) whole proper allowed = keeps_of s whole (Shift id start) tt proper allowed
keeps s (Detail id alternative) whole proper allowed = keeps_of s whole (Detail id alternative) tt proper allowed
keeps s (Abstract id) whole proper allowed = keeps_of s whole (Abstract id) tt proper allowed
keeps s (Assign id param value) whole proper allowed = keeps_of s whole (Assign id param value) tt proper allowed
keeps s (Drop goal) whole proper allowed = keeps_drop s whole goal

rises : (s : PlanState) (m : RepairMove) → IsWhole s → is_proper s m ≡ true → refusal_of s m ≡ None → AreRising (applied s m).plan.activities
rises s (Add kind start goal) whole proper allowed = (made s whole (Add kind start goal) tt proper allowed).swap.rising
rises s (Delete id) whole proper allowed = (made s whole (Delete id) tt proper allowed).swap.rising
rises s (Shift id start) whole proper allowed = (made s whole (Shift id start) tt proper allowed).swap.rising
rises s (Detail id alternative) whole proper allowed = (made s whole (Detail id alternative) tt proper allowed).swap.rising
rises s (Abstract id) whole proper allowed = (made s whole (Abstract id) tt proper allowed).swap.rising
rises s (Assign id param value) whole proper allowed = (made s whole (Assign id param value) tt proper allowed).swap.rising
rises s (Drop goal) whole proper allowed = drop_rises s whole goal

pub gives : (s : PlanState) (m : RepairMove) → IsWhole s → is_proper s m ≡ true → refusal_of s m ≡ None → GivesIds s (applied s m)
gives s m whole proper allowed = record { rising = rises s m whole proper allowed; least = least_id s whole m; most = most_id s whole m }
