-- Where a plan differs from an earlier one by the ids of its newest roots alone, moves under the other ids leave as many conflicts.
use Rattle.std.proofs.Common.{◌≡◌, ℕ, ◌<◌, ◌≤◌, Bool, true, false, cond, List, [], ◌∷◌, ◌++◌, map, length, Option, Some, None, IfSome, refl, sym, ap, ◌∙◌, subst, arith}
use Rattle.std.specs.Prelude.{All, is_some}
use Rattle.std.specs.Option.{option_or}
use Rattle.std.proofs.lemmas.List.{length-append, length-map, map-append}
use Rattle.std.proofs.lemmas.List.Elements.{All-nil, All-cons, All-head, All-tail}
use Rattle.pl_lists.specs.Lists.{Pairwise}
use Rattle.pl_plan.specs.declared.activity.Activity.{Activity}
use Rattle.pl_plan.specs.declared.repair.RepairMove.{RepairMove}
use Rattle.pl_plan.specs.declared.repair.RepairMove.TheVariants.{Add, Delete, Shift, Detail, Abstract, Assign, Drop}
use Rattle.pl_plan.specs.Activities.{RiseFrom, AreRising, IsLive, activity_of}
use Rattle.pl_plan.specs.Trees.{IsParented}
use Rattle.pl_plan.proofs.LookUpLaws.{same_activities}
use Rattle.pl_semantics.specs.declared.plan_state.PlanState.{PlanState}
use Rattle.pl_semantics.specs.PlanStates.{found}
use Rattle.pl_semantics.specs.Moves.{holds, is_proper}
use Rattle.pl_semantics.specs.Legal.{left_after}
use Rattle.pl_semantics.specs.Whole.{IsWhole}
use Rattle.pl_renumbering.specs.Renumbered.{renumbered}
use Rattle.pl_renumbering.specs.Normal.{rank, normal_move, AreAlike}
use Rattle.pl_renumbering.proofs.Alike.{left_alike}
use Rattle.pl_memo.specs.declared.difference.Difference.{Difference}
use Rattle.pl_memo.specs.declared.memory.Answer.{Answer}
use Rattle.pl_memo.specs.Differences.{IsDifference, shown}
use Rattle.pl_memo.specs.Fewest.{counts_after, first_least}
use Rattle.pl_memo.specs.Memories.{AreProper, AreSameBeside, Holds, IsFewestAt}
use Rattle.pl_memo.specs.Renames.{AreTwins, OnlyRenames, renamed, renamed_move}
use Rattle.pl_memo.proofs.Tails.{IsBefore, above, all_above, found_either, front_same, none_before, rank_before, renamed_other, renamed_rank, tails_same}

pub same_length : (gone placed : List Activity) → Pairwise AreTwins gone placed → length gone ≡ length placed
same_length [] [] twins = refl
same_length [] (p ∷ placed) twins = absurd twins
same_length (g ∷ gone) [] twins = absurd twins
same_length (g ∷ gone) (p ∷ placed) twins = omega (arith, same_length gone placed twins.1)

abbrev nobody : Option Activity
nobody = None

-- ---- the activities of the earlier plan

module _ (base xs : List Activity) (d : Difference) (stands : AreRising base) (rises : AreRising xs) (is : IsDifference base xs d) (only : OnlyRenames d xs) where
  abbrev rest : List Activity
  rest = only.rest

  whole_rises : AreRising (rest ++ d.placed)
  whole_rises = subst AreRising only.is rises

  found_now : (id : ℕ) → option_or (activity_of id rest) (activity_of id d.placed) ≡ shown base d id
  found_now id = sym (found_either id rest d.placed) ∙ (ap (activity_of id) (sym only.is) ∙ is.shows id)

  found_then : (id : ℕ) → activity_of id base ≡ activity_of id (rest ++ d.gone)
  found_then id = by_gone (activity_of id d.gone) refl ∙ sym (found_either id rest d.gone)
    where
      by_base : (o : Option Activity) → activity_of id base ≡ o → (b : Activity) → activity_of id d.placed ≡ Some b → activity_of id d.gone ≡ None → o ≡ None
      by_base None e b there none = refl
      by_base (Some c) e b there none = absurd (let bad : false ≡ true = sym (ap is_some none) ∙ is.instead id b c there e in cc)

      by_placed : (o : Option Activity) → activity_of id d.placed ≡ o → activity_of id d.gone ≡ None → activity_of id base ≡ option_or (activity_of id rest) nobody
      by_placed None e none =
          let now : option_or (activity_of id rest) (activity_of id d.placed) ≡ option_or (activity_of id d.placed) (cond (is_some (activity_of id d.gone)) nobody (activity_of id base)) = found_now id in
          sym (rw (e, none) at now)
      by_placed (Some b) e none = by_base (activity_of id base) refl b e none ∙ sym (ap (λ (o : Option Activity). option_or o nobody) (none_before 0 id b rest d.placed whole_rises e))

      by_gone : (o : Option Activity) → activity_of id d.gone ≡ o → activity_of id base ≡ option_or (activity_of id rest) (activity_of id d.gone)
      by_gone (Some a) e = is.was id a e ∙ rw (none_before 0 id a rest d.gone only.rises e, e) refl
      by_gone None e = by_placed (activity_of id d.placed) refl e ∙ ap (option_or (activity_of id rest)) (sym e)

  pub base_is : base ≡ rest ++ d.gone
  base_is = same_activities base (rest ++ d.gone) stands only.rises found_then

-- ---- with ranks in the place of ids

module _ (before s : PlanState) (d : Difference) (whole : IsWhole before) (whole_too : IsWhole s) (beside : AreSameBeside before s) (is : IsDifference before.plan.activities s.plan.activities d) (only : OnlyRenames d s.plan.activities) where
  abbrev front_ : List Activity
  front_ = only.rest

  then_is : before.plan.activities ≡ front_ ++ d.gone
  then_is = base_is before.plan.activities s.plan.activities d whole.rising whole_too.rising is only

  now_is : s.plan.activities ≡ front_ ++ d.placed
  now_is = only.is

  now_rises : AreRising (front_ ++ d.placed)
  now_rises = subst AreRising now_is whole_too.rising

  abbrev Is : Activity → Type 0
  Is a = IsBefore d.gone d.placed a

  parents : (all zs behind : List Activity) → All (IsParented all) (zs ++ behind) → All (λ (a : Activity). RiseFrom a.id d.gone) zs → All (λ (a : Activity). RiseFrom a.id d.placed) zs → All Is zs
  parents all [] behind each old new = All-nil Is
  parents all (a ∷ zs) behind each old new =
      All-cons Is a zs
      (All-head (λ (x : Activity). RiseFrom x.id d.gone) a zs old, All-head (λ (x : Activity). RiseFrom x.id d.placed) a zs new, of a.parent (All-head (IsParented all) a (zs ++ behind) each))
      (parents all zs behind (All-tail (IsParented all) a (zs ++ behind) each) (All-tail (λ (x : Activity). RiseFrom x.id d.gone) a zs old) (All-tail (λ (x : Activity). RiseFrom x.id d.placed) a zs new))
    where
      of : (o : Option (ℕ × ℕ)) → IfSome o (λ p. IsLive p.0 all × (p.0 < a.id)) → IfSome o (λ p. p.0 ≤ a.id)
      of None h = tt
      of (Some p) h = omega (arith, h.1)

  front_is : All Is front_
  front_is =
      parents before.plan.activities front_ d.gone (subst (λ (l : List Activity). All (IsParented before.plan.activities) l) then_is whole.fits.rooted.parents) (all_above 0 front_ d.gone only.rises) (all_above 0 front_ d.placed now_rises)

  ranked : map (renumbered (rank (front_ ++ d.gone))) (front_ ++ d.gone) ≡ map (renumbered (rank (front_ ++ d.placed))) (front_ ++ d.placed)
  ranked =
      map-append (renumbered (rank (front_ ++ d.gone))) front_ d.gone
      ∙ (ap (λ l. l ++ map (renumbered (rank (front_ ++ d.gone))) d.gone) (front_same front_ d.gone d.placed front_ front_is)
      ∙ (ap (λ l. map (renumbered (rank (front_ ++ d.placed))) front_ ++ l) (tails_same (front_ ++ d.gone) (front_ ++ d.placed) only.rises now_rises front_ d.gone front_ d.placed refl refl refl only.twins)
      ∙ sym (map-append (renumbered (rank (front_ ++ d.placed))) front_ d.placed)))

  as_long : length before.plan.activities ≡ length s.plan.activities
  as_long =
      let same : length (front_ ++ d.gone) ≡ length (front_ ++ d.placed) = omega (arith, length-append front_ d.gone, length-append front_ d.placed, same_length d.gone d.placed only.twins) in
      ap (λ (l : List Activity). length l) then_is ∙ (same ∙ sym (ap (λ (l : List Activity). length l) now_is))

  same_ranked : map (renumbered (rank before.plan.activities)) before.plan.activities ≡ map (renumbered (rank s.plan.activities)) s.plan.activities
  same_ranked =
      ap (λ (l : List Activity). map (renumbered (rank l)) l) then_is ∙ (ranked ∙ sym (ap (λ (l : List Activity). map (renumbered (rank l)) l) now_is))

  pub alike : AreAlike before s
  alike =
      let xs : List Activity = map (renumbered (rank before.plan.activities)) before.plan.activities in
      let n : ℕ = length before.plan.activities in
      ap (λ v. record before { model = v; plan = record { activities = xs }; next_id = n }) beside.model
      ∙ (ap (λ v. record before { model = s.model; goals = v; plan = record { activities = xs }; next_id = n }) beside.goals
      ∙ (ap (λ v. record before { model = s.model; goals = s.goals; bases = v; plan = record { activities = xs }; next_id = n }) beside.bases
      ∙ (ap (λ (v : ℕ). record s { moment = v; committed = before.committed; live_limit = before.live_limit; plan = record { activities = xs }; next_id = n }) beside.moment
      ∙ (ap (λ (v : ℕ). record s { committed = v; live_limit = before.live_limit; plan = record { activities = xs }; next_id = n }) beside.committed
      ∙ (ap (λ (v : ℕ). record s { live_limit = v; plan = record { activities = xs }; next_id = n }) beside.limit
      ∙ (ap (λ (l : List Activity). record s { plan = record { activities = l }; next_id = n }) same_ranked
      ∙ ap (λ (k : ℕ). record s { plan = record { activities = map (renumbered (rank s.plan.activities)) s.plan.activities }; next_id = k }) as_long))))))

  -- ---- moves

  rank_same : (id : ℕ) (a : Activity) → found before id ≡ Some a → rank before.plan.activities id ≡ rank s.plan.activities (renamed d.gone d.placed id)
  rank_same id a here =
      ap (λ (l : List Activity). rank l id) then_is ∙ (by_gone (activity_of id d.gone) refl ∙ ap (λ (l : List Activity). rank l (renamed d.gone d.placed id)) (sym now_is))
    where
      here_too : option_or (activity_of id front_) (activity_of id d.gone) ≡ Some a
      here_too = sym (found_either id front_ d.gone) ∙ (ap (activity_of id) (sym then_is) ∙ here)

      by_gone : (o : Option Activity) → activity_of id d.gone ≡ o → rank (front_ ++ d.gone) id ≡ rank (front_ ++ d.placed) (renamed d.gone d.placed id)
      by_gone (Some b) e = renamed_rank (front_ ++ d.gone) (front_ ++ d.placed) only.rises now_rises front_ d.gone front_ d.placed id b refl refl refl only.twins e
      by_gone None e = by_front (activity_of id front_) refl
        where
          by_front : (o : Option Activity) → activity_of id front_ ≡ o → rank (front_ ++ d.gone) id ≡ rank (front_ ++ d.placed) (renamed d.gone d.placed id)
          by_front None f = absurd (let bad : nobody ≡ Some a = rw (f, e) at here_too in cc)
          by_front (Some b) f =
              rank_before id front_ d.gone (above 0 id b front_ d.gone only.rises f)
              ∙ (sym (rank_before id front_ d.placed (above 0 id b front_ d.placed now_rises f))
              ∙ ap (rank (front_ ++ d.placed)) (sym (renamed_other id d.gone d.placed e)))

  of_holding : (test : Activity → Bool) (id : ℕ) → holds test (found before id) ≡ true → rank before.plan.activities id ≡ rank s.plan.activities (renamed d.gone d.placed id)
  of_holding test id e = by (found before id) refl e
    where
      by : (o : Option Activity) → found before id ≡ o → holds test o ≡ true → rank before.plan.activities id ≡ rank s.plan.activities (renamed d.gone d.placed id)
      by None here bad = absurd (cc)
      by (Some a) here good = rank_same id a here

  of_some : (id : ℕ) → is_some (found before id) ≡ true → rank before.plan.activities id ≡ rank s.plan.activities (renamed d.gone d.placed id)
  of_some id e = by (found before id) refl e
    where
      by : (o : Option Activity) → found before id ≡ o → is_some o ≡ true → rank before.plan.activities id ≡ rank s.plan.activities (renamed d.gone d.placed id)
      by None here bad = absurd (cc)
      by (Some a) here good = rank_same id a here

  pub move_same : (m : RepairMove) → is_proper before m ≡ true → normal_move before m ≡ normal_move s (renamed_move d m)
  unfolding is_proper
  move_same (Add kind start goal) proper = refl
  move_same (Delete id) proper = ap Delete (of_holding _ id proper)
  move_same (Shift id start) proper = ap (λ i. Shift i start) (of_some id proper)
  move_same (Detail id alternative) proper = ap (λ i. Detail i alternative) (of_holding _ id proper)
  move_same (Abstract id) proper = ap Abstract (of_holding _ id proper)
  move_same (Assign id param value) proper = ap (λ i. Assign i param value) (of_holding _ id proper)
  move_same (Drop number) proper = refl

  pub counts_same : (ms : List RepairMove) → AreProper before ms → AreProper s (map (renamed_move d) ms) → counts_after before ms ≡ counts_after s (map (renamed_move d) ms)
  counts_same [] proper proper_too = refl
  counts_same (m ∷ ms) proper proper_too =
      let good : is_proper before m ≡ true = All-head (λ k. is_proper before k ≡ true) m ms proper in
      let good_too : is_proper s (renamed_move d m) ≡ true = All-head (λ k. is_proper s k ≡ true) (renamed_move d m) (map (renamed_move d) ms) proper_too in
      rw (left_alike before s m (renamed_move d m) alike whole whole_too good good_too (move_same m good))
      (ap (λ l. left_after s (renamed_move d m) ∷ l) (counts_same ms (All-tail (λ k. is_proper before k ≡ true) m ms proper) (All-tail (λ k. is_proper s k ≡ true) (renamed_move d m) (map (renamed_move d) ms) proper_too)))

-- ---- an answer

pub answered : (s : PlanState) (a : Answer) (moves : List RepairMove) → IsWhole s → Holds s a → OnlyRenames a.since s.plan.activities → map (renamed_move a.since) a.moves ≡ moves → AreProper s moves → IsFewestAt s moves a.place
answered s a moves whole holds_ only are proper =
    let proper_too : AreProper s (map (renamed_move a.since) a.moves) = subst (AreProper s) (sym are) proper in
    let counts : counts_after holds_.before a.moves ≡ counts_after s (map (renamed_move a.since) a.moves) = counts_same holds_.before s a.since holds_.whole whole holds_.beside holds_.differs only a.moves holds_.proper proper_too in
    subst (λ (l : List RepairMove). IsFewestAt s l a.place) are (record {
      there = subst (λ (n : ℕ). a.place < n) (sym (length-map a.moves (renamed_move a.since))) holds_.fewest.there;
      is = ap first_least (sym counts) ∙ holds_.fewest.is;
    })
