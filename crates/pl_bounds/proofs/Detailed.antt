-- The choice of an alternative leaves what is wrong with goals and other activities, and children that lack an alternative of their own.
use Rattle.std.proofs.Common.{◌≡◌, ℕ, zero, suc, ◌+◌, ◌<◌, ◌≤◌, eqb, Bool, true, false, cond, List, [], ◌∷◌, ◌++◌, map, filter, length, Option, Some, None, refl, sym, ap, ◌∙◌, subst, arith}
use Rattle.std.specs.Prelude.{◌||◌, not, All, get_or}
use Rattle.std.specs.List.{flat_map, filter_map}
use Rattle.std.proofs.lemmas.Bool.{false_from_ne_true, or_from, le-ltb, not-true, eq-eqb, or_left, or_right}
use Rattle.std.proofs.lemmas.List.{length-append, length-map}
use Rattle.std.proofs.lemmas.List.Elements.{All-head, All-tail}
use Rattle.pl_lists.proofs.Tests.{and_second, or_first_false}
use Rattle.pl_conflict.specs.declared.conflict.Conflict.{Conflict}
use Rattle.pl_conflict.specs.declared.conflict.Code.TheVariants.{Undetailed}
use Rattle.pl_conflict.specs.Order.{has}
use Rattle.pl_conflict.proofs.Sorting.{same, same_is, has-append}
use Rattle.pl_plan.specs.declared.activity.Activity.{Activity}
use Rattle.pl_plan.specs.declared.repair.RepairMove.TheVariants.{Detail}
use Rattle.pl_plan.specs.Activities.{RiseFrom, AreRising}
use Rattle.pl_plan.specs.Fitting.{alternatives_of, kind_of}
use Rattle.pl_plan.specs.Index.{is_number}
use Rattle.pl_plan.specs.Serving.{served_in, serves, is_served}
use Rattle.pl_plan.specs.Trees.{id_of}
use Rattle.pl_semantics.specs.declared.plan_state.PlanState.{PlanState}
use Rattle.pl_semantics.specs.Activities.{at_start, undetailed_at, wrong_at}
use Rattle.pl_semantics.specs.Conflicts.{conflicts_of}
use Rattle.pl_semantics.specs.Legal.{MayBeMade}
use Rattle.pl_semantics.specs.Moves.{applied, detailed, children_for}
use Rattle.pl_semantics.specs.PlanStates.{among, floor_of, found, is_committed, of_found}
use Rattle.pl_semantics.specs.Whole.{IsWhole}
use Rattle.pl_semantics.proofs.Refusing.{may}
use Rattle.pl_update.specs.GoalsAndActivities.Touched.{children_at, touched_ids}
use Rattle.pl_update.proofs.AboutGoalsAndActivities.ByIds.{found_any}
use Rattle.pl_update.proofs.AboutGoalsAndActivities.Childless.{childless}
use Rattle.pl_update.proofs.AboutLinks.Nearby.{among-append}
use Rattle.pl_moves.specs.Changes.{placed_by}
use Rattle.pl_moves.specs.Runs.{CanBeMade}
use Rattle.pl_moves.proofs.Made.{made}
use Rattle.pl_bounds.specs.Choosing.{lacks}
use Rattle.pl_bounds.specs.Plain.{is_plain, count_of_plain}
use Rattle.pl_bounds.specs.Standing.{is_elsewhere, is_open_one}
use Rattle.pl_bounds.proofs.Bare.{undone}
use Rattle.pl_bounds.proofs.Chosen.{IsChildOf, mine, up, each_here, placed}
use Rattle.pl_bounds.proofs.Differing.{has_passing}
use Rattle.pl_bounds.proofs.Leaving.{AreLeft, left_few, standing_apart, with_one}
use Rattle.pl_bounds.proofs.Made.{whole_then}
use Rattle.pl_bounds.proofs.Opens.{is_it, wrong_is_left}
use Rattle.pl_bounds.proofs.Others.{elsewhere_stays}
use Rattle.pl_bounds.proofs.Unchosen.{wrong_new}

module _ (s : PlanState) (whole : IsWhole s) (next : s.next_id ≤ 3999999000) (a : Activity) (here : found s a.id ≡ Some a) (root : a.parent ≡ None) (alternative : ℕ) (can : CanBeMade s (Detail a.id alternative)) where
  abbrev children : List Activity
  children = mine s whole next a here root alternative can

  abbrev more : List Activity
  more = detailed alternative a ∷ children

  abbrev t : PlanState
  t = applied s (Detail a.id alternative)

  abbrev pub ids : List ℕ
  ids = map id_of more

  whole_t : IsWhole t
  whole_t = whole_then s whole next (Detail a.id alternative) tt can

  more_is : placed_by s (Detail a.id alternative) ≡ more
  more_is = placed s whole next a here root alternative can

  -- ---- what it concerns

  child_serves_none : (x : Activity) → IsChildOf a.id x → served_in x ≡ None
  child_serves_none x of = rw of.up refl

  none_served : (xs : List Activity) → All (IsChildOf a.id) xs → filter_map served_in xs ≡ []
  none_served [] all = refl
  none_served (x ∷ xs) all = rw (child_serves_none x (All-head (IsChildOf a.id) x xs all)) (none_served xs (All-tail (IsChildOf a.id) x xs all))

  all_up : All (IsChildOf a.id) children
  all_up = up s whole next a here root alternative can

  serves_before : (n : ℕ) → among n (filter_map served_in (placed_by s (Detail a.id alternative))) ≡ true → is_served n s.plan.activities ≡ true
  serves_before n h = by (served_in a) refl (sym (ap (λ (l : List Activity). among n (filter_map served_in l)) more_is) ∙ h)
    where
      by : (o : Option ℕ) → served_in a ≡ o → among n (filter_map served_in more) ≡ true → is_served n s.plan.activities ≡ true
      by None e there = absurd (
          let none : filter_map served_in more ≡ [] = rw e (none_served children all_up) in
          let bad : false ≡ true = ap (among n) (sym none) ∙ there in
          cc)
      by (Some g) e there =
          let one : filter_map served_in more ≡ g ∷ [] = rw e (ap (λ (l : List ℕ). g ∷ l) (none_served children all_up)) in
          let it : among n (g ∷ []) ≡ true = ap (among n) (sym one) ∙ there in
          found_any (serves n) s.plan.activities a.id a here (ap (is_number n) e ∙ is_it n (Some g) it)

  concerns : (n : ℕ) → among n ids ≡ false → among n (touched_ids s (a.id ∷ []) (placed_by s (Detail a.id alternative))) ≡ false
  unfolding touched_ids
  concerns n none =
      let own : eqb a.id n ≡ false = or_first_false (eqb a.id n) (among n (map id_of children)) none in
      let kin : flat_map (children_at s) (a.id ∷ []) ≡ [] = rw (childless s a.id a whole here (undone s whole a here root alternative can)) refl in
      ap (λ (l : List Activity). among n (((a.id ∷ []) ++ map id_of l) ++ flat_map (children_at s) (a.id ∷ []))) more_is
      ∙ (ap (λ (l : List ℕ). among n ((a.id ∷ ids) ++ l)) kin
      ∙ (among-append n (a.id ∷ ids) []
      ∙ or_from (among n (a.id ∷ ids)) false (or_from (eqb a.id n) (among n ids) own none) refl))

  -- ---- others

  abbrev pub others : List Conflict
  others = filter (is_elsewhere ids) (conflicts_of s)

  others_left : AreLeft t others
  others_left = record { apart = standing_apart s (is_elsewhere ids); each = elsewhere_stays s whole next (Detail a.id alternative) tt can ids serves_before concerns }

  -- ---- children

  abbrev lack : Activity → Conflict
  lack x = at_start x Undetailed 0 0

  abbrev lacking : List Activity → List Conflict
  lacking xs = map lack (filter (lacks s) xs)

  record IsNew (x : Activity) : Type 0 where
    there : found t x.id ≡ Some x
    bare : x.detail ≡ None
    later : is_committed t x ≡ false
    among_ids : among x.id ids ≡ true

  lack_stands : (x : Activity) → IsNew x → lacks s x ≡ true → has (lack x) (conflicts_of t) ≡ true
  unfolding applied
  lack_stands x new some =
      let none : eqb (length (alternatives_of (kind_of s.model x))) 0 ≡ false = not-true (eqb (length (alternatives_of (kind_of s.model x))) 0) some in
      let one : undetailed_at t x ≡ lack x ∷ [] = rw (new.bare, none) refl in
      wrong_is_left t whole_t (lack x) (ap (λ (o : Option Activity). has (lack x) (of_found (wrong_at t) o)) new.there ∙ wrong_new t x new.later one)

  not_other : (x : Activity) → IsNew x → has (lack x) others ≡ false
  not_other x new = false_from_ne_true (has (lack x) others) (λ h. absurd (
      let passes = (has_passing (is_elsewhere ids) (conflicts_of s) (lack x) h).1 in
      let either = and_second (is_plain (lack x)) (is_open_one (lack x) || not (among x.id ids)) passes in
      let neither : (is_open_one (lack x) || not (among x.id ids)) ≡ false = ap (λ b. false || not b) new.among_ids in
      let bad : false ≡ true = sym neither ∙ either in
      cc))

  none_before : (q c : ℕ) (xs : List Activity) → RiseFrom c xs → q < c → (k : Conflict) → k.subject ≡ q → has k (lacking xs) ≡ false
  none_before q c [] rises lt k is = refl
  none_before q c (x ∷ xs) rises lt k is = by (lacks s x) refl (none_before q (suc x.id) xs rises.1 (omega (arith, lt, rises.0)) k is)
    where
      differ : same k (lack x) ≡ false
      differ = false_from_ne_true (same k (lack x)) (λ h. absurd (let e : k ≡ lack x = same_is k (lack x) h in let sub : q ≡ x.id = sym is ∙ ap (λ (z : Conflict). z.subject) e in omega (arith, lt, rises.0, sub)))

      by : (b : Bool) → lacks s x ≡ b → has k (lacking xs) ≡ false → has k (map lack (cond b (x ∷ filter (lacks s) xs) (filter (lacks s) xs))) ≡ false
      by true e rest = or_from (same k (lack x)) (has k (lacking xs)) differ rest
      by false e rest = rest

  all_left : (c : ℕ) (xs : List Activity) → RiseFrom c xs → All IsNew xs → AreLeft t (lacking xs ++ others)
  all_left c [] rises all = others_left
  all_left c (x ∷ xs) rises all = by (lacks s x) refl (all_left (suc x.id) xs rises.1 (All-tail IsNew x xs all))
    where
      new : IsNew x
      new = All-head IsNew x xs all

      by : (b : Bool) → lacks s x ≡ b → AreLeft t (lacking xs ++ others) → AreLeft t (map lack (cond b (x ∷ filter (lacks s) xs) (filter (lacks s) xs)) ++ others)
      by true e rest = with_one t (lacking xs ++ others) rest (lack x)
          (has-append (lacking xs) others (lack x) ∙ or_from (has (lack x) (lacking xs)) (has (lack x) others) (none_before x.id (suc x.id) xs rises.1 (omega arith) (lack x) refl) (not_other x new))
          (lack_stands x new e) refl
      by false e rest = rest

  rises : AreRising more
  rises = subst (λ (l : List Activity). AreRising l) more_is (made s whole (Detail a.id alternative) tt can.proper can.allowed).swap.rises

  may_here : MayBeMade s (Detail a.id alternative)
  may_here = may s (Detail a.id alternative) can.allowed

  above : All (λ (x : Activity). floor_of s ≤ x.start) children
  above = subst (λ (o : Option Activity). All (λ (x : Activity). floor_of s ≤ x.start) (children_for s alternative o)) here may_here.above

  held : (xs : List Activity) → All (λ (x : Activity). among x.id (map id_of xs) ≡ true) xs
  held xs k d lt = inside xs k d lt
    where
      inside : (ys : List Activity) (k : ℕ) (d : Activity) → k < length ys → among (get_or ys k d).id (map id_of ys) ≡ true
      inside [] k d lt = absurd (omega (arith, lt))
      inside (y ∷ ys) zero d lt = or_left (eqb y.id y.id) (among y.id (map id_of ys)) (eq-eqb y.id y.id refl)
      inside (y ∷ ys) (suc k) d lt = or_right (eqb y.id (get_or ys k d).id) (among (get_or ys k d).id (map id_of ys)) (inside ys k d (omega (arith, lt)))

  all_new : All IsNew children
  unfolding applied
  all_new k d lt =
      let low = above k d lt in
      record {
        there = All-tail (λ (x : Activity). found t x.id ≡ Some x) (detailed alternative a) children (each_here s whole next a here root alternative can) k d lt;
        bare = (all_up k d lt).bare;
        later = le-ltb (get_or children k d).start s.committed (omega (arith, low));
        among_ids = All-tail (λ (x : Activity). among x.id ids ≡ true) (detailed alternative a) children (held more) k d lt;
      }

  pub choice_left : (n m : ℕ) → n ≤ length others → m ≤ length (filter (lacks s) children) → n + m ≤ count_of_plain t
  choice_left n m few some =
      let left = left_few t (lacking children ++ others) (all_left (suc a.id) children rises.1 all_new) in
      let both = length-append (lacking children) others in
      let same_length = length-map (filter (lacks s) children) lack in
      omega (arith, few, some, left, both, same_length)
