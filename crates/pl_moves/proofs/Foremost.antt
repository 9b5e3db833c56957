-- The first activity of which a test holds: its id is the least. How the first of a subtree comes from those of the children.
use Rattle.std.proofs.Common.{◌≡◌, ℕ, suc, ◌<◌, ◌≤◌, min, eqb, ltb, Bool, true, false, List, [], ◌∷◌, map, ◌⊎◌, inl, inr, ⊎_elim, refl, sym, subst, ap, ◌∙◌, arith}
use Rattle.std.specs.Prelude.{◌&&◌, length, find, filter, Option, Some, None}
use Rattle.std.specs.Option.{option_map}
use Rattle.std.proofs.lemmas.Bool.{eq-eqb, eqb-true, ltb-true, lt-ltb, and_parts, and_from, cases_lt}
use Rattle.pl_plan.specs.declared.activity.Activity.{Activity}
use Rattle.pl_plan.specs.Activities.{RiseFrom, AreRising, activity_of}
use Rattle.pl_plan.specs.Fitting.{IsInSlot, chosen_slots_of}
use Rattle.pl_plan.specs.Trees.{id_of, IsRooted, parent_id, parent_in, parent_of, is_child, children_of, Descends, itself, child, descends}
use Rattle.pl_plan.proofs.Climbs.{all_at, parent_smaller}
use Rattle.pl_plan.proofs.Lookups.{none_below}
use Rattle.pl_plan.proofs.Subtrees.{named_live, number_is, is_this}
use Rattle.pl_plan.proofs.TreeLaws.{descends_join, descends_sound, descends_complete}
use Rattle.pl_semantics.specs.declared.plan_state.PlanState.{PlanState}
use Rattle.pl_semantics.specs.PlanStates.{found}
use Rattle.pl_semantics.specs.Whole.{IsWhole}
use Rattle.pl_semantics.specs.Moves.{holds, is_under, moved, moved_with}
use Rattle.pl_moves.specs.Objections.{lesser}
use Rattle.pl_moves.specs.Sides.{first_on, moves_to, when_so}
use Rattle.pl_moves.specs.declared.side.Side.{Side}
use Rattle.pl_moves.proofs.Returning.{has_its_id}
use Rattle.pl_moves.proofs.Subtrees.{live_id}

-- ---- the least number of which a fact holds

-- with none, it holds of no number
abbrev pub IsLeast : (ℕ → Type 0) → Option ℕ → Type 0
IsLeast P None = (q : ℕ) → P q → ⊥
IsLeast P (Some n) = P n × ((q : ℕ) → P q → n ≤ q)

least_same : (P Q : ℕ → Type 0) → ((q : ℕ) → P q → Q q) → ((q : ℕ) → Q q → P q) → (o : Option ℕ) → IsLeast P o → IsLeast Q o
least_same P Q there back None least = λ q h. least q (back q h)
least_same P Q there back (Some n) least = (there n least.0, λ q h. least.1 q (back q h))

least_unique : (P : ℕ → Type 0) (o r : Option ℕ) → IsLeast P o → IsLeast P r → o ≡ r
least_unique P None None least other = refl
least_unique P None (Some m) least other = absurd (least m other.0)
least_unique P (Some n) None least other = absurd (other n least.0)
least_unique P (Some n) (Some m) least other =
    let below : n ≤ m = least.1 m other.0 in
    let above : m ≤ n = other.1 n least.0 in
    let same : n ≡ m = omega (arith, below, above) in
    ap (λ (i : ℕ). Some i) same

-- of two facts, each of which gives a third one, and one of which the third one gives
module _ (P Q R : ℕ → Type 0) (left : (q : ℕ) → P q → R q) (right : (q : ℕ) → Q q → R q) (either : (q : ℕ) → R q → P q ⊎ Q q) where
  least_lesser : (o r : Option ℕ) → IsLeast P o → IsLeast Q r → IsLeast R (lesser o r)
  least_lesser None None least other = λ q h. ⊎_elim (least q) (other q) (either q h)
  least_lesser None (Some m) least other = (right m other.0, λ q h. ⊎_elim (λ (p : P q). absurd (least q p)) (other.1 q) (either q h))
  least_lesser (Some n) None least other = (left n least.0, λ q h. ⊎_elim (least.1 q) (λ (p : Q q). absurd (other q p)) (either q h))
  least_lesser (Some n) (Some m) least other = (holds_there, λ q h. ⊎_elim (from_left q) (from_right q) (either q h))
    where
      from_left : (q : ℕ) → P q → min n m ≤ q
      from_left q p = let le : n ≤ q = least.1 q p in omega (arith, le)

      from_right : (q : ℕ) → Q q → min n m ≤ q
      from_right q p = let le : m ≤ q = other.1 q p in omega (arith, le)

      holds_there : R (min n m)
      holds_there = ⊎_elim
          (λ (lt : n < m). let same : n ≡ min n m = omega (arith, lt) in subst R same (left n least.0))
          (λ (le : m ≤ n). let same : m ≡ min n m = omega (arith, le) in subst R same (right m other.0))
          (cases_lt n m)

-- ---- the first activity of which a test holds

-- there is one of this id, and the test holds of it
abbrev pub Passes : (Activity → Bool) → List Activity → ℕ → Type 0
Passes test xs q = holds test (activity_of q xs) ≡ true

none_passes : (test : Activity → Bool) (xs : List Activity) (q : ℕ) → activity_of q xs ≡ None → Passes test xs q → ⊥
none_passes test xs q none h = let bad : false ≡ true = rw none at h in cc

pub first_least : (test : Activity → Bool) (c : ℕ) (xs : List Activity) → RiseFrom c xs → IsLeast (Passes test xs) (option_map id_of (find test xs))
first_least test c [] rising = λ q h. let bad : false ≡ true = h in cc
first_least test c (x ∷ xs) rising = cases (test x) refl (first_least test (suc x.id) xs rising.1)
  where
    none_before : (q : ℕ) → Passes test (x ∷ xs) q → x.id ≤ q
    none_before q h = ⊎_elim
        (λ (lt : q < x.id). absurd (none_passes test (x ∷ xs) q (none_below (x ∷ xs) x.id q (omega arith, rising.1) lt) h))
        (λ (le : x.id ≤ q). le)
        (cases_lt q x.id)

    here : test x ≡ true → Passes test (x ∷ xs) x.id
    here t = rw (eq-eqb x.id x.id refl) t

    later : (q : ℕ) → Passes test xs q → Passes test (x ∷ xs) q
    later q h = by (eqb x.id q) refl
      where
        by : (b : Bool) → eqb x.id q ≡ b → Passes test (x ∷ xs) q
        by true e =
            let same : x.id ≡ q = eqb-true x.id q e in
            absurd (none_passes test xs q (none_below xs (suc x.id) q rising.1 (omega (arith, same))) h)
        by false e = rw e h

    earlier : test x ≡ false → (q : ℕ) → Passes test (x ∷ xs) q → Passes test xs q
    earlier t q h = by (eqb x.id q) refl
      where
        by : (b : Bool) → eqb x.id q ≡ b → Passes test xs q
        by true e = let bad : test x ≡ true = rw e at h in absurd (cc)
        by false e = rw e at h

    cases : (b : Bool) → test x ≡ b → IsLeast (Passes test xs) (option_map id_of (find test xs)) → IsLeast (Passes test (x ∷ xs)) (option_map id_of (find test (x ∷ xs)))
    cases true t more = rw t (here t, none_before)
    cases false t more = rw t (least_same (Passes test xs) (Passes test (x ∷ xs)) later (earlier t) (option_map id_of (find test xs)) more)

find_both : (p q : Activity → Bool) (xs : List Activity) → find (λ a. p a && q a) xs ≡ find q (filter p xs)
find_both p q [] = refl
find_both p q (x ∷ xs) = cases (p x) refl (find_both p q xs)
  where
    cases : (b : Bool) → p x ≡ b → find (λ a. p a && q a) xs ≡ find q (filter p xs) → find (λ a. p a && q a) (x ∷ xs) ≡ find q (filter p (x ∷ xs))
    cases true e more = rw (e, more) refl
    cases false e more = rw e more

-- by ids
find_named : (p : Activity → Bool) (b : ℕ → Bool) (xs : List Activity) → find b (map id_of (filter p xs)) ≡ option_map id_of (find (λ a. p a && b a.id) xs)
find_named p b [] = refl
find_named p b (x ∷ xs) = cases (p x) refl (b x.id) refl (find_named p b xs)
  where
    cases : (d : Bool) → p x ≡ d → (e : Bool) → b x.id ≡ e → find b (map id_of (filter p xs)) ≡ option_map id_of (find (λ a. p a && b a.id) xs) → find b (map id_of (filter p (x ∷ xs))) ≡ option_map id_of (find (λ a. p a && b a.id) (x ∷ xs))
    cases true f true g more = rw (f, g) refl
    cases true f false g more = rw (f, g) more
    cases false f true g more = rw f more
    cases false f false g more = rw f more

pub first_none : (xs : List Activity) → option_map id_of (find (λ a. false) xs) ≡ None
first_none [] = refl
first_none (x ∷ xs) = first_none xs

-- of one alone
pub first_alone : (test : Activity → Bool) (id c : ℕ) (xs : List Activity) → RiseFrom c xs → option_map id_of (find (λ a. eqb a.id id && test a) xs) ≡ when_so (holds test (activity_of id xs)) id
first_alone test id c [] rising = refl
first_alone test id c (x ∷ xs) rising = cases (eqb x.id id) refl (test x) refl (first_alone test id (suc x.id) xs rising.1)
  where
    cases : (b : Bool) → eqb x.id id ≡ b → (d : Bool) → test x ≡ d → option_map id_of (find (λ a. eqb a.id id && test a) xs) ≡ when_so (holds test (activity_of id xs)) id
        → option_map id_of (find (λ a. eqb a.id id && test a) (x ∷ xs)) ≡ when_so (holds test (activity_of id (x ∷ xs))) id
    cases true e true f more = rw (e, f) (ap (λ (i : ℕ). Some i) (eqb-true x.id id e))
    cases true e false f more =
        let same : x.id ≡ id = eqb-true x.id id e in
        let none : activity_of id xs ≡ None = none_below xs (suc x.id) id rising.1 (omega (arith, same)) in
        let rest : option_map id_of (find (λ a. eqb a.id id && test a) xs) ≡ None = rw none at more in
        rw (e, f) rest
    cases false e true f more = rw e more
    cases false e false f more = rw e more

-- of those that are moved along
first_of_moved : (s : PlanState) (side : Side) (from to : ℕ) (xs : List Activity) → first_on s side (map (moved from to) xs) ≡ option_map id_of (find (moves_to s side from to) xs)
first_of_moved s side from to [] = refl
first_of_moved s side from to (x ∷ xs) = cases (moves_to s side from to x) refl (first_of_moved s side from to xs)
  where
    cases : (b : Bool) → moves_to s side from to x ≡ b → first_on s side (map (moved from to) xs) ≡ option_map id_of (find (moves_to s side from to) xs) → first_on s side (map (moved from to) (x ∷ xs)) ≡ option_map id_of (find (moves_to s side from to) (x ∷ xs))
    cases true e more = rw e refl
    cases false e more = rw e more

pub first_shifted : (s : PlanState) (side : Side) (id to : ℕ) (top : Activity) → found s id ≡ Some top
    → option_map id_of (find (λ a. is_under s id a && moves_to s side top.start to a) s.plan.activities) ≡ first_on s side (moved_with s to (found s id))
first_shifted s side id to top here =
    let xs = s.plan.activities in
    let is_id : top.id ≡ id = has_its_id xs id top here in
    rw (here, is_id) (ap (option_map id_of) (find_both (is_under s id) (moves_to s side top.start to) xs) ∙ sym (first_of_moved s side top.start to (filter (is_under s id) xs)))

-- ---- those below an activity

-- below one of its children
record IsBelow (xs : List Activity) (top q : ℕ) : Type 0 where
  branch : ℕ
  parent : parent_of branch xs ≡ Some top
  under : Descends xs branch q

below : (xs : List Activity) (top q : ℕ) → Descends xs top q → (q ≡ top) ⊎ IsBelow xs top q
below xs top q itself = inl refl
below xs top q (child n p is above) = ⊎_elim
    (λ (e : p ≡ top). inr (record { branch = n; parent = is ∙ ap (λ (i : ℕ). Some i) e; under = itself }))
    (λ (b : IsBelow xs top p). inr (record { branch = b.branch; parent = b.parent; under = child n p is b.under }))
    (below xs top p above)

-- it is a child, and behind an id
abbrev pub IsChildBehind : List Activity → ℕ → ℕ → ℕ → Type 0
IsChildBehind xs top last q = (parent_of q xs ≡ Some top) × (last < q)

abbrev is_child_behind : ℕ → ℕ → Activity → Bool
is_child_behind top last a = is_child top a && ltb last a.id

pub next_child : (xs : List Activity) → AreRising xs → (top last : ℕ) → IsLeast (IsChildBehind xs top last) (find (ltb last) (children_of top xs))
next_child xs rising top last =
    let least = first_least (is_child_behind top last) 0 xs rising in
    let same = find_named (is_child top) (ltb last) xs in
    subst (λ o. IsLeast (IsChildBehind xs top last) o) (sym same) (least_same (Passes (is_child_behind top last) xs) (IsChildBehind xs top last) there back (option_map id_of (find (is_child_behind top last) xs)) least)
  where
    there : (q : ℕ) → Passes (is_child_behind top last) xs q → IsChildBehind xs top last q
    there q h = by (activity_of q xs) refl
      where
        by : (o : Option Activity) → activity_of q xs ≡ o → IsChildBehind xs top last q
        by None e = absurd (none_passes (is_child_behind top last) xs q e h)
        by (Some a) e =
            let both : (is_child top a && ltb last a.id) ≡ true = rw e at h in
            let parts = and_parts (is_child top a) (ltb last a.id) both in
            (rw e (number_is top (parent_in a) parts.0), subst (λ i. last < i) (has_its_id xs q a e) (ltb-true last a.id parts.1))

    back : (q : ℕ) → IsChildBehind xs top last q → Passes (is_child_behind top last) xs q
    back q h = by (activity_of q xs) refl
      where
        by : (o : Option Activity) → activity_of q xs ≡ o → Passes (is_child_behind top last) xs q
        by None e = let bad : None ≡ Some top = rw e at h.0 in absurd (cc)
        by (Some a) e =
            let named : parent_in a ≡ Some top = rw e at h.0 in
            let larger : last < a.id = subst (λ i. last < i) (sym (has_its_id xs q a e)) h.1 in
            rw e (and_from (is_child top a) (ltb last a.id) (is_this top (parent_in a) named) (lt-ltb last a.id larger))

-- ---- the first of a subtree of which a test holds

-- it is of the subtree, and the test holds of it
abbrev pub PassesUnder : List Activity → (Activity → Bool) → ℕ → ℕ → Type 0
PassesUnder xs test top q = Passes (λ a. descends xs top a.id && test a) xs q

-- it is of the subtree of a child up to an id, and the test holds of it
pub record IsSoFar (xs : List Activity) (test : Activity → Bool) (top last q : ℕ) : Type 0 where
  pub branch : ℕ
  pub parent : parent_of branch xs ≡ Some top
  pub so_far : branch ≤ last
  pub passes : PassesUnder xs test branch q

module _ (xs : List Activity) (rooted : IsRooted xs) (rising : AreRising xs) (test : Activity → Bool) where
  under_parts : (top q : ℕ) → PassesUnder xs test top q → Descends xs top q × Passes test xs q
  under_parts top q h = by (activity_of q xs) refl
    where
      by : (o : Option Activity) → activity_of q xs ≡ o → Descends xs top q × Passes test xs q
      by None e = absurd (none_passes (λ a. descends xs top a.id && test a) xs q e h)
      by (Some a) e =
          let both : (descends xs top a.id && test a) ≡ true = rw e at h in
          let parts = and_parts (descends xs top a.id) (test a) both in
          (descends_sound xs rooted top q (subst (λ i. descends xs top i ≡ true) (has_its_id xs q a e) parts.0), rw e parts.1)

  under_from : (top q : ℕ) → Descends xs top q → Passes test xs q → PassesUnder xs test top q
  under_from top q under h = by (activity_of q xs) refl
    where
      by : (o : Option Activity) → activity_of q xs ≡ o → PassesUnder xs test top q
      by None e = absurd (none_passes test xs q e h)
      by (Some a) e =
          let passes : test a ≡ true = rw e at h in
          rw e (and_from (descends xs top a.id) (test a) (subst (λ i. descends xs top i ≡ true) (sym (has_its_id xs q a e)) (descends_complete xs rooted top q under)) passes)

  not_less : (top q : ℕ) → Descends xs top q → top ≤ q
  not_less top q itself = omega arith
  not_less top q (child n p is above) =
      let le : top ≤ p = not_less top p above in
      let lt : p < n = (parent_smaller xs rooted n p is).1 in
      omega (arith, le, lt)

  -- what is said with a list and without one
  pub is_first : (top : ℕ) (o : Option ℕ) → IsLeast (PassesUnder xs test top) o → o ≡ option_map id_of (find (λ a. descends xs top a.id && test a) xs)
  is_first top o least = least_unique (PassesUnder xs test top) o (option_map id_of (find (λ a. descends xs top a.id && test a) xs)) least (first_least (λ a. descends xs top a.id && test a) 0 xs rising)

  first_is : (top : ℕ) (o : Option ℕ) → o ≡ option_map id_of (find (λ a. descends xs top a.id && test a) xs) → IsLeast (PassesUnder xs test top) o
  first_is top o is = subst (λ r. IsLeast (PassesUnder xs test top) r) (sym is) (first_least (λ a. descends xs top a.id && test a) 0 xs rising)

  module _ (top : ℕ) (a : Activity) (here : activity_of top xs ≡ Some a) where
    -- where the test holds of the topmost one
    pub first_itself : test a ≡ true → Some top ≡ option_map id_of (find (λ x. descends xs top x.id && test x) xs)
    first_itself t = is_first top (Some top) (under_from top top itself (rw here t), λ q h. not_less top q (under_parts top q h).0)

    only_below : test a ≡ false → (q : ℕ) → PassesUnder xs test top q → IsBelow xs top q
    only_below f q h = ⊎_elim
        (λ (e : q ≡ top). let at_top : Passes test xs top = subst (λ i. Passes test xs i) e (under_parts top q h).1 in let bad : test a ≡ true = rw here at at_top in absurd (cc))
        (λ (b : IsBelow xs top q). b)
        (below xs top q (under_parts top q h).0)

    -- where it does not, and there are no children
    pub first_of_leaf : test a ≡ false → ((q : ℕ) → parent_of q xs ≡ Some top → ⊥) → None ≡ option_map id_of (find (λ x. descends xs top x.id && test x) xs)
    first_of_leaf f none = is_first top None (λ q h. let b = only_below f q h in none b.branch b.parent)

    -- where it does not, and no child is behind the last one that was looked at
    pub first_of_all : test a ≡ false → (last : ℕ) (o : Option ℕ) → find (ltb last) (children_of top xs) ≡ None → IsLeast (IsSoFar xs test top last) o → o ≡ option_map id_of (find (λ x. descends xs top x.id && test x) xs)
    first_of_all f last o end least = is_first top o (least_same (IsSoFar xs test top last) (PassesUnder xs test top) there back o least)
      where
        none : (q : ℕ) → IsChildBehind xs top last q → ⊥
        none = subst (λ r. IsLeast (IsChildBehind xs top last) r) end (next_child xs rising top last)

        there : (q : ℕ) → IsSoFar xs test top last q → PassesUnder xs test top q
        there q h =
            let parts = under_parts h.branch q h.passes in
            under_from top q (descends_join xs top h.branch q (child h.branch top h.parent itself) parts.0) parts.1

        back : (q : ℕ) → PassesUnder xs test top q → IsSoFar xs test top last q
        back q h =
            let b = only_below f q h in
            let so_far : b.branch ≤ last = ⊎_elim (λ (lt : last < b.branch). absurd (none b.branch (b.parent, lt))) (λ (le : b.branch ≤ last). le) (cases_lt last b.branch) in
            record { branch = b.branch; parent = b.parent; so_far = so_far; passes = under_from b.branch q b.under (under_parts top q h).1 }

  -- no child is up to the topmost one
  pub none_so_far : (top : ℕ) → IsLeast (IsSoFar xs test top top) None
  none_so_far top q h =
      let lt : top < h.branch = (parent_smaller xs rooted h.branch top h.parent).1 in
      let le : h.branch ≤ top = h.so_far in
      omega (arith, lt, le)

  pub more_so_far : (top last next : ℕ) (o r : Option ℕ) → find (ltb last) (children_of top xs) ≡ Some next → IsLeast (IsSoFar xs test top last) o
      → r ≡ option_map id_of (find (λ x. descends xs next x.id && test x) xs) → IsLeast (IsSoFar xs test top next) (lesser o r)
  more_so_far top last next o r found least is = least_lesser (IsSoFar xs test top last) (PassesUnder xs test next) (IsSoFar xs test top next) left right either o r least (first_is next r is)
    where
      behind : IsChildBehind xs top last next × ((q : ℕ) → IsChildBehind xs top last q → next ≤ q)
      behind = subst (λ p. IsLeast (IsChildBehind xs top last) p) found (next_child xs rising top last)

      left : (q : ℕ) → IsSoFar xs test top last q → IsSoFar xs test top next q
      left q h =
          let lt : last < next = behind.0.1 in
          let le : h.branch ≤ last = h.so_far in
          record { branch = h.branch; parent = h.parent; so_far = omega (arith, lt, le); passes = h.passes }

      right : (q : ℕ) → PassesUnder xs test next q → IsSoFar xs test top next q
      right q h = record { branch = next; parent = behind.0.0; so_far = omega arith; passes = h }

      either : (q : ℕ) → IsSoFar xs test top next q → IsSoFar xs test top last q ⊎ PassesUnder xs test next q
      either q h = ⊎_elim
          (λ (lt : last < h.branch).
          let above : next ≤ h.branch = behind.1 h.branch (h.parent, lt) in
          let le : h.branch ≤ next = h.so_far in
          let same : h.branch ≡ next = omega (arith, above, le) in
          inr (subst (λ i. PassesUnder xs test i q) same h.passes))
          (λ (le : h.branch ≤ last). inl (record { branch = h.branch; parent = h.parent; so_far = le; passes = h.passes }))
          (cases_lt last h.branch)

  -- the next child
  pub next_is : (top last next : ℕ) → find (ltb last) (children_of top xs) ≡ Some next → (parent_of next xs ≡ Some top) × ((last < next) × (top < next))
  next_is top last next found =
      let behind : IsChildBehind xs top last next × ((q : ℕ) → IsChildBehind xs top last q → next ≤ q) = subst (λ p. IsLeast (IsChildBehind xs top last) p) found (next_child xs rising top last) in
      (behind.0.0, (behind.0.1, (parent_smaller xs rooted next top behind.0.0).1))

-- an activity with no alternative chosen has no children
pub childless : (s : PlanState) → IsWhole s → (top : ℕ) (a : Activity) → found s top ≡ Some a → a.detail ≡ None → (q : ℕ) → parent_of q s.plan.activities ≡ Some top → ⊥
childless s whole top a here bare q is = by (activity_of q s.plan.activities) refl
  where
    by : (o : Option Activity) → activity_of q s.plan.activities ≡ o → ⊥
    by None e = let bad : None ≡ Some top = rw e at is in cc
    by (Some b) e = by_parent b.parent refl
      where
        named : parent_id b.parent ≡ Some top
        named = rw e at is

        by_parent : (o : Option (ℕ × ℕ)) → b.parent ≡ o → ⊥
        by_parent None f = let bad : None ≡ Some top = rw f at named in cc
        by_parent (Some p) f =
            let at_top : Some p.0 ≡ Some top = rw f at named in
            let same : p.0 ≡ top = cc in
            let in_slot = (all_at (IsInSlot s.model s.plan.activities) s.plan.activities q b whole.fits.no_other e).0 in
            let slot : p.1 < length (chosen_slots_of s.model (activity_of p.0 s.plan.activities)) = rw f at in_slot in
            let none : p.1 < 0 = rw (same, here, bare) at slot in
            omega (arith, none)

-- the next child is live, and below the next id
pub child_id : (s : PlanState) → IsWhole s → (next top : ℕ) → parent_of next s.plan.activities ≡ Some top → next < s.next_id
child_id s whole next top is = (live_id s whole next next (named_live s.plan.activities next top is)).1
