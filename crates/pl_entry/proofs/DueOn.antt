-- What is due, and what comes to be due as the present moves on.
use Rattle.std.proofs.Common.{◌≡◌, ℕ, ◌<◌, ◌≤◌, ltb, true, List, [], ◌∷◌, ◌++◌, Some, sym, ◌∙◌, ap, arith, ◌⊎◌, inl, inr}
use Rattle.std.specs.Prelude.{All, AllPairs, Contains}
use Rattle.std.proofs.lemmas.Bool.{cases_lt, and_parts, and_from, ltb-true, lt-ltb}
use Rattle.std.proofs.lemmas.List.Elements.{All-append, All-head, All-tail, All-weaker, All-contains_itself, Contains-append_left, Contains-append_right, Contains-append_cases}
use Rattle.std.proofs.lemmas.List.Kept.{AllPairs-cons}
use Rattle.std.proofs.lemmas.Option.{same_Some}
use Rattle.pl_model.specs.declared.whole.Model.{Model}
use Rattle.pl_plan.specs.declared.activity.Activity.{Activity}
use Rattle.pl_plan.specs.Activities.{AreRising, activity_of}
use Rattle.pl_entry.specs.Due.{IsDue, is_due, is_due_since, due_of, due_since, AreDue}
use Rattle.pl_entry.proofs.DueLaws.{Before, due_holds, due_passes, due_meets, due_only, listed, lists, lists_in_order, all_behind, pairs_behind}

-- due, and started behind the earlier moment
abbrev IsDueSince : Model → ℕ → ℕ → ℕ → Activity → Type 0
IsDueSince model before now c a = (before < a.start) × IsDue model now c a

since_holds : (model : Model) (before now c : ℕ) (a : Activity) → is_due_since model before now c a ≡ true → IsDueSince model before now c a
since_holds model before now c a e =
    let parts = and_parts (ltb before a.start) (is_due model now c a) e in
    (ltb-true before a.start parts.0, due_holds model now c a parts.1)

since_passes : (model : Model) (before now c : ℕ) (a : Activity) → IsDueSince model before now c a → is_due_since model before now c a ≡ true
since_passes model before now c a d = and_from (ltb before a.start) (is_due model now c a) (lt-ltb before a.start d.0) (due_passes model now c a d.1)

pairs_joined : (R : ℕ → ℕ → Type 0) (xs ys : List ℕ) → AllPairs R xs → AllPairs R ys → All (λ x. All (R x) ys) xs → AllPairs R (xs ++ ys)
pairs_joined R [] ys rx ry across = ry
pairs_joined R (x ∷ xs) ys rx ry across =
    AllPairs-cons R x (xs ++ ys) (All-append (R x) xs ys (all_behind R x xs rx) (All-head (λ z. All (R z) ys) x xs across))
    (pairs_joined R xs ys (pairs_behind R x xs rx) ry (All-tail (λ z. All (R z) ys) x xs across))

module _ (model : Model) (xs : List Activity) (rising : AreRising xs) (before now c : ℕ) (le : before ≤ now) where
  abbrev old : List ℕ
  old = due_of model xs before c

  abbrev new : List ℕ
  new = due_since model xs before now c

  old_is : AreDue model xs before c old
  old_is = due_meets model xs rising before c

  new_there : (id : ℕ) → Contains new id → (a : Activity) × (activity_of id xs ≡ Some a) × IsDueSince model before now c a
  unfolding due_since
  new_there id has = listed (is_due_since model before now c) (IsDueSince model before now c) (since_holds model before now c) xs rising id has

  new_back : (id : ℕ) (a : Activity) → activity_of id xs ≡ Some a → IsDueSince model before now c a → Contains new id
  unfolding due_since
  new_back id a is d = lists (is_due_since model before now c) xs id a is (since_passes model before now c a d)

  new_order : AllPairs (Before xs) new
  unfolding due_since
  new_order = lists_in_order (is_due_since model before now c) (IsDueSince model before now c) (since_holds model before now c) xs rising

  there : (id : ℕ) → Contains (old ++ new) id → (a : Activity) × (activity_of id xs ≡ Some a) × IsDue model now c a
  there id has = by (Contains-append_cases old new id has)
    where
      by : (Contains old id ⊎ Contains new id) → (a : Activity) × (activity_of id xs ≡ Some a) × IsDue model now c a
      by (inl h) =
          let w = (old_is.members id).0 h in
          let begun = w.2.started in
          (w.0, w.1, record { committed = w.2.committed; started = omega (arith, begun, le); basic = w.2.basic })
      by (inr h) = let w = new_there id h in (w.0, w.1, w.2.1)

  back : (id : ℕ) → (a : Activity) × (activity_of id xs ≡ Some a) × IsDue model now c a → Contains (old ++ new) id
  back id (a, is, d) = by (cases_lt before a.start)
    where
      by : ((before < a.start) ⊎ (a.start ≤ before)) → Contains (old ++ new) id
      by (inl lt) = Contains-append_right old new id (new_back id a is (lt, d))
      by (inr begun) = Contains-append_left old new id ((old_is.members id).1 (a, is, record { committed = d.committed; started = begun; basic = d.basic }))

  apart : (m n : ℕ) → Contains old m → Contains new n → Before xs m n
  apart m n hm hn a b ea eb =
      let w = (old_is.members m).0 hm in
      let v = new_there n hn in
      let one = ap (λ (x : Activity). x.start) (same_Some a w.0 (sym ea ∙ w.1)) in
      let two = ap (λ (x : Activity). x.start) (same_Some b v.0 (sym eb ∙ v.1)) in
      let begun = w.2.started in
      let later = v.2.0 in
      inl (omega (arith, one, two, begun, later))

  across : All (λ m. All (Before xs m) new) old
  across = All-weaker (Contains old) (λ m. All (Before xs m) new) (λ m hm. All-weaker (Contains new) (Before xs m) (λ n hn. apart m n hm hn) new (All-contains_itself new)) old (All-contains_itself old)

  -- what is due later is what was due before, and then what comes to be due
  pub due_goes_on : due_of model xs now c ≡ old ++ new
  due_goes_on = sym (due_only model xs rising now c (old ++ new) (record {
    members = λ id. (there id, back id);
    order = pairs_joined (Before xs) old new old_is.order new_order across;
  }))
