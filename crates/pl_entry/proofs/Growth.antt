-- A later list of due activities begins with the earlier one.
use Rattle.std.proofs.Common.{◌≡◌, ℕ, zero, suc, ◌≤◌, Bool, true, false, cond, List, [], ◌∷◌, ◌++◌, Option, Some, None, refl, sym, ◌∙◌, ap, subst, arith, inl, inr}
use Rattle.std.specs.Prelude.{All, AllPairs, Contains, filter, slice_index_or}
use Rattle.std.proofs.lemmas.List.Elements.{All-head, All-tail, All-contains, All-filter, filter_passes, All-contains_itself, Contains-get_or}
use Rattle.std.proofs.lemmas.List.Kept.{AllPairs-filter}
use Rattle.pl_model.specs.declared.whole.Model.{Model}
use Rattle.pl_plan.specs.declared.activity.Activity.{Activity}
use Rattle.pl_plan.specs.Activities.{AreRising, activity_of}
use Rattle.pl_entry.specs.Due.{IsDue, is_due, due_of, StartsBefore, AreDue}
use Rattle.pl_entry.proofs.DueLaws.{due_holds, due_passes, due_meets, due_only, contains_cons, all_behind, pairs_behind}

passes_in : (Activity → Bool) → Option Activity → Bool
passes_in p None = false
passes_in p (Some a) = p a

-- what passes stays
stays : (p : ℕ → Bool) (xs : List ℕ) (q : ℕ) → Contains xs q → p q ≡ true → Contains (filter p xs) q
stays p [] q (k, lt, is) holds = absurd (omega (arith, lt))
stays p (x ∷ xs) q (zero, lt, is) holds = let passes : p x ≡ true = subst (λ y. p y ≡ true) (sym is) holds in rw passes (0, omega arith, is)
stays p (x ∷ xs) q (suc k, lt, is) holds = by (p x) (stays p xs q (k, omega (arith, lt), is) holds)
  where
    by : (b : Bool) → Contains (filter p xs) q → Contains (cond b (x ∷ filter p xs) (filter p xs)) q
    by true h = contains_cons x (filter p xs) q h
    by false h = h

none_passes : (p : ℕ → Bool) (xs : List ℕ) → All (λ y. p y ≡ false) xs → filter p xs ≡ []
none_passes p [] all = refl
none_passes p (x ∷ xs) all = rw (All-head (λ y. p y ≡ false) x xs all) (none_passes p xs (All-tail (λ y. p y ≡ false) x xs all))

-- what passes stands in front
passing_first : (p : ℕ → Bool) (xs : List ℕ) → AllPairs (λ x y. p x ≡ false → p y ≡ false) xs → (rest : List ℕ) × (xs ≡ filter p xs ++ rest)
passing_first p [] pairs = ([], refl)
passing_first p (x ∷ xs) pairs = by (p x) refl (passing_first p xs (pairs_behind (λ a b. p a ≡ false → p b ≡ false) x xs pairs))
  where
    by : (b : Bool) → p x ≡ b → (rest : List ℕ) × (xs ≡ filter p xs ++ rest) → (rest : List ℕ) × (x ∷ xs ≡ cond b (x ∷ filter p xs) (filter p xs) ++ rest)
    by true e (rest, is) = (rest, ap (λ l. x ∷ l) is)
    by false e (rest, is) =
        let none : filter p xs ≡ [] = none_passes p xs (λ k d lt. all_behind (λ a b. p a ≡ false → p b ≡ false) x xs pairs k d lt e) in
        (x ∷ xs, ap (λ l. l ++ x ∷ xs) (sym none))

abbrev Goes : List Activity → ℕ → ℕ → Type 0
Goes xs m n = (a b : Activity) → activity_of m xs ≡ Some a → activity_of n xs ≡ Some b → StartsBefore a b

pub starts_rise : (a b : Activity) → StartsBefore a b → a.start ≤ b.start
starts_rise a b (inl lt) = omega (arith, lt)
starts_rise a b (inr (is, lt)) = omega (arith, is)

-- whether the activity of an id is due by the earlier moments
abbrev due_then : Model → List Activity → ℕ → ℕ → ℕ → Bool
due_then model xs now c id = passes_in (is_due model now c) (activity_of id xs)

then_true : (model : Model) (xs : List Activity) (now c id : ℕ) (a : Activity) → activity_of id xs ≡ Some a → due_then model xs now c id ≡ true → IsDue model now c a
unfolding passes_in
then_true model xs now c id a is holds = let passes : is_due model now c a ≡ true = rw is at holds in due_holds model now c a passes

true_then : (model : Model) (xs : List Activity) (now c id : ℕ) (a : Activity) → activity_of id xs ≡ Some a → IsDue model now c a → due_then model xs now c id ≡ true
unfolding passes_in
true_then model xs now c id a is d = rw is (due_passes model now c a d)

down : (model : Model) (xs : List Activity) (now c later higher x y : ℕ) → (a : Activity) × (activity_of x xs ≡ Some a) × IsDue model later higher a → (b : Activity) × (activity_of y xs ≡ Some b) × IsDue model later higher b → Goes xs x y → due_then model xs now c x ≡ false → due_then model xs now c y ≡ false
down model xs now c later higher x y (a, ea, da) (b, eb, db) goes fails = by (due_then model xs now c y) refl
  where
    by : (r : Bool) → due_then model xs now c y ≡ r → due_then model xs now c y ≡ false
    by false e = e
    by true e =
        let d = then_true model xs now c y b eb e in
        let le = starts_rise a b (goes a b ea eb) in
        let lower = d.committed in
        let begun = d.started in
        let holds : due_then model xs now c x ≡ true = true_then model xs now c x a ea (record { committed = omega (arith, le, lower); started = omega (arith, le, begun); basic = da.basic }) in
        absurd (cc (fails, holds))

module _ (model : Model) (xs : List Activity) (rising : AreRising xs) (now c later higher : ℕ) (le : now ≤ later) (le_c : c ≤ higher) where
  front : AreDue model xs now c (filter (due_then model xs now c) (due_of model xs later higher))
  front = record { members = λ id. (there id, back id); order = AllPairs-filter (Goes xs) (due_then model xs now c) (due_of model xs later higher) (due_meets model xs rising later higher).order }
    where
      there : (id : ℕ) → Contains (filter (due_then model xs now c) (due_of model xs later higher)) id → (a : Activity) × (activity_of id xs ≡ Some a) × IsDue model now c a
      there id has =
          let p = due_then model xs now c in
          let all = due_of model xs later higher in
          let among : Contains all id = All-contains (Contains all) (filter p all) id (All-filter p (Contains all) all (All-contains_itself all)) has in
          let holds : p id ≡ true = All-contains (λ q. p q ≡ true) (filter p all) id (filter_passes p all) has in
          let w = ((due_meets model xs rising later higher).members id).0 among in
          (w.0, w.1, then_true model xs now c id w.0 w.1 holds)

      back : (id : ℕ) → (a : Activity) × (activity_of id xs ≡ Some a) × IsDue model now c a → Contains (filter (due_then model xs now c) (due_of model xs later higher)) id
      back id (a, is, d) =
          let lower = d.committed in
          let begun = d.started in
          let among = ((due_meets model xs rising later higher).members id).1 (a, is, record { committed = omega (arith, lower, le_c); started = omega (arith, begun, le); basic = d.basic }) in
          stays (due_then model xs now c) (due_of model xs later higher) id among (true_then model xs now c id a is d)

  in_front : AllPairs (λ x y. due_then model xs now c x ≡ false → due_then model xs now c y ≡ false) (due_of model xs later higher)
  in_front i j d lt in_range =
      let all = due_of model xs later higher in
      let due = due_meets model xs rising later higher in
      let all_of : All (λ n. (a : Activity) × (activity_of n xs ≡ Some a) × IsDue model later higher a) all = λ k e less. (due.members (slice_index_or all k e)).0 (Contains-get_or all k e less) in
      down model xs now c later higher (slice_index_or all i d) (slice_index_or all j d) (all_of i d (omega (arith, lt, in_range))) (all_of j d in_range) (due.order i j d lt in_range)

  pub due_grows : (rest : List ℕ) × (due_of model xs later higher ≡ due_of model xs now c ++ rest)
  due_grows =
      let parts = passing_first (due_then model xs now c) (due_of model xs later higher) in_front in
      let same = due_only model xs rising now c (filter (due_then model xs now c) (due_of model xs later higher)) front in
      (parts.0, parts.1 ∙ ap (λ l. l ++ parts.0) same)
