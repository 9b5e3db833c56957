-- When a move is not refused.
use Rattle.std.proofs.Common.{◌≡◌, ℕ, ◌+◌, ◌≤◌, ◌<◌, Bool, true, false, List, [], ◌∷◌, length, refl}
use Rattle.std.specs.Prelude.{All, nat_lt, find, Option, Some, None}
use Rattle.std.specs.Option.{option_map}
use Rattle.std.proofs.lemmas.Bool.{ltb-false, leb-false, le-ltb, lt-leb}
use Rattle.std.proofs.lemmas.List.Elements.{All-nil, All-cons, All-head, All-tail, All-weaker}
use Rattle.pl_plan.specs.declared.activity.Activity.{Activity}
use Rattle.pl_plan.specs.declared.repair.RepairMove.{RepairMove}
use Rattle.pl_semantics.specs.declared.plan_state.PlanState.{PlanState}
use Rattle.pl_semantics.specs.declared.refusal.Refusal.{Refusal}
use Rattle.pl_semantics.specs.declared.refusal.Refusal.TheVariants.{Locked, Behind, Beyond}
use Rattle.pl_semantics.specs.PlanStates.{floor_of}
use Rattle.pl_semantics.specs.Moves.{started_by, count_of_new, is_locked, is_behind, is_beyond, is_full, or_else, full_if, first_refused, refusal_of}
use Rattle.pl_semantics.specs.Legal.{MayBeMade}

pub none_found : {X : Type 0} (p : X → Bool) (xs : List X) → find p xs ≡ None → All (λ x. p x ≡ false) xs
none_found p [] e = All-nil (λ x. p x ≡ false)
none_found p (x ∷ xs) e = cases (p x) refl (none_found p xs)
  where
    cases : (b : Bool) → p x ≡ b → (find p xs ≡ None → All (λ y. p y ≡ false) xs) → All (λ y. p y ≡ false) (x ∷ xs)
    cases true is more = let bad : Some x ≡ None = rw is at e in absurd (cc)
    cases false is more = All-cons (λ y. p y ≡ false) x xs is (more (rw is at e))

pub found_none : {X : Type 0} (p : X → Bool) (xs : List X) → All (λ x. p x ≡ false) xs → find p xs ≡ None
found_none p [] all = refl
found_none p (x ∷ xs) all = rw (All-head (λ y. p y ≡ false) x xs all) (found_none p xs (All-tail (λ y. p y ≡ false) x xs all))

-- neither the first nor a later cause stands
neither : (why : ℕ → Refusal) (o : Option Activity) (later : Option Refusal) → or_else (option_map (λ a. why a.id) o) later ≡ None → (o ≡ None) × (later ≡ None)
neither why None later e = (refl, e)
neither why (Some a) later e = absurd (cc)

no_more : (limit n : ℕ) → full_if (nat_lt limit n) ≡ None → n ≤ limit
no_more limit n e = cases (nat_lt limit n) refl e
  where
    cases : (b : Bool) → nat_lt limit n ≡ b → full_if b ≡ None → n ≤ limit
    cases true is none = absurd (cc)
    cases false is none = ltb-false limit n is

pub may : (s : PlanState) (m : RepairMove) → refusal_of s m ≡ None → MayBeMade s m
unfolding refusal_of
may s m e =
    let one : (find (is_locked s m) s.plan.activities ≡ None) × (or_else (first_refused Behind (is_behind s) (started_by s m)) (or_else (first_refused Beyond (is_beyond s) (started_by s m)) (full_if (is_full s m))) ≡ None) = neither Locked _ _ e in
    let two : (find (is_behind s) (started_by s m) ≡ None) × (or_else (first_refused Beyond (is_beyond s) (started_by s m)) (full_if (is_full s m)) ≡ None) = neither Behind _ _ one.1 in
    let three : (find (is_beyond s) (started_by s m) ≡ None) × (full_if (is_full s m) ≡ None) = neither Beyond _ _ two.1 in
    record {
      unlocked = none_found (is_locked s m) s.plan.activities one.0;
      above = All-weaker (λ a. is_behind s a ≡ false) (λ a. floor_of s ≤ a.start) (λ a h. ltb-false a.start (floor_of s) h) (started_by s m) (none_found (is_behind s) (started_by s m) two.0);
      within = All-weaker (λ a. is_beyond s a ≡ false) (λ a. a.start < s.model.horizon) (λ a h. leb-false s.model.horizon a.start h) (started_by s m) (none_found (is_beyond s) (started_by s m) three.0);
      room = no_more s.live_limit (length s.plan.activities + count_of_new s m) three.1;
    }

pub not_refused : (s : PlanState) (m : RepairMove) → MayBeMade s m → refusal_of s m ≡ None
unfolding refusal_of
not_refused s m may = rw (
  found_none (is_locked s m) s.plan.activities may.unlocked,
  found_none (is_behind s) (started_by s m) (All-weaker (λ a. floor_of s ≤ a.start) (λ a. is_behind s a ≡ false) (λ a h. le-ltb a.start (floor_of s) h) (started_by s m) may.above),
  found_none (is_beyond s) (started_by s m) (All-weaker (λ a. a.start < s.model.horizon) (λ a. is_beyond s a ≡ false) (λ a h. lt-leb s.model.horizon a.start h) (started_by s m) may.within),
  le-ltb s.live_limit (length s.plan.activities + count_of_new s m) may.room,
) refl
