-- A search for an item of a sorted list.
use Rattle.std.proofs.Common.{◌≡◌, ℕ, ◌+◌, ◌-◌, ◌<◌, Bool, true, false, cond, List, [], ◌∷◌, ◌++◌, length, take, drop, get_or, refl, ap, sym, ◌∙◌, subst, arith, suc}
use Rattle.std.proofs.lemmas.Bool.{true≢false}
use Rattle.std.proofs.lemmas.List.{take-append-drop}
use Rattle.pl_lists.specs.Lists.{front, back, is_among}
use Rattle.pl_points.specs.Standing.{without}
use Rattle.pl_points.proofs.Parting.{drop_next}
use Rattle.pl_state.specs.declared.key.Key.{Key}
use Rattle.pl_state.specs.Keys.{key_before, is_before, is_up_to, NoneBefore, AreSorted, KnowsKey, IsRun}
use Rattle.pl_state.specs.Near.{rest_after}
use Rattle.pl_state.proofs.Grouping.{drop_drop}
use Rattle.pl_state.proofs.Keys.{before_itself, behind_both, sorted_drop}

-- none stands before the place
pub record IsSought {T : Type 0} (same : T → T → Bool) (u : T) (xs : List T) (i : ℕ) : Type 0 where
  pub among : is_among same (drop i xs) u ≡ is_among same xs u
  pub gone : take i xs ++ without same u (drop i xs) ≡ without same u xs
  pub rest : rest_after same u (drop i xs) ≡ rest_after same u xs

-- one with an earlier key is another, and so is one with a later key
pub earlier_other : {T : Type 0} (key : T → Key) (same : T → T → Bool) → KnowsKey key same → (u x : T) → key_before (key x) (key u) ≡ true → same x u ≡ false
earlier_other key same known u x e = cases (same x u) refl
  where
    cases : (b : Bool) → same x u ≡ b → same x u ≡ false
    cases false f = f
    cases true f = absurd (true≢false (sym e ∙ (ap (λ k. key_before k (key u)) (known x u f) ∙ before_itself (key u))))

pub later_other : {T : Type 0} (key : T → Key) (same : T → T → Bool) → KnowsKey key same → (u x : T) → key_before (key u) (key x) ≡ true → same x u ≡ false
later_other key same known u x e = cases (same x u) refl
  where
    cases : (b : Bool) → same x u ≡ b → same x u ≡ false
    cases false f = f
    cases true f = absurd (true≢false (sym e ∙ (ap (λ k. key_before (key u) k) (known x u f) ∙ before_itself (key u))))

skip_front : {T : Type 0} (same : T → T → Bool) (u : T) (p : T → Bool) → ((x : T) → p x ≡ true → same x u ≡ false) → (xs : List T)
    → (is_among same (back p xs) u ≡ is_among same xs u) × (front p xs ++ without same u (back p xs) ≡ without same u xs) × (rest_after same u (back p xs) ≡ rest_after same u xs)
skip_front same u p other [] = (refl, refl, refl)
skip_front same u p other (x ∷ xs) = cases (p x) refl (skip_front same u p other xs)
  where
    cases : (b : Bool) → p x ≡ b → (is_among same (back p xs) u ≡ is_among same xs u) × (front p xs ++ without same u (back p xs) ≡ without same u xs) × (rest_after same u (back p xs) ≡ rest_after same u xs)
        → (is_among same (cond b (back p xs) (x ∷ xs)) u ≡ is_among same (x ∷ xs) u) × (cond b (x ∷ front p xs) [] ++ without same u (cond b (back p xs) (x ∷ xs)) ≡ without same u (x ∷ xs)) × (rest_after same u (cond b (back p xs) (x ∷ xs)) ≡ rest_after same u (x ∷ xs))
    cases true e more = let f : same x u ≡ false = other x e in (more.0 ∙ rw f refl, ap (λ l. x ∷ l) more.1 ∙ rw f refl, more.2 ∙ rw f refl)
    cases false e more = (refl, refl, refl)

pub sought_begin : {T : Type 0} (key : T → Key) (same : T → T → Bool) → KnowsKey key same → (u : T) (xs : List T) (i : ℕ) → take i xs ≡ front (λ x. key_before (key x) (key u)) xs → drop i xs ≡ back (λ x. key_before (key x) (key u)) xs → IsSought same u xs i
sought_begin key same known u xs i before rest =
    let all = skip_front same u (λ x. key_before (key x) (key u)) (earlier_other key same known u) xs in
    record {
      among = ap (λ l. is_among same l u) rest ∙ all.0;
      gone = ap (λ l. l ++ without same u (drop i xs)) before ∙ (ap (λ l. front (λ x. key_before (key x) (key u)) xs ++ without same u l) rest ∙ all.1);
      rest = ap (rest_after same u) rest ∙ all.2;
    }

-- it is found
pub record IsFound {T : Type 0} (same : T → T → Bool) (u : T) (xs : List T) (i : ℕ) : Type 0 where
  pub among : true ≡ is_among same xs u
  pub gone : take i xs ++ drop (suc i) xs ≡ without same u xs
  pub rest : drop (suc i) xs ≡ rest_after same u xs

pub sought_found : {T : Type 0} (same : T → T → Bool) (u : T) (xs : List T) (i : ℕ) (p : T) → IsSought same u xs i → i < length xs → p ≡ get_or xs i p → same p u ≡ true → IsFound same u xs i
sought_found same u xs i p sought lt is found =
    let e : drop i xs ≡ p ∷ drop (suc i) xs = drop_next xs i p lt ∙ ap (λ q. q ∷ drop (suc i) xs) (sym is) in
    let a : is_among same (p ∷ drop (suc i) xs) u ≡ true = rw found refl in
    let b : without same u (p ∷ drop (suc i) xs) ≡ drop (suc i) xs = rw found refl in
    let c : rest_after same u (p ∷ drop (suc i) xs) ≡ drop (suc i) xs = rw found refl in
    record {
      among = sym a ∙ (sym (ap (λ l. is_among same l u) e) ∙ sought.among);
      gone = ap (λ l. take i xs ++ l) (sym b) ∙ (sym (ap (λ l. take i xs ++ without same u l) e) ∙ sought.gone);
      rest = sym c ∙ (sym (ap (rest_after same u) e) ∙ sought.rest);
    }

-- it is not there
pub record IsMissing {T : Type 0} (same : T → T → Bool) (u : T) (xs : List T) : Type 0 where
  pub among : false ≡ is_among same xs u
  pub gone : without same u xs ≡ xs
  pub rest : rest_after same u xs ≡ []

pub none_same : {T : Type 0} (key : T → Key) (same : T → T → Bool) → KnowsKey key same → (u : T) (k : Key) (xs : List T) → key_before (key u) k ≡ true → NoneBefore key k xs → IsMissing same u xs
none_same key same known u k [] lt none = record { among = refl; gone = refl; rest = refl }
none_same key same known u k (x ∷ xs) lt none =
    let more = none_same key same known u k xs lt none.1 in
    let other : same x u ≡ false = later_other key same known u x (later (key_before (key u) (key x)) refl) in
    record { among = rw other more.among; gone = rw other (ap (λ l. x ∷ l) more.gone); rest = rw other more.rest }
  where
    later : (b : Bool) → key_before (key u) (key x) ≡ b → key_before (key u) (key x) ≡ true
    later true e = e
    later false e = absurd (true≢false (sym lt ∙ behind_both (key u) (key x) k e none.0))

missed : {T : Type 0} (same : T → T → Bool) (u : T) (xs : List T) (i : ℕ) → IsSought same u xs i → IsMissing same u (drop i xs) → take i xs ++ drop i xs ≡ xs → IsMissing same u xs
missed same u xs i sought missing whole = record {
  among = missing.among ∙ sought.among;
  gone = sym sought.gone ∙ (ap (λ l. take i xs ++ l) missing.gone ∙ whole);
  rest = sym sought.rest ∙ missing.rest;
}

pub sought_passed : {T : Type 0} (key : T → Key) (same : T → T → Bool) → KnowsKey key same → (u : T) (xs : List T) (i : ℕ) (p : T) → AreSorted key xs → IsSought same u xs i → i < length xs → p ≡ get_or xs i p → key_before (key u) (key p) ≡ true → IsMissing same u xs
sought_passed key same known u xs i p sorted sought lt is later =
    let e : drop i xs ≡ p ∷ drop (suc i) xs = drop_next xs i p lt ∙ ap (λ q. q ∷ drop (suc i) xs) (sym is) in
    let rest : AreSorted key (p ∷ drop (suc i) xs) = subst (λ l. AreSorted key l) e (sorted_drop key i xs sorted) in
    missed same u xs i sought (subst (λ l. IsMissing same u l) (sym e) (none_same key same known u (key p) (p ∷ drop (suc i) xs) later (before_itself (key p), rest.0))) (take-append-drop i xs)

-- two searches find those with a key
pub run_is : {T : Type 0} (key : T → Key) (k : Key) (xs slice rest : List T) (f n m : ℕ) → slice ≡ drop f xs → rest ≡ drop (f + n) xs → take n slice ≡ front (is_before key k) slice → drop n slice ≡ back (is_before key k) slice
    → take m rest ≡ front (is_up_to key k) rest → drop m rest ≡ back (is_up_to key k) rest → IsRun key k xs f (f + n) ((f + n) + m)
run_is key k xs slice rest f n m is is_rest one two three four =
    let first : (f + n) - f ≡ n = omega arith in
    let second : ((f + n) + m) - (f + n) ≡ m = omega arith in
    record {
      before = ap (λ i. take i (drop f xs)) first ∙ subst (λ l. take n l ≡ front (is_before key k) l) is one;
      on = sym (drop_drop f n xs) ∙ subst (λ l. drop n l ≡ back (is_before key k) l) is two;
      having = ap (λ i. take i (drop (f + n) xs)) second ∙ subst (λ l. take m l ≡ front (is_up_to key k) l) is_rest three;
      rest = sym (drop_drop (f + n) m xs) ∙ subst (λ l. drop m l ≡ back (is_up_to key k) l) is_rest four;
    }
