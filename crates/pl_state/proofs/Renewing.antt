-- Where musts are broken, worked out anew key by key.
use Rattle.std.proofs.Common.{◌≡◌, ℕ, ◌-◌, ◌≤◌, not, Bool, true, false, cond, List, [], ◌∷◌, ◌++◌, length, take, drop, refl, ap, sym, ◌∙◌, subst, inl, inr, arith, None, Some}
use Rattle.std.specs.List.{slice_get}
use Rattle.std.proofs.lemmas.Bool.{true≢false}
use Rattle.std.proofs.lemmas.List.{append_assoc, append-nil, drop_all, take_all}
use Rattle.pl_lists.specs.Lists.{front, back, left_out}
use Rattle.pl_points.specs.Standing.{without}
use Rattle.pl_points.proofs.Parting.{NonePass, IsParted}
use Rattle.pl_state.specs.declared.key.Key.{Key}
use Rattle.pl_state.specs.declared.reservation.Must.{Must}
use Rattle.pl_state.specs.declared.answer.BrokenMust.{BrokenMust}
use Rattle.pl_state.specs.Keys.{key_before, is_before, is_up_to, AreSorted, IsRun, AreRising, KnowsKey, Has}
use Rattle.pl_state.specs.Musts.{must_key, same_must, with_must}
use Rattle.pl_state.specs.Timelines.{same_broken}
use Rattle.pl_state.specs.Near.{all_of, group_key, IsKeyed, AreRightBut, IsBegun}
use Rattle.pl_state.proofs.Keys.{before_itself, parted_before, parted_upto, sorted_drop}
use Rattle.pl_state.proofs.Seeking.{earlier_other, none_same}
use Rattle.pl_state.proofs.Sorting.{has_none}
use Rattle.pl_state.proofs.Lists.{left_self}
use Rattle.pl_state.proofs.Grouping.{broken_itself, all_append}
use Rattle.pl_state.proofs.Parts.{PassAlike, front_back, stops, sorted_back, back_none, left_cut, knows_broken, cut_all, all_sorted}

pub all_same : (F G : Must → List BrokenMust) (ms : List Must) → ((m : Must) → Has m ms → G m ≡ F m) → all_of G ms ≡ all_of F ms
all_same F G [] same = refl
all_same F G (m ∷ ms) same = ap (λ l. l ++ all_of G ms) (same m (inl refl)) ∙ ap (λ l. F m ++ l) (all_same F G ms (λ n has. same n (inr has)))

one_same : (touched : Must → Bool) (F G : Must → List BrokenMust) (m : Must) → (touched m ≡ false → G m ≡ F m) → (touched m ≡ true → ⊥) → G m ≡ F m
one_same touched F G m same never = cases (touched m) refl
  where
    cases : (b : Bool) → touched m ≡ b → G m ≡ F m
    cases true e = absurd (never e)
    cases false e = same e

has_front : {T : Type 0} (p : T → Bool) (x : T) (xs : List T) → Has x (front p xs) → Has x xs × (p x ≡ true)
has_front p x [] has = absurd has
has_front p x (y ∷ ys) has = cases (p y) refl has (has_front p x ys)
  where
    cases : (b : Bool) → p y ≡ b → Has x (cond b (y ∷ front p ys) []) → (Has x (front p ys) → Has x ys × (p x ≡ true)) → Has x (y ∷ ys) × (p x ≡ true)
    cases true e h more = elim h [
      | inl f ↦ (inl f, ap p (sym f) ∙ e)
      | inr g ↦ let both = more g in (inr both.0, both.1)
    ]
    cases false e h more = absurd h

has_back : {T : Type 0} (p : T → Bool) (x : T) (xs : List T) → Has x (back p xs) → Has x xs
has_back p x [] has = absurd has
has_back p x (y ∷ ys) has = cases (p y) has (has_back p x ys)
  where
    cases : (b : Bool) → Has x (cond b (back p ys) (y ∷ ys)) → (Has x (back p ys) → Has x ys) → Has x (y ∷ ys)
    cases true h more = inr (more h)
    cases false h more = h

pub has_fails : {T : Type 0} (p : T → Bool) (x : T) (xs : List T) → NonePass p xs → Has x xs → p x ≡ false
has_fails p x [] none has = absurd has
has_fails p x (y ∷ ys) none has = elim has [
  | inl f ↦ ap p (sym f) ∙ none.0
  | inr g ↦ has_fails p x ys none.1 g
]

back_fails : {T : Type 0} (p : T → Bool) (x : T) (xs : List T) → IsParted p xs → Has x (back p xs) → p x ≡ false
back_fails p x [] parted has = absurd has
back_fails p x (y ∷ ys) parted has = cases (p y) refl has (back_fails p x ys parted.1)
  where
    cases : (b : Bool) → p y ≡ b → Has x (cond b (back p ys) (y ∷ ys)) → (Has x (back p ys) → p x ≡ false) → p x ≡ false
    cases true e h more = more h
    cases false e h more = has_fails p x (y ∷ ys) (e, parted.0 e) h

-- one with a key before those that rise has none of their keys, nor has one behind the first key that one
before_none : (j k : Key) (ks : List Key) → AreRising (k ∷ ks) → key_before j k ≡ true → Has j (k ∷ ks) → ⊥
before_none j k ks rising e has = elim has [
  | inl f ↦ true≢false (sym e ∙ (ap (λ i. key_before j i) f ∙ before_itself j))
  | inr g ↦ true≢false (sym e ∙ has_none (λ i. i) k j ks rising.0 g)
]

behind_one : (j k : Key) (ks : List Key) → not (key_before k j) ≡ false → Has j (k ∷ ks) → Has j ks
behind_one j k ks e has = elim has [
  | inl f ↦ absurd (true≢false (ap not (sym (ap (λ i. key_before i j) f ∙ before_itself j)) ∙ e))
  | inr g ↦ g
]

-- right but for the musts that are touched
pub right_near : (touched : Must → Bool) (F G : Must → List BrokenMust) → IsKeyed G → (ks : List Key) (ms : List Must) → AreSorted must_key ms → AreRising ks
    → ((m : Must) → touched m ≡ false → G m ≡ F m) → ((m : Must) → Has m ms → touched m ≡ true → Has (must_key m) ks) → AreRightBut ks F ms (all_of G ms)
right_near touched F G keyed [] ms sorted rising same each = all_same F G ms (λ m has. one_same touched F G m (same m) (λ t. each m has t))
right_near touched F G keyed (k ∷ ks) ms sorted rising same each =
    let rest : List Must = back (is_before must_key k) ms in
    let sorted_rest : AreSorted must_key rest = sorted_back must_key (is_before must_key k) ms sorted in
    let one = cut_all (λ j. key_before j k) G keyed ms (parted_before must_key k ms sorted) in
    let two = cut_all (λ j. not (key_before k j)) G keyed rest (parted_upto must_key k rest sorted_rest) in
    let early : (m : Must) → Has m (front (is_before must_key k) ms) → G m ≡ F m = λ m has.
    let both = has_front (is_before must_key k) m ms has in
    one_same touched F G m (same m) (λ t. before_none (must_key m) k ks rising both.1 (each m both.0 t)) in
    let late : (m : Must) → Has m (back (is_up_to must_key k) rest) → touched m ≡ true → Has (must_key m) ks = λ m has t.
    behind_one (must_key m) k ks (back_fails (is_up_to must_key k) m rest (parted_upto must_key k rest sorted_rest) has)
    (each m (has_back (is_before must_key k) m ms (has_back (is_up_to must_key k) m rest has)) t) in
    let is : back (is_up_to group_key k) (back (is_before group_key k) (all_of G ms)) ≡ all_of G (back (is_up_to must_key k) rest) = ap (back (is_up_to group_key k)) one.1 ∙ two.1 in (
      one.0 ∙ all_same F G (front (is_before must_key k) ms) early,
      subst (λ l. AreRightBut ks F (back (is_up_to must_key k) rest) l) (sym is)
          (right_near touched F G keyed ks (back (is_up_to must_key k) rest) (sorted_back must_key (is_up_to must_key k) rest sorted_rest) rising.1 same late),
    )

-- right but for one key
right_one : (F : Must → List BrokenMust) → IsKeyed F → (k : Key) (ms ns : List Must) → AreSorted must_key ms → front (is_before must_key k) ns ≡ front (is_before must_key k) ms
    → back (is_up_to must_key k) (back (is_before must_key k) ns) ≡ back (is_up_to must_key k) (back (is_before must_key k) ms) → AreRightBut (k ∷ []) F ns (all_of F ms)
right_one F keyed k ms ns sorted same_front same_back =
    let rest : List Must = back (is_before must_key k) ms in
    let one = cut_all (λ j. key_before j k) F keyed ms (parted_before must_key k ms sorted) in
    let two = cut_all (λ j. not (key_before k j)) F keyed rest (parted_upto must_key k rest (sorted_back must_key (is_before must_key k) ms sorted)) in
    (one.0 ∙ ap (all_of F) (sym same_front), ap (back (is_up_to group_key k)) one.1 ∙ (two.1 ∙ ap (all_of F) (sym same_back)))

front_put : {T : Type 0} (p : T → Bool) (u : T) (xs : List T) → p u ≡ false → (front p (front p xs ++ u ∷ back p xs) ≡ front p xs) × (back p (front p xs ++ u ∷ back p xs) ≡ u ∷ back p xs)
front_put p u [] e = (rw e refl, rw e refl)
front_put p u (x ∷ xs) e = cases (p x) refl (front_put p u xs e)
  where
    cases : (b : Bool) → p x ≡ b → (front p (front p xs ++ u ∷ back p xs) ≡ front p xs) × (back p (front p xs ++ u ∷ back p xs) ≡ u ∷ back p xs)
        → (front p (cond b (x ∷ front p xs) [] ++ u ∷ cond b (back p xs) (x ∷ xs)) ≡ cond b (x ∷ front p xs) []) × (back p (cond b (x ∷ front p xs) [] ++ u ∷ cond b (back p xs) (x ∷ xs)) ≡ u ∷ cond b (back p xs) (x ∷ xs))
    cases true f more = (rw f (ap (λ l. x ∷ l) more.0), rw f more.1)
    cases false f more = (rw e refl, rw e refl)

pub right_with : (F : Must → List BrokenMust) → IsKeyed F → (u : Must) (ms : List Must) → AreSorted must_key ms → AreRightBut (must_key u ∷ []) F (with_must u ms) (all_of F ms)
right_with F keyed u ms sorted =
    let k = must_key u in
    let put = front_put (is_before must_key k) u ms (before_itself k) in
    let passes : is_up_to must_key k u ≡ true = ap not (before_itself k) in
    let over : back (is_up_to must_key k) (u ∷ back (is_before must_key k) ms) ≡ back (is_up_to must_key k) (back (is_before must_key k) ms) = rw passes refl in
    right_one F keyed k ms (with_must u ms) sorted put.0 (ap (back (is_up_to must_key k)) put.1 ∙ over)

front_gone : {T : Type 0} (same : T → T → Bool) (p : T → Bool) (u : T) → ((x : T) → p x ≡ true → same x u ≡ false) → (xs : List T) → IsParted p xs → (front p (without same u xs) ≡ front p xs) × (back p (without same u xs) ≡ without same u (back p xs))
front_gone same p u other [] parted = (refl, refl)
front_gone same p u other (x ∷ xs) parted = cases (same x u) refl (p x) refl (front_gone same p u other xs parted.1)
  where
    cases : (b : Bool) → same x u ≡ b → (d : Bool) → p x ≡ d → (front p (without same u xs) ≡ front p xs) × (back p (without same u xs) ≡ without same u (back p xs))
        → (front p (cond b xs (x ∷ without same u xs)) ≡ cond d (x ∷ front p xs) []) × (back p (cond b xs (x ∷ without same u xs)) ≡ without same u (cond d (back p xs) (x ∷ xs)))
    cases true e true f more = absurd (true≢false (sym e ∙ other x f))
    cases true e false f more = let stop = stops p xs (parted.0 f) in (stop.0, stop.1 ∙ rw e refl)
    cases false e true f more = (rw f (ap (λ l. x ∷ l) more.0), rw f more.1)
    cases false e false f more = (rw f refl, rw f (rw e refl))

back_gone : {T : Type 0} (key : T → Key) (same : T → T → Bool) → KnowsKey key same → (u : T) (xs : List T) → AreSorted key xs → back (is_up_to key (key u)) (without same u xs) ≡ back (is_up_to key (key u)) xs
back_gone key same known u [] sorted = refl
back_gone key same known u (x ∷ xs) sorted = cases (same x u) refl (key_before (key u) (key x)) refl (back_gone key same known u xs sorted.1)
  where
    cases : (b : Bool) → same x u ≡ b → (d : Bool) → key_before (key u) (key x) ≡ d → back (is_up_to key (key u)) (without same u xs) ≡ back (is_up_to key (key u)) xs
        → back (is_up_to key (key u)) (cond b xs (x ∷ without same u xs)) ≡ cond (not d) (back (is_up_to key (key u)) xs) (x ∷ xs)
    cases true e true f more = absurd (true≢false (sym f ∙ (ap (λ k. key_before (key u) k) (known x u e) ∙ before_itself (key u))))
    cases true e false f more = refl
    cases false e true f more = rw f (ap (λ l. x ∷ l) (none_same key same known u (key x) xs f sorted.0).gone)
    cases false e false f more = rw f more

pub right_without : (F : Must → List BrokenMust) → IsKeyed F → KnowsKey must_key same_must → (u : Must) (ms : List Must) → AreSorted must_key ms → AreRightBut (must_key u ∷ []) F (without same_must u ms) (all_of F ms)
right_without F keyed known u ms sorted =
    let k = must_key u in
    let gone = front_gone same_must (is_before must_key k) u (earlier_other must_key same_must known u) ms (parted_before must_key k ms sorted) in
    right_one F keyed k ms (without same_must u ms) sorted gone.0 (ap (back (is_up_to must_key k)) gone.1 ∙ back_gone must_key same_must known u (back (is_before must_key k) ms) (sorted_back must_key (is_before must_key k) ms sorted))

-- what is left out on both sides of a key
skipped : (F : Must → List BrokenMust) → IsKeyed F → (k : Key) (ms : List Must) (b : List BrokenMust) → AreSorted must_key ms → AreSorted group_key b
    → front (is_before group_key k) b ≡ all_of F (front (is_before must_key k) ms)
    → (left_out same_broken (all_of F (back (is_before must_key k) ms)) (back (is_before group_key k) b) ≡ left_out same_broken (all_of F ms) b)
    × (left_out same_broken (back (is_before group_key k) b) (all_of F (back (is_before must_key k) ms)) ≡ left_out same_broken b (all_of F ms))
skipped F keyed k ms b sorted rising right =
    let cut = cut_all (λ j. key_before j k) F keyed ms (parted_before must_key k ms sorted) in
    let new : List BrokenMust = all_of F ms in
    let p : BrokenMust → Bool = is_before group_key k in
    let parted : IsParted p new = parted_before group_key k new (all_sorted F keyed ms sorted) in
    let parted_old : IsParted p b = parted_before group_key k b rising in
    let alike : PassAlike same_broken p = λ x y e. ap (λ j. key_before j k) (knows_broken x y e) in
    let equal : front p new ≡ front p b = cut.0 ∙ sym right in
    let went : left_out same_broken (front p new) (front p b) ≡ [] = ap (λ l. left_out same_broken l (front p b)) equal ∙ left_self same_broken broken_itself (front p b) in
    let came : left_out same_broken (front p b) (front p new) ≡ [] = ap (left_out same_broken (front p b)) equal ∙ left_self same_broken broken_itself (front p b) in (
      ap (λ l. left_out same_broken l (back p b)) (sym cut.1) ∙ sym (left_cut same_broken p alike new b parted parted_old ∙ ap (λ l. l ++ left_out same_broken (back p new) (back p b)) went),
      ap (left_out same_broken (back p b)) (sym cut.1) ∙ sym (left_cut same_broken p alike b new parted_old parted ∙ ap (λ l. l ++ left_out same_broken (back p b) (back p new)) came),
    )

parted_in : (F : Must → List BrokenMust) → IsKeyed F → (k : Key) (ms : List Must) (b : List BrokenMust) → AreSorted must_key ms → AreSorted group_key b
    → (left_out same_broken (all_of F ms) b ≡ left_out same_broken (all_of F (front (is_up_to must_key k) ms)) (front (is_up_to group_key k) b) ++ left_out same_broken (all_of F (back (is_up_to must_key k) ms)) (back (is_up_to group_key k) b))
    × (left_out same_broken b (all_of F ms) ≡ left_out same_broken (front (is_up_to group_key k) b) (all_of F (front (is_up_to must_key k) ms)) ++ left_out same_broken (back (is_up_to group_key k) b) (all_of F (back (is_up_to must_key k) ms)))
parted_in F keyed k ms b sorted rising =
    let cut = cut_all (λ j. not (key_before k j)) F keyed ms (parted_upto must_key k ms sorted) in
    let new : List BrokenMust = all_of F ms in
    let p : BrokenMust → Bool = is_up_to group_key k in
    let parted : IsParted p new = parted_upto group_key k new (all_sorted F keyed ms sorted) in
    let parted_old : IsParted p b = parted_upto group_key k b rising in
    let alike : PassAlike same_broken p = λ x y e. ap (λ j. not (key_before k j)) (knows_broken x y e) in (
      left_cut same_broken p alike new b parted parted_old ∙ (ap (λ l. left_out same_broken l (front p b) ++ left_out same_broken (back p new) (back p b)) cut.0 ∙ ap (λ l. left_out same_broken (all_of F (front (is_up_to must_key k) ms)) (front p b) ++ left_out same_broken l (back p b)) cut.1),
      left_cut same_broken p alike b new parted_old parted ∙ (ap (λ l. left_out same_broken (front p b) l ++ left_out same_broken (back p b) (back p new)) cut.0 ∙ ap (λ l. left_out same_broken (front p b) (all_of F (front (is_up_to must_key k) ms)) ++ left_out same_broken (back p b) l) cut.1),
    )

all_parts : (F : Must → List BrokenMust) (p : Must → Bool) (ms : List Must) → all_of F ms ≡ all_of F (front p ms) ++ all_of F (back p ms)
all_parts F p ms = ap (all_of F) (sym (front_back p ms)) ∙ all_append F (front p ms) (back p ms)

-- before the first key nothing changes
pub begun_at : (F : Must → List BrokenMust) → IsKeyed F → (k : Key) (ks : List Key) (ms : List Must) (b : List BrokenMust) (p t : ℕ) → AreSorted must_key ms → AreSorted group_key b
    → drop p ms ≡ back (is_before must_key k) ms → take t b ≡ front (is_before group_key k) b → drop t b ≡ back (is_before group_key k) b → p ≤ length ms → t ≤ length b → AreRightBut (k ∷ ks) F ms b → IsBegun F ms b (k ∷ ks) t p t [] [] []
begun_at F keyed k ks ms b p t sorted rising on before on_old in_musts in_broken right =
    let kept = skipped F keyed k ms b sorted rising right.0 in
    let none : NonePass (is_before must_key k) (drop p ms) = subst (NonePass (is_before must_key k)) (sym on) (back_none (is_before must_key k) ms (parted_before must_key k ms sorted)) in
    let none_old : NonePass (is_before group_key k) (drop t b) = subst (NonePass (is_before group_key k)) (sym on_old) (back_none (is_before group_key k) b (parted_before group_key k b rising)) in
    let stop = stops (is_before must_key k) (drop p ms) none in
    let stop_old = stops (is_before group_key k) (drop t b) none_old in
    let same : back (is_up_to must_key k) (back (is_before must_key k) ms) ≡ back (is_up_to must_key k) (back (is_before must_key k) (drop p ms)) = ap (back (is_up_to must_key k)) (sym (stop.1 ∙ on)) in
    let same_old : back (is_up_to group_key k) (back (is_before group_key k) b) ≡ back (is_up_to group_key k) (back (is_before group_key k) (drop t b)) = ap (back (is_up_to group_key k)) (sym (stop_old.1 ∙ on_old)) in
    record {
      in_musts = in_musts;
      in_broken = in_broken;
      low = omega arith;
      right = (
        stop_old.0 ∙ ap (all_of F) (sym stop.0),
        subst (λ l. AreRightBut ks F l (back (is_up_to group_key k) (back (is_before group_key k) (drop t b)))) same
            (subst (λ l. AreRightBut ks F (back (is_up_to must_key k) (back (is_before must_key k) ms)) l) same_old right.1),
      );
      whole = ap (λ l. l ++ all_of F (drop p ms)) (before ∙ right.0) ∙ (ap (λ l. all_of F (front (is_before must_key k) ms) ++ all_of F l) on ∙ sym (all_parts F (is_before must_key k) ms));
      gone = ap (λ l. left_out same_broken (all_of F l) (drop t b)) on ∙ (ap (left_out same_broken (all_of F (back (is_before must_key k) ms))) on_old ∙ kept.0);
      new = ap (λ l. left_out same_broken (drop t b) (all_of F l)) on ∙ (ap (λ l. left_out same_broken l (all_of F (back (is_before must_key k) ms))) on_old ∙ kept.1);
    }

-- one key more
pub one_key : (F : Must → List BrokenMust) → IsKeyed F → (k : Key) (ks : List Key) (ms : List Must) (b : List BrokenMust) (begin p t : ℕ) (fresh went came : List BrokenMust) → AreSorted must_key ms → AreSorted group_key b
    → IsBegun F ms b (k ∷ ks) begin p t fresh went came → (i q j u : ℕ) (group gone kept fresh2 went2 came2 : List BrokenMust) → IsRun must_key k ms p i q → IsRun group_key k b t j u → q ≤ length ms → u ≤ length b → t ≤ u
    → group ≡ all_of F (take (q - i) (drop i ms)) → gone ≡ take (u - j) (drop j b) → kept ≡ take (j - t) (drop t b)
    → went2 ≡ went ++ left_out same_broken group gone → came2 ≡ came ++ left_out same_broken gone group → fresh2 ≡ (fresh ++ kept) ++ group
    → IsBegun F ms b ks begin q u fresh2 went2 came2
one_key F keyed k ks ms b begin p t fresh went came sorted rising begun i q j u group gone kept fresh2 went2 came2 named old in_musts in_broken later is_group is_gone is_kept is_went is_came is_fresh =
    let M : List Must = drop p ms in
    let M1 : List Must = drop i ms in
    let M2 : List Must = drop q ms in
    let B : List BrokenMust = drop t b in
    let B1 : List BrokenMust = drop j b in
    let B2 : List BrokenMust = drop u b in
    let group_is : group ≡ all_of F (front (is_up_to must_key k) M1) = is_group ∙ ap (all_of F) named.having in
    let gone_is : gone ≡ front (is_up_to group_key k) B1 = is_gone ∙ old.having in
    let kept_is : kept ≡ all_of F (front (is_before must_key k) M) = is_kept ∙ (old.before ∙ begun.right.0) in
    let skip = skipped F keyed k M B (sorted_drop must_key p ms sorted) (sorted_drop group_key t b rising) begun.right.0 in
    let cut = parted_in F keyed k M1 B1 (sorted_drop must_key i ms sorted) (sorted_drop group_key j b rising) in
    let all : all_of F M ≡ kept ++ (group ++ all_of F M2) =
    all_parts F (is_before must_key k) M ∙ (ap (λ l. l ++ all_of F (back (is_before must_key k) M)) (sym kept_is)
    ∙ ap (λ l. kept ++ l) (ap (all_of F) (sym named.on) ∙ (all_parts F (is_up_to must_key k) M1 ∙ (ap (λ l. l ++ all_of F (back (is_up_to must_key k) M1)) (sym group_is) ∙ ap (λ l. group ++ all_of F l) (sym named.rest))))) in
    let went_all : left_out same_broken (all_of F M) B ≡ left_out same_broken group gone ++ left_out same_broken (all_of F M2) B2 =
    sym skip.0 ∙ (ap (λ l. left_out same_broken (all_of F l) (back (is_before group_key k) B)) (sym named.on) ∙ (ap (left_out same_broken (all_of F M1)) (sym old.on) ∙ (cut.0
    ∙ (ap (λ l. left_out same_broken l (front (is_up_to group_key k) B1) ++ left_out same_broken (all_of F (back (is_up_to must_key k) M1)) (back (is_up_to group_key k) B1)) (sym group_is)
    ∙ (ap (λ l. left_out same_broken group l ++ left_out same_broken (all_of F (back (is_up_to must_key k) M1)) (back (is_up_to group_key k) B1)) (sym gone_is)
    ∙ (ap (λ l. left_out same_broken group gone ++ left_out same_broken (all_of F l) (back (is_up_to group_key k) B1)) (sym named.rest)
    ∙ ap (λ l. left_out same_broken group gone ++ left_out same_broken (all_of F M2) l) (sym old.rest))))))) in
    let came_all : left_out same_broken B (all_of F M) ≡ left_out same_broken gone group ++ left_out same_broken B2 (all_of F M2) =
    sym skip.1 ∙ (ap (λ l. left_out same_broken (back (is_before group_key k) B) (all_of F l)) (sym named.on) ∙ (ap (λ l. left_out same_broken l (all_of F M1)) (sym old.on) ∙ (cut.1
    ∙ (ap (λ l. left_out same_broken (front (is_up_to group_key k) B1) l ++ left_out same_broken (back (is_up_to group_key k) B1) (all_of F (back (is_up_to must_key k) M1))) (sym group_is)
    ∙ (ap (λ l. left_out same_broken l group ++ left_out same_broken (back (is_up_to group_key k) B1) (all_of F (back (is_up_to must_key k) M1))) (sym gone_is)
    ∙ (ap (λ l. left_out same_broken gone group ++ left_out same_broken (back (is_up_to group_key k) B1) (all_of F l)) (sym named.rest)
    ∙ ap (λ l. left_out same_broken gone group ++ left_out same_broken l (all_of F M2)) (sym old.rest))))))) in
    record {
      in_musts = in_musts;
      in_broken = in_broken;
      low = omega (arith, begun.low, later);
      right = subst (λ l. AreRightBut ks F l B2) (ap (back (is_up_to must_key k)) (sym named.on) ∙ sym named.rest)
          (subst (λ l. AreRightBut ks F (back (is_up_to must_key k) (back (is_before must_key k) M)) l) (ap (back (is_up_to group_key k)) (sym old.on) ∙ sym old.rest) begun.right.1);
      whole = ap (λ l. take begin b ++ l) (ap (λ l. l ++ all_of F M2) is_fresh ∙ (append_assoc (fresh ++ kept) group (all_of F M2) ∙ (append_assoc fresh kept (group ++ all_of F M2) ∙ ap (λ l. fresh ++ l) (sym all)))) ∙ begun.whole;
      gone = ap (λ l. l ++ left_out same_broken (all_of F M2) B2) is_went ∙ (append_assoc went (left_out same_broken group gone) (left_out same_broken (all_of F M2) B2) ∙ (ap (λ l. went ++ l) (sym went_all) ∙ begun.gone));
      new = ap (λ l. l ++ left_out same_broken B2 (all_of F M2)) is_came ∙ (append_assoc came (left_out same_broken gone group) (left_out same_broken B2 (all_of F M2)) ∙ (ap (λ l. came ++ l) (sym came_all) ∙ begun.new));
    }

-- no key is left
pub record IsRenewed (F : Must → List BrokenMust) (ms : List Must) (b new went came : List BrokenMust) : Type 0 where
  pub all : new ≡ all_of F ms
  pub gone : went ≡ left_out same_broken new b
  pub fresh : came ≡ left_out same_broken b new

pub all_keys : (F : Must → List BrokenMust) (ms : List Must) (b : List BrokenMust) (begin p t : ℕ) (fresh went came new : List BrokenMust) → IsBegun F ms b [] begin p t fresh went came
    → new ≡ take begin b ++ (fresh ++ drop t b) → IsRenewed F ms b new went came
all_keys F ms b begin p t fresh went came new begun is =
    let all : new ≡ all_of F ms = is ∙ (ap (λ l. take begin b ++ (fresh ++ l)) begun.right ∙ begun.whole) in
    let rest : left_out same_broken (all_of F (drop p ms)) (drop t b) ≡ [] = ap (left_out same_broken (all_of F (drop p ms))) begun.right ∙ left_self same_broken broken_itself (all_of F (drop p ms)) in
    let rest2 : left_out same_broken (drop t b) (all_of F (drop p ms)) ≡ [] = ap (λ l. left_out same_broken l (all_of F (drop p ms))) begun.right ∙ left_self same_broken broken_itself (all_of F (drop p ms)) in
    record {
      all = all;
      gone = sym (append-nil went) ∙ (ap (λ l. went ++ l) (sym rest) ∙ (begun.gone ∙ ap (λ l. left_out same_broken l b) (sym all)));
      fresh = sym (append-nil came) ∙ (ap (λ l. came ++ l) (sym rest2) ∙ (begun.new ∙ ap (left_out same_broken b) (sym all)));
    }

-- nothing changes where there is no key
pub begun_none : (F : Must → List BrokenMust) (ms : List Must) (b : List BrokenMust) → b ≡ all_of F ms → IsBegun F ms b [] (length b) (length ms) (length b) [] [] []
begun_none F ms b right =
    let no_musts : drop (length ms) ms ≡ [] = drop_all (length ms) ms (omega arith) in
    let no_broken : drop (length b) b ≡ [] = drop_all (length b) b (omega arith) in
    let every : take (length b) b ≡ b = take_all (length b) b (omega arith) in
    record {
      in_musts = omega arith;
      in_broken = omega arith;
      low = omega arith;
      right = no_broken ∙ ap (all_of F) (sym no_musts);
      whole = ap (λ l. take (length b) b ++ all_of F l) no_musts ∙ (append-nil (take (length b) b) ∙ (every ∙ right));
      gone = ap (left_out same_broken (all_of F (drop (length ms) ms))) no_broken ∙ sym (ap (λ l. left_out same_broken l b) (sym right) ∙ left_self same_broken broken_itself b);
      new = ap (λ l. left_out same_broken (drop (length b) b) (all_of F l)) no_musts ∙ sym (ap (left_out same_broken b) (sym right) ∙ left_self same_broken broken_itself b);
    }

pub first_none : {T : Type 0} (xs : List T) → None ≡ slice_get xs 0 → xs ≡ []
first_none [] e = refl
first_none (x ∷ xs) e = absurd (let h : None ≡ Some x = e in (cc))

pub first_some : {T : Type 0} (xs : List T) (x : T) → Some x ≡ slice_get xs 0 → xs ≡ x ∷ drop 1 xs
first_some [] x e = absurd (let h : Some x ≡ None = e in (cc))
first_some (y ∷ ys) x e = let h : Some x ≡ Some y = e in let same : y ≡ x = cc in ap (λ z. z ∷ ys) same
