-- What sorting and exchanging leave.
use Rattle.std.proofs.Common.{arith, ◌≡◌, ℕ, ◌+◌, ◌<◌, length, get_or, Bool, true, false, List, [], ◌∷◌, ◌++◌, take, drop, take-append-drop, refl, sym, ap, ◌∙◌, subst}
use Rattle.std.specs.Prelude.{◌||◌, ◌&&◌, not}
use Rattle.std.specs.declared.cmp.Ordering.{Ordering}
use Rattle.std.specs.declared.cmp.Ordering.TheVariants.{Less, Equal, Greater}
use Rattle.std.specs.List.{AllByRecursion}
use Rattle.std.specs.List.Sorted.{IsStrictlySortedBy}
use Rattle.std.specs.Ordering.{is_eq, ordering_reverse}
use Rattle.std.specs.BTreeSet.{insert_key}
use Rattle.std.specs.Set.{remove_key}
use Rattle.std.specs.BTreeMap.{is_at}
use Rattle.std.proofs.lemmas.List.{append_assoc, append-nil, take_more}
use Rattle.std.proofs.lemmas.List.Folds.{list_any-append}
use Rattle.std.proofs.Math.Bool.{or_comm, or-false, and-true, and-false}
use Rattle.std.proofs.lemmas.Bool.{not-true, and_parts}
use Rattle.std.proofs.lemmas.Cmp.{tied_itself}
use Rattle.pl_lists.proofs.Tests.{or_swap, or_again, without_both}
use Rattle.pl_lists.proofs.Orderings.{equal_from_test}
use Rattle.pl_conflict.specs.declared.conflict.Conflict.{Conflict}
use Rattle.pl_conflict.specs.Order.{conflict_cmp, has}
use Rattle.pl_conflict.specs.Sorting.{AreInOrder, sorted, left_by, exchanged}
use Rattle.pl_conflict.proofs.OrderLaws.{conflict_total, conflict_exact, conflict_unique}

abbrev pub same : Conflict → Conflict → Bool
same q k = is_at (conflict_cmp q) k

pub same_is : (q k : Conflict) → same q k ≡ true → q ≡ k
same_is q k e = conflict_exact q k (equal_from_test (conflict_cmp q k) e)

pub same_itself : (q : Conflict) → same q q ≡ true
same_itself q = ap is_eq (tied_itself conflict_total q)

-- ---- insertion

pub has-insert : (ks : List Conflict) (k q : Conflict) → has q (insert_key conflict_cmp ks k) ≡ (same q k || has q ks)
has-insert [] k q = refl
has-insert (x ∷ ks) k q = cases (conflict_cmp k x) refl (has-insert ks k q)
  where
    cases : (r : Ordering) → conflict_cmp k x ≡ r → has q (insert_key conflict_cmp ks k) ≡ (same q k || has q ks) → has q (insert_key conflict_cmp (x ∷ ks) k) ≡ (same q k || has q (x ∷ ks))
    cases Less e more = rw e refl
    cases Equal e more = rw e (subst (λ y. (same q y || has q ks) ≡ (same q k || (same q y || has q ks))) (conflict_exact k x e) (or_again (same q k) (has q ks)))
    cases Greater e more = rw e (ap (λ b. same q x || b) more ∙ or_swap (same q x) (same q k) (has q ks))

below_all : (k x : Conflict) (ks : List Conflict) → conflict_cmp k x ≡ Less → AllByRecursion (λ y. conflict_cmp x y ≡ Less) ks → AllByRecursion (λ y. conflict_cmp k y ≡ Less) ks
below_all k x [] e all = tt
below_all k x (y ∷ ks) e all = (conflict_total.trans k x y e all.0, below_all k x ks e all.1)

all_insert : (x k : Conflict) (ks : List Conflict) → conflict_cmp x k ≡ Less → AllByRecursion (λ y. conflict_cmp x y ≡ Less) ks → AllByRecursion (λ y. conflict_cmp x y ≡ Less) (insert_key conflict_cmp ks k)
all_insert x k [] e all = (e, tt)
all_insert x k (y ∷ ks) e all = cases (conflict_cmp k y) refl (all_insert x k ks e all.1)
  where
    cases : (r : Ordering) → conflict_cmp k y ≡ r → AllByRecursion (λ y. conflict_cmp x y ≡ Less) (insert_key conflict_cmp ks k) → AllByRecursion (λ y. conflict_cmp x y ≡ Less) (insert_key conflict_cmp (y ∷ ks) k)
    cases Less is more = rw is (e, all)
    cases Equal is more = rw is all
    cases Greater is more = rw is (all.0, more)

pub ordered-insert : (ks : List Conflict) (k : Conflict) → AreInOrder ks → AreInOrder (insert_key conflict_cmp ks k)
unfolding IsStrictlySortedBy
ordered-insert [] k ordered = (tt, tt)
ordered-insert (x ∷ ks) k ordered = cases (conflict_cmp k x) refl (ordered-insert ks k ordered.1)
  where
    cases : (r : Ordering) → conflict_cmp k x ≡ r → AreInOrder (insert_key conflict_cmp ks k) → AreInOrder (insert_key conflict_cmp (x ∷ ks) k)
    cases Less e more = rw e ((e, below_all k x ks e ordered.0), ordered)
    cases Equal e more = rw e ordered
    cases Greater e more = rw e (all_insert x k ks (conflict_total.antisymm x k ∙ ap ordering_reverse e) ordered.0, more)

-- ---- removal

pub same_sym : (q k : Conflict) → same q k ≡ same k q
same_sym q k = ap is_eq (conflict_total.antisymm q k) ∙ turned (conflict_cmp k q)
  where
    turned : (r : Ordering) → is_eq (ordering_reverse r) ≡ is_eq r
    turned Less = refl
    turned _ = refl

pub absent : (k : Conflict) (ks : List Conflict) → AllByRecursion (λ y. conflict_cmp k y ≡ Less) ks → has k ks ≡ false
absent k [] all = refl
absent k (y ∷ ks) all = rw all.0 (absent k ks all.1)

all_remove : (x k : Conflict) (ks : List Conflict) → AllByRecursion (λ y. conflict_cmp x y ≡ Less) ks → AllByRecursion (λ y. conflict_cmp x y ≡ Less) (remove_key (same k) ks)
all_remove x k [] all = tt
all_remove x k (y ∷ ks) all = cases (same k y) refl (all_remove x k ks all.1)
  where
    cases : (b : Bool) → same k y ≡ b → AllByRecursion (λ y. conflict_cmp x y ≡ Less) (remove_key (same k) ks) → AllByRecursion (λ y. conflict_cmp x y ≡ Less) (remove_key (same k) (y ∷ ks))
    cases true is more = rw is all.1
    cases false is more = rw is (all.0, more)

pub ordered-remove : (ks : List Conflict) (k : Conflict) → AreInOrder ks → AreInOrder (remove_key (same k) ks)
unfolding IsStrictlySortedBy
ordered-remove [] k ordered = tt
ordered-remove (x ∷ ks) k ordered = cases (same k x) refl (ordered-remove ks k ordered.1)
  where
    cases : (b : Bool) → same k x ≡ b → AreInOrder (remove_key (same k) ks) → AreInOrder (remove_key (same k) (x ∷ ks))
    cases true is more = rw is ordered.1
    cases false is more = rw is (all_remove x k ks ordered.0, more)

pub has-remove : (ks : List Conflict) (k q : Conflict) → AreInOrder ks → has q (remove_key (same k) ks) ≡ (has q ks && not (same k q))
unfolding IsStrictlySortedBy
has-remove [] k q ordered = refl
has-remove (x ∷ ks) k q ordered = cases (same k x) refl (has-remove ks k q ordered.1)
  where
    gone : (b : Bool) → same k q ≡ b → has x ks ≡ false → k ≡ x → has q ks ≡ (has q (x ∷ ks) && not (same k q))
    gone true e none is = rw e (ap (λ y. has y ks) (sym (same_is k q e) ∙ is) ∙ none ∙ sym (and-false (has q (x ∷ ks))))
    gone false e none is = let apart : same q x ≡ false = ap (λ y. same q y) (sym is) ∙ same_sym q k ∙ e in rw (e, apart) (sym (and-true (has q ks)))

    stays : (b : Bool) → same q x ≡ b → same k x ≡ false → has q (remove_key (same k) ks) ≡ (has q ks && not (same k q)) → (same q x || has q (remove_key (same k) ks)) ≡ (has q (x ∷ ks) && not (same k q))
    stays true e apart more = let here : same k q ≡ false = ap (λ y. same k y) (same_is q x e) ∙ apart in rw (e, here) refl
    stays false e apart more = rw e more

    cases : (b : Bool) → same k x ≡ b → has q (remove_key (same k) ks) ≡ (has q ks && not (same k q)) → has q (remove_key (same k) (x ∷ ks)) ≡ (has q (x ∷ ks) && not (same k q))
    cases true is more = rw is (gone (same k q) refl (absent x ks ordered.0) (same_is k x is))
    cases false is more = rw is (stays (same q x) refl is more)

-- ---- sorting

pub has-sorted : (ks : List Conflict) (q : Conflict) → has q (sorted ks) ≡ has q ks
unfolding sorted
has-sorted [] q = refl
has-sorted (k ∷ ks) q = has-insert (sorted ks) k q ∙ ap (λ b. same q k || b) (has-sorted ks q)

pub ordered-sorted : (ks : List Conflict) → AreInOrder (sorted ks)
unfolding sorted IsStrictlySortedBy
ordered-sorted [] = tt
ordered-sorted (k ∷ ks) = ordered-insert (sorted ks) k (ordered-sorted ks)

pub sorted_alike : (xs ys : List Conflict) → ((q : Conflict) → has q xs ≡ has q ys) → sorted xs ≡ sorted ys
sorted_alike xs ys same =
    conflict_unique conflict_exact (sorted xs) (sorted ys) (ordered-sorted xs) (ordered-sorted ys) (λ q. has-sorted xs q ∙ same q ∙ sym (has-sorted ys q))

pub sorted_itself : (ks : List Conflict) → AreInOrder ks → sorted ks ≡ ks
sorted_itself ks ordered = conflict_unique conflict_exact (sorted ks) ks (ordered-sorted ks) ordered (has-sorted ks)

-- ---- what is left

pub has-append : (xs ys : List Conflict) (q : Conflict) → has q (xs ++ ys) ≡ (has q xs || has q ys)
has-append xs ys q = list_any-append (same q) xs ys

pub has-left : (went ks : List Conflict) (q : Conflict) → has q (left_by went ks) ≡ (has q ks && not (has q went))
has-left went [] q = refl
has-left went (x ∷ ks) q = cases (has x went) refl (same q x) refl (has-left went ks q)
  where
    cases : (g : Bool) → has x went ≡ g → (b : Bool) → same q x ≡ b → has q (left_by went ks) ≡ (has q ks && not (has q went)) → has q (left_by went (x ∷ ks)) ≡ ((same q x || has q ks) && not (has q went))
    cases true gone true e more = let here : has q went ≡ true = ap (λ y. has y went) (same_is q x e) ∙ gone in rw (gone, e) (more ∙ rw here (and-false (has q ks)))
    cases true gone false e more = rw (gone, e) more
    cases false stays true e more = let here : has q went ≡ false = ap (λ y. has y went) (same_is q x e) ∙ stays in rw (stays, e) (rw here refl)
    cases false stays false e more = rw (stays, e) more

all_left : (x : Conflict) (went ks : List Conflict) → AllByRecursion (λ y. conflict_cmp x y ≡ Less) ks → AllByRecursion (λ y. conflict_cmp x y ≡ Less) (left_by went ks)
all_left x went [] all = tt
all_left x went (y ∷ ks) all = cases (has y went) refl (all_left x went ks all.1)
  where
    cases : (g : Bool) → has y went ≡ g → AllByRecursion (λ y. conflict_cmp x y ≡ Less) (left_by went ks) → AllByRecursion (λ y. conflict_cmp x y ≡ Less) (left_by went (y ∷ ks))
    cases true is more = rw is more
    cases false is more = rw is (all.0, more)

pub ordered-left : (went ks : List Conflict) → AreInOrder ks → AreInOrder (left_by went ks)
unfolding IsStrictlySortedBy
ordered-left went [] ordered = tt
ordered-left went (x ∷ ks) ordered = cases (has x went) refl (ordered-left went ks ordered.1)
  where
    cases : (g : Bool) → has x went ≡ g → AreInOrder (left_by went ks) → AreInOrder (left_by went (x ∷ ks))
    cases true is more = rw is more
    cases false is more = rw is (all_left x went ks ordered.0, more)

pub left-none : (ks : List Conflict) → left_by [] ks ≡ ks
left-none [] = refl
left-none (k ∷ ks) = ap (λ l. k ∷ l) (left-none ks)

-- one more goes
pub left-more : (went ks : List Conflict) (k : Conflict) → AreInOrder ks → remove_key (same k) (left_by went ks) ≡ left_by (went ++ k ∷ []) ks
left-more went ks k ordered =
    let left : AreInOrder (left_by went ks) = ordered-left went ks ordered in
    conflict_unique conflict_exact (remove_key (same k) (left_by went ks)) (left_by (went ++ k ∷ []) ks) (ordered-remove (left_by went ks) k left) (ordered-left (went ++ k ∷ []) ks ordered)
    (λ q. has-remove (left_by went ks) k q left ∙ ap (λ b. b && not (same k q)) (has-left went ks q) ∙ without_both (has q ks) (has q went) (same k q)
    ∙ ap (λ b. has q ks && not b) (sym (has-append went (k ∷ []) q ∙ ap (λ b. has q went || b) (or-false (same q k) ∙ same_sym q k))) ∙ sym (has-left (went ++ k ∷ []) ks q))

-- one more comes
pub sorted-more : (ks : List Conflict) (k : Conflict) → insert_key conflict_cmp (sorted ks) k ≡ sorted (ks ++ k ∷ [])
sorted-more ks k =
    conflict_unique conflict_exact (insert_key conflict_cmp (sorted ks) k) (sorted (ks ++ k ∷ [])) (ordered-insert (sorted ks) k (ordered-sorted ks)) (ordered-sorted (ks ++ k ∷ []))
    (λ q. has-insert (sorted ks) k q ∙ ap (λ b. same q k || b) (has-sorted ks q) ∙ or_comm (same q k) (has q ks) ∙ ap (λ b. has q ks || b) (sym (or-false (same q k))) ∙ sym (has-append ks (k ∷ []) q) ∙ sym (has-sorted (ks ++ k ∷ []) q))

-- ---- one after the other, as a loop goes

pub left_next : (went ks : List Conflict) (i : ℕ) (d : Conflict) → i < length went → AreInOrder ks → remove_key (same (get_or went i d)) (left_by (take i went) ks) ≡ left_by (take (i + 1) went) ks
left_next went ks i d lt ordered = left-more (take i went) ks (get_or went i d) ordered ∙ ap (λ w. left_by w ks) (sym (take_more went i d lt))

pub sorted_next : (ks came : List Conflict) (i : ℕ) (d : Conflict) → i < length came → insert_key conflict_cmp (sorted (ks ++ take i came)) (get_or came i d) ≡ sorted (ks ++ take (i + 1) came)
sorted_next ks came i d lt =
    sorted-more (ks ++ take i came) (get_or came i d) ∙ ap sorted (append_assoc ks (take i came) (get_or came i d ∷ []) ∙ ap (λ w. ks ++ w) (sym (take_more came i d lt)))

pub sorted_first : (ks : List Conflict) → AreInOrder ks → ks ≡ sorted (ks ++ [])
sorted_first ks ordered = sym (sorted_itself ks ordered) ∙ ap sorted (sym (append-nil ks))

-- ---- exchanges

pub has-exchanged : (ks went came : List Conflict) (q : Conflict) → has q (exchanged ks went came) ≡ ((has q ks && not (has q went)) || has q came)
unfolding exchanged
has-exchanged ks went came q =
    has-sorted (left_by went ks ++ came) q ∙ has-append (left_by went ks) came q ∙ ap (λ b. b || has q came) (has-left went ks q)

pub ordered-exchanged : (ks went came : List Conflict) → AreInOrder (exchanged ks went came)
unfolding exchanged
ordered-exchanged ks went came = ordered-sorted (left_by went ks ++ came)

-- What is new is put in, and then taken out what went and did not come.
pub exchanged_in_steps : (ks went came : List Conflict) → left_by (left_by came went) (sorted (ks ++ left_by ks came)) ≡ exchanged ks went came
exchanged_in_steps ks went came =
    let fresh : List Conflict = left_by ks came in
    let leaving : List Conflict = left_by came went in
    conflict_unique conflict_exact (left_by leaving (sorted (ks ++ fresh))) (exchanged ks went came) (ordered-left leaving (sorted (ks ++ fresh)) (ordered-sorted (ks ++ fresh))) (ordered-exchanged ks went came)
    (λ q. has-left leaving (sorted (ks ++ fresh)) q ∙ ap (λ b. b && not (has q leaving)) (has-sorted (ks ++ fresh) q ∙ has-append ks fresh q ∙ ap (λ b. has q ks || b) (has-left ks came q))
    ∙ ap (λ b. (has q ks || (has q came && not (has q ks))) && not b) (has-left came went q)
    ∙ merged (has q ks) (has q went) (has q came) ∙ sym (has-exchanged ks went came q))
  where
    merged : (o w c : Bool) → ((o || (c && not o)) && not (w && not c)) ≡ ((o && not w) || c)
    merged true true true = refl
    merged true true false = refl
    merged true false true = refl
    merged true false false = refl
    merged false true true = refl
    merged false true false = refl
    merged false false true = refl
    merged false false false = refl

-- the same of what each step leaves
pub exchange_done : (ks went came leaving fresh mid new : List Conflict) → leaving ≡ left_by came went → fresh ≡ left_by ks came → mid ≡ sorted (ks ++ fresh) → new ≡ left_by leaving mid → new ≡ exchanged ks went came
exchange_done ks went came leaving fresh mid new leave come grown shrunk =
    shrunk ∙ ap (λ x. left_by x mid) leave ∙ ap (λ x. left_by (left_by came went) x) (grown ∙ ap (λ x. sorted (ks ++ x)) come) ∙ exchanged_in_steps ks went came

-- nothing comes
pub exchange_for_none : (ks went came new : List Conflict) → length came ≡ 0 → new ≡ left_by went ks → AreInOrder new → new ≡ exchanged ks went came
unfolding exchanged
exchange_for_none ks went [] new none is ordered = sym (sorted_itself new ordered) ∙ ap sorted (is ∙ sym (append-nil (left_by went ks)))
exchange_for_none ks went (k ∷ came) new none is ordered = absurd (omega (arith, none))

-- a single one comes, which did not go
pub exchange_for_one : (ks went : List Conflict) (k : Conflict) (mid new : List Conflict) → mid ≡ insert_key conflict_cmp ks k → AreInOrder mid → has k went ≡ false → new ≡ left_by went mid → new ≡ exchanged ks went (k ∷ [])
exchange_for_one ks went k mid new grown ordered stays is =
    is ∙ conflict_unique conflict_exact (left_by went mid) (exchanged ks went (k ∷ [])) (ordered-left went mid ordered) (ordered-exchanged ks went (k ∷ []))
    (λ q. has-left went mid q ∙ ap (λ b. b && not (has q went)) (ap (has q) grown ∙ has-insert ks k q) ∙ cases q (same q k) refl ∙ sym (has-exchanged ks went (k ∷ []) q))
  where
    come : (b : Bool) → true ≡ (b || true)
    come true = refl
    come false = refl

    cases : (q : Conflict) (b : Bool) → same q k ≡ b → ((same q k || has q ks) && not (has q went)) ≡ ((has q ks && not (has q went)) || (same q k || false))
    cases q true e = let here : has q went ≡ false = ap (λ y. has y went) (same_is q k e) ∙ stays in rw (e, here) (come (has q ks && true))
    cases q false e = rw e (sym (or-false (has q ks && not (has q went))))

-- what is left by a list is left by its sorting
left_alike : (xs ys ks : List Conflict) → ((q : Conflict) → has q xs ≡ has q ys) → left_by xs ks ≡ left_by ys ks
left_alike xs ys [] same = refl
left_alike xs ys (k ∷ ks) same = cases (has k ys) refl (left_alike xs ys ks same)
  where
    cases : (b : Bool) → has k ys ≡ b → left_by xs ks ≡ left_by ys ks → left_by xs (k ∷ ks) ≡ left_by ys (k ∷ ks)
    cases true e more = let here : has k xs ≡ true = same k ∙ e in rw (here, e) more
    cases false e more = let here : has k xs ≡ false = same k ∙ e in rw (here, e) (ap (λ l. k ∷ l) more)

pub left_sorted : (went ks : List Conflict) → left_by (sorted went) ks ≡ left_by went ks
left_sorted went ks = left_alike (sorted went) went ks (has-sorted went)

-- none of what is new stands in the list
pub new_is_absent : (ks came : List Conflict) (q : Conflict) → has q (left_by ks came) ≡ true → has q ks ≡ false
new_is_absent ks came q is = not-true (has q ks) (and_parts (has q came) (not (has q ks)) (sym (has-left ks came q) ∙ is)).1

-- what was put in and not there before is taken out again
pub put_back : (ks came : List Conflict) (i : ℕ) → AreInOrder ks → ((q : Conflict) → has q came ≡ true → has q ks ≡ false) → left_by (take i came) (sorted (ks ++ take i came)) ≡ ks
put_back ks came i ordered absent =
    let front : List Conflict = take i came in
    conflict_unique conflict_exact (left_by front (sorted (ks ++ front))) ks (ordered-left front (sorted (ks ++ front)) (ordered-sorted (ks ++ front))) ordered
    (λ q. has-left front (sorted (ks ++ front)) q ∙ ap (λ b. b && not (has q front)) (has-sorted (ks ++ front) q ∙ has-append ks front q) ∙ cases q (has q front) refl)
  where
    within : (q : Conflict) → has q (take i came) ≡ true → has q came ≡ true
    within q is = ap (has q) (sym (take-append-drop i came)) ∙ has-append (take i came) (drop i came) q ∙ rw is refl

    cases : (q : Conflict) (b : Bool) → has q (take i came) ≡ b → ((has q ks || has q (take i came)) && not (has q (take i came))) ≡ has q ks
    cases q true is = rw (is, absent q (within q is)) refl
    cases q false is = rw is (and-true (has q ks || false) ∙ or-false (has q ks))

-- an exchange of what went for what came leaves the sorted conflicts
pub exchanged_sorted : (old new went came : List Conflict) → ((q : Conflict) → has q new ≡ ((has q old && not (has q went)) || has q came)) → exchanged (sorted old) went came ≡ sorted new
exchanged_sorted old new went came mends =
    conflict_unique conflict_exact (exchanged (sorted old) went came) (sorted new) (ordered-exchanged (sorted old) went came) (ordered-sorted new)
    (λ q. has-exchanged (sorted old) went came q ∙ ap (λ b. (b && not (has q went)) || has q came) (has-sorted old q) ∙ sym (mends q) ∙ sym (has-sorted new q))
