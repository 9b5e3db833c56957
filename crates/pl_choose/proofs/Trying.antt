-- Moves that are tried in turn: which may be passed over, and that it makes no difference with which one is begun.
use Rattle.std.proofs.Common.{◌≡◌, ℕ, zero, suc, ◌+◌, ◌≤◌, ◌<◌, Bool, true, false, cond, List, [], ◌∷◌, ◌++◌, length, get_or, take, drop, refl, sym, ap, subst, ◌∙◌, arith, inl, inr}
use Rattle.std.specs.Prelude.{◌⊎◌, All, Some, nat_lt, if◌then◌else◌}
use Rattle.std.proofs.lemmas.Option.{same_Some}
use Rattle.std.proofs.lemmas.Bool.{ltb-false, lt-ltb, le-ltb, ltb-true}
use Rattle.std.proofs.lemmas.List.{take-append-drop, drop_all, drop_more}
use Rattle.std.proofs.Math.Seq.{take-add}
use Rattle.std.proofs.lemmas.List.Elements.{All-nil, All-cons, All-head, All-tail}
use Rattle.pl_plan.specs.declared.repair.RepairMove.{RepairMove}
use Rattle.pl_semantics.specs.declared.plan_state.PlanState.{PlanState}
use Rattle.pl_semantics.specs.Legal.{left_after}
use Rattle.pl_bounds.specs.Bounds.{AreLeast, AreNoMore}
use Rattle.pl_bounds.proofs.Pushing.{no_more_length}
use Rattle.pl_choose.specs.declared.best.Best.{Best}
use Rattle.pl_choose.specs.Found.{IsAllowed, lowest}
use Rattle.pl_choose.specs.Picks.{fewest}
use Rattle.pl_choose.specs.Tried.{above, better_of, best_of, below, AreHopes}
use Rattle.pl_choose.proofs.Lowest.{first_lowest}

abbrev pub best : RepairMove → ℕ → Best
best m left = record { mv = m; left = left }

pub best_of_both : (f : RepairMove → ℕ) (b : Best) (xs ys : List RepairMove) → best_of f b (xs ++ ys) ≡ best_of f (best_of f b xs) ys
best_of_both f b [] ys = refl
best_of_both f b (x ∷ xs) ys = best_of_both f (better_of b x (f x)) xs ys

pub worse : (b : Best) (m : RepairMove) (left : ℕ) → b.left ≤ left → better_of b m left ≡ b
worse b m left le = let e : nat_lt left b.left ≡ false = le-ltb left b.left le in rw e refl

pub better : (b : Best) (m : RepairMove) (left : ℕ) → left < b.left → better_of b m left ≡ best m left
better b m left lt = let e : nat_lt left b.left ≡ true = lt-ltb left b.left lt in rw e refl

no_more : (b : Best) (m : RepairMove) (left : ℕ) → (better_of b m left).left ≤ b.left
no_more b m left = by (nat_lt left b.left) refl
  where
    by : (c : Bool) → nat_lt left b.left ≡ c → (if c then best m left else b).left ≤ b.left
    by true e = let lt : left < b.left = ltb-true left b.left e in omega (arith, lt)
    by false e = omega arith

-- the best of them has its own number
pub counted : (f : RepairMove → ℕ) (b : Best) (xs : List RepairMove) → b.left ≡ f b.mv → (best_of f b xs).left ≡ f (best_of f b xs).mv
counted f b [] e = e
counted f b (x ∷ xs) e = by (nat_lt (f x) b.left) (counted f (best x (f x)) xs refl) (counted f b xs e)
  where
    by : (c : Bool) → (best_of f (best x (f x)) xs).left ≡ f (best_of f (best x (f x)) xs).mv → (best_of f b xs).left ≡ f (best_of f b xs).mv → (best_of f (if c then best x (f x) else b) xs).left ≡ f (best_of f (if c then best x (f x) else b) xs).mv
    by true this other = this
    by false this other = other

-- ---- what may be passed over

-- what is known to leave no fewer than the best so far
pub passed_over : (s : PlanState) (most : ℕ) (b : Best) (ms : List RepairMove) (ns : List ℕ) → b.left ≤ most → AreLeast s ms ns → best_of (left_after s) b (below most ns ms) ≡ best_of (left_after s) b ms
passed_over s most b [] [] le least = refl
passed_over s most b [] (n ∷ ns) le none = absurd none
passed_over s most b (m ∷ ms) [] le none = absurd none
passed_over s most b (m ∷ ms) (n ∷ ns) le least = by (nat_lt n most) refl (λ c low. passed_over s most c ms ns low least.1)
  where
    by : (c : Bool) → nat_lt n most ≡ c → ((c : Best) → c.left ≤ most → best_of (left_after s) c (below most ns ms) ≡ best_of (left_after s) c ms) → best_of (left_after s) b (cond c (m ∷ below most ns ms) (below most ns ms)) ≡ best_of (left_after s) (better_of b m (left_after s m)) ms
    by true e again = again (better_of b m (left_after s m)) (let low : (better_of b m (left_after s m)).left ≤ b.left = no_more b m (left_after s m) in omega (arith, low, le))
    by false e again =
        let high : most ≤ n = ltb-false n most e in
        let up : n ≤ left_after s m = least.0 in
        again b le ∙ ap (λ c. best_of (left_after s) c ms) (sym (worse b m (left_after s m) (omega (arith, high, up, le))))

pub least_below : (f : RepairMove → ℕ) (most : ℕ) (ms : List RepairMove) (ns : List ℕ) → AreNoMore f ms ns → AreNoMore f (below most ns ms) (below most ns ns)
least_below f most [] [] least = tt
least_below f most [] (n ∷ ns) none = absurd none
least_below f most (m ∷ ms) [] none = absurd none
least_below f most (m ∷ ms) (n ∷ ns) least = by (nat_lt n most) (least_below f most ms ns least.1)
  where
    by : (c : Bool) → AreNoMore f (below most ns ms) (below most ns ns) → AreNoMore f (cond c (m ∷ below most ns ms) (below most ns ms)) (cond c (n ∷ below most ns ns) (below most ns ns))
    by true rest = (least.0, rest)
    by false rest = rest

pub all_below : (P : RepairMove → Type 0) (most : ℕ) (ms : List RepairMove) (ns : List ℕ) → All P ms → All P (below most ns ms)
all_below P most [] [] all = All-nil P
all_below P most [] (n ∷ ns) all = All-nil P
all_below P most (m ∷ ms) [] all = All-nil P
all_below P most (m ∷ ms) (n ∷ ns) all = by (nat_lt n most) (all_below P most ms ns (All-tail P m ms all))
  where
    by : (c : Bool) → All P (below most ns ms) → All P (cond c (m ∷ below most ns ms) (below most ns ms))
    by true rest = All-cons P m (below most ns ms) (All-head P m ms all) rest
    by false rest = rest

pub few_below : {X : Type 0} (most : ℕ) (ns : List ℕ) (xs : List X) → length (below most ns xs) ≤ length xs
few_below most [] [] = omega arith
few_below most [] (x ∷ xs) = omega arith
few_below most (n ∷ ns) [] = omega arith
few_below {X = X} most (n ∷ ns) (x ∷ xs) = by (nat_lt n most) (few_below most ns xs)
  where
    by : (c : Bool) → length (below most ns xs) ≤ length xs → length (cond c (x ∷ below most ns xs) (below most ns xs)) ≤ length (x ∷ xs)
    by true few = omega (arith, few)
    by false few = omega (arith, few)

-- ---- numbers of some of them

pub least_drop : (f : RepairMove → ℕ) (k : ℕ) (ms : List RepairMove) (ns : List ℕ) → AreNoMore f ms ns → AreNoMore f (drop k ms) (drop k ns)
least_drop f zero ms ns least = least
least_drop f (suc k) [] [] least = tt
least_drop f (suc k) [] (n ∷ ns) none = absurd none
least_drop f (suc k) (m ∷ ms) [] none = absurd none
least_drop f (suc k) (m ∷ ms) (n ∷ ns) least = least_drop f k ms ns least.1

pub least_take : (f : RepairMove → ℕ) (k : ℕ) (ms : List RepairMove) (ns : List ℕ) → AreNoMore f ms ns → AreNoMore f (take k ms) (take k ns)
least_take f zero ms ns least = tt
least_take f (suc k) [] [] least = tt
least_take f (suc k) [] (n ∷ ns) none = absurd none
least_take f (suc k) (m ∷ ms) [] none = absurd none
least_take f (suc k) (m ∷ ms) (n ∷ ns) least = (least.0, least_take f k ms ns least.1)

pub hopes : (s : PlanState) (b : Best) (ms : List RepairMove) (ns : List ℕ) → All (IsAllowed s) ms → AreLeast s ms ns → AreHopes s b ms (below b.left ns ms) (below b.left ns ns)
hopes s b ms ns allowed least =
    let kept : AreLeast s (below b.left ns ms) (below b.left ns ns) = least_below (left_after s) b.left ms ns least in
    record {
      allowed = all_below (IsAllowed s) b.left ms ns allowed;
      least = kept;
      count = no_more_length (left_after s) (below b.left ns ms) (below b.left ns ns) kept;
      few = few_below b.left ns ms;
      best_is = passed_over s b.left b ms ns (omega arith) least;
    }

-- none is left
pub none_left : (s : PlanState) (b : Best) (ms kept : List RepairMove) (ns : List ℕ) → length kept ≡ 0 → AreHopes s b ms kept ns → b ≡ best_of (left_after s) b ms
none_left s b ms [] ns e these = these.best_is
none_left s b ms (m ∷ more) ns e these = absurd (omega (arith, e))

-- ---- steps of a walk

pub next_tried : (f : RepairMove → ℕ) (ms : List RepairMove) (k left : ℕ) (d : RepairMove) (b c w : Best) → k < length ms → left ≡ f (get_or ms k d) → c ≡ better_of b (get_or ms k d) left → best_of f b (drop k ms) ≡ w → best_of f c (drop (k + 1) ms) ≡ w
next_tried f ms k left d b c w lt counted is leads =
    let P : List RepairMove → Type 0 = λ zs. best_of f b zs ≡ w in
    ap (λ z. best_of f z (drop (k + 1) ms)) (is ∙ ap (λ n. better_of b (get_or ms k d) n) counted) ∙ subst P (drop_more ms k d lt) leads

pub all_tried : (f : RepairMove → ℕ) (ms : List RepairMove) (k : ℕ) (b w : Best) → length ms ≤ k → best_of f b (drop k ms) ≡ w → b ≡ w
all_tried f ms k b w over leads =
    let P : List RepairMove → Type 0 = λ zs. best_of f b zs ≡ w in
    subst P (drop_all k ms over) leads

-- so many are tried, and so many of the others
pub tried_on : (f : RepairMove → ℕ) (ms : List RepairMove) (k n : ℕ) (b c d : Best) → c ≡ best_of f b (take k ms) → d ≡ best_of f c (take n (drop k ms)) → d ≡ best_of f b (take (k + n) ms)
tried_on f ms k n b c d one other =
    other
    ∙ ap (λ z. best_of f z (take n (drop k ms))) one
    ∙ sym (best_of_both f b (take k ms) (take n (drop k ms)))
    ∙ ap (λ zs. best_of f b zs) (sym (take-add k n ms))

-- so many are tried, and the others are left
pub run_tried : (f : RepairMove → ℕ) (ms : List RepairMove) (k : ℕ) (b c w : Best) → c ≡ best_of f b (take k ms) → best_of f b ms ≡ w → best_of f c (drop k ms) ≡ w
run_tried f ms k b c w is leads =
    ap (λ z. best_of f z (drop k ms)) is
    ∙ sym (best_of_both f b (take k ms) (drop k ms))
    ∙ ap (λ zs. best_of f b zs) (take-append-drop k ms)
    ∙ leads

-- ---- with which one is begun

-- one of them is below both numbers
abbrev HasBelow : (RepairMove → ℕ) → ℕ → ℕ → List RepairMove → Type 0
HasBelow f m n [] = ⊥
HasBelow f m n (x ∷ xs) = ((f x < m) × (f x < n)) ⊎ HasBelow f m n xs

below_second : (f : RepairMove → ℕ) (m n k : ℕ) (xs : List RepairMove) → n ≤ k → HasBelow f m n xs → HasBelow f k n xs
below_second f m n k [] le none = none
below_second f m n k (x ∷ xs) le (inl both) = inl (omega (arith, both.1, le), both.1)
below_second f m n k (x ∷ xs) le (inr more) = inr (below_second f m n k xs le more)

below_first : (f : RepairMove → ℕ) (m n k : ℕ) (xs : List RepairMove) → m ≤ k → HasBelow f m n xs → HasBelow f m k xs
below_first f m n k [] le none = none
below_first f m n k (x ∷ xs) le (inl both) = inl (both.0, omega (arith, both.0, le))
below_first f m n k (x ∷ xs) le (inr more) = inr (below_first f m n k xs le more)

from_any : (f : RepairMove → ℕ) (b c : Best) (xs : List RepairMove) → HasBelow f b.left c.left xs → best_of f b xs ≡ best_of f c xs
from_any f b c [] none = absurd none
from_any f b c (x ∷ xs) (inl both) = ap (λ d. best_of f d xs) (better b x (f x) both.0 ∙ sym (better c x (f x) both.1))
from_any f b c (x ∷ xs) (inr more) = by (nat_lt (f x) b.left) (nat_lt (f x) c.left) refl refl (λ d e has. from_any f d e xs has)
  where
    by : (p q : Bool) → nat_lt (f x) b.left ≡ p → nat_lt (f x) c.left ≡ q → ((d e : Best) → HasBelow f d.left e.left xs → best_of f d xs ≡ best_of f e xs) → best_of f (if p then best x (f x) else b) xs ≡ best_of f (if q then best x (f x) else c) xs
    by true true e g again = refl
    by false false e g again = again b c more
    by true false e g again = again (best x (f x)) c (below_second f b.left c.left (f x) xs (ltb-false (f x) c.left g) more)
    by false true e g again = again b (best x (f x)) (below_first f b.left c.left (f x) xs (ltb-false (f x) b.left e) more)

has_at : (f : RepairMove → ℕ) (m n : ℕ) (xs : List RepairMove) (k : ℕ) (d : RepairMove) → k < length xs → f (get_or xs k d) < m → f (get_or xs k d) < n → HasBelow f m n xs
has_at f m n [] k d lt one other = absurd (omega (arith, lt))
has_at f m n (x ∷ xs) zero d lt one other = inl (one, other)
has_at f m n (x ∷ xs) (suc k) d lt one other = inr (has_at f m n xs k d (omega (arith, lt)) one other)

from_first : (f : RepairMove → ℕ) (x : RepairMove) (xs : List RepairMove) → (best_of f (best x (f x)) xs).mv ≡ lowest f x xs
from_first f x [] = refl
from_first f x (y ∷ more) = by (nat_lt (f y) (f x)) (from_first f x more) (from_first f y more)
  where
    by : (b : Bool) → (best_of f (best x (f x)) more).mv ≡ lowest f x more → (best_of f (best y (f y)) more).mv ≡ lowest f y more → (best_of f (if b then best y (f y) else best x (f x)) more).mv ≡ lowest f (cond b y x) more
    by true first second = second
    by false first second = first

-- one of them is tried alone, and the others against it
pub in_place : (f : RepairMove → ℕ) (ms : List RepairMove) (k : ℕ) (d : RepairMove) (b front : Best) → k < length ms → front ≡ best_of f b (take k ms) → best_of f (better_of front (get_or ms k d) (f (get_or ms k d))) (drop (k + 1) ms) ≡ best_of f b ms
in_place f ms k d b front lt one =
    let P : List RepairMove → Type 0 = λ zs. best_of f front zs ≡ best_of f b ms in
    let whole : best_of f front (drop k ms) ≡ best_of f b ms = ap (λ c. best_of f c (drop k ms)) one ∙ sym (best_of_both f b (take k ms) (drop k ms)) ∙ ap (λ zs. best_of f b zs) (take-append-drop k ms) in
    subst P (drop_more ms k d lt) whole

-- whichever it is, the best of all is found
from_aim : (f : RepairMove → ℕ) (b : Best) (ms : List RepairMove) (k : ℕ) (d : RepairMove) → k < length ms → best_of f (above b (get_or ms k d) (f (get_or ms k d))) ms ≡ best_of f b ms
from_aim f b ms k d lt = by (nat_lt (f (get_or ms k d)) b.left) refl
  where
    by : (c : Bool) → nat_lt (f (get_or ms k d)) b.left ≡ c → best_of f (if c then best (get_or ms k d) (f (get_or ms k d) + 1) else b) ms ≡ best_of f b ms
    by true e = let less : f (get_or ms k d) < b.left = ltb-true (f (get_or ms k d)) b.left e in from_any f (best (get_or ms k d) (f (get_or ms k d) + 1)) b ms (has_at f (f (get_or ms k d) + 1) b.left ms k d lt (omega arith) less)
    by false e = refl

-- one of them is tried alone, and those before it and behind it against the better of the best and it
pub aimed : (f : RepairMove → ℕ) (ms : List RepairMove) (k : ℕ) (d : RepairMove) (left : ℕ) (b front last : Best) → k < length ms → left ≡ f (get_or ms k d)
    → front ≡ best_of f (above b (get_or ms k d) left) (take k ms) → last ≡ best_of f (better_of front (get_or ms k d) left) (drop (k + 1) ms) → last ≡ best_of f b ms
aimed f ms k d left b front last lt is one other =
    let aim : RepairMove = get_or ms k d in
    let P : ℕ → Type 0 = λ n. front ≡ best_of f (above b aim n) (take k ms) in
    let Q : ℕ → Type 0 = λ n. last ≡ best_of f (better_of front aim n) (drop (k + 1) ms) in
    subst Q is other ∙ in_place f ms k d (above b aim (f aim)) front lt (subst P is one) ∙ from_aim f b ms k d lt

-- none of them is better
pub none_better : (f : RepairMove → ℕ) (b : Best) (ms : List RepairMove) → All (λ m. b.left ≤ f m) ms → best_of f b ms ≡ b
none_better f b [] all = refl
none_better f b (m ∷ ms) all = ap (λ c. best_of f c ms) (worse b m (f m) (All-head (λ m. b.left ≤ f m) m ms all)) ∙ none_better f b ms (All-tail (λ m. b.left ≤ f m) m ms all)

-- from the first of them on
pub found : (s : PlanState) (m : RepairMove) (ms : List RepairMove) (left : ℕ) (last : Best) → left ≡ left_after s m → last ≡ best_of (left_after s) (best m left) ms → fewest s (m ∷ ms) ≡ Some last.mv
found s m ms left last is all =
    let f : RepairMove → ℕ = left_after s in
    let P : ℕ → Type 0 = λ n. last ≡ best_of f (best m n) ms in
    let lowest_is : last.mv ≡ lowest f m ms = ap (λ (c : Best). c.mv) (subst P is all) ∙ from_first f m ms in
    first_lowest f m ms ∙ ap (λ (x : RepairMove). Some x) (sym lowest_is)

pub found_first : (s : PlanState) (m : RepairMove) (ms : List RepairMove) (left : ℕ) → left ≡ left_after s m → All (λ x. left ≤ left_after s x) ms → fewest s (m ∷ ms) ≡ Some m
found_first s m ms left is all = found s m ms left (best m left) is (sym (none_better (left_after s) (best m left) ms all))

-- ---- those that are known to leave no fewer than a number

has_low : (f : RepairMove → ℕ) (n : ℕ) (b : Best) (xs : List RepairMove) → n ≤ b.left → (best_of f b xs).left < n → HasBelow f n b.left xs
has_low f n b [] le lt = absurd (omega (arith, le, lt))
has_low f n b (x ∷ xs) le lt = by (nat_lt (f x) b.left) refl (nat_lt (f x) n) refl (λ c low few. has_low f n c xs low few) lt
  where
    by : (p : Bool) → nat_lt (f x) b.left ≡ p → (q : Bool) → nat_lt (f x) n ≡ q → ((c : Best) → n ≤ c.left → (best_of f c xs).left < n → HasBelow f n c.left xs) → (best_of f (if p then best x (f x) else b) xs).left < n → HasBelow f n b.left (x ∷ xs)
    by true e true g again few = inl (ltb-true (f x) n g, ltb-true (f x) b.left e)
    by true e false g again few = inr (below_first f n (f x) b.left xs le (again (best x (f x)) (ltb-false (f x) n g) few))
    by false e q g again few = inr (again b le few)

-- The best of those below a number, begun with this number, is the best of all, if it leaves fewer.
pub from_number : (s : PlanState) (c : Best) (ms : List RepairMove) (m : RepairMove) → left_after s m < c.left → fewest s ms ≡ Some m → best_of (left_after s) c ms ≡ best m (left_after s m)
from_number s c [] m lt none = absurd (cc)
from_number s c (x ∷ xs) m lt is =
    let f : RepairMove → ℕ = left_after s in
    let b : Best = best_of f (best x (f x)) xs in
    let mv : b.mv ≡ m = same_Some b.mv m (sym (found s x xs (f x) b refl refl) ∙ is) in
    let left : b.left ≡ f m = counted f (best x (f x)) xs refl ∙ ap f mv in
    let whole : b ≡ best m (f m) = ap (λ (y : RepairMove). best y b.left) mv ∙ ap (λ (n : ℕ). best m n) left in
    by (nat_lt (f x) c.left) refl left whole
  where
    by : (q : Bool) → nat_lt (left_after s x) c.left ≡ q → (best_of (left_after s) (best x (left_after s x)) xs).left ≡ left_after s m → best_of (left_after s) (best x (left_after s x)) xs ≡ best m (left_after s m) → best_of (left_after s) (if q then best x (left_after s x) else c) xs ≡ best m (left_after s m)
    by true e left whole = whole
    by false e left whole =
        let high : c.left ≤ left_after s x = ltb-false (left_after s x) c.left e in
        let below : HasBelow (left_after s) c.left (left_after s x) xs = has_low (left_after s) c.left (best x (left_after s x)) xs high (omega (arith, left, lt)) in
        from_any (left_after s) c (best x (left_after s x)) xs below ∙ whole

pub to_fewest : (s : PlanState) (c : Best) (ms : List RepairMove) (m : RepairMove) → left_after s m < c.left → best_of (left_after s) c ms ≡ best m (left_after s m) → fewest s ms ≡ Some m
to_fewest s c [] m lt is = absurd (let e : c.left ≡ left_after s m = ap (λ (b : Best). b.left) is in omega (arith, e, lt))
to_fewest s c (x ∷ xs) m lt is = found s x xs (left_after s x) (best_of (left_after s) (best x (left_after s x)) xs) refl refl ∙ ap (λ (b : Best). Some b.mv) (by (nat_lt (left_after s x) c.left) refl is)
  where
    by : (q : Bool) → nat_lt (left_after s x) c.left ≡ q → best_of (left_after s) (if q then best x (left_after s x) else c) xs ≡ best m (left_after s m) → best_of (left_after s) (best x (left_after s x)) xs ≡ best m (left_after s m)
    by true e whole = whole
    by false e whole =
        let high : c.left ≤ left_after s x = ltb-false (left_after s x) c.left e in
        let left : (best_of (left_after s) c xs).left ≡ left_after s m = ap (λ (b : Best). b.left) whole in
        let below : HasBelow (left_after s) c.left c.left xs = has_low (left_after s) c.left c xs (omega arith) (omega (arith, left, lt)) in
        from_any (left_after s) (best x (left_after s x)) c xs (below_second (left_after s) c.left c.left (left_after s x) xs high below) ∙ whole

-- what is best of those that may be better is best of all, if it leaves fewer than this number
pub fewest_of_all : (s : PlanState) (c : Best) (ms kept : List RepairMove) (ns : List ℕ) (m : RepairMove) → AreHopes s c ms kept ns → left_after s m < c.left → fewest s kept ≡ Some m → fewest s ms ≡ Some m
fewest_of_all s c ms kept ns m hopes lt is = to_fewest s c ms m lt (sym hopes.best_is ∙ from_number s c kept m lt is)
