-- A move that is tried before others, and when it is known to be the best.
use Rattle.std.proofs.Common.{◌≡◌, ℕ, ◌+◌, ◌≤◌, ◌<◌, Bool, true, false, List, [], ◌∷◌, length, get_or, take, drop, refl, sym, ap, subst, ◌∙◌, arith}
use Rattle.std.specs.Prelude.{All, IfSome, Option, Some, None, nat_lt, if◌then◌else◌}
use Rattle.std.proofs.lemmas.List.Elements.{All-nil, All-cons, All-head, All-tail, All-weaker, All-more}
use Rattle.pl_plan.specs.declared.repair.RepairMove.{RepairMove}
use Rattle.pl_semantics.specs.declared.plan_state.PlanState.{PlanState}
use Rattle.pl_semantics.specs.Legal.{left_after}
use Rattle.pl_board.specs.Boards.{Standing}
use Rattle.pl_bounds.specs.Bounds.{AreLeast}
use Rattle.pl_choose.specs.declared.best.Best.{Best}
use Rattle.pl_choose.specs.declared.picked.Picked.{Picked}
use Rattle.pl_choose.specs.declared.picked.Picked.TheVariants.{Made, Found}
use Rattle.pl_choose.specs.declared.purpose.Purpose.{Purpose}
use Rattle.pl_choose.specs.declared.purpose.Purpose.TheVariants.{Propose, Mend}
use Rattle.pl_choose.specs.Alone.{AreEnough}
use Rattle.pl_choose.specs.Choice.{IsPickedIf}
use Rattle.pl_choose.specs.Picked.{IsPicked, enough_for}
use Rattle.pl_choose.specs.Picks.{fewest}
use Rattle.pl_choose.specs.Tried.{better_of, best_of}
use Rattle.pl_choose.proofs.Trying.{best, better, in_place, none_better, least_take, least_drop, found, found_first}

-- ---- what is enough

pub is_mended : (purpose : Purpose) (most : Option ℕ) (left : ℕ) → AreEnough (enough_for purpose most) left → purpose ≡ Mend
is_mended Propose most left none = absurd none
is_mended Mend most left few = refl

pub few_enough : (purpose : Purpose) (most : Option ℕ) (left : ℕ) → AreEnough (enough_for purpose most) left → AreEnough most left
few_enough Propose most left none = absurd none
few_enough Mend most left few = few

-- ---- what is picked

pub picked_as : (purpose : Purpose) (P Q : RepairMove → Type 0) (before : Standing) (p : Picked) (now : Standing) → ((m : RepairMove) → P m → Q m) → IsPicked purpose P before p now → IsPicked purpose Q before p now
picked_as why P Q before (Made m told) now so picked = (picked.0, so m picked.1, picked.2, picked.3)
picked_as why P Q before (Found m) now so picked = (so m picked.0, picked.1)

-- the same where nothing may be picked
pub picked_if : (purpose : Purpose) (P Q : RepairMove → Type 0) (before : Standing) (p : Option Picked) (now : Standing) → ((m : RepairMove) → P m → Q m) → IsPickedIf purpose P before p now → IsPickedIf purpose Q before p now
picked_if why P Q before None now so same = same
picked_if why P Q before (Some p) now so picked = picked_as why P Q before p now so picked

-- ---- an aim that leaves no more than is known of the others

-- what holds of the numbers, and of all that is no lower, holds of what the moves leave
pub least_hold : (s : PlanState) (R : ℕ → Type 0) → ((a b : ℕ) → a ≤ b → R a → R b) → (ms : List RepairMove) (ns : List ℕ) → AreLeast s ms ns → All R ns → All (λ m. R (left_after s m)) ms
least_hold s R up [] ns least all = All-nil (λ m. R (left_after s m))
least_hold s R up (m ∷ ms) [] none all = absurd none
least_hold s R up (m ∷ ms) (n ∷ ns) least all = All-cons (λ x. R (left_after s x)) m ms (up n (left_after s m) least.0 (All-head R n ns all)) (least_hold s R up ms ns least.1 (All-tail R n ns all))

-- where all leave more, the best of them does
stays_above : (f : RepairMove → ℕ) (n : ℕ) (b : Best) (ms : List RepairMove) → n < b.left → All (λ m. n < f m) ms → n < (best_of f b ms).left
stays_above f n b [] lt all = lt
stays_above f n b (m ∷ ms) lt all = stays_above f n (better_of b m (f m)) ms (by (nat_lt (f m) b.left)) (All-tail (λ x. n < f x) m ms all)
  where
    by : (c : Bool) → n < (if c then best m (f m) else b).left
    by true = All-head (λ x. n < f x) m ms all
    by false = lt

-- fewer than the best so far and than those before it, no more than those behind it
pub aim_is_best : (s : PlanState) (b : Best) (ms : List RepairMove) (ns : List ℕ) (k n : ℕ) (d : RepairMove) → k < length ms → AreLeast s ms ns → left_after s (get_or ms k d) ≤ n → n < b.left → All (λ x. n < x) (take k ns) → All (λ x. n ≤ x) (drop (k + 1) ns)
    → get_or ms k d ≡ (best_of (left_after s) b ms).mv
aim_is_best s b ms ns k n d lt least few low before behind =
    let f : RepairMove → ℕ = left_after s in
    let aim : RepairMove = get_or ms k d in
    let front : Best = best_of f b (take k ms) in
    let rest : List RepairMove = drop (k + 1) ms in
    let those : All (λ m. n < f m) (take k ms) = least_hold s (λ x. n < x) (λ x y le lt. omega (arith, le, lt)) (take k ms) (take k ns) (least_take f k ms ns least) before in
    let above : n < front.left = stays_above f n b (take k ms) low those in
    let others : All (λ m. f aim ≤ f m) rest = least_hold s (λ x. f aim ≤ x) (λ x y le lt. omega (arith, le, lt)) rest (drop (k + 1) ns) (least_drop f (k + 1) ms ns least) (all_up (f aim) n few (drop (k + 1) ns) behind) in
    let is : better_of front aim (f aim) ≡ best aim (f aim) = better front aim (f aim) (omega (arith, few, above)) in
    let whole : best_of f (better_of front aim (f aim)) rest ≡ best_of f b ms = in_place f ms k d b front lt refl in
    let last : best_of f b ms ≡ best aim (f aim) = sym whole ∙ ap (λ (c : Best). best_of f c rest) is ∙ none_better f (best aim (f aim)) rest others in
    sym (ap (λ (c : Best). c.mv) last)
  where
    all_up : (a n : ℕ) → a ≤ n → (xs : List ℕ) → All (λ x. n ≤ x) xs → All (λ x. a ≤ x) xs
    all_up a n le xs all = All-weaker (λ x. n ≤ x) (λ x. a ≤ x) (λ x up. omega (arith, le, up)) xs all

-- the same of a number that there may not be
pub aim_made : (s : PlanState) (b : Best) (ms : List RepairMove) (ns : List ℕ) (k : ℕ) (d : RepairMove) (enough : Option ℕ) → k < length ms → AreLeast s ms ns → AreEnough enough (left_after s (get_or ms k d)) → IfSome enough (λ n. n < b.left) → IfSome enough (λ n. All (λ x. n < x) (take k ns)) → IfSome enough (λ n. All (λ x. n ≤ x) (drop (k + 1) ns))
    → get_or ms k d ≡ (best_of (left_after s) b ms).mv
aim_made s b ms ns k d None lt least none low before behind = absurd none
aim_made s b ms ns k d (Some n) lt least few low before behind = aim_is_best s b ms ns k n d lt least few low before behind

-- ---- the first of some, and the others

pub first_is_fewest : (s : PlanState) (m : RepairMove) (ms : List RepairMove) (least : ℕ) (x : RepairMove) → left_after s m ≤ least → All (λ y. least ≤ left_after s y) ms → x ≡ m → fewest s (m ∷ ms) ≡ Some x
first_is_fewest s m ms least x few all is =
    let others : All (λ y. left_after s m ≤ left_after s y) ms = All-weaker (λ y. least ≤ left_after s y) (λ y. left_after s m ≤ left_after s y) (λ y up. omega (arith, few, up)) ms all in
    found_first s m ms (left_after s m) refl others ∙ ap (λ (y : RepairMove). Some y) (sym is)

pub found_from : (s : PlanState) (m : RepairMove) (ms : List RepairMove) (b : Best) (x : RepairMove) → b.mv ≡ m → b.left ≡ left_after s m → x ≡ (best_of (left_after s) b ms).mv → fewest s (m ∷ ms) ≡ Some x
found_from s m ms b x is left last =
    let P : RepairMove → Type 0 = λ y. fewest s (y ∷ ms) ≡ Some (best_of (left_after s) b ms).mv in
    let counted : b.left ≡ left_after s b.mv = left ∙ ap (left_after s) (sym is) in
    let all : fewest s (b.mv ∷ ms) ≡ Some (best_of (left_after s) b ms).mv = found s b.mv ms b.left (best_of (left_after s) b ms) counted refl in
    subst P is all ∙ ap (λ (y : RepairMove). Some y) (sym last)

pub least_all : (s : PlanState) (least : ℕ) (ms : List RepairMove) (ns : List ℕ) → AreLeast s ms ns → All (λ n. least ≤ n) ns → All (λ m. least ≤ left_after s m) ms
least_all s least ms ns known all = least_hold s (λ x. least ≤ x) (λ x y le up. omega (arith, le, up)) ms ns known all

-- ---- steps of a walk

-- no higher than those so far and the next
pub low_step : (xs : List ℕ) (i old new : ℕ) → i < length xs → new ≤ old → new ≤ get_or xs i 0 → All (λ n. old ≤ n) (take i xs) → All (λ n. new ≤ n) (take (i + 1) xs)
low_step xs i old new lt le next all = All-more (λ n. new ≤ n) xs i 0 lt (All-weaker (λ n. old ≤ n) (λ n. new ≤ n) (λ n up. omega (arith, le, up)) (take i xs) all) next

pub least_step : (f : RepairMove → ℕ) (ms : List RepairMove) (i old new : ℕ) (d : RepairMove) → i < length ms → new ≤ old → new ≤ f (get_or ms i d) → All (λ m. old ≤ f m) (take i ms) → All (λ m. new ≤ f m) (take (i + 1) ms)
least_step f ms i old new d lt le next all = All-more (λ m. new ≤ f m) ms i d lt (All-weaker (λ m. old ≤ f m) (λ m. new ≤ f m) (λ m up. omega (arith, le, up)) (take i ms) all) next
