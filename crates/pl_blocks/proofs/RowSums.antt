-- What rows of blocks and points add up to, counted from either end.
use Rattle.std.proofs.Common.{◌≡◌, ℕ, suc, ◌+◌, ◌<◌, ◌≤◌, Bool, true, false, cond, eqb, leb, List, [], ◌∷◌, ◌++◌, length, get_or, take, drop, refl, ap, sym, ◌∙◌, subst, arith, ℤ, pos, ◌+ℤ◌, ◌-ℤ◌, None, Some, Option}
use Rattle.std.specs.Prelude.{is_some}
use Rattle.std.specs.Ordering.{int_eq}
use Rattle.std.proofs.lemmas.Bool.{false≢true, cond_both, lt-ltb, leb-true, leb-false}
use Rattle.std.proofs.lemmas.Bool.Decides.{Decides-int_eq}
use Rattle.std.proofs.lemmas.Int.{ints, to_z-of_z}
use Rattle.std.proofs.lemmas.List.{append_assoc, drop_all}
use mir.Val.{to_z, of_z, SFits}
use mir.Syntax.{w64}
use Rattle.pl_lists.specs.Lists.{front, back}
use Rattle.pl_lists.proofs.Listing.{front-back}
use Rattle.pl_points.specs.Sums.{IsSmall}
use Rattle.pl_points.specs.Points.{Point, sum_to, sum_below, is_before, put, merged, leaving, first_outside, RiseFrom, SmallFrom, AreNear, IsNear, ArePoints}
use Rattle.pl_points.proofs.PointLists.{small_along, parted_points}
use Rattle.pl_points.proofs.Outside.{below_none, first_is_leaving}
use Rattle.pl_points.proofs.Strolls.{sum_is_below}
use Rattle.pl_blocks.specs.Blocks.{together, is_past, change_of}
use Rattle.pl_blocks.proofs.Rows.{append_nil, take_drop, in_two, middle, small_split, small_head, past_more, below_past, rise_split, is_past_up_to, whole_in_three, not_past_there, below_append, change_next, drop_block}
use Rattle.pl_blocks.proofs.Summaries.{leaving_first, leaving_later}
use Rattle.pl_blocks.proofs.Searches.{change_cut, below_past_one, place_cut, sums_at}

pub change_append : (xs ys : List Point) → change_of (xs ++ ys) ≡ change_of xs +ℤ change_of ys
change_append [] ys = omega (arith, ints)
change_append (x ∷ xs) ys = omega (arith, ints, change_append xs ys)

-- what lies before a place, and from it on
change_in_two : (i : ℕ) (bs : List (List Point)) → change_of (together bs) ≡ change_of (together (take i bs)) +ℤ change_of (together (drop i bs))
change_in_two i bs = ap change_of (in_two i bs) ∙ change_append (together (take i bs)) (together (drop i bs))

pub change_swapped : (i : ℕ) (bs : List (List Point)) (all rest : ℤ) → all ≡ change_of (together bs) → rest ≡ change_of (together (drop i bs)) → all ≡ change_of (together (take i bs)) +ℤ rest
change_swapped i bs all rest one two = omega (arith, ints, one, two, change_in_two i bs)

pub near_before : (i : ℕ) (bs : List (List Point)) → ArePoints (together bs) → AreNear (pos 0) (together (take i bs))
near_before i bs are = (middle [] (together (take i bs)) (together (drop i bs)) (subst ArePoints (in_two i bs) are)).1

pub near_behind : (i : ℕ) (bs : List (List Point)) → ArePoints (together bs) → AreNear (pos 0) (together (drop i bs))
near_behind i bs are =
    let ys = together (drop i bs) in
    (middle (together (take i bs)) ys [] (subst ArePoints (in_two i bs ∙ ap (λ l. together (take i bs) ++ l) (sym (append_nil ys))) are)).1

-- near sums, one part further
pub near_split : (s : ℤ) (xs ys : List Point) → AreNear s (xs ++ ys) → IsNear s × AreNear (s +ℤ change_of xs) ys
near_split s [] ys near =
    let same : s ≡ s +ℤ pos 0 = omega (arith, ints) in
    (head ys near, subst (λ z. AreNear z ys) same near)
  where
    head : (ys : List Point) → AreNear s ys → IsNear s
    head [] near = near
    head (y ∷ ys) near = near.0
near_split s (x ∷ xs) ys near =
    let h = near_split (s +ℤ x.1) xs ys near.1 in
    let same : (s +ℤ x.1) +ℤ change_of xs ≡ s +ℤ (x.1 +ℤ change_of xs) = omega (arith, ints) in
    (near.0, subst (λ z. AreNear z ys) same h.1)

-- the sum of a front is near too
pub near_front : (s : ℤ) (xs ys : List Point) → AreNear s (xs ++ ys) → IsNear (s +ℤ change_of xs)
near_front s xs ys near =
    let h : AreNear (s +ℤ change_of xs) (ys ++ []) = subst (AreNear (s +ℤ change_of xs)) (sym (append_nil ys)) (near_split s xs ys near).1 in
    (near_split (s +ℤ change_of xs) ys [] h).0

pub near_sum : (s x : ℤ) → IsNear s → IsNear (s +ℤ x) → SFits w64 (s +ℤ to_z w64 (of_z w64 x)) × (to_z w64 (of_z w64 (s +ℤ to_z w64 (of_z w64 x))) ≡ s +ℤ x)
near_sum s x one two =
    let fits : SFits w64 x = omega (arith, ints, one.0, one.1, two.0, two.1) in
    let f : to_z w64 (of_z w64 x) ≡ x = to_z-of_z w64 x fits in
    let whole : SFits w64 (s +ℤ x) = omega (arith, ints, two.0, two.1) in
    (omega (arith, ints, one.0, one.1, two.0, two.1, f), rw f (to_z-of_z w64 (s +ℤ x) whole))

-- all deltas of points add up to a small sum
pub small_total : (ps : List Point) → ArePoints ps → IsSmall (change_of ps)
small_total ps are =
    let along : SmallFrom (pos 0) (ps ++ []) = subst (SmallFrom (pos 0)) (sym (append_nil ps)) (small_along ps are) in
    let same : pos 0 +ℤ change_of ps ≡ change_of ps = omega (arith, ints) in
    subst (λ z. IsSmall z) same (small_head (pos 0 +ℤ change_of ps) [] (small_split (pos 0) ps [] along).1)

-- a merge adds its delta
pub change_put : (at : ℕ) (d : ℤ) (ps : List Point) → change_of (put at d ps) ≡ d +ℤ change_of ps
change_put at d ps = cond_both (int_eq d (pos 0)) ps ((at, d) ∷ ps) (λ l. change_of l ≡ d +ℤ change_of ps)
    (λ e. omega (arith, ints, (Decides-int_eq d (pos 0)).0 e)) (λ e. refl)

pub change_merged : (at : ℕ) (d : ℤ) (ps : List Point) → change_of (merged at d ps) ≡ change_of ps +ℤ d
change_merged at d [] = omega (arith, ints, change_put at d [])
change_merged at d (p ∷ ps) =
    let P : List Point → Type 0 = λ l. change_of l ≡ (p.1 +ℤ change_of ps) +ℤ d in
    cond_both (is_before at p) (p ∷ merged at d ps) (cond (eqb p.0 at) (put at (p.1 +ℤ d) ps) (put at d (p ∷ ps))) P
    (λ e. omega (arith, ints, change_merged at d ps))
    (λ e. cond_both (eqb p.0 at) (put at (p.1 +ℤ d) ps) (put at d (p ∷ ps)) P
    (λ f. omega (arith, ints, change_put at (p.1 +ℤ d) ps))
    (λ f. omega (arith, ints, change_put at d (p ∷ ps))))

-- what lies before a moment adds up to the sum there
pub change_taken : (ps : List Point) (n at : ℕ) → RiseFrom 0 ps → drop n ps ≡ back (is_before at) ps → change_of (take n ps) ≡ sum_below ps at
change_taken ps n at rising rest =
    let parts : change_of ps ≡ change_of (take n ps) +ℤ change_of (drop n ps) = ap change_of (sym (take_drop n ps)) ∙ change_append (take n ps) (drop n ps) in
    omega (arith, ints, parts, ap change_of rest, change_cut 0 at ps rising)

not_past_lt : (at d : ℕ) (b : List Point) → is_past d b ≡ true → is_past at b ≡ false → at < d
not_past_lt at d b past not = cases (leb d at) refl
  where
    cases : (v : Bool) → leb d at ≡ v → at < d
    cases true e = absurd (false≢true (sym not ∙ past_more d at b (leb-true d at e) past))
    cases false e = leb-false d at e

-- the sum at a moment: of the blocks before it, and of the points of the next that lie up to it
pub sum_there : (at i : ℕ) (bs : List (List Point)) (b : List Point) → RiseFrom 0 (together bs) → take i bs ≡ front (is_past at) bs → drop i bs ≡ back (is_past at) bs → i < length bs → b ≡ get_or bs i b
    → sum_to (together bs) at ≡ change_of (together (take i bs)) +ℤ sum_below b (at + 1)
sum_there at i bs b rising before rest lt is =
    let us = together (take i bs) in
    let ws = together (drop (suc i) bs) in
    let parts : together bs ≡ us ++ (b ++ ws) = whole_in_three i bs b lt is in
    let r = rise_split 0 us (b ++ ws) (subst (RiseFrom 0) parts rising) in
    let q = rise_split r.0 b ws r.1.1.1 in
    let later : at + 1 ≤ q.0 = omega (arith, not_past_lt at q.0 b q.1.1.0 (not_past_there at i bs b rest lt is)) in
    let past : is_past (at + 1) us ≡ true = past_more at (at + 1) us (omega arith) (is_past_up_to at i bs before) in
    let whole : sum_to (together bs) at ≡ change_of us +ℤ sum_below (b ++ ws) (at + 1) = sum_is_below (together bs) at ∙ ap (λ l. sum_below l (at + 1)) parts ∙ below_past (at + 1) us (b ++ ws) past in
    omega (arith, ints, whole, below_append (at + 1) b ws, below_none q.0 (at + 1) ws later q.1.1.1)

pub sum_nowhere : (at i : ℕ) (bs : List (List Point)) → take i bs ≡ front (is_past at) bs → length bs ≤ i → sum_to (together bs) at ≡ change_of (together (take i bs))
sum_nowhere at i bs before le =
    let us = together (take i bs) in
    let all : together bs ≡ us ++ [] = in_two i bs ∙ ap (λ l. us ++ together l) (drop_all i bs le) in
    let past : is_past (at + 1) us ≡ true = past_more at (at + 1) us (omega arith) (is_past_up_to at i bs before) in
    let whole : sum_to (together bs) at ≡ change_of us +ℤ pos 0 = sum_is_below (together bs) at ∙ ap (λ l. sum_below l (at + 1)) all ∙ below_past (at + 1) us [] past in
    omega (arith, ints, whole)

-- where no sum of all points is outside, none of the last of them is
pub none_behind : (L M s : ℤ) (xs ys : List Point) → is_some (leaving L M s (xs ++ ys)) ≡ false → None ≡ leaving L M (s +ℤ change_of xs) ys
none_behind L M s xs ys none = cases (is_some (leaving L M s xs)) refl
  where
    is_none : (r : Option Point) → is_some r ≡ false → None ≡ r
    is_none None e = refl
    is_none (Some p) e = absurd (false≢true (sym e))

    cases : (v : Bool) → is_some (leaving L M s xs) ≡ v → None ≡ leaving L M (s +ℤ change_of xs) ys
    cases true e = absurd (false≢true (sym none ∙ ap is_some (leaving_first L M s xs ys e) ∙ e))
    cases false e = is_none (leaving L M (s +ℤ change_of xs) ys) (ap is_some (sym (leaving_later L M s xs ys e)) ∙ none)

-- what lies before a place adds up to a small sum
pub small_before : (i : ℕ) (bs : List (List Point)) → ArePoints (together bs) → IsSmall (change_of (together (take i bs)))
small_before i bs are =
    let us = together (take i bs) in
    let along : SmallFrom (pos 0) (us ++ together (drop i bs)) = subst (SmallFrom (pos 0)) (in_two i bs) (small_along (together bs) are) in
    let same : pos 0 +ℤ change_of us ≡ change_of us = omega (arith, ints) in
    subst (λ z. IsSmall z) same (small_head (pos 0 +ℤ change_of us) (together (drop i bs)) (small_split (pos 0) us (together (drop i bs)) along).1)

-- a walk back from the last point: the sums so far, one point fewer, and its end
pub taken_near : (ps : List Point) (i : ℕ) → AreNear (pos 0) ps → IsNear (change_of (take i ps))
taken_near ps i near =
    let same : pos 0 +ℤ change_of (take i ps) ≡ change_of (take i ps) = omega (arith, ints) in
    subst (λ z. IsNear z) same (near_front (pos 0) (take i ps) (drop i ps) (subst (AreNear (pos 0)) (sym (take_drop i ps)) near))

pub step_back : (ps : List Point) (n m : ℕ) (s : ℤ) (p : Point) → AreNear (pos 0) ps → m < length ps → n ≡ m + 1 → p ≡ get_or ps m p → s ≡ change_of (take n ps)
    → SFits w64 (s -ℤ to_z w64 (of_z w64 p.1)) × (to_z w64 (of_z w64 (s -ℤ to_z w64 (of_z w64 p.1))) ≡ change_of (take m ps))
step_back ps n m s p near lt next is sum =
    let parts : change_of (take n ps) ≡ change_of (take m ps) +ℤ p.1 = change_next ps m n p lt next ∙ ap (λ (q : Point). change_of (take m ps) +ℤ q.1) (sym is) in
    let one = taken_near ps n near in
    let two = taken_near ps m near in
    let fits : SFits w64 p.1 = omega (arith, ints, parts, one.0, one.1, two.0, two.1) in
    let f : to_z w64 (of_z w64 p.1) ≡ p.1 = to_z-of_z w64 p.1 fits in
    let less : s -ℤ to_z w64 (of_z w64 p.1) ≡ change_of (take m ps) = omega (arith, ints, sum, f, parts) in
    let whole : SFits w64 (change_of (take m ps)) = omega (arith, ints, two.0, two.1) in
    (subst (λ z. SFits w64 z) (sym less) whole, ap (λ z. to_z w64 (of_z w64 z)) less ∙ to_z-of_z w64 (change_of (take m ps)) whole)

pub ends_behind : (ps : List Point) (n m at : ℕ) (p : Point) → RiseFrom 0 ps → n ≤ length ps → n ≡ m + 1 → p ≡ get_or ps m p → p.0 < at → ((k : ℕ) → n ≤ k → k < length ps → is_before at (get_or ps k (0, pos 0)) ≡ false)
    → (take n ps ≡ front (is_before at) ps) × ((drop n ps ≡ back (is_before at) ps) × (change_of (take n ps) ≡ sum_below ps at))
ends_behind ps n m at p rising le next is before rest =
    let lt : m < length ps = omega (arith, le, next) in
    let h = place_cut (is_before at) ps n (0, pos 0) le (λ k low. below_past_one (is_before at) ps m (0, pos 0) p (parted_points at 0 ps rising) lt is (lt-ltb p.0 at before) k (omega (arith, low, next))) rest in
    (h.0, (h.1, change_taken ps n at rising h.1))

-- a place at or behind the middle whose point reaches a moment, which the middle point does not
pub past_middle : (ps : List Point) (m middle at : ℕ) → middle ≤ m → (get_or ps middle (0, pos 0)).0 < at → at ≤ (get_or ps m (0, pos 0)).0 → middle < m
past_middle ps m middle at le before reaches = cases (leb m middle) refl
  where
    cases : (v : Bool) → leb m middle ≡ v → middle < m
    cases true e =
        let same : m ≡ middle = omega (arith, le, leb-true m middle e) in
        absurd (omega (arith, before, reaches, ap (λ n. (get_or ps n (0, pos 0)).0) same))
    cases false e = leb-false m middle e

pub small_is : (z : ℤ) → IsSmall z → to_z w64 (of_z w64 z) ≡ z
small_is z small = to_z-of_z w64 z (omega (arith, ints, small.0, small.1))

-- one block back: what lies before it, its sums, and the rest of the row from it on
pub block_back : (i n : ℕ) (bs : List (List Point)) (b : List Point) → ArePoints (together bs) → i < length bs → n ≡ i + 1 → b ≡ get_or bs i b
    → (change_of (together (take n bs)) ≡ change_of (together (take i bs)) +ℤ change_of b) × (SmallFrom (change_of (together (take i bs))) b × (together (drop i bs) ≡ b ++ together (drop n bs)))
block_back i n bs b are lt next is =
    let us = together (take i bs) in
    let ws = together (drop (suc i) bs) in
    let along : SmallFrom (pos 0) (us ++ (b ++ ws)) = subst (SmallFrom (pos 0)) (whole_in_three i bs b lt is) (small_along (together bs) are) in
    let same : pos 0 +ℤ change_of us ≡ change_of us = omega (arith, ints) in
    let small : SmallFrom (change_of us) (b ++ ws) = subst (λ z. SmallFrom z (b ++ ws)) same (small_split (pos 0) us (b ++ ws) along).1 in
    let rest : together (drop i bs) ≡ b ++ together (drop n bs) = ap together (drop_block i n bs b lt next is) in
    let sum : change_of (together (take n bs)) ≡ change_of us +ℤ change_of b = omega (arith, ints, change_in_two i bs, change_in_two n bs, ap change_of rest, change_append b (together (drop n bs))) in
    (sum, ((small_split (change_of us) b ws small).0, rest))

-- where no sum in a block is outside, and none behind it, none is from the block on
pub calm_back : (i n : ℕ) (bs : List (List Point)) (b : List Point) (L M : ℤ) → ArePoints (together bs) → i < length bs → n ≡ i + 1 → b ≡ get_or bs i b
    → is_some (leaving L M (change_of (together (take i bs))) b) ≡ false → is_some (leaving L M (change_of (together (take n bs))) (together (drop n bs))) ≡ false
    → is_some (leaving L M (change_of (together (take i bs))) (together (drop i bs))) ≡ false
calm_back i n bs b L M are lt next is here behind =
    let h = block_back i n bs b are lt next is in
    let pre = change_of (together (take i bs)) in
    let ws = together (drop n bs) in
    ap (λ l. is_some (leaving L M pre l)) h.1.1 ∙ ap is_some (leaving_later L M pre b ws here) ∙ ap (λ z. is_some (leaving L M z ws)) (sym h.0) ∙ behind

-- where no sum from a block on is outside, none from a moment in it on is
pub calm_end : (bs : List (List Point)) (i from : ℕ) (b : List Point) (L M before : ℤ) → ArePoints (together bs) → take i bs ≡ front (is_past from) bs → drop i bs ≡ back (is_past from) bs → i < length bs → b ≡ get_or bs i b → before ≡ sum_below (together bs) from
    → is_some (leaving L M (change_of (together (take i bs))) (together (drop i bs))) ≡ false → None ≡ first_outside (together bs) from L M
calm_end bs i from b L M before are earlier rest lt is sum calm =
    let sums = sums_at bs i from b are earlier rest lt is in
    let pre = change_of (together (take i bs)) in
    let xs = front (is_before from) b in
    let ys = back (is_before from) b in
    let ws = together (drop (suc i) bs) in
    let cut : xs ++ ys ≡ b = front-back (is_before from) b in
    let parts : xs ++ (ys ++ ws) ≡ together (drop i bs) = sym (append_assoc xs ys ws) ∙ ap (λ l. l ++ ws) cut ∙ sym (ap together (drop_block i (suc i) bs b lt (omega arith) is)) in
    let none : is_some (leaving L M pre (xs ++ (ys ++ ws))) ≡ false = ap (λ l. is_some (leaving L M pre l)) parts ∙ calm in
    let start : pre +ℤ change_of xs ≡ before = omega (arith, ints, sum, sums.before, sums.change, ap change_of cut, change_append xs ys) in
    none_behind L M pre xs (ys ++ ws) none ∙ ap (λ z. leaving L M z (ys ++ ws)) start ∙ ap (leaving L M before) (sym sums.whole) ∙ sym (first_is_leaving (together bs) from L M before are.rising sum)
