-- Sums of the first points of a list.
use Rattle.std.proofs.Common.{◌≡◌, ℕ, ◌+◌, ◌-◌, ◌<◌, ◌≤◌, true, ltb, List, [], ◌∷◌, ◌++◌, length, get_or, take, drop, ap, sym, ◌∙◌, subst, arith, ℤ, pos, ◌+ℤ◌}
use Rattle.std.specs.Int.{int_min, int_max}
use Rattle.std.proofs.lemmas.Int.{ints}
use Rattle.std.proofs.lemmas.List.{get_or-take, length-take-le, length-append, take_at, take_all}
use Rattle.pl_points.specs.Points.{Point, merged, RiseFrom, AreNear}
use Rattle.pl_blocks.specs.Blocks.{is_past, change_of, least_along, greatest_along, least_sum, greatest_sum, AreSums}
use Rattle.pl_blocks.proofs.Rows.{take_drop, take_next, merged_past, rise_front, last_past, change_next}
use Rattle.pl_blocks.proofs.RowSums.{near_split}

-- the least and the greatest of two parts
least_append : (low s : ℤ) (xs ys : List Point) → least_along low s (xs ++ ys) ≡ least_along (least_along low s xs) (s +ℤ change_of xs) ys
least_append low s [] ys =
    let same : s ≡ s +ℤ pos 0 = omega (arith, ints) in
    ap (λ z. least_along low z ys) same
least_append low s (x ∷ xs) ys =
    let same : (s +ℤ x.1) +ℤ change_of xs ≡ s +ℤ (x.1 +ℤ change_of xs) = omega (arith, ints) in
    least_append (int_min low (s +ℤ x.1)) (s +ℤ x.1) xs ys ∙ ap (λ z. least_along (least_along (int_min low (s +ℤ x.1)) (s +ℤ x.1) xs) z ys) same

greatest_append : (high s : ℤ) (xs ys : List Point) → greatest_along high s (xs ++ ys) ≡ greatest_along (greatest_along high s xs) (s +ℤ change_of xs) ys
greatest_append high s [] ys =
    let same : s ≡ s +ℤ pos 0 = omega (arith, ints) in
    ap (λ z. greatest_along high z ys) same
greatest_append high s (x ∷ xs) ys =
    let same : (s +ℤ x.1) +ℤ change_of xs ≡ s +ℤ (x.1 +ℤ change_of xs) = omega (arith, ints) in
    greatest_append (int_max high (s +ℤ x.1)) (s +ℤ x.1) xs ys ∙ ap (λ z. greatest_along (greatest_along (int_max high (s +ℤ x.1)) (s +ℤ x.1) xs) z ys) same

-- of all points, from those of the first of them
least_on : (xs ys : List Point) → 0 < length xs → least_along (least_sum xs) (change_of xs) ys ≡ least_sum (xs ++ ys)
least_on [] ys some = absurd (omega (arith, some))
least_on (x ∷ xs) ys some =
    let same : pos 0 +ℤ change_of (x ∷ xs) ≡ change_of (x ∷ xs) = omega (arith, ints) in
    ap (λ z. least_along (least_sum (x ∷ xs)) z ys) (sym same) ∙ sym (least_append x.1 (pos 0) (x ∷ xs) ys)

greatest_on : (xs ys : List Point) → 0 < length xs → greatest_along (greatest_sum xs) (change_of xs) ys ≡ greatest_sum (xs ++ ys)
greatest_on [] ys some = absurd (omega (arith, some))
greatest_on (x ∷ xs) ys some =
    let same : pos 0 +ℤ change_of (x ∷ xs) ≡ change_of (x ∷ xs) = omega (arith, ints) in
    ap (λ z. greatest_along (greatest_sum (x ∷ xs)) z ys) (sym same) ∙ sym (greatest_append x.1 (pos 0) (x ∷ xs) ys)

taken_some : (ps : List Point) (i : ℕ) → 0 < i → i ≤ length ps → 0 < length (take i ps)
taken_some ps i some le = omega (arith, length-take-le i ps le, some)

pub sums_near : (ps : List Point) (i : ℕ) (s low high : ℤ) → AreSums ps i s low high → AreNear (pos 0) ps → AreNear s (drop i ps)
sums_near ps i s low high sums near =
    let xs = take i ps in
    let ys = drop i ps in
    let same : pos 0 +ℤ change_of xs ≡ s = omega (arith, ints, sums.adds_up) in
    subst (λ z. AreNear z ys) same (near_split (pos 0) xs ys (subst (AreNear (pos 0)) (sym (take_drop i ps)) near)).1

-- the first point alone
pub first_sums : (ps : List Point) (p : Point) → 0 < length ps → p ≡ get_or ps 0 p → AreSums ps 1 p.1 p.1 p.1
first_sums [] p some is = absurd (omega (arith, some))
first_sums (x ∷ xs) p some is =
    let e : x.1 ≡ p.1 = ap (λ (q : Point). q.1) (sym is) in
    record {
      one = omega arith;
      bound = omega arith;
      adds_up = omega (arith, ints, e);
      lowest = sym (ap (λ z. int_min z (pos 0 +ℤ z)) e ∙ low_itself p.1);
      highest = sym (ap (λ z. int_max z (pos 0 +ℤ z)) e ∙ high_itself p.1);
    }
  where
    low_itself : (z : ℤ) → int_min z (pos 0 +ℤ z) ≡ z
    low_itself z = grind (arith, ints)

    high_itself : (z : ℤ) → int_max z (pos 0 +ℤ z) ≡ z
    high_itself z = grind (arith, ints)

-- one point more
pub next_sums : (ps : List Point) (i j : ℕ) (s low high z l h : ℤ) (p : Point) → AreSums ps i s low high → i < length ps → j ≡ i + 1 → p ≡ get_or ps i p → z ≡ s +ℤ p.1 → l ≡ int_min low z → h ≡ int_max high z → AreSums ps j z l h
next_sums ps i j s low high z l h p sums lt next is sum lower higher =
    let xs = take i ps in
    let parts : take j ps ≡ xs ++ p ∷ [] = take_next ps i j p lt next ∙ ap (λ q. xs ++ q ∷ []) (sym is) in
    let some : 0 < length xs = taken_some ps i sums.one sums.bound in
    let total : z ≡ change_of xs +ℤ p.1 = sum ∙ ap (λ y. y +ℤ p.1) sums.adds_up in
    record {
      one = omega (arith, next);
      bound = omega (arith, lt, next);
      adds_up = total ∙ ap (λ (q : Point). change_of xs +ℤ q.1) is ∙ sym (change_next ps i j p lt next);
      lowest = lower ∙ ap (λ y. int_min y z) sums.lowest ∙ ap (int_min (least_sum xs)) total ∙ least_on xs (p ∷ []) some ∙ ap least_sum (sym parts);
      highest = higher ∙ ap (λ y. int_max y z) sums.highest ∙ ap (int_max (greatest_sum xs)) total ∙ greatest_on xs (p ∷ []) some ∙ ap greatest_sum (sym parts);
    }

-- whether the first points all lie before a moment, which the last of them says
pub taken_past : (ps : List Point) (i at : ℕ) (d : Point) → RiseFrom 0 ps → 0 < i → i ≤ length ps → ltb (get_or ps (i - 1) d).0 at ≡ is_past at (take i ps)
taken_past ps i at d rising some le =
    let rise : RiseFrom 0 (take i ps) = rise_front 0 (take i ps) (drop i ps) (subst (RiseFrom 0) (sym (take_drop i ps)) rising) in
    ap (λ (q : Point). ltb q.0 at) (sym (get_or-take i ps (i - 1) d (omega (arith, some)))) ∙ last_past 0 at (take i ps) (i - 1) d rise (omega (arith, some, length-take-le i ps le))

-- where a change is behind the first points, their sums stay
pub kept_sums : (ps : List Point) (i at : ℕ) (d s low high : ℤ) → AreSums ps i s low high → is_past at (take i ps) ≡ true → AreSums (merged at d ps) i s low high
kept_sums ps i at d s low high sums past =
    let xs = take i ps in
    let ys = merged at d (drop i ps) in
    let size : length xs ≡ i = length-take-le i ps sums.bound in
    let whole : merged at d ps ≡ xs ++ ys = ap (merged at d) (sym (take_drop i ps)) ∙ merged_past at d xs (drop i ps) past in
    let same : xs ≡ take i (merged at d ps) = sym (ap (take i) whole ∙ take_at xs ys i size) in
    record {
      one = sums.one;
      bound = omega (arith, size, ap length whole, length-append xs ys);
      adds_up = sums.adds_up ∙ ap change_of same;
      lowest = sums.lowest ∙ ap least_sum same;
      highest = sums.highest ∙ ap greatest_sum same;
    }

-- the first points are all
pub all_sums : (ps : List Point) (i : ℕ) (s low high : ℤ) → AreSums ps i s low high → length ps ≤ i → (s ≡ change_of ps) × ((low ≡ least_sum ps) × (high ≡ greatest_sum ps))
all_sums ps i s low high sums le =
    let all : take i ps ≡ ps = take_all i ps le in
    (sums.adds_up ∙ ap change_of all, (sums.lowest ∙ ap least_sum all, sums.highest ∙ ap greatest_sum all))
