-- Where a search over blocks ends, and how many blocks it passes.
use Rattle.std.proofs.Common.{◌≡◌, ℕ, zero, suc, ◌+◌, ◌-◌, ◌/◌, ◌^◌, ◌<◌, ◌≤◌, Bool, true, false, cond, eqb, leb, List, [], ◌∷◌, ◌++◌, length, get_or, take, drop, refl, ap, sym, ◌∙◌, subst, arith, ℤ, pos, ◌+ℤ◌, ◌-ℤ◌, min, Some, None, Option}
use Rattle.std.specs.Prelude.{int_lt}
use Rattle.std.specs.Int.{int_min, int_max}
use mir.Val.{to_z, of_z, SFits}
use mir.Syntax.{w64}
use Rattle.std.proofs.lemmas.Bool.{false≢true, cond_both, ltb-false, leb-true, leb-false}
use Rattle.std.specs.Ordering.{int_eq}
use Rattle.std.proofs.lemmas.Int.{ints, to_z-of_z}
use Rattle.std.proofs.lemmas.List.{length-drop, get_or_default, take_all}
use Rattle.pl_lists.specs.Lists.{front, back}
use Rattle.pl_points.specs.Sums.{IsSmall}
use Rattle.pl_points.specs.Points.{Point, sum_below, is_before, first_from, merged, put, leaving, is_out, ahead_of, RiseFrom, SmallFrom, AreSmall, ArePoints}
use Rattle.pl_points.proofs.Parting.{IsParted, parted_by, cut, back_fails, drop_next}
use Rattle.pl_points.proofs.PointLists.{head_of, first_is_head, small_along, rising_later, points-merged, length-merged}
use Rattle.pl_points.proofs.Outside.{back_le, below_none, small_back, leaving_ahead}
use Rattle.pl_blocks.specs.Blocks.{together, is_past, blocks_from, change_of, least_along, greatest_along, least_sum, greatest_sum, AreSized, AreFull, AreBlocks}
use Rattle.pl_blocks.specs.Mending.{with_points, Fit, IsMended}
use Rattle.pl_blocks.proofs.Mends.{last_size, last_taken, mended_one}
use Rattle.pl_blocks.proofs.Rows.{back_there, back_nowhere, not_past_there, in_two, is_past_up_to, whole_in_three, blocks_fall, blocks_behind, rise_split, rise_front, small_split, small_head, below_past, merged_there, merged_last, take_drop, sized_at, below_here}

-- halves
pub half_room : (w v e f : ℕ) → w < 2 ^ e → 0 < w → f ≡ e - 1 → v ≤ w / 2 → (v < 2 ^ f) × (0 < e)
half_room w v zero f lt some is le = absurd (omega (arith, lt, some))
half_room w v (suc e) f lt some is le =
    let same : f ≡ e = omega (arith, is) in
    let here : v < 2 ^ e = omega (arith, lt, le) in
    (subst (λ n. v < 2 ^ n) (sym same) here, omega arith)

pub below_past_one : {T : Type 0} (p : T → Bool) (xs : List T) (m : ℕ) (d b : T) → IsParted p xs → m < length xs → b ≡ get_or xs m b → p b ≡ true → (k : ℕ) → k < m + 1 → p (get_or xs k d) ≡ true
below_past_one p xs m d b parted lt is passes k le =
    parted_by p xs parted k m d (omega (arith, le)) lt (ap p (get_or_default xs m d b lt ∙ sym is) ∙ passes)

pub above_one : {T : Type 0} (p : T → Bool) (xs : List T) (m : ℕ) (d b : T) → IsParted p xs → m < length xs → b ≡ get_or xs m b → p b ≡ false → (k : ℕ) → m ≤ k → k < length xs → p (get_or xs k d) ≡ false
above_one p xs m d b parted lt is fails k le high = cases (p (get_or xs k d)) refl
  where
    cases : (v : Bool) → p (get_or xs k d) ≡ v → v ≡ false
    cases true e = absurd (false≢true (sym fails ∙ ap p (is ∙ get_or_default xs m b d lt) ∙ parted_by p xs parted m k d le high e))
    cases false e = refl

pub place_cut : {T : Type 0} (p : T → Bool) (xs : List T) (i : ℕ) (d : T) → i ≤ length xs → ((k : ℕ) → k < i → p (get_or xs k d) ≡ true) → ((k : ℕ) → i ≤ k → k < length xs → p (get_or xs k d) ≡ false) → (take i xs ≡ front p xs) × (drop i xs ≡ back p xs)
place_cut p xs i d le before behind =
    cut p xs i le ((λ k e low high. ap p (get_or_default xs k e d (omega (arith, high, le))) ∙ before k high), (λ k e low high. ap p (get_or_default xs k e d high) ∙ behind k low high))

-- points of which one does not lie before the moment
pub back_some : (at : ℕ) (b : List Point) → is_past at b ≡ false → 0 < length (back (is_before at) b)
back_some at [] e = absurd (false≢true (sym e))
back_some at (p ∷ ps) e = cases (is_before at p) refl (back_some at ps) e
  where
    cases : (v : Bool) → is_before at p ≡ v → (is_past at ps ≡ false → 0 < length (back (is_before at) ps)) → is_past at (p ∷ ps) ≡ false → 0 < length (back (is_before at) (p ∷ ps))
    cases true f more not = rw f (more (rw f at not))
    cases false f more not = rw f (omega arith)

pub count_there : (at i : ℕ) (b : List Point) → is_past at b ≡ false → drop i b ≡ back (is_before at) b → i < length b
count_there at i b not rest = omega (arith, length-drop i b, ap length rest, back_some at b not)

-- the first point at or after a moment
pub none_there : (at i : ℕ) (bs : List (List Point)) → take i bs ≡ front (is_past at) bs → length bs ≤ i → None ≡ first_from (together bs) at
none_there at i bs before le = sym (first_is_head at (together bs) ∙ ap head_of (back_nowhere at i bs before le))

pub first_there : (at i n : ℕ) (bs : List (List Point)) (b : List Point) (q : Point) → take i bs ≡ front (is_past at) bs → drop i bs ≡ back (is_past at) bs → i < length bs → b ≡ get_or bs i b
    → drop n b ≡ back (is_before at) b → n < length b → q ≡ get_or b n q → (Some q ≡ first_from (together bs) at) × (at ≤ q.0)
first_there at i n bs b q before rest lt is cut_is there read =
    let here : back (is_before at) b ≡ q ∷ drop (suc n) b = sym cut_is ∙ drop_next b n q there ∙ ap (λ x. x ∷ drop (suc n) b) (sym read) in
    let whole : back (is_before at) (together bs) ≡ q ∷ (drop (suc n) b ++ together (drop (suc i) bs)) = back_there at i bs b before rest lt is ∙ ap (λ l. l ++ together (drop (suc i) bs)) here in
    (sym (first_is_head at (together bs) ∙ ap head_of whole), ltb-false q.0 at (back_fails (is_before at) b q (drop (suc n) b) here))

-- the sums at a block
pub record Sums (bs : List (List Point)) (place from : ℕ) (b : List Point) (so_far : ℤ) : Type 0 where
  pub before : sum_below (together bs) from ≡ so_far +ℤ sum_below b from
  pub small : IsSmall so_far
  pub small_before : IsSmall (so_far +ℤ sum_below b from)
  pub small_behind : IsSmall (so_far +ℤ change_of b)
  pub along : SmallFrom so_far b
  pub here : SmallFrom (so_far +ℤ sum_below b from) (back (is_before from) b)
  pub rest : SmallFrom (so_far +ℤ change_of b) (together (drop (suc place) bs))
  pub whole : back (is_before from) (together bs) ≡ back (is_before from) b ++ together (drop (suc place) bs)
  pub change : sum_below b from +ℤ change_of (back (is_before from) b) ≡ change_of b
  pub rising : RiseFrom 0 b

pub change_cut : (c at : ℕ) (b : List Point) → RiseFrom c b → sum_below b at +ℤ change_of (back (is_before at) b) ≡ change_of b
change_cut c at [] rising = omega (arith, ints)
change_cut c at (p ∷ ps) rising = cases (is_before at p) refl (change_cut (suc p.0) at ps rising.2)
  where
    cases : (v : Bool) → is_before at p ≡ v → sum_below ps at +ℤ change_of (back (is_before at) ps) ≡ change_of ps → sum_below (p ∷ ps) at +ℤ change_of (back (is_before at) (p ∷ ps)) ≡ change_of (p ∷ ps)
    cases true e more = rw e (omega (arith, ints, more))
    cases false e more = rw e (omega (arith, ints, below_none (suc p.0) at ps (omega (arith, ltb-false p.0 at e)) rising.2))

pub sums_at : (bs : List (List Point)) (place from : ℕ) (b : List Point) → ArePoints (together bs) → take place bs ≡ front (is_past from) bs → drop place bs ≡ back (is_past from) bs → place < length bs → b ≡ get_or bs place b
    → Sums bs place from b (change_of (together (take place bs)))
sums_at bs place from b are before rest lt is =
    let us = together (take place bs) in
    let ws = together (drop (suc place) bs) in
    let parts : together bs ≡ us ++ (b ++ ws) = whole_in_three place bs b lt is in
    let along : SmallFrom (pos 0) (us ++ (b ++ ws)) = subst (SmallFrom (pos 0)) parts (small_along (together bs) are) in
    let one = small_split (pos 0) us (b ++ ws) along in
    let pre : pos 0 +ℤ change_of us ≡ change_of us = omega (arith, ints) in
    let two : SmallFrom (change_of us) (b ++ ws) = subst (λ z. SmallFrom z (b ++ ws)) pre one.1 in
    let three = small_split (change_of us) b ws two in
    let rise = rise_split 0 us (b ++ ws) (subst (RiseFrom 0) parts are.rising) in
    let rising : RiseFrom rise.0 b = rise_front rise.0 b ws rise.1.1.1 in
    let whole : sum_below (together bs) from ≡ change_of us +ℤ sum_below (b ++ ws) from = ap (λ l. sum_below l from) parts ∙ below_past from us (b ++ ws) (is_past_up_to from place bs before) in
    let first : sum_below (b ++ ws) from ≡ sum_below b from = below_here rise.0 from b ws rise.1.1.1 (not_past_there from place bs b rest lt is) in
    let below : SmallFrom (change_of us +ℤ sum_below b from) (back (is_before from) b) = small_back (change_of us) rise.0 from b rising three.0 in
    record {
      before = whole ∙ ap (λ z. change_of us +ℤ z) first;
      small = small_head (change_of us) (b ++ ws) two;
      small_before = small_head (change_of us +ℤ sum_below b from) (back (is_before from) b) below;
      small_behind = small_head (change_of us +ℤ change_of b) ws three.1;
      along = three.0;
      here = below;
      rest = three.1;
      whole = back_there from place bs b before rest lt is;
      change = change_cut rise.0 from b rising;
      rising = rising_later 0 rise.0 b (omega arith) rising;
    }

-- what is left of a sum without what was skipped, and with the block's
pub started : (B K so_far : ℤ) → B ≡ so_far +ℤ K → IsSmall so_far → IsSmall (so_far +ℤ K)
    → SFits w64 (to_z w64 (of_z w64 B) -ℤ to_z w64 (of_z w64 K)) × (to_z w64 (of_z w64 (to_z w64 (of_z w64 B) -ℤ to_z w64 (of_z w64 K))) ≡ so_far)
started B K so_far b one two =
    let fb : SFits w64 B = omega (arith, ints, b, two.0, two.1) in
    let fk : SFits w64 K = omega (arith, ints, one.0, one.1, two.0, two.1) in
    let eb : to_z w64 (of_z w64 B) ≡ B = to_z-of_z w64 B fb in
    let ek : to_z w64 (of_z w64 K) ≡ K = to_z-of_z w64 K fk in
    let less : to_z w64 (of_z w64 B) -ℤ to_z w64 (of_z w64 K) ≡ so_far = omega (arith, ints, b, eb, ek) in
    let fits : SFits w64 so_far = omega (arith, ints, one.0, one.1) in
    (subst (λ z. SFits w64 z) (sym less) fits, ap (λ z. to_z w64 (of_z w64 z)) less ∙ to_z-of_z w64 so_far fits)

pub ended : (T S so_far sum : ℤ) → T ≡ so_far → S ≡ sum → IsSmall so_far → IsSmall (so_far +ℤ sum)
    → SFits w64 (T +ℤ to_z w64 (of_z w64 S)) × (to_z w64 (of_z w64 (T +ℤ to_z w64 (of_z w64 S))) ≡ so_far +ℤ sum)
ended T S so_far sum t s one two =
    let fs : SFits w64 S = omega (arith, ints, s, one.0, one.1, two.0, two.1) in
    let es : to_z w64 (of_z w64 S) ≡ S = to_z-of_z w64 S fs in
    let more : T +ℤ to_z w64 (of_z w64 S) ≡ so_far +ℤ sum = omega (arith, ints, t, es, s) in
    let whole : SFits w64 (so_far +ℤ sum) = omega (arith, ints, two.0, two.1) in
    (subst (λ z. SFits w64 z) (sym more) whole, ap (λ z. to_z w64 (of_z w64 z)) more ∙ to_z-of_z w64 (so_far +ℤ sum) whole)

-- an answer has no more ahead than any later moment has
pub leaving_within : (f : ℕ → ℕ) (n c : ℕ) (least most s : ℤ) (ps : List Point) → RiseFrom c ps → ((t : ℕ) → c ≤ t → f t ≤ n) → ahead_of f (leaving least most s ps) ≤ n
leaving_within f n c least most s [] rising all = omega arith
leaving_within f n c least most s (p ∷ ps) rising all =
    cond_both (is_out least most (s +ℤ p.1)) (Some (p.0, s +ℤ p.1)) (leaving least most (s +ℤ p.1) ps) (λ r. ahead_of f r ≤ n)
    (λ e. all p.0 rising.0)
    (λ e. leaving_within f n (suc p.0) least most (s +ℤ p.1) ps rising.2 (λ t le. all t (omega (arith, le, rising.0))))

-- the blocks before a place count no more for an answer among those from there on
pub ahead_there : (bs : List (List Point)) (i : ℕ) (least most s : ℤ) (xs ys : List Point) (r : Option Point) → RiseFrom 0 (together bs) → together (drop i bs) ≡ xs ++ ys → r ≡ leaving least most s xs → ahead_of (blocks_from bs) r ≤ length (drop i bs)
ahead_there bs i least most s xs ys r rising parts e =
    let h = rise_split 0 (together (take i bs)) (together (drop i bs)) (subst (RiseFrom 0) (in_two i bs) rising) in
    let up : RiseFrom h.0 xs = rise_front h.0 xs ys (subst (RiseFrom h.0) parts h.1.1.1) in
    let all : ((t : ℕ) → h.0 ≤ t → blocks_from bs t ≤ length (drop i bs)) = λ t le. omega (arith, ap (λ l. blocks_from l t) (sym (take_drop i bs)), blocks_behind h.0 t (take i bs) (drop i bs) h.1.1.0 le, back_le (is_past t) (drop i bs)) in
    subst (λ x. ahead_of (blocks_from bs) x ≤ length (drop i bs)) (sym e) (leaving_within (blocks_from bs) (length (drop i bs)) h.0 least most s xs up all)

pub ahead_behind : (bs : List (List Point)) (i : ℕ) (least most s : ℤ) (r : Option Point) → RiseFrom 0 (together bs) → r ≡ leaving least most s (together (drop i bs)) → ahead_of (blocks_from bs) r ≡ ahead_of (blocks_from (drop i bs)) r
ahead_behind bs i least most s r rising e =
    let h = rise_split 0 (together (take i bs)) (together (drop i bs)) (subst (RiseFrom 0) (in_two i bs) rising) in
    let same : ((t : ℕ) → h.0 ≤ t → blocks_from bs t ≡ blocks_from (drop i bs) t) = λ t le. ap (λ l. blocks_from l t) (sym (take_drop i bs)) ∙ blocks_behind h.0 t (take i bs) (drop i bs) h.1.1.0 le in
    ap (ahead_of (blocks_from bs)) e ∙ leaving_ahead (blocks_from bs) (blocks_from (drop i bs)) h.0 least most s (together (drop i bs)) h.1.1.1 same ∙ ap (ahead_of (blocks_from (drop i bs))) (sym e)

pub ahead_from : (bs : List (List Point)) (from : ℕ) (least most s : ℤ) (xs : List Point) (r : Option Point) → RiseFrom from xs → r ≡ leaving least most s xs → ahead_of (blocks_from bs) r ≤ blocks_from bs from
ahead_from bs from least most s xs r rising e =
    subst (λ x. ahead_of (blocks_from bs) x ≤ blocks_from bs from) (sym e) (leaving_within (blocks_from bs) (blocks_from bs from) from least most s xs rising (λ t le. blocks_fall bs from t le))

-- the sums of a block's fronts are small behind a sum
small_least : (s low r : ℤ) (ps : List Point) → IsSmall (s +ℤ low) → SmallFrom (s +ℤ r) ps → IsSmall (s +ℤ least_along low r ps)
small_least s low r [] small along = small
small_least s low r (p ∷ ps) small along =
    let z = r +ℤ p.1 in
    let same : (s +ℤ r) +ℤ p.1 ≡ s +ℤ z = omega (arith, ints) in
    let next : SmallFrom (s +ℤ z) ps = subst (λ x. SmallFrom x ps) same along.1 in
    let here : IsSmall (s +ℤ z) = small_head (s +ℤ z) ps next in
    small_least s (int_min low z) z ps (cond_both (int_lt z low) z low (λ x. IsSmall (s +ℤ x)) (λ e. here) (λ e. small)) next

small_greatest : (s high r : ℤ) (ps : List Point) → IsSmall (s +ℤ high) → SmallFrom (s +ℤ r) ps → IsSmall (s +ℤ greatest_along high r ps)
small_greatest s high r [] small along = small
small_greatest s high r (p ∷ ps) small along =
    let z = r +ℤ p.1 in
    let same : (s +ℤ r) +ℤ p.1 ≡ s +ℤ z = omega (arith, ints) in
    let next : SmallFrom (s +ℤ z) ps = subst (λ x. SmallFrom x ps) same along.1 in
    let here : IsSmall (s +ℤ z) = small_head (s +ℤ z) ps next in
    small_greatest s (int_max high z) z ps (cond_both (int_lt z high) high z (λ x. IsSmall (s +ℤ x)) (λ e. small) (λ e. here)) next

pub small_fronts : (s : ℤ) (b : List Point) → 0 < length b → SmallFrom s b → IsSmall (s +ℤ least_sum b) × IsSmall (s +ℤ greatest_sum b)
small_fronts s [] some small = absurd (omega (arith, some))
small_fronts s (p ∷ ps) some small =
    let same : s ≡ s +ℤ pos 0 = omega (arith, ints) in
    let along : SmallFrom (s +ℤ pos 0) (p ∷ ps) = subst (λ x. SmallFrom x (p ∷ ps)) same small in
    let here : IsSmall (s +ℤ p.1) = small_head (s +ℤ p.1) ps small.1 in
    (small_least s p.1 (pos 0) (p ∷ ps) here along, small_greatest s p.1 (pos 0) (p ∷ ps) here along)

-- a merge leaves at most one point fewer
pub merged_least : (at : ℕ) (d : ℤ) (b : List Point) → length b ≤ suc (length (merged at d b))
merged_least at d [] = omega arith
merged_least at d (p ∷ ps) =
    let P : List Point → Type 0 = λ l. suc (length ps) ≤ suc (length l) in
    cond_both (is_before at p) (p ∷ merged at d ps) (cond (eqb p.0 at) (put at (p.1 +ℤ d) ps) (put at d (p ∷ ps))) P
    (λ e. omega (arith, merged_least at d ps))
    (λ e. cond_both (eqb p.0 at) (put at (p.1 +ℤ d) ps) (put at d (p ∷ ps)) P (λ f. put_least at (p.1 +ℤ d) ps) (λ f. omega (arith, put_least at d (p ∷ ps))))
  where
    put_least : (at : ℕ) (d : ℤ) (ps : List Point) → suc (length ps) ≤ suc (length (put at d ps))
    put_least at d ps = cond_both (int_eq d (pos 0)) ps ((at, d) ∷ ps) (λ l. suc (length ps) ≤ suc (length l)) (λ e. omega arith) (λ e. omega arith)

-- a block that is changed in its place, since it needs no neighbour whatever comes of it
pub mended_at : (bs : List (List Point)) (place at : ℕ) (d : ℤ) (b : List Point) (new : List (List Point)) → Fit bs place (merged at d (get_or bs place [])) → b ≡ get_or bs place [] → 1 < length b → length b < 64
    → (0 < place → 33 < length (get_or bs (place - 1) []) + length b) → (suc place < length bs → 33 < length b + length (get_or bs (suc place) [])) → new ≡ take place bs ++ merged at d b ∷ drop (suc place) bs
    → IsMended bs place (merged at d (get_or bs place [])) new
mended_at bs place at d b new fit is some few later earlier split =
    let ps : List Point = merged at d (get_or bs place []) in
    let same : length b ≡ length (get_or bs place []) = ap length is in
    let least = merged_least at d (get_or bs place []) in
    let most = length-merged at d (get_or bs place []) in
    mended_one bs place ps new fit (omega (arith, same, some, least)) (omega (arith, same, few, most)) (omega (arith, same, least, before place (length b) fit.there some later))
    (λ lt. omega (arith, same, least, earlier lt)) (split ∙ ap (λ x. take place bs ++ merged at d x ∷ drop (suc place) bs) is)
  where
    before : (place n : ℕ) → place < length bs → 1 < n → (0 < place → 33 < length (get_or bs (place - 1) []) + n) → 33 < last_size 33 (take place bs) + n
    before zero n lt some later = omega (arith, some)
    before (suc i) n lt some later =
        let one : suc i - 1 ≡ i = omega arith in
        omega (arith, later (omega arith), ap (λ j. length (get_or bs j [])) one, last_taken 33 (suc i) i bs [] (omega (arith, lt)) refl)

-- the place for a delta
pub fits_there : {all : ℤ} (bs : List (List Point)) (k place at : ℕ) (d : ℤ) (b ps : List Point) → AreBlocks bs all → AreSmall (merged at d (together bs)) → k ≤ length bs → take k bs ≡ front (is_past at) bs → drop k bs ≡ back (is_past at) bs
    → place ≡ min k (length bs - 1) → 0 < length bs → b ≡ get_or bs place b → ps ≡ merged at d b → Fit bs place ps × (merged at d (together bs) ≡ with_points bs place ps)
fits_there bs k place at d b ps are small le before rest chosen some is merged_is =
    let lt : place < length bs = omega (arith, chosen, some) in
    let size = sized_at place bs b are.sized lt is in
    let whole : merged at d (together bs) ≡ together (take place bs) ++ (merged at d b ++ together (drop (suc place) bs)) = chosen_place (leb (length bs) k) refl in
    let all : merged at d (together bs) ≡ with_points bs place ps = whole ∙ ap (λ l. together (take place bs) ++ (l ++ together (drop (suc place) bs))) (sym merged_is) in
    let same : get_or bs place [] ≡ b = get_or_default bs place [] b lt ∙ sym is in (
      record {
        sized = are.sized;
        full = are.full;
        there = lt;
        least = omega (arith, ap length same, ap length merged_is, merged_least at d b);
        most = omega (arith, size.1, ap length merged_is, length-merged at d b);
        points = subst ArePoints all (points-merged at d (together bs) are.points small);
      },
      all,
    )
  where
    chosen_place : (v : Bool) → leb (length bs) k ≡ v → merged at d (together bs) ≡ together (take place bs) ++ (merged at d b ++ together (drop (suc place) bs))
    chosen_place true e =
        let last : suc place ≡ length bs = omega (arith, chosen, some, le, leb-true (length bs) k e) in
        let every : take k bs ≡ bs = take_all k bs (leb-true (length bs) k e) in
        merged_last at place d bs b (ap (λ l. is_past at (together l)) (sym every) ∙ is_past_up_to at k bs before) last is
    chosen_place false e =
        let same : place ≡ k = omega (arith, chosen, leb-false (length bs) k e) in
        merged_there at place d bs b (ap (λ n. take n bs) same ∙ before) (ap (λ n. drop n bs) same ∙ rest) (omega (arith, same, leb-false (length bs) k e)) is

-- the same of the block that stands there
pub fits_at : {all : ℤ} (bs : List (List Point)) (k place at : ℕ) (d e : ℤ) → AreBlocks bs all → AreSmall (merged at d (together bs)) → k ≤ length bs → take k bs ≡ front (is_past at) bs → drop k bs ≡ back (is_past at) bs
    → place ≡ min k (length bs - 1) → 0 < length bs → e ≡ d → Fit bs place (merged at e (get_or bs place [])) × (merged at d (together bs) ≡ with_points bs place (merged at e (get_or bs place [])))
fits_at bs k place at d e are small le before rest chosen some same =
    let b : List Point = get_or bs place [] in
    fits_there bs k place at d b (merged at e b) are small le before rest chosen some (get_or_default bs place [] b (omega (arith, chosen, some))) (ap (λ z. merged at z b) same)

pub mended_blocks : (bs new : List (List Point)) (sum : ℤ) (place : ℕ) (ps : List Point) → ArePoints (with_points bs place ps) → length bs + 1 < 2 ^ 26 → IsMended bs place ps new → sum ≡ change_of (with_points bs place ps) → AreBlocks new sum
mended_blocks bs new sum place ps are few m is = record { sized = m.sized; full = m.full; points = subst ArePoints (sym m.whole) are; few = omega (arith, m.more, few); adds_up = is ∙ ap change_of (sym m.whole) }

pub none_blocks : AreBlocks [] (pos 0)
none_blocks = record { sized = tt; full = tt; points = record { rising = tt; small = λ t. (omega (arith, ints), omega (arith, ints)) }; few = omega arith; adds_up = refl }

pub begun_blocks : (new : List (List Point)) (sum : ℤ) (at : ℕ) (d : ℤ) → together new ≡ put at d [] → AreSized new → length new ≤ 1 → AreSmall (merged at d []) → sum ≡ change_of (put at d []) → AreBlocks new sum
begun_blocks new sum at d whole sized few small is = record {
  sized = sized;
  full = full_one new few;
  points = subst ArePoints (sym whole) (points-merged at d [] none_blocks.points small);
  few = omega (arith, few);
  adds_up = is ∙ ap change_of (sym whole);
}
  where
    full_one : (new : List (List Point)) → length new ≤ 1 → AreFull 33 new
    full_one [] few = tt
    full_one (b ∷ []) few = (omega arith, tt)
    full_one (b ∷ c ∷ bs) few = absurd (omega (arith, few))

pub from_next : (i : ℕ) (bs : List (List Point)) → drop (i + 1) bs ≡ drop (suc i) bs
from_next i bs = let same : i + 1 ≡ suc i = omega arith in ap (λ n. drop n bs) same
