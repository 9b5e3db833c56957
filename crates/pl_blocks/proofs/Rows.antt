-- Rows of blocks as one list of points.
use Rattle.std.proofs.Common.{◌≡◌, ℕ, zero, suc, ◌+◌, ◌*◌, ◌<◌, ◌≤◌, Bool, true, false, ◌&&◌, cond, ltb, ◌/◌, List, [], ◌∷◌, ◌++◌, length, get_or, take, drop, refl, ap, sym, ◌∙◌, subst, arith, append_assoc, ℤ, pos, ◌+ℤ◌, eqb, leb}
use Rattle.std.specs.Ordering.{int_eq}
use Rattle.std.proofs.lemmas.Bool.{false≢true, lt-ltb, le-ltb, ltb-true, leb-true, leb-false, and_from}
use Rattle.std.proofs.lemmas.Int.{ints, to_z-of_z}
use Rattle.std.proofs.lemmas.List.{length-append}
use Rattle.std.proofs.Math.Seq.{take-suc}
use Rattle.std.proofs.Math.Bool.{and-true, and-false}
use Rattle.pl_lists.specs.Lists.{front, back}
use Rattle.pl_lists.proofs.Tests.{and_first, and_second}
use Rattle.pl_points.specs.Sums.{IsSmall}
use Rattle.pl_points.specs.Points.{Point, sum_below, is_before, put, merged, RiseFrom, SmallFrom, AreNear, ArePoints}
use Rattle.pl_points.proofs.Parting.{NonePass, IsParted, back_fails, drop_next}
use Rattle.pl_points.proofs.PointLists.{small_along, rising_later, small_near, rising_drop}
use Rattle.pl_points.proofs.Outside.{back_le, below_none}
use Rattle.pl_points.proofs.Totals.{total-push}
use mir.Val.{to_z, of_z, SFits}
use mir.Syntax.{w64}
use Rattle.pl_blocks.specs.Blocks.{together, is_past, blocks_from, change_of, delta_of, AreSized, AreFull}

pub together-append : (xs ys : List (List Point)) → together (xs ++ ys) ≡ together xs ++ together ys
together-append [] ys = refl
together-append (x ∷ xs) ys = ap (λ l. x ++ l) (together-append xs ys) ∙ sym (append_assoc x (together xs) (together ys))

and_false : (a b : Bool) → a ≡ true → (a && b) ≡ false → b ≡ false
and_false true b e f = f
and_false false b e f = absurd (false≢true e)

pub past_more : (a b : ℕ) (ps : List Point) → a ≤ b → is_past a ps ≡ true → is_past b ps ≡ true
past_more a b [] le e = refl
past_more a b (p ∷ ps) le e =
    let f : is_before b p ≡ true = lt-ltb p.0 b (omega (arith, ltb-true p.0 a (and_first (is_before a p) (is_past a ps) e), le)) in
    and_from (is_before b p) (is_past b ps) f (past_more a b ps le (and_second (is_before a p) (is_past a ps) e))

pub past_append : (at : ℕ) (xs ys : List Point) → is_past at xs ≡ true → is_past at ys ≡ true → is_past at (xs ++ ys) ≡ true
past_append at [] ys e f = f
past_append at (x ∷ xs) ys e f = and_from (is_before at x) (is_past at (xs ++ ys)) (and_first (is_before at x) (is_past at xs) e) (past_append at xs ys (and_second (is_before at x) (is_past at xs) e) f)

past_left : (at : ℕ) (xs ys : List Point) → is_past at (xs ++ ys) ≡ true → is_past at xs ≡ true
past_left at [] ys e = refl
past_left at (x ∷ xs) ys e = and_from (is_before at x) (is_past at xs) (and_first (is_before at x) (is_past at (xs ++ ys)) e) (past_left at xs ys (and_second (is_before at x) (is_past at (xs ++ ys)) e))

past_right : (at : ℕ) (xs ys : List Point) → is_past at (xs ++ ys) ≡ true → is_past at ys ≡ true
past_right at [] ys e = e
past_right at (x ∷ xs) ys e = past_right at xs ys (and_second (is_before at x) (is_past at (xs ++ ys)) e)

-- points that lie before a moment, and others behind them
pub back_past : (at : ℕ) (xs ys : List Point) → is_past at xs ≡ true → back (is_before at) (xs ++ ys) ≡ back (is_before at) ys
back_past at [] ys e = refl
back_past at (x ∷ xs) ys e =
    let f : is_before at x ≡ true = and_first (is_before at x) (is_past at xs) e in
    rw f (back_past at xs ys (and_second (is_before at x) (is_past at xs) e))

pub below_past : (at : ℕ) (xs ys : List Point) → is_past at xs ≡ true → sum_below (xs ++ ys) at ≡ change_of xs +ℤ sum_below ys at
below_past at [] ys e = omega (arith, ints)
below_past at (x ∷ xs) ys e =
    let f : is_before at x ≡ true = and_first (is_before at x) (is_past at xs) e in
    rw f (omega (arith, ints, below_past at xs ys (and_second (is_before at x) (is_past at xs) e)))

pub merged_past : (at : ℕ) (d : ℤ) (xs ys : List Point) → is_past at xs ≡ true → merged at d (xs ++ ys) ≡ xs ++ merged at d ys
merged_past at d [] ys e = refl
merged_past at d (x ∷ xs) ys e =
    let f : is_before at x ≡ true = and_first (is_before at x) (is_past at xs) e in
    rw f (ap (λ l. x ∷ l) (merged_past at d xs ys (and_second (is_before at x) (is_past at xs) e)))

-- points of which one does not
pub back_here : (at : ℕ) (xs ys : List Point) → is_past at xs ≡ false → back (is_before at) (xs ++ ys) ≡ back (is_before at) xs ++ ys
back_here at [] ys e = absurd (false≢true (sym e))
back_here at (x ∷ xs) ys e = cases (is_before at x) refl (back_here at xs ys)
  where
    cases : (v : Bool) → is_before at x ≡ v → (is_past at xs ≡ false → back (is_before at) (xs ++ ys) ≡ back (is_before at) xs ++ ys) → back (is_before at) (x ∷ (xs ++ ys)) ≡ back (is_before at) (x ∷ xs) ++ ys
    cases true f more = rw f (more (and_false (is_before at x) (is_past at xs) f e))
    cases false f more = rw f refl

put_append : (at : ℕ) (d : ℤ) (xs ys : List Point) → put at d (xs ++ ys) ≡ put at d xs ++ ys
put_append at d xs ys = cases (int_eq d (pos 0))
  where
    cases : (v : Bool) → cond v (xs ++ ys) ((at, d) ∷ (xs ++ ys)) ≡ cond v xs ((at, d) ∷ xs) ++ ys
    cases true = refl
    cases false = refl

pub merged_here : (at : ℕ) (d : ℤ) (xs ys : List Point) → is_past at xs ≡ false → merged at d (xs ++ ys) ≡ merged at d xs ++ ys
merged_here at d [] ys e = absurd (false≢true (sym e))
merged_here at d (x ∷ xs) ys e = cases (is_before at x) refl (merged_here at d xs ys)
  where
    same : (w : Bool) → cond w (put at (x.1 +ℤ d) (xs ++ ys)) (put at d (x ∷ (xs ++ ys))) ≡ cond w (put at (x.1 +ℤ d) xs) (put at d (x ∷ xs)) ++ ys
    same true = put_append at (x.1 +ℤ d) xs ys
    same false = put_append at d (x ∷ xs) ys

    cases : (v : Bool) → is_before at x ≡ v → (is_past at xs ≡ false → merged at d (xs ++ ys) ≡ merged at d xs ++ ys) → merged at d (x ∷ (xs ++ ys)) ≡ merged at d (x ∷ xs) ++ ys
    cases true f more = rw f (ap (λ l. x ∷ l) (more (and_false (is_before at x) (is_past at xs) f e)))
    cases false f more = rw f (same (eqb x.0 at))

-- where rising points are cut, a moment lies between
pub rise_split : (c : ℕ) (xs ys : List Point) → RiseFrom c (xs ++ ys) → (d : ℕ) × ((c ≤ d) × ((is_past d xs ≡ true) × RiseFrom d ys))
rise_split c [] ys rising = (c, (omega arith, (refl, rising)))
rise_split c (x ∷ xs) ys rising =
    let h = rise_split (suc x.0) xs ys rising.2 in
    (h.0, (omega (arith, rising.0, h.1.0), (and_from (is_before h.0 x) (is_past h.0 xs) (lt-ltb x.0 h.0 (omega (arith, h.1.0))) h.1.1.0, h.1.1.1)))

pub rise_front : (c : ℕ) (xs ys : List Point) → RiseFrom c (xs ++ ys) → RiseFrom c xs
rise_front c [] ys rising = tt
rise_front c (x ∷ xs) ys rising = (rising.0, rising.1, rise_front (suc x.0) xs ys rising.2)

pub small_head : (s : ℤ) (ps : List Point) → SmallFrom s ps → IsSmall s
small_head s [] small = small
small_head s (p ∷ ps) small = small.0

pub small_split : (s : ℤ) (xs ys : List Point) → SmallFrom s (xs ++ ys) → SmallFrom s xs × SmallFrom (s +ℤ change_of xs) ys
small_split s [] ys small =
    let same : s ≡ s +ℤ pos 0 = omega (arith, ints) in
    (small_head s ys small, subst (λ z. SmallFrom z ys) same small)
small_split s (x ∷ xs) ys small =
    let h = small_split (s +ℤ x.1) xs ys small.1 in
    let same : (s +ℤ x.1) +ℤ change_of xs ≡ s +ℤ (x.1 +ℤ change_of xs) = omega (arith, ints) in
    ((small.0, h.0), subst (λ z. SmallFrom z ys) same h.1)

-- a middle part of points
pub middle : (us vs ws : List Point) → ArePoints (us ++ (vs ++ ws)) → RiseFrom 0 vs × AreNear (pos 0) vs
middle us vs ws are =
    let h = rise_split 0 us (vs ++ ws) are.rising in
    let s = small_split (pos 0) us (vs ++ ws) (small_along (us ++ (vs ++ ws)) are) in
    let o = pos 0 +ℤ change_of us in
    let t = small_split o vs ws s.1 in
    let same : o ≡ o +ℤ pos 0 = omega (arith, ints) in
    (rising_later 0 h.0 vs (omega arith) (rise_front h.0 vs ws h.1.1.1), small_near o (pos 0) vs (small_head o vs t.0) (subst (λ z. SmallFrom z vs) same t.0))

not_past_from : (at c : ℕ) (b : List Point) → at ≤ c → RiseFrom c b → 0 < length b → is_past at b ≡ false
not_past_from at c [] le rising some = absurd (omega (arith, some))
not_past_from at c (p ∷ ps) le rising some =
    let f : is_before at p ≡ false = le-ltb p.0 at (omega (arith, le, rising.0)) in
    rw f refl

pub not_past_le : (at d : ℕ) (b : List Point) → is_past d b ≡ true → is_past at b ≡ false → at ≤ d
not_past_le at d b past not = cases (leb at d) refl
  where
    cases : (v : Bool) → leb at d ≡ v → at ≤ d
    cases true e = leb-true at d e
    cases false e = absurd (false≢true (sym not ∙ past_more d at b (omega (arith, leb-false at d e)) past))

none_past : (at c : ℕ) (bs : List (List Point)) → at ≤ c → RiseFrom c (together bs) → AreSized bs → NonePass (is_past at) bs
none_past at c [] le rising sized = tt
none_past at c (b ∷ bs) le rising sized =
    let h = rise_split c b (together bs) rising in
    (not_past_from at c b le (rise_front c b (together bs) rising) sized.0, none_past at h.0 bs (omega (arith, le, h.1.0)) h.1.1.1 sized.2)

pub parted_blocks : (at c : ℕ) (bs : List (List Point)) → RiseFrom c (together bs) → AreSized bs → IsParted (is_past at) bs
parted_blocks at c [] rising sized = tt
parted_blocks at c (b ∷ bs) rising sized =
    let h = rise_split c b (together bs) rising in
    ((λ e. none_past at h.0 bs (not_past_le at h.0 b h.1.1.0 e) h.1.1.1 sized.2), parted_blocks at h.0 bs h.1.1.1 sized.2)

front_past : (at : ℕ) (bs : List (List Point)) → is_past at (together (front (is_past at) bs)) ≡ true
front_past at [] = refl
front_past at (b ∷ bs) = cases (is_past at b) refl (front_past at bs)
  where
    cases : (v : Bool) → is_past at b ≡ v → is_past at (together (front (is_past at) bs)) ≡ true → is_past at (together (front (is_past at) (b ∷ bs))) ≡ true
    cases true e more = rw e (past_append at b (together (front (is_past at) bs)) e more)
    cases false e more = rw e refl

pub take_drop : {T : Type 0} (i : ℕ) (xs : List T) → take i xs ++ drop i xs ≡ xs
take_drop zero xs = refl
take_drop (suc i) [] = refl
take_drop (suc i) (x ∷ xs) = ap (λ l. x ∷ l) (take_drop i xs)

pub take_next : {T : Type 0} (xs : List T) (i j : ℕ) (d : T) → i < length xs → j ≡ i + 1 → take j xs ≡ take i xs ++ get_or xs i d ∷ []
take_next xs i j d lt next = ap (λ n. take n xs) (step i j next) ∙ take-suc xs i d lt
  where
    step : (i j : ℕ) → j ≡ i + 1 → j ≡ suc i
    step i j next = omega (arith, next)

-- a place up to which the blocks lie before a moment
pub is_past_up_to : (at i : ℕ) (bs : List (List Point)) → take i bs ≡ front (is_past at) bs → is_past at (together (take i bs)) ≡ true
is_past_up_to at i bs before = ap (λ l. is_past at (together l)) before ∙ front_past at bs

pub in_two : (i : ℕ) (bs : List (List Point)) → together bs ≡ together (take i bs) ++ together (drop i bs)
in_two i bs = ap together (sym (take_drop i bs)) ∙ together-append (take i bs) (drop i bs)

-- a block at a place, and those round it
pub in_three : (i : ℕ) (bs : List (List Point)) (b : List Point) → i < length bs → b ≡ get_or bs i b → bs ≡ take i bs ++ b ∷ drop (suc i) bs
in_three i bs b lt is = sym (take_drop i bs) ∙ ap (λ l. take i bs ++ l) (drop_next bs i b lt ∙ ap (λ q. q ∷ drop (suc i) bs) (sym is))

pub whole_in_three : (i : ℕ) (bs : List (List Point)) (b : List Point) → i < length bs → b ≡ get_or bs i b → together bs ≡ together (take i bs) ++ (b ++ together (drop (suc i) bs))
whole_in_three i bs b lt is = ap together (in_three i bs b lt is) ∙ together-append (take i bs) (b ∷ drop (suc i) bs)

pub not_past_there : (at i : ℕ) (bs : List (List Point)) (b : List Point) → drop i bs ≡ back (is_past at) bs → i < length bs → b ≡ get_or bs i b → is_past at b ≡ false
not_past_there at i bs b rest lt is =
    back_fails (is_past at) bs b (drop (suc i) bs) (sym rest ∙ drop_next bs i b lt ∙ ap (λ q. q ∷ drop (suc i) bs) (sym is))

-- the points at a moment and after: those of the first block that reaches it, and all behind
pub back_there : (at i : ℕ) (bs : List (List Point)) (b : List Point) → take i bs ≡ front (is_past at) bs → drop i bs ≡ back (is_past at) bs → i < length bs → b ≡ get_or bs i b
    → back (is_before at) (together bs) ≡ back (is_before at) b ++ together (drop (suc i) bs)
back_there at i bs b before rest lt is =
    ap (back (is_before at)) (whole_in_three i bs b lt is) ∙ back_past at (together (take i bs)) (b ++ together (drop (suc i) bs)) (is_past_up_to at i bs before)
    ∙ back_here at b (together (drop (suc i) bs)) (not_past_there at i bs b rest lt is)

-- where no block reaches it there are none
pub back_nowhere : (at i : ℕ) (bs : List (List Point)) → take i bs ≡ front (is_past at) bs → length bs ≤ i → back (is_before at) (together bs) ≡ []
back_nowhere at i bs before le =
    ap (λ l. back (is_before at) l) (in_two i bs) ∙ back_past at (together (take i bs)) (together (drop i bs)) (is_past_up_to at i bs before)
    ∙ ap (λ l. back (is_before at) (together l)) (none_left i bs le)
  where
    none_left : (i : ℕ) (bs : List (List Point)) → length bs ≤ i → drop i bs ≡ []
    none_left zero [] le = refl
    none_left zero (b ∷ bs) le = absurd (omega (arith, le))
    none_left (suc i) [] le = refl
    none_left (suc i) (b ∷ bs) le = none_left i bs (omega (arith, le))

-- a delta for a moment that a block reaches
pub merged_there : (at i : ℕ) (d : ℤ) (bs : List (List Point)) (b : List Point) → take i bs ≡ front (is_past at) bs → drop i bs ≡ back (is_past at) bs → i < length bs → b ≡ get_or bs i b
    → merged at d (together bs) ≡ together (take i bs) ++ (merged at d b ++ together (drop (suc i) bs))
merged_there at i d bs b before rest lt is =
    ap (merged at d) (whole_in_three i bs b lt is) ∙ merged_past at d (together (take i bs)) (b ++ together (drop (suc i) bs)) (is_past_up_to at i bs before)
    ∙ ap (λ l. together (take i bs) ++ l) (merged_here at d b (together (drop (suc i) bs)) (not_past_there at i bs b rest lt is))

pub append_nil : {T : Type 0} (xs : List T) → xs ++ [] ≡ xs
append_nil [] = refl
append_nil (x ∷ xs) = ap (λ l. x ∷ l) (append_nil xs)

-- and for a moment behind all, at the last block
pub merged_last : (at i : ℕ) (d : ℤ) (bs : List (List Point)) (b : List Point) → is_past at (together bs) ≡ true → suc i ≡ length bs → b ≡ get_or bs i b
    → merged at d (together bs) ≡ together (take i bs) ++ (merged at d b ++ together (drop (suc i) bs))
merged_last at i d bs b past last is =
    let lt : i < length bs = omega (arith, last) in
    let none : drop (suc i) bs ≡ [] = none_left (suc i) bs (omega (arith, last)) in
    let whole : together bs ≡ together (take i bs) ++ (b ++ []) = whole_in_three i bs b lt is ∙ ap (λ l. together (take i bs) ++ (b ++ together l)) none in
    let front_is : is_past at (together (take i bs)) ≡ true = past_left at (together (take i bs)) (b ++ []) (ap (is_past at) (sym whole) ∙ past) in
    ap (merged at d) whole ∙ merged_past at d (together (take i bs)) (b ++ []) front_is
    ∙ ap (λ l. together (take i bs) ++ merged at d l) (append_nil b)
    ∙ ap (λ l. together (take i bs) ++ l) (sym (append_nil (merged at d b)))
    ∙ ap (λ l. together (take i bs) ++ (merged at d b ++ together l)) (sym none)
  where
    none_left : (i : ℕ) (bs : List (List Point)) → length bs ≤ i → drop i bs ≡ []
    none_left zero [] le = refl
    none_left zero (b ∷ bs) le = absurd (omega (arith, le))
    none_left (suc i) [] le = refl
    none_left (suc i) (b ∷ bs) le = none_left i bs (omega (arith, le))

-- a later moment leaves no more blocks ahead
pub blocks_fall : (bs : List (List Point)) (a b : ℕ) → a ≤ b → blocks_from bs b ≤ blocks_from bs a
blocks_fall [] a b le = omega arith
blocks_fall (x ∷ bs) a b le = cases (is_past a x) refl (blocks_fall bs a b le)
  where
    cases : (v : Bool) → is_past a x ≡ v → blocks_from bs b ≤ blocks_from bs a → blocks_from (x ∷ bs) b ≤ blocks_from (x ∷ bs) a
    cases true e more =
        let f : is_past b x ≡ true = past_more a b x le e in
        rw e (rw f more)
    cases false e more = rw e (back_le (is_past b) (x ∷ bs))

-- blocks that lie before a moment count no more from there on
pub blocks_behind : (d t : ℕ) (xs ys : List (List Point)) → is_past d (together xs) ≡ true → d ≤ t → blocks_from (xs ++ ys) t ≡ blocks_from ys t
blocks_behind d t [] ys past le = refl
blocks_behind d t (x ∷ xs) ys past le =
    let f : is_past t x ≡ true = past_more d t x le (past_left d x (together xs) past) in
    rw f (blocks_behind d t xs ys (past_right d x (together xs) past) le)

pub sized_at : (i : ℕ) (bs : List (List Point)) (b : List Point) → AreSized bs → i < length bs → b ≡ get_or bs i b → (0 < length b) × (length b ≤ 64)
sized_at i [] b sized lt is = absurd (omega (arith, lt))
sized_at zero (x ∷ bs) b sized lt is = subst (λ l. (0 < length l) × (length l ≤ 64)) (sym is) (sized.0, sized.1)
sized_at (suc i) (x ∷ bs) b sized lt is = sized_at i bs b sized.2 (omega (arith, lt)) is

pub sized_drop : (i : ℕ) (bs : List (List Point)) → AreSized bs → AreSized (drop i bs)
sized_drop zero bs sized = sized
sized_drop (suc i) [] sized = tt
sized_drop (suc i) (b ∷ bs) sized = sized_drop i bs sized.2

-- where the points before a moment end
cut_front : (at : ℕ) (xs : List Point) → is_past at xs ≡ true → front (is_before at) xs ≡ xs
cut_front at [] e = refl
cut_front at (x ∷ xs) e =
    let f : is_before at x ≡ true = and_first (is_before at x) (is_past at xs) e in
    rw f (ap (λ l. x ∷ l) (cut_front at xs (and_second (is_before at x) (is_past at xs) e)))

cut_at : (at : ℕ) (xs ys : List Point) (q : Point) → is_past at xs ≡ true → is_before at q ≡ false → (front (is_before at) (xs ++ q ∷ ys) ≡ xs) × (back (is_before at) (xs ++ q ∷ ys) ≡ q ∷ ys)
cut_at at [] ys q e f = (rw f refl, rw f refl)
cut_at at (x ∷ xs) ys q e f =
    let g : is_before at x ≡ true = and_first (is_before at x) (is_past at xs) e in
    let h = cut_at at xs ys q (and_second (is_before at x) (is_past at xs) e) f in
    (rw g (ap (λ l. x ∷ l) h.0), rw g h.1)

pub passed_here : (ps : List Point) (i at : ℕ) (p : Point) → RiseFrom 0 ps → is_past at (take i ps) ≡ true → i < length ps → p ≡ get_or ps i p → at ≤ p.0
    → (take i ps ≡ front (is_before at) ps) × ((drop i ps ≡ back (is_before at) ps) × (change_of (take i ps) ≡ sum_below ps at))
passed_here ps i at p rising past lt is le =
    let rest : drop i ps ≡ p ∷ drop (suc i) ps = drop_next ps i p lt ∙ ap (λ q. q ∷ drop (suc i) ps) (sym is) in
    let whole : take i ps ++ p ∷ drop (suc i) ps ≡ ps = ap (λ l. take i ps ++ l) (sym rest) ∙ take_drop i ps in
    let f : is_before at p ≡ false = le-ltb p.0 at le in
    let h = cut_at at (take i ps) (drop (suc i) ps) p past f in
    let r : RiseFrom 0 (p ∷ drop (suc i) ps) = subst (λ l. RiseFrom 0 l) rest (rising_drop 0 i ps rising) in
    let none : sum_below (p ∷ drop (suc i) ps) at ≡ pos 0 = below_none at at (p ∷ drop (suc i) ps) (omega arith) (le, r.1, r.2) in
    let sum : change_of (take i ps) ≡ change_of (take i ps) +ℤ sum_below (p ∷ drop (suc i) ps) at = omega (arith, ints, none) in (
      sym h.0 ∙ ap (front (is_before at)) whole,
      (
        rest ∙ sym h.1 ∙ ap (back (is_before at)) whole,
        sum ∙ sym (below_past at (take i ps) (p ∷ drop (suc i) ps) past) ∙ ap (λ l. sum_below l at) whole,
      ),
    )

pub passed_all : (ps : List Point) (at : ℕ) → is_past at ps ≡ true → (ps ≡ front (is_before at) ps) × (([] ≡ back (is_before at) ps) × (change_of ps ≡ sum_below ps at))
passed_all ps at past =
    let same : ps ++ [] ≡ ps = append_nil ps in
    let sum : change_of ps ≡ change_of ps +ℤ pos 0 = omega (arith, ints) in
    (sym (cut_front at ps past), (sym (back_past at ps [] past) ∙ ap (back (is_before at)) same, sum ∙ sym (below_past at ps [] past) ∙ ap (λ l. sum_below l at) same))

pub past_next : (at : ℕ) (ps : List Point) (i j : ℕ) (d : Point) → i < length ps → j ≡ i + 1 → is_past at (take i ps) ≡ true → (get_or ps i d).0 < at → is_past at (take j ps) ≡ true
past_next at ps i j d lt next past before =
    let f : is_before at (get_or ps i d) ≡ true = lt-ltb (get_or ps i d).0 at before in
    let g : is_past at (get_or ps i d ∷ []) ≡ true = rw f refl in
    ap (is_past at) (take_next ps i j d lt next) ∙ past_append at (take i ps) (get_or ps i d ∷ []) past g

pub change_next : (ps : List Point) (i j : ℕ) (d : Point) → i < length ps → j ≡ i + 1 → change_of (take j ps) ≡ change_of (take i ps) +ℤ (get_or ps i d).1
change_next ps i j d lt next = ap change_of (take_next ps i j d lt next) ∙ total-push delta_of (take i ps) (get_or ps i d)

-- the last point decides
pub last_past : (c at : ℕ) (ps : List Point) (i : ℕ) (d : Point) → RiseFrom c ps → suc i ≡ length ps → ltb (get_or ps i d).0 at ≡ is_past at ps
last_past c at [] i d rising e = absurd (omega (arith, e))
last_past c at (p ∷ []) zero d rising e = sym (and-true (is_before at p))
last_past c at (p ∷ []) (suc i) d rising e = absurd (omega (arith, e))
last_past c at (p ∷ q ∷ ps) zero d rising e = absurd (omega (arith, e))
last_past c at (p ∷ q ∷ ps) (suc i) d rising e = last_past (suc p.0) at (q ∷ ps) i d rising.2 (omega (arith, e)) ∙ cases (is_past at (q ∷ ps)) refl
  where
    cases : (v : Bool) → is_past at (q ∷ ps) ≡ v → v ≡ (is_before at p && v)
    cases true f =
        let g : is_before at p ≡ true = lt-ltb p.0 at (omega (arith, rising.2.0, ltb-true q.0 at (and_first (is_before at q) (is_past at ps) f))) in
        rw g refl
    cases false f = sym (and-false (is_before at p))

pub count_most : (bs : List (List Point)) → AreSized bs → length (together bs) ≤ 64 * length bs
count_most [] sized = omega arith
count_most (b ∷ bs) sized = omega (arith, length-append b (together bs), sized.1, count_most bs sized.2)

pub count_least : (m : ℕ) (bs : List (List Point)) → AreFull m bs → 33 * length bs ≤ m + 2 * length (together bs)
count_least m [] full = omega arith
count_least m (b ∷ bs) full = omega (arith, length-append b (together bs), full.0, count_least (length b) bs full.1)

pub parts_most : (bs : List (List Point)) → AreFull 33 bs → length bs ≤ 2 * length (together bs) / 33 + 1
parts_most bs full = omega (arith, count_least 33 bs full)

-- sums before a moment of points that do not all lie before it
pub below_append : (at : ℕ) (xs ys : List Point) → sum_below (xs ++ ys) at ≡ sum_below xs at +ℤ sum_below ys at
below_append at [] ys = omega (arith, ints)
below_append at (x ∷ xs) ys = omega (arith, ints, below_append at xs ys)

pub below_here : (c at : ℕ) (xs ys : List Point) → RiseFrom c (xs ++ ys) → is_past at xs ≡ false → sum_below (xs ++ ys) at ≡ sum_below xs at
below_here c at xs ys rising not =
    let h = rise_split c xs ys rising in
    omega (arith, ints, below_append at xs ys, below_none h.0 at ys (not_past_le at h.0 xs h.1.1.0 not) h.1.1.1)

-- sums so far are small
pub small_sum : (s x : ℤ) → IsSmall s → IsSmall (s +ℤ x) → SFits w64 (s +ℤ to_z w64 (of_z w64 x)) × (to_z w64 (of_z w64 (s +ℤ to_z w64 (of_z w64 x))) ≡ s +ℤ x)
small_sum s x one two =
    let fits : SFits w64 x = omega (arith, ints, one.0, one.1, two.0, two.1) in
    let f : to_z w64 (of_z w64 x) ≡ x = to_z-of_z w64 x fits in
    let whole : SFits w64 (s +ℤ x) = omega (arith, ints, two.0, two.1) in
    (omega (arith, ints, one.0, one.1, two.0, two.1, f), rw f (to_z-of_z w64 (s +ℤ x) whole))

-- the rest of a row from a block on
pub drop_block : (i j : ℕ) (bs : List (List Point)) (b : List Point) → i < length bs → j ≡ i + 1 → b ≡ get_or bs i b → drop i bs ≡ b ∷ drop j bs
drop_block i j bs b lt next is =
    let same : suc i ≡ j = omega (arith, next) in
    drop_next bs i b lt ∙ ap (λ q. q ∷ drop (suc i) bs) (sym is) ∙ ap (λ n. b ∷ drop n bs) same

pub rising_rest : (i : ℕ) (bs : List (List Point)) → RiseFrom 0 (together bs) → RiseFrom 0 (together (drop i bs))
rising_rest i bs rising =
    let h = rise_split 0 (together (take i bs)) (together (drop i bs)) (subst (RiseFrom 0) (in_two i bs) rising) in
    rising_later 0 h.0 (together (drop i bs)) (omega arith) h.1.1.1
