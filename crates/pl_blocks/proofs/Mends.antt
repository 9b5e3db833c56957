-- Rows in which one block makes place for others.
use Rattle.std.proofs.Common.{◌≡◌, ℕ, zero, suc, ◌+◌, ◌-◌, ◌<◌, ◌≤◌, List, [], ◌∷◌, ◌++◌, length, get_or, take, drop, refl, ap, sym, ◌∙◌, subst, arith, append_assoc, set, pos}
use Rattle.std.proofs.lemmas.List.{length-drop, length-append}
use Rattle.std.proofs.Math.Seq.{take-suc}
use Rattle.pl_points.specs.Points.{Point, ArePoints, RiseFrom, AreNear}
use Rattle.pl_points.proofs.Parting.{drop_next}
use Rattle.pl_blocks.specs.Blocks.{together, AreSized, AreFull}
use Rattle.pl_blocks.specs.Mending.{with_points, Fit, IsMended}
use Rattle.pl_blocks.proofs.Rows.{together-append, take_drop, append_nil, middle}

-- how many points the last block has, or the one before the row
abbrev pub last_size : ℕ → List (List Point) → ℕ
last_size n [] = n
last_size n (x ∷ xs) = last_size (length x) xs

pub sized_split : (xs ys : List (List Point)) → AreSized (xs ++ ys) → AreSized xs × AreSized ys
sized_split [] ys sized = (tt, sized)
sized_split (x ∷ xs) ys sized = let h = sized_split xs ys sized.2 in ((sized.0, sized.1, h.0), h.1)

sized_join : (xs ys : List (List Point)) → AreSized xs → AreSized ys → AreSized (xs ++ ys)
sized_join [] ys one two = two
sized_join (x ∷ xs) ys one two = (one.0, one.1, sized_join xs ys one.2 two)

pub full_split : (n : ℕ) (xs ys : List (List Point)) → AreFull n (xs ++ ys) → AreFull n xs × AreFull (last_size n xs) ys
full_split n [] ys full = (tt, full)
full_split n (x ∷ xs) ys full = let h = full_split (length x) xs ys full.1 in ((full.0, h.0), h.1)

full_join : (n : ℕ) (xs ys : List (List Point)) → AreFull n xs → AreFull (last_size n xs) ys → AreFull n (xs ++ ys)
full_join n [] ys one two = two
full_join n (x ∷ xs) ys one two = (one.0, full_join (length x) xs ys one.1 two)

full_wide : (m n : ℕ) (ys : List (List Point)) → m ≤ n → AreFull m ys → AreFull n ys
full_wide m n [] le full = tt
full_wide m n (y ∷ ys) le full = (omega (arith, le, full.0), full.1)

full_sized : (m n : ℕ) (ys : List (List Point)) → 32 ≤ n → AreSized ys → AreFull m ys → AreFull n ys
full_sized m n [] le sized full = tt
full_sized m n (y ∷ ys) le sized full = (omega (arith, le, sized.0), full.1)

last_some : (n : ℕ) (xs : List (List Point)) → 0 < n → AreSized xs → 0 < last_size n xs
last_some n [] some sized = some
last_some n (x ∷ xs) some sized = last_some (length x) xs sized.0 sized.2

pub last_taken : (n i j : ℕ) (bs : List (List Point)) (d : List Point) → j < length bs → i ≡ suc j → last_size n (take i bs) ≡ length (get_or bs j d)
last_taken n zero j bs d lt e = absurd (omega (arith, e))
last_taken n (suc i) j [] d lt e = absurd (omega (arith, lt))
last_taken n (suc zero) zero (b ∷ bs) d lt e = refl
last_taken n (suc (suc i)) zero (b ∷ bs) d lt e = absurd (omega (arith, e))
last_taken n (suc i) (suc j) (b ∷ bs) d lt e = last_taken (length b) i j bs d (omega (arith, lt)) (omega (arith, e))

mended : (bs : List (List Point)) (place : ℕ) (ps : List Point) (ws news zs new : List (List Point)) → AreSized ws → AreSized news → AreSized zs → AreFull 33 ws → AreFull (last_size 33 ws) news → AreFull (last_size (last_size 33 ws) news) zs
    → new ≡ ws ++ (news ++ zs) → together ws ++ (together news ++ together zs) ≡ with_points bs place ps → length ws + (length news + length zs) ≤ suc (length bs) → IsMended bs place ps new
mended bs place ps ws news zs new one two three full_one full_two full_three is whole few = record {
  sized = subst AreSized (sym is) (sized_join ws (news ++ zs) one (sized_join news zs two three));
  full = subst (AreFull 33) (sym is) (full_join 33 ws (news ++ zs) full_one (full_join (last_size 33 ws) news zs full_two full_three));
  whole = ap together is ∙ together-append ws (news ++ zs) ∙ ap (λ l. together ws ++ l) (together-append news zs) ∙ whole;
  more = omega (arith, ap length is, length-append ws (news ++ zs), length-append news zs, few);
}

-- what is known round a block
record Round (bs : List (List Point)) (place : ℕ) (size : ℕ) : Type 0 where
  before_sized : AreSized (take place bs)
  behind_sized : AreSized (drop (suc place) bs)
  before_full : AreFull 33 (take place bs)
  here : 32 < last_size 33 (take place bs) + size
  behind_full : AreFull size (drop (suc place) bs)
  some : 0 < size
  last : 0 < last_size 33 (take place bs)
  count : length (take place bs) + suc (length (drop (suc place) bs)) ≡ length bs

round : (bs : List (List Point)) (place : ℕ) (ps : List Point) → Fit bs place ps → Round bs place (length (get_or bs place []))
round bs place ps fit =
    let b = get_or bs place [] in
    let parts : bs ≡ take place bs ++ b ∷ drop (suc place) bs = sym (take_drop place bs) ∙ ap (λ l. take place bs ++ l) (drop_next bs place [] fit.there) in
    let s = sized_split (take place bs) (b ∷ drop (suc place) bs) (subst AreSized parts fit.sized) in
    let f = full_split 33 (take place bs) (b ∷ drop (suc place) bs) (subst (AreFull 33) parts fit.full) in
    record {
      before_sized = s.0;
      behind_sized = s.1.2;
      before_full = f.0;
      here = f.1.0;
      behind_full = f.1.1;
      some = s.1.0;
      last = last_some 33 (take place bs) (omega arith) s.0;
      count = omega (arith, ap length parts, length-append (take place bs) (b ∷ drop (suc place) bs));
    }

pub mended_none : (bs : List (List Point)) (place : ℕ) (ps : List Point) (new : List (List Point)) → Fit bs place ps → ps ≡ [] → new ≡ take place bs ++ drop (suc place) bs → IsMended bs place ps new
mended_none bs place ps new fit none is =
    let r = round bs place ps fit in
    let one : length (get_or bs place []) ≤ 1 = omega (arith, fit.least, ap length none) in
    mended bs place ps (take place bs) [] (drop (suc place) bs) new r.before_sized tt r.behind_sized r.before_full tt
    (full_wide (length (get_or bs place [])) (last_size 33 (take place bs)) (drop (suc place) bs) (omega (arith, r.last, one)) r.behind_full)
    is (ap (λ l. together (take place bs) ++ (l ++ together (drop (suc place) bs))) (sym none)) (omega (arith, r.count))

pub mended_one : (bs : List (List Point)) (place : ℕ) (ps : List Point) (new : List (List Point)) → Fit bs place ps → 0 < length ps → length ps ≤ 64 → 32 < last_size 33 (take place bs) + length ps
    → (suc place < length bs → 32 < length ps + length (get_or bs (suc place) [])) → new ≡ take place bs ++ ps ∷ drop (suc place) bs → IsMended bs place ps new
mended_one bs place ps new fit some few before behind is =
    let r = round bs place ps fit in
    mended bs place ps (take place bs) (ps ∷ []) (drop (suc place) bs) new r.before_sized (some, few, tt) r.behind_sized r.before_full (before, tt)
    (next (drop (suc place) bs) (suc place) refl r.behind_full) is (ap (λ l. together (take place bs) ++ (l ++ together (drop (suc place) bs))) (append_nil ps)) (omega (arith, r.count))
  where
    next : (ys : List (List Point)) (i : ℕ) → drop (suc place) bs ≡ ys → AreFull (length (get_or bs place [])) ys → AreFull (length ps) ys
    next [] i e full = tt
    next (y ∷ ys) i e full = (omega (arith, behind (there y ys e), ap length (read y ys e)), full.1)
      where
        there : (y : List Point) (ys : List (List Point)) → drop (suc place) bs ≡ y ∷ ys → suc place < length bs
        there y ys e = omega (arith, ap length e, length-drop (suc place) bs)

        head : List (List Point) → List Point
        head [] = []
        head (x ∷ xs) = x

        read : (y : List Point) (ys : List (List Point)) → drop (suc place) bs ≡ y ∷ ys → get_or bs (suc place) [] ≡ y
        read y ys e = ap head (sym (drop_next bs (suc place) [] (there y ys e)) ∙ e)

pub mended_two : (bs : List (List Point)) (place : ℕ) (ps first second : List Point) (new : List (List Point)) → Fit bs place ps → ps ≡ first ++ second → length first ≡ 32 → 32 < length second → length second ≤ 64
    → new ≡ take place bs ++ first ∷ second ∷ drop (suc place) bs → IsMended bs place ps new
mended_two bs place ps first second new fit parts one two few is =
    let r = round bs place ps fit in
    let ys = drop (suc place) bs in
    mended bs place ps (take place bs) (first ∷ second ∷ []) ys new r.before_sized (omega (arith, one), omega (arith, one), (omega (arith, two), few, tt)) r.behind_sized r.before_full
    (omega (arith, r.last, one), (omega (arith, one, two), tt)) (full_sized (length (get_or bs place [])) (length second) ys (omega (arith, two)) r.behind_sized r.behind_full)
    is (ap (λ l. together (take place bs) ++ (l ++ together ys)) (ap (λ l. first ++ l) (append_nil second) ∙ sym parts)) (omega (arith, r.count))

-- the row without its last block
before_last : (bs : List (List Point)) (place i : ℕ) (a : List Point) → place ≡ suc i → place < length bs → a ≡ get_or bs i a → take place bs ≡ take i bs ++ a ∷ []
before_last bs place i a e lt is = ap (λ n. take n bs) e ∙ take-suc bs i a (omega (arith, e, lt)) ∙ ap (λ q. take i bs ++ q ∷ []) (sym is)

pub mended_before : (bs : List (List Point)) (place i : ℕ) (ps a : List Point) (new : List (List Point)) → Fit bs place ps → place ≡ suc i → a ≡ get_or bs i a → length a + length ps ≤ 32
    → new ≡ take i bs ++ (a ++ ps) ∷ drop (suc place) bs → IsMended bs place ps new
mended_before bs place i ps a new fit e read few is =
    let r = round bs place ps fit in
    let ys = drop (suc place) bs in
    let xs = take i bs in
    let cut : take place bs ≡ xs ++ a ∷ [] = before_last bs place i a e fit.there read in
    let s = sized_split xs (a ∷ []) (subst AreSized cut r.before_sized) in
    let f = full_split 33 xs (a ∷ []) (subst (AreFull 33) cut r.before_full) in
    let last : last_size 33 (take place bs) ≡ length a = ap (last_size 33) cut ∙ last_is 33 xs a in
    let size : length (a ++ ps) ≡ length a + length ps = length-append a ps in
    mended bs place ps xs ((a ++ ps) ∷ []) ys new s.0 (omega (arith, size, s.1.0), omega (arith, size, few), tt) r.behind_sized f.0 (omega (arith, size, f.1.0), tt)
    (full_sized (length (get_or bs place [])) (length (a ++ ps)) ys (omega (arith, size, last, r.here, fit.least)) r.behind_sized r.behind_full) is
    (whole xs a ps ys (take place bs) cut) (omega (arith, r.count, ap length cut, length-append xs (a ∷ [])))
  where
    last_is : (n : ℕ) (xs : List (List Point)) (a : List Point) → last_size n (xs ++ a ∷ []) ≡ length a
    last_is n [] a = refl
    last_is n (x ∷ xs) a = last_is (length x) xs a

    whole : (xs : List (List Point)) (a ps : List Point) (ys t : List (List Point)) → t ≡ xs ++ a ∷ [] → together xs ++ (((a ++ ps) ++ []) ++ together ys) ≡ together t ++ (ps ++ together ys)
    whole xs a ps ys t e =
        ap (λ l. together xs ++ (l ++ together ys)) (append_nil (a ++ ps)) ∙ ap (λ l. together xs ++ l) (append_assoc a ps (together ys))
        ∙ sym (append_assoc (together xs) a (ps ++ together ys)) ∙ ap (λ l. l ++ (ps ++ together ys)) (sym (ap together e ∙ together-append xs (a ∷ []) ∙ ap (λ l. together xs ++ l) (append_nil a)))

pub mended_behind : (bs : List (List Point)) (place : ℕ) (ps a : List Point) (new : List (List Point)) → Fit bs place ps → suc place < length bs → a ≡ get_or bs (suc place) a → length ps + length a ≤ 32
    → new ≡ take place bs ++ (ps ++ a) ∷ drop (suc (suc place)) bs → IsMended bs place ps new
mended_behind bs place ps a new fit lt read few is =
    let r = round bs place ps fit in
    let xs = take place bs in
    let ys = drop (suc (suc place)) bs in
    let cut : drop (suc place) bs ≡ a ∷ ys = drop_next bs (suc place) a lt ∙ ap (λ q. q ∷ ys) (sym read) in
    let s : AreSized (a ∷ ys) = subst AreSized cut r.behind_sized in
    let f : AreFull (length (get_or bs place [])) (a ∷ ys) = subst (AreFull (length (get_or bs place []))) cut r.behind_full in
    let size : length (ps ++ a) ≡ length ps + length a = length-append ps a in
    mended bs place ps xs ((ps ++ a) ∷ []) ys new r.before_sized (omega (arith, size, s.0), omega (arith, size, few), tt) s.2 r.before_full (omega (arith, size, r.here, fit.least, s.0), tt)
    (full_wide (length a) (length (ps ++ a)) ys (omega (arith, size)) f.1) is
    (ap (λ l. together xs ++ (l ++ together ys)) (append_nil (ps ++ a)) ∙ ap (λ l. together xs ++ l) (append_assoc ps a (together ys)) ∙ ap (λ l. together xs ++ (ps ++ together l)) (sym cut))
    (omega (arith, r.count, ap length cut))

-- putting one block over two, and two over one
pub set_over_two : {T : Type 0} (i : ℕ) (bs : List T) (b : T) → suc i < length bs → set (take i bs ++ drop (suc i) bs) i b ≡ take i bs ++ b ∷ drop (suc (suc i)) bs
set_over_two i [] b lt = absurd (omega (arith, lt))
set_over_two zero (x ∷ []) b lt = absurd (omega (arith, lt))
set_over_two zero (x ∷ y ∷ bs) b lt = refl
set_over_two (suc i) (x ∷ bs) b lt = ap (λ l. x ∷ l) (set_over_two i bs b (omega (arith, lt)))

pub set_two : {T : Type 0} (i j : ℕ) (bs : List T) (a b : T) → i < length bs → j ≡ suc i → set (take i bs ++ a ∷ drop i bs) j b ≡ take i bs ++ a ∷ b ∷ drop (suc i) bs
set_two i j bs a b lt e = ap (λ n. set (take i bs ++ a ∷ drop i bs) n b) e ∙ at_suc i bs a b lt
  where
    at_suc : {T : Type 0} (i : ℕ) (bs : List T) (a b : T) → i < length bs → set (take i bs ++ a ∷ drop i bs) (suc i) b ≡ take i bs ++ a ∷ b ∷ drop (suc i) bs
    at_suc i [] a b lt = absurd (omega (arith, lt))
    at_suc zero (x ∷ bs) a b lt = refl
    at_suc (suc i) (x ∷ bs) a b lt = ap (λ l. x ∷ l) (at_suc i bs a b (omega (arith, lt)))

-- the points of a new block lie as the whole does
pub part_of : (bs : List (List Point)) (place : ℕ) (ps us vs ws : List Point) → Fit bs place ps → with_points bs place ps ≡ us ++ (vs ++ ws) → RiseFrom 0 vs × AreNear (pos 0) vs
part_of bs place ps us vs ws fit e = middle us vs ws (subst ArePoints e fit.points)

pub one_part : (bs : List (List Point)) (place : ℕ) (ps : List Point) → Fit bs place ps → RiseFrom 0 ps × AreNear (pos 0) ps
one_part bs place ps fit = part_of bs place ps (together (take place bs)) ps (together (drop (suc place) bs)) fit refl

pub two_parts : (bs : List (List Point)) (place : ℕ) (ps first second : List Point) → Fit bs place ps → ps ≡ first ++ second → (RiseFrom 0 first × AreNear (pos 0) first) × (RiseFrom 0 second × AreNear (pos 0) second)
two_parts bs place ps first second fit parts =
    let us = together (take place bs) in
    let ws = together (drop (suc place) bs) in
    let e : with_points bs place ps ≡ us ++ (first ++ (second ++ ws)) = ap (λ l. us ++ (l ++ ws)) parts ∙ ap (λ l. us ++ l) (append_assoc first second ws) in
    (part_of bs place ps us first (second ++ ws) fit e, part_of bs place ps (us ++ first) second ws fit (e ∙ sym (append_assoc us first (second ++ ws))))

pub part_before : (bs : List (List Point)) (place i : ℕ) (ps a : List Point) → Fit bs place ps → place ≡ suc i → a ≡ get_or bs i a → RiseFrom 0 (a ++ ps) × AreNear (pos 0) (a ++ ps)
part_before bs place i ps a fit e read =
    let us = together (take i bs) in
    let ws = together (drop (suc place) bs) in
    let cut : together (take place bs) ≡ us ++ a = ap together (before_last bs place i a e fit.there read) ∙ together-append (take i bs) (a ∷ []) ∙ ap (λ l. us ++ l) (append_nil a) in
    part_of bs place ps us (a ++ ps) ws fit (ap (λ l. l ++ (ps ++ ws)) cut ∙ append_assoc us a (ps ++ ws) ∙ ap (λ l. us ++ l) (sym (append_assoc a ps ws)))

pub part_behind : (bs : List (List Point)) (place : ℕ) (ps a : List Point) → Fit bs place ps → suc place < length bs → a ≡ get_or bs (suc place) a → RiseFrom 0 (ps ++ a) × AreNear (pos 0) (ps ++ a)
part_behind bs place ps a fit lt read =
    let us = together (take place bs) in
    let ws = together (drop (suc (suc place)) bs) in
    let cut : together (drop (suc place) bs) ≡ a ++ ws = ap together (drop_next bs (suc place) a lt ∙ ap (λ q. q ∷ drop (suc (suc place)) bs) (sym read)) in
    part_of bs place ps us (ps ++ a) ws fit (ap (λ l. us ++ (ps ++ l)) cut ∙ ap (λ l. us ++ l) (sym (append_assoc ps a ws)))

-- how many points the block before has
pub size_before : (bs : List (List Point)) (place n : ℕ) → place < length bs → (place ≡ 0 → n ≡ 33) → (0 < place → n ≡ length (get_or bs (place - 1) [])) → n ≡ last_size 33 (take place bs)
size_before bs zero n lt first later = first refl
size_before bs (suc i) n lt first later =
    let same : suc i - 1 ≡ i = omega arith in
    later (omega arith) ∙ ap (λ j. length (get_or bs j [])) same ∙ sym (last_taken 33 (suc i) i bs [] (omega (arith, lt)) refl)
