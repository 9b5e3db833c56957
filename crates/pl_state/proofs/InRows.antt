-- A list in rows, its places, and searches in it.
use Rattle.std.proofs.Common.{◌≡◌, ℕ, zero, suc, ◌+◌, ◌-◌, ◌<◌, ◌≤◌, Bool, true, false, not, cond, min, List, [], ◌∷◌, ◌++◌, length, take, drop, get_or, set, refl, ap, sym, ◌∙◌, subst, arith, leb, Some, None}
use Rattle.std.proofs.lemmas.Bool.{true≢false, ltb-false, le-ltb, leb-false, leb-true}
use Rattle.std.proofs.lemmas.List.{append_assoc, append-nil, take-append-drop, set_split, length-append, length-take, length-drop, take-append-le, drop-append-le, take_all, drop_all, take_rest, get_or_default}
use Rattle.std.specs.List.{slice_get}
use Rattle.pl_lists.specs.Lists.{front, back}
use Rattle.pl_points.proofs.Parting.{NonePass, IsParted, back_fails, drop_next, last_passing}
use Rattle.pl_state.specs.declared.key.Key.{Key}
use Rattle.pl_state.specs.declared.bound.Bound.{Bound}
use Rattle.pl_state.specs.declared.bound.Bound.TheVariants.{Before, UpTo, Earlier, By}
use Rattle.pl_state.specs.Keys.{key_before, NoneBefore, AreSorted}
use Rattle.pl_state.specs.Rows.{covers, is_covered, together, AreFilled, last_passes, IsSpot}
use Rattle.pl_state.proofs.Keys.{behind_both, follows}

pub together_append : {T : Type 0} (xs ys : List (List T)) → together (xs ++ ys) ≡ together xs ++ together ys
together_append [] ys = refl
together_append (x ∷ xs) ys = ap (λ l. x ++ l) (together_append xs ys) ∙ sym (append_assoc x (together xs) (together ys))

-- a row in the whole
pub in_row : {T : Type 0} (row : ℕ) (rs : List (List T)) (r : List T) → row < length rs → r ≡ get_or rs row r → together rs ≡ together (take row rs) ++ (r ++ together (drop (suc row) rs))
in_row row [] r lt is = absurd (omega (arith, lt))
in_row zero (x ∷ rs) r lt is = ap (λ l. l ++ together rs) (sym is)
in_row (suc row) (x ∷ rs) r lt is = ap (λ l. x ++ l) (in_row row rs r (omega (arith, lt)) is) ∙ sym (append_assoc x (together (take row rs)) (r ++ together (drop (suc row) rs)))

-- another row in its place
pub with_row : {T : Type 0} (row : ℕ) (rs : List (List T)) (r : List T) → row < length rs → together (set rs row r) ≡ together (take row rs) ++ (r ++ together (drop (suc row) rs))
with_row row rs r lt = ap together (set_split rs row r lt) ∙ together_append (take row rs) (r ∷ drop (suc row) rs)

pub filled_append : {T : Type 0} (xs ys : List (List T)) → AreFilled xs → AreFilled ys → AreFilled (xs ++ ys)
filled_append [] ys f g = g
filled_append (x ∷ xs) ys f g = (f.0, filled_append xs ys f.1 g)

pub filled_take : {T : Type 0} (i : ℕ) (xs : List (List T)) → AreFilled xs → AreFilled (take i xs)
filled_take zero xs f = tt
filled_take (suc i) [] f = tt
filled_take (suc i) (x ∷ xs) f = (f.0, filled_take i xs f.1)

pub filled_drop : {T : Type 0} (i : ℕ) (xs : List (List T)) → AreFilled xs → AreFilled (drop i xs)
filled_drop zero xs f = f
filled_drop (suc i) [] f = tt
filled_drop (suc i) (x ∷ xs) f = filled_drop i xs f.1

pub filled_set : {T : Type 0} (i : ℕ) (xs : List (List T)) (r : List T) → 0 < length r → AreFilled xs → AreFilled (set xs i r)
filled_set i [] r some f = tt
filled_set zero (x ∷ xs) r some f = (some, f.1)
filled_set (suc i) (x ∷ xs) r some f = (f.0, filled_set i xs r some f.1)

-- a place in a row cuts the whole
pub cut_there : {T : Type 0} (before r behind : List T) (at n : ℕ) → at ≤ length r → length before + at ≡ n → (take n (before ++ (r ++ behind)) ≡ before ++ take at r) × (drop n (before ++ (r ++ behind)) ≡ drop at r ++ behind)
cut_there [] r behind at n le is =
    let same : n ≡ at = omega (arith, is) in
    (ap (λ m. take m (r ++ behind)) same ∙ take-append-le at r behind le, ap (λ m. drop m (r ++ behind)) same ∙ drop-append-le at r behind le)
cut_there (x ∷ before) r behind at zero le is = absurd (omega (arith, is))
cut_there (x ∷ before) r behind at (suc n) le is =
    let more = cut_there before r behind at n le (omega (arith, is)) in
    (ap (λ l. x ∷ l) more.0, more.1)

regroup : {T : Type 0} (before xs ys behind : List T) → before ++ ((xs ++ ys) ++ behind) ≡ (before ++ xs) ++ (ys ++ behind)
regroup before xs ys behind = ap (λ l. before ++ l) (append_assoc xs ys behind) ∙ sym (append_assoc before xs (ys ++ behind))

-- one more item in a row
pub put_there : {T : Type 0} (rs new : List (List T)) (r : List T) (place row at : ℕ) (u : T) → IsSpot rs place row at → r ≡ get_or rs row r → new ≡ set rs row (take at r ++ u ∷ drop at r) → together new ≡ take place (together rs) ++ u ∷ drop place (together rs)
put_there rs new r place row at u spot is made =
    let before = together (take row rs) in
    let behind = together (drop (suc row) rs) in
    let whole = in_row row rs r spot.there is in
    let low : at ≤ length r = subst (λ l. at ≤ length l) (get_or_default rs row [] r spot.there ∙ sym is) spot.low in
    let p = cut_there before r behind at place low spot.whole in
    ap together made ∙ (with_row row rs (take at r ++ u ∷ drop at r) spot.there ∙ (regroup before (take at r) (u ∷ drop at r) behind
    ∙ (ap (λ l. l ++ u ∷ (drop at r ++ behind)) (sym p.0 ∙ ap (take place) (sym whole)) ∙ ap (λ l. take place (together rs) ++ u ∷ l) (sym p.1 ∙ ap (drop place) (sym whole)))))

pub put_filled : {T : Type 0} (rs new : List (List T)) (r : List T) (row at : ℕ) (u : T) → AreFilled rs → new ≡ set rs row (take at r ++ u ∷ drop at r) → AreFilled new
put_filled rs new r row at u filled made =
    let some : 0 < length (take at r ++ u ∷ drop at r) = omega (arith, length-append (take at r) (u ∷ drop at r)) in
    subst AreFilled (sym made) (filled_set row rs (take at r ++ u ∷ drop at r) some filled)

-- one item less in a row
pub gone_there : {T : Type 0} (rs l : List (List T)) (place row at : ℕ) → l ≡ rs → IsSpot l place row at → place < length (together rs) → together (take row rs) ++ ((take at (get_or rs row []) ++ drop (suc at) (get_or rs row [])) ++ together (drop (suc row) rs)) ≡ take place (together rs) ++ drop (suc place) (together rs)
gone_there rs l place row at same found lt =
    let spot : IsSpot rs place row at = subst (λ k. IsSpot k place row at) same found in
    let r = get_or rs row [] in
    let before = together (take row rs) in
    let behind = together (drop (suc row) rs) in
    let whole = in_row row rs r spot.there (get_or_default rs row [] r spot.there) in
    let p = cut_there before r behind at place spot.low spot.whole in
    let q = cut_there before r behind (suc at) (suc place) (omega (arith, spot.inside lt)) (omega (arith, spot.whole)) in
    regroup before (take at r) (drop (suc at) r) behind ∙ (ap (λ l. l ++ (drop (suc at) r ++ behind)) (sym p.0 ∙ ap (take place) (sym whole)) ∙ ap (λ l. take place (together rs) ++ l) (sym q.1 ∙ ap (drop (suc place)) (sym whole)))

get_there : {T : Type 0} (before r behind : List T) (at n : ℕ) (d : T) → at < length r → length before + at ≡ n → get_or (before ++ (r ++ behind)) n d ≡ get_or r at d
get_there [] [] behind at n d lt is = absurd (omega (arith, lt))
get_there [] (x ∷ r) behind zero n d lt is =
    let none : n ≡ 0 = omega (arith, is) in
    ap (λ m. get_or (x ∷ (r ++ behind)) m d) none
get_there [] (x ∷ r) behind (suc at) zero d lt is = absurd (omega (arith, is))
get_there [] (x ∷ r) behind (suc at) (suc n) d lt is = get_there [] r behind at n d (omega (arith, lt)) (omega (arith, is))
get_there (x ∷ before) r behind at zero d lt is = absurd (omega (arith, is))
get_there (x ∷ before) r behind at (suc n) d lt is = get_there before r behind at n d lt (omega (arith, is))

-- the item at a place of a row
inside_row : {T : Type 0} (rs : List (List T)) (r : List T) (place row at : ℕ) → IsSpot rs place row at → place < length (together rs) → r ≡ get_or rs row r → at < length r
inside_row rs r place row at spot lt is = subst (λ l. at < length l) (get_or_default rs row [] r spot.there ∙ sym is) (spot.inside lt)

pub read_there : {T : Type 0} (rs l : List (List T)) (r : List T) (place row at : ℕ) (x : T) → l ≡ rs → IsSpot l place row at → place < length (together rs) → r ≡ get_or rs row r → x ≡ get_or r at x → x ≡ get_or (together rs) place x
read_there rs l r place row at x same found lt is read =
    let spot : IsSpot rs place row at = subst (λ k. IsSpot k place row at) same found in
    read ∙ sym (ap (λ l. get_or l place x) (in_row row rs r spot.there is) ∙ get_there (together (take row rs)) r (together (drop (suc row) rs)) at place x (inside_row rs r place row at spot lt is) spot.whole)

-- the items of the row from there on
pub rest_there : {T : Type 0} (rs l : List (List T)) (r : List T) (place row at : ℕ) → l ≡ rs → IsSpot l place row at → place < length (together rs) → r ≡ get_or rs row r → (0 < length (drop at r)) × (drop at r ≡ take (length (drop at r)) (drop place (together rs)))
rest_there rs l r place row at same found lt is =
    let spot : IsSpot rs place row at = subst (λ k. IsSpot k place row at) same found in
    let behind = together (drop (suc row) rs) in
    let some : at < length r = inside_row rs r place row at spot lt is in
    let cut : drop place (together rs) ≡ drop at r ++ behind = ap (drop place) (in_row row rs r spot.there is) ∙ (cut_there (together (take row rs)) r behind at place (omega (arith, some)) spot.whole).1 in
    let whole : take (length (drop at r)) (drop at r ++ behind) ≡ drop at r = take-append-le (length (drop at r)) (drop at r) behind (omega arith) ∙ take_all (length (drop at r)) (drop at r) (omega arith) in
    (omega (arith, some, length-drop at r), sym (ap (take (length (drop at r))) cut ∙ whole))

-- two halves of a row
pub split_there : {T : Type 0} (rs new : List (List T)) (r b : List T) (row half : ℕ) → row < length rs → r ≡ get_or rs row r → b ≡ drop half r → new ≡ set (take (suc row) rs ++ b ∷ drop (suc row) rs) row (take half r) → together new ≡ together rs
split_there {T} rs new r b row half lt is made_b made = ap together made ∙ halves row rs lt is
  where
    halves : (row : ℕ) (rs : List (List T)) → row < length rs → r ≡ get_or rs row r → together (set (take (suc row) rs ++ b ∷ drop (suc row) rs) row (take half r)) ≡ together rs
    halves row [] lt is = absurd (omega (arith, lt))
    halves zero (x ∷ rs) lt is = sym (append_assoc (take half r) b (together rs)) ∙ ap (λ l. l ++ together rs) (ap (λ l. take half r ++ l) made_b ∙ (take-append-drop half r ∙ is))
    halves (suc row) (x ∷ rs) lt is = ap (λ l. x ++ l) (halves row rs (omega (arith, lt)) is)

pub split_filled : {T : Type 0} (rs new : List (List T)) (a b : List T) (row : ℕ) → 0 < length a → 0 < length b → AreFilled rs → new ≡ set (take (suc row) rs ++ b ∷ drop (suc row) rs) row a → AreFilled new
split_filled rs new a b row some_a some_b filled made =
    subst AreFilled (sym made) (filled_set row (take (suc row) rs ++ b ∷ drop (suc row) rs) a some_a (filled_append (take (suc row) rs) (b ∷ drop (suc row) rs) (filled_take (suc row) rs filled) (some_b, filled_drop (suc row) rs filled)))

pub read_split : {T : Type 0} (rs : List (List T)) (b x : List T) (row : ℕ) → row < length rs → x ≡ get_or (take (suc row) rs ++ b ∷ drop (suc row) rs) row x → x ≡ get_or rs row x
read_split [] b x row lt is = absurd (omega (arith, lt))
read_split (r ∷ rs) b x zero lt is = is
read_split (r ∷ rs) b x (suc row) lt is = read_split rs b x row (omega (arith, lt)) is

-- the row of a place is sought: so many items of the rows up to this one stand from the place on
pub record IsNear {T : Type 0} (rows : List (List T)) (place row behind : ℕ) : Type 0 where
  pub there : row < length rows
  pub whole : place + behind ≡ length (together (take (suc row) rows))
  pub later : place < length (together rows) → 0 < behind

pub all_behind : {T : Type 0} (rs : List (List T)) (count place row : ℕ) → 0 < length rs → count ≡ length (together rs) → place ≤ length (together rs) → row ≡ length rs - 1 → IsNear rs place row (count - place)
all_behind rs count place row some counted bound is =
    let whole : take (suc row) rs ≡ rs = take_all (suc row) rs (omega (arith, some, is)) in
    record {
      there = omega (arith, some, is);
      whole = omega (arith, counted, bound, ap (λ l. length (together l)) whole);
      later = λ lt. omega (arith, lt, counted);
    }

next_taken : {T : Type 0} (row : ℕ) (rs : List (List T)) (r : List T) → row < length rs → r ≡ get_or rs row r → length (together (take (suc row) rs)) ≡ length (together (take row rs)) + length r
next_taken row [] r lt is = absurd (omega (arith, lt))
next_taken zero (x ∷ rs) r lt is = omega (arith, ap length is, length-append x [])
next_taken (suc row) (x ∷ rs) r lt is = omega (arith, next_taken row rs r (omega (arith, lt)) is, length-append x (together (take (suc row) rs)), length-append x (together (take row rs)))

-- the row before
pub row_before : {T : Type 0} (rs : List (List T)) (r : List T) (place row behind : ℕ) → IsNear rs place row behind → r ≡ get_or rs row r → length r < behind → (0 < row) × IsNear rs place (row - 1) (behind - length r)
row_before rs r place zero behind near is lt = absurd (omega (arith, near.whole, next_taken 0 rs r near.there is, lt))
row_before rs r place (suc row) behind near is lt =
    let prior : suc row - 1 ≡ row = omega arith in
    let here : IsNear rs place row (behind - length r) = record {
      there = omega (arith, near.there);
      whole = omega (arith, near.whole, next_taken (suc row) rs r near.there is, lt);
      later = λ h. omega (arith, lt);
    } in
    (omega arith, subst (λ n. IsNear rs place n (behind - length r)) (sym prior) here)

pub spot_found : {T : Type 0} (rs : List (List T)) (r : List T) (place row behind : ℕ) → IsNear rs place row behind → r ≡ get_or rs row r → behind ≤ length r → IsSpot rs place row (length r - behind)
spot_found rs r place row behind near is le =
    let same : r ≡ get_or rs row [] = is ∙ get_or_default rs row r [] near.there in
    record {
      there = near.there;
      low = omega (arith, ap length same);
      whole = omega (arith, near.whole, next_taken row rs r near.there is, le);
      inside = λ lt. omega (arith, near.later lt, le, ap length same);
    }

pub one_less : {T : Type 0} (xs new : List T) (place : ℕ) → place < length xs → new ≡ take place xs ++ drop (suc place) xs → length xs ≡ length new + 1
one_less xs new place lt is = omega (arith, lt, ap length is, length-append (take place xs) (drop (suc place) xs), length-take place xs, length-drop (suc place) xs)

-- behind what a bound does not cover it covers nothing
covers_later : (b : Bound) (x y : Key) → key_before y x ≡ false → covers b x ≡ false → covers b y ≡ false
covers_later (Before end) x y e f = behind_both y x end e f
covers_later (UpTo end) x y e f = cases (key_before end y) refl
  where
    upto : (b : Bool) → key_before end x ≡ b → not b ≡ false → key_before end x ≡ true
    upto true g h = g
    upto false g h = absurd (true≢false h)

    cases : (b : Bool) → key_before end y ≡ b → not b ≡ false
    cases true g = refl
    cases false g = absurd (true≢false (sym (upto (key_before end x) refl f) ∙ behind_both end y x g e))
covers_later (Earlier at) x y e f = le-ltb y.at at (omega (arith, ltb-false x.at at f, (follows y x e).0))
covers_later (By at) x y e f = cases (leb y.at at) refl
  where
    cases : (b : Bool) → leb y.at at ≡ b → b ≡ false
    cases true g = absurd (omega (arith, leb-true y.at at g, leb-false x.at at f, (follows y x e).0))
    cases false g = refl

none_covered : {T : Type 0} (key : T → Key) (b : Bound) (k : Key) (xs : List T) → covers b k ≡ false → NoneBefore key k xs → NonePass (is_covered key b) xs
none_covered key b k [] f none = tt
none_covered key b k (x ∷ xs) f none = (covers_later b k (key x) none.0 f, none_covered key b k xs f none.1)

pub parted_covered : {T : Type 0} (key : T → Key) (b : Bound) (xs : List T) → AreSorted key xs → IsParted (is_covered key b) xs
parted_covered key b [] sorted = tt
parted_covered key b (x ∷ xs) sorted = ((λ f. none_covered key b (key x) xs f sorted.0), parted_covered key b xs sorted.1)

none_front : {T : Type 0} (key : T → Key) (k : Key) (xs ys : List T) → NoneBefore key k (xs ++ ys) → NoneBefore key k xs
none_front key k [] ys none = tt
none_front key k (x ∷ xs) ys none = (none.0, none_front key k xs ys none.1)

sorted_front : {T : Type 0} (key : T → Key) (xs ys : List T) → AreSorted key (xs ++ ys) → AreSorted key xs
sorted_front key [] ys sorted = tt
sorted_front key (x ∷ xs) ys sorted = (none_front key (key x) xs ys sorted.0, sorted_front key xs ys sorted.1)

sorted_back : {T : Type 0} (key : T → Key) (xs ys : List T) → AreSorted key (xs ++ ys) → AreSorted key ys
sorted_back key [] ys sorted = sorted
sorted_back key (x ∷ xs) ys sorted = sorted_back key xs ys sorted.1

pub sorted_row : {T : Type 0} (key : T → Key) (rs : List (List T)) (r : List T) (row : ℕ) → row < length rs → r ≡ get_or rs row r → AreSorted key (together rs) → AreSorted key r
sorted_row key rs r row lt is sorted =
    let behind = together (drop (suc row) rs) in
    sorted_front key r behind (sorted_back key (together (take row rs)) (r ++ behind) (subst (λ l. AreSorted key l) (in_row row rs r lt is) sorted))

last_at : {T : Type 0} (p : T → Bool) (xs : List T) (x : T) (i : ℕ) → suc i ≡ length xs → Some x ≡ slice_get xs i → p x ≡ last_passes p xs
last_at p [] x i count e = absurd (omega (arith, count))
last_at p (y ∷ []) x zero count e = let h : Some x ≡ Some y = e in let same : x ≡ y = cc in ap p same
last_at p (y ∷ []) x (suc i) count e = absurd (omega (arith, count))
last_at p (y ∷ z ∷ ys) x zero count e = absurd (omega (arith, count))
last_at p (y ∷ z ∷ ys) x (suc i) count e = last_at p (z ∷ ys) x i (omega (arith, count)) e

pub last_some : {T : Type 0} (p : T → Bool) (xs : List T) (x : T) → Some x ≡ slice_get xs (length xs - 1) → p x ≡ last_passes p xs
last_some p [] x e = absurd (let h : Some x ≡ None = e in (cc))
last_some p (y ∷ ys) x e = last_at p (y ∷ ys) x (length (y ∷ ys) - 1) (omega arith) e

-- behind a row whose last item fails, none passes
last_fails : {T : Type 0} (p : T → Bool) (r xs : List T) → IsParted p (r ++ xs) → last_passes p r ≡ false → NonePass p xs
last_fails p [] xs parted e = absurd (true≢false e)
last_fails p (x ∷ []) xs parted e = parted.0 e
last_fails p (x ∷ y ∷ r) xs parted e = last_fails p (y ∷ r) xs parted.1 e

none_row : {T : Type 0} (p : T → Bool) (r xs : List T) → NonePass p (r ++ xs) → 0 < length r → (last_passes p r ≡ false) × NonePass p xs
none_row p [] xs none some = absurd (omega (arith, some))
none_row p (x ∷ []) xs none some = (none.0, none.1)
none_row p (x ∷ y ∷ r) xs none some = none_row p (y ∷ r) xs none.1 (omega arith)

none_rows : {T : Type 0} (p : T → Bool) (rs : List (List T)) → NonePass p (together rs) → AreFilled rs → NonePass (last_passes p) rs
none_rows p [] none filled = tt
none_rows p (r ∷ rs) none filled =
    let h = none_row p r (together rs) none filled.0 in
    (h.0, none_rows p rs h.1 filled.1)

parted_rest : {T : Type 0} (p : T → Bool) (r xs : List T) → IsParted p (r ++ xs) → IsParted p xs
parted_rest p [] xs parted = parted
parted_rest p (x ∷ r) xs parted = parted_rest p r xs parted.1

pub parted_rows : {T : Type 0} (p : T → Bool) (rs : List (List T)) → IsParted p (together rs) → AreFilled rs → IsParted (last_passes p) rs
parted_rows p [] parted filled = tt
parted_rows p (r ∷ rs) parted filled = ((λ e. none_rows p rs (last_fails p r (together rs) parted e) filled.1), parted_rows p rs (parted_rest p r (together rs) parted) filled.1)

all_front : {T : Type 0} (p : T → Bool) (r xs : List T) → IsParted p (r ++ xs) → last_passes p r ≡ true → (front p (r ++ xs) ≡ r ++ front p xs) × (back p (r ++ xs) ≡ back p xs)
all_front p [] xs parted e = (refl, refl)
all_front p (x ∷ []) xs parted e = (rw e refl, rw e refl)
all_front {T} p (x ∷ y ∷ r) xs parted e = cases (p x) refl (all_front p (y ∷ r) xs parted.1 e)
  where
    cases : (b : Bool) → p x ≡ b → (front p ((y ∷ r) ++ xs) ≡ (y ∷ r) ++ front p xs) × (back p ((y ∷ r) ++ xs) ≡ back p xs)
        → (cond b (x ∷ front p ((y ∷ r) ++ xs)) [] ≡ x ∷ ((y ∷ r) ++ front p xs)) × (cond b (back p ((y ∷ r) ++ xs)) (x ∷ ((y ∷ r) ++ xs)) ≡ back p xs)
    cases true f more = (ap (λ l. x ∷ l) more.0, more.1)
    cases false f more = absurd (true≢false (sym e ∙ (none_row p (y ∷ r) xs (parted.0 f) (omega arith)).0))

some_front : {T : Type 0} (p : T → Bool) (r xs : List T) → last_passes p r ≡ false → (front p (r ++ xs) ≡ front p r) × (back p (r ++ xs) ≡ back p r ++ xs)
some_front p [] xs e = absurd (true≢false e)
some_front p (x ∷ []) xs e = (rw e refl, rw e refl)
some_front {T} p (x ∷ y ∷ r) xs e = cases (p x) (some_front p (y ∷ r) xs e)
  where
    cases : (b : Bool) → (front p ((y ∷ r) ++ xs) ≡ front p (y ∷ r)) × (back p ((y ∷ r) ++ xs) ≡ back p (y ∷ r) ++ xs)
        → (cond b (x ∷ front p ((y ∷ r) ++ xs)) [] ≡ cond b (x ∷ front p (y ∷ r)) []) × (cond b (back p ((y ∷ r) ++ xs)) (x ∷ ((y ∷ r) ++ xs)) ≡ cond b (back p (y ∷ r)) (x ∷ y ∷ r) ++ xs)
    cases true more = (ap (λ l. x ∷ l) more.0, more.1)
    cases false more = (refl, refl)

pass_rows : {T : Type 0} (p : T → Bool) (rs : List (List T)) → IsParted p (together rs) → (front p (together rs) ≡ together (front (last_passes p) rs) ++ front p (together (back (last_passes p) rs))) × (back p (together rs) ≡ back p (together (back (last_passes p) rs)))
pass_rows p [] parted = (refl, refl)
pass_rows {T} p (r ∷ rs) parted = cases (last_passes p r) refl (pass_rows p rs (parted_rest p r (together rs) parted))
  where
    cases : (b : Bool) → last_passes p r ≡ b → (front p (together rs) ≡ together (front (last_passes p) rs) ++ front p (together (back (last_passes p) rs))) × (back p (together rs) ≡ back p (together (back (last_passes p) rs)))
        → (front p (r ++ together rs) ≡ together (cond b (r ∷ front (last_passes p) rs) []) ++ front p (together (cond b (back (last_passes p) rs) (r ∷ rs)))) × (back p (r ++ together rs) ≡ back p (together (cond b (back (last_passes p) rs) (r ∷ rs))))
    cases true f more =
        let all = all_front p r (together rs) parted f in
        (all.0 ∙ (ap (λ l. r ++ l) more.0 ∙ sym (append_assoc r (together (front (last_passes p) rs)) (front p (together (back (last_passes p) rs))))), all.1 ∙ more.1)
    cases false f more = (refl, refl)

pub none_from : {T : Type 0} (p : T → Bool) (xs : List T) (x : T) (i : ℕ) → i < length xs → x ≡ get_or xs i x → p x ≡ false → NonePass p (drop (suc i) xs) → NonePass p (drop i xs)
none_from p xs x i lt is fails none = subst (NonePass p) (sym (drop_next xs i x lt)) (subst (λ y. p y ≡ false) is fails, none)

pub passing_from : {X : Type 0} (p : X → Bool) (xs : List X) (x : X) (k : ℕ) → IsParted p xs → 0 < k → k ≤ length xs → x ≡ get_or xs (k - 1) x → p x ≡ true → NonePass p (drop k xs) → (take k xs ≡ front p xs) × (drop k xs ≡ back p xs)
passing_from p xs x k parted some le is passes none =
    let up : k ≡ suc (k - 1) = omega (arith, some) in
    let behind : NonePass p (drop (suc (k - 1)) xs) = subst (λ n. NonePass p (drop n xs)) up none in
    let here : p (get_or xs (k - 1) x) ≡ true = ap p (sym is) ∙ passes in
    let both = last_passing p (k - 1) x xs parted (omega (arith, some, le)) here (λ lt. (subst (NonePass p) (drop_next xs (suc (k - 1)) x lt) behind).0) in
    subst (λ n. (take n xs ≡ front p xs) × (drop n xs ≡ back p xs)) (sym up) both

-- where a search ends
pub record IsCut {T : Type 0} (p : T → Bool) (xs : List T) (n : ℕ) : Type 0 where
  pub bound : n ≤ length xs
  pub front : take n xs ≡ front p xs
  pub rest : drop n xs ≡ back p xs

pub cut_in_row : {T : Type 0} (p : T → Bool) (rs : List (List T)) (r : List T) (row j n : ℕ) → IsParted p (together rs) → take row rs ≡ front (last_passes p) rs → drop row rs ≡ back (last_passes p) rs → row < length rs → r ≡ get_or rs row r
    → j ≤ length r → take j r ≡ front p r → drop j r ≡ back p r → length (together (take row rs)) + j ≡ n → IsCut p (together rs) n
cut_in_row p rs r row j n parted before rest lt is low in_front in_back at =
    let behind = together (drop (suc row) rs) in
    let next : drop row rs ≡ r ∷ drop (suc row) rs = drop_next rs row r lt ∙ ap (λ l. l ∷ drop (suc row) rs) (sym is) in
    let fails : last_passes p r ≡ false = back_fails (last_passes p) rs r (drop (suc row) rs) (sym rest ∙ next) in
    let here = some_front p r behind fails in
    let all = pass_rows p rs parted in
    let whole = in_row row rs r lt is in
    let p_cut = cut_there (together (take row rs)) r behind j n low at in
    record {
      bound = omega (arith, ap length whole, length-append (together (take row rs)) (r ++ behind), length-append r behind, low, at);
      front = ap (take n) whole ∙ (p_cut.0 ∙ sym (all.0 ∙ (ap (λ l. together l ++ front p (together (back (last_passes p) rs))) (sym before) ∙ ap (λ l. together (take row rs) ++ l) (ap (λ l. front p (together l)) (sym rest ∙ next) ∙ (here.0 ∙ sym in_front)))));
      rest = ap (drop n) whole ∙ (p_cut.1 ∙ sym (all.1 ∙ (ap (λ l. back p (together l)) (sym rest ∙ next) ∙ (here.1 ∙ ap (λ l. l ++ behind) (sym in_back)))));
    }

pub cut_at_end : {T : Type 0} (p : T → Bool) (rs : List (List T)) (row n : ℕ) → IsParted p (together rs) → take row rs ≡ front (last_passes p) rs → drop row rs ≡ back (last_passes p) rs → row ≡ length rs → n ≡ length (together rs) → IsCut p (together rs) n
cut_at_end p rs row n parted before rest end at =
    let all = pass_rows p rs parted in
    let none : back (last_passes p) rs ≡ [] = sym rest ∙ drop_all row rs (omega (arith, end)) in
    let whole : front (last_passes p) rs ≡ rs = sym before ∙ take_all row rs (omega (arith, end)) in
    record {
      bound = omega (arith, at);
      front = take_all n (together rs) (omega (arith, at)) ∙ sym (all.0 ∙ (ap (λ l. together l ++ front p (together (back (last_passes p) rs))) whole ∙ (ap (λ l. together rs ++ front p (together l)) none ∙ append-nil (together rs))));
      rest = drop_all n (together rs) (omega (arith, at)) ∙ sym (all.1 ∙ ap (λ l. back p (together l)) none);
    }

pub counted_in_row : {T : Type 0} (key : T → Key) (b : Bound) (rs l m : List (List T)) (xs r : List T) (row n j : ℕ) → l ≡ rs → m ≡ rs → together rs ≡ xs → AreSorted key xs → take row l ≡ front (last_passes (is_covered key b)) l → drop row l ≡ back (last_passes (is_covered key b)) l
    → row < length rs → r ≡ get_or rs row r → j ≤ length r → take j r ≡ front (is_covered key b) r → drop j r ≡ back (is_covered key b) r → n ≡ length (together (take row m)) → IsCut (is_covered key b) xs (n + j)
counted_in_row key b rs l m xs r row n j same_l same_m all sorted before rest lt is low in_front in_back count =
    let p = is_covered key b in
    let here : take row rs ≡ front (last_passes p) rs = subst (λ q. take row q ≡ front (last_passes p) q) same_l before in
    let behind : drop row rs ≡ back (last_passes p) rs = subst (λ q. drop row q ≡ back (last_passes p) q) same_l rest in
    let parted = parted_covered key b (together rs) (subst (λ q. AreSorted key q) (sym all) sorted) in
    let at : length (together (take row rs)) + j ≡ n + j = ap (λ k. k + j) (sym (count ∙ ap (λ q. length (together (take row q))) same_m)) in
    subst (λ q. IsCut p q (n + j)) all (cut_in_row p rs r row j (n + j) parted here behind lt is low in_front in_back at)

pub counted_at_end : {T : Type 0} (key : T → Key) (b : Bound) (rs l : List (List T)) (xs : List T) (row n : ℕ) → l ≡ rs → together rs ≡ xs → AreSorted key xs → take row l ≡ front (last_passes (is_covered key b)) l → drop row l ≡ back (last_passes (is_covered key b)) l
    → row ≡ length rs → n ≡ length xs → IsCut (is_covered key b) xs n
counted_at_end key b rs l xs row n same_l all sorted before rest end count =
    let p = is_covered key b in
    let here : take row rs ≡ front (last_passes p) rs = subst (λ q. take row q ≡ front (last_passes p) q) same_l before in
    let behind : drop row rs ≡ back (last_passes p) rs = subst (λ q. drop row q ≡ back (last_passes p) q) same_l rest in
    let parted = parted_covered key b (together rs) (subst (λ q. AreSorted key q) (sym all) sorted) in
    subst (λ q. IsCut p q n) all (cut_at_end p rs row n parted here behind end (count ∙ ap length (sym all)))

-- the rows before a row, by those from it on
pub rows_before : {T : Type 0} (m : List (List T)) (xs : List T) (row n whole : ℕ) → n ≡ length (together (take (length m - row) (drop row m))) → together m ≡ xs → whole ≡ length xs → (n ≤ whole) × (whole - n ≡ length (together (take row m)))
rows_before m xs row n whole count all is =
    let behind : n ≡ length (together (drop row m)) = count ∙ ap (λ l. length (together l)) (take_rest m row) in
    let parts : length (together m) ≡ length (together (take row m)) + length (together (drop row m)) =
    ap (λ l. length (together l)) (sym (take-append-drop row m)) ∙ (ap length (together_append (take row m) (drop row m)) ∙ length-append (together (take row m)) (together (drop row m))) in
    (omega (arith, behind, parts, ap length all, is), omega (arith, behind, parts, ap length all, is))

-- a search from a place on
pub none_back : {T : Type 0} (p : T → Bool) (xs : List T) → NonePass p xs → IsCut p xs 0
none_back p [] none = record { bound = omega arith; front = refl; rest = refl }
none_back p (x ∷ xs) none = record { bound = omega arith; front = rw none.0 refl; rest = rw none.0 refl }

none_drop : {T : Type 0} (p : T → Bool) (i : ℕ) (xs : List T) → NonePass p xs → NonePass p (drop i xs)
none_drop p zero xs none = none
none_drop p (suc i) [] none = tt
none_drop p (suc i) (x ∷ xs) none = none_drop p i xs none.1

pub cut_from : {T : Type 0} (p : T → Bool) (from n m : ℕ) (xs : List T) → IsParted p xs → IsCut p xs n → n - from ≡ m → IsCut p (drop from xs) m
cut_from p zero n m xs parted cut is =
    let same : n ≡ m = omega (arith, is) in
    subst (IsCut p xs) same cut
cut_from p (suc from) n m [] parted cut is =
    let none : m ≡ 0 = omega (arith, is, cut.bound) in
    subst (IsCut p []) (sym none) (none_back p [] tt)
cut_from {T} p (suc from) n m (x ∷ xs) parted cut is = cases (p x) refl (λ n. cut_from p from n m xs parted.1) n cut is
  where
    cases : (b : Bool) → p x ≡ b → ((n : ℕ) → IsCut p xs n → n - from ≡ m → IsCut p (drop from xs) m) → (n : ℕ) → IsCut p (x ∷ xs) n → n - suc from ≡ m → IsCut p (drop from xs) m
    cases false f more zero cut is =
        let none : m ≡ 0 = omega (arith, is) in
        subst (IsCut p (drop from xs)) (sym none) (none_back p (drop from xs) (none_drop p from xs (parted.0 f)))
    cases false f more (suc n) cut is = absurd (let h : x ∷ take n xs ≡ [] = cut.front ∙ rw f refl in (cc))
    cases true f more zero cut is = absurd (let h : [] ≡ x ∷ front p xs = cut.front ∙ rw f refl in (cc))
    cases true f more (suc n) cut is =
        let front_is : x ∷ take n xs ≡ x ∷ front p xs = cut.front ∙ rw f refl in
        let rest_is : drop n xs ≡ back p xs = cut.rest ∙ rw f refl in
        more n (record { bound = omega (arith, cut.bound); front = ap (drop 1) front_is; rest = rest_is }) (omega (arith, is))

-- a part of what begins with a row
take_split : {T : Type 0} (xs ys : List T) (n m k : ℕ) → m ≡ min (length xs) n → k ≡ n - m → take n (xs ++ ys) ≡ take m xs ++ take k ys
take_split [] ys n m k e f =
    let none : m ≡ 0 = omega (arith, e) in
    let all : n ≡ k = omega (arith, e, f) in
    ap (λ i. take i ys) all ∙ sym (ap (λ i. take i [] ++ take k ys) none)
take_split (x ∷ xs) ys zero m k e f =
    let none : m ≡ 0 = omega (arith, e) in
    let rest : k ≡ 0 = omega (arith, f) in
    sym (ap (λ i. take i (x ∷ xs) ++ take k ys) none ∙ ap (λ i. take i ys) rest)
take_split (x ∷ xs) ys (suc n) zero k e f = absurd (omega (arith, e))
take_split (x ∷ xs) ys (suc n) (suc m) k e f = ap (λ l. x ∷ l) (take_split xs ys n m k (omega (arith, e)) (omega (arith, f)))

drop_split : {T : Type 0} (xs ys : List T) (n m k : ℕ) → m ≡ min (length xs) n → k ≡ n - m → drop n (xs ++ ys) ≡ drop m xs ++ drop k ys
drop_split [] ys n m k e f =
    let none : m ≡ 0 = omega (arith, e) in
    let all : n ≡ k = omega (arith, e, f) in
    ap (λ i. drop i ys) all ∙ sym (ap (λ i. drop i [] ++ drop k ys) none)
drop_split (x ∷ xs) ys zero m k e f =
    let none : m ≡ 0 = omega (arith, e) in
    let rest : k ≡ 0 = omega (arith, f) in
    sym (ap (λ i. drop i (x ∷ xs) ++ drop k ys) none ∙ ap (λ i. x ∷ (xs ++ drop i ys)) rest)
drop_split (x ∷ xs) ys (suc n) zero k e f = absurd (omega (arith, e))
drop_split (x ∷ xs) ys (suc n) (suc m) k e f = drop_split xs ys n m k (omega (arith, e)) (omega (arith, f))

pub part_next : {T : Type 0} (r xs : List T) (skipped left begin taken : ℕ) → begin ≡ min (length r) skipped → taken ≡ min (length r - begin) left
    → take left (drop skipped (r ++ xs)) ≡ take taken (drop begin r) ++ take (left - taken) (drop (skipped - begin) xs)
part_next r xs skipped left begin taken e f =
    let count : length (drop begin r) ≡ length r - begin = length-drop begin r in
    ap (take left) (drop_split r xs skipped begin (skipped - begin) e refl) ∙ take_split (drop begin r) (drop (skipped - begin) xs) left taken (left - taken) (omega (arith, count, f)) refl

-- a part of one row
pub part_within : {T : Type 0} (r xs : List T) (skipped count : ℕ) → skipped + count ≤ length r → take count (drop skipped (r ++ xs)) ≡ take count (drop skipped r)
part_within r xs skipped count few =
    let none : take (count - count) (drop (skipped - skipped) xs) ≡ [] = let zero_left : count - count ≡ 0 = omega arith in ap (λ n. take n (drop (skipped - skipped) xs)) zero_left in
    part_next r xs skipped count skipped count (omega (arith, few)) (omega (arith, few)) ∙ ap (λ l. take count (drop skipped r) ++ l) none ∙ append-nil (take count (drop skipped r))
