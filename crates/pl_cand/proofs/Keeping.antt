-- The first so many of those that pass a test, and moves where they first stand.
use Rattle.std.proofs.Common.{◌≡◌, ℕ, zero, suc, ◌+◌, ◌-◌, ◌<◌, ◌≤◌, Bool, true, false, List, [], ◌∷◌, ◌++◌, length, take, drop, get_or, map, add-one, drop-cons, refl, sym, ap, ◌∙◌, arith, append_assoc, append-nil, length-append, eqb}
use Rattle.std.proofs.lemmas.Bool.{eqb-true, and_parts, lt-ltb}
use Rattle.std.proofs.lemmas.List.{take-append-drop, drop-drop}
use Rattle.std.proofs.lemmas.List.Elements.{All-head, All-tail}
use Rattle.std.specs.Prelude.{All, filter, ◌||◌}
use Rattle.std.specs.List.{list_any}
use Rattle.std.proofs.lemmas.List.Folds.{list_any-append}
use Rattle.pl_plan.specs.declared.repair.RepairMove.{RepairMove}
use Rattle.pl_plan.specs.declared.repair.RepairMove.TheVariants.{Add}
use Rattle.pl_semantics.specs.Moves.{is_proper}
use Rattle.pl_semantics.specs.Candidates.{same_move, same_number, is_worth, once_from}
use Rattle.pl_plan.specs.declared.activity.Activity.{Activity}
use Rattle.pl_plan.specs.Trees.{id_of}
use Rattle.pl_semantics.specs.declared.plan_state.PlanState.{PlanState}
use Rattle.pl_cand.specs.declared.role.Role.{Role}
use Rattle.pl_cand.specs.Tests.{is_user, users_with}
use Rattle.pl_model.specs.declared.kinds.Kind.{Kind}
use Rattle.pl_semantics.specs.PlanStates.{is_committed, numbered}
use Rattle.pl_cand.specs.declared.help.Help.{Help}
use Rattle.pl_cand.specs.Helping.{helpers_with, is_helper, number_of}
use Rattle.pl_cand.specs.Cuts.{once_after, standing, are_alike}
use Rattle.pl_cand.proofs.Same.{one_number}

-- ---- the first so many

pub one_more : {X : Type 0} (P : X → Bool) (n : ℕ) (x : X) (xs : List X) → 0 < n → P x ≡ true → take n (filter P (x ∷ xs)) ≡ x ∷ take (n - 1) (filter P xs)
one_more P zero x xs some is = absurd (omega (arith, some))
one_more P (suc n) x xs some is = let less : suc n - 1 ≡ n = omega arith in rw (is, less) refl

pub one_past : {X : Type 0} (P : X → Bool) (n : ℕ) (x : X) (xs : List X) → P x ≡ false → take n (filter P (x ∷ xs)) ≡ take n (filter P xs)
one_past P n x xs is = rw is refl

pub none_more : {X : Type 0} (n : ℕ) (xs : List X) → n ≤ 0 → take n xs ≡ []
none_more zero xs le = refl
none_more (suc n) xs le = absurd (omega (arith, le))

pub take_empty : {X : Type 0} (n : ℕ) (xs : List X) → xs ≡ [] → take n xs ≡ []
take_empty zero xs is = refl
take_empty (suc n) xs is = rw is refl

-- the same of a list that is kept up to a length
pub room_more : {X Y : Type 0} (f : X → Y) (P : X → Bool) (most : ℕ) (kept : List Y) (x : X) (xs : List X) → length kept < most → P x ≡ true → kept ++ map f (take (most - length kept) (filter P (x ∷ xs))) ≡ (kept ++ f x ∷ []) ++ map f (take (most - length (kept ++ f x ∷ [])) (filter P xs))
room_more f P most kept x xs room is =
    let less : most - length (kept ++ f x ∷ []) ≡ (most - length kept) - 1 = omega (arith, length-append kept (f x ∷ [])) in
    let one = one_more P (most - length kept) x xs (omega (arith, room)) is in
    rw (one, less, append_assoc) refl

-- an item and what lies behind it
pub drop_here : {X : Type 0} (xs : List X) (i : ℕ) (x : X) → i < length xs → x ≡ get_or xs i x → x ∷ drop (i + 1) xs ≡ drop i xs
drop_here xs i x lt is = rw (add-one, drop-cons xs i x) (ap (λ y. y ∷ drop (suc i) xs) is)

-- the same with its number
pub numbered_here : (ks : List Kind) (i : ℕ) (k : Kind) → i < length ks → k ≡ get_or ks i k → (i, k) ∷ numbered (i + 1) (drop (i + 1) ks) ≡ numbered i (drop i ks)
numbered_here ks i k lt is =
    let e : i + 1 ≡ suc i = omega arith in
    ap (λ m. (i, k) ∷ numbered m (drop (i + 1) ks)) e ∙ ap (numbered i) (drop_here ks i k lt is)

-- ---- the first eight users

pub users_full : (s : PlanState) (line : ℕ) (part : Role) (ids : List ℕ) (rest : List Activity) → 8 ≤ length ids → users_with s line part ids rest ≡ ids
users_full s line part ids rest full = ap (λ l. ids ++ map id_of l) (none_more (8 - length ids) (filter (is_user s line part) rest) (omega (arith, full))) ∙ append-nil ids

module _ (s : PlanState) (line : ℕ) (part : Role) (ids : List ℕ) (a : Activity) (rest : List Activity) where
  pub users_past : is_user s line part a ≡ false → users_with s line part ids (a ∷ rest) ≡ users_with s line part ids rest
  users_past is = ap (λ l. ids ++ map id_of l) (one_past (is_user s line part) (8 - length ids) a rest is)

  pub users_more : length ids < 8 → is_user s line part a ≡ true → users_with s line part ids (a ∷ rest) ≡ users_with s line part (ids ++ a.id ∷ []) rest
  users_more room is = room_more id_of (is_user s line part) 8 ids a rest room is

-- committed activities are passed over
pub users_early : (s : PlanState) (line : ℕ) (part : Role) (ids : List ℕ) (xs ys : List Activity) → All (λ a. a.start < s.committed) xs → users_with s line part ids (xs ++ ys) ≡ users_with s line part ids ys
users_early s line part ids [] ys early = refl
users_early s line part ids (a ∷ xs) ys early =
    let first : a.start < s.committed = All-head (λ (x : Activity). x.start < s.committed) a xs early in
    let committed : is_committed s a ≡ true = lt-ltb a.start s.committed first in
    let past : is_user s line part a ≡ false = rw committed refl in
    users_past s line part ids a (xs ++ ys) past ∙ users_early s line part ids xs ys (All-tail (λ (x : Activity). x.start < s.committed) a xs early)

-- the same from a place on up to a later one
pub users_later : (s : PlanState) (line : ℕ) (part : Role) (ids : List ℕ) (xs : List Activity) (place begin : ℕ) → place ≤ begin → All (λ a. a.start < s.committed) (take (begin - place) (drop place xs)) → users_with s line part ids (drop place xs) ≡ users_with s line part ids (drop begin xs)
users_later s line part ids xs place begin le early =
    let n = begin - place in
    let ys = drop place xs in
    let same : place + n ≡ begin = omega (arith, le) in
    let rest : drop n ys ≡ drop begin xs = drop-drop n place xs ∙ ap (λ k. drop k xs) same in
    ap (users_with s line part ids) (sym (take-append-drop n ys)) ∙ (users_early s line part ids (take n ys) (drop n ys) early ∙ ap (users_with s line part ids) rest)

-- ---- the first four helpers

module _ (line : ℕ) (help : Help) (found : List ℕ) (k : ℕ × Kind) (rest : List (ℕ × Kind)) where
  pub helpers_full : 4 ≤ length found → helpers_with line help found (k ∷ rest) ≡ helpers_with line help found rest
  helpers_full full =
      let none : (xs : List (ℕ × Kind)) → take (4 - length found) xs ≡ [] = λ xs. none_more (4 - length found) xs (omega (arith, full)) in
      ap (λ l. found ++ map number_of l) (none (filter (is_helper line help) (k ∷ rest)) ∙ sym (none (filter (is_helper line help) rest)))

  pub helpers_past : is_helper line help k ≡ false → helpers_with line help found (k ∷ rest) ≡ helpers_with line help found rest
  helpers_past is = ap (λ l. found ++ map number_of l) (one_past (is_helper line help) (4 - length found) k rest is)

  pub helpers_more : length found < 4 → is_helper line help k ≡ true → helpers_with line help found (k ∷ rest) ≡ helpers_with line help (found ++ k.0 ∷ []) rest
  helpers_more room is = room_more number_of (is_helper line help) 4 found k rest room is

-- ---- moves where they first stand

any_one_more : (m q : RepairMove) (kept : List RepairMove) → list_any (same_move q) (kept ++ m ∷ []) ≡ (same_move q m || list_any (same_move q) kept)
any_one_more m q kept = list_any-append (same_move q) kept (m ∷ []) ∙ cases (list_any (same_move q) kept) (same_move q m)
  where
    cases : (a b : Bool) → (a || (b || false)) ≡ (b || a)
    cases true true = refl
    cases true false = refl
    cases false true = refl
    cases false false = refl

pub once_same : (seen kept xs : List RepairMove) → ((q : RepairMove) → list_any (same_move q) seen ≡ list_any (same_move q) kept) → once_from seen xs ≡ once_after kept xs
once_same seen kept [] same = refl
once_same seen kept (m ∷ more) same = cases (list_any (same_move m) kept) refl (once_same seen kept more same) (once_same (m ∷ seen) (kept ++ m ∷ []) more longer)
  where
    longer : (q : RepairMove) → list_any (same_move q) (m ∷ seen) ≡ list_any (same_move q) (kept ++ m ∷ [])
    longer q = ap (λ b. same_move q m || b) (same q) ∙ sym (any_one_more m q kept)

    cases : (b : Bool) → list_any (same_move m) kept ≡ b → once_from seen more ≡ once_after kept more → once_from (m ∷ seen) more ≡ once_after (kept ++ m ∷ []) more → once_from seen (m ∷ more) ≡ once_after kept (m ∷ more)
    cases true e old new = let e' : list_any (same_move m) seen ≡ true = same m ∙ e in rw (e', e) old
    cases false e old new = let e' : list_any (same_move m) seen ≡ false = same m ∙ e in rw (e', e) (ap (λ l. m ∷ l) new)

pub once_is : (xs : List RepairMove) → once_from [] xs ≡ once_after [] xs
once_is xs = once_same [] [] xs (λ q. refl)

pub stand_new : (P : RepairMove → Bool) (kept : List RepairMove) (m : RepairMove) (xs : List RepairMove) → length kept < 256 → P m ≡ true → list_any (same_move m) kept ≡ false → standing P kept (m ∷ xs) ≡ standing P (kept ++ m ∷ []) xs
stand_new P kept m xs room is fresh =
    let more : 256 - length kept ≡ suc (256 - length (kept ++ m ∷ [])) = omega (arith, room, length-append kept (m ∷ [])) in
    rw (is, fresh, more, append_assoc) refl

pub stand_end : (P : RepairMove → Bool) (kept : List RepairMove) (xs : List RepairMove) → xs ≡ [] → standing P kept xs ≡ kept
stand_end P kept xs is = rw (take_empty (256 - length kept) (once_after kept (filter P xs)) (rw is refl)) (append-nil kept)

pub nothing_left : {X : Type 0} (xs : List X) (i : ℕ) → length xs ≤ i → drop i xs ≡ []
nothing_left [] zero le = refl
nothing_left [] (suc i) le = refl
nothing_left (x ∷ xs) zero le = absurd (omega (arith, le))
nothing_left (x ∷ xs) (suc i) le = nothing_left xs i (omega (arith, le))

-- ---- moves that are worth as much

pub alike_worth : (s : PlanState) (m n : RepairMove) → are_alike m n ≡ true → is_worth s m ≡ is_worth s n
unfolding is_proper
alike_worth s (Add kind start goal) (Add k t g) e = same (and_parts (eqb kind k) (same_number goal g) e)
  where
    same : (eqb kind k ≡ true) × (same_number goal g ≡ true) → is_worth s (Add kind start goal) ≡ is_worth s (Add k t g)
    same h = ap (λ x. is_worth s (Add x start goal)) (eqb-true kind k h.0) ∙ ap (λ x. is_worth s (Add k start x)) (one_number goal g h.1)
alike_worth s _ _ e = absurd (cc)
