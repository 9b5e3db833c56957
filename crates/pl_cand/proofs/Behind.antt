-- A move that stands behind few others is one of the first 256.
use Rattle.std.proofs.Common.{◌≡◌, ℕ, zero, suc, ◌+◌, ◌-◌, ◌<◌, ◌≤◌, Bool, true, false, List, [], ◌∷◌, ◌++◌, length, take, drop, get_or, drop-cons, append_assoc, append-nil, length-append, refl, sym, subst, ap, ◌∙◌, arith}
use Rattle.std.specs.Prelude.{◌||◌, filter, nat_le, if◌then◌else◌}
use Rattle.std.specs.List.{flat_map, list_any}
use Rattle.std.proofs.lemmas.Bool.{leb-true, or_from, or_parts, or_right}
use Rattle.std.proofs.lemmas.Grind.{flat_map-append}
use Rattle.std.proofs.lemmas.List.Folds.{list_any-append}
use Rattle.pl_lists.proofs.Tests.{or_weaker}
use Rattle.pl_plan.specs.declared.activity.Activity.{Activity}
use Rattle.pl_plan.specs.declared.repair.RepairMove.{RepairMove}
use Rattle.pl_semantics.specs.declared.plan_state.PlanState.{PlanState}
use Rattle.pl_semantics.specs.Starts.{moves_of}
use Rattle.pl_semantics.specs.Candidates.{same_move}
use Rattle.pl_cand.specs.declared.role.Role.{Role}
use Rattle.pl_cand.specs.declared.role.Role.TheVariants as role
use Rattle.pl_cand.specs.declared.role.Way.{Way}
use Rattle.pl_cand.specs.declared.told.Told.{Told}
use Rattle.pl_cand.specs.declared.told.Told.TheVariants as told
use Rattle.pl_cand.specs.Tests.{is_user}
use Rattle.pl_cand.specs.Telling.{Tells, TellsRest, away, told_within, players_of}
use Rattle.pl_cand.proofs.Among.{all_short}
use Rattle.pl_cand.proofs.Keeping.{none_more, nothing_left, one_more, one_past, take_empty}
use Rattle.pl_cand.proofs.Few.{away_all_few}

-- what stands in front stands among the first
front : (P : RepairMove → Bool) (n : ℕ) (xs ys : List RepairMove) → length xs ≤ n → list_any P xs ≡ true → list_any P (take n (xs ++ ys)) ≡ true
front P n [] ys le is = absurd (cc)
front P zero (x ∷ xs) ys le is = absurd (omega (arith, le))
front P (suc n) (x ∷ xs) ys le is = or_weaker (P x) (list_any P xs) (list_any P (take n (xs ++ ys))) is (front P n xs ys (omega (arith, le)))

pub few_early : (m : RepairMove) (tried : List RepairMove) → length tried ≤ 256 → list_any (same_move m) tried ≡ true → Tells tried m told.Early
few_early m tried few is = ap (list_any (same_move m)) (sym (all_short tried few)) ∙ is

any_three : (P : RepairMove → Bool) (h a b : List RepairMove) → list_any P (h ++ (a ++ b)) ≡ (list_any P h || (list_any P a || list_any P b))
any_three P h a b = list_any-append P h (a ++ b) ∙ ap (λ t. list_any P h || t) (list_any-append P a b)

-- for a level no user is shifted away
pub nothing_away : (s : PlanState) (b : ℕ) (way : Way) (users : List Activity) → flat_map (away s (role.ChangesBelow b way)) users ≡ []
nothing_away s b way [] = refl
nothing_away s b way (x ∷ users) = nothing_away s b way users

-- ---- the first eight users

-- those of the rest that are among the first eight, where so many were found
abbrev pub left : PlanState → Role → ℕ → ℕ → List Activity → List Activity
left s part line found rest = take (8 - found) (filter (is_user s line part) rest)

-- ---- one user more

last_piece : (f : Activity → List RepairMove) (done : List Activity) (x : Activity) → flat_map f (done ++ x ∷ []) ≡ flat_map f done ++ f x
last_piece f done x = flat_map-append f done (x ∷ []) ∙ ap (λ l. flat_map f done ++ l) (append-nil (f x))

module _ (s : PlanState) (part : Role) (m : RepairMove) where
  -- past one, none of whose moves is the move
  past_user : (most k : ℕ) (x : Activity) (rest : List Activity) (t : Told) → length (moves_of s x) ≤ k → list_any (same_move m) (away s part x) ≡ false → list_any (same_move m) (moves_of s x) ≡ false → TellsRest s part m (most + k) rest t → TellsRest s part m most (x ∷ rest) t
  past_user most k x rest t few no_shift no_move tells = λ help done short none.
      let P : RepairMove → Bool = same_move m in
      let d : List Activity = done ++ x ∷ [] in
      let same : d ++ rest ≡ done ++ x ∷ rest = append_assoc done (x ∷ []) rest in
      let count : length (flat_map (moves_of s) d) ≡ length (flat_map (moves_of s) done) + length (moves_of s x) = ap length (last_piece (moves_of s) done x) ∙ length-append (flat_map (moves_of s) done) (moves_of s x) in
      let shifts : length (flat_map (away s part) (d ++ rest)) ≡ length (flat_map (away s part) (done ++ x ∷ rest)) = ap (λ (l : List Activity). length (flat_map (away s part) l)) same in
      let within : length help + (length (flat_map (away s part) (d ++ rest)) + length (flat_map (moves_of s) d)) ≤ most + k = omega (arith, short, count, shifts, few) in
      let before = or_parts (list_any P help) (list_any P (flat_map (away s part) done) || list_any P (flat_map (moves_of s) done)) (sym (any_three P help (flat_map (away s part) done) (flat_map (moves_of s) done)) ∙ none) in
      let each = or_parts (list_any P (flat_map (away s part) done)) (list_any P (flat_map (moves_of s) done)) before.1 in
      let one : list_any P (flat_map (away s part) d) ≡ false = ap (list_any P) (last_piece (away s part) done x) ∙ list_any-append P (flat_map (away s part) done) (away s part x) ∙ or_from (list_any P (flat_map (away s part) done)) (list_any P (away s part x)) each.0 no_shift in
      let two : list_any P (flat_map (moves_of s) d) ≡ false = ap (list_any P) (last_piece (moves_of s) done x) ∙ list_any-append P (flat_map (moves_of s) done) (moves_of s x) ∙ or_from (list_any P (flat_map (moves_of s) done)) (list_any P (moves_of s x)) each.1 no_move in
      let none' : list_any P (help ++ (flat_map (away s part) d ++ flat_map (moves_of s) d)) ≡ false =
      any_three P help (flat_map (away s part) d) (flat_map (moves_of s) d)
      ∙ or_from (list_any P help) (list_any P (flat_map (away s part) d) || list_any P (flat_map (moves_of s) d)) before.0 (or_from (list_any P (flat_map (away s part) d)) (list_any P (flat_map (moves_of s) d)) one two) in
      subst (λ (l : List Activity). Tells (help ++ (flat_map (away s part) l ++ flat_map (moves_of s) l)) m t) same (tells help d within none')

  -- the move is one of those of a user
  among_shifts : (x : Activity) (done rest : List Activity) → list_any (same_move m) (away s part x) ≡ true → list_any (same_move m) (flat_map (away s part) (done ++ x ∷ rest)) ≡ true
  among_shifts x done rest is =
      ap (list_any (same_move m)) (flat_map-append (away s part) done (x ∷ rest))
      ∙ list_any-append (same_move m) (flat_map (away s part) done) (away s part x ++ flat_map (away s part) rest)
      ∙ or_right (list_any (same_move m) (flat_map (away s part) done)) (list_any (same_move m) (away s part x ++ flat_map (away s part) rest))
      (list_any-append (same_move m) (away s part x) (flat_map (away s part) rest) ∙ or_left (list_any (same_move m) (away s part x)) (list_any (same_move m) (flat_map (away s part) rest)) is)
    where
      or_left : (a b : Bool) → a ≡ true → (a || b) ≡ true
      or_left a b e = rw e refl

  among_moves : (x : Activity) (done : List Activity) → list_any (same_move m) (moves_of s x) ≡ true → list_any (same_move m) (flat_map (moves_of s) (done ++ x ∷ [])) ≡ true
  among_moves x done is =
      ap (list_any (same_move m)) (last_piece (moves_of s) done x)
      ∙ list_any-append (same_move m) (flat_map (moves_of s) done) (moves_of s x)
      ∙ or_right (list_any (same_move m) (flat_map (moves_of s) done)) (list_any (same_move m) (moves_of s x)) is

  either_list : (a b c d : Bool) → (a || b) ≡ true → (a ≡ true → c ≡ true) → (b ≡ true → d ≡ true) → (c || d) ≡ true
  either_list true b c d is one other = rw (one refl) refl
  either_list false b c d is one other = or_right c d (other is)

  in_front : (x : Activity) (help : List RepairMove) (done rest : List Activity) → (list_any (same_move m) (away s part x) || list_any (same_move m) (moves_of s x)) ≡ true
      → list_any (same_move m) (help ++ (flat_map (away s part) (done ++ x ∷ rest) ++ flat_map (moves_of s) (done ++ x ∷ []))) ≡ true
  in_front x help done rest is =
      any_three (same_move m) help (flat_map (away s part) (done ++ x ∷ rest)) (flat_map (moves_of s) (done ++ x ∷ []))
      ∙ or_right (list_any (same_move m) help) (list_any (same_move m) (flat_map (away s part) (done ++ x ∷ rest)) || list_any (same_move m) (flat_map (moves_of s) (done ++ x ∷ [])))
      (either_list (list_any (same_move m) (away s part x)) (list_any (same_move m) (moves_of s x)) (list_any (same_move m) (flat_map (away s part) (done ++ x ∷ rest))) (list_any (same_move m) (flat_map (moves_of s) (done ++ x ∷ []))) is (among_shifts x done rest) (among_moves x done))

  regrouped : (help : List RepairMove) (x : Activity) (done rest : List Activity)
      → (help ++ (flat_map (away s part) (done ++ x ∷ rest) ++ flat_map (moves_of s) (done ++ x ∷ []))) ++ flat_map (moves_of s) rest ≡ help ++ (flat_map (away s part) (done ++ x ∷ rest) ++ flat_map (moves_of s) (done ++ x ∷ rest))
  regrouped help x done rest =
      let shifts : List RepairMove = flat_map (away s part) (done ++ x ∷ rest) in
      let some : List RepairMove = flat_map (moves_of s) (done ++ x ∷ []) in
      let more : List RepairMove = flat_map (moves_of s) rest in
      let all : some ++ more ≡ flat_map (moves_of s) (done ++ x ∷ rest) = sym (flat_map-append (moves_of s) (done ++ x ∷ []) rest) ∙ ap (flat_map (moves_of s)) (append_assoc done (x ∷ []) rest) in
      append_assoc help (shifts ++ some) more
      ∙ ap (λ l. help ++ l) (append_assoc shifts some more ∙ ap (λ l. shifts ++ l) all)

  here_user : (most k : ℕ) (x : Activity) (rest : List Activity) → length (moves_of s x) ≤ k → (list_any (same_move m) (away s part x) || list_any (same_move m) (moves_of s x)) ≡ true → TellsRest s part m most (x ∷ rest) (told_within (most + k))
  here_user most k x rest few is = λ help done short none. by help done short (nat_le (most + k) 256) refl
    where
      by : (help : List RepairMove) (done : List Activity) → length help + (length (flat_map (away s part) (done ++ x ∷ rest)) + length (flat_map (moves_of s) done)) ≤ most
          → (b : Bool) → nat_le (most + k) 256 ≡ b → Tells (help ++ (flat_map (away s part) (done ++ x ∷ rest) ++ flat_map (moves_of s) (done ++ x ∷ rest))) m (if b then told.Early else told.Unknown)
      by help done short false e = tt
      by help done short true e =
          let some : List RepairMove = flat_map (moves_of s) (done ++ x ∷ []) in
          let shifts : List RepairMove = flat_map (away s part) (done ++ x ∷ rest) in
          let le : most + k ≤ 256 = leb-true (most + k) 256 e in
          let count : length some ≡ length (flat_map (moves_of s) done) + length (moves_of s x) = ap length (last_piece (moves_of s) done x) ∙ length-append (flat_map (moves_of s) done) (moves_of s x) in
          let both : length (help ++ (shifts ++ some)) ≡ length help + (length shifts + length some) = length-append help (shifts ++ some) ∙ ap (λ n. length help + n) (length-append shifts some) in
          let within : length (help ++ (shifts ++ some)) ≤ 256 = omega (arith, short, le, count, both, few) in
          subst (λ (l : List RepairMove). list_any (same_move m) (take 256 l) ≡ true) (regrouped help x done rest) (front (same_move m) 256 (help ++ (shifts ++ some)) (flat_map (moves_of s) rest) within (in_front x help done rest is))

  none_rest : (most : ℕ) → TellsRest s part m most [] told.Untried
  none_rest most = λ help done short none. subst (λ (l : List Activity). list_any (same_move m) (help ++ (flat_map (away s part) l ++ flat_map (moves_of s) l)) ≡ false) (sym (append-nil done)) none

  -- ---- the first eight users, one after another

  module _ (line : ℕ) where
    from_all : (t : Told) → TellsRest s part m 80 (players_of s line part) t → (help : List RepairMove) → length help ≤ 64 → list_any (same_move m) help ≡ false → Tells (help ++ (flat_map (away s part) (players_of s line part) ++ flat_map (moves_of s) (players_of s line part))) m t
    from_all t tells help few none =
        let shifts : length (flat_map (away s part) (players_of s line part)) ≤ 16 = away_all_few s part (filter (is_user s line part) s.plan.activities) in
        let short : length help + (length (flat_map (away s part) (players_of s line part)) + 0) ≤ 80 = omega (arith, few, shifts) in
        tells help [] short (ap (list_any (same_move m)) (append-nil help) ∙ none)

    pub told_all : (acts : List Activity) → acts ≡ s.plan.activities → (t : Told) → TellsRest s part m 80 (left s part line 0 acts) t → (help : List RepairMove) → length help ≤ 64 → list_any (same_move m) help ≡ false → Tells (help ++ (flat_map (away s part) (players_of s line part) ++ flat_map (moves_of s) (players_of s line part))) m t
    told_all acts same t tells help few none = from_all t (subst (λ (l : List Activity). TellsRest s part m 80 (left s part line 0 l) t) same tells) help few none

    module _ (acts : List Activity) (most found i : ℕ) (so_far : (t : Told) → TellsRest s part m most (left s part line found (drop i acts)) t → TellsRest s part m 80 (left s part line 0 acts) t) where
      pub all_found : 8 ≤ found → TellsRest s part m 80 (left s part line 0 acts) told.Untried
      all_found full = so_far told.Untried (subst (λ (l : List Activity). TellsRest s part m most l told.Untried) (sym (none_more (8 - found) (filter (is_user s line part) (drop i acts)) (omega (arith, full)))) (none_rest most))

      pub all_seen : length acts ≤ i → TellsRest s part m 80 (left s part line 0 acts) told.Untried
      all_seen past =
          let none : filter (is_user s line part) (drop i acts) ≡ [] = ap (filter (is_user s line part)) (nothing_left acts i past) in
          let empty : left s part line found (drop i acts) ≡ [] = take_empty (8 - found) (filter (is_user s line part) (drop i acts)) none in
          so_far told.Untried (subst (λ (l : List Activity). TellsRest s part m most l told.Untried) (sym empty) (none_rest most))

      module _ (x : Activity) (lt : i < length acts) (is : x ≡ get_or acts i x) where
        next : drop i acts ≡ x ∷ drop (i + 1) acts
        next =
            let more : suc i ≡ i + 1 = omega arith in
            drop-cons acts i x lt ∙ ap (λ y. y ∷ drop (suc i) acts) (sym is) ∙ ap (λ n. x ∷ drop n acts) more

        pub no_user : is_user s line part x ≡ false → (t : Told) → TellsRest s part m most (left s part line found (drop (i + 1) acts)) t → TellsRest s part m 80 (left s part line 0 acts) t
        no_user other t tells =
            let same : left s part line found (drop i acts) ≡ left s part line found (drop (i + 1) acts) = ap (left s part line found) next ∙ one_past (is_user s line part) (8 - found) x (drop (i + 1) acts) other in
            so_far t (subst (λ (l : List Activity). TellsRest s part m most l t) (sym same) tells)

        user_first : found < 8 → is_user s line part x ≡ true → left s part line found (drop i acts) ≡ x ∷ left s part line (found + 1) (drop (i + 1) acts)
        user_first room user =
            let fewer : 8 - found - 1 ≡ 8 - (found + 1) = omega (arith, room) in
            ap (left s part line found) next ∙ one_more (is_user s line part) (8 - found) x (drop (i + 1) acts) (omega (arith, room)) user ∙ ap (λ n. x ∷ take n (filter (is_user s line part) (drop (i + 1) acts))) fewer

        pub user_past : (k : ℕ) → found < 8 → is_user s line part x ≡ true → length (moves_of s x) ≤ k → (list_any (same_move m) (away s part x) || list_any (same_move m) (moves_of s x)) ≡ false → (t : Told) → TellsRest s part m (most + k) (left s part line (found + 1) (drop (i + 1) acts)) t → TellsRest s part m 80 (left s part line 0 acts) t
        user_past k room user few none t tells =
            let parts = or_parts (list_any (same_move m) (away s part x)) (list_any (same_move m) (moves_of s x)) none in
            so_far t (subst (λ (l : List Activity). TellsRest s part m most l t) (sym (user_first room user)) (past_user most k x (left s part line (found + 1) (drop (i + 1) acts)) t few parts.0 parts.1 tells))

        pub user_here : (k : ℕ) → found < 8 → is_user s line part x ≡ true → length (moves_of s x) ≤ k → (list_any (same_move m) (away s part x) || list_any (same_move m) (moves_of s x)) ≡ true → TellsRest s part m 80 (left s part line 0 acts) (told_within (most + k))
        user_here k room user few some =
            so_far (told_within (most + k)) (subst (λ (l : List Activity). TellsRest s part m most l (told_within (most + k))) (sym (user_first room user)) (here_user most k x (left s part line (found + 1) (drop (i + 1) acts)) few some))
