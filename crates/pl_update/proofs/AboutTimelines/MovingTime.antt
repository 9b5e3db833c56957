-- Timelines at a later moment, or with another base.
use Rattle.std.proofs.Common.{◌≡◌, ◌<◌, ◌+◌, ℕ, zero, suc, length, get_or, set, take, drop, List, [], ◌∷◌, ◌++◌, refl, ap, sym, ◌∙◌, subst, arith, ℤ, pos, negsuc}
use Rattle.std.specs.Prelude.{Bool, false, All, map, slice_get, Option, Some, None}
use Rattle.std.proofs.lemmas.Int.{ints}
use Rattle.std.proofs.lemmas.Option.{slice_get_within, slice_get-get_or}
use Rattle.std.proofs.lemmas.List.Elements.{All-append, All-map, All-weaker, All-take, All-drop}
use Rattle.pl_level.specs.Effects.{Standing as LevelStanding}
use Rattle.pl_state.specs.Timelines.{Standing as StateStanding}
use Rattle.pl_semantics.specs.declared.plan_state.PlanState.{PlanState}
use Rattle.pl_semantics.specs.Demands.{since, moment_of_base}
use Rattle.pl_facts.specs.Bases.{base_of}
use Rattle.pl_detect.specs.Based.{IsToldBy, HasBase}
use Rattle.pl_update.specs.declared.timelines.line.Line.{Line}
use Rattle.pl_update.specs.declared.timelines.line.Line.TheVariants.{Capacity, Level, States}
use Rattle.pl_update.specs.Timelines.Named.{HoldsNamed}
use Rattle.pl_update.specs.Timelines.Moments.{at_moment, MayReach, based_on, CanHaveAt}

-- ---- what a timeline holds stays named

pub named_moment : (s : PlanState) (line now : ℕ) (l : Line) → HoldsNamed s line l → HoldsNamed s line (at_moment now l)
named_moment s line now (Capacity c) h = h
named_moment s line now (Level l) h = h
named_moment s line now (States x) h = h

pub named_based : (s : PlanState) (line : ℕ) (value : ℤ) (l : Line) → HoldsNamed s line l → HoldsNamed s line (based_on value l)
named_based s line value (Capacity c) h = h
named_based s line value (Level l) h = h
named_based s line value (States x) h = h

-- ---- the timeline that was read

pub line_at : (all lines : List Line) (i : ℕ) (l : Line) → all ≡ lines → i < length lines → l ≡ get_or all i l → slice_get lines i ≡ Some l
line_at all lines i l same lt e = slice_get-get_or lines i l lt ∙ ap Some (sym (e ∙ ap (λ xs. get_or xs i l) same))

pub has_line : (lines : List Line) (i : ℕ) (value : ℤ) → CanHaveAt value (slice_get lines i) → i < length lines
has_line lines i value can = by (slice_get lines i) refl can
  where
    by : (o : Option Line) → slice_get lines i ≡ o → CanHaveAt value o → i < length lines
    by None e h = absurd h
    by (Some l) e h = slice_get_within lines i l e

-- ---- one after another

reach_again : (now : ℕ) (l : Line) → MayReach now l → MayReach now (at_moment now l)
reach_again now (Capacity c) h = λ e. (omega arith, (h e).1)
reach_again now (Level l) h = λ e. (omega arith, (h e).1)
reach_again now (States x) h = λ e. (omega arith, (h e).1)

pub reach_some : (now i : ℕ) (xs : List Line) → All (MayReach now) xs → All (MayReach now) (map (at_moment now) (take i xs) ++ drop i xs)
reach_some now i xs all = All-append (MayReach now) (map (at_moment now) (take i xs)) (drop i xs)
    (All-map (MayReach now) (at_moment now) (take i xs) (All-weaker (MayReach now) (λ l. MayReach now (at_moment now l)) (reach_again now) (take i xs) (All-take (MayReach now) i xs all)))
    (All-drop (MayReach now) i xs all)

pub advanced_length : (now i : ℕ) (xs : List Line) → length (map (at_moment now) (take i xs) ++ drop i xs) ≡ length xs
advanced_length now zero xs = refl
advanced_length now (suc i) [] = refl
advanced_length now (suc i) (x ∷ xs) = ap suc (advanced_length now i xs)

advanced_more : (now i : ℕ) (xs : List Line) (d : Line) → i < length xs → set (map (at_moment now) (take i xs) ++ drop i xs) i (at_moment now (get_or (map (at_moment now) (take i xs) ++ drop i xs) i d)) ≡ map (at_moment now) (take (suc i) xs) ++ drop (suc i) xs
advanced_more now i [] d lt = absurd (omega (arith, lt))
advanced_more now zero (x ∷ xs) d lt = refl
advanced_more now (suc i) (x ∷ xs) d lt = ap (λ l. at_moment now x ∷ l) (advanced_more now i xs d (omega (arith, lt)))

pub advanced : (now i : ℕ) (xs ys zs : List Line) (d : Line) → i < length xs → ys ≡ map (at_moment now) (take i xs) ++ drop i xs → zs ≡ set ys i (at_moment now (get_or ys i d)) → zs ≡ map (at_moment now) (take (i + 1) xs) ++ drop (i + 1) xs
advanced now i xs ys zs d lt first second =
    let k : suc i ≡ i + 1 = omega arith in
    second ∙ (ap (λ l. set l i (at_moment now (get_or l i d))) first ∙ subst (λ n. set (map (at_moment now) (take i xs) ++ drop i xs) i (at_moment now (get_or (map (at_moment now) (take i xs) ++ drop i xs) i d)) ≡ map (at_moment now) (take n xs) ++ drop n xs) k (advanced_more now i xs d lt))

-- ---- at first

pub since_first : (s : PlanState) (line most : ℕ) → s.moment ≡ 0 → HasBase s line most → since s line ≡ 0
since_first s line most first based = by (base_of line s.bases) based
  where
    by : (o : Option (ℤ × ℤ)) → IsToldBy s.moment most o → moment_of_base o ≡ 0
    by None h = absurd h
    by (Some (pos n, v)) h = omega (arith, ints, first, h.0)
    by (Some (negsuc n, v)) h = refl

abbrev pub level_record : ℕ → ℤ → ℤ → ℕ → ℕ → ℤ → LevelStanding
level_record h a b m k v = record { spoiled = false; horizon = h; least = a; most = b; moment = m; base = k; value = v; effects = [] }

pub same_level : {h h' m k : ℕ} {a a' b b' v v' : ℤ} → h ≡ h' → a ≡ a' → b ≡ b' → 0 ≡ m → 0 ≡ k → v ≡ v' → level_record h a b 0 0 v ≡ level_record h' a' b' m k v'
same_level {h} {h'} {m} {k} {a} {a'} {b} {b'} {v} {v'} one two three four five six =
    ap (λ x. level_record x a b 0 0 v) one ∙ (ap (λ x. level_record h' x b 0 0 v) two ∙ (ap (λ x. level_record h' a' x 0 0 v) three
    ∙ (ap (λ x. level_record h' a' b' x 0 v) four ∙ (ap (λ x. level_record h' a' b' m x v) five ∙ ap (λ x. level_record h' a' b' m k x) six))))

abbrev pub state_record : ℕ → Bool → List (ℕ × ℕ) → ℕ → ℕ → ℕ → StateStanding
state_record h any steps m k v = record { spoiled = false; horizon = h; any = any; steps = steps; moment = m; base = k; value = v; sets = []; musts = [] }

pub same_state : (any : Bool) (steps : List (ℕ × ℕ)) {h h' m k v v' : ℕ} → h ≡ h' → 0 ≡ m → 0 ≡ k → v ≡ v' → state_record h any steps 0 0 v ≡ state_record h' any steps m k v'
same_state any steps {h} {h'} {m} {k} {v} {v'} one two three four =
    ap (λ x. state_record x any steps 0 0 v) one ∙ (ap (λ x. state_record h' any steps x 0 v) two ∙ (ap (λ x. state_record h' any steps m x v) three ∙ ap (λ x. state_record h' any steps m k x) four))
