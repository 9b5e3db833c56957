-- A conflict of timelines stands exactly where the timeline that it is about says so.
use Rattle.std.proofs.Common.{◌≡◌, ℕ, zero, suc, ◌+◌, ◌<◌, eqb, Bool, true, false, List, [], ◌∷◌, refl, sym, ap, ◌∙◌, arith}
use Rattle.std.specs.Prelude.{◌||◌, find, slice_get, Option, Some, None}
use Rattle.std.specs.Option.{option_map}
use Rattle.std.specs.List.{list_any, flat_map}
use Rattle.std.proofs.lemmas.Bool.{eq-eqb, ne_eqb}
use Rattle.std.proofs.lemmas.Option.{same_Some}
use Rattle.pl_conflict.specs.declared.conflict.Conflict.{Conflict}
use Rattle.pl_conflict.specs.declared.conflict.Code.TheVariants as code
use Rattle.pl_conflict.specs.Order.{has}
use Rattle.pl_conflict.proofs.Sorting.{has-append}
use Rattle.pl_model.specs.declared.timelines.Timeline.{Timeline}
use Rattle.pl_model.specs.declared.timelines.Timeline.TheVariants.{Capacity, Level, States}
use Rattle.pl_plan.specs.Activities.{AreRising}
use Rattle.pl_state.specs.Sets.{is_allowed, bad_from}
use Rattle.pl_state.specs.Musts.{broken_all}
use Rattle.pl_semantics.specs.declared.plan_state.PlanState.{PlanState}
use Rattle.pl_semantics.specs.PlanStates.{numbered, natural, of_found}
use Rattle.pl_semantics.specs.Demands.{demands_of, state_at, sets_of, musts_of, since, told}
use Rattle.pl_semantics.specs.Timelines.{outside, lows, highs, unmet_must, musts, bad_step, bad_steps, line_conflicts, line_conflicts_of, lines_of, timeline_conflicts}
use Rattle.pl_semantics.specs.Owners.{owner_of}
use Rattle.pl_semantics.proofs.Owning.{Each, each_append, each_map, each_made}
use Rattle.pl_semantics.proofs.Keys.{Apart, by_key}
use Rattle.pl_semantics.proofs.Naming.{sets_named, musts_named, all_broken, all_bad}

abbrev IsAbout : PlanState → ℕ → Conflict → Type 0
IsAbout s line q = owner_of s q ≡ Some line

about : (s : PlanState) → AreRising s.plan.activities → (line : ℕ) (t : Timeline) → Each (IsAbout s line) (line_conflicts s (line, t))
unfolding line_conflicts
about s rising line (Capacity name most) = each_map (IsAbout s line) (outside code.Over line) _ (λ p. refl)
about s rising line (Level name least most start) = each_append (IsAbout s line) (lows s line least) (highs s line most) (each_map (IsAbout s line) (outside code.Low line) _ (λ p. refl)) (each_map (IsAbout s line) (outside code.High line) _ (λ p. refl))
about s rising line (States name states start any steps) = each_append (IsAbout s line) (musts s line) (bad_steps s line any steps)
    (each_made (IsAbout s line) (unmet_must s) (broken_all (state_at s line) s.moment s.model.horizon (musts_of line (demands_of s))) (all_broken s line (state_at s line) s.moment s.model.horizon (musts_of line (demands_of s)) (musts_named s line rising)))
    (each_made (IsAbout s line) (bad_step s) (bad_from (is_allowed any steps) (since s line) s.model.horizon s.moment (natural (told s line)) (sets_of line (demands_of s))) (all_bad s line (is_allowed any steps) (since s line) s.model.horizon s.moment (natural (told s line)) (sets_of line (demands_of s)) (sets_named s line rising)))

-- ---- numbered lists

no_number : {T : Type 0} (n c : ℕ) (xs : List T) → n < c → list_any (λ y. eqb y.0 n) (numbered c xs) ≡ false
no_number n c [] lt = refl
no_number n c (x ∷ xs) lt = rw (ne_eqb c n (λ e. omega (arith, lt, e))) (no_number n (suc c) xs (omega (arith, lt)))

numbers_apart : {T : Type 0} (c : ℕ) (xs : List T) → Apart (λ (y : ℕ × T). y.0) (numbered c xs)
numbers_apart c [] = tt
numbers_apart c (x ∷ xs) = (no_number c (suc c) xs (omega arith), numbers_apart (suc c) xs)

find_number : {T : Type 0} (c i n : ℕ) (xs : List T) → n ≡ c + i → find (λ (y : ℕ × T). eqb y.0 n) (numbered c xs) ≡ option_map (λ x. (n, x)) (slice_get xs i)
find_number c i n [] e = refl
find_number c zero n (x ∷ xs) e =
    let same : c ≡ n = omega (arith, e) in
    rw (eq-eqb c n same) (ap (λ m. Some (m, x)) same)
find_number c (suc i) n (x ∷ xs) e = rw (ne_eqb c n (λ same. omega (arith, e, same))) (find_number (suc c) i n xs (omega (arith, e)))

found_made : (s : PlanState) (n : ℕ) (o : Option Timeline) → of_found (line_conflicts s) (option_map (λ t. (n, t)) o) ≡ of_found (λ t. line_conflicts s (n, t)) o
found_made s n None = refl
found_made s n (Some t) = refl

-- ---- by the timeline

nowhere : (s : PlanState) (q : Conflict) → AreRising s.plan.activities → owner_of s q ≡ None → (xs : List (ℕ × Timeline)) → has q (flat_map (line_conflicts s) xs) ≡ false
nowhere s q rising none [] = refl
nowhere s q rising none (x ∷ xs) = has-append (line_conflicts s x) (flat_map (line_conflicts s) xs) q ∙ by (has q (line_conflicts s x)) refl (nowhere s q rising none xs)
  where
    by : (b : Bool) → has q (line_conflicts s x) ≡ b → has q (flat_map (line_conflicts s) xs) ≡ false → (has q (line_conflicts s x) || has q (flat_map (line_conflicts s) xs)) ≡ false
    by true e rest = let is : owner_of s q ≡ Some x.0 = about s rising x.0 x.1 q e in absurd (cc)
    by false e rest = rw (e, rest) refl

pub by_line : (s : PlanState) → AreRising s.plan.activities → (q : Conflict) → has q (timeline_conflicts s) ≡ has q (of_found (line_conflicts_of s) (owner_of s q))
by_line s rising q = by (owner_of s q) refl
  where
    by : (o : Option ℕ) → owner_of s q ≡ o → has q (timeline_conflicts s) ≡ has q (of_found (line_conflicts_of s) o)
    by None e = nowhere s q rising e (lines_of s)
    by (Some n) e =
        by_key (λ (y : ℕ × Timeline). y.0) (line_conflicts s) q n (λ y h. same_Some n y.0 (sym e ∙ about s rising y.0 y.1 q h)) (lines_of s) (numbers_apart 0 s.model.timelines)
        ∙ ap (λ o. has q (of_found (line_conflicts s) o)) (find_number 0 n n s.model.timelines (omega arith))
        ∙ ap (λ ks. has q ks) (found_made s n (slice_get s.model.timelines n))
