-- The moves that are tried, as they are listed: by ids, by starts and values from 0 on, and by parameters.
use Rattle.std.proofs.Common.{◌≡◌, ℕ, List, map, sym, ap, ◌∙◌, ℤ, pos}
use Rattle.std.specs.Prelude.{All, Some}
use Rattle.std.specs.List.{flat_map}
use Rattle.std.proofs.lemmas.List.Folds.{flat_map-map}
use Rattle.std.proofs.lemmas.List.Elements.{All-take, All-filter}
use Rattle.pl_plan.specs.declared.activity.Activity.{Activity}
use Rattle.pl_plan.specs.Trees.{id_of}
use Rattle.pl_plan.proofs.Kept.{each_found}
use Rattle.pl_semantics.specs.declared.plan_state.PlanState.{PlanState}
use Rattle.pl_semantics.specs.PlanStates.{found, of_found}
use Rattle.pl_semantics.specs.Starts.{starting, shift_to, places_of, places_at}
use Rattle.pl_semantics.specs.Whole.{IsWhole}
use Rattle.pl_cand.proofs.Playing.{by_ids}
use Rattle.pl_prefs.specs.Betters.{movable, changes_of, changes_in}

-- ---- starts

pub shifts_listed : (s : PlanState) (id : ℕ) (starts : List ℕ) (places : List ℤ) → map pos starts ≡ places → flat_map (λ start. starting s (shift_to id) (pos start)) starts ≡ flat_map (starting s (shift_to id)) places
shifts_listed s id starts places is = sym (flat_map-map (starting s (shift_to id)) pos starts) ∙ ap (flat_map (starting s (shift_to id))) is

pub places_found : (s : PlanState) (a : Activity) (starts : List ℕ) → found s a.id ≡ Some a → map pos starts ≡ places_at s a.id → map pos starts ≡ places_of s a
places_found s a starts here are = are ∙ ap (of_found (places_of s)) here

-- ---- activities

pub movable_live : (s : PlanState) → IsWhole s → All (λ x. found s x.id ≡ Some x) (movable s)
movable_live s whole = All-take (λ x. found s x.id ≡ Some x) 256 _ (All-filter _ (λ x. found s x.id ≡ Some x) s.plan.activities (each_found s.plan.activities whole.rising))

pub changes_listed : (s : PlanState) → IsWhole s → (ids : List ℕ) → ids ≡ map id_of (movable s) → flat_map (λ id. of_found (changes_of s) (found s id)) ids ≡ changes_in s
unfolding changes_in
changes_listed s whole ids are =
    ap (flat_map (λ id. of_found (changes_of s) (found s id))) are
    ∙ by_ids s (changes_of s) (movable s) (movable_live s whole)
