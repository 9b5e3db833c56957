-- What holds of each set that the first ones of some demands ask for holds with the next one.
use Rattle.std.proofs.Common.{ℕ, ◌+◌, ◌<◌, ◌≤◌, List, [], ◌∷◌, ◌++◌, take, length, get_or, sym, subst, inl, inr}
use Rattle.std.specs.Prelude.{◌≢◌}
use Rattle.std.specs.List.{flat_map}
use Rattle.std.proofs.lemmas.List.{take_more}
use Rattle.pl_state.specs.declared.reservation.Setting.{Setting}
use Rattle.pl_state.specs.Keys.{Has}
use Rattle.pl_semantics.specs.declared.plan_state.PlanState.{PlanState}
use Rattle.pl_semantics.specs.declared.demand.Demand.{Demand}
use Rattle.pl_semantics.specs.Demands.{asked_of, set_in, state_at}
use Rattle.pl_bounds.specs.Seen.{EachSet}
use Rattle.pl_bounds.specs.Settings.{HangsOnNone}
use Rattle.pl_bounds.proofs.Having.{has_either, has_left, has_right}

each_push : {S T : Type 0} (P : T → Type 0) (rule : S → List T) (xs : List S) (x : S) → ((z : T) → Has z (flat_map rule xs) → P z) → ((z : T) → Has z (flat_map rule (x ∷ [])) → P z) → (z : T) → Has z (flat_map rule (xs ++ x ∷ [])) → P z
each_push {S} {T} P rule [] x each one z has = one z has
each_push {S} {T} P rule (y ∷ xs) x each one z has = elim (has_either z (rule y) (flat_map rule (xs ++ x ∷ [])) has) [
  | inl here ↦ each z (has_left z (rule y) (flat_map rule xs) here)
  | inr more ↦ each_push P rule xs x (λ w there. each w (has_right w (rule y) (flat_map rule xs) there)) one z more
]

pub each_more : (line : ℕ) (P : Setting → Type 0) (ds : List Demand) (i : ℕ) (d : Demand) → i < length ds → EachSet line P (take i ds) → EachSet line P (get_or ds i d ∷ []) → EachSet line P (take (i + 1) ds)
each_more line P ds i d lt before one =
    subst (λ (l : List Demand). EachSet line P l) (sym (take_more ds i d lt)) (each_push P (asked_of set_in line) (take i ds) (get_or ds i d) before one)

pub hangs_more : (s : PlanState) (line t : ℕ) (ds : List Demand) (i : ℕ) (d : Demand) → i < length ds → HangsOnNone s line t (take i ds) → HangsOnNone s line t (get_or ds i d ∷ []) → HangsOnNone s line t (take (i + 1) ds)
hangs_more s line t ds i d lt before one = each_more line (λ (z : Setting). z.at ≤ t → state_at s line z.at ≢ state_at s line t) ds i d lt before one
