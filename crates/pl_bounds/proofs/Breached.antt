-- A state that another activity needs and that a new set changes: a conflict tells it once the replacement is made.
use Rattle.std.proofs.Common.{◌≡◌, ℕ, ◌+◌, ◌<◌, ◌≤◌, List, [], ◌∷◌, ◌++◌, take, length, get_or, sym, ◌∙◌, subst, arith, inl, inr}
use Rattle.std.specs.Prelude.{◌≢◌, ◌⊎◌}
use Rattle.std.proofs.lemmas.List.{take_more}
use Rattle.pl_conflict.specs.declared.conflict.Code.TheVariants as code
use Rattle.pl_state.specs.declared.reservation.Must.{Must}
use Rattle.pl_state.specs.declared.reservation.Setting.{Setting}
use Rattle.pl_state.specs.Keys.{Has}
use Rattle.pl_semantics.specs.declared.plan_state.PlanState.{PlanState}
use Rattle.pl_semantics.specs.declared.demand.Demand.{Demand}
use Rattle.pl_semantics.specs.Demands.{asked_of, must_in, demands_of, since, state_at}
use Rattle.pl_semantics.specs.Whole.{IsWhole}
use Rattle.pl_update.specs.Changes.Replaced.{with_plan}
use Rattle.pl_update.specs.Timelines.Laws.{coming_to, gone_from}
use Rattle.pl_bounds.specs.Marks.{mark_of}
use Rattle.pl_bounds.specs.Seen.{EachSet, IsNewLast, IsNotBehind, StandsThen}
use Rattle.pl_bounds.specs.Settings.{musts_asked, sets_asked}
use Rattle.pl_bounds.specs.declared.asking.Asking.{Asking}
use Rattle.pl_bounds.proofs.Arriving.{since_now}
use Rattle.pl_bounds.proofs.Comers.{state_is_set}
use Rattle.pl_bounds.proofs.Having.{has_either, has_left, has_right}
use Rattle.pl_bounds.proofs.Needed.{must_stands}
use Rattle.pl_bounds.proofs.States.{must_stays}

pub broken_then : (s : PlanState) → IsWhole s → (a : Asking) (line : ℕ) (x : Setting) → IsNewLast s a line x → (m : Must) → Has m (musts_asked line (demands_of s)) → ((k : ℕ) → Has m (musts_asked k a.going.items) → ⊥)
    → m.from ≤ x.at → x.at < m.to → x.state ≢ m.state → StandsThen s a (mark_of code.Must m.id m.index)
broken_then s whole a line x new m needed stays from to other gone more exchange =
    let t : PlanState = with_plan gone more s in
    let comes : Has x (sets_asked line (coming_to t more)) = subst (λ (ds : List Demand). Has x (sets_asked line ds)) exchange.comes new.comes in
    let last : EachSet line (IsNotBehind x) (coming_to t more) = subst (λ (ds : List Demand). EachSet line (IsNotBehind x) ds) exchange.comes new.last in
    let left : Has m (musts_asked line (gone_from s gone)) → ⊥ = λ has. stays line (subst (λ (ds : List Demand). Has m (musts_asked line ds)) (sym exchange.goes) has) in
    let there : Has m (musts_asked line (demands_of t)) = must_stays s gone more whole exchange.can exchange.once line m left needed in
    let told : since s line ≤ s.moment = since_now s whole line new.states in
    let later : s.moment < x.at = new.later in
    let is : state_at t line x.at ≡ x.state = state_is_set s gone more whole exchange.can exchange.once line x comes new.newest last (omega (arith, told, later)) in
    must_stands t line m x.at new.states there from to (omega (arith, later)) new.horizon (λ e. other (sym is ∙ e))

-- none so far, and none of the next
pub none_more : (m : Must) (ds : List Demand) (i : ℕ) (d : Demand) → i < length ds → ((line : ℕ) → Has m (musts_asked line (take i ds)) → ⊥) → ((line : ℕ) → Has m (musts_asked line (get_or ds i d ∷ [])) → ⊥) → (line : ℕ) → Has m (musts_asked line (take (i + 1) ds)) → ⊥
none_more m ds i d lt before one line has = elim (split (take i ds) (subst (λ (l : List Demand). Has m (musts_asked line l)) (take_more ds i d lt) has)) [ inl more ↦ before line more | inr last ↦ one line last ]
  where
    split : (xs : List Demand) → Has m (musts_asked line (xs ++ get_or ds i d ∷ [])) → Has m (musts_asked line xs) ⊎ Has m (musts_asked line (get_or ds i d ∷ []))
    split [] h = inr h
    split (y ∷ xs) h = elim (has_either m (asked_of must_in line y) (musts_asked line (xs ++ get_or ds i d ∷ [])) h) [
      | inl here ↦ inl (has_left m (asked_of must_in line y) (musts_asked line xs) here)
      | inr more ↦ elim (split xs more) [ inl there ↦ inl (has_right m (asked_of must_in line y) (musts_asked line xs) there) | inr last ↦ inr last ]
    ]
