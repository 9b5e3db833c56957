-- What a timeline is seen to come to, less what goes and more what comes, is what it comes to; so it is past its limit as often.
use Rattle.std.proofs.Common.{◌≡◌, ℕ, zero, suc, ◌-◌, Bool, List, [], ◌∷◌, refl, ap, ◌∙◌, ◌+ℤ◌, arith}
use Rattle.std.specs.Prelude.{◌-ℤ◌, All}
use Rattle.std.proofs.lemmas.Int.{ints}
use Rattle.std.proofs.lemmas.List.Elements.{All-head, All-tail}
use Rattle.pl_points.specs.Sums.{total}
use Rattle.pl_points.specs.Spans.{spans_of}
use Rattle.pl_capacity.specs.Uses.{taken_at}
use Rattle.pl_level.specs.Effects.{counted}
use Rattle.pl_plan.specs.declared.activity.Activity.{Activity}
use Rattle.pl_semantics.specs.declared.plan_state.PlanState.{PlanState}
use Rattle.pl_semantics.specs.Demands.{since, uses_of, effects_of}
use Rattle.pl_semantics.specs.Timelines.{spans_ahead}
use Rattle.pl_semantics.specs.Whole.{IsWhole}
use Rattle.pl_update.specs.Changes.Replaced.{with_plan, CanReplace}
use Rattle.pl_update.specs.Timelines.Laws.{AreOnce, gone_from, coming_to}
use Rattle.pl_bounds.specs.Afterwards.{coming_at, is_past_with, times_with}
use Rattle.pl_bounds.specs.Asked.{IsAskedBy}
use Rattle.pl_bounds.specs.Pulls.{taken_by, pulled_by}
use Rattle.pl_bounds.specs.Sides.{value_at, is_past, spans_past, times_past, IsOutsideOf}
use Rattle.pl_bounds.specs.declared.asking.Asking.{Asking}
use Rattle.pl_bounds.specs.declared.outside.Side.{Side}
use Rattle.pl_bounds.specs.declared.outside.Side.TheVariants.{Over, Low, High}
use Rattle.pl_bounds.specs.declared.outside.Outside.{Outside}
use Rattle.pl_bounds.proofs.After.{use_after, level_after}
use Rattle.pl_bounds.proofs.Pulled.{on, over_all, low_all, high_all}

pub same_spans : (P Q : ℕ → Bool) → ((t : ℕ) → P t ≡ Q t) → (n a : ℕ) → spans_of P a n ≡ spans_of Q a n
same_spans P Q same zero a = refl
same_spans P Q same (suc n) a = rw (same a, same_spans P Q same n (suc a)) refl

module _ (s : PlanState) (gone : List ℕ) (more : List Activity) (whole : IsWhole s) (can : CanReplace s gone more) (once : AreOnce gone) (a : Asking) (start : ℕ) (asked : IsAskedBy s gone more a start) where
  over_after : (base line t : ℕ) → ((value_at s Over line t -ℤ total (on Over base line t) a.going.items) +ℤ total (on Over base line t) (coming_at a start)) ≡ value_at (with_plan gone more s) Over line t
  over_after base line t =
      let going : total (on Over base line t) a.going.items ≡ taken_by line t (gone_from s gone) = over_all base line t a.going.items ∙ ap (total (taken_at t)) (ap (uses_of line) asked.going) in
      let coming : total (on Over base line t) (coming_at a start) ≡ taken_by line t (coming_to (with_plan gone more s) more) = over_all base line t (coming_at a start) ∙ ap (total (taken_at t)) (ap (uses_of line) asked.coming) in
      let after = use_after s gone more whole can once line t in
      omega (arith, ints, going, coming, after)

  low_after : (base line t : ℕ) → base ≡ since s line → ((value_at s Low line t -ℤ total (on Low base line t) a.going.items) +ℤ total (on Low base line t) (coming_at a start)) ≡ value_at (with_plan gone more s) Low line t
  low_after base line t is =
      let going : total (on Low base line t) a.going.items ≡ pulled_by s line t (gone_from s gone) = low_all base line t a.going.items ∙ (ap (total (counted base t)) (ap (effects_of line) asked.going) ∙ ap (λ (b : ℕ). total (counted b t) (effects_of line (gone_from s gone))) is) in
      let coming : total (on Low base line t) (coming_at a start) ≡ pulled_by s line t (coming_to (with_plan gone more s) more) = low_all base line t (coming_at a start) ∙ (ap (total (counted base t)) (ap (effects_of line) asked.coming) ∙ ap (λ (b : ℕ). total (counted b t) (effects_of line (coming_to (with_plan gone more s) more))) is) in
      let after = level_after s gone more whole can once line t in
      omega (arith, ints, going, coming, after)

  high_after : (base line t : ℕ) → base ≡ since s line → ((value_at s High line t -ℤ total (on High base line t) a.going.items) +ℤ total (on High base line t) (coming_at a start)) ≡ value_at (with_plan gone more s) High line t
  high_after base line t is =
      let going : total (on High base line t) a.going.items ≡ pulled_by s line t (gone_from s gone) = high_all base line t a.going.items ∙ (ap (total (counted base t)) (ap (effects_of line) asked.going) ∙ ap (λ (b : ℕ). total (counted b t) (effects_of line (gone_from s gone))) is) in
      let coming : total (on High base line t) (coming_at a start) ≡ pulled_by s line t (coming_to (with_plan gone more s) more) = high_all base line t (coming_at a start) ∙ (ap (total (counted base t)) (ap (effects_of line) asked.coming) ∙ ap (λ (b : ℕ). total (counted b t) (effects_of line (coming_to (with_plan gone more s) more))) is) in
      let after = level_after s gone more whole can once line t in
      omega (arith, ints, going, coming, after)

  value_after : (side : Side) (base line t : ℕ) → base ≡ since s line → ((value_at s side line t -ℤ total (on side base line t) a.going.items) +ℤ total (on side base line t) (coming_at a start)) ≡ value_at (with_plan gone more s) side line t
  value_after Over base line t is = over_after base line t
  value_after Low base line t is = low_after base line t is
  value_after High base line t is = high_after base line t is

  past_same : (o : Outside) → IsOutsideOf s o → (t : ℕ) → is_past_with s o a.going.items (coming_at a start) t ≡ is_past o.side o.limit (value_at (with_plan gone more s) o.side o.line t)
  past_same o of t = ap (is_past o.side o.limit) (value_after o.side o.since o.line t of.since)

  spans_same : (o : Outside) → IsOutsideOf s o → spans_ahead s (is_past_with s o a.going.items (coming_at a start)) ≡ spans_past (with_plan gone more s) o
  spans_same o of = same_spans (is_past_with s o a.going.items (coming_at a start)) (λ t. is_past o.side o.limit (value_at (with_plan gone more s) o.side o.line t)) (past_same o of) (s.model.horizon - s.moment) s.moment

  pub times_same : (os : List Outside) → All (IsOutsideOf s) os → times_with s a start os ≡ times_past (with_plan gone more s) os
  times_same [] all = refl
  times_same (o ∷ os) all = rw (spans_same o (All-head (IsOutsideOf s) o os all), times_same os (All-tail (IsOutsideOf s) o os all)) refl
