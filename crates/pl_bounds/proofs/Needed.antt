-- A state that is needed where the timeline has another: a conflict tells it.
use Rattle.std.proofs.Common.{◌≡◌, ℕ, zero, suc, ◌+◌, ◌-◌, ◌<◌, ◌≤◌, eqb, Bool, true, false, ◌&&◌, not, List, [], ◌∷◌, map, refl, sym, ap, ◌∙◌, subst, arith, inl, inr}
use Rattle.std.specs.Prelude.{◌||◌, ◌≢◌, slice_get, Option, Some, max, min}
use Rattle.std.specs.List.{flat_map}
use Rattle.std.proofs.lemmas.Bool.{eqb-true}
use Rattle.std.proofs.Math.Bool.{or-true}
use Rattle.pl_points.specs.declared.span.Span.{Span}
use Rattle.pl_points.specs.Spans.{covers, spans_of}
use Rattle.pl_points.proofs.Maximal.{maximal_spans}
use Rattle.pl_points.proofs.Cuts.{within_yes}
use Rattle.pl_model.specs.declared.timelines.Timeline.{Timeline}
use Rattle.pl_model.specs.declared.timelines.Timeline.TheVariants.{States}
use Rattle.pl_conflict.specs.declared.conflict.Conflict.{Conflict}
use Rattle.pl_conflict.specs.declared.conflict.Code.TheVariants as code
use Rattle.pl_conflict.specs.Order.{has}
use Rattle.pl_conflict.proofs.Sorting.{same, has-append, same_itself}
use Rattle.pl_detect.specs.Based.{IsStateLine}
use Rattle.pl_state.specs.declared.reservation.Must.{Must}
use Rattle.pl_state.specs.declared.answer.BrokenMust.{BrokenMust}
use Rattle.pl_state.specs.Keys.{Has}
use Rattle.pl_state.specs.Musts.{broken_in, broken_spans, broken_one, broken_all}
use Rattle.pl_semantics.specs.declared.plan_state.PlanState.{PlanState}
use Rattle.pl_semantics.specs.PlanStates.{numbered}
use Rattle.pl_semantics.specs.Demands.{demands_of, musts_of, state_at}
use Rattle.pl_semantics.specs.Goals.{goal_conflicts}
use Rattle.pl_semantics.specs.Activities.{activity_conflicts}
use Rattle.pl_semantics.specs.Links.{link_conflicts}
use Rattle.pl_semantics.specs.Timelines.{unmet_must, musts, bad_steps, line_conflicts, timeline_conflicts}
use Rattle.pl_semantics.specs.Conflicts.{conflicts_of}
use Rattle.pl_semantics.proofs.Standing.{members}
use Rattle.pl_bounds.specs.Settings.{musts_asked}
use Rattle.pl_bounds.specs.Marks.{mark_of, Stands}
use Rattle.pl_bounds.proofs.Having.{has_left, has_right}
use Rattle.pl_bounds.proofs.States.{asked_must}

-- ---- a span has the moment

covering : (spans : List Span) (p : ℕ) → covers spans p ≡ true → (one : Span) × Has one spans
covering [] p e = absurd (cc)
covering (s ∷ more) p e = (s, inl refl)

module _ (state : ℕ → ℕ) (moment horizon : ℕ) where
  broken_has : (m : Must) (one : Span) (spans : List Span) → Has one spans → Has (broken_in m one) (broken_spans m spans)
  broken_has m one [] has = absurd has
  broken_has m one (s ∷ more) has = elim has [ inl e ↦ inl (ap (broken_in m) e) | inr rest ↦ inr (broken_has m one more rest) ]

  all_has : (b : BrokenMust) (m : Must) (ms : List Must) → Has m ms → Has b (broken_one state moment horizon m) → Has b (broken_all state moment horizon ms)
  all_has b m [] has here = absurd has
  all_has b m (k ∷ ms) has here = elim has [
    | inl e ↦ has_left b (broken_one state moment horizon k) (broken_all state moment horizon ms) (subst (λ (n : Must). Has b (broken_one state moment horizon n)) (sym e) here)
    | inr more ↦ has_right b (broken_one state moment horizon k) (broken_all state moment horizon ms) (all_has b m ms more here)
  ]

  is_broken : (m : Must) (p : ℕ) → m.from ≤ p → p < m.to → moment ≤ p → p < horizon → state p ≢ m.state → (b : BrokenMust) × Has b (broken_one state moment horizon m) × (b.id ≡ m.id) × (b.index ≡ m.index)
  is_broken m p from to now upto other =
      let P : ℕ → Bool = λ t. not (eqb (state t) m.state) in
      let a : ℕ = max m.from moment in
      let n : ℕ = min m.to horizon - a in
      let low : a ≤ p = omega (arith, from, now) in
      let high : p < a + n = omega (arith, low, to, upto) in
      let holds : P p ≡ true = differs (eqb (state p) m.state) (λ e. other (eqb-true (state p) m.state e)) in
      let there : covers (spans_of P a n) p ≡ true = (maximal_spans P a n).exact p ∙ (ap (λ b. b && P p) (within_yes a (a + n) p low high) ∙ holds) in
      let one = covering (spans_of P a n) p there in
      (broken_in m one.0, broken_has m one.0 (spans_of P a n) one.1, refl, refl)
    where
      differs : (b : Bool) → (b ≡ true → ⊥) → not b ≡ true
      differs true none = absurd (none refl)
      differs false none = refl

-- ---- it stands

pub made_has : {X : Type 0} (make : X → Conflict) (x : X) (xs : List X) → Has x xs → has (make x) (map make xs) ≡ true
made_has make x [] has = absurd has
made_has make x (y ∷ xs) there = elim there [
  | inl e ↦ ap (λ z. has (make x) (make z ∷ map make xs)) e ∙ ap (λ b. b || has (make x) (map make xs)) (same_itself (make x))
  | inr more ↦ (let rest = made_has make x xs more in ap (λ b. same (make x) (make y) || b) rest ∙ or-true (same (make x) (make y)))
]

in_lines : (s : PlanState) (q : Conflict) (n i : ℕ) (ts : List Timeline) (t : Timeline) → slice_get ts i ≡ Some t → has q (line_conflicts s (n + i, t)) ≡ true → has q (flat_map (line_conflicts s) (numbered n ts)) ≡ true
in_lines s q n i [] t e h = absurd (cc)
in_lines s q n zero (x ∷ ts) t e h =
    let is : x ≡ t = cc in
    let none : n + 0 ≡ n = omega arith in
    has-append (line_conflicts s (n, x)) (flat_map (line_conflicts s) (numbered (suc n) ts)) q
    ∙ ap (λ b. b || has q (flat_map (line_conflicts s) (numbered (suc n) ts))) (ap (λ y. has q (line_conflicts s (n, y))) is ∙ (ap (λ k. has q (line_conflicts s (k, t))) (sym none) ∙ h))
in_lines s q n (suc i) (x ∷ ts) t e h =
    let next : n + suc i ≡ suc n + i = omega arith in
    let rest : has q (flat_map (line_conflicts s) (numbered (suc n) ts)) ≡ true = in_lines s q (suc n) i ts t e (ap (λ k. has q (line_conflicts s (k, t))) (sym next) ∙ h) in
    has-append (line_conflicts s (n, x)) (flat_map (line_conflicts s) (numbered (suc n) ts)) q ∙ (ap (λ b. has q (line_conflicts s (n, x)) || b) rest ∙ or-true (has q (line_conflicts s (n, x))))

module _ (s : PlanState) (line : ℕ) where
  pub of_line : (q : Conflict) (t : Timeline) → slice_get s.model.timelines line ≡ Some t → has q (line_conflicts s (line, t)) ≡ true → has q (timeline_conflicts s) ≡ true
  of_line q t there h =
      let first : line ≡ 0 + line = omega arith in
      in_lines s q 0 line s.model.timelines t there (subst (λ (n : ℕ). has q (line_conflicts s (n, t)) ≡ true) first h)

  of_states : (q : Conflict) (o : Option Timeline) → slice_get s.model.timelines line ≡ o → IsStateLine o → has q (musts s line) ≡ true → has q (timeline_conflicts s) ≡ true
  unfolding line_conflicts
  of_states q (Some (States name states start any steps)) there is h =
      of_line q (States name states start any steps) there (has-append (musts s line) (bad_steps s line any steps) q ∙ ap (λ b. b || has q (bad_steps s line any steps)) h)
  of_states q _ there is h = absurd (is)

  pub stands_all : (q : Conflict) → has q (timeline_conflicts s) ≡ true → has q (conflicts_of s) ≡ true
  stands_all q there =
      members s q ∙ (ap (λ v. has q (goal_conflicts s) || (has q (activity_conflicts s) || (has q (link_conflicts s) || v))) there
      ∙ rw (or-true (has q (link_conflicts s)), or-true (has q (activity_conflicts s)), or-true (has q (goal_conflicts s))) refl)

  -- it tells that this must is not met
  pub must_stands : (m : Must) (p : ℕ) → IsStateLine (slice_get s.model.timelines line) → Has m (musts_asked line (demands_of s)) → m.from ≤ p → p < m.to → s.moment ≤ p → p < s.model.horizon → state_at s line p ≢ m.state
      → Stands s (mark_of code.Must m.id m.index)
  must_stands m p is needed from to now upto other =
      let one = is_broken (state_at s line) s.moment s.model.horizon m p from to now upto other in
      let b : BrokenMust = one.0 in
      let q : Conflict = unmet_must s b in
      let told : has q (musts s line) ≡ true = made_has (unmet_must s) b (broken_all (state_at s line) s.moment s.model.horizon (musts_of line (demands_of s))) (all_has (state_at s line) s.moment s.model.horizon b m (musts_of line (demands_of s)) (asked_must line (demands_of s) m needed) one.1) in
      let there : has q (timeline_conflicts s) ≡ true = of_states q (slice_get s.model.timelines line) refl is told in
      let stands : has q (conflicts_of s) ≡ true = stands_all q there in
      record { q = q; there = stands; states = refl; is = ap (λ (n : ℕ). mark_of code.Must n b.index) one.2 ∙ ap (λ (n : ℕ). mark_of code.Must m.id n) one.3 }
