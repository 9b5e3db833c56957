-- Of a replacement: which sets and musts stay, and where the state stays.
use Rattle.std.proofs.Common.{◌≡◌, ◌≤◌, ℕ, List, arith, inl, inr, ℤ, ◌+ℤ◌, []}
use Rattle.std.specs.Prelude.{◌⊎◌, ◌≢◌}
use Rattle.std.proofs.lemmas.Int.{ints}
use Rattle.pl_points.specs.Sums.{total}
use Rattle.pl_plan.specs.declared.activity.Activity.{Activity}
use Rattle.pl_plan.specs.Activities.{AreRising}
use Rattle.pl_state.specs.declared.reservation.Setting.{Setting}
use Rattle.pl_state.specs.declared.reservation.Must.{Must}
use Rattle.pl_state.specs.Keys.{Has}
use Rattle.pl_state.specs.Sets.{same_setting, set_before, with_set}
use Rattle.pl_state.specs.Musts.{same_must, must_before, with_must}
use Rattle.pl_state.specs.Sorted.{AreDistinct}
use Rattle.pl_state.specs.Sets.{set_key}
use Rattle.pl_state.proofs.Indexing.{exact_must}
use Rattle.pl_semantics.specs.declared.plan_state.PlanState.{PlanState}
use Rattle.pl_semantics.specs.declared.demand.Demand.{Demand}
use Rattle.pl_semantics.specs.PlanStates.{natural}
use Rattle.pl_semantics.specs.Whole.{IsWhole}
use Rattle.pl_semantics.specs.Demands.{demands_of, sets_of, musts_of, set_in, must_in, since, told, state_at}
use Rattle.pl_update.specs.Changes.Replaced.{with_plan, CanReplace}
use Rattle.pl_update.specs.Timelines.Laws.{AreOnce, gone_from, coming_to}
use Rattle.pl_update.proofs.AboutTimelines.Listing.{total_put, total_fold}
use Rattle.pl_update.proofs.AboutTimelines.Standing.{by_item, asked_items}
use Rattle.pl_update.proofs.AboutTimelines.StandingApart.{distinct_counted, once_set, sets_sorted}
use Rattle.pl_update.proofs.AboutTimelines.StandingEqual.{set_exact, set_itself, must_itself}
use Rattle.pl_update.proofs.AboutTimelines.Replacing.{staying, asked_before, asked_after, whole_after}
use Rattle.pl_bounds.specs.Settings.{sets_asked, musts_asked, HangsOnNone}
use Rattle.pl_bounds.proofs.Governing.{HasBehind, state_same, state_same_behind}
use Rattle.pl_bounds.proofs.Having.{like, counted, there, one_of_both, of_left, of_right}

-- ---- put in order they are the same

sets_total : (line : ℕ) (ds : List Demand) (g : Setting → ℤ) → total g (sets_of line ds) ≡ total g (sets_asked line ds)
sets_total line ds g = omega (arith, ints, total_fold g (λ sorted y. with_set y sorted) (λ ys y. total_put g (set_before y) y ys) (sets_asked line ds) [])

musts_total : (line : ℕ) (ds : List Demand) (g : Must → ℤ) → total g (musts_of line ds) ≡ total g (musts_asked line ds)
musts_total line ds g = omega (arith, ints, total_fold g (λ sorted m. with_must m sorted) (λ ys m. total_put g (must_before m) m ys) (musts_asked line ds) [])

pub set_asked : (line : ℕ) (ds : List Demand) (x : Setting) → Has x (sets_of line ds) → Has x (sets_asked line ds)
set_asked line ds x has = there same_setting set_exact set_itself x (sets_asked line ds) (omega (arith, ints, counted same_setting set_exact set_itself x (sets_of line ds) has, sets_total line ds (like same_setting set_exact set_itself x)))

pub asked_set : (line : ℕ) (ds : List Demand) (x : Setting) → Has x (sets_asked line ds) → Has x (sets_of line ds)
asked_set line ds x has = there same_setting set_exact set_itself x (sets_of line ds) (omega (arith, ints, counted same_setting set_exact set_itself x (sets_asked line ds) has, sets_total line ds (like same_setting set_exact set_itself x)))

pub asked_must : (line : ℕ) (ds : List Demand) (m : Must) → Has m (musts_asked line ds) → Has m (musts_of line ds)
asked_must line ds m has = there same_must exact_must must_itself m (musts_of line ds) (omega (arith, ints, counted same_must exact_must must_itself m (musts_asked line ds) has, musts_total line ds (like same_must exact_must must_itself m)))

pub must_asked : (line : ℕ) (ds : List Demand) (m : Must) → Has m (musts_of line ds) → Has m (musts_asked line ds)
must_asked line ds m has = there same_must exact_must must_itself m (musts_asked line ds) (omega (arith, ints, counted same_must exact_must must_itself m (musts_of line ds) has, musts_total line ds (like same_must exact_must must_itself m)))

pub distinct_sets : (s : PlanState) → AreRising s.plan.activities → (line : ℕ) → AreDistinct set_key (sets_of line (demands_of s))
distinct_sets s rising line = distinct_counted (λ (x : Setting). x.at) (λ x. x.id) (λ x. x.index) (sets_of line (demands_of s)) (once_set s line rising)

-- ---- a replacement

module _ (s : PlanState) (gone : List ℕ) (more : List Activity) (whole : IsWhole s) (can : CanReplace s gone more) (once : AreOnce gone) (line : ℕ) where
  abbrev t : PlanState
  t = with_plan gone more s

  pub sets_before : (g : Setting → ℤ) → total g (sets_asked line (demands_of s)) ≡ (total g (sets_asked line (staying s gone)) +ℤ total g (sets_asked line (gone_from s gone)))
  sets_before g = omega (
    arith,
    ints,
    asked_before s gone more whole can once line (by_item set_in g),
    asked_items set_in g line (demands_of s),
    asked_items set_in g line (staying s gone),
    asked_items set_in g line (gone_from s gone),
  )

  pub sets_after : (g : Setting → ℤ) → total g (sets_asked line (demands_of t)) ≡ (total g (sets_asked line (staying s gone)) +ℤ total g (sets_asked line (coming_to t more)))
  sets_after g = omega (
    arith,
    ints,
    asked_after s gone more whole can line (by_item set_in g),
    asked_items set_in g line (demands_of t),
    asked_items set_in g line (staying s gone),
    asked_items set_in g line (coming_to t more),
  )

  musts_before : (g : Must → ℤ) → total g (musts_asked line (demands_of s)) ≡ (total g (musts_asked line (staying s gone)) +ℤ total g (musts_asked line (gone_from s gone)))
  musts_before g = omega (
    arith,
    ints,
    asked_before s gone more whole can once line (by_item must_in g),
    asked_items must_in g line (demands_of s),
    asked_items must_in g line (staying s gone),
    asked_items must_in g line (gone_from s gone),
  )

  musts_after : (g : Must → ℤ) → total g (musts_asked line (demands_of t)) ≡ (total g (musts_asked line (staying s gone)) +ℤ total g (musts_asked line (coming_to t more)))
  musts_after g = omega (
    arith,
    ints,
    asked_after s gone more whole can line (by_item must_in g),
    asked_items must_in g line (demands_of t),
    asked_items must_in g line (staying s gone),
    asked_items must_in g line (coming_to t more),
  )

  -- ---- musts

  pub must_comes : (m : Must) → Has m (musts_asked line (coming_to t more)) → Has m (musts_asked line (demands_of t))
  must_comes m has = of_right same_must exact_must must_itself m (musts_asked line (demands_of t)) (musts_asked line (staying s gone)) (musts_asked line (coming_to t more)) (musts_after (like same_must exact_must must_itself m)) has

  pub must_stays : (m : Must) → (Has m (musts_asked line (gone_from s gone)) → ⊥) → Has m (musts_asked line (demands_of s)) → Has m (musts_asked line (demands_of t))
  must_stays m other has = elim (one_of_both same_must exact_must must_itself m (musts_asked line (demands_of s)) (musts_asked line (staying s gone)) (musts_asked line (gone_from s gone)) (musts_before (like same_must exact_must must_itself m)) has) [
    | inl stays ↦ of_left same_must exact_must must_itself m (musts_asked line (demands_of t)) (musts_asked line (staying s gone)) (musts_asked line (coming_to t more)) (musts_after (like same_must exact_must must_itself m)) stays
    | inr goes ↦ absurd (other goes)
  ]

  -- ---- sets

  abbrev pub Moves : Setting → Type 0
  Moves x = Has x (sets_asked line (gone_from s gone)) ⊎ Has x (sets_asked line (coming_to t more))

  pub set_goes : (x : Setting) → Has x (sets_of line (demands_of s)) → Has x (sets_of line (demands_of t)) ⊎ Moves x
  set_goes x has = elim (one_of_both same_setting set_exact set_itself x (sets_asked line (demands_of s)) (sets_asked line (staying s gone)) (sets_asked line (gone_from s gone)) (sets_before (like same_setting set_exact set_itself x)) (set_asked line (demands_of s) x has)) [
    | inl stays ↦ inl (asked_set line (demands_of t) x (of_left same_setting set_exact set_itself x (sets_asked line (demands_of t)) (sets_asked line (staying s gone)) (sets_asked line (coming_to t more)) (sets_after (like same_setting set_exact set_itself x)) stays))
    | inr goes ↦ inr (inl goes)
  ]

  pub set_comes : (x : Setting) → Has x (sets_of line (demands_of t)) → Has x (sets_of line (demands_of s)) ⊎ Moves x
  set_comes x has = elim (one_of_both same_setting set_exact set_itself x (sets_asked line (demands_of t)) (sets_asked line (staying s gone)) (sets_asked line (coming_to t more)) (sets_after (like same_setting set_exact set_itself x)) (set_asked line (demands_of t) x has)) [
    | inl stays ↦ inl (asked_set line (demands_of s) x (of_left same_setting set_exact set_itself x (sets_asked line (demands_of s)) (sets_asked line (staying s gone)) (sets_asked line (gone_from s gone)) (sets_before (like same_setting set_exact set_itself x)) stays))
    | inr comes ↦ inr (inr comes)
  ]

  pub comer_there : (x : Setting) → Has x (sets_asked line (coming_to t more)) → Has x (sets_of line (demands_of t))
  comer_there x has = asked_set line (demands_of t) x (of_right same_setting set_exact set_itself x (sets_asked line (demands_of t)) (sets_asked line (staying s gone)) (sets_asked line (coming_to t more)) (sets_after (like same_setting set_exact set_itself x)) has)

  -- a state that hangs on none of what goes and comes stays
  pub state_stays : (p : ℕ) → HangsOnNone s line p (gone_from s gone) → HangsOnNone s line p (coming_to t more) → state_at t line p ≡ state_at s line p
  unfolding state_at
  state_stays p goes comes =
      state_same (since s line) p (natural (told s line)) (sets_of line (demands_of s)) (sets_of line (demands_of t))
      (sets_sorted line (demands_of s)) (distinct_sets s whole.rising line) (sets_sorted line (demands_of t)) (distinct_sets t (whole_after s gone more whole can).rising line)
      Moves (λ x has _. set_goes x has) set_comes (λ x moves le. elim moves [ inl g ↦ goes x g le | inr c ↦ comes x c le ])

  -- so does one of which each set that goes or comes leaves another one at its moment, or has another set behind it
  pub state_stays_behind : (p : ℕ) → ((x : Setting) → Moves x → x.at ≤ p → (state_at s line x.at ≢ state_at s line p) ⊎ HasBehind p (sets_of line (demands_of s)) x) → state_at t line p ≡ state_at s line p
  unfolding state_at
  state_stays_behind p others =
      state_same_behind (since s line) p (natural (told s line)) (sets_of line (demands_of s)) (sets_of line (demands_of t))
      (sets_sorted line (demands_of s)) (distinct_sets s whole.rising line) (sets_sorted line (demands_of t)) (distinct_sets t (whole_after s gone more whole can).rising line)
      Moves (λ x has _. set_goes x has) set_comes others
