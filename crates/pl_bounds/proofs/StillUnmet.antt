-- A must that is not met is not met either once a replacement is made by which the state stays; what a list of demands asks for once they
-- are moved along; and the last set up to a moment.
use Rattle.std.proofs.Common.{◌≡◌, ℕ, ◌+◌, ◌-◌, ◌<◌, ◌≤◌, eqb, Bool, true, false, cond, List, [], ◌∷◌, ◌++◌, map, take, length, get_or, refl, sym, ap, ◌∙◌, subst, inl, inr}
use Rattle.std.specs.Prelude.{◌≢◌, ◌⊎◌, Option, Some, None, IfSome}
use Rattle.std.specs.List.{flat_map}
use Rattle.std.proofs.lemmas.Bool.{eq-eqb, leb-true}
use Rattle.std.proofs.lemmas.List.{take_more}
use Rattle.pl_conflict.specs.declared.conflict.Code.TheVariants as code
use Rattle.pl_plan.specs.declared.activity.Activity.{Activity}
use Rattle.pl_plan.specs.Activities.{activity_of}
use Rattle.pl_state.specs.declared.reservation.Must.{Must}
use Rattle.pl_state.specs.declared.reservation.Setting.{Setting}
use Rattle.pl_state.specs.Keys.{Has}
use Rattle.pl_state.specs.Sets.{is_passed, last_by}
use Rattle.pl_lists.specs.Lists.{front}
use Rattle.pl_semantics.specs.declared.demand.Demand.{Demand}
use Rattle.pl_semantics.specs.declared.demand.Asked.TheVariants as asked
use Rattle.pl_semantics.specs.declared.plan_state.PlanState.{PlanState}
use Rattle.pl_semantics.specs.Demands.{asked_of, must_in, set_in, demands_at, demands_of, sets_of, state_at}
use Rattle.pl_semantics.specs.PlanStates.{found, of_found}
use Rattle.pl_semantics.specs.Whole.{IsWhole}
use Rattle.pl_update.specs.Changes.Replaced.{with_plan}
use Rattle.pl_update.specs.Timelines.Laws.{coming_to, gone_from}
use Rattle.pl_bounds.specs.Exchanges.{IsExchange}
use Rattle.pl_bounds.specs.Marks.{mark_of, Stands}
use Rattle.pl_bounds.specs.Seen.{EachSet, IsSeen}
use Rattle.pl_bounds.specs.Settings.{musts_asked, sets_asked}
use Rattle.pl_bounds.specs.UnmetMusts.{DecidesNot, IsBehindIt, IsLeftBy, StandsBy}
use Rattle.pl_bounds.specs.declared.unmet_musts.UnmetMust.{UnmetMust}
use Rattle.pl_bounds.proofs.Governing.{HasBehind}
use Rattle.pl_bounds.specs.Moved.{asked_moved, demand_moved, moved_to}
use Rattle.pl_bounds.proofs.Having.{each_push, has_at, has_either, has_flat, has_left, has_map, has_right}
use Rattle.pl_bounds.proofs.Needed.{must_stands}
use Rattle.pl_bounds.proofs.States.{must_comes, must_stays, state_stays_behind}

module _ (s : PlanState) (whole : IsWhole s) (going coming : List Demand) (u : UnmetMust) (goes : EachSet u.seen.line (DecidesNot s u) going) (comes : EachSet u.seen.line (DecidesNot s u) coming) (set : IfSome u.set (λ w. StandsBy s u.seen.line u.seen.at w)) (gone : List ℕ) (more : List Activity) (exchange : IsExchange s gone more going coming) where
  abbrev t : PlanState
  t = with_plan gone more s

  abbrev line : ℕ
  line = u.seen.line

  -- a set leaves another state at its moment, or has another one behind it
  abbrev IsIdle : Setting → Type 0
  IsIdle z = (state_at s line z.at ≢ state_at s line u.seen.at) ⊎ HasBehind u.seen.at (sets_of line (demands_of s)) z

  behind : (z : Setting) (o : Option Setting) → IfSome o (λ w. StandsBy s line u.seen.at w) → IsBehindIt z o → HasBehind u.seen.at (sets_of line (demands_of s)) z
  behind z None of none = absurd none
  behind z (Some w) of is = record { w = w; there = of.0; upto = of.1; behind = is }

  idle : (z : Setting) → (state_at s line z.at ≢ state_at s line u.seen.at) ⊎ IsBehindIt z u.set → IsIdle z
  idle z (inl differs) = inl differs
  idle z (inr is) = inr (behind z u.set set is)

  idle_all : (z : Setting) → Has z (sets_asked line (gone_from s gone)) ⊎ Has z (sets_asked line (coming_to t more)) → z.at ≤ u.seen.at → IsIdle z
  idle_all z (inl out) le = idle z (goes z (subst (λ (ds : List Demand). Has z (sets_asked line ds)) (sym exchange.goes) out) le)
  idle_all z (inr enters) le = idle z (comes z (subst (λ (ds : List Demand). Has z (sets_asked line ds)) (sym exchange.comes) enters) le)

  -- the state stays, so a must that needs another one is unmet
  pub unmet_there : IsSeen s u.seen → (m : Must) → Has m (musts_asked line (demands_of t)) → m.from ≤ u.seen.at → u.seen.at < m.to → u.seen.state ≢ m.state → Stands t (mark_of code.Must m.id m.index)
  unmet_there seen m there from to other =
      let stays : state_at t line u.seen.at ≡ state_at s line u.seen.at = state_stays_behind s gone more whole exchange.can exchange.once line u.seen.at idle_all in
      must_stands t line m u.seen.at seen.line there from to seen.now seen.horizon (λ e. other (sym seen.is ∙ (sym stays ∙ e)))

  -- the same of a must that comes
  pub comer_unmet : IsSeen s u.seen → (m : Must) → Has m (musts_asked line coming) → m.from ≤ u.seen.at → u.seen.at < m.to → u.seen.state ≢ m.state → Stands t (mark_of code.Must m.id m.index)
  comer_unmet seen m needed =
      unmet_there seen m (must_comes s gone more whole exchange.can exchange.once line m (subst (λ (ds : List Demand). Has m (musts_asked line ds)) exchange.comes needed))

module _ (s : PlanState) (whole : IsWhole s) (going coming : List Demand) (u : UnmetMust) (left : IsLeftBy s going u) (comes : EachSet u.seen.line (DecidesNot s u) coming) (gone : List ℕ) (more : List Activity) (exchange : IsExchange s gone more going coming) where
  pub still_unmet : Stands (with_plan gone more s) (mark_of code.Must u.must.id u.must.index)
  still_unmet =
      let other : Has u.must (musts_asked u.seen.line (gone_from s gone)) → ⊥ = λ has. left.stays u.seen.line (subst (λ (ds : List Demand). Has u.must (musts_asked u.seen.line ds)) (sym exchange.goes) has) in
      let there : Has u.must (musts_asked u.seen.line (demands_of (with_plan gone more s))) = must_stays s gone more whole exchange.can exchange.once u.seen.line u.must other left.unmet.needed in
      unmet_there s whole going coming u left.decides comes left.unmet.set gone more exchange left.unmet.seen u.must there left.unmet.from left.unmet.to left.unmet.other

-- a must that is asked for is one of its line
pub must_in_line : (d : Demand) (m : Must) (ds : List Demand) → Has d ds → d.asked ≡ asked.Must m → Has m (musts_asked d.line ds)
must_in_line d m ds has is = has_flat (asked_of must_in d.line) d m ds has (rw (eq-eqb d.line d.line refl, is) (inl refl))

-- a must that comes is moved along with what comes
pub must_moved_along : (from to : ℕ) (d : Demand) (m : Must) (ds : List Demand) → Has d ds → d.asked ≡ asked.Must m → Has (record m { from = moved_to from to m.from; to = moved_to from to m.to }) (musts_asked d.line (map (demand_moved from to) ds))
must_moved_along from to d m ds has is =
    must_in_line (demand_moved from to d) (record m { from = moved_to from to m.from; to = moved_to from to m.to }) (map (demand_moved from to) ds) (has_map (demand_moved from to) d ds has) (ap (asked_moved from to) is)

-- what a live activity asks for is asked for
of_activities : (s : PlanState) (d : Demand) (id : ℕ) (xs : List Activity) → Has d (of_found (demands_at s) (activity_of id xs)) → Has d (flat_map (demands_at s) xs)
of_activities s d id [] has = absurd has
of_activities s d id (a ∷ xs) has = by (eqb a.id id) has (of_activities s d id xs)
  where
    by : (b : Bool) → Has d (of_found (demands_at s) (cond b (Some a) (activity_of id xs))) → (Has d (of_found (demands_at s) (activity_of id xs)) → Has d (flat_map (demands_at s) xs)) → Has d (demands_at s a ++ flat_map (demands_at s) xs)
    by true here rest = has_left d (demands_at s a) (flat_map (demands_at s) xs) here
    by false more rest = has_right d (demands_at s a) (flat_map (demands_at s) xs) (rest more)

pub asked_by_one : (s : PlanState) (id : ℕ) (d : Demand) → Has d (gone_from s (id ∷ [])) → Has d (demands_of s)
asked_by_one s id d has = elim (has_either d (of_found (demands_at s) (found s id)) [] has) [ inl here ↦ of_activities s d id s.plan.activities here | inr none ↦ absurd none ]

-- ---- once they are moved along

pub each_more_moved : (line : ℕ) (P : Setting → Type 0) (f : Demand → Demand) (ds : List Demand) (i : ℕ) (d : Demand) → i < length ds → EachSet line P (map f (take i ds)) → EachSet line P (map f (get_or ds i d ∷ [])) → EachSet line P (map f (take (i + 1) ds))
each_more_moved line P f ds i d lt before one =
    subst (λ (l : List Demand). EachSet line P (map f l)) (sym (take_more ds i d lt)) (each_push P (asked_of set_in line) f (take i ds) (get_or ds i d) before one)

-- ---- the last set

front_has : (p : Setting → Bool) (x : Setting) (xs : List Setting) → Has x (front p xs) → Has x xs × (p x ≡ true)
front_has p x [] has = absurd has
front_has p x (y ∷ ys) has = by (p y) refl has (front_has p x ys)
  where
    by : (b : Bool) → p y ≡ b → Has x (cond b (y ∷ front p ys) []) → (Has x (front p ys) → Has x ys × (p x ≡ true)) → Has x (y ∷ ys) × (p x ≡ true)
    by true e h rest = elim h [ inl is ↦ (inl is, subst (λ (z : Setting). p z ≡ true) is e) | inr more ↦ (let both = rest more in (inr both.0, both.1)) ]
    by false e h rest = absurd h

pub last_stands : (s : PlanState) (n p : ℕ) (o : Option Setting) → o ≡ last_by p (sets_of n (demands_of s)) → IfSome o (λ w. StandsBy s n p w)
last_stands s n p None is = tt
last_stands s n p (Some w) is =
    let xs : List Setting = sets_of n (demands_of s) in
    let both = front_has (is_passed p) w xs (has_at (front (is_passed p) xs) (length (front (is_passed p) xs) - 1) w (sym is)) in
    (both.0, leb-true w.at p both.1)
