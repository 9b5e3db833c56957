-- Timelines while a plan is replaced: what goes is given back, and then what comes is taken on.
use Rattle.std.proofs.Common.{◌≡◌, ℕ, eqb, Bool, true, false, cond, List, [], ◌∷◌, ◌++◌, map, get_or, Option, Some, None, refl, sym, ap, ◌∙◌, subst, arith, ℤ}
use Rattle.std.specs.Prelude.{All, slice_get}
use Rattle.std.proofs.lemmas.Int.{ints}
use Rattle.std.proofs.lemmas.Bool.{eqb-true, eq-eqb}
use Rattle.std.proofs.lemmas.List.Elements.{All-nil, All-cons, All-head, All-tail, All-append, All-map}
use Rattle.pl_lists.proofs.Elements.{all_flat}
use Rattle.pl_points.specs.declared.span.Span.{Span}
use Rattle.pl_conflict.specs.declared.conflict.Conflict.{Conflict}
use Rattle.pl_conflict.specs.declared.conflict.Code.TheVariants as code
use Rattle.pl_conflict.specs.Order.{has}
use Rattle.pl_model.specs.declared.reservations.Reservation.{Reservation}
use Rattle.pl_model.specs.declared.reservations.Reservation.TheVariants as reservation
use Rattle.pl_capacity.specs.Uses as capacity
use Rattle.pl_level.specs.Effects as level
use Rattle.pl_state.specs.Timelines as state_lines
use Rattle.pl_state.specs.declared.reservation.Setting.{Setting}
use Rattle.pl_state.specs.declared.reservation.Must.{Must}
use Rattle.pl_state.specs.declared.answer.BrokenMust.{BrokenMust}
use Rattle.pl_state.specs.declared.answer.BadSet.{BadSet}
use Rattle.pl_state.specs.Sets.{is_allowed}
use Rattle.pl_state.specs.Musts.{broken_spans, broken_one, broken_all}
use Rattle.pl_state.specs.Sets.{bad_set, is_counted, bad_from}
use Rattle.pl_plan.specs.declared.activity.Activity.{Activity}
use Rattle.pl_plan.proofs.Climbs.{all_at}
use Rattle.pl_semantics.specs.declared.plan_state.PlanState.{PlanState}
use Rattle.pl_semantics.specs.declared.demand.Demand.{Demand}
use Rattle.pl_semantics.specs.declared.demand.Asked.{Asked}
use Rattle.pl_semantics.specs.declared.demand.Asked.TheVariants as asked
use Rattle.pl_semantics.specs.PlanStates.{found, row_of, end_at, reservations_of, of_found}
use Rattle.pl_semantics.specs.Whole.{IsWhole}
use Rattle.pl_semantics.specs.Owners.{owner_of}
use Rattle.pl_semantics.specs.Demands.{asked_for, demands_until, demands_at}
use Rattle.pl_semantics.specs.Timelines.{outside, start_in, start_at, unmet_must, bad_step}
use Rattle.pl_semantics.proofs.Owning.{Each, each_none, each_append, each_map, each_made}
use Rattle.pl_semantics.proofs.Naming.{all_broken, all_bad}
use Rattle.pl_update.specs.Changes.Replaced.{taken, with_plan, CanReplace}
use Rattle.pl_update.specs.declared.timelines.line.Line.{Line}
use Rattle.pl_update.specs.declared.timelines.line.Line.TheVariants.{Capacity, Level, States}
use Rattle.pl_update.specs.Timelines.Held.{part_at, asked_at, Hold, alike, one, HoldAll, HaveRoom}
use Rattle.pl_update.specs.Timelines.Framed.{AreFramed, AreLinesOf}
use Rattle.pl_update.specs.Timelines.Told.{wrong_with, wrong_at, IsTold}
use Rattle.pl_update.specs.Timelines.Named.{IsNamed, HoldsNamed, AreNamed}
use Rattle.pl_update.specs.Timelines.Mending.{IsMoved, less, CanAsk}
use Rattle.pl_update.specs.Timelines.Laws.{AreOnce, gone_from, coming_to}
use Rattle.pl_update.proofs.AboutTimelines.Listing.{total_least}
use Rattle.pl_update.proofs.AboutTimelines.StandingNamed.{Passes, all_pass, named_held, named_one, can_ask, few_asked}
use Rattle.pl_update.proofs.AboutTimelines.Replacing.{staying, IsKept, whole_after, found_placed, each_kept, same_demands, asked_before, asked_after}
use Rattle.pl_update.proofs.AboutTimelines.MovingOne.{alike_nonneg}
use Rattle.pl_update.proofs.AboutTimelines.Moving.{part_nonneg}

-- ---- what belongs to a timeline

about_line : (s : PlanState) (line : ℕ) (l : Line) → HoldsNamed s line l → Each (λ q. owner_of s q ≡ Some line) (wrong_with s line l)
about_line s line (Capacity c) named = each_map (λ q. owner_of s q ≡ Some line) (outside code.Over line) (capacity.spans_now c) (λ p. refl)
about_line s line (Level l) named = each_append (λ q. owner_of s q ≡ Some line) (map (outside code.Low line) (level.low_now l)) (map (outside code.High line) (level.high_now l))
    (each_map (λ q. owner_of s q ≡ Some line) (outside code.Low line) (level.low_now l) (λ p. refl))
    (each_map (λ q. owner_of s q ≡ Some line) (outside code.High line) (level.high_now l) (λ p. refl))
about_line s line (States x) named = each_append (λ q. owner_of s q ≡ Some line) (map (unmet_must s) (state_lines.broken_now x)) (map (bad_step s) (state_lines.bad_now x))
    (each_made (λ q. owner_of s q ≡ Some line) (unmet_must s) (state_lines.broken_now x) (all_broken s line (state_lines.state_at x) x.moment x.horizon x.musts named.1))
    (each_made (λ q. owner_of s q ≡ Some line) (bad_step s) (state_lines.bad_now x) (all_bad s line (is_allowed x.any x.steps) x.base x.horizon x.moment x.value x.sets named.0))

about_at : (s : PlanState) (lines : List Line) → AreNamed s lines → (line : ℕ) → Each (λ q. owner_of s q ≡ Some line) (wrong_at s lines line)
about_at s lines named line = by (slice_get lines line) refl
  where
    by : (o : Option Line) → slice_get lines line ≡ o → Each (λ q. owner_of s q ≡ Some line) (of_found (wrong_with s line) o)
    by None e = each_none (λ q. owner_of s q ≡ Some line)
    by (Some l) e = about_line s line l (named line l e)

-- where each list has only conflicts that both ways of owning give to it, both find the same
found_both : (q : Conflict) (W : ℕ → List Conflict) (o p : Option ℕ) → ((n : ℕ) → has q (W n) ≡ true → (o ≡ Some n) × (p ≡ Some n)) → has q (of_found W o) ≡ has q (of_found W p)
found_both q W None None owned = refl
found_both q W None (Some m) owned = by (has q (W m)) refl
  where
    by : (b : Bool) → has q (W m) ≡ b → false ≡ has q (W m)
    by true e = let none : None ≡ Some m = (owned m e).0 in absurd (cc)
    by false e = sym e
found_both q W (Some n) None owned = by (has q (W n)) refl
  where
    by : (b : Bool) → has q (W n) ≡ b → has q (W n) ≡ false
    by true e = let none : None ≡ Some n = (owned n e).1 in absurd (cc)
    by false e = e
found_both q W (Some n) (Some m) owned = by (has q (W n)) refl (has q (W m)) refl
  where
    by : (b : Bool) → has q (W n) ≡ b → (d : Bool) → has q (W m) ≡ d → has q (W n) ≡ has q (W m)
    by true e d f = let is : Some m ≡ Some n = (owned n e).1 in let same : n ≡ m = cc in ap (λ k. has q (W k)) same
    by false e true f = let is : Some n ≡ Some m = (owned m f).0 in let same : n ≡ m = cc in ap (λ k. has q (W k)) same
    by false e false f = e ∙ sym f

-- ---- starts

module _ (s t : PlanState) where
  abbrev starts_same : ℕ → Bool
  starts_same id = eqb (start_at s id) (start_at t id)

  abbrev starts : Asked → Bool
  starts (asked.Use u) = true
  starts (asked.Effect e) = true
  starts (asked.Set x) = starts_same x.id
  starts (asked.Must m) = starts_same m.id

  starts_all : (spans : List Span) (m : Must) → starts_same m.id ≡ true → All (λ (b : BrokenMust). starts_same b.id ≡ true) (broken_spans m spans)
  starts_all [] m is = All-nil (λ (b : BrokenMust). starts_same b.id ≡ true)
  starts_all (p ∷ more) m is = All-cons (λ (b : BrokenMust). starts_same b.id ≡ true) (record { id = m.id; index = m.index; from = p.from; to = p.to }) (broken_spans m more) is (starts_all more m is)

  starts_broken : (state : ℕ → ℕ) (moment horizon : ℕ) (ms : List Must) → All (λ (m : Must). starts_same m.id ≡ true) ms → All (λ (b : BrokenMust). starts_same b.id ≡ true) (broken_all state moment horizon ms)
  starts_broken state moment horizon [] all = All-nil (λ (b : BrokenMust). starts_same b.id ≡ true)
  starts_broken state moment horizon (m ∷ ms) all = All-append (λ (b : BrokenMust). starts_same b.id ≡ true) (broken_one state moment horizon m) (broken_all state moment horizon ms)
      (starts_all _ m (All-head (λ (n : Must). starts_same n.id ≡ true) m ms all))
      (starts_broken state moment horizon ms (All-tail (λ (n : Must). starts_same n.id ≡ true) m ms all))

  starts_bad : (allowed : ℕ → ℕ → Bool) (base horizon moment state : ℕ) (xs : List Setting) → All (λ (x : Setting). starts_same x.id ≡ true) xs → All (λ (x : BadSet). starts_same x.id ≡ true) (bad_from allowed base horizon moment state xs)
  starts_bad allowed base horizon moment state [] all = All-nil (λ (x : BadSet). starts_same x.id ≡ true)
  starts_bad allowed base horizon moment state (x ∷ xs) all = All-append (λ (y : BadSet). starts_same y.id ≡ true) _ (bad_from allowed base horizon moment (cond (is_counted base horizon x) x.state state) xs)
      (by _)
      (starts_bad allowed base horizon moment (cond (is_counted base horizon x) x.state state) xs (All-tail (λ (y : Setting). starts_same y.id ≡ true) x xs all))
    where
      by : (b : Bool) → All (λ (y : BadSet). starts_same y.id ≡ true) (cond b (bad_set x ∷ []) [])
      by true = All-cons (λ (y : BadSet). starts_same y.id ≡ true) (bad_set x) [] (All-head (λ (y : Setting). starts_same y.id ≡ true) x xs all) (All-nil (λ (y : BadSet). starts_same y.id ≡ true))
      by false = All-nil (λ (y : BadSet). starts_same y.id ≡ true)

  unmet_same : (m : BrokenMust) → starts_same m.id ≡ true → unmet_must s m ≡ unmet_must t m
  unmet_same m is = let P : ℕ → Conflict = λ n. record { from = n; code = code.Must; subject = m.id; detail = m.index; a = m.from; b = m.to } in ap P (eqb-true (start_at s m.id) (start_at t m.id) is)

  bad_same : (x : BadSet) → starts_same x.id ≡ true → bad_step s x ≡ bad_step t x
  bad_same x is = let P : ℕ → Conflict = λ n. record { from = n; code = code.BadStep; subject = x.id; detail = x.index; a = x.at; b = 0 } in ap P (eqb-true (start_at s x.id) (start_at t x.id) is)

  unmet_all : (ms : List BrokenMust) → All (λ (b : BrokenMust). starts_same b.id ≡ true) ms → map (unmet_must s) ms ≡ map (unmet_must t) ms
  unmet_all [] all = refl
  unmet_all (m ∷ ms) all =
      ap (λ k. k ∷ map (unmet_must s) ms) (unmet_same m (All-head (λ (b : BrokenMust). starts_same b.id ≡ true) m ms all))
      ∙ ap (λ ks. unmet_must t m ∷ ks) (unmet_all ms (All-tail (λ (b : BrokenMust). starts_same b.id ≡ true) m ms all))

  bad_all : (xs : List BadSet) → All (λ (x : BadSet). starts_same x.id ≡ true) xs → map (bad_step s) xs ≡ map (bad_step t) xs
  bad_all [] all = refl
  bad_all (x ∷ xs) all =
      ap (λ k. k ∷ map (bad_step s) xs) (bad_same x (All-head (λ (y : BadSet). starts_same y.id ≡ true) x xs all))
      ∙ ap (λ ks. bad_step t x ∷ ks) (bad_all xs (All-tail (λ (y : BadSet). starts_same y.id ≡ true) x xs all))

  wrong_same : (line : ℕ) (l : Line) → Passes starts l → wrong_with s line l ≡ wrong_with t line l
  wrong_same line (Capacity c) pass = refl
  wrong_same line (Level l) pass = refl
  wrong_same line (States x) pass =
      ap (λ ks. ks ++ map (bad_step s) (state_lines.bad_now x)) (unmet_all (state_lines.broken_now x) (starts_broken (state_lines.state_at x) x.moment x.horizon x.musts pass.1))
      ∙ ap (λ ks. map (unmet_must t) (state_lines.broken_now x) ++ ks) (bad_all (state_lines.bad_now x) (starts_bad (is_allowed x.any x.steps) x.base x.horizon x.moment x.value x.sets pass.0))

  -- what timelines hold starts at the same moments in both, and is named by both: what is told of one is told of the other
  pub told_over : (lines : List Line) (ds : List Demand) (set : List Conflict) → Hold lines ds → All (λ (d : Demand). starts d.asked ≡ true) ds → All (IsNamed s) ds → All (IsNamed t) ds → IsTold s lines set → IsTold t lines set
  told_over lines ds set hold same one two told q of =
      told q of
      ∙ (found_both q (wrong_at s lines) (owner_of s q) (owner_of t q) (λ n h. (about_at s lines (named_held s lines ds hold one) n q h, about_at t lines (named_held t lines ds hold two) n q (ap (has q) (sym (at_line n)) ∙ h)))
      ∙ ap (has q) (where_owned (owner_of t q)))
    where
      at_line : (n : ℕ) → wrong_at s lines n ≡ wrong_at t lines n
      at_line n = by (slice_get lines n) refl
        where
          by : (o : Option Line) → slice_get lines n ≡ o → of_found (wrong_with s n) o ≡ of_found (wrong_with t n) o
          by None e = refl
          by (Some l) e = wrong_same n l (all_pass (λ _ a. starts a) lines ds hold same n l e)

      where_owned : (o : Option ℕ) → of_found (wrong_at s lines) o ≡ of_found (wrong_at t lines) o
      where_owned None = refl
      where_owned (Some n) = at_line n

  starts_asked : (id start end : ℕ) (row : List (Option ℤ)) (p : ℕ × Reservation) → start_at s id ≡ start_at t id → starts (asked_for id start end row p).asked ≡ true
  starts_asked id start end row (n, reservation.Take line e) same = refl
  starts_asked id start end row (n, reservation.Raise line e point) same = refl
  starts_asked id start end row (n, reservation.Lower line e point) same = refl
  starts_asked id start end row (n, reservation.Put line state point) same = eq-eqb (start_at s id) (start_at t id) same
  starts_asked id start end row (n, reservation.Must line state) same = eq-eqb (start_at s id) (start_at t id) same

  pub starts_at : (a : Activity) → start_at s a.id ≡ start_at t a.id → All (λ (d : Demand). starts d.asked ≡ true) (demands_at s a)
  unfolding demands_at
  starts_at a same = by (end_at s a)
    where
      by : (o : Option ℕ) → All (λ (d : Demand). starts d.asked ≡ true) (of_found (demands_until s a) o)
      by None = All-nil (λ (d : Demand). starts d.asked ≡ true)
      by (Some end) = All-map (λ (d : Demand). starts d.asked ≡ true) (asked_for a.id a.start end (row_of s a)) (reservations_of s a) (λ i d lt. starts_asked a.id a.start end (row_of s a) (get_or (reservations_of s a) i d) same)

-- ---- bounds of sums

-- ---- a replacement

pub gone_askable : (s : PlanState) (gone : List ℕ) → IsWhole s → (lines : List Line) → AreLinesOf s lines → All (CanAsk s lines) (gone_from s gone)
gone_askable s gone whole lines are = all_flat (CanAsk s lines) (λ id. of_found (demands_at s) (found s id)) gone (λ i d lt. by (get_or gone i d) (found s (get_or gone i d)) refl)
  where
    by : (id : ℕ) (o : Option Activity) → found s id ≡ o → All (CanAsk s lines) (of_found (demands_at s) o)
    by id None e = All-nil (CanAsk s lines)
    by id (Some a) e =
        let is : a.id ≡ id = (all_at (λ b. Unit {0}) s.plan.activities id a (λ i d lt. tt) e).1 in
        can_ask s lines a whole are.framed (subst (λ n. found s n ≡ Some a) (sym is) e)

module _ (s : PlanState) (gone : List ℕ) (more : List Activity) (whole : IsWhole s) (can : CanReplace s gone more) (once : AreOnce gone) where
  -- before

  pub gone_held : (lines : List Line) → AreLinesOf s lines → HoldAll lines (gone_from s gone)
  gone_held lines are line x = omega (
    arith,
    ints,
    are.hold line (alike x),
    asked_before s gone more whole can once line (alike x),
    total_least (part_at line (alike x)) (part_nonneg line (alike x) (alike_nonneg x)) (staying s gone),
  )

  -- what goes was given back

  rest_held : (lines lines' : List Line) → AreLinesOf s lines → IsMoved lines lines' (less (gone_from s gone)) → Hold lines' (staying s gone)
  rest_held lines lines' are moved line f = omega (arith, ints, moved.held line f, are.hold line f, asked_before s gone more whole can once line f)

  rest_named_before : All (IsNamed s) (staying s gone)
  rest_named_before = all_flat (IsNamed s) (demands_at s) (taken s.plan.activities gone) (λ i d lt. named_one s (get_or (taken s.plan.activities gone) i d) whole.rising (each_kept s gone more whole can i d lt).before)

  rest_named_after : All (IsNamed (with_plan gone more s)) (staying s gone)
  rest_named_after = all_flat (IsNamed (with_plan gone more s)) (demands_at s) (taken s.plan.activities gone) (λ i d lt.
      (let a : Activity = get_or (taken s.plan.activities gone) i d in
      let kept : IsKept s gone more a = each_kept s gone more whole can i d lt in
      subst (λ (ds : List Demand). All (IsNamed (with_plan gone more s)) ds) (same_demands s gone more whole can a kept) (named_one (with_plan gone more s) a (whole_after s gone more whole can).rising kept.after)))

  rest_starts : All (λ (d : Demand). starts s (with_plan gone more s) d.asked ≡ true) (staying s gone)
  rest_starts = all_flat (λ (d : Demand). starts s (with_plan gone more s) d.asked ≡ true) (demands_at s) (taken s.plan.activities gone) (λ i d lt.
      (let a : Activity = get_or (taken s.plan.activities gone) i d in
      let kept : IsKept s gone more a = each_kept s gone more whole can i d lt in
      starts_at s (with_plan gone more s) a (ap start_in (kept.before ∙ sym kept.after))))

  module _ (lines lines' : List Line) (are : AreLinesOf s lines) (moved : IsMoved lines lines' (less (gone_from s gone))) where
    pub rest_framed : AreFramed (with_plan gone more s) lines'
    rest_framed = moved.frames ∙ are.framed

    pub rest_named : AreNamed (with_plan gone more s) lines'
    rest_named = named_held (with_plan gone more s) lines' (staying s gone) (rest_held lines lines' are moved) rest_named_after

    pub rest_told : (set : List Conflict) → IsTold s lines' set → IsTold (with_plan gone more s) lines' set
    rest_told set told = told_over s (with_plan gone more s) lines' (staying s gone) set (rest_held lines lines' are moved) rest_starts rest_named_before rest_named_after told

    pub rest_room : HaveRoom lines' (coming_to (with_plan gone more s) more)
    rest_room line = omega (
      arith,
      ints,
      rest_held lines lines' are moved line one,
      asked_after s gone more whole can line one,
      few_asked (with_plan gone more s) (whole_after s gone more whole can) line,
    )

    pub come_askable : All (CanAsk (with_plan gone more s) lines') (coming_to (with_plan gone more s) more)
    come_askable = all_flat (CanAsk (with_plan gone more s) lines') (demands_at (with_plan gone more s)) more (λ i d lt. can_ask (with_plan gone more s) lines' (get_or more i d) (whole_after s gone more whole can) rest_framed (found_placed s gone more whole can i d lt))

    -- what comes was taken on
    pub lines_after : (lines'' : List Line) → IsMoved lines' lines'' (asked_at (coming_to (with_plan gone more s) more)) → AreLinesOf (with_plan gone more s) lines''
    lines_after lines'' placed = record {
      framed = placed.frames ∙ rest_framed;
      ordered = placed.ordered (moved.ordered are.ordered);
      hold = λ line f. omega (arith, ints, placed.held line f, rest_held lines lines' are moved line f, asked_after s gone more whole can line f);
    }
