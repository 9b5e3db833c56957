-- An end that is measured: when it may be, and what it leaves of a plan state.
use Rattle.std.proofs.Common.{◌≡◌, ℕ, ◌<◌, ◌≤◌, eqb, leb, ltb, Bool, true, false, ◌&&◌, List, [], ◌∷◌, map, Option, Some, None, All, IfSome, is_some, if◌then◌else◌, unwrap_or, ◌+◌, refl, sym, ◌∙◌, ap, subst, arith, append-nil}
use Rattle.std.specs.Prelude.{filter, option_and_then}
use Rattle.std.specs.Option.{option_map}
use Rattle.std.specs.List.{list_all}
use Rattle.std.proofs.lemmas.Bool.{and_parts, leb-true, leb-false, ltb-true}
use Rattle.std.proofs.lemmas.Option.{same_Some}
use Rattle.pl_model.specs.declared.kinds.Kind.{Kind}
use Rattle.pl_model.specs.declared.whole.Model.{Model}
use Rattle.pl_model.specs.Checked.{IsAmount}
use Rattle.pl_plan.specs.declared.activity.Activity.{Activity}
use Rattle.pl_plan.specs.Activities.{activity_of, ended, with_end}
use Rattle.pl_plan.specs.Fitting.{kind_of}
use Rattle.pl_plan.specs.Moves.{KeepsTree}
use Rattle.pl_plan.specs.Values.{Row, values_of}
use Rattle.pl_plan.specs.Firm.{are_in_range, has_amount, duration_in, is_firm_with, is_firm, is_firm_of, end_with, end_of}
use Rattle.pl_plan.proofs.Kept.{found-changed}
use Rattle.pl_entry.specs.Due.{is_due, start_of, with_starts, due_of}
use Rattle.pl_entry.specs.declared.reply.Reply.{Reply}
use Rattle.pl_entry.specs.declared.reply.Reply.TheVariants as reply
use Rattle.pl_links.specs.declared.placed.Placed.{Placed}
use Rattle.pl_semantics.specs.declared.plan_state.PlanState.{PlanState}
use Rattle.pl_semantics.specs.PlanStates.{found, is_committed, row_of}
use Rattle.pl_semantics.specs.Links.{placed_of}
use Rattle.pl_semantics.specs.Whole.{IsWhole, IsIdBelow}
use Rattle.pl_semantics.proofs.Found.{found_id, all_found}
use Rattle.pl_update.specs.Changes.Changes.{measured_to, CanMeasure}
use Rattle.pl_update.proofs.AboutChanges.Measuring.{values_same}
use Rattle.pl_machine.specs.World.{due_in}
use Rattle.pl_machine.specs.Messages.{has_begun, end_reply, measured_reply, until_reply}
use Rattle.pl_machine.specs.Keeping.{AreSendable, KeepsStanding}

-- ---- an activity is firm where it has an end

firm_by : (values : Bool) (d : Option ℕ) (amounts : Bool) (f : ℕ → ℕ) → is_some (if (values && is_some d) && amounts then option_map f d else None) ≡ ((values && is_some d) && amounts)
firm_by false d amounts f = refl
firm_by true None amounts f = refl
firm_by true (Some d) true f = refl
firm_by true (Some d) false f = refl

firm_with : (horizon : ℕ) (k : Kind) (start : ℕ) (measured : Option ℕ) (values : Row) → is_some (end_with horizon k start measured values) ≡ is_firm_with horizon k values
firm_with horizon k start measured values =
    firm_by (are_in_range 0 k.params values) (duration_in horizon k values) (list_all (has_amount values) k.reservations) (λ (d : ℕ). unwrap_or measured (start + d))

has_end : (model : Model) (a : Activity) (values : Row) (o : Option Kind) → is_some (option_and_then (λ (k : Kind). end_with model.horizon k a.start a.measured values) o) ≡ is_firm_of model.horizon o values
has_end model a values None = refl
has_end model a values (Some k) = firm_with model.horizon k a.start a.measured values

firm_end : (model : Model) (xs : List Activity) (id : ℕ) (o : Option Activity) → activity_of id xs ≡ o → is_some (end_of model xs id) ≡ is_firm model xs id
unfolding end_of is_firm
firm_end model xs id None is = rw is refl
firm_end model xs id (Some a) is = rw is (has_end model a (values_of model xs id) (kind_of model a))

-- ---- replies

begun_as : (s : PlanState) (a : Activity) → has_begun s a ≡ (is_committed s a && (leb a.start s.moment && is_some (placed_of s a).end))
begun_as s a = ap (λ (b : Bool). is_committed s a && (leb a.start s.moment && b)) (sym (firm_end s.model s.plan.activities a.id (found s a.id) refl))

-- to an activity that is given with its end
placed_as : (s : PlanState) (a : Activity) (moment : ℕ) → (if ltb a.start s.committed && (leb a.start s.moment && is_some (placed_of s a).end) then end_reply a.start moment else reply.NotBegun) ≡ measured_reply s (Some a) moment
placed_as s a moment = ap (λ (b : Bool). if b then end_reply a.start moment else reply.NotBegun) (sym (begun_as s a))

pub reply_to_live : (s : PlanState) (o : Option Activity) (x : Placed) (moment : ℕ) (r : Reply) → Some x ≡ option_map (placed_of s) o
    → r ≡ (if ltb x.start s.committed && (leb x.start s.moment && is_some x.end) then end_reply x.start moment else reply.NotBegun) → r ≡ measured_reply s o moment
reply_to_live s None x moment r is e = absurd (cc)
reply_to_live s (Some a) x moment r is e =
    let same : x ≡ placed_of s a = same_Some x (placed_of s a) is in
    e ∙ ap (λ (y : Placed). if ltb y.start s.committed && (leb y.start s.moment && is_some y.end) then end_reply y.start moment else reply.NotBegun) same ∙ placed_as s a moment

pub reply_to_none : (s : PlanState) (o : Option Activity) (moment : ℕ) → None ≡ option_map (placed_of s) o → reply.NotBegun ≡ measured_reply s o moment
reply_to_none s None moment is = refl
reply_to_none s (Some a) moment is = absurd (cc)

-- no id is too great for its type
live_below : (s : PlanState) (id : ℕ) (a : Activity) → IsWhole s → found s id ≡ Some a → id < 4294967296
live_below s id a whole here =
    let own : IsIdBelow s.next_id a = all_found (IsIdBelow s.next_id) id s.plan.activities a whole.ids here in
    let same : a.id ≡ id = found_id id s.plan.activities a here in
    let below : a.id < s.next_id = own.1 in
    let most : s.next_id ≤ 4000000001 = whole.next.1 in
    omega (arith, same, below, most)

pub reply_to_great : (s : PlanState) (id moment : ℕ) → IsWhole s → 4294967296 ≤ id → reply.NotBegun ≡ until_reply s id moment
reply_to_great s id moment whole great = by (found s id) refl
  where
    by : (o : Option Activity) → found s id ≡ o → reply.NotBegun ≡ measured_reply s o moment
    by None here = refl
    by (Some a) here = absurd (let below = live_below s id a whole here in omega (arith, below, great))

-- ---- when an end may be measured

begun_and : (begun : Bool) (r : Reply) → (if begun then r else reply.NotBegun) ≡ reply.Done → (begun ≡ true) × (r ≡ reply.Done)
begun_and true r e = (refl, e)
begun_and false r e = absurd (cc)

not_back : (back : Bool) → (if back then reply.EndBack else reply.Done) ≡ reply.Done → back ≡ false
not_back true e = absurd (cc)
not_back false e = refl

pub can_until : (s : PlanState) (id moment : ℕ) → until_reply s id moment ≡ reply.Done → moment ≤ s.model.horizon → CanMeasure s id moment
can_until s id moment done within = by (found s id) refl done
  where
    by : (o : Option Activity) → found s id ≡ o → measured_reply s o moment ≡ reply.Done → CanMeasure s id moment
    by None here done = absurd (cc)
    by (Some a) here done =
        let both = begun_and (has_begun s a) (end_reply a.start moment) done in
        let parts = and_parts (is_committed s a) (leb a.start s.moment && is_firm s.model s.plan.activities a.id) both.0 in
        record {
          a = a;
          here = here;
          begun = leb-true a.start s.moment (and_parts (leb a.start s.moment) (is_firm s.model s.plan.activities a.id) parts.1).0;
          committed = ltb-true a.start s.committed parts.0;
          after = leb-false moment a.start (not_back (leb moment a.start) both.1);
          within = within;
        }

pub until_below : (s : PlanState) (id moment : ℕ) → IsWhole s → until_reply s id moment ≡ reply.Done → id < 4294967296
until_below s id moment whole done = by (found s id) refl done
  where
    by : (o : Option Activity) → found s id ≡ o → measured_reply s o moment ≡ reply.Done → id < 4294967296
    by None here done = absurd (cc)
    by (Some a) here done = live_below s id a whole here

-- ---- what is due

starts_ended : (m : Model) (now c id moment : ℕ) (xs : List Activity) → map start_of (filter (is_due m now c) (with_end id moment xs)) ≡ map start_of (filter (is_due m now c) xs)
starts_ended m now c id moment [] = refl
starts_ended m now c id moment (x ∷ xs) = by (eqb x.id id) refl (is_due m now c x) refl (starts_ended m now c id moment xs)
  where
    by : (b : Bool) → eqb x.id id ≡ b → (d : Bool) → is_due m now c x ≡ d → map start_of (filter (is_due m now c) (with_end id moment xs)) ≡ map start_of (filter (is_due m now c) xs)
        → map start_of (filter (is_due m now c) (with_end id moment (x ∷ xs))) ≡ map start_of (filter (is_due m now c) (x ∷ xs))
    by true e true f more = rw (e, f) (ap (λ (l : List (ℕ × ℕ)). start_of x ∷ l) more)
    by true e false f more = rw (e, f) more
    by false e true f more = rw (e, f) (ap (λ (l : List (ℕ × ℕ)). start_of x ∷ l) more)
    by false e false f more = rw (e, f) more

pub due_measured : (s : PlanState) (id moment : ℕ) → due_in (measured_to id moment s) ≡ due_in s
unfolding due_of
due_measured s id moment = ap (λ (l : List (ℕ × ℕ)). map (λ (x : ℕ × ℕ). x.1) (with_starts [] l)) (starts_ended s.model s.moment s.committed id moment s.plan.activities)

-- ---- what it leaves

-- with its end measured, if it is the activity of this id
abbrev ended_at : ℕ → ℕ → Activity → Activity
ended_at id moment a = if eqb a.id id then ended moment a else a

ended_keeps : (id moment : ℕ) → KeepsTree (ended_at id moment)
ended_keeps id moment = record { id = λ a. by_id a (eqb a.id id); kind = λ a. by_kind a (eqb a.id id); parent = λ a. by_parent a (eqb a.id id) }
  where
    by_id : (a : Activity) (b : Bool) → (if b then ended moment a else a).id ≡ a.id
    by_id a true = refl
    by_id a false = refl

    by_kind : (a : Activity) (b : Bool) → (if b then ended moment a else a).kind ≡ a.kind
    by_kind a true = refl
    by_kind a false = refl

    by_parent : (a : Activity) (b : Bool) → (if b then ended moment a else a).parent ≡ a.parent
    by_parent a true = refl
    by_parent a false = refl

ended_start : (id moment : ℕ) (a : Activity) → (ended_at id moment a).start ≡ a.start
ended_start id moment a = by (eqb a.id id)
  where
    by : (b : Bool) → (if b then ended moment a else a).start ≡ a.start
    by true = refl
    by false = refl

module _ (s : PlanState) (id moment : ℕ) (whole : IsWhole s) (can : CanMeasure s id moment) where
  sent_of : (a : Activity) → AreSendable s → found s a.id ≡ Some a → is_committed s a ≡ true → All (λ v. IfSome v IsAmount) (values_of s.model (with_end id moment s.plan.activities) a.id)
  sent_of a sendable here committed = subst (λ row. All (λ v. IfSome v IsAmount) row) (sym (values_same s id moment whole can.a can.here can a.id)) (sendable a.id a here committed)

  sendable_ended : AreSendable s → AreSendable (measured_to id moment s)
  sendable_ended sendable q b here committed = by (found s q) refl (sym (found-changed (ended_at id moment) (ended_keeps id moment) s.plan.activities q) ∙ here)
    where
      by : (o : Option Activity) → found s q ≡ o → option_map (ended_at id moment) o ≡ Some b → All (λ v. IfSome v IsAmount) (row_of (measured_to id moment s) b)
      by None there is = absurd (cc)
      by (Some a) there is =
          let same : ended_at id moment a ≡ b = same_Some (ended_at id moment a) b is in
          let own : a.id ≡ q = found_id q s.plan.activities a there in
          let there2 : found s a.id ≡ Some a = subst (λ (n : ℕ). found s n ≡ Some a) (sym own) there in
          let start : b.start ≡ a.start = ap (λ (x : Activity). x.start) (sym same) ∙ ended_start id moment a in
          let number : b.id ≡ a.id = ap (λ (x : Activity). x.id) (sym same) ∙ (ended_keeps id moment).id a in
          let early : is_committed s a ≡ true = ap (λ (n : ℕ). ltb n s.committed) (sym start) ∙ committed in
          subst (λ (n : ℕ). All (λ v. IfSome v IsAmount) (values_of s.model (with_end id moment s.plan.activities) n)) (sym number) (sent_of a sendable there2 early)

  pub keeps_measured : KeepsStanding s (measured_to id moment s)
  keeps_measured = record {
    model = refl;
    next_id = omega arith;
    due = ([], due_measured s id moment ∙ sym (append-nil (due_in s)));
    sendable = sendable_ended;
  }
