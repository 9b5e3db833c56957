-- What an end that is measured leaves of the activities: this end of its activity, and all else as it was.
use Rattle.std.proofs.Common.{◌≡◌, ℕ, ◌+◌, eqb, Bool, true, false, cond, List, [], ◌∷◌, Option, Some, None, is_some, nat_le, ◌&&◌, refl, sym, ap, ◌∙◌, subst, arith}
use Rattle.std.specs.Option.{option_map}
use Rattle.std.specs.Prelude.{option_and_then, unwrap_or, if◌then◌else◌}
use Rattle.std.specs.List.{cons_option, list_all}
use Rattle.std.proofs.lemmas.Bool.{and_parts, eqb-true}
use Rattle.std.proofs.lemmas.Option.{same_Some}
use Rattle.pl_model.specs.declared.kinds.Kind.{Kind}
use Rattle.pl_model.specs.declared.whole.Model.{Model}
use Rattle.pl_plan.specs.declared.activity.Activity.{Activity}
use Rattle.pl_plan.specs.Activities.{activity_of, ended, with_end}
use Rattle.pl_plan.specs.Fitting.{kind_of}
use Rattle.pl_plan.specs.Values.{Row, values_of}
use Rattle.pl_plan.specs.Firm.{are_in_range, duration_in, has_amount, is_firm_of, is_firm, end_with, end_in, end_of}
use Rattle.pl_plan.proofs.Ends.{end_exchanged}
use Rattle.pl_plan.proofs.Lookups.{swapped, found-exchanged}
use Rattle.pl_msg.specs.declared.message.Message.TheVariants as message
use Rattle.pl_entry.specs.declared.reply.Reply.{Reply}
use Rattle.pl_entry.specs.declared.reply.Reply.TheVariants as reply
use Rattle.pl_semantics.specs.declared.plan_state.PlanState.{PlanState}
use Rattle.pl_semantics.specs.PlanStates.{found, is_committed}
use Rattle.pl_semantics.specs.Whole.{IsWhole}
use Rattle.pl_semantics.proofs.Found.{found_id}
use Rattle.pl_update.specs.Changes.Changes.{measured_to, CanMeasure}
use Rattle.pl_update.proofs.AboutChanges.Measuring.{values_same}
use Rattle.pl_machine.specs.Messages.{has_begun, end_reply, measured_reply, until_reply}
use Rattle.pl_laws.specs.Accepted.{ends_told}
use Rattle.pl_laws.specs.Standing.{ended_at, last_end, StaysBelow}

-- ---- an end that is measured is one of a firm activity

begun_and : (begun : Bool) (r : Reply) → (if begun then r else reply.NotBegun) ≡ reply.Done → begun ≡ true
begun_and true r e = refl
begun_and false r e = absurd (cc)

pub firm_by_reply : (s : PlanState) (id moment : ℕ) → until_reply s id moment ≡ reply.Done → is_firm s.model s.plan.activities id ≡ true
firm_by_reply s id moment done = by (found s id) refl done
  where
    by : (o : Option Activity) → found s id ≡ o → measured_reply s o moment ≡ reply.Done → is_firm s.model s.plan.activities id ≡ true
    by None here e = absurd (let d : reply.NotBegun ≡ reply.Done = e in (cc))
    by (Some a) here e =
        let firm = is_firm s.model s.plan.activities a.id in
        let parts = and_parts (is_committed s a) (nat_le a.start s.moment && firm) (begun_and (has_begun s a) (end_reply a.start moment) e) in
        subst (λ (n : ℕ). is_firm s.model s.plan.activities n ≡ true) (found_id id s.plan.activities a here) (and_parts (nat_le a.start s.moment) firm parts.1).1

-- a firm activity ends at its measured end
ends_by : (in_range : Bool) (d : Option ℕ) (amounts : Bool) (start moment : ℕ) → (in_range && is_some d && amounts) ≡ true → (if in_range && is_some d && amounts then option_map (λ n. unwrap_or (Some moment) (start + n)) d else None) ≡ Some moment
ends_by true (Some d) true start moment firm = refl
ends_by true (Some d) false start moment firm = absurd (cc)
ends_by true None amounts start moment firm = absurd (cc)
ends_by false d amounts start moment firm = absurd (cc)

firm_ends : (model : Model) (a : Activity) (moment : ℕ) (values : Row) → is_firm_of model.horizon (kind_of model a) values ≡ true → end_in model (Some (ended moment a)) values ≡ Some moment
firm_ends model a moment values firm = by (kind_of model a) firm
  where
    by : (o : Option Kind) → is_firm_of model.horizon o values ≡ true → option_and_then (λ k. end_with model.horizon k a.start (Some moment) values) o ≡ Some moment
    by None e = absurd (cc)
    by (Some k) e = ends_by (are_in_range 0 k.params values) (duration_in model.horizon k values) (list_all (has_amount values) k.reservations) a.start moment e

-- ---- the activities

module _ (s : PlanState) (id moment : ℕ) (whole : IsWhole s) (can : CanMeasure s id moment) (firm : is_firm s.model s.plan.activities id ≡ true) where
  abbrev xs : List Activity
  xs = s.plan.activities

  abbrev ys : List Activity
  ys = with_end id moment s.plan.activities

  -- what is found after it
  found_then : (q : ℕ) (a : Activity) → activity_of q xs ≡ Some a → activity_of q ys ≡ Some (cond (eqb id q) (ended moment a) a)
  found_then q a here =
      ap (activity_of q) (end_exchanged id moment xs 0 can.a whole.rising can.here) ∙ found-exchanged (ended moment can.a) xs q
      ∙ ap (λ (n : ℕ). cond (eqb n q) (swapped (ended moment can.a) (activity_of q xs)) (activity_of q xs)) (found_id id xs can.a can.here) ∙ by (eqb id q) refl
    where
      by : (b : Bool) → eqb id q ≡ b → cond b (swapped (ended moment can.a) (activity_of q xs)) (activity_of q xs) ≡ Some (cond b (ended moment a) a)
      by false e = here
      by true e =
          let same : can.a ≡ a = same_Some can.a a (sym can.here ∙ ap (λ (n : ℕ). activity_of n xs) (eqb-true id q e) ∙ here) in
          ap (swapped (ended moment can.a)) here ∙ ap (λ (z : Activity). Some (ended moment z)) same

  same : (q : ℕ) → values_of s.model ys q ≡ values_of s.model xs q
  same q = values_same s id moment whole can.a can.here can q

  stands : (q : ℕ) (a : Activity) → activity_of q xs ≡ Some a → activity_of q ys ≡ Some (ended_at (ends_told q (message.Until id moment ∷ [])) a)
  stands q a here = found_then q a here ∙ by (eqb id q)
    where
      by : (b : Bool) → Some (cond b (ended moment a) a) ≡ Some (ended_at (cons_option (if b then Some moment else None) []) a)
      by true = refl
      by false = refl

  ends : (q : ℕ) (a : Activity) → activity_of q xs ≡ Some a → end_of s.model ys q ≡ last_end (ends_told q (message.Until id moment ∷ [])) (end_of s.model xs q)
  unfolding end_of is_firm
  ends q a here =
      ap (λ (o : Option Activity). end_in s.model o (values_of s.model ys q)) (found_then q a here)
      ∙ ap (end_in s.model (Some (cond (eqb id q) (ended moment a) a))) (same q) ∙ by (eqb id q) refl
    where
      by : (b : Bool) → eqb id q ≡ b → end_in s.model (Some (cond b (ended moment a) a)) (values_of s.model xs q) ≡ last_end (cons_option (if b then Some moment else None) []) (end_in s.model (activity_of q xs) (values_of s.model xs q))
      by false e = ap (λ (o : Option Activity). end_in s.model o (values_of s.model xs q)) (sym here)
      by true e =
          let own : is_firm_of s.model.horizon (option_and_then (kind_of s.model) (activity_of q xs)) (values_of s.model xs q) ≡ true = subst (λ (n : ℕ). is_firm_of s.model.horizon (option_and_then (kind_of s.model) (activity_of n xs)) (values_of s.model xs n) ≡ true) (eqb-true id q e) firm in
          firm_ends s.model a moment (values_of s.model xs q) (subst (λ (o : Option Activity). is_firm_of s.model.horizon (option_and_then (kind_of s.model) o) (values_of s.model xs q) ≡ true) here own)

  pub stays_measured : StaysBelow s.committed (message.Until id moment ∷ []) s (measured_to id moment s)
  stays_measured = record {
    committed = omega arith;
    stands = λ q a here early. stands q a here;
    values = λ q a here early. same a.id;
    ends = λ q a here early. subst (λ (n : ℕ). end_of s.model ys n ≡ last_end (ends_told q (message.Until id moment ∷ [])) (end_of s.model xs n)) (sym (found_id q xs a here)) (ends q a here);
  }
