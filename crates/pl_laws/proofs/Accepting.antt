-- The messages that were accepted in a log, entry by entry, and what they leave of the ends of activities.
use Rattle.std.proofs.Common.{◌≡◌, ℕ, zero, suc, ◌<◌, ◌≤◌, List, [], ◌∷◌, Option, Some, None, Contains, refl, sym, ◌∙◌, ap, arith}
use Rattle.std.specs.List.{cons_option}
use Rattle.std.proofs.lemmas.List.Elements.{Contains-append_right}
use Rattle.pl_model.specs.declared.whole.Model.{Model}
use Rattle.pl_plan.specs.declared.activity.Activity.{Activity}
use Rattle.pl_plan.specs.Activities.{ended}
use Rattle.pl_entry.specs.declared.event.Event.{Event}
use Rattle.pl_entry.specs.declared.reply.Reply.{Reply}
use Rattle.pl_entry.proofs.DueLaws.{contains_first}
use Rattle.pl_msg.specs.declared.message.Message.{Message}
use Rattle.pl_msg.specs.declared.message.Message.TheVariants as message
use Rattle.pl_semantics.specs.declared.plan_state.PlanState.{PlanState}
use Rattle.pl_semantics.specs.PlanStates.{end_at}
use Rattle.pl_plan.specs.Values.{values_of}
use Rattle.pl_plan.specs.Firm.{end_of}
use Rattle.pl_laws.specs.Accepted.{accepted, NoneHalts, end_told, ends_told}
use Rattle.pl_laws.specs.Standing.{ended_at, last_end, StaysBelow}

-- the message of one entry, where there is one
abbrev pub one_message : Option Message → List Message
one_message o = cons_option o []

-- ---- an end that is measured again

pub same_start : (moments : List ℕ) (a : Activity) → (ended_at moments a).start ≡ a.start
same_start [] a = refl
same_start (moment ∷ more) a = same_start more (ended moment a)

pub same_id : (moments : List ℕ) (a : Activity) → (ended_at moments a).id ≡ a.id
same_id [] a = refl
same_id (moment ∷ more) a = same_id more (ended moment a)

ended_then : (o : Option ℕ) (more : List ℕ) (a : Activity) → ended_at (cons_option o more) a ≡ ended_at more (ended_at (cons_option o []) a)
ended_then None more a = refl
ended_then (Some moment) more a = refl

last_then : (o : Option ℕ) (more : List ℕ) (before : Option ℕ) → last_end (cons_option o more) before ≡ last_end more (last_end (cons_option o []) before)
last_then None more before = refl
last_then (Some moment) more before = refl

ends_then : (id : ℕ) (o : Option Message) (more : List Message) (a : Activity) → ended_at (ends_told id (cons_option o more)) a ≡ ended_at (ends_told id more) (ended_at (ends_told id (one_message o)) a)
ends_then id None more a = refl
ends_then id (Some m) more a = ended_then (end_told id m) (ends_told id more) a

lasts_then : (id : ℕ) (o : Option Message) (more : List Message) (before : Option ℕ) → last_end (ends_told id (cons_option o more)) before ≡ last_end (ends_told id more) (last_end (ends_told id (one_message o)) before)
lasts_then id None more before = refl
lasts_then id (Some m) more before = last_then (end_told id m) (ends_told id more) before

-- ---- none halts

pub none_before : (o : Option Message) (more : List Message) → NoneHalts (cons_option o more) → NoneHalts (one_message o)
none_before None more none (k, lt, is) = absurd (omega (arith, lt))
none_before (Some m) more none among = none (first among)
  where
    first : Contains (m ∷ []) message.Halt → Contains (m ∷ more) message.Halt
    first (zero, lt, is) = (zero, omega arith, is)
    first (suc k, lt, is) = absurd (omega (arith, lt))

pub none_behind : (o : Option Message) (more : List Message) → NoneHalts (cons_option o more) → NoneHalts more
none_behind None more none among = none among
none_behind (Some m) more none among = none (Contains-append_right (m ∷ []) more message.Halt among)

-- a halt is one that halts
pub halts : NoneHalts (message.Halt ∷ []) → ⊥
halts none = none (contains_first [] message.Halt)

-- ---- what stays through one entry and through those behind it

-- less is asked for
pub lower : {ms : List Message} (h h2 : ℕ) (s s2 : PlanState) → h2 ≤ h → StaysBelow h ms s s2 → StaysBelow h2 ms s s2
lower {ms} h h2 s s2 le stays = record {
  committed = (let most : h ≤ s2.committed = stays.committed in omega (arith, le, most));
  stands = λ id a here early. stays.stands id a here (omega (arith, early, le));
  values = λ id a here early. stays.values id a here (omega (arith, early, le));
  ends = λ id a here early. stays.ends id a here (omega (arith, early, le));
}

pub stays_through : (h h2 : ℕ) (o : Option Message) (more : List Message) (s s2 s3 : PlanState) → h ≤ h2 → StaysBelow h (one_message o) s s2 → StaysBelow h2 more s2 s3 → StaysBelow h (cons_option o more) s s3
stays_through h h2 o more s s2 s3 le one rest = record {
  committed = (let most : h2 ≤ s3.committed = rest.committed in omega (arith, le, most));
  stands = λ id a here early. rest.stands id (then' id a) (one.stands id a here early) (still id a early) ∙ ap (λ (b : Activity). Some b) (sym (ends_then id o more a));
  values = λ id a here early. at_same values_of s3 id a ∙ rest.values id (then' id a) (one.stands id a here early) (still id a early) ∙ sym (at_same values_of s2 id a) ∙ one.values id a here early;
  ends = λ id a here early.
      at_same end_of s3 id a ∙ rest.ends id (then' id a) (one.stands id a here early) (still id a early)
      ∙ ap (last_end (ends_told id more)) (sym (at_same end_of s2 id a) ∙ one.ends id a here early) ∙ sym (lasts_then id o more (end_at s a));
}
  where
    then' : ℕ → Activity → Activity
    then' id a = ended_at (ends_told id (one_message o)) a

    still : (id : ℕ) (a : Activity) → a.start < h → (then' id a).start < h2
    still id a early = let same : (then' id a).start ≡ a.start = same_start (ends_told id (one_message o)) a in omega (arith, same, early, le)

    -- values and ends go by the id alone
    at_same : {X : Type 0} (f : Model → List Activity → ℕ → X) (v : PlanState) (id : ℕ) (a : Activity) → f v.model v.plan.activities a.id ≡ f v.model v.plan.activities (then' id a).id
    at_same {X} f v id a = ap (f v.model v.plan.activities) (sym (same_id (ends_told id (one_message o)) a))

-- the message that is accepted goes by the model and the reply
pub accepted_is : (model model2 : Model) (happened : Event) (answer answer2 : Reply) → model2 ≡ model → answer ≡ answer2 → accepted model2 happened answer2 ≡ accepted model happened answer
accepted_is model model2 happened answer answer2 same answers = ap (λ (m : Model). accepted m happened answer2) same ∙ ap (accepted model happened) (sym answers)
