-- A message ends a run exactly where its line has `end` as its only token.
use Rattle.std.proofs.Common.{◌≡◌, ℕ, List, [], ◌∷◌, length, Bool, true, false, Option, Some, None, if◌then◌else◌, nat_le, nat_lt, Result, Ok, Err, refl, ap, sym, ◌∙◌}
use Rattle.std.specs.Prelude.{codes, bytes_eq}
use Rattle.std.specs.List.{list_any}
use Rattle.std.proofs.lemmas.Slice.Eq.{bytes_eq-Decides}
use Rattle.pl_lists.specs.Judgements.{◌>>=◌}
use Rattle.pl_text.specs.declared.token.Token.{Token}
use Rattle.pl_text.specs.declared.fault.TextFault.{TextFault}
use Rattle.pl_text.specs.Tokens.{token_text, tokens_of}
use Rattle.pl_model.specs.declared.timelines.Timeline.{Timeline}
use Rattle.pl_model.specs.declared.timelines.Timeline.TheVariants as timeline
use Rattle.pl_facts.specs.declared.goal.Goal.{Goal}
use Rattle.pl_facts.specs.Goals.{is_numbered}
use Rattle.pl_msg.specs.declared.fault.ParseFault.{ParseFault}
use Rattle.pl_msg.specs.declared.fault.ParseFault.TheVariants as fault
use Rattle.pl_msg.specs.declared.message.Message.{Message}
use Rattle.pl_msg.specs.declared.message.Message.TheVariants as message
use Rattle.pl_msg.specs.declared.telemetry.Value.{Value}
use Rattle.pl_msg.specs.declared.telemetry.Value.TheVariants as said
use Rattle.pl_msg.specs.Reads.{Read}
use Rattle.pl_msg.specs.Words.{says, number_in, name_in, without_fault}
use Rattle.pl_msg.specs.Names.{timeline_named, state_named}
use Rattle.pl_msg.specs.Goals.{goal_in}
use Rattle.pl_msg.specs.Telemetry.{value_by, level_by, state_with, state_by, told_by, telemetry_in}
use Rattle.pl_msg.specs.Messages.{tick_in, ended_by, until_in, halt_in, said_in, message_of}
use Rattle.pl_entry.specs.declared.reply.Reply.{Reply}
use Rattle.pl_entry.specs.declared.reply.Reply.TheVariants as reply
use Rattle.pl_semantics.specs.declared.plan_state.PlanState.{PlanState}
use Rattle.pl_plan.specs.declared.activity.Activity.{Activity}
use Rattle.pl_semantics.specs.PlanStates.{floor_of, found}
use Rattle.pl_input.specs.Words.{is_only, is_line_of, end_word}
use Rattle.pl_machine.specs.Messages.{has_begun, measured_reply, fault_reply, read_reply, line_reply}

abbrev pub is_ended : Reply → Bool
is_ended reply.Ended = true
is_ended _ = false

-- ---- replies that end nothing

goal_ends : (a b c : Bool) → is_ended (if a then reply.DuplicateGoal else if b then reply.TooLate else if c then reply.TooManyGoals else reply.Done) ≡ false
goal_ends true b c = refl
goal_ends false true c = refl
goal_ends false false true = refl
goal_ends false false false = refl

tick_ends : (a b : Bool) → is_ended (if a then reply.TickBack else if b then reply.TickBeyond else reply.Done) ≡ false
tick_ends true b = refl
tick_ends false true = refl
tick_ends false false = refl

begun_ends : (a b : Bool) → is_ended (if a then (if b then reply.EndBack else reply.Done) else reply.NotBegun) ≡ false
begun_ends true true = refl
begun_ends true false = refl
begun_ends false b = refl

measured_ends : (s : PlanState) (o : Option Activity) (moment : ℕ) → is_ended (measured_reply s o moment) ≡ false
measured_ends s None moment = refl
measured_ends s (Some a) moment = begun_ends (has_begun s a) (nat_le moment a.start)

fault_ends : (e : ParseFault) → is_ended (fault_reply e) ≡ false
fault_ends fault.BadLine = refl
fault_ends fault.UnknownName = refl
fault_ends fault.OutOfRange = refl
fault_ends fault.Memory = refl

-- a message that is read ends nothing
pub record GoesOn (s : PlanState) (limit : ℕ) (r : Read Message) : Type 0 where
  pub on : is_ended (read_reply s limit r) ≡ false

module _ (s : PlanState) (limit : ℕ) where
  bad_line : (e : ParseFault) → GoesOn s limit (Err e)
  bad_line e = record { on = fault_ends e }

  told_on : (line n : ℕ) → GoesOn s limit (Ok (message.TeleState line n))
  told_on line n = record { on = refl }

  goal_on : (g : Goal) → GoesOn s limit (Ok (message.Goal g))
  goal_on g = record { on = goal_ends (list_any (is_numbered g.number) s.goals) (nat_lt g.latest (floor_of s)) (nat_le limit (length s.goals)) }

  tick_on : (n : ℕ) → GoesOn s limit (Ok (message.Tick n))
  tick_on n = record { on = tick_ends (nat_le n s.moment) (nat_lt s.model.horizon n) }

  until_on : (id moment : ℕ) → GoesOn s limit (Ok (message.Until id moment))
  until_on id moment = record { on = measured_ends s (found s id) moment }

  halt_on : GoesOn s limit (Ok message.Halt)
  halt_on = record { on = refl }

  then_on : {X : Type 0} (r : Read X) (f : X → Read Message) → ((x : X) → GoesOn s limit (f x)) → GoesOn s limit (r >>= f)
  then_on (Ok x) f each = each x
  then_on (Err e) f each = bad_line e

  if_on : (b : Bool) (x y : Read Message) → GoesOn s limit x → GoesOn s limit y → GoesOn s limit (if b then x else y)
  if_on true x y one other = one
  if_on false x y one other = other

  level_on : (n : ℕ) (v : Value) → GoesOn s limit (level_by n v)
  level_on n (said.Number m) = if_on (nat_le m 1000000000000) _ _ (record { on = refl }) (bad_line fault.OutOfRange)
  level_on n (said.Name name) = bad_line fault.OutOfRange

  state_on : (n : ℕ) (o : Option ℕ) → GoesOn s limit (state_with n o)
  state_on n None = bad_line fault.UnknownName
  state_on n (Some state) = told_on n state

  states_on : (n : ℕ) (states : List (List ℕ)) (line : List ℕ) (v : Value) → GoesOn s limit (state_by n states line v)
  states_on n states line (said.Number m) = bad_line fault.UnknownName
  states_on n states line (said.Name name) = state_on n (state_named states (token_text line name))

  line_on : (line : List ℕ) (v : Value) (o : Option (ℕ × Timeline)) → GoesOn s limit (told_by line v o)
  line_on line v None = bad_line fault.UnknownName
  line_on line v (Some (n, timeline.Capacity name most)) = bad_line fault.UnknownName
  line_on line v (Some (n, timeline.Level name least most start)) = level_on n v
  line_on line v (Some (n, timeline.States name states start any steps)) = states_on n states line v

  telemetry_on : (line : List ℕ) (ts : List Token) → GoesOn s limit (telemetry_in s.model line ts)
  unfolding telemetry_in
  telemetry_on line [] = bad_line fault.BadLine
  telemetry_on line (a ∷ []) = bad_line fault.BadLine
  telemetry_on line (a ∷ b ∷ []) =
      then_on (name_in line a) _ (λ t. then_on (value_by line b b.kind) _ (λ v. line_on line v (timeline_named s.model (token_text line t))))
  telemetry_on line (a ∷ b ∷ c ∷ more) = bad_line fault.BadLine

  goals_on : (line : List ℕ) (ts : List Token) → GoesOn s limit (goal_in s.model line ts >>= λ goal. Ok (message.Goal goal))
  goals_on line ts = then_on (goal_in s.model line ts) _ goal_on

  ticks_on : (ts : List Token) → GoesOn s limit (tick_in ts)
  ticks_on [] = bad_line fault.BadLine
  ticks_on (a ∷ []) = then_on (number_in a.kind) _ tick_on
  ticks_on (a ∷ b ∷ more) = bad_line fault.BadLine

  ended_on : (id moment : ℕ) → GoesOn s limit (ended_by s.model.horizon id moment)
  ended_on id moment = if_on (nat_le moment s.model.horizon) _ _ (until_on id moment) (bad_line fault.OutOfRange)

  untils_on : (ts : List Token) → GoesOn s limit (until_in s.model ts)
  untils_on [] = bad_line fault.BadLine
  untils_on (a ∷ []) = bad_line fault.BadLine
  untils_on (a ∷ b ∷ []) = then_on (number_in a.kind) _ (λ id. then_on (number_in b.kind) _ (λ moment. ended_on id moment))
  untils_on (a ∷ b ∷ c ∷ more) = bad_line fault.BadLine

  halts_on : (ts : List Token) → GoesOn s limit (halt_in ts)
  halts_on [] = halt_on
  halts_on (a ∷ more) = bad_line fault.BadLine

  -- ---- by the first word

  several_on : (line : List ℕ) (a b : Token) (more : List Token) → GoesOn s limit (said_in s.model line (a ∷ b ∷ more))
  unfolding said_in
  several_on line a b more =
      if_on (says line a (codes "goal")) _ _ (goals_on line (b ∷ more))
      (if_on (says line a (codes "tele")) _ _ (telemetry_on line (b ∷ more))
      (if_on (says line a (codes "tick")) _ _ (ticks_on (b ∷ more))
      (if_on (says line a (codes "until")) _ _ (untils_on (b ∷ more))
      (if_on (says line a (codes "halt")) _ _ (halts_on (b ∷ more))
      (if_on (says line a (codes "end")) _ _ (bad_line fault.BadLine) (bad_line fault.BadLine))))))

  -- another word is not `end`
  by_word : (word last : Bool) (x rest : Read Message) → (word ≡ true → last ≡ false) → GoesOn s limit x → is_ended (read_reply s limit rest) ≡ last → is_ended (read_reply s limit (if word then x else rest)) ≡ last
  by_word true last x rest apart on more = on.on ∙ sym (apart refl)
  by_word false last x rest apart on more = more

  by_end : (last : Bool) → is_ended (read_reply s limit (if last then Ok message.End else Err fault.BadLine)) ≡ last
  by_end true = refl
  by_end false = refl

  alone : (line : List ℕ) (t : Token) → is_ended (read_reply s limit (said_in s.model line (t ∷ []))) ≡ says line t end_word
  unfolding said_in
  alone line t =
      by_word (says line t (codes "goal")) (says line t end_word) _ _ (other (codes "goal") refl) (goals_on line [])
      (by_word (says line t (codes "tele")) (says line t end_word) _ _ (other (codes "tele") refl) (telemetry_on line [])
      (by_word (says line t (codes "tick")) (says line t end_word) _ _ (other (codes "tick") refl) (ticks_on [])
      (by_word (says line t (codes "until")) (says line t end_word) _ _ (other (codes "until") refl) (untils_on [])
      (by_word (says line t (codes "halt")) (says line t end_word) _ _ (other (codes "halt") refl) (halts_on [])
      (by_end (says line t end_word))))))
    where
      other : (word : List ℕ) → bytes_eq word end_word ≡ false → says line t word ≡ true → says line t end_word ≡ false
      other word apart e = ap (λ (bytes : List ℕ). bytes_eq bytes end_word) ((bytes_eq-Decides (token_text line t) word).0 e) ∙ apart

  ends_by : (line : List ℕ) (r : Result (List Token) TextFault) → is_ended (read_reply s limit (without_fault r >>= said_in s.model line)) ≡ is_only end_word line r
  unfolding said_in
  ends_by line (Err e) = refl
  ends_by line (Ok []) = refl
  ends_by line (Ok (t ∷ [])) = alone line t
  ends_by line (Ok (a ∷ b ∷ more)) = (several_on line a b more).on

  pub line_ends : (line : List ℕ) → is_ended (line_reply s limit line) ≡ is_line_of end_word line
  unfolding line_reply message_of is_line_of
  line_ends line = ends_by line (tokens_of line)
