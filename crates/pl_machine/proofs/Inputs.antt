-- What a message that is accepted may change.
use Rattle.std.proofs.Common.{◌≡◌, ℕ, ◌<◌, ◌^◌, ℤ, pos, ◌≤ℤ◌, List, [], ◌∷◌, length, Bool, true, false, ◌||◌, Option, Some, None, IfSome, is_some, zero, suc, min, if◌then◌else◌, nat_lt, nat_le, slice_get, Ok, ap, refl, arith}
use Rattle.std.specs.List.{list_any}
use Rattle.std.proofs.lemmas.Bool.{leb-false, ltb-false}
use Rattle.std.proofs.lemmas.Grind.{common_steps}
use Rattle.pl_model.specs.declared.parameters.Param.{Param}
use Rattle.pl_model.specs.declared.kinds.Kind.{Kind}
use Rattle.pl_model.specs.declared.timelines.Timeline.{Timeline}
use Rattle.pl_model.specs.declared.timelines.Timeline.TheVariants as timeline
use Rattle.pl_model.specs.declared.whole.Model.{Model}
use Rattle.pl_model.specs.Checked.{params_of}
use Rattle.pl_facts.specs.declared.goal.Goal.{Goal}
use Rattle.pl_facts.specs.Goals.{is_numbered, goal_of}
use Rattle.pl_msg.specs.declared.message.Message.{Message}
use Rattle.pl_msg.specs.Messages.{message_of}
use Rattle.pl_msg.specs.Limits.{FitParams, IsGoalFor, IsLevel, HasState}
use Rattle.pl_entry.specs.declared.reply.Reply.{Reply}
use Rattle.pl_entry.specs.declared.reply.Reply.TheVariants as reply
use Rattle.pl_semantics.specs.declared.plan_state.PlanState.{PlanState}
use Rattle.pl_semantics.specs.Whole.{IsGoalOf}
use Rattle.pl_update.specs.Changes.Changes.{CanTell}
use Rattle.pl_machine.specs.Changes.{CanChange}
use Rattle.pl_machine.specs.declared.change.Change.TheVariants.{Accept, Tell, Tick}
use Rattle.pl_machine.specs.Messages.{goal_reply, tick_reply, message_reply, read_reply, line_reply}

-- ---- goals

none_by : (b rest : Bool) (g : Goal) (found : Option Goal) → (b || rest) ≡ false → (rest ≡ false → found ≡ None) → (if b then Some g else found) ≡ None
none_by true rest g found e more = absurd (cc)
none_by false rest g found e more = more e

none_found : (n : ℕ) (gs : List Goal) → list_any (is_numbered n) gs ≡ false → goal_of n gs ≡ None
none_found n [] e = refl
none_found n (g ∷ gs) e = none_by (is_numbered n g) (list_any (is_numbered n) gs) g (goal_of n gs) e (none_found n gs)

not_first : (b : Bool) (rest : Reply) → (if b then reply.DuplicateGoal else rest) ≡ reply.Done → b ≡ false
not_first true rest e = absurd (cc)
not_first false rest e = refl

fresh_number : (s : PlanState) (limit : ℕ) (g : Goal) → goal_reply s limit g ≡ reply.Done → goal_of g.number s.goals ≡ None
fresh_number s limit g e = none_found g.number s.goals (not_first (list_any (is_numbered g.number) s.goals) _ e)

as_many : (ps : List Param) (vs : List (Option ℤ)) → FitParams ps vs → length vs ≡ length ps
as_many [] [] fit = refl
as_many [] (v ∷ vs) fit = absurd fit
as_many (p ∷ ps) [] fit = absurd fit
as_many (p ∷ ps) (v ∷ vs) fit = let more = as_many ps vs fit.1 in omega (arith, more)

presets_fit : (o : Option Kind) (d : Kind) (vs : List (Option ℤ)) → o ≡ Some d → IfSome o (λ k. FitParams k.params vs) → length vs ≡ length (params_of o)
presets_fit None d vs there fit = absurd (cc)
presets_fit (Some k) d vs there fit = as_many k.params vs fit

some_kind : (kinds : List Kind) (n : ℕ) → n < length kinds → (k : Kind) × (slice_get kinds n ≡ Some k)
some_kind [] n lt = absurd (omega arith)
some_kind (k ∷ kinds) zero lt = (k, refl)
some_kind (k ∷ kinds) (suc n) lt = some_kind kinds n (omega arith)

goal_of_model : (m : Model) (g : Goal) → IsGoalFor m g → IsGoalOf m g
goal_of_model m g fits =
    let there = some_kind m.kinds g.kind fits.kind in
    record { kind = fits.kind; ordered = fits.window; before = fits.horizon; presets = presets_fit (slice_get m.kinds g.kind) there.0 g.presets there.1 fits.presets }

pub can_accept : (s : PlanState) (limit : ℕ) (g : Goal) → IsGoalFor s.model g → goal_reply s limit g ≡ reply.Done → CanChange s (Accept g)
can_accept s limit g fits done = (fresh_number s limit g done, goal_of_model s.model g fits, fits.kept)

-- ---- telemetry

some_line : (ts : List Timeline) (n : ℕ) → n < length ts → (t : Timeline) × (slice_get ts n ≡ Some t)
some_line [] n lt = absurd (omega arith)
some_line (t ∷ ts) zero lt = (t, refl)
some_line (t ∷ ts) (suc n) lt = some_line ts n (omega arith)

level_told : (o : Option Timeline) (d : Timeline) (v : ℤ) → o ≡ Some d → IfSome o IsLevel → pos 0 ≤ℤ v → v ≤ℤ pos 1000000000000 → CanTell v o
level_told None d v there fits low high = absurd (cc)
level_told (Some (timeline.Capacity name most)) d v there fits low high = absurd fits
level_told (Some (timeline.Level name least most start)) d v there fits low high = (low, high)
level_told (Some (timeline.States name states start any steps)) d v there fits low high = absurd fits

pub can_tell_level : (s : PlanState) (line : ℕ) (v : ℤ) → line < length s.model.timelines → IfSome (slice_get s.model.timelines line) IsLevel → pos 0 ≤ℤ v → v ≤ℤ pos 1000000000000 → CanChange s (Tell line v)
can_tell_level s line v lt fits low high = let there = some_line s.model.timelines line lt in level_told (slice_get s.model.timelines line) there.0 v there.1 fits low high

state_told : (o : Option Timeline) (d : Timeline) (n : ℕ) → o ≡ Some d → IfSome o (HasState n) → CanTell (pos n) o
state_told None d n there fits = absurd (cc)
state_told (Some (timeline.Capacity name most)) d n there fits = absurd fits
state_told (Some (timeline.Level name least most start)) d n there fits = absurd fits
state_told (Some (timeline.States name states start any steps)) d n there fits = fits

pub can_tell_state : (s : PlanState) (line n : ℕ) → line < length s.model.timelines → IfSome (slice_get s.model.timelines line) (HasState n) → CanChange s (Tell line (pos n))
can_tell_state s line n lt fits = let there = some_line s.model.timelines line lt in state_told (slice_get s.model.timelines line) there.0 n there.1 fits

-- ---- ticks

in_time : (back beyond : Bool) → (if back then reply.TickBack else if beyond then reply.TickBeyond else reply.Done) ≡ reply.Done → (back ≡ false) × (beyond ≡ false)
in_time true beyond e = absurd (cc)
in_time false true e = absurd (cc)
in_time false false e = (refl, refl)

pub can_tick : (s : PlanState) (moment : ℕ) → tick_reply s moment ≡ reply.Done → CanChange s (Tick moment)
can_tick s moment done =
    let both = in_time (nat_le moment s.moment) (nat_lt s.model.horizon moment) done in
    (leb-false moment s.moment both.0, ltb-false s.model.horizon moment both.1)

-- ---- what is made of a line, by what is read of it

pub reply_is : (s : PlanState) (limit : ℕ) (line : List ℕ) (m : Message) → message_of s.model line ≡ Ok m → line_reply s limit line ≡ message_reply s limit m
unfolding line_reply
reply_is s limit line m is = ap (read_reply s limit) is

-- ---- what is counted of the goals

found_by : (b rest : Bool) (g : Goal) (found : Option Goal) → is_some found ≡ rest → is_some (if b then Some g else found) ≡ (b || rest)
found_by true rest g found e = refl
found_by false rest g found e = e

pub found_any : (n : ℕ) (gs : List Goal) → is_some (goal_of n gs) ≡ list_any (is_numbered n) gs
found_any n [] = refl
found_any n (g ∷ gs) = found_by (is_numbered n g) (list_any (is_numbered n) gs) g (goal_of n gs) (found_any n gs)

pub counted : (limit count : ℕ) → limit < 2 ^ 32 → nat_le limit (min count 4294967295) ≡ nat_le limit count
counted limit count lt = grind (arith, common_steps)

-- ---- the end
