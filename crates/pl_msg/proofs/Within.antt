-- Each number of a message that is read is within its limits.
use Rattle.std.proofs.Common.{◌≡◌, ℕ, zero, suc, ◌+◌, ◌<◌, ◌≤◌, Bool, true, false, cond, List, [], ◌∷◌, length, Ok, refl, ap, subst, arith}
use Rattle.std.specs.Prelude.{ℤ, pos, int_le, Option, Some, None, IfSome, slice_get, codes, bytes_eq, ◌&&◌, nat_le, nat_lt}
use Rattle.std.proofs.lemmas.Option.{slice_get_within, same_Some}
use Rattle.std.proofs.lemmas.Bool.{leb-true, ltb-true, and_parts}
use Rattle.std.proofs.lemmas.Int.{ints}
use Rattle.std.specs.List.{list_all, position_from}
use Rattle.pl_model.specs.declared.kinds.Kind.{Kind}
use Rattle.pl_model.specs.declared.parameters.Param.{Param}
use Rattle.pl_model.specs.declared.whole.Model.{Model}
use Rattle.pl_facts.specs.declared.goal.Goal.{Goal}
use Rattle.pl_text.specs.declared.token.Token.{Token}
use Rattle.pl_text.specs.Tokens.{token_text}
use Rattle.pl_msg.specs.declared.fault.ParseFault.TheVariants as fault
use Rattle.pl_msg.specs.declared.forms.GoalForm.{GoalForm}
use Rattle.pl_msg.specs.declared.presets.Preset.{Preset}
use Rattle.pl_msg.specs.declared.message.Message.{Message}
use Rattle.pl_msg.specs.declared.message.Message.TheVariants as message
use Rattle.pl_msg.specs.declared.telemetry.Value.{Value}
use Rattle.pl_msg.specs.declared.telemetry.Value.TheVariants as said
use Rattle.pl_lists.specs.Judgements.{◌>>=◌, each_made}
use Rattle.pl_lists.proofs.Judging.{bind_ok, if_ok}
use Rattle.pl_lists.proofs.Numbers.{le_from_test}
use Rattle.pl_msg.specs.Reads.{Read}
use Rattle.pl_msg.specs.Words.{says, number_in, name_in}
use Rattle.pl_msg.specs.Names.{first_from, kind_named, timeline_name, timeline_named, state_named, is_free}
use Rattle.pl_msg.specs.Goals.{names_free, is_in_range, given, value_of, place_in, places_in, form_in, goal_of_kind, goal_with, goal_in}
use Rattle.pl_msg.specs.Telemetry.{value_by, level_by, state_with, told_by, telemetry_in}
use Rattle.pl_msg.specs.Messages.{tick_in, ended_by, until_in, halt_in, end_in, said_in}
use Rattle.pl_msg.specs.Limits.{FitsParam, FitParams, IsGoalFor, IsLevel, HasState, IsWithin}
use Rattle.pl_model.specs.declared.timelines.Timeline.{Timeline}
use Rattle.pl_model.specs.declared.timelines.Timeline.TheVariants as timeline

-- what is found stands at its place
abbrev Stands : {X : Type 0} → ℕ → List X → ℕ → X → Type 0
Stands place xs n x = (k : ℕ) × (n ≡ place + k) × (slice_get xs k ≡ Some x)

stands_first : {X : Type 0} (passes : Bool) (place : ℕ) (y : X) (ys : List X) (later : Option (ℕ × X)) (n : ℕ) (x : X) → cond passes (Some (place, y)) later ≡ Some (n, x) → (later ≡ Some (n, x) → Stands (place + 1) ys n x) → Stands place (y ∷ ys) n x
stands_first {X} true place y ys later n x e rest =
    let same = same_Some (place, y) (n, x) e in
    let at : place ≡ n = ap (λ (w : ℕ × X). w.0) same in
    (zero, omega arith, ap Some (ap (λ (w : ℕ × X). w.1) same))
stands_first false place y ys later n x e rest = let there = rest e in let at : n ≡ (place + 1) + there.0 = there.1 in (suc there.0, omega arith, there.2)

pub first_from-Some : {X : Type 0} (test : X → Bool) (place : ℕ) (xs : List X) (n : ℕ) (x : X) → first_from test place xs ≡ Some (n, x) → Stands place xs n x
first_from-Some test place [] n x e = absurd (cc)
first_from-Some test place (y ∷ ys) n x e = stands_first (test y) place y ys (first_from test (place + 1) ys) n x e (first_from-Some test (place + 1) ys n x)

-- the places that are read fit the parameters
fits_param : (line : List ℕ) (ps : List Preset) (param : Param) (value : Option ℤ) → place_in param (given line ps param) ≡ Ok value → FitsParam param value
fits_param line ps param value e = fits_by (is_free param.origin) refl e
  where
    fits_value : (free : is_free param.origin ≡ true) (v : Option ℕ) → place_in param v ≡ Ok value → FitsParam param value
    fits_value free None e = let none : None ≡ value = cc in subst (λ (o : Option ℤ). FitsParam param o) none tt
    fits_value free (Some n) e =
        let there = if_ok (int_le param.low (pos n) && int_le (pos n) param.high) (Ok (Some (pos n))) fault.OutOfRange value e in
        let both = and_parts (int_le param.low (pos n)) (int_le (pos n) param.high) there.0 in
        let some : Some (pos n) ≡ value = cc in
        subst (λ (o : Option ℤ). FitsParam param o) some (free, le_from_test _ _ both.0, le_from_test _ _ both.1)

    fits_by : (free : Bool) → is_free param.origin ≡ free → place_in param (cond free (value_of line ps param.name) None) ≡ Ok value → FitsParam param value
    fits_by true is e = fits_value is (value_of line ps param.name) e
    fits_by false is e = let none : None ≡ value = cc in subst (λ (o : Option ℤ). FitsParam param o) none tt

fit_params : (line : List ℕ) (ps : List Preset) (params : List Param) (values : List (Option ℤ)) → each_made (λ param. place_in param (given line ps param)) params ≡ Ok values → FitParams params values
fit_params line ps [] values e = let none : [] ≡ values = cc in subst (λ (vs : List (Option ℤ)). FitParams [] vs) none tt
fit_params line ps (param ∷ params) values e =
    let one = bind_ok (place_in param (given line ps param)) (λ v. each_made (λ p. place_in p (given line ps p)) params >>= λ vs. Ok (v ∷ vs)) values e in
    let more = bind_ok (each_made (λ p. place_in p (given line ps p)) params) (λ vs. Ok (one.0 ∷ vs)) values one.2 in
    let all : one.0 ∷ more.0 ≡ values = cc (more.2) in
    subst (λ (vs : List (Option ℤ)). FitParams (param ∷ params) vs) all (fits_param line ps param one.0 one.1, fit_params line ps params more.0 more.1)

-- ---- a goal

kind_fits : (model : Model) (line : List ℕ) (form : GoalForm) (number : ℕ) (kind : Kind) (goal : Goal) → slice_get model.kinds number ≡ Some kind → goal_of_kind model.horizon line form number kind ≡ Ok goal → IsGoalFor model goal
unfolding goal_of_kind places_in
kind_fits model line form number kind goal there e =
    let named = if_ok (list_all (names_free line kind.params) form.presets) _ fault.UnknownName goal e in
    let ranged = if_ok (is_in_range model.horizon form) _ fault.OutOfRange goal named.1 in
    let placed = bind_ok (places_in line form.presets kind.params) (λ places. Ok (record { number = form.number; kind = number; earliest = form.earliest; latest = form.latest; must = form.must; presets = places; dropped = false })) goal ranged.1 in
    let outer = and_parts (nat_le 1 form.number && nat_le form.number 1000000000) (nat_le form.earliest form.latest && nat_lt form.latest model.horizon) ranged.0 in
    let sizes = and_parts (nat_le 1 form.number) (nat_le form.number 1000000000) outer.0 in
    let window = and_parts (nat_le form.earliest form.latest) (nat_lt form.latest model.horizon) outer.1 in
    let made : Goal = record { number = form.number; kind = number; earliest = form.earliest; latest = form.latest; must = form.must; presets = placed.0; dropped = false } in
    let same : made ≡ goal = cc (placed.2) in
    subst (λ (g : Goal). IsGoalFor model g) same (record {
      least = leb-true _ _ sizes.0;
      most = leb-true _ _ sizes.1;
      window = leb-true _ _ window.0;
      horizon = ltb-true _ _ window.1;
      kind = slice_get_within model.kinds number kind there;
      presets = rw there (fit_params line form.presets kind.params placed.0 placed.1);
      kept = refl;
    })

found_fits : (model : Model) (line : List ℕ) (form : GoalForm) (goal : Goal) (found : Option (ℕ × Kind)) → ((n : ℕ) (k : Kind) → found ≡ Some (n, k) → slice_get model.kinds n ≡ Some k) → goal_with model.horizon line form found ≡ Ok goal → IsGoalFor model goal
found_fits model line form goal None at e = absurd (cc)
found_fits model line form goal (Some found) at e = kind_fits model line form found.0 found.1 goal (at found.0 found.1 refl) e

there_from_Stands : {X : Type 0} (xs : List X) (n : ℕ) (x : X) → Stands 0 xs n x → slice_get xs n ≡ Some x
there_from_Stands xs n x there = let same : n ≡ there.0 = omega (arith, there.1) in rw same there.2

goal_fits : (model : Model) (line : List ℕ) (tokens : List Token) (goal : Goal) → goal_in model line tokens ≡ Ok goal → IsGoalFor model goal
unfolding goal_in
goal_fits model line tokens goal e =
    let form = bind_ok (form_in line tokens) (λ f. goal_with model.horizon line f (kind_named model (token_text line f.kind))) goal e in
    found_fits model line form.0 goal (kind_named model (token_text line form.0.kind))
    (λ n k h. there_from_Stands model.kinds n k (first_from-Some (λ kind. bytes_eq kind.name (token_text line form.0.kind)) 0 model.kinds n k h)) form.2

-- ---- telemetry

level_fits : (model : Model) (number : ℕ) (value : Value) (m : Message) → number < length model.timelines → IfSome (slice_get model.timelines number) IsLevel → level_by number value ≡ Ok m → IsWithin model m
level_fits model number (said.Name name) m in_lines level e = absurd (cc)
level_fits model number (said.Number n) m in_lines level e =
    let small = if_ok (nat_le n 1000000000000) (Ok (message.TeleLevel number (pos n))) fault.OutOfRange m e in
    let same : message.TeleLevel number (pos n) ≡ m = cc (small.1) in
    let most : n ≤ 1000000000000 = leb-true _ _ small.0 in
    subst (λ (x : Message). IsWithin model x) same (in_lines, level, omega (arith, ints), omega (arith, ints))

position_by : {X : Type 0} (passes : Bool) (place : ℕ) (xs : List X) (n : ℕ) (later : Option ℕ) → cond passes (Some place) later ≡ Some n → (later ≡ Some n → n < (place + 1) + length xs) → n < place + suc (length xs)
position_by true place xs n later e rest = let same : place ≡ n = cc in omega arith
position_by false place xs n later e rest = let below : n < (place + 1) + length xs = rest e in omega arith

position_below : {X : Type 0} (test : X → Bool) (place : ℕ) (xs : List X) (n : ℕ) → position_from test place xs ≡ Some n → n < place + length xs
position_below test place [] n e = absurd (cc)
position_below test place (x ∷ xs) n e = position_by (test x) place xs n (position_from test (place + 1) xs) e (position_below test (place + 1) xs n)

state_fits : (model : Model) (number : ℕ) (states : List (List ℕ)) (name : List ℕ) (m : Message) → number < length model.timelines → ((k : ℕ) → k < length states → IfSome (slice_get model.timelines number) (HasState k)) → (state : Option ℕ) → ((k : ℕ) → state ≡ Some k → k < length states) → state_with number state ≡ Ok m → IsWithin model m
state_fits model number states name m in_lines has None below e = absurd (cc)
state_fits model number states name m in_lines has (Some k) below e =
    let same : message.TeleState number k ≡ m = cc in
    subst (λ (x : Message). IsWithin model x) same (in_lines, has k (below k refl))

told_fits : (model : Model) (line : List ℕ) (value : Value) (m : Message) (found : Option (ℕ × Timeline)) → ((n : ℕ) (t : Timeline) → found ≡ Some (n, t) → slice_get model.timelines n ≡ Some t) → told_by line value found ≡ Ok m → IsWithin model m
told_fits model line value m (Some (number, timeline.Level name least most start)) at e =
    let there = at number (timeline.Level name least most start) refl in
    level_fits model number value m (slice_get_within model.timelines number _ there) (rw there tt) e
told_fits model line (said.Name token) m (Some (number, timeline.States name states start any steps)) at e =
    let there = at number (timeline.States name states start any steps) refl in
    state_fits model number states (token_text line token) m (slice_get_within model.timelines number _ there) (λ k below. rw there below)
    (state_named states (token_text line token)) (λ k h. let below : k < 0 + length states = position_below (λ state. bytes_eq state (token_text line token)) 0 states k h in omega arith) e
told_fits model line _ m _ at e = absurd (cc)

telemetry_fits : (model : Model) (line : List ℕ) (tokens : List Token) (m : Message) → telemetry_in model line tokens ≡ Ok m → IsWithin model m
unfolding telemetry_in
telemetry_fits model line [] m e = absurd (cc)
telemetry_fits model line (t ∷ []) m e = absurd (cc)
telemetry_fits model line (t ∷ v ∷ []) m e =
    let name = bind_ok (name_in line t) (λ n. value_by line v v.kind >>= λ value. told_by line value (timeline_named model (token_text line n))) m e in
    let value = bind_ok (value_by line v v.kind) (λ value. told_by line value (timeline_named model (token_text line name.0))) m name.2 in
    told_fits model line value.0 m (timeline_named model (token_text line name.0))
    (λ n x h. there_from_Stands model.timelines n x (first_from-Some (λ w. bytes_eq (timeline_name w) (token_text line name.0)) 0 model.timelines n x h)) value.2
telemetry_fits model line (t ∷ v ∷ w ∷ more) m e = absurd (cc)

-- ---- a message

tick_fits : (model : Model) (tokens : List Token) (m : Message) → tick_in tokens ≡ Ok m → IsWithin model m
tick_fits model [] m e = absurd (cc)
tick_fits model (t ∷ []) m e =
    let n = bind_ok (number_in t.kind) (λ k. Ok (message.Tick k)) m e in
    let same : message.Tick n.0 ≡ m = cc (n.2) in
    subst (λ (x : Message). IsWithin model x) same tt
tick_fits model (t ∷ u ∷ more) m e = absurd (cc)

ended_fits : (model : Model) (id moment : ℕ) (m : Message) → ended_by model.horizon id moment ≡ Ok m → IsWithin model m
ended_fits model id moment m e =
    let within = if_ok (nat_le moment model.horizon) (Ok (message.Until id moment)) fault.OutOfRange m e in
    let same : message.Until id moment ≡ m = cc (within.1) in
    subst (λ (x : Message). IsWithin model x) same (leb-true _ _ within.0)

until_fits : (model : Model) (tokens : List Token) (m : Message) → until_in model tokens ≡ Ok m → IsWithin model m
until_fits model [] m e = absurd (cc)
until_fits model (t ∷ []) m e = absurd (cc)
until_fits model (t ∷ u ∷ []) m e =
    let id = bind_ok (number_in t.kind) (λ i. number_in u.kind >>= λ n. ended_by model.horizon i n) m e in
    let moment = bind_ok (number_in u.kind) (λ n. ended_by model.horizon id.0 n) m id.2 in
    ended_fits model id.0 moment.0 m moment.2
until_fits model (t ∷ u ∷ v ∷ more) m e = absurd (cc)

halt_fits : (model : Model) (tokens : List Token) (m : Message) → halt_in tokens ≡ Ok m → IsWithin model m
halt_fits model [] m e = let same : message.Halt ≡ m = cc in subst (λ (x : Message). IsWithin model x) same tt
halt_fits model (t ∷ more) m e = absurd (cc)

end_fits : (model : Model) (tokens : List Token) (m : Message) → end_in tokens ≡ Ok m → IsWithin model m
end_fits model [] m e = let same : message.End ≡ m = cc in subst (λ (x : Message). IsWithin model x) same tt
end_fits model (t ∷ more) m e = absurd (cc)

-- whichever of two is taken
either_fits : (model : Model) (test : Bool) (one other : Read Message) (m : Message) → (one ≡ Ok m → IsWithin model m) → (other ≡ Ok m → IsWithin model m) → cond test one other ≡ Ok m → IsWithin model m
either_fits model true one other m h k e = h e
either_fits model false one other m h k e = k e

pub said_fits : (model : Model) (line : List ℕ) (tokens : List Token) (m : Message) → said_in model line tokens ≡ Ok m → IsWithin model m
unfolding said_in
said_fits model line [] m e = absurd (cc)
said_fits model line (word ∷ tokens) m e =
    either_fits model (says line word (codes "goal")) _ _ m
    (λ h. let goal = bind_ok (goal_in model line tokens) (λ g. Ok (message.Goal g)) m h in
    let same : message.Goal goal.0 ≡ m = cc (goal.2) in
    subst (λ (x : Message). IsWithin model x) same (goal_fits model line tokens goal.0 goal.1))
    (either_fits model (says line word (codes "tele")) _ _ m (telemetry_fits model line tokens m)
    (either_fits model (says line word (codes "tick")) _ _ m (tick_fits model tokens m)
    (either_fits model (says line word (codes "until")) _ _ m (until_fits model tokens m)
    (either_fits model (says line word (codes "halt")) _ _ m (halt_fits model tokens m)
    (either_fits model (says line word (codes "end")) _ _ m (end_fits model tokens m) (λ h. absurd (cc))))))) e
