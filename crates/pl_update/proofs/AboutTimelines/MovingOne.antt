-- One timeline as something is asked of it, or given back.
use Rattle.std.proofs.Common.{◌≡◌, ◌≤◌, ℕ, length, Bool, true, false, cond, List, [], ◌∷◌, ◌++◌, refl, ap, ◌∙◌, arith, ℤ, pos, ◌+ℤ◌, ◌≤ℤ◌, neg_ℤ}
use Rattle.std.specs.Prelude.{All, ◌||◌, Result, IfOk}
use Rattle.std.proofs.lemmas.Result.{MatchResult-weaker}
use Rattle.std.proofs.lemmas.Int.{ints}
use Rattle.std.proofs.lemmas.Bool.Decides.{Decides-int_eq}
use Rattle.std.proofs.lemmas.List.Elements.{All-cons, All-head, All-tail}
use Rattle.pl_lists.proofs.Numbers.{eqb_itself}
use Rattle.pl_points.specs.Sums.{total}
use Rattle.pl_points.specs.Standing.{stands, without}
use Rattle.pl_points.proofs.Totals.{total-push, total-without}
use Rattle.pl_capacity.specs.declared.reservation.Use.{Use}
use mir.Val.{to_z, of_z}
use mir.Syntax.{w64}
use Rattle.pl_capacity.specs.Uses.{Standing as CapacityStanding, IsUse, use_of, same_use}
use Rattle.pl_capacity.proofs.Shifts.{raw, same_exact as use_exact}
use Rattle.pl_level.specs.declared.reservation.Effect.{Effect}
use Rattle.pl_level.specs.Effects.{Standing as LevelStanding, IsEffect, effect_of, same_effect}
use Rattle.pl_level.proofs.Levels.{same_exact as effect_exact}
use Rattle.pl_state.specs.declared.reservation.Setting.{Setting}
use Rattle.pl_state.specs.declared.reservation.Must.{Must}
use Rattle.pl_state.specs.Sets.{set_key, set_before, same_setting, with_set}
use Rattle.pl_state.specs.Musts.{must_key, must_before, same_must, with_must}
use Rattle.pl_state.specs.Timelines.{Standing as StateStanding}
use Rattle.pl_state.proofs.Keys.{sorted_with, sorted_without}
use Rattle.pl_state.proofs.Indexing.{exact_must}
use Rattle.pl_semantics.specs.declared.plan_state.PlanState.{PlanState}
use Rattle.pl_semantics.specs.declared.demand.Asked.{Asked}
use Rattle.pl_semantics.specs.declared.demand.Asked.TheVariants as asked
use Rattle.pl_semantics.proofs.Naming.{IsSetOf, IsMustOf, all_in}
use Rattle.pl_conflict.specs.declared.conflict.Conflict.{Conflict}
use Rattle.pl_update.specs.declared.timelines.line.Line.TheVariants.{Capacity, Level, States}
use Rattle.pl_update.specs.Timelines.Held.{held, alike, same_asked}
use Rattle.pl_update.specs.Timelines.Framed.{bare}
use Rattle.pl_update.specs.Timelines.Told.{wrong_with}
use Rattle.pl_update.specs.Timelines.Changed.{IsExchanged, IsLineChanged, HasOne, HasRoom, more_by, less_by}
use Rattle.pl_update.proofs.AboutTimelines.StandingEqual.{set_exact}
use Rattle.pl_update.proofs.AboutTimelines.Listing.{total_nothing, total_put}

-- ---- sums

-- one that is counted stands
counted : {T : Type 0} (same : T → T → Bool) (u : T) (xs : List T) → pos 1 ≤ℤ total (λ x. cond (same x u) (pos 1) (pos 0)) xs → stands same u xs ≡ true
counted same u [] more = absurd (omega (arith, ints, more))
counted same u (x ∷ xs) more = by (counted same u xs) (same x u) more
  where
    by : (pos 1 ≤ℤ total (λ x. cond (same x u) (pos 1) (pos 0)) xs → stands same u xs ≡ true) → (b : Bool) → pos 1 ≤ℤ (cond b (pos 1) (pos 0) +ℤ total (λ x. cond (same x u) (pos 1) (pos 0)) xs) → (b || stands same u xs) ≡ true
    by rest true m = refl
    by rest false m = rest (omega (arith, ints, m))

total_out : {T : Type 0} (same : T → T → Bool) (exact : (x y : T) → same x y ≡ true → x ≡ y) (f : T → ℤ) (xs : List T) (u : T) → stands same u xs ≡ true → total f (without same u xs) ≡ total f xs +ℤ neg_ℤ (f u)
total_out same exact f xs u has = omega (arith, ints, total-without same exact f xs u has)

beside : (a b c d : ℤ) → a ≡ b +ℤ c → a +ℤ d ≡ (b +ℤ d) +ℤ c
beside a b c d e = omega (arith, ints, e)

behind : (a b c d : ℤ) → a ≡ b +ℤ c → d +ℤ a ≡ (d +ℤ b) +ℤ c
behind a b c d e = omega (arith, ints, e)

total_one : {T : Type 0} (xs : List T) → total (λ x. pos 1) xs ≡ pos (length xs)
total_one [] = refl
total_one (x ∷ xs) = omega (arith, ints, total_one xs)

all_without : {T : Type 0} (P : T → Type 0) (same : T → T → Bool) (u : T) (xs : List T) → All P xs → All P (without same u xs)
all_without P same u [] all = all
all_without P same u (x ∷ xs) all = by (same x u) (all_without P same u xs (All-tail P x xs all))
  where
    by : (b : Bool) → All P (without same u xs) → All P (cond b xs (x ∷ without same u xs))
    by true more = All-tail P x xs all
    by false more = All-cons P x (without same u xs) (All-head P x xs all) more

-- what holds of what came out holds of what follows from it
pub ok_then : {X Y : Type 0} (r : Result X Y) {P Q : X → Type 0} → IfOk r P → ((x : X) → P x → Q x) → IfOk r Q
ok_then r h f = MatchResult-weaker r h f (λ y q. q)

-- ---- capacities

-- a use as a program holds it
abbrev pub raw_use : Use → Use
raw_use u = use_of u.from u.to (to_z w64 (of_z w64 u.amount))

pub use_is : (u : Use) → IsUse u → raw_use u ≡ u
use_is u is = ap (use_of u.from u.to) (raw u.amount (omega (arith, ints, is.1), is.2))

pub use_stands : (c : CapacityStanding) (u : Use) → HasOne (Capacity c) (asked.Use u) → stands same_use u c.uses ≡ true
use_stands c u has = counted same_use u c.uses has

pub use_came : (s : PlanState) (line : ℕ) (u : Use) (c c' : CapacityStanding) (went came : List Conflict) → c' ≡ record c { uses = c.uses ++ u ∷ [] } → IsExchanged (wrong_with s line (Capacity c)) (wrong_with s line (Capacity c')) went came
    → IsLineChanged s line (asked.Use u) (more_by (asked.Use u)) (Capacity c) (Capacity c') went came
use_came s line u c c' went came is told = record {
  frame = ap (λ (v : CapacityStanding). bare (Capacity v)) is;
  ordered = λ o. o;
  held = λ f. ap (λ (v : CapacityStanding). held f (Capacity v)) is ∙ total-push (λ x. f (asked.Use x)) c.uses u;
  named = λ n h. h;
  exchanged = told;
}

pub use_went : (s : PlanState) (line : ℕ) (u : Use) (c c' : CapacityStanding) (went came : List Conflict) → stands same_use u c.uses ≡ true → c' ≡ record c { uses = without same_use u c.uses } → IsExchanged (wrong_with s line (Capacity c)) (wrong_with s line (Capacity c')) went came
    → IsLineChanged s line (asked.Use u) (less_by (asked.Use u)) (Capacity c) (Capacity c') went came
use_went s line u c c' went came has is told = record {
  frame = ap (λ (v : CapacityStanding). bare (Capacity v)) is;
  ordered = λ o. o;
  held = λ f. ap (λ (v : CapacityStanding). held f (Capacity v)) is ∙ total_out same_use use_exact (λ x. f (asked.Use x)) c.uses u has;
  named = λ n h. h;
  exchanged = told;
}

pub use_room : (c : CapacityStanding) → HasRoom (Capacity c) → length c.uses ≤ 319999
use_room c room = omega (arith, ints, room, total_one c.uses)

-- ---- levels

-- an effect as a program holds it
abbrev pub raw_effect : Effect → Effect
raw_effect e = effect_of e.at (to_z w64 (of_z w64 e.delta))

pub effect_is : (e : Effect) → IsEffect e → raw_effect e ≡ e
effect_is e is = ap (effect_of e.at) (raw e.delta (is.1, is.2))

pub effect_stands : (l : LevelStanding) (e : Effect) → HasOne (Level l) (asked.Effect e) → stands same_effect e l.effects ≡ true
effect_stands l e has = counted same_effect e l.effects has

pub effect_came : (s : PlanState) (line : ℕ) (e : Effect) (l l' : LevelStanding) (went came : List Conflict) → l' ≡ record l { effects = l.effects ++ e ∷ [] } → IsExchanged (wrong_with s line (Level l)) (wrong_with s line (Level l')) went came
    → IsLineChanged s line (asked.Effect e) (more_by (asked.Effect e)) (Level l) (Level l') went came
effect_came s line e l l' went came is told = record {
  frame = ap (λ (v : LevelStanding). bare (Level v)) is;
  ordered = λ o. o;
  held = λ f. ap (λ (v : LevelStanding). held f (Level v)) is ∙ total-push (λ x. f (asked.Effect x)) l.effects e;
  named = λ n h. h;
  exchanged = told;
}

pub effect_went : (s : PlanState) (line : ℕ) (e : Effect) (l l' : LevelStanding) (went came : List Conflict) → stands same_effect e l.effects ≡ true → l' ≡ record l { effects = without same_effect e l.effects } → IsExchanged (wrong_with s line (Level l)) (wrong_with s line (Level l')) went came
    → IsLineChanged s line (asked.Effect e) (less_by (asked.Effect e)) (Level l) (Level l') went came
effect_went s line e l l' went came has is told = record {
  frame = ap (λ (v : LevelStanding). bare (Level v)) is;
  ordered = λ o. o;
  held = λ f. ap (λ (v : LevelStanding). held f (Level v)) is ∙ total_out same_effect effect_exact (λ x. f (asked.Effect x)) l.effects e has;
  named = λ n h. h;
  exchanged = told;
}

pub effect_room : (l : LevelStanding) → HasRoom (Level l) → length l.effects ≤ 319999
effect_room l room = omega (arith, ints, room, total_one l.effects)

-- ---- states

pub set_stands : (x : StateStanding) (y : Setting) → HasOne (States x) (asked.Set y) → stands same_setting y x.sets ≡ true
set_stands x y has = counted same_setting y x.sets (omega (arith, ints, has, total_nothing x.musts))

pub must_stands : (x : StateStanding) (m : Must) → HasOne (States x) (asked.Must m) → stands same_must m x.musts ≡ true
must_stands x m has = counted same_must m x.musts (omega (arith, ints, has, total_nothing x.sets))

pub set_came : (s : PlanState) (line : ℕ) (y : Setting) (x x' : StateStanding) (went came : List Conflict) → x' ≡ record x { sets = with_set y x.sets } → IsExchanged (wrong_with s line (States x)) (wrong_with s line (States x')) went came
    → IsLineChanged s line (asked.Set y) (more_by (asked.Set y)) (States x) (States x') went came
set_came s line y x x' went came is told = record {
  frame = ap (λ (v : StateStanding). bare (States v)) is;
  ordered = λ o. rw is (sorted_with set_key y x.sets o.0, o.1);
  held = λ f. ap (λ (v : StateStanding). held f (States v)) is ∙ beside _ _ _ _ (total_put (λ z. f (asked.Set z)) (set_before y) y x.sets);
  named = λ n h. rw is (all_in (IsSetOf s line) (set_before y) y x.sets n h.0, h.1);
  exchanged = told;
}

pub set_went : (s : PlanState) (line : ℕ) (y : Setting) (x x' : StateStanding) (went came : List Conflict) → stands same_setting y x.sets ≡ true → x' ≡ record x { sets = without same_setting y x.sets } → IsExchanged (wrong_with s line (States x)) (wrong_with s line (States x')) went came
    → IsLineChanged s line (asked.Set y) (less_by (asked.Set y)) (States x) (States x') went came
set_went s line y x x' went came has is told = record {
  frame = ap (λ (v : StateStanding). bare (States v)) is;
  ordered = λ o. rw is (sorted_without set_key same_setting y x.sets o.0, o.1);
  held = λ f. ap (λ (v : StateStanding). held f (States v)) is ∙ beside _ _ _ _ (total_out same_setting set_exact (λ z. f (asked.Set z)) x.sets y has);
  named = λ n h. rw is (all_without (IsSetOf s line) same_setting y x.sets h.0, h.1);
  exchanged = told;
}

pub must_came : (s : PlanState) (line : ℕ) (m : Must) (x x' : StateStanding) (went came : List Conflict) → x' ≡ record x { musts = with_must m x.musts } → IsExchanged (wrong_with s line (States x)) (wrong_with s line (States x')) went came
    → IsLineChanged s line (asked.Must m) (more_by (asked.Must m)) (States x) (States x') went came
must_came s line m x x' went came is told = record {
  frame = ap (λ (v : StateStanding). bare (States v)) is;
  ordered = λ o. rw is (o.0, sorted_with must_key m x.musts o.1);
  held = λ f. ap (λ (v : StateStanding). held f (States v)) is ∙ behind _ _ _ _ (total_put (λ z. f (asked.Must z)) (must_before m) m x.musts);
  named = λ n h. rw is (h.0, all_in (IsMustOf s line) (must_before m) m x.musts n h.1);
  exchanged = told;
}

pub must_went : (s : PlanState) (line : ℕ) (m : Must) (x x' : StateStanding) (went came : List Conflict) → stands same_must m x.musts ≡ true → x' ≡ record x { musts = without same_must m x.musts } → IsExchanged (wrong_with s line (States x)) (wrong_with s line (States x')) went came
    → IsLineChanged s line (asked.Must m) (less_by (asked.Must m)) (States x) (States x') went came
must_went s line m x x' went came has is told = record {
  frame = ap (λ (v : StateStanding). bare (States v)) is;
  ordered = λ o. rw is (o.0, sorted_without must_key same_must m x.musts o.1);
  held = λ f. ap (λ (v : StateStanding). held f (States v)) is ∙ behind _ _ _ _ (total_out same_must exact_must (λ z. f (asked.Must z)) x.musts m has);
  named = λ n h. rw is (h.0, all_without (IsMustOf s line) same_must m x.musts h.1);
  exchanged = told;
}

-- ---- one is like itself

pub one_alike : (x : Asked) → alike x x ≡ pos 1
one_alike (asked.Use u) = rw (eqb_itself u.from, eqb_itself u.to, (Decides-int_eq u.amount u.amount).1 refl) refl
one_alike (asked.Effect e) = rw (eqb_itself e.at, (Decides-int_eq e.delta e.delta).1 refl) refl
one_alike (asked.Set y) = rw (eqb_itself y.at, eqb_itself y.id, eqb_itself y.index, eqb_itself y.state) refl
one_alike (asked.Must m) = rw (eqb_itself m.from, eqb_itself m.to, eqb_itself m.id, eqb_itself m.index, eqb_itself m.state) refl

pub alike_nonneg : (x y : Asked) → pos 0 ≤ℤ alike x y
alike_nonneg x y = by (same_asked y x)
  where
    by : (b : Bool) → pos 0 ≤ℤ cond b (pos 1) (pos 0)
    by true = omega (arith, ints)
    by false = omega (arith, ints)
