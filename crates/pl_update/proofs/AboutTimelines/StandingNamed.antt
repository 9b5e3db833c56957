-- What holds of all that is asked of timelines that hold it, holds of all that they hold.
use Rattle.std.proofs.Common.{◌≡◌, ℕ, eqb, Bool, true, false, not, cond, List, [], ◌∷◌, ◌++◌, get_or, Option, Some, None, refl, sym, ap, ◌∙◌, subst, arith, ℤ, pos, ◌≤ℤ◌}
use Rattle.std.specs.Prelude.{All, slice_get}
use Rattle.std.specs.Option.{option_map}
use Rattle.std.specs.List.{flat_map}
use Rattle.std.proofs.lemmas.Int.{ints}
use Rattle.std.proofs.lemmas.Bool.{eqb-true, eq-eqb}
use Rattle.std.proofs.lemmas.List.Elements.{All-nil, All-cons, All-head, All-tail, All-weaker}
use Rattle.pl_points.specs.Sums.{total}
use Rattle.pl_model.specs.declared.timelines.Timeline.{Timeline}
use Rattle.pl_model.specs.declared.timelines.Timeline.TheVariants as timeline
use Rattle.pl_state.specs.declared.reservation.Setting.{Setting}
use Rattle.pl_state.specs.declared.reservation.Must.{Must}
use Rattle.pl_plan.specs.declared.activity.Activity.{Activity}
use Rattle.pl_plan.specs.Activities.{AreRising}
use Rattle.pl_plan.proofs.Climbs.{all_at}
use Rattle.pl_semantics.specs.declared.plan_state.PlanState.{PlanState}
use Rattle.pl_semantics.specs.declared.demand.Demand.{Demand}
use Rattle.pl_semantics.specs.declared.demand.Asked.{Asked}
use Rattle.pl_semantics.specs.declared.demand.Asked.TheVariants as asked
use Rattle.pl_semantics.specs.PlanStates.{found}
use Rattle.pl_semantics.specs.Whole.{IsWhole}
use Rattle.pl_semantics.specs.Owners.{named_by}
use Rattle.pl_semantics.specs.Demands.{demands_at, demands_of}
use Rattle.pl_semantics.proofs.Naming.{demands_named}
use Rattle.pl_semantics.proofs.Naming as naming
use Rattle.pl_detect.specs.Bounds as bounds
use Rattle.pl_detect.proofs.Bounded.{bounded_at, few_of}
use Rattle.pl_update.specs.declared.timelines.line.Line.{Line}
use Rattle.pl_update.specs.declared.timelines.line.Line.TheVariants.{Capacity, Level, States}
use Rattle.pl_update.specs.Timelines.Held.{held, held_in, held_at, part_at, asked_at, Hold, one}
use Rattle.pl_update.specs.Timelines.Framed.{bare, idle, AreFramed, AreLinesOf}
use Rattle.pl_update.specs.Timelines.Named.{IsNamedAs, IsNamed, HoldsNamed, AreNamed}
use Rattle.pl_update.specs.Timelines.Mending.{IsOfSort, CanAsk}
use Rattle.pl_update.proofs.AboutTimelines.Listing.{total_least, total_ones}
use Rattle.pl_update.proofs.AboutTimelines.StandingApart.{count, count_least}
use Rattle.pl_update.proofs.AboutTimelines.StandingLines.{frame_at}

-- ---- tests

-- counts what fails the test
abbrev pub against : (Asked → Bool) → Asked → ℤ
against P a = count (not (P a))

none_against : (P : ℕ → Asked → Bool) (line : ℕ) (ds : List Demand) → All (λ d. P d.line d.asked ≡ true) ds → asked_at ds line (against (P line)) ≡ pos 0
none_against P line [] all = refl
none_against P line (d ∷ ds) all = omega (arith, ints, by (eqb d.line line) refl, none_against P line ds (All-tail (λ (x : Demand). P x.line x.asked ≡ true) d ds all))
  where
    by : (b : Bool) → eqb d.line line ≡ b → cond b (against (P line) d.asked) (pos 0) ≡ pos 0
    by true e =
        let here : P d.line d.asked ≡ true = All-head (λ (x : Demand). P x.line x.asked ≡ true) d ds all in
        let same : P line d.asked ≡ true = subst (λ n. P n d.asked ≡ true) (eqb-true d.line line e) here in
        ap (λ b. count (not b)) same
    by false e = refl

each_passes : {T : Type 0} (f : T → Bool) (xs : List T) → total (λ x. count (not (f x))) xs ≤ℤ pos 0 → All (λ x. f x ≡ true) xs
each_passes f [] none = All-nil (λ x. f x ≡ true)
each_passes f (x ∷ xs) none =
    All-cons (λ y. f y ≡ true) x xs
    (by (f x) (omega (arith, ints, none, total_least (λ y. count (not (f y))) (λ y. count_least (not (f y))) xs)))
    (each_passes f xs (omega (arith, ints, none, count_least (not (f x)))))
  where
    by : (b : Bool) → count (not b) ≤ℤ pos 0 → b ≡ true
    by true le = refl
    by false le = absurd (omega (arith, ints, le))

abbrev pub Passes : (Asked → Bool) → Line → Type 0
Passes P (Capacity c) = Unit {0}
Passes P (Level l) = Unit {0}
Passes P (States x) = All (λ (y : Setting). P (asked.Set y) ≡ true) x.sets × All (λ (m : Must). P (asked.Must m) ≡ true) x.musts

passes : (P : Asked → Bool) (l : Line) → held (against P) l ≡ pos 0 → Passes P l
passes P (Capacity c) none = tt
passes P (Level l) none = tt
passes P (States x) none =
    let sets : pos 0 ≤ℤ total (λ (y : Setting). count (not (P (asked.Set y)))) x.sets = total_least (λ (y : Setting). count (not (P (asked.Set y)))) (λ y. count_least (not (P (asked.Set y)))) x.sets in
    let musts : pos 0 ≤ℤ total (λ (m : Must). count (not (P (asked.Must m)))) x.musts = total_least (λ (m : Must). count (not (P (asked.Must m)))) (λ m. count_least (not (P (asked.Must m)))) x.musts in (
      each_passes (λ (y : Setting). P (asked.Set y)) x.sets (omega (arith, ints, none, musts)),
      each_passes (λ (m : Must). P (asked.Must m)) x.musts (omega (arith, ints, none, sets)),
    )

-- what passes of all that is asked of a timeline passes of all that it holds
pub all_pass : (P : ℕ → Asked → Bool) (lines : List Line) (ds : List Demand) → Hold lines ds → All (λ d. P d.line d.asked ≡ true) ds → (line : ℕ) (l : Line) → slice_get lines line ≡ Some l → Passes (P line) l
all_pass P lines ds hold all line l here = passes (P line) l (sym (ap (held_in (against (P line))) here) ∙ (hold line (against (P line)) ∙ none_against P line ds all))

-- ---- names

abbrev is_line : ℕ → Option ℕ → Bool
is_line line None = false
is_line line (Some n) = eqb n line

line_is : (line : ℕ) (o : Option ℕ) → is_line line o ≡ true → o ≡ Some line
line_is line None e = absurd (cc)
line_is line (Some n) e = ap (λ m. Some m) (eqb-true n line e)

is_of_line : (line : ℕ) (o : Option ℕ) → o ≡ Some line → is_line line o ≡ true
is_of_line line o e = ap (is_line line) e ∙ eq-eqb line line refl

abbrev names : PlanState → ℕ → Asked → Bool
names s line (asked.Use u) = true
names s line (asked.Effect e) = true
names s line (asked.Set x) = is_line line (named_by s x.id x.index)
names s line (asked.Must m) = is_line line (named_by s m.id m.index)

named_passes : (s : PlanState) (line : ℕ) (a : Asked) → IsNamedAs s line a → names s line a ≡ true
named_passes s line (asked.Use u) is = refl
named_passes s line (asked.Effect e) is = refl
named_passes s line (asked.Set x) is = is_of_line line (named_by s x.id x.index) is
named_passes s line (asked.Must m) is = is_of_line line (named_by s m.id m.index) is

holds_named : (s : PlanState) (line : ℕ) (l : Line) → Passes (names s line) l → HoldsNamed s line l
holds_named s line (Capacity c) pass = tt
holds_named s line (Level l) pass = tt
holds_named s line (States x) pass = (
  All-weaker (λ (y : Setting). is_line line (named_by s y.id y.index) ≡ true) (λ y. named_by s y.id y.index ≡ Some line) (λ y e. line_is line (named_by s y.id y.index) e) x.sets pass.0,
  All-weaker (λ (m : Must). is_line line (named_by s m.id m.index) ≡ true) (λ m. named_by s m.id m.index ≡ Some line) (λ m e. line_is line (named_by s m.id m.index) e) x.musts pass.1,
)

pub named_held : (s : PlanState) (lines : List Line) (ds : List Demand) → Hold lines ds → All (IsNamed s) ds → AreNamed s lines
named_held s lines ds hold named line l here = holds_named s line l (all_pass (names s) lines ds hold (All-weaker (IsNamed s) (λ d. names s d.line d.asked ≡ true) (λ d is. named_passes s d.line d.asked is) ds named) line l here)

to_named : (s : PlanState) (line : ℕ) (a : Asked) → naming.NamedIn s line a → IsNamedAs s line a
to_named s line (asked.Use u) is = tt
to_named s line (asked.Effect e) is = tt
to_named s line (asked.Set x) is = is
to_named s line (asked.Must m) is = is

pub all_named : (s : PlanState) → AreRising s.plan.activities → All (IsNamed s) (demands_of s)
all_named s rising = All-weaker (naming.IsNamed s) (IsNamed s) (λ d is. to_named s d.line d.asked is) (demands_of s) (demands_named s rising)

pub are_named : (s : PlanState) (lines : List Line) → AreRising s.plan.activities → AreLinesOf s lines → AreNamed s lines
are_named s lines rising are = named_held s lines (demands_of s) are.hold (all_named s rising)

-- ---- one activity

all_front : {T : Type 0} (P : T → Type 0) (xs ys : List T) → All P (xs ++ ys) → All P xs × All P ys
all_front P [] ys all = (All-nil P, all)
all_front P (x ∷ xs) ys all =
    let more = all_front P xs ys (All-tail P x (xs ++ ys) all) in
    (All-cons P x xs (All-head P x (xs ++ ys) all) more.0, more.1)

pub all_flat : {T X : Type 0} (P : X → Type 0) (rule : T → List X) (xs : List T) → All P (flat_map rule xs) → All (λ x. All P (rule x)) xs
all_flat P rule [] all = All-nil (λ x. All P (rule x))
all_flat P rule (x ∷ xs) all =
    let both = all_front P (rule x) (flat_map rule xs) all in
    All-cons (λ y. All P (rule y)) x xs both.0 (all_flat P rule xs both.1)

pub named_one : (s : PlanState) (a : Activity) → AreRising s.plan.activities → found s a.id ≡ Some a → All (IsNamed s) (demands_at s a)
named_one s a rising here = (all_at (λ (b : Activity). All (IsNamed s) (demands_at s b)) s.plan.activities a.id a (all_flat (IsNamed s) (demands_at s) s.plan.activities (all_named s rising)) here).0

-- ---- sorts

idle_sort : (s : PlanState) (line : ℕ) (t : Timeline) (a : Asked) → bounds.IsOfSort (Some t) a → IsOfSort (Some (idle s (line, t))) a
idle_sort s line (timeline.Capacity name most) (asked.Use u) is = refl
idle_sort s line (timeline.Capacity name most) (asked.Effect e) is = absurd is
idle_sort s line (timeline.Capacity name most) (asked.Set x) is = absurd is
idle_sort s line (timeline.Capacity name most) (asked.Must m) is = absurd is
idle_sort s line (timeline.Level name least most start) (asked.Use u) is = absurd is
idle_sort s line (timeline.Level name least most start) (asked.Effect e) is = refl
idle_sort s line (timeline.Level name least most start) (asked.Set x) is = absurd is
idle_sort s line (timeline.Level name least most start) (asked.Must m) is = absurd is
idle_sort s line (timeline.States name all start any steps) (asked.Use u) is = absurd is
idle_sort s line (timeline.States name all start any steps) (asked.Effect e) is = absurd is
idle_sort s line (timeline.States name all start any steps) (asked.Set x) is = refl
idle_sort s line (timeline.States name all start any steps) (asked.Must m) is = refl

full_sort : (l : Line) (a : Asked) → IsOfSort (Some (bare l)) a → IsOfSort (Some l) a
full_sort (Capacity c) (asked.Use u) is = is
full_sort (Capacity c) (asked.Effect e) is = is
full_sort (Capacity c) (asked.Set x) is = is
full_sort (Capacity c) (asked.Must m) is = is
full_sort (Level l) (asked.Use u) is = is
full_sort (Level l) (asked.Effect e) is = is
full_sort (Level l) (asked.Set x) is = is
full_sort (Level l) (asked.Must m) is = is
full_sort (States x) (asked.Use u) is = is
full_sort (States x) (asked.Effect e) is = is
full_sort (States x) (asked.Set y) is = is
full_sort (States x) (asked.Must m) is = is

no_sort : (a : Asked) → bounds.IsOfSort None a → ⊥
no_sort (asked.Use u) is = is
no_sort (asked.Effect e) is = is
no_sort (asked.Set x) is = is
no_sort (asked.Must m) is = is

pub sort_is : (s : PlanState) (lines : List Line) → AreFramed s lines → (line : ℕ) (a : Asked) → bounds.IsOfSort (slice_get s.model.timelines line) a → IsOfSort (slice_get lines line) a
sort_is s lines framed line a is = by (slice_get lines line) (slice_get s.model.timelines line) (frame_at s lines framed line) is
  where
    by : (o : Option Line) (u : Option Timeline) → option_map bare o ≡ option_map (idle s) (option_map (λ (t : Timeline). (line, t)) u) → bounds.IsOfSort u a → IsOfSort o a
    by o None same of = absurd (no_sort a of)
    by None (Some t) same of = absurd (cc)
    by (Some l) (Some t) same of =
        let is_idle : idle s (line, t) ≡ bare l = cc in
        full_sort l a (subst (λ (z : Line). IsOfSort (Some z) a) is_idle (idle_sort s line t a of))

-- what an activity of a plan asks for may be asked of the plan's timelines
pub can_ask : (s : PlanState) (lines : List Line) (a : Activity) → IsWhole s → AreFramed s lines → found s a.id ≡ Some a → All (CanAsk s lines) (demands_at s a)
can_ask s lines a whole framed here =
    let each : All (bounds.IsDemandOf s.model) (demands_at s a) = (bounded_at s whole a here).each in
    let named : All (IsNamed s) (demands_at s a) = named_one s a whole.rising here in
    λ i d lt. (let of : bounds.IsDemandOf s.model (get_or (demands_at s a) i d) = each i d lt in record {
      bounded = of.bounded;
      sort = sort_is s lines framed (get_or (demands_at s a) i d).line (get_or (demands_at s a) i d).asked of.of_sort;
      named = named i d lt;
    })

-- ---- how many there are

part_one : (line : ℕ) (d : Demand) → part_at line one d ≤ℤ pos 1
part_one line d = by (eqb d.line line)
  where
    by : (b : Bool) → cond b (pos 1) (pos 0) ≤ℤ pos 1
    by true = omega (arith, ints)
    by false = omega (arith, ints)

pub few_asked : (s : PlanState) → IsWhole s → (line : ℕ) → asked_at (demands_of s) line one ≤ℤ pos 320000
few_asked s whole line = omega (arith, ints, total_ones (part_at line one) (part_one line) (demands_of s), few_of s whole)

pub few_held : (s : PlanState) (lines : List Line) → IsWhole s → AreLinesOf s lines → (line : ℕ) → held_at lines line one ≤ℤ pos 320000
few_held s lines whole are line = omega (arith, ints, are.hold line one, few_asked s whole line)
