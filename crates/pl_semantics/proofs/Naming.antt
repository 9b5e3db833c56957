-- The sets and musts of a timeline are those of reservations that name it.
use Rattle.std.proofs.Common.{◌≡◌, ℕ, zero, suc, ◌+◌, eqb, Bool, true, false, cond, List, [], ◌∷◌, ◌++◌, refl, subst, arith}
use Rattle.std.specs.Prelude.{All, slice_get, ◌&&◌, not, nat_le, Option, Some, None}
use Rattle.std.specs.List.{flat_map, fold}
use Rattle.std.proofs.lemmas.Bool.{eqb-true}
use Rattle.std.proofs.lemmas.List.Elements.{All-nil, All-cons, All-head, All-tail, All-append, All-map, All-weaker}
use Rattle.pl_model.specs.declared.reservations.Reservation.{Reservation}
use Rattle.pl_model.specs.declared.reservations.Reservation.TheVariants as reservation
use Rattle.pl_points.specs.declared.span.Span.{Span}
use Rattle.pl_lists.specs.Lists.{front, back}
use Rattle.pl_state.specs.declared.reservation.Setting.{Setting}
use Rattle.pl_state.specs.declared.reservation.Must.{Must}
use Rattle.pl_state.specs.declared.answer.BrokenMust.{BrokenMust}
use Rattle.pl_state.specs.declared.answer.BadSet.{BadSet}
use Rattle.pl_state.specs.Sets.{set_before, with_set, bad_set, is_counted, bad_from}
use Rattle.pl_state.specs.Musts.{must_before, with_must, broken_spans, broken_one, broken_all}
use Rattle.pl_plan.specs.declared.activity.Activity.{Activity}
use Rattle.pl_plan.specs.Activities.{AreRising}
use Rattle.pl_plan.specs.Fitting.{kind_of}
use Rattle.pl_plan.proofs.Kept.{each_found}
use Rattle.pl_semantics.specs.declared.plan_state.PlanState.{PlanState}
use Rattle.pl_semantics.specs.declared.demand.Demand.{Demand}
use Rattle.pl_semantics.specs.declared.demand.Asked.{Asked}
use Rattle.pl_semantics.specs.declared.demand.Asked.TheVariants as asked
use Rattle.pl_semantics.specs.PlanStates.{found, row_of, end_at, reservations_in, reservations_of, numbered, of_found}
use Rattle.pl_semantics.specs.Demands.{asked_for, demands_until, demands_at, demands_of, asked_of, set_in, must_in, sets_of, musts_of}
use Rattle.pl_semantics.specs.Owners.{line_named, named_by}

-- ---- demands

-- what is set or needed on a timeline is asked for by a reservation that names it
abbrev pub NamedIn : PlanState → ℕ → Asked → Type 0
NamedIn s line (asked.Use u) = Unit {0}
NamedIn s line (asked.Effect e) = Unit {0}
NamedIn s line (asked.Set x) = named_by s x.id x.index ≡ Some line
NamedIn s line (asked.Must m) = named_by s m.id m.index ≡ Some line

abbrev pub IsNamed : PlanState → Demand → Type 0
IsNamed s d = NamedIn s d.line d.asked

numbers : {T : Type 0} (ys xs : List T) (n : ℕ) → ((i : ℕ) → slice_get xs (n + i) ≡ slice_get ys i) → All (λ p. slice_get xs p.0 ≡ Some p.1) (numbered n ys)
numbers [] xs n same = All-nil (λ p. slice_get xs p.0 ≡ Some p.1)
numbers (y ∷ ys) xs n same = All-cons (λ p. slice_get xs p.0 ≡ Some p.1) (n, y) (numbered (suc n) ys)
    (subst (λ m. slice_get xs m ≡ Some y) (omega arith) (same zero))
    (numbers ys xs (suc n) (λ i. subst (λ m. slice_get xs m ≡ slice_get ys i) (omega arith) (same (suc i))))

named_at : (s : PlanState) (a : Activity) (p : ℕ × Reservation) → found s a.id ≡ Some a → slice_get (reservations_in (kind_of s.model a)) p.0 ≡ Some p.1 → named_by s a.id p.0 ≡ Some (line_named p.1)
named_at s a p is here = rw (is, here) refl

asked_named : (s : PlanState) (a : Activity) (end : ℕ) (p : ℕ × Reservation) → named_by s a.id p.0 ≡ Some (line_named p.1) → IsNamed s (asked_for a.id a.start end (row_of s a) p)
asked_named s a end (n, reservation.Take line e) is = tt
asked_named s a end (n, reservation.Raise line e point) is = tt
asked_named s a end (n, reservation.Lower line e point) is = tt
asked_named s a end (n, reservation.Put line state point) is = is
asked_named s a end (n, reservation.Must line state) is = is

named_until : (s : PlanState) (a : Activity) (end : ℕ) → found s a.id ≡ Some a → All (IsNamed s) (demands_until s a end)
named_until s a end is = All-map (IsNamed s) (asked_for a.id a.start end (row_of s a)) (reservations_of s a)
    (All-weaker (λ p. slice_get (reservations_in (kind_of s.model a)) p.0 ≡ Some p.1) (λ p. IsNamed s (asked_for a.id a.start end (row_of s a) p)) (λ p here. asked_named s a end p (named_at s a p is here)) (reservations_of s a)
    (numbers (reservations_in (kind_of s.model a)) (reservations_in (kind_of s.model a)) 0 (λ i. subst (λ m. slice_get (reservations_in (kind_of s.model a)) m ≡ slice_get (reservations_in (kind_of s.model a)) i) (omega arith) refl)))

named_of : (s : PlanState) (a : Activity) → found s a.id ≡ Some a → All (IsNamed s) (demands_at s a)
unfolding demands_at
named_of s a is = by (end_at s a)
  where
    by : (o : Option ℕ) → All (IsNamed s) (of_found (demands_until s a) o)
    by None = All-nil (IsNamed s)
    by (Some end) = named_until s a end is

named_all : (s : PlanState) (xs : List Activity) → All (λ a. found s a.id ≡ Some a) xs → All (IsNamed s) (flat_map (demands_at s) xs)
named_all s [] each = All-nil (IsNamed s)
named_all s (a ∷ xs) each = All-append (IsNamed s) (demands_at s a) (flat_map (demands_at s) xs) (named_of s a (All-head (λ a. found s a.id ≡ Some a) a xs each)) (named_all s xs (All-tail (λ a. found s a.id ≡ Some a) a xs each))

pub demands_named : (s : PlanState) → AreRising s.plan.activities → All (IsNamed s) (demands_of s)
demands_named s rising = named_all s s.plan.activities (each_found s.plan.activities rising)

-- ---- sorted lists of what is asked

all_front : {T : Type 0} (P : T → Type 0) (test : T → Bool) (xs : List T) → All P xs → All P (front test xs)
all_front P test [] all = all
all_front P test (x ∷ xs) all = by (test x) (all_front P test xs (All-tail P x xs all))
  where
    by : (b : Bool) → All P (front test xs) → All P (cond b (x ∷ front test xs) [])
    by true more = All-cons P x (front test xs) (All-head P x xs all) more
    by false more = All-nil P

all_back : {T : Type 0} (P : T → Type 0) (test : T → Bool) (xs : List T) → All P xs → All P (back test xs)
all_back P test [] all = all
all_back P test (x ∷ xs) all = by (test x) (all_back P test xs (All-tail P x xs all))
  where
    by : (b : Bool) → All P (back test xs) → All P (cond b (back test xs) (x ∷ xs))
    by true more = more
    by false more = all

pub all_in : {T : Type 0} (P : T → Type 0) (test : T → Bool) (x : T) (xs : List T) → P x → All P xs → All P (front test xs ++ x ∷ back test xs)
all_in P test x xs here all = All-append P (front test xs) (x ∷ back test xs) (all_front P test xs all) (All-cons P x (back test xs) here (all_back P test xs all))

pub all_fold : {T : Type 0} (P : T → Type 0) (put : List T → T → List T) → ((ys : List T) (x : T) → P x → All P ys → All P (put ys x)) → (xs ys : List T) → All P xs → All P ys → All P (fold put ys xs)
all_fold P put keeps [] ys all sorted = sorted
all_fold P put keeps (x ∷ xs) ys all sorted = all_fold P put keeps xs (put ys x) (All-tail P x xs all) (keeps ys x (All-head P x xs all) sorted)

-- ---- of one timeline

abbrev pub IsSetOf : PlanState → ℕ → Setting → Type 0
IsSetOf s line x = named_by s x.id x.index ≡ Some line

abbrev pub IsMustOf : PlanState → ℕ → Must → Type 0
IsMustOf s line m = named_by s m.id m.index ≡ Some line

set_named : (s : PlanState) (line named : ℕ) (w : Asked) → NamedIn s named w → named ≡ line → All (IsSetOf s line) (set_in w)
set_named s line named (asked.Use u) is same = All-nil (IsSetOf s line)
set_named s line named (asked.Effect e) is same = All-nil (IsSetOf s line)
set_named s line named (asked.Set x) is same = All-cons (IsSetOf s line) x [] (subst (λ n. named_by s x.id x.index ≡ Some n) same is) (All-nil (IsSetOf s line))
set_named s line named (asked.Must m) is same = All-nil (IsSetOf s line)

must_named : (s : PlanState) (line named : ℕ) (w : Asked) → NamedIn s named w → named ≡ line → All (IsMustOf s line) (must_in w)
must_named s line named (asked.Use u) is same = All-nil (IsMustOf s line)
must_named s line named (asked.Effect e) is same = All-nil (IsMustOf s line)
must_named s line named (asked.Set x) is same = All-nil (IsMustOf s line)
must_named s line named (asked.Must m) is same = All-cons (IsMustOf s line) m [] (subst (λ n. named_by s m.id m.index ≡ Some n) same is) (All-nil (IsMustOf s line))

pub all_asked : {T : Type 0} (P : T → Type 0) (R : ℕ → Asked → Type 0) (line : ℕ) (what : Asked → List T) → ((named : ℕ) (w : Asked) → R named w → named ≡ line → All P (what w)) → (ds : List Demand) → All (λ d. R d.line d.asked) ds → All P (flat_map (asked_of what line) ds)
all_asked P R line what each [] all = All-nil P
all_asked P R line what each (d ∷ ds) all = All-append P (asked_of what line d) (flat_map (asked_of what line) ds) (by (eqb d.line line) refl) (all_asked P R line what each ds (All-tail (λ d. R d.line d.asked) d ds all))
  where
    by : (b : Bool) → eqb d.line line ≡ b → All P (cond b (what d.asked) [])
    by true e = each d.line d.asked (All-head (λ d. R d.line d.asked) d ds all) (eqb-true d.line line e)
    by false e = All-nil P

pub sets_named : (s : PlanState) (line : ℕ) → AreRising s.plan.activities → All (IsSetOf s line) (sets_of line (demands_of s))
sets_named s line rising = all_fold (IsSetOf s line) (λ sorted x. with_set x sorted) (λ ys x here all. all_in (IsSetOf s line) (set_before x) x ys here all) (flat_map (asked_of set_in line) (demands_of s)) []
    (all_asked (IsSetOf s line) (NamedIn s) line set_in (set_named s line) (demands_of s) (demands_named s rising)) (All-nil (IsSetOf s line))

pub musts_named : (s : PlanState) (line : ℕ) → AreRising s.plan.activities → All (IsMustOf s line) (musts_of line (demands_of s))
musts_named s line rising = all_fold (IsMustOf s line) (λ sorted m. with_must m sorted) (λ ys m here all. all_in (IsMustOf s line) (must_before m) m ys here all) (flat_map (asked_of must_in line) (demands_of s)) []
    (all_asked (IsMustOf s line) (NamedIn s) line must_in (must_named s line) (demands_of s) (demands_named s rising)) (All-nil (IsMustOf s line))

-- ---- what is broken

abbrev pub IsBrokenOf : PlanState → ℕ → BrokenMust → Type 0
IsBrokenOf s line b = named_by s b.id b.index ≡ Some line

abbrev pub IsBadOf : PlanState → ℕ → BadSet → Type 0
IsBadOf s line x = named_by s x.id x.index ≡ Some line

broken_named : (s : PlanState) (line : ℕ) (m : Must) → IsMustOf s line m → (spans : List Span) → All (IsBrokenOf s line) (broken_spans m spans)
broken_named s line m is [] = All-nil (IsBrokenOf s line)
broken_named s line m is (p ∷ more) = All-cons (IsBrokenOf s line) (record { id = m.id; index = m.index; from = p.from; to = p.to }) (broken_spans m more) is (broken_named s line m is more)

pub all_broken : (s : PlanState) (line : ℕ) (state : ℕ → ℕ) (moment horizon : ℕ) (ms : List Must) → All (IsMustOf s line) ms → All (IsBrokenOf s line) (broken_all state moment horizon ms)
all_broken s line state moment horizon [] all = All-nil (IsBrokenOf s line)
all_broken s line state moment horizon (m ∷ ms) all = All-append (IsBrokenOf s line) (broken_one state moment horizon m) (broken_all state moment horizon ms) (broken_named s line m (All-head (IsMustOf s line) m ms all) _) (all_broken s line state moment horizon ms (All-tail (IsMustOf s line) m ms all))

pub all_bad : (s : PlanState) (line : ℕ) (allowed : ℕ → ℕ → Bool) (base horizon moment state : ℕ) (xs : List Setting) → All (IsSetOf s line) xs → All (IsBadOf s line) (bad_from allowed base horizon moment state xs)
all_bad s line allowed base horizon moment state [] all = All-nil (IsBadOf s line)
all_bad s line allowed base horizon moment state (x ∷ xs) all = All-append (IsBadOf s line) (cond test (bad_set x ∷ []) []) (bad_from allowed base horizon moment (cond (is_counted base horizon x) x.state state) xs) (by test) (all_bad s line allowed base horizon moment (cond (is_counted base horizon x) x.state state) xs (All-tail (IsSetOf s line) x xs all))
  where
    test : Bool
    test = is_counted base horizon x && (nat_le moment x.at && not (allowed state x.state))

    by : (b : Bool) → All (IsBadOf s line) (cond b (bad_set x ∷ []) [])
    by true = All-cons (IsBadOf s line) (bad_set x) [] (All-head (IsSetOf s line) x xs all) (All-nil (IsBadOf s line))
    by false = All-nil (IsBadOf s line)
