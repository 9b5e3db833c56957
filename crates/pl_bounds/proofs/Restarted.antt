-- What is wrong with activities but for their starts stays wrong at other starts.
use Rattle.std.proofs.Common.{◌≡◌, ℕ, ◌+◌, eqb, Bool, true, false, List, [], ◌∷◌, ◌++◌, map, length, Option, Some, None, refl, sym, ap, ◌∙◌, append_assoc}
use Rattle.std.specs.Prelude.{◌||◌, ◌&&◌, not, is_none, slice_get, slice_index_or}
use Rattle.std.specs.List.{flat_map}
use Rattle.std.specs.Option.{option_map}
use Rattle.std.proofs.Math.Bool.{or-true}
use Rattle.pl_conflict.specs.declared.conflict.Conflict.{Conflict}
use Rattle.pl_conflict.specs.declared.conflict.Code.{Code}
use Rattle.pl_conflict.specs.declared.conflict.Code.TheVariants as code
use Rattle.pl_conflict.specs.Order.{has}
use Rattle.pl_conflict.proofs.Sorting.{same, same_is, has-append, same_itself}
use Rattle.pl_model.specs.declared.expressions.Expr.{Expr}
use Rattle.pl_model.specs.declared.kinds.Kind.{Kind}
use Rattle.pl_model.specs.declared.parameters.Param.{Param}
use Rattle.pl_model.specs.declared.reservations.Reservation.{Reservation}
use Rattle.pl_model.specs.Checked.{params_of}
use Rattle.pl_plan.specs.declared.activity.Activity.{Activity}
use Rattle.pl_plan.specs.Activities.{activity_of}
use Rattle.pl_plan.specs.Fitting.{kind_of, alternatives_of, chosen_slots, chosen_slots_of}
use Rattle.pl_plan.specs.Known.{is_unset, is_bad_param, is_bad_duration, is_bad_amount}
use Rattle.pl_plan.specs.Moves.{KeepsTree}
use Rattle.pl_plan.specs.Values.{Row, values_of, bindings_in, bindings_at, binding_of}
use Rattle.pl_plan.proofs.Kept.{found-changed}
use Rattle.pl_semantics.specs.declared.plan_state.PlanState.{PlanState}
use Rattle.pl_semantics.specs.PlanStates.{found, row_of, end_at, is_committed, if_planned, numbered, of_found, reservations_in, when}
use Rattle.pl_semantics.specs.Activities.{at_start, late_at, unset_at, bad_values_at, undetailed_at, past_end, overrun_at, wrong_at, bindings_of, row_above}
use Rattle.pl_semantics.specs.Moves.{with_activities}
use Rattle.pl_semantics.specs.Whole.{IsWhole}
use Rattle.pl_semantics.proofs.Owning.{Each, each_append, each_when, each_found, each_flat}
use Rattle.pl_update.specs.Evaluations.Shifted.{still, AreStill}
use Rattle.pl_update.proofs.AboutEvaluations.Still.{values_still}

-- ---- at another moment

abbrev pub at : ℕ → Conflict → Conflict
at n q = record q { from = n }

map_both : (n : ℕ) (xs ys us vs : List Conflict) → map (at n) xs ≡ us → map (at n) ys ≡ vs → map (at n) (xs ++ ys) ≡ us ++ vs
map_both n [] ys us vs e f = f ∙ ap (λ (l : List Conflict). l ++ vs) e
map_both n (x ∷ xs) ys us vs e f = ap (λ (l : List Conflict). at n x ∷ l) (map_both n xs ys (map (at n) xs) vs refl f) ∙ ap (λ (l : List Conflict). l ++ vs) e

map_when : (n : ℕ) (b : Bool) (k : Conflict) → map (at n) (when b k) ≡ when b (at n k)
map_when n true k = refl
map_when n false k = refl

map_flat : {X : Type 0} (n : ℕ) (f g : X → List Conflict) → ((x : X) → map (at n) (f x) ≡ g x) → (xs : List X) → map (at n) (flat_map f xs) ≡ flat_map g xs
map_flat n f g each [] = refl
map_flat n f g each (x ∷ xs) = map_both n (f x) (flat_map f xs) (g x) (flat_map g xs) (each x) (map_flat n f g each xs)

map_found : {X : Type 0} (n : ℕ) (f g : X → List Conflict) → ((x : X) → map (at n) (f x) ≡ g x) → (o : Option X) → map (at n) (of_found f o) ≡ of_found g o
map_found n f g each None = refl
map_found n f g each (Some x) = each x

pub has_at : (n : ℕ) (ks : List Conflict) (q : Conflict) → has q ks ≡ true → has (at n q) (map (at n) ks) ≡ true
has_at n [] q h = absurd (cc)
has_at n (k ∷ ks) q h = by (same q k) refl h (has_at n ks q)
  where
    by : (b : Bool) → same q k ≡ b → (b || has q ks) ≡ true → (has q ks ≡ true → has (at n q) (map (at n) ks) ≡ true) → (same (at n q) (at n k) || has (at n q) (map (at n) ks)) ≡ true
    by true e there more = ap (λ b. b || has (at n q) (map (at n) ks)) (ap (λ (z : Conflict). same (at n q) (at n z)) (sym (same_is q k e)) ∙ same_itself (at n q))
    by false e there more = ap (λ b. same (at n q) (at n k) || b) (more there) ∙ or-true (same (at n q) (at n k))

-- ---- what hangs on no start

abbrev told : ℕ → ℕ → Code → ℕ → Conflict
told start id why detail = record { from = start; code = why; subject = id; detail = detail; a = 0; b = 0 }

abbrev unset_in : ℕ → ℕ → List (ℕ × Expr) → Row → ℕ × Param → List Conflict
unset_in start id bindings own p = when (is_unset (binding_of p.0 bindings) p.1.origin (slice_index_or own p.0 None)) (told start id code.Unset p.0)

abbrev bad_in : ℕ → ℕ → List (ℕ × Expr) → Row → Row → ℕ × Param → List Conflict
bad_in start id bindings above own p = when (is_bad_param (binding_of p.0 bindings) p.1 above own (slice_index_or own p.0 None)) (told start id code.BadValue p.0)

abbrev duration_in : ℕ → ℕ → ℕ → Row → Kind → List Conflict
duration_in horizon start id own k = when (is_bad_duration horizon k own) (told start id code.BadValue 16)

abbrev amount_in : ℕ → ℕ → Row → ℕ × Reservation → List Conflict
amount_in start id own r = when (is_bad_amount own r.1) (told start id code.BadValue (17 + r.0))

abbrev undetailed_in : ℕ → ℕ → Option Kind → Option ℕ → List Conflict
undetailed_in start id kind detail = when (not (eqb (length (alternatives_of kind)) 0) && is_none detail) (told start id code.Undetailed 0)

-- values that are not set, that are bad, and that no alternative is chosen
abbrev pub fixed_by : ℕ → ℕ → ℕ → Option Kind → Option ℕ → List (ℕ × Expr) → Row → Row → List Conflict
fixed_by horizon start id kind detail bindings above own =
    flat_map (unset_in start id bindings own) (numbered 0 (params_of kind))
    ++ (flat_map (bad_in start id bindings above own) (numbered 0 (params_of kind)) ++ of_found (duration_in horizon start id own) kind ++ flat_map (amount_in start id own) (numbered 0 (reservations_in kind)))
    ++ undetailed_in start id kind detail

abbrev pub fixed_at : PlanState → Activity → List Conflict
fixed_at s a = unset_at s a ++ bad_values_at s a ++ undetailed_at s a

pub fixed_is : (s : PlanState) (a : Activity) → fixed_at s a ≡ fixed_by s.model.horizon a.start a.id (kind_of s.model a) a.detail (bindings_of s a) (row_above s a.parent) (row_of s a)
fixed_is s a = refl

pub fixed_moved : (n horizon start id : ℕ) (kind : Option Kind) (detail : Option ℕ) (bindings : List (ℕ × Expr)) (above own : Row) → map (at n) (fixed_by horizon start id kind detail bindings above own) ≡ fixed_by horizon n id kind detail bindings above own
fixed_moved n horizon start id kind detail bindings above own =
    map_both n
    (flat_map (unset_in start id bindings own) (numbered 0 (params_of kind)) ++ (flat_map (bad_in start id bindings above own) (numbered 0 (params_of kind)) ++ of_found (duration_in horizon start id own) kind ++ flat_map (amount_in start id own) (numbered 0 (reservations_in kind))))
    (undetailed_in start id kind detail)
    (flat_map (unset_in n id bindings own) (numbered 0 (params_of kind)) ++ (flat_map (bad_in n id bindings above own) (numbered 0 (params_of kind)) ++ of_found (duration_in horizon n id own) kind ++ flat_map (amount_in n id own) (numbered 0 (reservations_in kind))))
    (undetailed_in n id kind detail)
    (map_both n
    (flat_map (unset_in start id bindings own) (numbered 0 (params_of kind)))
    (flat_map (bad_in start id bindings above own) (numbered 0 (params_of kind)) ++ of_found (duration_in horizon start id own) kind ++ flat_map (amount_in start id own) (numbered 0 (reservations_in kind)))
    (flat_map (unset_in n id bindings own) (numbered 0 (params_of kind)))
    (flat_map (bad_in n id bindings above own) (numbered 0 (params_of kind)) ++ of_found (duration_in horizon n id own) kind ++ flat_map (amount_in n id own) (numbered 0 (reservations_in kind)))
    (map_flat n (unset_in start id bindings own) (unset_in n id bindings own) (λ p. map_when n (is_unset (binding_of p.0 bindings) p.1.origin (slice_index_or own p.0 None)) (told start id code.Unset p.0)) (numbered 0 (params_of kind)))
    (map_both n
    (flat_map (bad_in start id bindings above own) (numbered 0 (params_of kind)) ++ of_found (duration_in horizon start id own) kind)
    (flat_map (amount_in start id own) (numbered 0 (reservations_in kind)))
    (flat_map (bad_in n id bindings above own) (numbered 0 (params_of kind)) ++ of_found (duration_in horizon n id own) kind)
    (flat_map (amount_in n id own) (numbered 0 (reservations_in kind)))
    (map_both n
    (flat_map (bad_in start id bindings above own) (numbered 0 (params_of kind)))
    (of_found (duration_in horizon start id own) kind)
    (flat_map (bad_in n id bindings above own) (numbered 0 (params_of kind)))
    (of_found (duration_in horizon n id own) kind)
    (map_flat n (bad_in start id bindings above own) (bad_in n id bindings above own) (λ p. map_when n (is_bad_param (binding_of p.0 bindings) p.1 above own (slice_index_or own p.0 None)) (told start id code.BadValue p.0)) (numbered 0 (params_of kind)))
    (map_found n (duration_in horizon start id own) (duration_in horizon n id own) (λ k. map_when n (is_bad_duration horizon k own) (told start id code.BadValue 16)) kind))
    (map_flat n (amount_in start id own) (amount_in n id own) (λ r. map_when n (is_bad_amount own r.1) (told start id code.BadValue (17 + r.0))) (numbered 0 (reservations_in kind)))))
    (map_when n (not (eqb (length (alternatives_of kind)) 0) && is_none detail) (told start id code.Undetailed 0))

-- each is told from the start of the activity
pub fixed_from : (s : PlanState) (a : Activity) → Each (λ q. q.from ≡ a.start) (fixed_at s a)
fixed_from s a =
    each_append Is (unset_at s a ++ bad_values_at s a) (undetailed_at s a)
    (each_append Is (unset_at s a) (bad_values_at s a)
    (each_flat Is (unset_in a.start a.id (bindings_of s a) (row_of s a)) (numbered 0 (params_of (kind_of s.model a))) (λ p. each_when Is _ (at_start a code.Unset p.0 0) refl))
    (each_append Is (flat_map (bad_in a.start a.id (bindings_of s a) (row_above s a.parent) (row_of s a)) (numbered 0 (params_of (kind_of s.model a))) ++ of_found (duration_in s.model.horizon a.start a.id (row_of s a)) (kind_of s.model a)) (flat_map (amount_in a.start a.id (row_of s a)) (numbered 0 (reservations_in (kind_of s.model a))))
    (each_append Is (flat_map (bad_in a.start a.id (bindings_of s a) (row_above s a.parent) (row_of s a)) (numbered 0 (params_of (kind_of s.model a)))) (of_found (duration_in s.model.horizon a.start a.id (row_of s a)) (kind_of s.model a))
    (each_flat Is (bad_in a.start a.id (bindings_of s a) (row_above s a.parent) (row_of s a)) (numbered 0 (params_of (kind_of s.model a))) (λ p. each_when Is _ (told a.start a.id code.BadValue p.0) refl))
    (each_found Is (duration_in s.model.horizon a.start a.id (row_of s a)) (kind_of s.model a) (λ k. each_when Is _ (told a.start a.id code.BadValue 16) refl)))
    (each_flat Is (amount_in a.start a.id (row_of s a)) (numbered 0 (reservations_in (kind_of s.model a))) (λ r. each_when Is _ (told a.start a.id code.BadValue (17 + r.0)) refl))))
    (each_when Is _ (told a.start a.id code.Undetailed 0) refl)
  where
    Is : Conflict → Type 0
    Is q = q.from ≡ a.start

-- ---- among what is wrong with an activity

abbrev pub is_fixed : Code → Bool
is_fixed code.Unset = true
is_fixed code.BadValue = true
is_fixed code.Undetailed = true
is_fixed _ = false

wrong_split : (s : PlanState) (a : Activity) → wrong_at s a ≡ if_planned (is_committed s a) ((late_at s a ++ fixed_at s a) ++ overrun_at s a)
unfolding wrong_at
wrong_split s a =
    ap (λ (l : List Conflict). if_planned (is_committed s a) ((l ++ undetailed_at s a) ++ overrun_at s a)) (append_assoc (late_at s a) (unset_at s a) (bad_values_at s a))
    ∙ ap (λ (l : List Conflict). if_planned (is_committed s a) (l ++ overrun_at s a)) (append_assoc (late_at s a) (unset_at s a ++ bad_values_at s a) (undetailed_at s a))

-- it is not committed, and that is among what hangs on no start
pub fixed_among : (s : PlanState) (a : Activity) (q : Conflict) → is_fixed q.code ≡ true → has q (wrong_at s a) ≡ true → (is_committed s a ≡ false) × (has q (fixed_at s a) ≡ true)
fixed_among s a q fixed there = by (is_committed s a) refl (ap (λ (ks : List Conflict). has q ks) (sym (wrong_split s a)) ∙ there)
  where
    not_late : has q (late_at s a) ≡ true → ⊥
    not_late h = absurd (let is : q.code ≡ code.Late = each_when (λ k. k.code ≡ code.Late) _ (at_start a code.Late 0 0) refl q h in let bad : false ≡ true = sym (ap is_fixed is) ∙ fixed in cc)

    not_over : has q (overrun_at s a) ≡ true → ⊥
    not_over h = absurd (let is : q.code ≡ code.Overrun = each_found (λ k. k.code ≡ code.Overrun) (past_end s a) (end_at s a) (λ end. each_when (λ k. k.code ≡ code.Overrun) _ (at_start a code.Overrun 0 end) refl) q h in let bad : false ≡ true = sym (ap is_fixed is) ∙ fixed in cc)

    left : (l f o : Bool) → ((l || f) || o) ≡ true → (l ≡ true → ⊥) → (o ≡ true → ⊥) → f ≡ true
    left l true o e no_l no_o = refl
    left true false o e no_l no_o = absurd (no_l refl)
    left false false true e no_l no_o = absurd (no_o refl)
    left false false false e no_l no_o = e

    by : (b : Bool) → is_committed s a ≡ b → has q (if_planned (is_committed s a) ((late_at s a ++ fixed_at s a) ++ overrun_at s a)) ≡ true → (is_committed s a ≡ false) × (has q (fixed_at s a) ≡ true)
    by true e h = absurd (let none : has q [] ≡ true = rw e at h in let bad : false ≡ true = none in cc)
    by false e h =
        let here : has q ((late_at s a ++ fixed_at s a) ++ overrun_at s a) ≡ true = rw e at h in
        let parts : ((has q (late_at s a) || has q (fixed_at s a)) || has q (overrun_at s a)) ≡ true =
        sym (has-append (late_at s a ++ fixed_at s a) (overrun_at s a) q ∙ ap (λ b. b || has q (overrun_at s a)) (has-append (late_at s a) (fixed_at s a) q)) ∙ here in
        (e, left (has q (late_at s a)) (has q (fixed_at s a)) (has q (overrun_at s a)) parts not_late not_over)

pub among_fixed : (s : PlanState) (a : Activity) (q : Conflict) → is_committed s a ≡ false → has q (fixed_at s a) ≡ true → has q (wrong_at s a) ≡ true
among_fixed s a q planned there =
    ap (λ (ks : List Conflict). has q ks) (wrong_split s a)
    ∙ (ap (λ b. has q (if_planned b ((late_at s a ++ fixed_at s a) ++ overrun_at s a))) planned
    ∙ (has-append (late_at s a ++ fixed_at s a) (overrun_at s a) q
    ∙ ap (λ b. b || has q (overrun_at s a)) (has-append (late_at s a) (fixed_at s a) q ∙ ap (λ b. has q (late_at s a) || b) there ∙ or-true (has q (late_at s a)))))

-- ---- all activities at other starts

module _ (s : PlanState) (whole : IsWhole s) (e : Activity → Activity) (keeps : (a : Activity) → still (e a) ≡ still a) (whole_too : IsWhole (with_activities s (map e s.plan.activities))) where
  abbrev xs : List Activity
  xs = s.plan.activities

  abbrev then_ : PlanState
  then_ = with_activities s (map e s.plan.activities)

  tree : KeepsTree e
  tree = record { id = λ a. ap (λ (z : Activity). z.id) (keeps a); kind = λ a. ap (λ (z : Activity). z.kind) (keeps a); parent = λ a. ap (λ (z : Activity). z.parent) (keeps a) }

  pub found_then : (q : ℕ) → found then_ q ≡ option_map e (found s q)
  found_then q = found-changed e tree xs q

  alike : AreStill xs (map e xs)
  alike q = sym (ap (option_map still) (found_then q) ∙ both (found s q))
    where
      both : (o : Option Activity) → option_map still (option_map e o) ≡ option_map still o
      both None = refl
      both (Some a) = ap (λ (z : Activity). Some z) (keeps a)

  values_same : (id : ℕ) → values_of s.model (map e xs) id ≡ values_of s.model xs id
  values_same id = sym (values_still s.model xs (map e xs) whole.fits.rooted whole_too.fits.rooted alike id)

  slots_same : (p : ℕ) → chosen_slots_of s.model (activity_of p (map e xs)) ≡ chosen_slots_of s.model (activity_of p xs)
  slots_same p = ap (chosen_slots_of s.model) (found_then p) ∙ of (activity_of p xs)
    where
      of : (o : Option Activity) → chosen_slots_of s.model (option_map e o) ≡ chosen_slots_of s.model o
      of None = refl
      of (Some b) = ap (λ (z : Activity). chosen_slots s.model z) (keeps b)

  bindings_same : (o : Option (ℕ × ℕ)) → bindings_at s.model (map e xs) o ≡ bindings_at s.model xs o
  bindings_same None = refl
  bindings_same (Some p) = ap (λ l. bindings_in (slice_get l p.1)) (slots_same p.0)

  above_same : (o : Option (ℕ × ℕ)) → row_above then_ o ≡ row_above s o
  above_same None = refl
  above_same (Some p) = values_same p.0

  fixed_then : (a : Activity) → fixed_at then_ (e a) ≡ map (at (e a).start) (fixed_at s a)
  fixed_then a =
      fixed_is then_ (e a)
      ∙ ap (λ i. fixed_by s.model.horizon (e a).start i (kind_of s.model (e a)) (e a).detail (bindings_of then_ (e a)) (row_above then_ (e a).parent) (row_of then_ (e a))) (tree.id a)
      ∙ ap (λ k. fixed_by s.model.horizon (e a).start a.id k (e a).detail (bindings_of then_ (e a)) (row_above then_ (e a).parent) (row_of then_ (e a))) (ap (kind_of s.model) (keeps a))
      ∙ ap (λ d. fixed_by s.model.horizon (e a).start a.id (kind_of s.model a) d (bindings_of then_ (e a)) (row_above then_ (e a).parent) (row_of then_ (e a))) (ap (λ (z : Activity). z.detail) (keeps a))
      ∙ ap (λ b. fixed_by s.model.horizon (e a).start a.id (kind_of s.model a) a.detail b (row_above then_ (e a).parent) (row_of then_ (e a))) (bindings_same (e a).parent ∙ ap (bindings_at s.model xs) (tree.parent a))
      ∙ ap (λ r. fixed_by s.model.horizon (e a).start a.id (kind_of s.model a) a.detail (bindings_of s a) r (row_of then_ (e a))) (above_same (e a).parent ∙ ap (row_above s) (tree.parent a))
      ∙ ap (λ r. fixed_by s.model.horizon (e a).start a.id (kind_of s.model a) a.detail (bindings_of s a) (row_above s a.parent) r) (values_same (e a).id ∙ ap (values_of s.model xs) (tree.id a))
      ∙ sym (fixed_moved (e a).start s.model.horizon a.start a.id (kind_of s.model a) a.detail (bindings_of s a) (row_above s a.parent) (row_of s a))
      ∙ ap (map (at (e a).start)) (sym (fixed_is s a))

  -- what hangs on no start is wrong at the new start, where the activity is not committed then
  pub fixed_stays : (a : Activity) (q : Conflict) → is_committed then_ (e a) ≡ false → has q (fixed_at s a) ≡ true → has (at (e a).start q) (wrong_at then_ (e a)) ≡ true
  fixed_stays a q planned there =
      among_fixed then_ (e a) (at (e a).start q) planned
      (ap (λ (ks : List Conflict). has (at (e a).start q) ks) (fixed_then a) ∙ has_at (e a).start (fixed_at s a) q there)
