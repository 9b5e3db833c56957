-- Of a replacement: which state a new set leaves, and from which state it takes its step.
use Rattle.std.proofs.Common.{◌≡◌, ℕ, ◌<◌, ◌≤◌, eqb, ltb, leb, Bool, true, false, ◌&&◌, cond, List, [], ◌∷◌, map, filter, Option, Some, None, refl, sym, ap, subst, arith, inl, inr}
use Rattle.std.specs.Prelude.{◌||◌, ◌⊎◌, ◌≢◌, All}
use Rattle.std.specs.List.{flat_map}
use Rattle.std.proofs.lemmas.Bool.{and_parts, leb-true, ltb-false, lt-ltb, le-leb, eq-eqb}
use Rattle.std.proofs.lemmas.List.Elements.{All-head, All-tail}
use Rattle.pl_model.specs.declared.reservations.Reservation.{Reservation}
use Rattle.pl_model.specs.declared.reservations.Reservation.TheVariants as reservation
use Rattle.pl_plan.specs.declared.activity.Activity.{Activity}
use Rattle.pl_plan.specs.Values.{Row}
use Rattle.pl_state.specs.declared.reservation.Setting.{Setting}
use Rattle.pl_state.specs.Keys.{key_before, Has}
use Rattle.pl_state.specs.Sets.{set_key, same_setting, state_from}
use Rattle.pl_state.proofs.Keys.{not_before}
use Rattle.pl_semantics.specs.declared.plan_state.PlanState.{PlanState}
use Rattle.pl_semantics.specs.declared.demand.Demand.{Demand}
use Rattle.pl_semantics.specs.PlanStates.{end_at, row_of, reservations_of, natural, of_found}
use Rattle.pl_semantics.specs.Whole.{IsWhole, IsIdBelow}
use Rattle.pl_semantics.specs.Demands.{asked_of, asked_for, demands_until, demands_at, demands_of, set_in, sets_of, since, told, state_at}
use Rattle.pl_update.specs.Changes.Replaced.{with_plan, CanReplace}
use Rattle.pl_update.specs.Timelines.Laws.{AreOnce, gone_from, coming_to}
use Rattle.pl_update.proofs.AboutTimelines.StandingApart.{sets_sorted}
use Rattle.pl_update.proofs.AboutTimelines.StandingEqual.{set_exact, set_itself}
use Rattle.pl_update.proofs.AboutTimelines.Replacing.{staying, whole_after}
use Rattle.pl_bounds.specs.Settings.{sets_asked, HangsOnNone}
use Rattle.pl_bounds.proofs.Governing.{counts, state_governed, state_same}
use Rattle.pl_bounds.proofs.Having.{like, of_right, has_either}
use Rattle.pl_bounds.proofs.States.{set_asked, asked_set, comer_there, distinct_sets, sets_before, set_goes, set_comes}
use Rattle.pl_bounds.proofs.Steps.{before, entering, kept_has, has_kept, sorted_kept, distinct_kept}

-- ---- what a list has

has_flat_of : {S T : Type 0} (rule : S → List T) (z : T) (xs : List S) → Has z (flat_map rule xs) → (x : S) × Has x xs × Has z (rule x)
has_flat_of {S} {T} rule z [] has = absurd has
has_flat_of {S} {T} rule z (x ∷ xs) has = elim (has_either z (rule x) (flat_map rule xs) has) [
  | inl here ↦ (x, inl refl, here)
  | inr more ↦ (let rest = has_flat_of rule z xs more in (rest.0, inr rest.1, rest.2))
]

has_map_of : {S T : Type 0} (f : S → T) (z : T) (xs : List S) → Has z (map f xs) → (x : S) × (f x ≡ z)
has_map_of {S} {T} f z [] has = absurd has
has_map_of {S} {T} f z (x ∷ xs) has = elim has [ inl e ↦ (x, e) | inr more ↦ has_map_of f z xs more ]

each_has : {T : Type 0} (P : T → Type 0) (x : T) (xs : List T) → All P xs → Has x xs → P x
each_has {T} P x [] all has = absurd has
each_has {T} P x (y ∷ ys) all has = elim has [ inl e ↦ subst P e (All-head P y ys all) | inr more ↦ each_has P x ys (All-tail P y ys all) more ]

-- ---- sets have the ids of their activities

abbrev IsOf : ℕ → Demand → Type 0
IsOf id d = (z : Setting) → Has z (set_in d.asked) → z.id ≡ id

one_of : (id start end : ℕ) (row : Row) (p : ℕ × Reservation) → IsOf id (asked_for id start end row p)
one_of id start end row (n, reservation.Take line e) = λ z has. absurd has
one_of id start end row (n, reservation.Raise line e point) = λ z has. absurd has
one_of id start end row (n, reservation.Lower line e point) = λ z has. absurd has
one_of id start end row (n, reservation.Put line state point) = λ z has. elim has [ inl e ↦ ap (λ (x : Setting). x.id) (sym e) | inr none ↦ absurd none ]
one_of id start end row (n, reservation.Must line state) = λ z has. absurd has

demand_of_activity : (s : PlanState) (a : Activity) (d : Demand) → Has d (demands_at s a) → IsOf a.id d
unfolding demands_at
demand_of_activity s a d has = by (end_at s a) has
  where
    by : (o : Option ℕ) → Has d (of_found (demands_until s a) o) → IsOf a.id d
    by None h = absurd h
    by (Some end) h =
        let one = has_map_of (asked_for a.id a.start end (row_of s a)) d (reservations_of s a) h in
        subst (λ (e : Demand). IsOf a.id e) one.1 (one_of a.id a.start end (row_of s a) one.0)

set_of_line : (line : ℕ) (d : Demand) (z : Setting) → Has z (asked_of set_in line d) → Has z (set_in d.asked)
set_of_line line d z has = by (eqb d.line line) has
  where
    by : (b : Bool) → Has z (cond b (set_in d.asked) []) → Has z (set_in d.asked)
    by true h = h
    by false h = absurd h

asked_below : (s : PlanState) → IsWhole s → (line : ℕ) (z : Setting) → Has z (sets_asked line (demands_of s)) → z.id < s.next_id
asked_below s whole line z has =
    let one = has_flat_of (asked_of set_in line) z (demands_of s) has in
    let of = has_flat_of (demands_at s) one.0 s.plan.activities one.1 in
    let is : z.id ≡ of.0.id = demand_of_activity s of.0 one.0 of.2 z (set_of_line line one.0 z one.2) in
    let below : of.0.id < s.next_id = (each_has (IsIdBelow s.next_id) of.0 s.plan.activities whole.ids of.1).1 in
    omega (arith, is, below)

-- ---- a new set

key_last : (x z : Setting) → z.at ≤ x.at → z.id < x.id → key_before (set_key x) (set_key z) ≡ false
key_last x z at id = not_before (set_key x) (set_key z) (at, λ same. (omega (arith, id), λ ids. absurd (omega (arith, id, ids))))

key_first : (x z : Setting) → z.at ≤ x.at → z.id < x.id → before x z ≡ true
key_first x z at id = by (ltb z.at x.at) refl
  where
    rest : eqb z.at x.at ≡ true → (false || (eqb z.at x.at && (ltb z.id x.id || (eqb z.id x.id && ltb z.index x.index)))) ≡ true
    rest e = rw (e, lt-ltb z.id x.id id) refl

    by : (b : Bool) → ltb z.at x.at ≡ b → (b || (eqb z.at x.at && (ltb z.id x.id || (eqb z.id x.id && ltb z.index x.index)))) ≡ true
    by true e = refl
    by false e = rest (eq-eqb z.at x.at (let le = ltb-false z.at x.at e in omega (arith, le, at)))

module _ (s : PlanState) (gone : List ℕ) (more : List Activity) (whole : IsWhole s) (can : CanReplace s gone more) (once : AreOnce gone) (line : ℕ) (x : Setting) (comes : Has x (sets_asked line (coming_to (with_plan gone more s) more))) (newest : s.next_id ≤ x.id) where
  abbrev t : PlanState
  t = with_plan gone more s

  here : Has x (sets_of line (demands_of t))
  here = comer_there s gone more whole can once line x comes

  old_below : (z : Setting) → Has z (sets_of line (demands_of s)) → z.id < x.id
  old_below z has = let lt = asked_below s whole line z (set_asked line (demands_of s) z has) in omega (arith, lt, newest)

  gone_old : (z : Setting) → Has z (sets_asked line (gone_from s gone)) → Has z (sets_of line (demands_of s))
  gone_old z has = asked_set line (demands_of s) z (of_right same_setting set_exact set_itself z (sets_asked line (demands_of s)) (sets_asked line (staying s gone)) (sets_asked line (gone_from s gone)) (sets_before s gone more whole can once line (like same_setting set_exact set_itself z)) has)

  -- where it comes last at its moment, the state there is its own
  pub state_is_set : ((z : Setting) → Has z (sets_asked line (coming_to t more)) → z.at ≤ x.at → key_before (set_key x) (set_key z) ≡ false) → since s line < x.at → state_at t line x.at ≡ x.state
  unfolding state_at
  state_is_set last since_lt =
      state_governed (since s line) x.at (natural (told s line)) (sets_of line (demands_of t)) (sets_sorted line (demands_of t)) (distinct_sets t (whole_after s gone more whole can).rising line) x (record {
        there = here;
        here = rw (lt-ltb (since s line) x.at since_lt, le-leb x.at x.at (omega arith)) refl;
        last = λ z has c.
            let upto : z.at ≤ x.at = leb-true z.at x.at (and_parts (ltb (since s line) z.at) (leb z.at x.at) c).1 in
            elim (set_comes s gone more whole can once line z has) [
              | inl was ↦ key_last x z upto (old_below z was)
              | inr moves ↦ elim moves [ inl goes ↦ key_last x z upto (old_below z (gone_old z goes)) | inr new ↦ last z new upto ]
            ];
      })

  abbrev Goes : Setting → Type 0
  Goes z = Has z (sets_asked line (gone_from s gone)) ⊎ (Has z (sets_asked line (coming_to t more)) × (before x z ≡ true))

  -- where no set that goes or comes before it governs, it takes its step from the state that stands
  pub entering_is : HangsOnNone s line x.at (gone_from s gone) → ((z : Setting) → Has z (sets_asked line (coming_to t more)) → before x z ≡ true → state_at s line z.at ≢ state_at s line x.at) → entering t line x ≡ state_at s line x.at
  unfolding state_at
  entering_is goes_none comes_none =
      state_same (since s line) x.at (natural (told s line)) (sets_of line (demands_of s)) (filter (before x) (sets_of line (demands_of t)))
      (sets_sorted line (demands_of s)) (distinct_sets s whole.rising line)
      (sorted_kept (before x) (sets_of line (demands_of t)) (sets_sorted line (demands_of t))) (distinct_kept (before x) (sets_of line (demands_of t)) (distinct_sets t (whole_after s gone more whole can).rising line))
      Goes goes comes_too others
    where
      goes : (z : Setting) → Has z (sets_of line (demands_of s)) → counts (since s line) x.at z ≡ true → Has z (filter (before x) (sets_of line (demands_of t))) ⊎ Goes z
      goes z has c =
          let upto : z.at ≤ x.at = leb-true z.at x.at (and_parts (ltb (since s line) z.at) (leb z.at x.at) c).1 in
          let first : before x z ≡ true = key_first x z upto (old_below z has) in
          elim (set_goes s gone more whole can once line z has) [
            | inl stays ↦ inl (has_kept (before x) z (sets_of line (demands_of t)) stays first)
            | inr moves ↦ inr (elim moves [ inl g ↦ inl g | inr n ↦ inr (n, first) ])
          ]

      comes_too : (z : Setting) → Has z (filter (before x) (sets_of line (demands_of t))) → Has z (sets_of line (demands_of s)) ⊎ Goes z
      comes_too z has =
          let both = kept_has (before x) z (sets_of line (demands_of t)) has in
          elim (set_comes s gone more whole can once line z both.0) [
            | inl was ↦ inl was
            | inr moves ↦ inr (elim moves [ inl g ↦ inl g | inr n ↦ inr (n, both.1) ])
          ]

      others : (z : Setting) → Goes z → z.at ≤ x.at → state_from (since s line) z.at (natural (told s line)) (sets_of line (demands_of s)) ≢ state_from (since s line) x.at (natural (told s line)) (sets_of line (demands_of s))
      others z (inl g) le = goes_none z g le
      others z (inr n) le = comes_none z n.0 n.1
