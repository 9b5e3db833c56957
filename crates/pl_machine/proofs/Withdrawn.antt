-- What is withdrawn has not begun: what that leaves of a plan state.
use Rattle.std.proofs.Common.{◌≡◌, ℕ, ◌+◌, leb, ltb, Bool, true, false, ◌&&◌, min, List, [], length, map, refl, sym, ◌∙◌, ap, arith, append-nil}
use Rattle.std.specs.Prelude.{◌==◌}
use Rattle.std.proofs.lemmas.Bool.{leb-true, ltb-true, lt-ltb}
use Rattle.std.proofs.lemmas.List.Elements.{filter_agree}
use Rattle.pl_lists.proofs.Tests.{same_test}
use Rattle.pl_plan.specs.declared.activity.Activity.{Activity}
use Rattle.pl_plan.specs.Fitting.{kind_of, alternatives_of}
use Rattle.pl_entry.specs.Due.{is_due, start_of, with_starts, due_of}
use Rattle.pl_semantics.specs.declared.plan_state.PlanState.{PlanState}
use Rattle.pl_update.specs.Changes.Changes.{withdrawn}
use Rattle.pl_machine.specs.World.{due_in}
use Rattle.pl_machine.specs.Keeping.{KeepsStanding}

-- whether an activity that starts at this moment is due
started_early : (now c start : ℕ) (basic : Bool) → (ltb start (min c (now + 1)) && (leb start now && basic)) ≡ (ltb start c && (leb start now && basic))
started_early now c start basic = by (leb start now) refl
  where
    neither : (a b : Bool) → (a && false) ≡ (b && false)
    neither true true = refl
    neither true false = refl
    neither false true = refl
    neither false false = refl

    by : (started : Bool) → leb start now ≡ started → (ltb start (min c (now + 1)) && (started && basic)) ≡ (ltb start c && (started && basic))
    by true e =
        let began = leb-true start now e in
        ap (λ (b : Bool). b && basic) (same_test (ltb start (min c (now + 1))) (ltb start c)
        (λ f. let early = ltb-true start (min c (now + 1)) f in lt-ltb start c (omega (arith, early)))
        (λ f. let early = ltb-true start c f in lt-ltb start (min c (now + 1)) (omega (arith, early, began))))
    by false e = neither (ltb start (min c (now + 1))) (ltb start c)

pub due_withdrawn : (s : PlanState) → due_in (withdrawn s) ≡ due_in s
unfolding due_of
due_withdrawn s =
    ap (λ (l : List Activity). map (λ (x : ℕ × ℕ). x.1) (with_starts [] (map start_of l)))
    (filter_agree (is_due s.model s.moment (min s.committed (s.moment + 1))) (is_due s.model s.moment s.committed) (λ (a : Activity). started_early s.moment s.committed a.start (length (alternatives_of (kind_of s.model a)) == 0)) s.plan.activities)

still_early : (start now c : ℕ) → ltb start (min c (now + 1)) ≡ true → ltb start c ≡ true
still_early start now c e = let early = ltb-true start (min c (now + 1)) e in lt-ltb start c (omega (arith, early))

pub keeps_withdrawn : (s : PlanState) → KeepsStanding s (withdrawn s)
keeps_withdrawn s = record {
  model = refl;
  next_id = omega arith;
  due = ([], due_withdrawn s ∙ sym (append-nil (due_in s)));
  sendable = λ sendable id a here committed. sendable id a here (still_early a.start s.moment s.committed committed);
}
