-- A repair keeps what is due.
use Rattle.std.proofs.Common.{◌≡◌, ℕ, List, [], true, nat_lt, All, Some, None, IfSome, refl, sym, ◌∙◌, ap, subst, arith, append-nil}
use Rattle.std.specs.Prelude.{Contains, get_or}
use Rattle.std.proofs.lemmas.Bool.{lt-ltb}
use Rattle.std.proofs.lemmas.List.Elements.{Contains-get_or}
use Rattle.pl_model.specs.declared.whole.Model.{Model}
use Rattle.pl_model.specs.Checked.{IsAmount}
use Rattle.pl_plan.specs.declared.activity.Activity.{Activity}
use Rattle.pl_plan.specs.declared.repair.RepairMove.{RepairMove}
use Rattle.pl_plan.specs.Activities.{AreRising, activity_of}
use Rattle.pl_entry.specs.Due.{AreDue, due_of}
use Rattle.pl_entry.proofs.DueLaws.{due_meets, due_only}
use Rattle.pl_semantics.specs.declared.plan_state.PlanState.{PlanState}
use Rattle.pl_semantics.specs.PlanStates.{found, is_committed}
use Rattle.pl_machine.specs.World.{due_in}
use Rattle.pl_semantics.specs.Moves.{is_proper, refusal_of, applied}
use Rattle.pl_semantics.specs.Whole.{IsWhole}
use Rattle.pl_moves.specs.Keeping.{GivesIds, KeepsCommitted}
use Rattle.pl_moves.proofs.Keeping.{keeps, gives}
use Rattle.pl_machine.specs.Keeping.{KeepsStanding}

module _ (m : Model) (xs ys : List Activity) (now c : ℕ) (rising : AreRising xs) (rising2 : AreRising ys)
    (there : (id : ℕ) (a : Activity) → activity_of id xs ≡ Some a → nat_lt a.start c ≡ true → activity_of id ys ≡ Some a)
    (back : (id : ℕ) (a : Activity) → activity_of id ys ≡ Some a → nat_lt a.start c ≡ true → activity_of id xs ≡ Some a) where
  meets : AreDue m xs now c (due_of m xs now c)
  meets = due_meets m xs rising now c

  -- a due activity is the same in both
  both : (x : ℕ) (a : Activity) → Contains (due_of m xs now c) x → activity_of x ys ≡ Some a → activity_of x xs ≡ Some a
  both x a in' here =
      let d = (meets.members x).0 in' in
      let here2 : activity_of x ys ≡ Some d.0 = there x d.0 d.1 (lt-ltb d.0.start c d.2.committed) in
      let same : Some d.0 ≡ Some a = sym here2 ∙ here in
      d.1 ∙ same

  pub due_same : due_of m xs now c ≡ due_of m ys now c
  due_same = due_only m ys rising2 now c (due_of m xs now c) (record {
    members = λ id. (
      (λ in'. let d = (meets.members id).0 in' in (d.0, there id d.0 d.1 (lt-ltb d.0.start c d.2.committed), d.2)),
      (λ d. (meets.members id).1 (d.0, back id d.0 d.1 (lt-ltb d.0.start c d.2.committed), d.2)),
    );
    order = λ i j d lt in_range a b here there2.
        meets.order i j d lt in_range a b
        (both (get_or (due_of m xs now c) i d) a (Contains-get_or (due_of m xs now c) i d (omega (arith, lt, in_range))) here)
        (both (get_or (due_of m xs now c) j d) b (Contains-get_or (due_of m xs now c) j d in_range) there2);
  })

due_at : (s2 : PlanState) (m : Model) (now c : ℕ) → s2.model ≡ m → s2.moment ≡ now → s2.committed ≡ c → due_in s2 ≡ due_of m s2.plan.activities now c
due_at s2 m now c model moment committed = rw (model, moment, committed) refl

keeps_repair : (s s2 : PlanState) → AreRising s.plan.activities → GivesIds s s2 → KeepsCommitted s s2 → KeepsStanding s s2
keeps_repair s s2 rising ids keeps = record {
  model = keeps.model;
  next_id = ids.most;
  due = (
    [],
    due_at s2 s.model s.moment s.committed keeps.model keeps.moment keeps.committed
        ∙ sym (due_same s.model s.plan.activities s2.plan.activities s.moment s.committed rising ids.rising keeps.stands
        (λ id a here early. keeps.no_other id a here (ap (λ c. nat_lt a.start c) keeps.committed ∙ early)))
        ∙ sym (append-nil (due_in s)),
  );
  sendable = λ sendable id a here committed.
      let before : found s id ≡ Some a = keeps.no_other id a here committed in
      let early : is_committed s a ≡ true = ap (λ c. nat_lt a.start c) (sym keeps.committed) ∙ committed in
      subst (λ row. All (λ v. IfSome v IsAmount) row) (sym (keeps.values id a before early)) (sendable id a before early);
}

pub due_applied : (s : PlanState) (m : RepairMove) → IsWhole s → is_proper s m ≡ true → refusal_of s m ≡ None → due_in (applied s m) ≡ due_in s
due_applied s m whole proper allowed =
    let ids = gives s m whole proper allowed in
    let kept = keeps s m whole proper allowed in
    due_at (applied s m) s.model s.moment s.committed kept.model kept.moment kept.committed
    ∙ sym (due_same s.model s.plan.activities (applied s m).plan.activities s.moment s.committed whole.rising ids.rising kept.stands
    (λ id a here early. kept.no_other id a here (ap (λ c. nat_lt a.start c) kept.committed ∙ early)))

pub keeps_applied : (s : PlanState) (m : RepairMove) → IsWhole s → is_proper s m ≡ true → refusal_of s m ≡ None → KeepsStanding s (applied s m)
keeps_applied s m whole proper allowed = keeps_repair s (applied s m) whole.rising (gives s m whole proper allowed) (keeps s m whole proper allowed)
