-- What was found among the candidates, and is legal, is a legal candidate.
use Rattle.std.proofs.Common.{◌≡◌, zero, suc, Bool, true, false, List, [], ◌∷◌, Option, Some, None, refl, sym, subst, arith}
use Rattle.std.specs.Prelude.{Contains, filter, IfSome}
use Rattle.pl_conflict.specs.declared.conflict.Conflict.{Conflict}
use Rattle.pl_plan.specs.declared.repair.RepairMove.{RepairMove}
use Rattle.pl_semantics.specs.declared.plan_state.PlanState.{PlanState}
use Rattle.pl_semantics.specs.Candidates.{candidates_of}
use Rattle.pl_semantics.specs.Legal.{is_legal, legal_for}

kept : (p : RepairMove → Bool) (xs : List RepairMove) (x : RepairMove) → Contains xs x → p x ≡ true → Contains (filter p xs) x
kept p [] x (k, lt, at) pass = absurd (omega (arith, lt))
kept p (y ∷ ys) x (zero, lt, at) pass =
    let here : p y ≡ true = subst (λ z. p z ≡ true) (sym at) pass in
    rw here (zero, omega arith, at)
kept p (y ∷ ys) x (suc k, lt, at) pass = later (p y) refl (kept p ys x (k, omega (arith, lt), at) pass)
  where
    later : (b : Bool) → p y ≡ b → Contains (filter p ys) x → Contains (filter p (y ∷ ys)) x
    later true e h = rw e (suc h.0, omega (arith, h.1), h.2)
    later false e h = rw e h

pub some_legal : (s : PlanState) (k : Conflict) (o : Option RepairMove) → IfSome o (λ m. Contains (candidates_of s k) m × (is_legal s m ≡ true)) → IfSome o (λ m. Contains (legal_for s k) m)
unfolding legal_for
some_legal s k None h = h
some_legal s k (Some m) h = kept (is_legal s) (candidates_of s k) m h.0 h.1
