-- An end that is measured exchanges the activity of its id for itself with this end.
use Rattle.std.proofs.Common.{◌≡◌, ℕ, suc, ◌<◌, eqb, Bool, true, false, cond, List, [], ◌∷◌, Some, refl, sym, ap, ◌∙◌, subst, arith}
use Rattle.std.proofs.lemmas.Bool.{eq-eqb, ne_eqb, eqb-true, eqb-false}
use Rattle.std.proofs.lemmas.Option.{same_Some}
use Rattle.pl_plan.specs.declared.activity.Activity.{Activity}
use Rattle.pl_plan.specs.Activities.{RiseFrom, activity_of, exchanged, ended, with_end}
use Rattle.pl_plan.proofs.Ids.{others_keep}
use Rattle.pl_plan.proofs.Climbs.{all_at}

ends_keep : (id moment : ℕ) (xs : List Activity) (c : ℕ) → RiseFrom c xs → id < c → with_end id moment xs ≡ xs
ends_keep id moment [] c rising lt = refl
ends_keep id moment (x ∷ xs) c rising lt =
    let more = ends_keep id moment xs (suc x.id) rising.1 (omega (arith, lt, rising.0)) in
    rw (ne_eqb x.id id (λ e. omega (arith, lt, rising.0, e))) (ap (λ l. x ∷ l) more)

pub found_id : (id : ℕ) (xs : List Activity) (a : Activity) → activity_of id xs ≡ Some a → a.id ≡ id
found_id id xs a is = (all_at (λ b. b.id ≡ b.id) xs id a (λ k d lt. refl) is).1

pub end_exchanged : (id moment : ℕ) (xs : List Activity) (c : ℕ) (a : Activity) → RiseFrom c xs → activity_of id xs ≡ Some a → with_end id moment xs ≡ exchanged (ended moment a) xs
end_exchanged id moment [] c a rising is = refl
end_exchanged id moment (x ∷ xs) c a rising is = by (eqb x.id id) refl is (end_exchanged id moment xs (suc x.id) a rising.1)
  where
    by : (b : Bool) → eqb x.id id ≡ b → cond b (Some x) (activity_of id xs) ≡ Some a → (activity_of id xs ≡ Some a → with_end id moment xs ≡ exchanged (ended moment a) xs) → with_end id moment (x ∷ xs) ≡ exchanged (ended moment a) (x ∷ xs)
    by true e found more =
        let same : id ≡ x.id = sym (eqb-true x.id id e) in
        let P : Activity → Type 0 = λ z. with_end id moment (x ∷ xs) ≡ exchanged (ended moment z) (x ∷ xs) in
        subst P (same_Some x a found) (rw (e, eq-eqb x.id x.id refl) (ap (λ l. ended moment x ∷ l) (ends_keep id moment xs (suc x.id) rising.1 (omega (arith, same)) ∙ sym (others_keep (ended moment x) xs (suc x.id) rising.1 (omega arith)))))
    by false e found more =
        let apart : eqb x.id a.id ≡ false = ne_eqb x.id a.id (λ f. eqb-false x.id id e (f ∙ found_id id xs a found)) in
        rw (e, apart) (ap (λ l. x ∷ l) (more found))
