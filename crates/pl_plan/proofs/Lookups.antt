-- What is found by an id after a change of the activities.
use Rattle.std.proofs.Common.{◌≡◌, ℕ, suc, ◌<◌, eqb, ltb, Bool, true, false, cond, List, [], ◌∷◌, Option, Some, None, refl, sym, ◌∙◌, arith}
use Rattle.std.specs.Option.{option_map}
use Rattle.std.proofs.lemmas.Bool.{ne_eqb, eqb-true, eqb-false}
use Rattle.pl_plan.specs.declared.activity.Activity.{Activity}
use Rattle.pl_plan.specs.Activities.{RiseFrom, activity_of, placed, without, exchanged}

-- no activity of ids that rise from here has a smaller id
pub none_below : (xs : List Activity) (c id : ℕ) → RiseFrom c xs → id < c → activity_of id xs ≡ None
none_below [] c id rising lt = refl
none_below (x ∷ xs) c id rising lt = rw (ne_eqb x.id id (λ e. omega (arith, rising.0, lt, e))) (none_below xs (suc x.id) id rising.1 (omega (arith, rising.0, lt)))

abbrev nobody : Option Activity
nobody = None

pub found-placed : (a : Activity) (xs : List Activity) (q : ℕ) → activity_of a.id xs ≡ None → activity_of q (placed a xs) ≡ cond (eqb a.id q) (Some a) (activity_of q xs)
found-placed a [] q none = refl
found-placed a (x ∷ xs) q none = by_id (eqb x.id a.id) refl (found-placed a xs q)
  where
    apart : eqb x.id a.id ≡ false → (b c : Bool) → eqb x.id q ≡ b → eqb a.id q ≡ c → activity_of a.id xs ≡ None → activity_of q (placed a xs) ≡ cond (eqb a.id q) (Some a) (activity_of q xs) → (activity_of q (x ∷ placed a xs) ≡ cond (eqb a.id q) (Some a) (activity_of q (x ∷ xs)))
    apart ne true true e f rest more = absurd (let n = eqb-true x.id q e in let m = eqb-true a.id q f in eqb-false x.id a.id ne (n ∙ sym m))
    apart ne true false e f rest more = rw (e, f) refl
    apart ne false c e f rest more = rw e more

    below : (b : Bool) → ltb x.id a.id ≡ b → eqb x.id a.id ≡ false → activity_of a.id xs ≡ None → (activity_of q (placed a xs) ≡ cond (eqb a.id q) (Some a) (activity_of q xs)) → activity_of q (placed a (x ∷ xs)) ≡ cond (eqb a.id q) (Some a) (activity_of q (x ∷ xs))
    below true e ne rest more = rw e (apart ne (eqb x.id q) (eqb a.id q) refl refl rest more)
    below false e ne rest more = rw e refl

    by_id : (b : Bool) → eqb x.id a.id ≡ b → (activity_of a.id xs ≡ None → activity_of q (placed a xs) ≡ cond (eqb a.id q) (Some a) (activity_of q xs)) → activity_of q (placed a (x ∷ xs)) ≡ cond (eqb a.id q) (Some a) (activity_of q (x ∷ xs))
    by_id true e more = let found : Some x ≡ None = rw e at none in absurd (cc)
    by_id false e more = let rest : activity_of a.id xs ≡ None = rw e at none in below (ltb x.id a.id) refl e rest (more rest)

pub found-without : (id c : ℕ) (xs : List Activity) (q : ℕ) → RiseFrom c xs → activity_of q (without id xs) ≡ cond (eqb id q) None (activity_of q xs)
found-without id c [] q rising = cases (eqb id q)
  where
    cases : (b : Bool) → nobody ≡ cond b nobody nobody
    cases true = refl
    cases false = refl
found-without id c (x ∷ xs) q rising = by_id (eqb x.id id) refl (found-without id (suc x.id) xs q rising.1)
  where
    here : (b : Bool) → eqb id q ≡ b → x.id ≡ id → activity_of q xs ≡ cond (eqb id q) None (activity_of q (x ∷ xs))
    here true e is = rw e (none_below xs (suc x.id) q rising.1 (let m = eqb-true id q e in omega (arith, is, m)))
    here false e is = rw e (rw (ne_eqb x.id q (λ same. eqb-false id q e (sym is ∙ same))) refl)

    other : (b c : Bool) → eqb id q ≡ b → eqb x.id q ≡ c → eqb x.id id ≡ false → activity_of q (without id xs) ≡ cond (eqb id q) None (activity_of q xs) → activity_of q (x ∷ without id xs) ≡ cond (eqb id q) None (activity_of q (x ∷ xs))
    other true true e f ne more = absurd (let n = eqb-true x.id q f in let m = eqb-true id q e in eqb-false x.id id ne (n ∙ sym m))
    other true false e f ne more = rw f more
    other false true e f ne more = rw (e, f) refl
    other false false e f ne more = rw f more

    by_id : (b : Bool) → eqb x.id id ≡ b → (activity_of q (without id xs) ≡ cond (eqb id q) None (activity_of q xs)) → activity_of q (without id (x ∷ xs)) ≡ cond (eqb id q) None (activity_of q (x ∷ xs))
    by_id true e more = rw e (here (eqb id q) refl (eqb-true x.id id e))
    by_id false e more = rw e (other (eqb id q) (eqb x.id q) refl refl e more)

-- the other activity, where there was one
abbrev pub swapped : Activity → Option Activity → Option Activity
swapped a o = option_map (λ x. a) o

pub found-exchanged : (a : Activity) (xs : List Activity) (q : ℕ) → activity_of q (exchanged a xs) ≡ cond (eqb a.id q) (swapped a (activity_of q xs)) (activity_of q xs)
found-exchanged a [] q = cases (eqb a.id q)
  where
    cases : (b : Bool) → nobody ≡ cond b (swapped a nobody) nobody
    cases true = refl
    cases false = refl
found-exchanged a (x ∷ xs) q = by_id (eqb x.id a.id) refl (eqb a.id q) refl (eqb x.id q) refl (found-exchanged a xs q)
  where
    by_id : (b : Bool) → eqb x.id a.id ≡ b → (c : Bool) → eqb a.id q ≡ c → (d : Bool) → eqb x.id q ≡ d → (activity_of q (exchanged a xs) ≡ cond (eqb a.id q) (swapped a (activity_of q xs)) (activity_of q xs)) → activity_of q (exchanged a (x ∷ xs)) ≡ cond (eqb a.id q) (swapped a (activity_of q (x ∷ xs))) (activity_of q (x ∷ xs))
    by_id true e true f true g more = rw (e, f, g) refl
    by_id true e true f false g more = absurd (eqb-false x.id q g (eqb-true x.id a.id e ∙ eqb-true a.id q f))
    by_id true e false f true g more = absurd (eqb-false a.id q f (sym (eqb-true x.id a.id e) ∙ eqb-true x.id q g))
    by_id true e false f false g more = rw (e, f, g) (rw f at more)
    by_id false e true f true g more = absurd (eqb-false x.id a.id e (eqb-true x.id q g ∙ sym (eqb-true a.id q f)))
    by_id false e true f false g more = rw (e, f, g) (rw f at more)
    by_id false e false f true g more = rw (e, f, g) refl
    by_id false e false f false g more = rw (e, f, g) (rw f at more)
