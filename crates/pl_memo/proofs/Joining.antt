-- Lists by rising id, put together and cut.
use Rattle.std.proofs.Common.{◌≡◌, ℕ, zero, suc, ◌-◌, ◌<◌, List, [], ◌∷◌, ◌++◌, take, drop, length, Some, refl, sym, ap, ◌∙◌, subst, arith}
use Rattle.std.specs.Prelude.{slice_get}
use Rattle.pl_plan.specs.declared.activity.Activity.{Activity}
use Rattle.pl_plan.specs.Activities.{RiseFrom}

parts : {T : Type 0} (n : ℕ) (xs : List T) → xs ≡ take n xs ++ drop n xs
parts zero xs = refl
parts (suc n) [] = refl
parts (suc n) (x ∷ xs) = ap (λ l. x ∷ l) (parts n xs)

pub put_together : {T : Type 0} (n : ℕ) (xs front back : List T) → front ≡ take n xs → back ≡ drop n xs → xs ≡ front ++ back
put_together n xs front back is is_too = parts n xs ∙ (ap (λ l. l ++ drop n xs) (sym is) ∙ ap (λ l. front ++ l) (sym is_too))

pub rising_take : (c n : ℕ) (xs : List Activity) → RiseFrom c xs → RiseFrom c (take n xs)
rising_take c zero xs rises = tt
rising_take c (suc n) [] rises = tt
rising_take c (suc n) (x ∷ xs) rises = (rises.0, rising_take (suc x.id) n xs rises.1)

-- the last of the one stands before the first of the other
pub joined : (c : ℕ) (rest gone : List Activity) (a b : Activity) → RiseFrom c rest → RiseFrom 0 gone → slice_get rest (length rest - 1) ≡ Some a → slice_get gone 0 ≡ Some b → a.id < b.id → RiseFrom c (rest ++ gone)
joined c [] gone a b rises rises_too last first less = absurd (cc)
joined c (x ∷ []) [] a b rises rises_too last first less = absurd (cc)
joined c (x ∷ []) (g ∷ gone) a b rises rises_too last first less =
    let at : length (x ∷ []) - 1 ≡ 0 = omega arith in
    let last_is : Some x ≡ Some a = subst (λ (n : ℕ). slice_get (x ∷ []) n ≡ Some a) at last in
    let x_is : x ≡ a = cc in
    let first_is : Some g ≡ Some b = first in
    let g_is : g ≡ b = cc in
    let before : x.id < g.id = omega (arith, less, ap (λ (y : Activity). y.id) x_is, ap (λ (y : Activity). y.id) g_is) in
    (rises.0, (omega (arith, before), rises_too.1))
joined c (x ∷ y ∷ more) gone a b rises rises_too last first less =
    let at : length (x ∷ y ∷ more) - 1 ≡ suc (length (y ∷ more) - 1) = omega arith in
    let there : slice_get (x ∷ y ∷ more) (suc (length (y ∷ more) - 1)) ≡ Some a = subst (λ (n : ℕ). slice_get (x ∷ y ∷ more) n ≡ Some a) at last in
    (rises.0, joined (suc x.id) (y ∷ more) gone a b rises.1 rises_too there first less)
