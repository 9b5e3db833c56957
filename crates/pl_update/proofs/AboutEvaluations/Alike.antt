-- Sets of values that are the same.
use Rattle.std.proofs.Common.{◌≡◌, Bool, List, Option, Some, None, refl, ap, ℤ}
use Rattle.std.specs.Bool.{Decides}
use Rattle.std.specs.Option.{option_eq}
use Rattle.std.specs.Ordering.{int_eq}
use Rattle.std.specs.Cmp.Lexicographic.{pointwise}
use Rattle.std.proofs.lemmas.Bool.Decides.{Decides-int_eq}
use Rattle.std.proofs.lemmas.Slice.Eq.{slice_eq-Decides}

values_decide : (a b : Option ℤ) → Decides (option_eq int_eq a b) (a ≡ b)
values_decide None None = ((λ e. refl), (λ e. refl))
values_decide None (Some y) = ((λ e. absurd (cc)), (λ e. absurd (cc)))
values_decide (Some x) None = ((λ e. absurd (cc)), (λ e. absurd (cc)))
values_decide (Some x) (Some y) = ((λ e. ap Some ((Decides-int_eq x y).0 e)), (λ e. let same : x ≡ y = cc in (Decides-int_eq x y).1 same))

pub sets_alike : (xs ys : List (Option ℤ)) (r : Bool) → r ≡ pointwise (option_eq int_eq) xs ys → Decides r (xs ≡ ys)
sets_alike xs ys r is = slice_eq-Decides values_decide xs ys r is
