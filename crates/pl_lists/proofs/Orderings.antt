-- Laws of orderings.
use Rattle.std.proofs.Common.{◌≡◌, true, false, Ordering, Less, Equal, Greater, is_eq, refl}

pub equal_from_test : (r : Ordering) → is_eq r ≡ true → r ≡ Equal
equal_from_test Equal e = refl
equal_from_test _ e = absurd (let h : false ≡ true = e in (cc))
