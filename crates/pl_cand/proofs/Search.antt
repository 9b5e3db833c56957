-- Steps of a walk over a list that looks for one that passes.
use Rattle.std.proofs.Common.{◌≡◌, Bool, true, false, List, [], ◌∷◌, sym, subst}
use Rattle.std.specs.List.{list_any}

pub any_step : {X : Type 0} (p : X → Bool) (xs ys : List X) (x : X) (w : Bool) → xs ≡ x ∷ ys → p x ≡ false → list_any p xs ≡ w → list_any p ys ≡ w
any_step {X = X} p xs ys x w is fails e =
    let P : List X → Type 0 = λ zs. list_any p zs ≡ w in
    rw fails at (subst P is e)

pub any_here : {X : Type 0} (p : X → Bool) (xs ys : List X) (x : X) (w : Bool) → xs ≡ x ∷ ys → p x ≡ true → list_any p xs ≡ w → w ≡ true
any_here {X = X} p xs ys x w is passes e =
    let P : List X → Type 0 = λ zs. list_any p zs ≡ w in
    sym (rw passes at (subst P is e))

pub any_end : {X : Type 0} (p : X → Bool) (xs : List X) (w : Bool) → xs ≡ [] → list_any p xs ≡ w → w ≡ false
any_end {X = X} p xs w is e =
    let P : List X → Type 0 = λ zs. list_any p zs ≡ w in
    sym (subst P is e)
