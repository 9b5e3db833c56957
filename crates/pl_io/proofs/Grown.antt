-- Known bytes that grow by one write after another.
use Rattle.std.specs.Prelude.{Option}
use Rattle.std.proofs.Common.{◌≡◌, ℕ, ◌+◌, ◌-◌, List, ◌++◌, length, take, drop, Some, None, IfSome, ap, subst, append_assoc}
use Rattle.std.proofs.Math.Seq.{take-add}
use Rattle.std.proofs.lemmas.List.{take_rest}
use Rattle.std.specs.Io.KnownBytes.{Appends}

pub known_append : (xs : List ℕ) (new : Option (List ℕ)) (bytes : List ℕ) → Appends (Some xs) new bytes → new ≡ Some (xs ++ bytes)
known_append xs None bytes grows = absurd grows
known_append xs (Some ys) bytes grows = ap Some grows

-- a front of the bytes was taken, and then a front of those behind it
pub front_grows : (old mid new : Option (List ℕ)) (bytes : List ℕ) (n k : ℕ)
    → IfSome old (λ before. mid ≡ Some (before ++ take n bytes))
    → Appends mid new (take k (take (length bytes - n) (drop n bytes)))
    → IfSome old (λ before. new ≡ Some (before ++ take (n + k) bytes))
front_grows None mid new bytes n k front more = tt
front_grows (Some xs) mid new bytes n k front more =
    let Grows : Option (List ℕ) → Type 0 = λ o. Appends o new (take k (take (length bytes - n) (drop n bytes))) in
    let whole = known_append (xs ++ take n bytes) new _ (subst Grows front more) in
    rw (take-add n k bytes, ← append_assoc, ← take_rest bytes n) whole
