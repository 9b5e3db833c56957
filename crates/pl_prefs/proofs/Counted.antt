-- A count of conflicts is 0 exactly where there are none.
use Rattle.std.proofs.Common.{◌≡◌, ◌≢◌, ℕ, ◌<◌, ◌≤◌, List, [], length, ap, arith}
use Rattle.std.specs.Prelude.{min}
use Rattle.std.proofs.lemmas.List.{nil_from_length}
use Rattle.pl_conflict.specs.declared.conflict.Conflict.{Conflict}

pub none_counted : (ks : List Conflict) (n : ℕ) → n ≡ min (length ks) 4294967295 → n ≤ 0 → ks ≡ []
none_counted ks n is none = nil_from_length ks (omega (arith, is, none))

pub some_counted : (ks : List Conflict) (n : ℕ) → n ≡ min (length ks) 4294967295 → 0 < n → ks ≢ []
some_counted ks n is some = λ e. (let none : length ks ≡ 0 = ap length e in omega (arith, is, some, none))
