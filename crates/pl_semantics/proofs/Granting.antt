-- The first of the conflicts decides how far a commit may go.
use Rattle.std.proofs.Common.{◌≡◌, ℕ, ◌≤◌, false, List, [], ◌∷◌, slice_get, arith}
use Rattle.std.specs.Prelude.{All, IfSome, ◌↔◌}
use Rattle.std.specs.List.Sorted.{IsStrictlySortedBy}
use Rattle.std.specs.declared.cmp.Ordering.TheVariants.{Less}
use Rattle.std.proofs.lemmas.Bool.{ltb-false, le-ltb}
use Rattle.std.proofs.lemmas.List.Elements.{All-nil, All-cons, All-head, All-weaker}
use Rattle.std.proofs.lemmas.Map.Views.{All-after_first}
use Rattle.pl_conflict.specs.declared.conflict.Conflict.{Conflict}
use Rattle.pl_conflict.specs.Order.{conflict_cmp}
use Rattle.pl_conflict.proofs.OrderLaws.{from_rises}
use Rattle.pl_semantics.specs.declared.plan_state.PlanState.{PlanState}
use Rattle.pl_semantics.specs.Conflicts.{conflicts_of}
use Rattle.pl_semantics.specs.Grants.{touches_before}
use Rattle.pl_semantics.proofs.Standing.{ordered}

by_first : (h : ℕ) (ks : List Conflict) → All (λ k. touches_before h k ≡ false) ks → IfSome (slice_get ks 0) (λ k. h ≤ k.from)
by_first h [] all = tt
by_first h (k ∷ ks) all = ltb-false k.from h (All-head (λ q. touches_before h q ≡ false) k ks all)

from_first : (h : ℕ) (ks : List Conflict) → IsStrictlySortedBy conflict_cmp ks → IfSome (slice_get ks 0) (λ k. h ≤ k.from) → All (λ k. touches_before h k ≡ false) ks
from_first h [] sorted first = All-nil (λ q. touches_before h q ≡ false)
from_first h (k ∷ ks) sorted first = All-cons (λ q. touches_before h q ≡ false) k ks (le-ltb k.from h first) (All-weaker (λ q. conflict_cmp k q ≡ Less) (λ q. touches_before h q ≡ false) (λ q e. let le : k.from ≤ q.from = from_rises k q e in le-ltb q.from h (omega (arith, le, first))) ks (All-after_first conflict_cmp k ks sorted))

pub untouched : (s : PlanState) (h : ℕ) → All (λ k. touches_before h k ≡ false) (conflicts_of s) ↔ IfSome (slice_get (conflicts_of s) 0) (λ k. h ≤ k.from)
untouched s h = (by_first h (conflicts_of s), from_first h (conflicts_of s) (ordered s))
