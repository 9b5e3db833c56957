-- The first of a sorted list of conflicts decides how far a commit can go.
use Rattle.std.proofs.Common.{◌≡◌, ℕ, ◌≤◌, Bool, List, [], ◌∷◌, min, slice_get, arith}
use Rattle.std.specs.List.Sorted.{IsStrictlySortedBy}
use Rattle.std.specs.declared.cmp.Ordering.TheVariants.{Less}
use Rattle.std.proofs.lemmas.List.Elements.{All-nil, All-cons, All-head, All-weaker}
use Rattle.std.proofs.lemmas.Map.Views.{All-after_first}
use Rattle.pl_model.specs.declared.whole.Model.{Model}
use Rattle.pl_conflict.specs.declared.conflict.Conflict.{Conflict}
use Rattle.pl_conflict.specs.Order.{conflict_cmp}
use Rattle.pl_conflict.proofs.OrderLaws.{from_rises}
use Rattle.pl_entry.specs.Horizon.{target_of, best_of, IsBest}

pub best_is : (model : Model) (now : ℕ) (halted : Bool) (ks : List Conflict) → IsStrictlySortedBy conflict_cmp ks → IsBest model now halted ks (best_of model now halted (slice_get ks 0))
best_is model now halted [] sorted = record { within = omega arith; untouched = All-nil (λ q. target_of model now halted ≤ q.from); furthest = λ other le all. le }
best_is model now halted (k ∷ ks) sorted = record {
  within = omega arith;
  untouched = All-cons (λ q. min (target_of model now halted) k.from ≤ q.from) k ks (omega arith) (All-weaker (λ q. conflict_cmp k q ≡ Less) (λ q. min (target_of model now halted) k.from ≤ q.from) (λ q e. let le = from_rises k q e in omega (arith, le)) ks (All-after_first conflict_cmp k ks sorted));
  furthest = λ other le all. let first = All-head (λ q. other ≤ q.from) k ks all in omega (arith, le, first);
}
