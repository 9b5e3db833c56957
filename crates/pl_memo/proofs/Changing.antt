-- A difference after a replacement.
use Rattle.std.proofs.Common.{◌≡◌, ℕ, ◌+◌, ◌<◌, ◌≤◌, List, [], ◌∷◌, length, drop, get_or, Some, None, refl, sym, subst, arith}
use Rattle.std.specs.Prelude.{map}
use Rattle.std.specs.List.{fold}
use Rattle.std.proofs.Math.ListN.{drop_of_length-le}
use Rattle.std.proofs.lemmas.List.{drop_more}
use Rattle.pl_plan.specs.declared.activity.Activity.{Activity}
use Rattle.pl_plan.specs.Activities.{AreRising, placed, without}
use Rattle.pl_plan.specs.Trees.{id_of}
use Rattle.pl_plan.proofs.Ids.{rising-without, rising-placed}
use Rattle.pl_update.specs.Changes.Replaced.{taken, put, replaced}
use Rattle.pl_update.specs.Changes.Putting.{CanPut}
use Rattle.pl_memo.specs.declared.difference.Difference.{Difference}
use Rattle.pl_memo.specs.Differences.{IsDifference, no_difference, leaving, Comes, AllCome, IsChangedBy, CanLeave}
use Rattle.pl_memo.proofs.Steps.{after_leaving, after_coming}

pub none_differs : (base : List Activity) → IsDifference base base no_difference
none_differs base = record {
  gone_rises = tt;
  placed_rises = tt;
  was = λ id a there. absurd (let bad : None ≡ Some a = there in (cc));
  instead = λ id a b there stood. absurd (let bad : None ≡ Some a = there in (cc));
  shows = λ id. refl;
}

module _ (base : List Activity) where
  rises_left : (xs out : List Activity) → AreRising xs → AreRising (taken xs (map id_of out))
  rises_left xs [] rises = rises
  rises_left xs (a ∷ out) rises = rises_left (without a.id xs) out (rising-without a.id 0 xs rises)

  all_leave : (xs : List Activity) (d : Difference) (out : List Activity) → AreRising xs → IsDifference base xs d → CanLeave xs out → IsDifference base (taken xs (map id_of out)) (fold leaving d out)
  all_leave xs d [] rises is can = is
  all_leave xs d (a ∷ out) rises is can = all_leave (without a.id xs) (leaving d a) out (rising-without a.id 0 xs rises) (after_leaving base xs d rises is a can.0) can.1

  all_come : (xs : List Activity) (d e : Difference) (more : List Activity) → AreRising xs → IsDifference base xs d → CanPut xs more → AllCome d more e → IsDifference base (put xs more) e
  all_come xs d e [] rises is can come = subst (IsDifference base xs) (sym come) is
  all_come xs d e (a ∷ more) rises is can come =
      all_come (placed a xs) come.0 e more (rising-placed a 0 xs can.0 (omega arith) rises) (after_coming base xs d rises is a come.0 can.0 come.1) can.1 come.2

  pub after_replacement : (xs : List Activity) (d e : Difference) (out more : List Activity) → AreRising xs → IsDifference base xs d → CanLeave xs out → CanPut (taken xs (map id_of out)) more → IsChangedBy out more d e
      → IsDifference base (replaced xs (map id_of out) more) e
  unfolding replaced
  after_replacement xs d e out more rises is leave can come =
      all_come (taken xs (map id_of out)) (fold leaving d out) e more (rises_left xs out rises) (all_leave xs d out rises is leave) can come

-- ---- one after another

pub one_comes : (more : List Activity) (i : ℕ) (d e reached : Difference) (x a : Activity) → i < length more → a ≡ get_or more i x → Comes d a e → AllCome e (drop (i + 1) more) reached → AllCome d (drop i more) reached
one_comes more i d e reached x a lt here comes rest =
    subst (λ (l : List Activity). AllCome d l reached) (sym (drop_more more i x lt)) (e, subst (λ (y : Activity). Comes d y e) here comes, rest)

pub none_comes : (more : List Activity) (i : ℕ) (d : Difference) → length more ≤ i → AllCome d (drop i more) d
none_comes more i d past = subst (λ (l : List Activity). AllCome d l d) (sym (drop_of_length-le more past)) refl
