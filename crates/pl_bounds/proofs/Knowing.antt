-- What is known of a move, and of each that places the same at another start.
use Rattle.std.proofs.Common.{◌≡◌, ◌≤◌, ◌+◌, ℕ, ℤ, true, false, [], ◌∷◌, Option, Some, None, sym, subst, arith}
use Rattle.std.specs.Prelude.{IfSome}
use Rattle.pl_links.specs.declared.placed.Placed.{Placed}
use Rattle.pl_moves.specs.Least.{least_known}
use Rattle.pl_moves.specs.Runs.{CanBeMade, start_of}
use Rattle.pl_plan.specs.declared.repair.RepairMove.{RepairMove}
use Rattle.pl_plan.specs.declared.repair.RepairMove.TheVariants.{Add, Delete, Shift, Assign}
use Rattle.pl_semantics.specs.declared.plan_state.PlanState.{PlanState}
use Rattle.pl_semantics.specs.Demands.{demands_of}
use Rattle.pl_semantics.specs.Moves.{applied}
use Rattle.pl_semantics.specs.Whole.{IsWhole}
use Rattle.pl_bounds.specs.Asked.{IsAlike}
use Rattle.pl_bounds.specs.Askings.{IsAskingOf, root_alone}
use Rattle.pl_bounds.specs.Bounds.{left_beside_states}
use Rattle.pl_bounds.specs.Known.{IsKnownOf, only_steady}
use Rattle.pl_bounds.specs.Orders.{unmet_then}
use Rattle.pl_bounds.specs.Plain.{count_of_plain}
use Rattle.pl_bounds.specs.Standing.{IsLeftByNew, IsStandingOf}
use Rattle.pl_bounds.specs.Windows.{IsLeftByShift, IsWindowOf, or_one_more}
use Rattle.pl_bounds.specs.Remaining.{count_of_untouched}
use Rattle.pl_bounds.specs.Ties.{count_of_lone, count_of_links, lone_then, root_in}
use Rattle.pl_bounds.specs.declared.asking.Asking.{Asking}
use Rattle.pl_bounds.specs.declared.window.Window.{Window}
use Rattle.pl_bounds.specs.declared.standing.Standing.{Standing}
use Rattle.pl_bounds.proofs.Adding.{addition_asks}
use Rattle.pl_bounds.proofs.Alike.{each_new, each_shift, each_deletion, each_assignment}
use Rattle.pl_bounds.proofs.Assigned.{assign_left}
use Rattle.pl_bounds.proofs.Placing.{new_lone}
use Rattle.pl_bounds.proofs.Staying.{new_left}
use Rattle.pl_bounds.proofs.Summing.{leaves_both}
use Rattle.pl_bounds.proofs.Together.{few_with_new}

module _ (s : PlanState) where
  pub known_new : IsWhole s → s.next_id ≤ 3999999000 → (kind start : ℕ) (goal : Option ℕ) → CanBeMade s (Add kind start goal) → (n : ℕ) → IsLeftByNew s kind goal n → (u : ℕ) → u ≤ count_of_untouched s [] (kind ∷ []) None
      → (own : Placed) → own ≡ root_in (root_alone s kind start goal) s.next_id kind start
      → (a : Asking) → a.going.items ≡ [] → a.coming.items ≡ demands_of (root_alone s kind start goal) → a.start ≡ start
      → IsKnownOf s (record { first = Add kind start goal; steady = n; window = None; untouched = u; alone = Some own; asking = Some a })
  known_new whole next kind start goal can n left u few own is a going coming from = record {
    steady = each_new s (λ m. n + 0 ≤ count_of_plain (applied s m)) kind start goal (λ to there. let most = left to there in omega (arith, most));
    links = each_new s (λ m. u + lone_then s (start_of m) (Some own) + unmet_then s (start_of m) (Some own) ≤ count_of_links (applied s m)) kind start goal
        (λ to there. subst (λ (p : Placed). u + count_of_lone s to p + unmet_then s to (Some p) ≤ count_of_links (applied s (Add kind to goal))) (sym is)
        (let all = few_with_new s whole next kind to goal there _ _ (new_lone s whole next kind to goal there start can) u few in omega (arith, all)));
    asking = addition_asks s whole next kind start goal can a going coming from;
  }

  pub known_deletion : (id n : ℕ) → n ≤ count_of_plain (applied s (Delete id)) → (u : ℕ) → u ≤ count_of_links (applied s (Delete id)) → (o : Option Asking) → IfSome o (λ a. IsAskingOf s (Delete id) a) → IsKnownOf s (record { first = Delete id; steady = n; window = None; untouched = u; alone = None; asking = o })
  known_deletion id n left u few o asks = record {
    steady = each_deletion s (λ m. n + 0 ≤ count_of_plain (applied s m)) id (omega (arith, left));
    links = each_deletion s (λ m. u + 0 + 0 ≤ count_of_links (applied s m)) id (omega (arith, few));
    asking = asks;
  }

  pub known_shift : (id start n : ℕ) → IsLeftByShift s id n → (w : Option Window) → IfSome w (λ x. IsWindowOf s id x) → (u : ℕ) (own : Option Placed) → ((to : ℕ) → CanBeMade s (Shift id to) → u + lone_then s to own + unmet_then s to own ≤ count_of_links (applied s (Shift id to)))
      → (o : Option Asking) → IfSome o (λ a. IsAskingOf s (Shift id start) a) → IsKnownOf s (record { first = Shift id start; steady = n; window = w; untouched = u; alone = own; asking = o })
  known_shift id start n left w window u own few o asks = record {
    steady = each_shift s (λ m. or_one_more w (start_of m) n ≤ count_of_plain (applied s m)) id start (left w window);
    links = each_shift s (λ m. u + lone_then s (start_of m) own + unmet_then s (start_of m) own ≤ count_of_links (applied s m)) id start few;
    asking = asks;
  }

  -- where nothing is known but a number
  pub known_other : (first : RepairMove) (n : ℕ) → ((m : RepairMove) → CanBeMade s m → IsAlike first m → n ≤ count_of_plain (applied s m)) → IsKnownOf s (only_steady first n)
  known_other first n left = record { steady = λ m can alike. let most = left m can alike in omega (arith, most); links = λ m can alike. omega arith; asking = tt }

  -- an assignment leaves as many open goals, and as many activities that lack an alternative
  pub valueless_left : IsWhole s → s.next_id ≤ 3999999000 → (o : Standing) → IsStandingOf s o → (id param : ℕ) (value : ℤ) (m : RepairMove) → CanBeMade s m → IsAlike (Assign id param value) m → o.valueless ≤ count_of_plain (applied s m)
  valueless_left whole next o of id param value =
      each_assignment s (λ m. o.valueless ≤ count_of_plain (applied s m)) id param value
      (λ can. let left = assign_left s whole next id param value can in let most = of.valueless in omega (arith, most, left))

  -- what is known of a move without a look at the conflicts is no conflict of states
  pub known_beside : IsWhole s → s.next_id ≤ 3999999000 → (m : RepairMove) → CanBeMade s m → least_known s m ≤ left_beside_states s m
  known_beside whole next (Add kind start goal) can =
      let left : IsLeftByNew s kind goal (least_known s (Add kind start goal)) = new_left s whole next kind start goal 0 (omega arith) false (λ e. absurd (let bad : false ≡ true = e in cc)) (least_known s (Add kind start goal)) (omega arith) in
      omega (arith, left start can, leaves_both s (Add kind start goal))
  known_beside whole next _ can = omega arith
