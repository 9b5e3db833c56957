-- Activities, their places in trees and what is found of them, under new ids.
use Rattle.std.proofs.Common.{◌≡◌, ℕ, zero, suc, ◌≤◌, eqb, Bool, true, false, cond, List, [], ◌∷◌, Option, Some, None, refl, sym, ap, ◌∙◌, arith}
use Rattle.std.specs.Prelude.{◌&&◌, ◌||◌, not, find, option_and_then, unwrap_or}
use Rattle.std.specs.Option.{option_map}
use Rattle.pl_model.specs.Choices.{is_slot}
use Rattle.pl_plan.specs.declared.activity.Activity.{Activity}
use Rattle.pl_plan.specs.Activities.{activity_of}
use Rattle.pl_plan.specs.Index.{is_number}
use Rattle.pl_plan.specs.Serving.{served_in, serves, is_served}
use Rattle.pl_plan.specs.Fitting.{fills}
use Rattle.pl_plan.specs.Trees.{IsRooted, parent_id, parent_in, parent_of, climbed, climb, root_rule, root_of, descends, descent_rule}
use Rattle.pl_plan.specs.Moves.{kept, without_subtree, without_below}
use Rattle.pl_plan.proofs.Climbs.{parent_smaller, climb_root, climb_child}
use Rattle.pl_renumbering.specs.Renumbered.{KeepsOrder, renumbered_place, renumbered, renumbered_all}
use Rattle.pl_renumbering.proofs.Lists.{any_mapped, find_mapped, filter_mapped}
use Rattle.pl_renumbering.proofs.Numbers.{same_ids, no_smaller}

-- ---- what does not see ids

pub served_same : (f : ℕ → ℕ) (a : Activity) → served_in (renumbered f a) ≡ served_in a
served_same f a = by a.parent
  where
    by : (o : Option (ℕ × ℕ)) → served_in (renumbered f (record a { parent = o })) ≡ served_in (record a { parent = o })
    by None = refl
    by (Some p) = refl

pub serving_same : (f : ℕ → ℕ) (goal : ℕ) (xs : List Activity) → is_served goal (renumbered_all f xs) ≡ is_served goal xs
serving_same f goal xs = any_mapped (renumbered f) (serves goal) (serves goal) (λ a. ap (is_number goal) (served_same f a)) xs

module _ (f : ℕ → ℕ) (keeps : KeepsOrder f) where
  -- ---- what is found

  pub found_renumbered : (id : ℕ) (xs : List Activity) → activity_of (f id) (renumbered_all f xs) ≡ option_map (renumbered f) (activity_of id xs)
  found_renumbered id [] = refl
  found_renumbered id (x ∷ xs) = rw (same_ids f keeps x.id id) (by (eqb x.id id) (found_renumbered id xs))
    where
      by : (b : Bool) → activity_of (f id) (renumbered_all f xs) ≡ option_map (renumbered f) (activity_of id xs)
          → cond b (Some (renumbered f x)) (activity_of (f id) (renumbered_all f xs)) ≡ option_map (renumbered f) (cond b (Some x) (activity_of id xs))
      by true e = refl
      by false e = e

  pub slot_same : (parent slot : ℕ) (o : Option (ℕ × ℕ)) → is_slot (f parent) slot (renumbered_place f o) ≡ is_slot parent slot o
  slot_same parent slot None = refl
  slot_same parent slot (Some p) = ap (λ b. b && eqb p.1 slot) (same_ids f keeps p.0 parent)

  pub fills_same : (parent slot : ℕ) (a : Activity) → fills (f parent) slot (renumbered f a) ≡ fills parent slot a
  fills_same parent slot a = slot_same parent slot a.parent

  pub child_renumbered : (parent slot : ℕ) (xs : List Activity) → find (fills (f parent) slot) (renumbered_all f xs) ≡ option_map (renumbered f) (find (fills parent slot) xs)
  child_renumbered parent slot xs = find_mapped (renumbered f) (fills (f parent) slot) (fills parent slot) (fills_same parent slot) xs

  -- ---- parents

  place_id : (o : Option (ℕ × ℕ)) → parent_id (renumbered_place f o) ≡ option_map f (parent_id o)
  place_id None = refl
  place_id (Some p) = refl

  pub parent_renumbered : (id : ℕ) (xs : List Activity) → parent_of (f id) (renumbered_all f xs) ≡ option_map f (parent_of id xs)
  parent_renumbered id xs = ap (option_and_then parent_in) (found_renumbered id xs) ∙ by (activity_of id xs)
    where
      by : (o : Option Activity) → option_and_then parent_in (option_map (renumbered f) o) ≡ option_map f (option_and_then parent_in o)
      by None = refl
      by (Some a) = place_id a.parent

  -- ---- what a rule comes to along the parents

  module _ {R R' : Type 0} (g : R → R') (rule : ℕ → Option R → R) (rule' : ℕ → Option R' → R') (alike : (id : ℕ) (above : Option R) → rule' (f id) (option_map g above) ≡ g (rule id above)) (xs : List Activity) (rooted : IsRooted xs) where
    stepped : (n id : ℕ) → climbed rule' n (renumbered_all f xs) (f id) ≡ g (climbed rule n xs id)
    stepped zero id = alike id None
    stepped (suc n) id = rw (parent_renumbered id xs) (by (parent_of id xs) (λ p. stepped n p))
      where
        by : (o : Option ℕ) → ((p : ℕ) → climbed rule' n (renumbered_all f xs) (f p) ≡ g (climbed rule n xs p))
            → rule' (f id) (option_map (λ p. climbed rule' n (renumbered_all f xs) p) (option_map f o)) ≡ g (rule id (option_map (λ p. climbed rule n xs p) o))
        by None more = alike id None
        by (Some p) more = ap (λ r. rule' (f id) (Some r)) (more p) ∙ alike id (Some (climbed rule n xs p))

    enough : (n id : ℕ) → id ≤ n → climbed rule n xs id ≡ climb rule xs id
    enough zero id le = by (parent_of id xs) refl
      where
        by : (o : Option ℕ) → parent_of id xs ≡ o → climbed rule zero xs id ≡ climb rule xs id
        by None e = sym (climb_root rule xs rooted id e)
        by (Some p) e = absurd (omega (arith, (parent_smaller xs rooted id p e).1, le))
    enough (suc n) id le = by (parent_of id xs) refl (λ p at_most. enough n p at_most)
      where
        by : (o : Option ℕ) → parent_of id xs ≡ o → ((p : ℕ) → p ≤ n → climbed rule n xs p ≡ climb rule xs p) → climbed rule (suc n) xs id ≡ climb rule xs id
        by None e more = rw e (sym (climb_root rule xs rooted id e))
        by (Some p) e more = let less = (parent_smaller xs rooted id p e).1 in rw e (ap (λ r. rule id (Some r)) (more p (omega (arith, less, le))) ∙ sym (climb_child rule xs rooted id p e))

    opened : (n : ℕ) → climb rule' (renumbered_all f xs) n ≡ climbed rule' n (renumbered_all f xs) n
    unfolding climb
    opened n = refl

    pub climb_along : (id : ℕ) → climb rule' (renumbered_all f xs) (f id) ≡ g (climb rule xs id)
    climb_along id = opened (f id) ∙ (stepped (f id) id ∙ ap g (enough (f id) id (no_smaller f keeps id)))

  -- where the rule gives what carries no ids
  pub climb_renumbered : {R : Type 0} (rule rule' : ℕ → Option R → R) → ((id : ℕ) (above : Option R) → rule' (f id) above ≡ rule id above) → (xs : List Activity) → IsRooted xs
      → (id : ℕ) → climb rule' (renumbered_all f xs) (f id) ≡ climb rule xs id
  climb_renumbered {R} rule rule' alike xs rooted id = climb_along (λ (r : R). r) rule rule' one xs rooted id
    where
      one : (i : ℕ) (above : Option R) → rule' (f i) (option_map (λ r. r) above) ≡ rule i above
      one i None = alike i None
      one i (Some r) = alike i (Some r)

  -- ---- roots

  pub root_renumbered : (xs : List Activity) → IsRooted xs → (id : ℕ) → root_of (f id) (renumbered_all f xs) ≡ f (root_of id xs)
  root_renumbered xs rooted id = climb_along f root_rule root_rule one xs rooted id
    where
      one : (i : ℕ) (above : Option ℕ) → root_rule (f i) (option_map f above) ≡ f (root_rule i above)
      one i None = refl
      one i (Some r) = refl

  -- ---- descent

  module _ (xs : List Activity) (rooted : IsRooted xs) where
    pub descends_same : (top id : ℕ) → descends (renumbered_all f xs) (f top) (f id) ≡ descends xs top id
    descends_same top id = climb_renumbered (descent_rule top) (descent_rule (f top)) (λ i above. ap (λ b. b || unwrap_or above false) (same_ids f keeps i top)) xs rooted id

    pub kept_renumbered : (stays' stays : ℕ → Bool) → ((id : ℕ) → stays' (f id) ≡ stays id) → (ys : List Activity) → kept stays' (renumbered_all f ys) ≡ renumbered_all f (kept stays ys)
    kept_renumbered stays' stays same ys = filter_mapped (renumbered f) (λ a. stays' a.id) (λ a. stays a.id) (λ a. same a.id) ys

    pub without_subtree_renumbered : (top : ℕ) → without_subtree (f top) (renumbered_all f xs) ≡ renumbered_all f (without_subtree top xs)
    without_subtree_renumbered top = kept_renumbered _ _ (λ id. ap not (descends_same top id)) xs

    pub without_below_renumbered : (top : ℕ) → without_below (f top) (renumbered_all f xs) ≡ renumbered_all f (without_below top xs)
    without_below_renumbered top = kept_renumbered _ _ (λ id. rw (same_ids f keeps id top, descends_same top id) refl) xs
