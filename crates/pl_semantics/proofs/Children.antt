-- The activity in a slot is found among the children.
use Rattle.std.proofs.Common.{◌≡◌, ℕ, eqb, Bool, true, false, List, [], ◌∷◌, map, find, Option, None, Some, refl, sym, ◌∙◌}
use Rattle.std.specs.Prelude.{All, filter}
use Rattle.std.proofs.lemmas.List.Elements.{All-head, All-tail}
use Rattle.pl_plan.specs.declared.activity.Activity.{Activity}
use Rattle.pl_plan.specs.Activities.{AreRising, activity_of}
use Rattle.pl_plan.specs.Trees.{id_of, is_child, children_of}
use Rattle.pl_plan.specs.Fitting.{fills}
use Rattle.pl_plan.proofs.Kept.{each_found}
use Rattle.pl_semantics.specs.Slots.{first_filling}

module _ (xs : List Activity) (parent slot : ℕ) where
  -- what is no child of the parent is in none of its slots
  no_child : (a : Activity) → is_child parent a ≡ false → fills parent slot a ≡ false
  no_child a none = by_parent a.parent refl
    where
      by_parent : (o : Option (ℕ × ℕ)) → a.parent ≡ o → fills parent slot a ≡ false
      by_parent None is = rw is refl
      by_parent (Some p) is = let apart : eqb p.0 parent ≡ false = rw is at none in rw (is, apart) refl

  first : (ys : List Activity) → All (λ y. activity_of y.id xs ≡ Some y) ys → first_filling xs parent slot (map id_of (filter (is_child parent) ys)) ≡ find (fills parent slot) ys
  first [] all = refl
  first (y ∷ ys) all = cases (is_child parent y) refl (fills parent slot y) refl (first ys (All-tail (λ y. activity_of y.id xs ≡ Some y) y ys all))
    where
      here : activity_of y.id xs ≡ Some y
      here = All-head (λ y. activity_of y.id xs ≡ Some y) y ys all

      cases : (b : Bool) → is_child parent y ≡ b → (c : Bool) → fills parent slot y ≡ c → first_filling xs parent slot (map id_of (filter (is_child parent) ys)) ≡ find (fills parent slot) ys → first_filling xs parent slot (map id_of (filter (is_child parent) (y ∷ ys))) ≡ find (fills parent slot) (y ∷ ys)
      cases true e true f more = rw (e, here, f) refl
      cases true e false f more = rw (e, here, f) more
      cases false e true f more = absurd (let bad : true ≡ false = sym f ∙ no_child y e in cc)
      cases false e false f more = rw (e, f) more

pub child_found : (xs : List Activity) → AreRising xs → (parent slot : ℕ) → first_filling xs parent slot (children_of parent xs) ≡ find (fills parent slot) xs
child_found xs rising parent slot = first xs parent slot xs (each_found xs rising)
