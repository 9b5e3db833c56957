-- How the small words of the rules go along with a change of what they give.
use Rattle.std.proofs.Common.{◌≡◌, Bool, true, false, List, Option, Some, None, refl, ap, ◌∙◌}
use Rattle.std.specs.Prelude.{map}
use Rattle.std.specs.Option.{option_map}
use Rattle.pl_semantics.specs.PlanStates.{if_planned, of_found, when}

module _ {A B : Type 0} (g : A → B) where
  pub when_along : (b c : Bool) (r : A) → b ≡ c → when b (g r) ≡ map g (when c r)
  when_along b c r e = ap (λ d. when d (g r)) e ∙ by c
    where
      by : (d : Bool) → when d (g r) ≡ map g (when d r)
      by true = refl
      by false = refl

  pub planned_along : (b : Bool) (ys : List B) (xs : List A) → ys ≡ map g xs → if_planned b ys ≡ map g (if_planned b xs)
  planned_along true ys xs e = refl
  planned_along false ys xs e = e

  module _ {X Y : Type 0} (v : X → Y) (h : Y → List B) (k : X → List A) (same : (x : X) → h (v x) ≡ map g (k x)) where
    pub of_found_mapped : (o : Option X) → of_found h (option_map v o) ≡ map g (of_found k o)
    of_found_mapped None = refl
    of_found_mapped (Some x) = same x

  module _ {X : Type 0} (h : X → List B) (k : X → List A) (same : (x : X) → h x ≡ map g (k x)) where
    pub of_found_along : (o : Option X) → of_found h o ≡ map g (of_found k o)
    of_found_along None = refl
    of_found_along (Some x) = same x
