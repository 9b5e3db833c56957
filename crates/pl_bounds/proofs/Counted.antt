-- Conflicts that differ, and that a list holds, are no more than the list is long; and groups of them that do not meet add up.
use Rattle.std.proofs.Common.{◌≡◌, ◌+◌, ◌≤◌, Bool, true, false, List, [], ◌∷◌, length, refl, sym, ap, ◌∙◌, arith}
use Rattle.std.specs.Prelude.{◌||◌, ◌&&◌, not}
use Rattle.std.specs.Set.{remove_key}
use Rattle.std.proofs.lemmas.Map.Made.{length-remove_key}
use Rattle.pl_conflict.specs.declared.conflict.Conflict.{Conflict}
use Rattle.pl_conflict.specs.Order.{has}
use Rattle.pl_conflict.specs.Sorting.{AreInOrder}
use Rattle.pl_bounds.specs.Counts.{AreApart}
use Rattle.pl_conflict.proofs.Sorting.{same, same_is, has-remove, ordered-remove, same_itself}
use Rattle.std.proofs.Math.Bool.{or-true}
use Rattle.std.proofs.lemmas.Bool.{false_from_ne_true}

kept : (h s : Bool) → h ≡ true → s ≡ false → (h && not s) ≡ true
kept true false e f = refl
kept true true e f = absurd (cc)
kept false s e f = absurd (cc)

pub held_are_few : (ks all : List Conflict) → AreApart ks → AreInOrder all → ((q : Conflict) → has q ks ≡ true → has q all ≡ true) → length ks ≤ length all
held_are_few [] all apart ordered held = omega arith
held_are_few (k ∷ ks) all apart ordered held =
    let here : has k all ≡ true = held k (ap (λ b. b || has k ks) (same_itself k)) in
    let shorter : length (remove_key (same k) all) + 1 ≡ length all = length-remove_key (same k) all here in
    let more : length ks ≤ length (remove_key (same k) all) = held_are_few ks (remove_key (same k) all) apart.1 (ordered-remove all k ordered) others in
    omega (arith, shorter, more)
  where
    others : (q : Conflict) → has q ks ≡ true → has q (remove_key (same k) all) ≡ true
    others q e =
        let other : same k q ≡ false = false_from_ne_true (same k q) (λ f. absurd (let is : k ≡ q = same_is k q f in let bad : true ≡ false = sym e ∙ (ap (λ z. has z ks) (sym is) ∙ apart.0) in cc)) in
        has-remove all k q ordered ∙ kept (has q all) (same k q) (held q (ap (λ b. same q k || b) e ∙ or-true (same q k))) other
