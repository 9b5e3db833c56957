-- From the tokens that are left to the place of the first bad one, and the answer of the whole reader.
use Rattle.std.proofs.Common.{◌≡◌, ℕ, ◌+◌, ◌-◌, ◌<◌, List, [], ◌∷◌, ◌++◌, length, take, sym, ap, subst, arith}
use Rattle.std.proofs.Math.Seq.{take-append_seam, take-append-add}
use Rattle.std.proofs.lemmas.List.{length-append}
use Rattle.pl_syntax.specs.declared.token.Token.{Token}
use Rattle.pl_syntax.specs.Faults.{Trouble, unexpected, Language, Begins, Why, Blames, FirstBad, IsFirstBad}

module _ {D : Type 0} (R F : Language D) where
  there_at : (front rest : List Token) (trouble : Trouble) → Blames R F front trouble rest → length front < length (front ++ rest) → (Begins R (take (length front + 1) (front ++ rest)) → ⊥) × Why F trouble (take (length front + 1) (front ++ rest))
  there_at front [] trouble b long = absurd (omega (arith, long, length-append front []))
  there_at front (bad ∷ rest) trouble b long = let P : List Token → Type 0 = λ x. (Begins R x → ⊥) × Why F trouble x in subst P (sym (take-append-add front (bad ∷ rest) 1)) b

  end_at : (front rest : List Token) (trouble : Trouble) → Blames R F front trouble rest → length front ≡ length (front ++ rest) → trouble ≡ unexpected
  end_at front [] trouble b e = b
  end_at front (bad ∷ rest) trouble b e = absurd (omega (arith, e, length-append front (bad ∷ rest)))

  at_front : (front rest : List Token) (trouble : Trouble) → ((d : D) → R (front ++ rest) d → ⊥) → Begins R front → Blames R F front trouble rest → IsFirstBad R F (front ++ rest) trouble (length front)
  at_front front rest trouble none before blames = record {
    none = none;
    within = omega (arith, length-append front rest);
    before = let P : List Token → Type 0 = λ x. Begins R x in subst P (sym (take-append_seam front rest)) before;
    there = there_at front rest trouble blames;
    end = end_at front rest trouble blames;
  }

  pub first_bad : (all : List Token) (trouble : Trouble) (left : ℕ) → ((d : D) → R all d → ⊥) → FirstBad R F all trouble left → IsFirstBad R F all trouble (length all - left)
  first_bad all trouble left none f =
      let whole : all ≡ f.front ++ f.rest = f.parts in
      let place : length all - left ≡ length f.front = omega (arith, ap (λ (x : List Token). length x) f.parts, f.counts, length-append f.front f.rest) in
      let N : List Token → Type 0 = λ x. (d : D) → R x d → ⊥ in
      let P : List Token → Type 0 = λ x. IsFirstBad R F x trouble (length f.front) in
      rw place (subst P (sym whole) (at_front f.front f.rest trouble (subst N whole none) f.before f.blames))
