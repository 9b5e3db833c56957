-- Authors told apart.
use Rattle.std.proofs.Common.{◌≡◌, ◌≢◌, ℕ, ◌<◌, ◌==◌, true, false, refl, ap, sym, ◌∙◌, arith}
use Rattle.std.proofs.lemmas.Bool.{eqb-true, eq-eqb}
use Rattle.pl_marks.specs.declared.author.Author.{Author}
use Rattle.pl_marks.specs.declared.author.Author.TheVariants.{Feeder, Executive, Planner}
use Rattle.pl_marks.specs.Authors.{IsAuthor, slot_of, is_same}

pub same_self : (a : Author) → is_same a a ≡ true
same_self Feeder = refl
same_self Executive = refl
same_self (Planner k) = eq-eqb k k refl

pub same_author : (a b : Author) → is_same a b ≡ true → a ≡ b
same_author Feeder Feeder e = refl
same_author Feeder Executive e = absurd (cc)
same_author Feeder (Planner k) e = absurd (cc)
same_author Executive Feeder e = absurd (cc)
same_author Executive Executive e = refl
same_author Executive (Planner k) e = absurd (cc)
same_author (Planner j) Feeder e = absurd (cc)
same_author (Planner j) Executive e = absurd (cc)
same_author (Planner j) (Planner k) e = ap (λ (n : ℕ). Planner n) (eqb-true j k e)

pub slot_few : (a : Author) → IsAuthor a → slot_of a < 10
slot_few Feeder is = omega arith
slot_few Executive is = omega arith
slot_few (Planner k) is = let high = is.1 in omega arith

pub slot_apart : (a b : Author) → IsAuthor a → IsAuthor b → is_same b a ≡ false → slot_of b ≢ slot_of a
slot_apart Feeder Feeder p q e = λ h. cc
slot_apart Feeder Executive p q e = λ h. omega arith
slot_apart Feeder (Planner k) p q e = λ h. omega arith
slot_apart Executive Feeder p q e = λ h. omega arith
slot_apart Executive Executive p q e = λ h. cc
slot_apart Executive (Planner k) p q e = λ h. let low = q.0 in omega arith
slot_apart (Planner j) Feeder p q e = λ h. omega arith
slot_apart (Planner j) Executive p q e = λ h. let low = p.0 in omega arith
slot_apart (Planner j) (Planner k) p q e = λ h.
    let same : k ≡ j = omega arith in
    let both : true ≡ false = sym (eq-eqb j j refl) ∙ ap (λ (n : ℕ). n == j) (sym same) ∙ e in cc
