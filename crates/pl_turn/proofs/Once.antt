-- Numbers from one on and below another, each counted once.
use Rattle.std.proofs.Common.{◌≡◌, ◌≢◌, ℕ, ◌+◌, ◌≤◌, ◌∙◌, arith}
use mathlib.Core.Logic.{dite}
use native.Mathlib.Decide.{ℕ_discrete}
use Rattle.pl_turn.specs.History.{IsEachOnce}

pub once_same : (a b : ℕ) (f g : ℕ → ℕ) → IsEachOnce a b f → ((n : ℕ) → g n ≡ f n) → IsEachOnce a b g
once_same a b f g once same = record {
  inside = λ n from to. same n ∙ once.inside n from to;
  below = λ n to. same n ∙ once.below n to;
  above = λ n from. same n ∙ once.above n from;
}

-- one number more at the end
pub once_more : (a b c : ℕ) (f g : ℕ → ℕ) → IsEachOnce a b f → a ≤ b → c ≡ b + 1 → g b ≡ f b + 1 → ((n : ℕ) → n ≢ b → g n ≡ f n) → IsEachOnce a c g
once_more a b c f g once le is here else' = record {
  inside = λ n from to. dite (ℕ_discrete n b)
      (λ (e : n ≡ b). let none = once.above b (omega arith) in let at : g n ≡ g b = (λ i. g (e i)) in omega arith)
      (λ (ne : n ≢ b). else' n ne ∙ once.inside n from (omega arith));
  below = λ n to. else' n (λ e. omega arith) ∙ once.below n to;
  above = λ n from. else' n (λ e. omega arith) ∙ once.above n (omega arith);
}

-- one number less at the front
pub once_less : (a b c : ℕ) (f g : ℕ → ℕ) → IsEachOnce a b f → c ≡ a + 1 → g a ≡ 0 → ((n : ℕ) → n ≢ a → g n ≡ f n) → IsEachOnce c b g
once_less a b c f g once is here else' = record {
  inside = λ n from to. else' n (λ e. omega arith) ∙ once.inside n (omega arith) to;
  below = λ n to. dite (ℕ_discrete n a)
      (λ (e : n ≡ a). (λ i. g (e i)) ∙ here)
      (λ (ne : n ≢ a). else' n ne ∙ once.below n (omega arith));
  above = λ n from. dite (ℕ_discrete n a)
      (λ (e : n ≡ a). (λ i. g (e i)) ∙ here)
      (λ (ne : n ≢ a). else' n ne ∙ once.above n from);
}
