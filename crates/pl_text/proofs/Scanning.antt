-- Skipping what was read.
use Rattle.std.proofs.Common.{◌≡◌, ℕ, zero, suc, ◌+◌, ◌-◌, ◌≤◌, Bool, List, [], ◌∷◌, ◌++◌, length, drop, Result, Ok, Err, refl, sym, ap, append_assoc, arith}
use Rattle.std.specs.List.{prefix_len}
use Rattle.std.proofs.lemmas.List.Sums.{prefix_len-le-length}
use Rattle.std.proofs.lemmas.List.{append-nil}
use Rattle.pl_lists.specs.Judgements.{behind, Fails}
use Rattle.pl_lists.proofs.Judging.{fails_through}
use Rattle.pl_text.specs.declared.token.Token.{Token}
use Rattle.pl_text.specs.declared.lexeme.Lexeme.{Lexeme}
use Rattle.pl_text.specs.declared.fault.TextFault.{TextFault}
use Rattle.pl_text.specs.Tokens.{lexeme_of, kept, tokens_at, is_memory}

pub tokens_skip : (skip at : ℕ) (bs : List ℕ) → tokens_at skip at bs ≡ tokens_at 0 (at + skip) (drop skip bs)
unfolding tokens_at
tokens_skip zero at [] = refl
tokens_skip (suc skip) at [] = refl
tokens_skip zero at (b ∷ bs) = let e : at + 0 ≡ at = omega arith in rw e refl
tokens_skip (suc skip) at (b ∷ bs) = let e : at + suc skip ≡ at + 1 + skip = omega arith in rw e (tokens_skip skip (at + 1) bs)

pub behind-behind : (xs ys : List Token) (r : Result (List Token) TextFault) → behind xs (behind ys r) ≡ behind (xs ++ ys) r
behind-behind xs ys (Ok zs) = ap Ok (sym (append_assoc xs ys zs))
behind-behind xs ys (Err e) = refl

module _ (found : List Token) (at b : ℕ) (bs : List ℕ) where
  pub fails : (e : TextFault) → Fails is_memory e (lexeme_of at b bs) → Fails is_memory e (behind found (tokens_at 0 at (b ∷ bs)))
  unfolding tokens_at
  fails e = fails_through is_memory (lexeme_of at b bs) (behind found (tokens_at 0 at (b ∷ bs))) e (λ f is. rw is refl)

  pub takes : (l : Lexeme) → lexeme_of at b bs ≡ Ok l → 1 ≤ l.len → behind found (tokens_at 0 at (b ∷ bs)) ≡ behind (found ++ kept at l) (tokens_at 0 (at + l.len) (drop (l.len - 1) bs))
  unfolding tokens_at
  takes l is some =
      let e : at + 1 + (l.len - 1) ≡ at + l.len = omega (arith, some) in
      rw (is, tokens_skip (l.len - 1) (at + 1) bs, e) (behind-behind found (kept at l) (tokens_at 0 (at + l.len) (drop (l.len - 1) bs)))

pub prefix_within : (p : ℕ → Bool) (xs : List ℕ) → prefix_len p xs ≤ length xs
prefix_within p xs = prefix_len-le-length p xs

pub ends : (found : List Token) (at : ℕ) (rest : List ℕ) → length rest ≡ 0 → behind found (tokens_at 0 at rest) ≡ Ok found
unfolding tokens_at
ends found at [] e = ap Ok (append-nil found)
ends found at (b ∷ bs) e = absurd (omega (arith, e))
