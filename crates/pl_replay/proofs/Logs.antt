-- Legal logs are short, and their lines grow at the end.
use Rattle.std.proofs.Common.{◌≡◌, ℕ, suc, ◌+◌, ◌<◌, ◌^◌, List, [], ◌∷◌, ◌++◌, length, ◌∙◌, ap, arith}
use Rattle.pl_model.specs.declared.whole.Model.{Model}
use Rattle.pl_entry.specs.declared.entry.Entry.{Entry}
use Rattle.pl_journal.specs.Rendering.Lines.{text_of}
use Rattle.pl_machine.specs.Legal.{Legal, options_in}
use Rattle.pl_machine.proofs.ShortLogs.{opened_short}
use Rattle.pl_replay.specs.Journals.{lines_from}

pub legal_small : (m : Model) (log : List Entry) → Legal m log → length log < 2 ^ 32
legal_small m [] legal = absurd legal
legal_small m (first ∷ entries) legal = let few = opened_short m (options_in first.event) first.reply entries legal in omega (arith, few)

plus_one : (n k : ℕ) → n + 1 + k ≡ n + suc k
plus_one n k = omega arith

pub lines_push : (m : Model) (n : ℕ) (log : List Entry) (e : Entry) → lines_from m n (log ++ e ∷ []) ≡ lines_from m n log ++ text_of m (n + length log) e ∷ []
lines_push m n [] e = let same : n ≡ n + 0 = omega arith in ap (λ k. text_of m k e ∷ []) same
lines_push m n (x ∷ xs) e =
    ap (λ (ls : List (List ℕ)). text_of m n x ∷ ls) (lines_push m (n + 1) xs e ∙ ap (λ k. lines_from m (n + 1) xs ++ text_of m k e ∷ []) (plus_one n (length xs)))
