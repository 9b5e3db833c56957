-- The longer label.
use Rattle.std.proofs.Common.{ℕ, List, [], ◌∷◌, ◌++◌, codes, ap, ◌∙◌}
use Rattle.pl_journal.specs.Rendering.Words.{spaced}
use Rattle.pl_report.specs.Verdicts.{legal_words}
use Rattle.pl_report.proofs.Texts.{line_begun}
use Rattle.pl_report.proofs.verdicts.legal_line.Goals as goal

pub returns : goal.returns
returns c =
    let words : List (List ℕ) = legal_words c.args.entries c.args.done in
    c.in_ok-push.ensures.items
    ∙ ap (λ (t : List ℕ). t ++ 10 ∷ []) (c.in_ok-push_legal_words.ensures ∙ ap (λ (t : List ℕ). t ++ spaced words) c.in_ok-line.ensures.items)
    ∙ line_begun (codes "journal ok:") words
