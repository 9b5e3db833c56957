use Rattle.std.proofs.Common.{ℕ, List, [], ◌∷◌, ◌++◌, length, decimal, codes, ap, ◌∙◌}
use Rattle.pl_journal.specs.Rendering.Words.{spaced}
use Rattle.pl_report.proofs.Texts.{line_joined}
use Rattle.pl_report.proofs.forecasts.push_spans_line.Goals as goal

pub returns : goal.returns
returns c =
    let words : List (List ℕ) = decimal (length c.args.all.now) ∷ [] in
    c.in_ok-push.ensures.items
    ∙ ap (λ (t : List ℕ). t ++ 10 ∷ []) (c.in_ok-push_length.ensures ∙ ap (λ (t : List ℕ). t ++ spaced words) c.in_ok-extend_from_slice.ensures.items)
    ∙ line_joined c.args.text.now.items (codes "forecast spans") words
