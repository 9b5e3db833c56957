-- The longer words.
use Rattle.std.proofs.Common.{ℕ, List, [], ◌∷◌, ◌++◌, codes, decimal, ap, ◌∙◌}
use Rattle.pl_journal.specs.Rendering.Words.{spaced}
use Rattle.pl_report.proofs.Texts.{five_joined}
use Rattle.pl_report.proofs.heading.push_heading_words.Goals as goal

pub returns : goal.returns
returns c =
    let entries : List (List ℕ) = codes "entries" ∷ decimal c.args.entries ∷ [] in
    let moment : List (List ℕ) = codes "now" ∷ decimal c.args.state.now.moment ∷ [] in
    let committed : List (List ℕ) = codes "committed" ∷ decimal c.args.state.now.committed ∷ [] in
    let sent : List (List ℕ) = codes "dispatched" ∷ decimal c.args.dispatched ∷ [] in
    let wrong : List (List ℕ) = codes "conflicts" ∷ decimal c.args.conflicts ∷ [] in
    c.in_ok-push_counted-3.ensures
    ∙ ap (λ (t : List ℕ). t ++ spaced wrong)
    (c.in_ok-push_counted-2.ensures
    ∙ ap (λ (t : List ℕ). t ++ spaced sent)
    (c.in_ok-push_labelled-2.ensures
    ∙ ap (λ (t : List ℕ). t ++ spaced committed) (c.in_ok-push_labelled.ensures ∙ ap (λ (t : List ℕ). t ++ spaced moment) c.in_ok-push_counted.ensures)))
    ∙ five_joined c.args.text.now.items entries moment committed sent wrong
