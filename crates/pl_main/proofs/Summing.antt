-- The parts of a demonstration's line.
use Rattle.std.proofs.Common.{◌≡◌, ℕ, List, [], ◌∷◌, ◌++◌, length, ap, ◌∙◌, append_assoc}
use Rattle.std.specs.Prelude.{codes, decimal}
use Rattle.pl_entry.specs.declared.entry.Entry.{Entry}
use Rattle.pl_semantics.specs.Conflicts.{conflicts_of}
use Rattle.pl_machine.specs.World.{World}
use Rattle.pl_main.specs.Demos.{summary_line}

-- one more part, and what follows it
grown : (before after words digits rest : List ℕ) → after ≡ before ++ (words ++ digits) → after ++ rest ≡ before ++ (words ++ (digits ++ rest))
grown before after words digits rest is =
    ap (λ (x : List ℕ). x ++ rest) is ∙ (append_assoc before (words ++ digits) rest ∙ ap (λ (x : List ℕ). before ++ x) (append_assoc words digits rest))

pub five_counted : (l0 l1 l2 l3 l4 l5 l6 w1 d1 w2 d2 w3 d3 w4 d4 w5 d5 rest : List ℕ)
    → l0 ≡ [] → l1 ≡ l0 ++ (w1 ++ d1) → l2 ≡ l1 ++ (w2 ++ d2) → l3 ≡ l2 ++ (w3 ++ d3) → l4 ≡ l3 ++ (w4 ++ d4) → l5 ≡ l4 ++ (w5 ++ d5) → l6 ≡ l5 ++ rest
    → l6 ≡ w1 ++ (d1 ++ (w2 ++ (d2 ++ (w3 ++ (d3 ++ (w4 ++ (d4 ++ (w5 ++ (d5 ++ rest)))))))))
five_counted l0 l1 l2 l3 l4 l5 l6 w1 d1 w2 d2 w3 d3 w4 d4 w5 d5 rest e0 e1 e2 e3 e4 e5 e6 =
    e6 ∙ (grown l4 l5 w5 d5 rest e5
    ∙ (grown l3 l4 w4 d4 (w5 ++ (d5 ++ rest)) e4
    ∙ (grown l2 l3 w3 d3 (w4 ++ (d4 ++ (w5 ++ (d5 ++ rest)))) e3
    ∙ (grown l1 l2 w2 d2 (w3 ++ (d3 ++ (w4 ++ (d4 ++ (w5 ++ (d5 ++ rest)))))) e2
    ∙ (grown l0 l1 w1 d1 (w2 ++ (d2 ++ (w3 ++ (d3 ++ (w4 ++ (d4 ++ (w5 ++ (d5 ++ rest)))))))) e1
    ∙ ap (λ (x : List ℕ). x ++ (w1 ++ (d1 ++ (w2 ++ (d2 ++ (w3 ++ (d3 ++ (w4 ++ (d4 ++ (w5 ++ (d5 ++ rest))))))))))) e0)))))

-- the line of five counts, which are those of a log and of a world
pub summed : (goals entries activities sent conflicts : ℕ) (log : List Entry) (w : World) (l0 l1 l2 l3 l4 l5 l6 : List ℕ)
    → entries ≡ length log → activities ≡ length w.state.plan.activities → sent ≡ length w.dispatched → conflicts ≡ length (conflicts_of w.state)
    → l0 ≡ [] → l1 ≡ l0 ++ (codes "demo " ++ decimal goals) → l2 ≡ l1 ++ (codes " entries " ++ decimal entries) → l3 ≡ l2 ++ (codes " activities " ++ decimal activities)
    → l4 ≡ l3 ++ (codes " dispatched " ++ decimal sent) → l5 ≡ l4 ++ (codes " conflicts " ++ decimal conflicts) → l6 ≡ l5 ++ 10 ∷ []
    → l6 ≡ summary_line goals log w
summed goals entries activities sent conflicts log w l0 l1 l2 l3 l4 l5 l6 n2 n3 n4 n5 e0 e1 e2 e3 e4 e5 e6 =
    five_counted l0 l1 l2 l3 l4 l5 l6 (codes "demo ") (decimal goals) (codes " entries ") (decimal (length log)) (codes " activities ") (decimal (length w.state.plan.activities)) (codes " dispatched ") (decimal (length w.dispatched)) (codes " conflicts ") (decimal (length (conflicts_of w.state))) (10 ∷ [])
    e0 e1
    (e2 ∙ ap (λ (n : ℕ). l1 ++ (codes " entries " ++ decimal n)) n2)
    (e3 ∙ ap (λ (n : ℕ). l2 ++ (codes " activities " ++ decimal n)) n3)
    (e4 ∙ ap (λ (n : ℕ). l3 ++ (codes " dispatched " ++ decimal n)) n4)
    (e5 ∙ ap (λ (n : ℕ). l4 ++ (codes " conflicts " ++ decimal n)) n5)
    e6
