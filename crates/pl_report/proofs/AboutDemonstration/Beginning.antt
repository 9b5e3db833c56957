-- The demonstration's input begins with this text, whatever stands behind the `begin` line.
use Rattle.std.proofs.Common.{◌≡◌, ℕ, ◌≤◌, List, [], ◌∷◌, ◌++◌, Some, flat_map, codes, refl, ap, ◌∙◌}
use Rattle.std.specs.List.{range_with_len}
use Rattle.pl_text.specs.Bytes.{class_of}
use Rattle.pl_text.specs.Tokens.{lexeme_of, tokens_at}
use Rattle.pl_input.specs.Words.{is_line_of, model_text_of, split_of}
use Rattle.pl_report.specs.Demonstration.{model_lines, messages_for, demo_text}
use Rattle.pl_report.proofs.Lines.{demo_text_lines}
use Rattle.pl_report.specs.DemoModel.{demo_words}

text_before_begin : (rest : List (List ℕ)) → model_text_of (model_lines ++ rest) ≡ Some demo_words
unfolding is_line_of tokens_at lexeme_of class_of demo_words
text_before_begin rest = refl

pub demo_begins : (goals : ℕ) → goals ≤ 4000 → (split_of (demo_text goals)).text ≡ Some demo_words
demo_begins goals few =
    ap model_text_of (demo_text_lines goals few) ∙ text_before_begin (flat_map messages_for (range_with_len 1 goals) ++ codes "end" ∷ [])
