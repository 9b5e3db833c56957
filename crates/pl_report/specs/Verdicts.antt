-- What is said of a journal, in a line.
use Rattle.std.specs.Prelude.{ℕ, Bool, true, false, List, [], ◌∷◌, ◌++◌, codes, decimal}
use Rattle.pl_model.specs.declared.whole.Model.{Model}
use Rattle.pl_journal.specs.Rendering.Lines.{reply_words}
use Rattle.pl_replay.specs.declared.verdict.Verdict.{Verdict}
use Rattle.pl_replay.specs.declared.verdict.Verdict.TheVariants as verdict
use Rattle.pl_report.specs.Lines.{line_with}

-- whether the input has ended
abbrev pub ending_word : Bool → List ℕ
ending_word true = codes "finished"
ending_word false = codes "unfinished"

abbrev pub legal_words : ℕ → Bool → List (List ℕ)
legal_words entries done = codes "entries" ∷ decimal entries ∷ ending_word done ∷ []

-- journal ok: entries ENTRIES finished|unfinished
abbrev pub legal_line : ℕ → Bool → List ℕ
legal_line entries done = line_with (codes "journal ok:") (legal_words entries done)

-- the first wrong entry
abbrev pub wrong_label : ℕ → List ℕ
wrong_label number = codes "journal: entry " ++ (decimal number ++ codes ":")

-- journal: entry NUMBER: WORDS
abbrev pub wrong_line : ℕ → List (List ℕ) → List ℕ
wrong_line number words = line_with (wrong_label number) words

-- by the verdict; a reply is spelled as in the journal
abbrev pub verdict_line : Model → Verdict → List ℕ
verdict_line m (verdict.Legal entries done) = legal_line entries done
verdict_line m (verdict.NotALine number) = wrong_line number (codes "not a line" ∷ [])
verdict_line m (verdict.NotNow number) = wrong_line number (codes "not now" ∷ [])
verdict_line m (verdict.Full number) = wrong_line number (codes "log full" ∷ [])
verdict_line m (verdict.OtherReply number answer) = wrong_line number (codes "reply is" ∷ reply_words m answer)
