-- The texts that are models, and why the others are none.
use Rattle.std.specs.Prelude.{◌≡◌, ◌≢◌, ℕ, ◌≤◌, List, length, Ok, Err, ⊤}
use Rattle.pl_model.specs.declared.whole.Model.{Model}
use Rattle.pl_model.specs.Checked.{IsChecked}
use Rattle.pl_syntax.specs.declared.whole.Ast.{Ast}
use Rattle.pl_syntax.specs.declared.fault.SyntaxFault.{SyntaxFault}
use Rattle.pl_syntax.specs.declared.fault.SyntaxFault.TheVariants as syntax
use Rattle.pl_syntax.specs.Answers.{ReadsText, longest, Answers as Read}
use Rattle.pl_check.specs.declared.fault.ModelFault.{ModelFault}
use Rattle.pl_check.specs.declared.fault.ModelFault.TheVariants as fault
use Rattle.pl_check.specs.Checked.{Answers as Checked}
use Rattle.pl_check.specs.declared.accepting.Accepted.{Accepted}
use Rattle.pl_check.specs.declared.accepting.Accepted.TheVariants as accepted
use Rattle.pl_check.specs.Refusals.{syntax_text, fault_text, refusal_line}

-- The text is of the grammar and no longer than a model's text may be, its tree passes every check, and this is the model.
pub record IsModelText (text : List ℕ) (model : Model) : Type 0 where
  pub ast : Ast
  pub short : length text ≤ longest
  pub reads : ReadsText text ast
  pub passes : Checked ast (Ok model)

-- The text is no model's, and this line says why: the first fault of the grammar, else the first fault of the checks.
pub data IsRefusedAs (text line : List ℕ) : Type 0 where
  by_syntax : (e : SyntaxFault) → e ≢ syntax.Memory → Read text (Err e) → line ≡ refusal_line (syntax_text e) → IsRefusedAs text line
  by_check : (ast : Ast) → (e : ModelFault) → length text ≤ longest → ReadsText text ast → e ≢ fault.Memory → Checked ast (Err e) → line ≡ refusal_line (fault_text e) → IsRefusedAs text line

abbrev pub Accepts : List ℕ → Accepted → Type 0
Accepts text (accepted.Model model) = IsModelText text model
Accepts text (accepted.Refused line) = IsRefusedAs text line

-- a model that is handed out is a checked one
abbrev pub HoldsChecked : Accepted → Type 0
HoldsChecked (accepted.Model model) = IsChecked model
HoldsChecked (accepted.Refused line) = ⊤
