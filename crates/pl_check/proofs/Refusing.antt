-- Why a text is refused.
use Rattle.std.proofs.Common.{◌≡◌, ◌≢◌, ℕ, ◌<◌, true, false, List, length, Ok, Err, refl, sym, ap, ◌∙◌}
use Rattle.pl_model.specs.declared.whole.Model.{Model}
use Rattle.pl_syntax.specs.declared.whole.Ast.{Ast}
use Rattle.pl_syntax.specs.declared.fault.SyntaxFault.{SyntaxFault}
use Rattle.pl_syntax.specs.declared.fault.SyntaxFault.TheVariants as syntax
use Rattle.pl_syntax.specs.Answers.{longest, Answers as Read}
use Rattle.pl_check.specs.declared.fault.ModelFault.{ModelFault}
use Rattle.pl_check.specs.declared.fault.ModelFault.TheVariants as fault
use Rattle.pl_check.specs.Checked.{Answers as Checked}
use Rattle.pl_check.specs.Refusals.{syntax_text, fault_text, refusal_line, is_want_in_syntax, is_want}
use Rattle.pl_check.specs.Accepting.{IsModelText, IsRefusedAs, by_syntax, by_check}

absurd_bool : true ≡ false → ⊥
absurd_bool e = (cc)

not_want_in_syntax : (e : SyntaxFault) → is_want_in_syntax e ≡ false → e ≢ syntax.Memory
not_want_in_syntax e other is = absurd_bool (sym (ap is_want_in_syntax is) ∙ other)

not_want : (e : ModelFault) → is_want e ≡ false → e ≢ fault.Memory
not_want e other is = absurd_bool (sym (ap is_want is) ∙ other)

pub longer_is_refused : (text line : List ℕ) → line ≡ refusal_line (syntax_text syntax.TooLong) → longest < length text → IsRefusedAs text line
longer_is_refused text line is h = by_syntax syntax.TooLong (not_want_in_syntax syntax.TooLong refl) h is

pub syntax_refuses : (text line : List ℕ) (e : SyntaxFault) → is_want_in_syntax e ≡ false → Read text (Err e) → line ≡ refusal_line (syntax_text e) → IsRefusedAs text line
syntax_refuses text line e other read is = by_syntax e (not_want_in_syntax e other) read is

pub check_refuses : (text line : List ℕ) (ast : Ast) (e : ModelFault) → is_want e ≡ false → Read text (Ok ast) → Checked ast (Err e) → line ≡ refusal_line (fault_text e) → IsRefusedAs text line
check_refuses text line ast e other read checked is = by_check ast e read.0 read.1.0 (not_want e other) checked is

pub text_is_model : (text : List ℕ) (ast : Ast) (m : Model) → Read text (Ok ast) → Checked ast (Ok m) → IsModelText text m
text_is_model text ast m read checked = record { ast = ast; short = read.0; reads = read.1.0; passes = checked }
