-- The canonical text of a tree that was read is a text of that tree.
use Rattle.std.proofs.Common.{ℕ, ◌≤◌, List, [], sym, subst, ◌∙◌, arith}
use Rattle.pl_syntax.specs.declared.token.Token.{Token}
use Rattle.pl_syntax.specs.Tokens.{AreReal}
use Rattle.pl_syntax.specs.Spelling.{AllFit}
use Rattle.pl_syntax.specs.declared.whole.Ast.{Ast}
use Rattle.pl_syntax.specs.Expressions.{limits}
use Rattle.pl_syntax.specs.Forms.{ModelForm, spell_model}
use Rattle.pl_syntax.specs.Trees.{model_tree}
use Rattle.pl_syntax.specs.Grammar.{ItemFits}
use Rattle.pl_syntax.specs.Answers.{ReadsText}
use Rattle.pl_syntax.specs.Canonical.{model_tokens, canonical_text}
use Rattle.pl_syntax.proofs.AgainParts.{again_model, model_again}
use Rattle.pl_syntax.proofs.LaidOut.{laid_out}
use Rattle.pl_syntax.proofs.TextMarks.{marks_real}

deep : 32 ≤ 33
deep = omega arith

-- for a form within the limits, whose tokens are those of a text
tree_again : (form : ModelForm) → AllFit (ItemFits limits) form.items → AreReal (spell_model form []) → ReadsText (canonical_text (model_tree form)) (model_tree form)
tree_again form fits real =
    let P : List Token → Type 0 = λ x. AreReal x in
    let again = (model_again 32 32 deep form [] real).0 in
    let written = again.written [] in
    let laid = laid_out (model_tokens (model_tree form)) (subst P (sym written) (again.real [] tt)) in
    record {
      tokens = laid.tokens;
      lexed = laid.lexed;
      reads = record { form = again_model 32 32 deep form; spelled = laid.marks ∙ written; tree = sym again.same; fits = again.fits fits };
    }

pub reads_again : (text : List ℕ) (ast : Ast) → ReadsText text ast → ReadsText (canonical_text ast) ast
reads_again text ast h =
    let P : Ast → Type 0 = λ x. ReadsText (canonical_text x) x in
    let Q : List Token → Type 0 = λ x. AreReal x in
    let form = h.reads.form in
    subst P (sym h.reads.tree) (tree_again form h.reads.fits (subst Q h.reads.spelled (marks_real text h.tokens h.lexed)))
