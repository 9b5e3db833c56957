-- Each name is known, and these are the drafts.
use Rattle.std.proofs.Common.{◌≡◌, ℤ, [], Ok}
use Rattle.pl_syntax.specs.declared.expressions.AstExpr.{Num}
use Rattle.pl_model.specs.declared.expressions.Expr as model
use Rattle.pl_check.specs.Numbering.{numbered, numbered_params, numbered_reservations, numbered_links, numbered_alternatives, numbered_duration, numbered_items}
use Rattle.pl_check.proofs.ExpressionLemmas.{numbered-num}
use Rattle.pl_report.proofs.AboutDemonstration.Parsing.{demo_ast}
use Rattle.pl_report.proofs.AboutDemonstration.Drafts.{demo_drafts}

plain_num : (n : ℤ) → numbered [] (Num n) ≡ Ok (model.Num n)
plain_num n = numbered-num [] n

pub demo_numbered : numbered_items demo_ast.items ≡ Ok demo_drafts
unfolding numbered_params numbered_reservations numbered_links numbered_alternatives numbered_duration
demo_numbered = simp plain_num
