-- No name stands twice, and no count passes its limit.
use Rattle.std.proofs.Common.{◌≡◌, ℕ, ℤ, Ok, refl, sym, ap, ◌∙◌}
use Rattle.pl_syntax.specs.declared.expressions.AstExpr.{Num, fold-AstExpr, fold-roll-AstExpr}
use Rattle.pl_syntax.specs.declared.expressions.AstExpr.TheOpen.{AstExpr-F}
use Rattle.pl_syntax.specs.declared.expressions.AstExpr.TheViews.{rolls-Num}
use Rattle.pl_check.specs.Names.{twice_in}
use Rattle.pl_check.specs.Counts.{nodes_at, nodes_of, counts_in}
use Rattle.pl_report.proofs.AboutDemonstration.Parsing.{demo_ast}

nodes_num : (n : ℤ) → nodes_of (Num n) ≡ 1
nodes_num n = ap (fold-AstExpr ℕ nodes_at) (sym (rolls-Num n)) ∙ fold-roll-AstExpr ℕ nodes_at (AstExpr-F.Num n)

pub demo_once : twice_in demo_ast ≡ Ok tt
demo_once = refl

pub demo_counts : counts_in demo_ast ≡ Ok tt
demo_counts = simp nodes_num
