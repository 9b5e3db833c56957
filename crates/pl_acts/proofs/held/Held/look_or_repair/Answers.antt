use Rattle.std.proofs.Common.{◌≡◌, true, false, refl, sym, ◌∙◌, subst}
use Rattle.pl_acts.specs.Signing.{Written}
use Rattle.pl_acts.specs.Inside.{LooksIn}
use Rattle.pl_acts.proofs.held.Held.look_or_repair.Goals as goal

-- it was told to act at once
pub returns-then-may_repair-clause-looks : goal.returns-then-may_repair-clause-looks
returns-then-may_repair-clause-looks c = λ off. absurd (let h : true ≡ false = sym c.if-at_once.true ∙ off in cc)

pub returns-clause-looks : goal.returns-clause-looks
returns-clause-looks c = λ off. (subst (λ (w : Written). LooksIn c.args.by (record c.args.self.now { plan = w }) c.look.result c.look.new.self) c.is_only_planner-only.ensures c.look.ensures, refl)
