use Rattle.std.proofs.Common.{◌≡◌, ℤ, List, [], ◌∷◌, ◌++◌, OnOk, codes, decimal, subst, rules}
use Rattle.std.specs.Fmt.{signed_decimal}
use Rattle.std.proofs.lemmas.Int.{to_z-of_z}
use mir.Syntax.{w64}
use mir.Val.{SFits}
use Rattle.pl_journal.specs.Rendering.Words.{spaced}
use Rattle.pl_report.proofs.Improving.{no_other}
use Rattle.pl_report.proofs.improvements.push_change.Goals as goal

pub returns-in-Shift : goal.returns-in-Shift
returns-in-Shift c = λ model. rw c.in-Shift.is c.push_shift.ensures

pub returns-in-Assign : goal.returns-in-Assign
returns-in-Assign c = λ model.
    let fits : SFits w64 c.in-Assign.value = search rules in
    rw c.in-Assign.is
    (subst (λ (v : ℤ). OnOk c.push_assignment.result (c.push_assignment.new.text.items ≡ c.args.text.now.items ++ spaced (codes "assign" ∷ decimal c.in-Assign.id ∷ decimal c.in-Assign.param ∷ signed_decimal v ∷ [])))
    (to_z-of_z w64 c.in-Assign.value fits) c.push_assignment.ensures)

pub returns-in_default : goal.returns-in_default
returns-in_default c = λ model. absurd (no_other c.args.change c.requires c.in_default.not-Shift c.in_default.not-Assign)
