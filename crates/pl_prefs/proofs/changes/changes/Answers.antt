use Rattle.std.proofs.Common.{◌++◌, List, ap, sym, subst, ◌∙◌}
use Rattle.std.specs.List.{flat_map}
use Rattle.pl_plan.specs.declared.repair.RepairMove.{RepairMove}
use Rattle.pl_semantics.specs.PlanStates.{found, of_found}
use Rattle.pl_semantics.specs.Whole.{IsWhole}
use Rattle.pl_prefs.specs.Betters.{AreProperChanges, changes_of}
use Rattle.pl_prefs.proofs.Listed.{changes_listed}
use Rattle.pl_prefs.proofs.Proper.{all_proper_changes}
use Rattle.pl_prefs.proofs.changes.changes.Goals as goal

pub returns-clause-moves : goal.returns-clause-moves
returns-clause-moves c =
    let s = c.args.board.now.state in
    let whole : IsWhole s = subst IsWhole c.state.ensures.value (c.state.ensures.whole c.requires) in
    let all = rw c.deref.ensures.value at c.in_ok-add_changes_of_all.ensures in
    all ∙ (ap (λ (ms : List RepairMove). ms ++ flat_map (λ id. of_found (changes_of s) (found s id)) c.in_ok-ids.ids.items) c.new-all.ensures.items ∙ changes_listed s whole c.in_ok-ids.ids.items (rw c.state.ensures.value at c.in_ok-ids.ensures))

pub returns-clause-changes : goal.returns-clause-changes
returns-clause-changes c =
    let s = c.args.board.now.state in
    let whole : IsWhole s = subst IsWhole c.state.ensures.value (c.state.ensures.whole c.requires) in
    subst (AreProperChanges s) (sym (returns-clause-moves c)) (all_proper_changes s whole)
