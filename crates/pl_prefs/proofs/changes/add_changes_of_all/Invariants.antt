use Rattle.std.proofs.Common.{◌≡◌, ◌++◌, take}
use Rattle.std.specs.List.{flat_map}
use Rattle.pl_semantics.specs.PlanStates.{found, of_found}
use Rattle.pl_prefs.specs.Betters.{changes_of}
use Rattle.pl_prefs.proofs.changes.add_changes_of_all.Given as goal

abbrev pub invariant-loop-id : goal.invariant-loop-id
invariant-loop-id l = l.out.items ≡ l.initial.out.items ++ flat_map (λ id. of_found (changes_of l.board.state) (found l.board.state id)) (take l.id-index l.ids)
