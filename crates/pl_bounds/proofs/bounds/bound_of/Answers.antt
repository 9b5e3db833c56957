use Rattle.std.proofs.Common.{List, sym, subst}
use Rattle.std.specs.Prelude.{All}
use Rattle.std.proofs.lemmas.List.Elements.{All-push}
use Rattle.pl_bounds.specs.Known.{IsRunOf}
use Rattle.pl_bounds.specs.Sides.{AreDifferent}
use Rattle.pl_bounds.specs.declared.outside.Outside.{Outside}
use Rattle.pl_bounds.specs.declared.runs.Run.{Run}
use Rattle.pl_bounds.proofs.bounds.bound_of.Goals as goal

pub least_by-requires-clause-run : goal.least_by-requires-clause-run
least_by-requires-clause-run c =
    let s = c.args.board.now.state in
    let all : All (IsRunOf s) c.as_slice.result.now = subst (λ (rs : List Run). All (IsRunOf s) rs) (sym c.as_slice.ensures.value) c.requires.runs in
    rw c.in-Some.is at (c.run_like.ensures.of_plan s all)

pub returns-clause-runs : goal.returns-clause-runs
returns-clause-runs c =
    let s = c.args.board.now.state in
    let all = All-push (IsRunOf s) c.args.runs.now.items c.in_ok-run.run' c.requires.runs c.in_ok-run.ensures.run in
    subst (λ (rs : List Run). All (IsRunOf s) rs) (sym c.in_ok-push.ensures.items) all

pub least_by-requires-clause-different : goal.least_by-requires-clause-different
least_by-requires-clause-different c = subst (λ (os : List Outside). AreDifferent os) (sym c.as_slice-in-Some.ensures.value) c.requires.different

pub least_by-bound-requires-clause-different : goal.least_by-bound-requires-clause-different
least_by-bound-requires-clause-different c = subst (λ (os : List Outside). AreDifferent os) (sym c.as_slice-2.ensures.value) c.in_ok-run.ensures.different
