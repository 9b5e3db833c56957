use Rattle.std.proofs.Common.{ℕ, Result, Ok, Err, length, sym, subst}
use Rattle.pl_input.specs.Places.{place_of}
use Rattle.pl_input.specs.declared.halt.Halt.{Halt}
use Rattle.pl_pair.specs.Runs.{TeamRun, pair_of}
use Rattle.pl_pair.proofs.run.run_pair.Goals as goal
use Rattle.pl_pair.proofs.run.run_pair.Goals.{in-Ok, in-Err}

pub returns-clause-run : goal.returns-clause-run
returns-clause-run g c =
    let start = place_of c.args.lines.now (g.I.Source.left c.args.src.now) in
    let end = place_of c.run_team.new.lines (g.I.Source.left c.run_team.new.src) in
    let held = g.O.Sink.held c.args.out.now in
    let now = g.O.Sink.held c.run_team.new.out in
    let P : Result (Unit {0}) Halt → Type 0 = λ r. TeamRun (pair_of c.args.seed (length c.args.machine.log)) c.args.machine start held r end now in
    elim c.match-run_team.branch [
      | in-Ok w ↦
          let Q : ℕ → Type 0 = λ n. TeamRun (pair_of c.args.seed n) c.args.machine start held (Ok tt) end now in
          subst P (sym w.result-is) (subst Q c.entries.ensures w.in-Ok.ensures.run.run)
      | in-Err w ↦
          let Q : ℕ → Type 0 = λ n. TeamRun (pair_of c.args.seed n) c.args.machine start held (Err w.in-Err.halt) end now in
          subst P (sym w.result-is) (subst Q c.entries.ensures w.in-Err.ensures.run.run)
    ]
