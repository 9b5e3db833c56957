use Rattle.pl_input.specs.Places.{Place, place_of}
use Rattle.std.proofs.Common.{ℕ, List, Option, Err, sym, subst}
use Rattle.pl_input.specs.declared.halt.Halt.TheVariants.{Memory}
use Rattle.pl_pair.specs.Runs.{EndsWith, RunsTeam}
use Rattle.pl_pair.proofs.Running.{begun_first, back_none, runs_back, back_read, back_write, closes_first}
use Rattle.pl_pair.proofs.run.run_over.Goals as goal

pub returns-in_default-clause-run : goal.returns-in_default-clause-run
returns-in_default-clause-run g c = back_none c.args.duties.now c.args.machine (place_of c.args.lines.now (g.S.Source.left c.args.src.now)) (g.O.Sink.held c.args.out.now) c.requires.legal

pub returns-in_default-new-clause-run : goal.returns-in_default-new-clause-run
returns-in_default-new-clause-run g c = back_none c.args.duties.now c.args.machine (place_of c.args.lines.now (g.S.Source.left c.args.src.now)) (g.O.Sink.held c.args.out.now) c.requires.legal

-- nothing was read or written before the first thread started
pub returns-in_default-run_workers-clause-run : goal.returns-in_default-run_workers-clause-run
returns-in_default-run_workers-clause-run g c =
    let start = place_of c.args.lines.now (g.S.Source.left c.args.src.now) in
    let held = g.O.Sink.held c.args.out.now in
    let same = c.in_default-run_workers.ensures.joins in
    let P : Place → Type 0 = λ p. RunsTeam c.args.duties.now c.args.machine start held (Err Memory) p held in
    let Q : Option (List ℕ) → Type 0 = λ h. RunsTeam c.args.duties.now c.args.machine start held (Err Memory) (place_of c.run_workers.new.lines (g.S.Source.left c.run_workers.new.src)) h in
    subst Q (sym same.1) (subst P (sym same.0) (back_none c.args.duties.now c.args.machine start held c.requires.legal))

pub run_workers-requires-clause-begun : goal.run_workers-requires-clause-begun
run_workers-requires-clause-begun g c κs within = begun_first c.args.machine c.args.duties.now c.in-Ok-new.pass c.requires.begun c.in-Ok-new.ensures.seen

pub close_signed-machine-requires-clause-first : goal.close_signed-machine-requires-clause-first
close_signed-machine-requires-clause-first g c =
    let start = place_of c.args.lines.now (g.S.Source.left c.args.src.now) in
    let ran = c.run_workers in
    (closes_first c.args.duties.now c.args.machine c.in-Ok-new.plan c.in-Ok-new.pass c.in-Some.remains c.args.model.now start (place_of ran.new.lines (g.S.Source.left ran.new.src)) (g.O.Sink.held c.args.out.now) (g.O.Sink.held ran.new.out)
    (record { seen = c.in-Ok-new.ensures.seen; crew = c.in-Ok-new.ensures.first; joins = c.in-Some.ensures.joins })).0

pub close_signed-machine-requires-clause-all_joined : goal.close_signed-machine-requires-clause-all_joined
close_signed-machine-requires-clause-all_joined g c =
    let start = place_of c.args.lines.now (g.S.Source.left c.args.src.now) in
    let ran = c.run_workers in
    (closes_first c.args.duties.now c.args.machine c.in-Ok-new.plan c.in-Ok-new.pass c.in-Some.remains c.args.model.now start (place_of ran.new.lines (g.S.Source.left ran.new.src)) (g.O.Sink.held c.args.out.now) (g.O.Sink.held ran.new.out)
    (record { seen = c.in-Ok-new.ensures.seen; crew = c.in-Ok-new.ensures.first; joins = c.in-Some.ensures.joins })).1

pub returns-clause-run : goal.returns-clause-run
returns-clause-run g c =
    let start = place_of c.args.lines.now (g.S.Source.left c.args.src.now) in
    let ran = c.run_workers in
    let end = place_of ran.new.lines (g.S.Source.left ran.new.src) in
    runs_back c.args.duties.now c.args.machine c.in-Ok-new.plan c.in-Ok-new.pass c.in-Some.remains c.args.model.now start end (g.O.Sink.held c.args.out.now) (g.O.Sink.held ran.new.out)
    (record { seen = c.in-Ok-new.ensures.seen; crew = c.in-Ok-new.ensures.first; joins = c.in-Some.ensures.joins }) c.close_signed-machine.result.0 c.close_signed-machine.result.1 c.ended_with.result c.requires.model c.requires.legal c.requires.going c.close_signed-machine.ensures
    (subst (λ a. EndsWith a c.close_signed-machine.result.0 c.close_signed-machine.result.1 c.ended_with.result) c.ended-answer.ensures c.ended_with.ensures)

pub returns-clause-read : goal.returns-clause-read
returns-clause-read g c = λ is works.
    c.in-Some.ensures.read (back_read c.in-Some.remains.fed c.in-Some.remains.met c.ended-answer.result c.ended_with.result c.close_signed-machine.result.0 c.close_signed-machine.result.1 c.ended-answer.ensures c.ended_with.ensures is) works

pub returns-clause-write : goal.returns-clause-write
returns-clause-write g c = λ is.
    c.in-Some.ensures.write (back_write c.in-Some.remains.fed c.in-Some.remains.met c.ended-answer.result c.ended_with.result c.close_signed-machine.result.0 c.close_signed-machine.result.1 c.ended-answer.ensures c.ended_with.ensures is)
