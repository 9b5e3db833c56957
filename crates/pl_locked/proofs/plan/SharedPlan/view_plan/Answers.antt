use Rattle.pl_locked.proofs.Halves.{copied, ask_stops, viewed_rests, view_gives_unasked}
use Rattle.pl_locked.proofs.plan.SharedPlan.view_plan.Goals as goal

pub returns-in-Ok-clause-views : goal.returns-in-Ok-clause-views
returns-in-Ok-clause-views g c =
    copied c.args.by c.args.pass.now c.look.new.pass c.args.chooser.now c.look.new.chooser c.ask.new.chooser c.in-Open.draft c.in-Ok.sight c.look.ensures.takes.longer (rw c.in-Open.is at c.in_ok-acted.ensures.looks) c.in-Ok.ensures.asked
    c.in-Ok.ensures.drew

pub returns-in-Err-clause-views : goal.returns-in-Err-clause-views
returns-in-Err-clause-views g c =
    ask_stops c.args.by c.args.pass.now c.look.new.pass c.args.chooser.now c.look.new.chooser c.ask.new.chooser c.in-Open.draft c.look.ensures.takes.longer (rw c.in-Open.is at c.in_ok-acted.ensures.looks) c.ask.ensures.once

pub returns-in-Settled-clause-rests : goal.returns-in-Settled-clause-rests
returns-in-Settled-clause-rests g c = λ off.
    viewed_rests c.args.by c.args.pass.now c.look.new.pass c.args.chooser.now c.look.new.chooser c.in-Settled.acted (rw c.in-Settled.is at (c.in_ok-acted.ensures.rests off))

pub returns-in_err-acted-clause-rests : goal.returns-in_err-acted-clause-rests
returns-in_err-acted-clause-rests g c = λ off.
    view_gives_unasked c.args.by c.args.pass.now c.look.new.pass c.args.chooser.now c.look.new.chooser c.from_residual.result c.in_err-acted.field-0.0 c.from_residual.ensures.1 (c.in_err-acted.ensures.rests off)
