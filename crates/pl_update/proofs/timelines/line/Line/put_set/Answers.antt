use Rattle.std.proofs.Common.{sym, subst}
use Rattle.pl_semantics.specs.declared.demand.Asked.TheVariants as asked
use Rattle.pl_update.specs.declared.timelines.line.Line.{Line}
use Rattle.pl_update.specs.declared.timelines.line.Line.TheVariants.{States}
use Rattle.pl_update.specs.Timelines.Changed.{IsLineChanged, more_by}
use Rattle.pl_state.specs.Timelines.{broken_now, bad_now}
use Rattle.pl_update.proofs.AboutTimelines.MovingOne.{ok_then, set_came}
use Rattle.pl_update.proofs.timelines.line.Line.put_set.Goals as goal

pub returns : goal.returns
returns c = ok_then c.of_states.result c.of_states.ensures (λ e told.
    subst (λ (l : Line). IsLineChanged c.args.s.now c.args.line (asked.Set c.args.set) (more_by (asked.Set c.args.set)) l (States c.put.new.self) e.went.items e.came.items) (sym c.in-States.is)
    (set_came c.args.s.now c.args.line c.args.set c.in-States.states c.put.new.self e.went.items e.came.items c.in_ok-change-in-States.ensures.ok
    (told (broken_now c.in-States.states) (broken_now c.put.new.self) (bad_now c.in-States.states) (bad_now c.put.new.self) c.in_ok-change-in-States.ensures.change)))
