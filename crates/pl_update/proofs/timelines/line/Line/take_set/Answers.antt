use Rattle.std.proofs.Common.{sym, subst}
use Rattle.pl_semantics.specs.declared.demand.Asked.TheVariants as asked
use Rattle.pl_update.specs.declared.timelines.line.Line.{Line}
use Rattle.pl_update.specs.declared.timelines.line.Line.TheVariants.{States}
use Rattle.pl_update.specs.Timelines.Changed.{IsLineChanged, HasOne, less_by}
use Rattle.pl_state.specs.Timelines.{broken_now, bad_now}
use Rattle.pl_update.proofs.AboutTimelines.MovingOne.{ok_then, set_went, set_stands}
use Rattle.pl_update.proofs.timelines.line.Line.take_set.Goals as goal

pub returns : goal.returns
returns c = ok_then c.of_states.result c.of_states.ensures (λ e told.
    subst (λ (l : Line). IsLineChanged c.args.s.now c.args.line (asked.Set c.args.set) (less_by (asked.Set c.args.set)) l (States c.take.new.self) e.went.items e.came.items) (sym c.in-States.is)
    (set_went c.args.s.now c.args.line c.args.set c.in-States.states c.take.new.self e.went.items e.came.items (set_stands c.in-States.states c.args.set (subst (λ (l : Line). HasOne l (asked.Set c.args.set)) c.in-States.is c.requires.stands)) c.in_ok-change-in-States.ensures.ok
    (told (broken_now c.in-States.states) (broken_now c.take.new.self) (bad_now c.in-States.states) (bad_now c.take.new.self) c.in_ok-change-in-States.ensures.change)))
