use Rattle.std.proofs.Common.{◌≡◌, [], ◌∷◌, ◌++◌, sym, subst}
use Rattle.pl_semantics.specs.declared.demand.Asked.TheVariants as asked
use Rattle.pl_update.specs.declared.timelines.line.Line.{Line}
use Rattle.pl_update.specs.declared.timelines.line.Line.TheVariants.{Capacity}
use Rattle.pl_update.specs.Timelines.Changed.{IsLineChanged, HasRoom, more_by}
use Rattle.pl_capacity.specs.Uses.{spans_now}
use Rattle.pl_capacity.specs.declared.reservation.Use.{Use}
use Rattle.pl_update.proofs.AboutTimelines.MovingOne.{use_is, ok_then, use_came, use_room}
use Rattle.pl_update.proofs.timelines.line.Line.take_use.Goals as goal

pub add-requires-clause-few : goal.add-requires-clause-few
add-requires-clause-few g c = λ e. use_room c.in-Capacity.capacity (subst HasRoom c.in-Capacity.is c.requires.room)

pub returns : goal.returns
returns g c = ok_then c.of_spans.result c.of_spans.ensures (λ e told.
    subst (λ (l : Line). IsLineChanged c.args.s.now c.args.line (asked.Use c.args.taken) (more_by (asked.Use c.args.taken)) l (Capacity c.add.new.self) e.went.items e.came.items) (sym c.in-Capacity.is)
    (use_came c.args.s.now c.args.line c.args.taken c.in-Capacity.capacity c.add.new.self e.went.items e.came.items (subst (λ (x : Use). c.add.new.self ≡ record c.in-Capacity.capacity { uses = c.in-Capacity.capacity.uses ++ x ∷ [] }) (use_is c.args.taken c.requires.is_use) c.in_ok-change-in-Capacity.ensures.ok)
    (told (spans_now c.in-Capacity.capacity) (spans_now c.add.new.self) c.in_ok-change-in-Capacity.ensures.change)))
