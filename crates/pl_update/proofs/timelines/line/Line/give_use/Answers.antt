use Rattle.std.proofs.Common.{◌≡◌, true, sym, subst}
use Rattle.pl_semantics.specs.declared.demand.Asked.TheVariants as asked
use Rattle.pl_update.specs.declared.timelines.line.Line.{Line}
use Rattle.pl_update.specs.declared.timelines.line.Line.TheVariants.{Capacity}
use Rattle.pl_update.specs.Timelines.Changed.{IsLineChanged, HasOne, less_by}
use Rattle.pl_capacity.specs.Uses.{same_use, spans_now}
use Rattle.pl_capacity.specs.declared.reservation.Use.{Use}
use Rattle.pl_points.specs.Standing.{stands, without}
use Rattle.pl_update.proofs.AboutTimelines.MovingOne.{use_is, ok_then, use_went, use_stands}
use Rattle.pl_update.proofs.timelines.line.Line.give_use.Goals as goal

pub remove-requires : goal.remove-requires
remove-requires g c = λ e. subst (λ (x : Use). stands same_use x c.in-Capacity.capacity.uses ≡ true) (sym (use_is c.args.given c.requires.is_use)) (use_stands c.in-Capacity.capacity c.args.given (subst (λ (l : Line). HasOne l (asked.Use c.args.given)) c.in-Capacity.is c.requires.stands))

pub returns : goal.returns
returns g c = ok_then c.of_spans.result c.of_spans.ensures (λ e told.
    subst (λ (l : Line). IsLineChanged c.args.s.now c.args.line (asked.Use c.args.given) (less_by (asked.Use c.args.given)) l (Capacity c.remove.new.self) e.went.items e.came.items) (sym c.in-Capacity.is)
    (use_went c.args.s.now c.args.line c.args.given c.in-Capacity.capacity c.remove.new.self e.went.items e.came.items (use_stands c.in-Capacity.capacity c.args.given (subst (λ (l : Line). HasOne l (asked.Use c.args.given)) c.in-Capacity.is c.requires.stands)) (subst (λ (x : Use). c.remove.new.self ≡ record c.in-Capacity.capacity { uses = without same_use x c.in-Capacity.capacity.uses }) (use_is c.args.given c.requires.is_use) c.in_ok-change-in-Capacity.ensures.ok)
    (told (spans_now c.in-Capacity.capacity) (spans_now c.remove.new.self) c.in_ok-change-in-Capacity.ensures.change)))
