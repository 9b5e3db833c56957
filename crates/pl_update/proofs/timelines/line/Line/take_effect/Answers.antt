use Rattle.std.proofs.Common.{◌≡◌, [], ◌∷◌, ◌++◌, sym, subst}
use Rattle.pl_semantics.specs.declared.demand.Asked.TheVariants as asked
use Rattle.pl_update.specs.declared.timelines.line.Line.{Line}
use Rattle.pl_update.specs.declared.timelines.line.Line.TheVariants.{Level}
use Rattle.pl_update.specs.Timelines.Changed.{IsLineChanged, HasRoom, more_by}
use Rattle.pl_level.specs.Effects.{low_now, high_now}
use Rattle.pl_level.specs.declared.reservation.Effect.{Effect}
use Rattle.pl_update.proofs.AboutTimelines.MovingOne.{effect_is, ok_then, effect_came, effect_room}
use Rattle.pl_update.proofs.timelines.line.Line.take_effect.Goals as goal

pub add-requires-clause-few : goal.add-requires-clause-few
add-requires-clause-few g c = λ e. effect_room c.in-Level.level (subst HasRoom c.in-Level.is c.requires.room)

pub returns : goal.returns
returns g c = ok_then c.of_levels.result c.of_levels.ensures (λ e told.
    subst (λ (l : Line). IsLineChanged c.args.s.now c.args.line (asked.Effect c.args.taken) (more_by (asked.Effect c.args.taken)) l (Level c.add.new.self) e.went.items e.came.items) (sym c.in-Level.is)
    (effect_came c.args.s.now c.args.line c.args.taken c.in-Level.level c.add.new.self e.went.items e.came.items (subst (λ (x : Effect). c.add.new.self ≡ record c.in-Level.level { effects = c.in-Level.level.effects ++ x ∷ [] }) (effect_is c.args.taken c.requires.is_effect) c.in_ok-change-in-Level.ensures.ok)
    (told (low_now c.in-Level.level) (low_now c.add.new.self) (high_now c.in-Level.level) (high_now c.add.new.self) c.in_ok-change-in-Level.ensures.change)))
