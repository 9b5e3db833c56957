use Rattle.std.proofs.Common.{◌≡◌, true, sym, subst}
use Rattle.pl_semantics.specs.declared.demand.Asked.TheVariants as asked
use Rattle.pl_update.specs.declared.timelines.line.Line.{Line}
use Rattle.pl_update.specs.declared.timelines.line.Line.TheVariants.{Level}
use Rattle.pl_update.specs.Timelines.Changed.{IsLineChanged, HasOne, less_by}
use Rattle.pl_level.specs.Effects.{same_effect, low_now, high_now}
use Rattle.pl_level.specs.declared.reservation.Effect.{Effect}
use Rattle.pl_points.specs.Standing.{stands, without}
use Rattle.pl_update.proofs.AboutTimelines.MovingOne.{effect_is, ok_then, effect_went, effect_stands}
use Rattle.pl_update.proofs.timelines.line.Line.give_effect.Goals as goal

pub remove-requires : goal.remove-requires
remove-requires g c = λ e. subst (λ (x : Effect). stands same_effect x c.in-Level.level.effects ≡ true) (sym (effect_is c.args.given c.requires.is_effect)) (effect_stands c.in-Level.level c.args.given (subst (λ (l : Line). HasOne l (asked.Effect c.args.given)) c.in-Level.is c.requires.stands))

pub returns : goal.returns
returns g c = ok_then c.of_levels.result c.of_levels.ensures (λ e told.
    subst (λ (l : Line). IsLineChanged c.args.s.now c.args.line (asked.Effect c.args.given) (less_by (asked.Effect c.args.given)) l (Level c.remove.new.self) e.went.items e.came.items) (sym c.in-Level.is)
    (effect_went c.args.s.now c.args.line c.args.given c.in-Level.level c.remove.new.self e.went.items e.came.items (effect_stands c.in-Level.level c.args.given (subst (λ (l : Line). HasOne l (asked.Effect c.args.given)) c.in-Level.is c.requires.stands)) (subst (λ (x : Effect). c.remove.new.self ≡ record c.in-Level.level { effects = without same_effect x c.in-Level.level.effects }) (effect_is c.args.given c.requires.is_effect) c.in_ok-change-in-Level.ensures.ok)
    (told (low_now c.in-Level.level) (low_now c.remove.new.self) (high_now c.in-Level.level) (high_now c.remove.new.self) c.in_ok-change-in-Level.ensures.change)))
