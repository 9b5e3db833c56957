use Rattle.std.proofs.Common.{◌≡◌, ◌∙◌, subst, false}
use Rattle.pl_level.specs.Effects.{Standing, state_of, low_now}
use Rattle.pl_level.proofs.Levels.{sound_low}
use Rattle.pl_level.proofs.level.Level.low_spans.Goals as goal

pub returns : goal.returns
returns g c =
    let told : c.self.inside.spoiled ≡ false → c.as_slice.result.now ≡ low_now (state_of c.self.inside.spoiled c.self.inside.horizon c.self.inside.least c.self.inside.most c.self.inside.moment c.self.inside.base c.self.inside.value c.self.inside.notes.items) =
    λ e. c.as_slice.ensures ∙ sound_low (state_of c.self.inside.spoiled c.self.inside.horizon c.self.inside.least c.self.inside.most c.self.inside.moment c.self.inside.base c.self.inside.value c.self.inside.notes.items) c.self.inside.before (g.P.Points.points c.self.inside.points) c.self.inside.low c.self.inside.high (c.self.invariant e) in
    subst (λ (v : Standing). v.spoiled ≡ false → c.as_slice.result.now ≡ low_now v) c.self.view_is told
