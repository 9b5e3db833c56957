use Rattle.std.proofs.Common.{◌≡◌, ◌∙◌, refl, ap, arith}
use Rattle.std.specs.Prelude.{slice_get}
use mir.Syntax.{w64}
use Rattle.std.proofs.lemmas.Int.{to_z-of_z}
use Rattle.pl_update.specs.Changes.Changes.{told_now}
use Rattle.pl_update.proofs.AboutChanges.Telling.{can_set}
use Rattle.pl_update.proofs.AboutChanges.Keeping.{whole_told}
use Rattle.pl_update.proofs.AboutTimelines.StandingNamed.{are_named}
use Rattle.pl_update.proofs.AboutTimelines.StandingReadings.{can_have}
use Rattle.pl_update.proofs.AboutTimelines.StandingLater.{lines_rebased, told_told}
use Rattle.pl_update.proofs.AboutGoalsAndActivities.OfGoals.{follows_told}
use Rattle.pl_update.proofs.AboutLinks.Keeping.{keeps_told}
use Rattle.pl_board.proofs.Watching.{stands_told}
use Rattle.std.proofs.Common.{Some, pos}
use Rattle.std.specs.Prelude.{slice_set}
use Rattle.pl_semantics.specs.Whole.{IsWhole}
use Rattle.pl_semantics.specs.Conflicts.{conflicts_of}
use Rattle.pl_update.specs.Timelines.Moments.{rebased_in}
use Rattle.pl_update.specs.Timelines.Framed.{AreLinesOf}
use Rattle.pl_board.proofs.watched.WatchedState.tell.Goals as goal

pub rebase-requires-clause-based : goal.rebase-requires-clause-based
rebase-requires-clause-based g c = rw (to_z-of_z w64 c.args.value c.ranges.value) (can_have c.args.self.now.state c.args.line c.args.value c.args.self.now.lines c.requires.watched.whole c.requires.watched.timelines.framed c.requires.can)

pub rebase-requires-clause-named : goal.rebase-requires-clause-named
rebase-requires-clause-named g c = are_named c.args.self.now.state c.args.self.now.lines c.requires.watched.whole.rising c.requires.watched.timelines

pub set-requires : goal.set-requires
set-requires g c =
    let s = c.args.self.now.state in
    can_set s.model s.moment c.args.line c.args.value s.bases c.requires.watched.whole.bases (slice_get s.model.timelines c.args.line) refl c.requires.can

pub returns-clause-watched : goal.returns-clause-watched
returns-clause-watched g c =
    let w = c.args.self.now in
    let s = w.state in
    let t = told_now c.args.line c.args.value s in
    let full = c.rebase.new.self in
    let is_value = to_z-of_z w64 c.args.value c.ranges.value in
    let whole_t : IsWhole t = whole_told s c.args.line c.args.value c.requires.watched.whole c.requires.can in
    let is_bases : c.set.new.self ≡ slice_set s.bases c.args.line (Some (pos s.moment, c.args.value)) = grind (arith, to_z-of_z, c.set.ensures, c.from.ensures) in
    let moved : full ≡ rebased_in w.lines c.args.line c.args.value (slice_get w.lines c.args.line) = c.in_ok-rebase.ensures.moved ∙ ap (λ v. rebased_in w.lines c.args.line v (slice_get w.lines c.args.line)) is_value in
    let are_t : AreLinesOf t full = rw moved (lines_rebased s c.args.line c.args.value w.lines c.requires.watched.whole c.requires.watched.timelines c.requires.can) in
    let found : c.rebase.new.set ≡ conflicts_of t = stands_told s t w.lines full w.conflicts c.rebase.new.set c.requires.watched.whole c.requires.watched.timelines c.requires.watched.found whole_t are_t c.in_ok-rebase.ensures.mended
    (told_told s c.args.line c.args.value full c.rebase.new.set) (follows_told s c.args.line c.args.value) (keeps_told s c.args.line c.args.value) in
    rw is_bases (record { whole = whole_t; values = c.requires.watched.values; timelines = are_t; store = c.requires.watched.store; found = found })
