use Rattle.std.proofs.Common.{◌≡◌, List, set, sym, subst, pos, ◌+ℤ◌, ◌≤ℤ◌}
use Rattle.std.specs.Prelude.{slice_get, Some}
use Rattle.pl_update.specs.declared.timelines.line.Line.{Line}
use Rattle.pl_update.specs.Timelines.Held.{one, held_in}
use Rattle.pl_update.specs.Timelines.Named.{AreNamed}
use Rattle.pl_update.specs.Timelines.Mending.{IsMended, IsMoved, IsOfSort}
use Rattle.pl_update.specs.Timelines.Changed.{just}
use Rattle.pl_update.proofs.AboutTimelines.Moving.{line_here, moved_just}
use Rattle.pl_update.proofs.AboutTimelines.Mending.{mended_line, named_line}
use Rattle.pl_update.proofs.timelines.lines.Lines.take_one.Goals as goal

pub take-requires-clause-sort : goal.take-requires-clause-sort
take-requires-clause-sort g c =
    let at : slice_get c.args.self.now c.args.demand.line ≡ Some c.index_mut-line.result.now = line_here c.self.inside.all.items c.args.self.now c.args.demand c.index_mut-line.result.now c.self.view_is c.requires.asked.sort c.index_mut-line.ensures.value in
    subst (λ o. IsOfSort o c.args.demand.asked) at c.requires.asked.sort

pub take-requires-clause-room : goal.take-requires-clause-room
take-requires-clause-room g c =
    let at : slice_get c.args.self.now c.args.demand.line ≡ Some c.index_mut-line.result.now = line_here c.self.inside.all.items c.args.self.now c.args.demand c.index_mut-line.result.now c.self.view_is c.requires.asked.sort c.index_mut-line.ensures.value in
    subst (λ o. (held_in one o +ℤ pos 1) ≤ℤ pos 320000) at c.requires.room

pub returns-clause-mended : goal.returns-clause-mended
returns-clause-mended g c =
    let l : Line = c.index_mut-line.result.now in
    let at : slice_get c.args.self.now c.args.demand.line ≡ Some l = line_here c.self.inside.all.items c.args.self.now c.args.demand l c.self.view_is c.requires.asked.sort c.index_mut-line.ensures.value in
    let named = c.requires.named c.args.demand.line l at in
    subst (λ (xs : List Line). IsMended c.args.s.now c.args.self.now (set xs c.args.demand.line c.take.new.self) c.args.set.now c.apply_to.new.set) (sym c.self.view_is)
    (mended_line c.args.s.now c.args.self.now c.args.demand.line l c.take.new.self c.in_ok-exchange.exchange.went.items c.in_ok-exchange.exchange.came.items c.args.set.now c.apply_to.new.set
    at named (c.in_ok-exchange.ensures.named c.requires.asked.named named) c.in_ok-exchange.ensures.exchanged
    c.in_ok-apply_to.ensures.members c.in_ok-apply_to.ensures.sorted)

pub returns-clause-moved : goal.returns-clause-moved
returns-clause-moved g c =
    let l : Line = c.index_mut-line.result.now in
    let at : slice_get c.args.self.now c.args.demand.line ≡ Some l = line_here c.self.inside.all.items c.args.self.now c.args.demand l c.self.view_is c.requires.asked.sort c.index_mut-line.ensures.value in
    subst (λ (xs : List Line). IsMoved c.args.self.now (set xs c.args.demand.line c.take.new.self) (just c.args.demand)) (sym c.self.view_is)
    (moved_just c.args.self.now c.args.demand l c.take.new.self at c.in_ok-exchange.ensures.frame c.in_ok-exchange.ensures.ordered c.in_ok-exchange.ensures.held)

pub returns-clause-named : goal.returns-clause-named
returns-clause-named g c =
    let l : Line = c.index_mut-line.result.now in
    let at : slice_get c.args.self.now c.args.demand.line ≡ Some l = line_here c.self.inside.all.items c.args.self.now c.args.demand l c.self.view_is c.requires.asked.sort c.index_mut-line.ensures.value in
    let named = c.requires.named c.args.demand.line l at in
    subst (λ (xs : List Line). AreNamed c.args.s.now (set xs c.args.demand.line c.take.new.self)) (sym c.self.view_is)
    (named_line c.args.s.now c.args.self.now c.args.demand.line l c.take.new.self c.in_ok-exchange.exchange.went.items c.in_ok-exchange.exchange.came.items c.args.set.now c.apply_to.new.set
    c.requires.named at (c.in_ok-exchange.ensures.named c.requires.asked.named named))
