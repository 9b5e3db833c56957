use Rattle.std.proofs.Common.{◌≡◌, List, set, get_or, ap, sym, ◌∙◌, subst}
use Rattle.std.specs.Prelude.{slice_get, Some}
use Rattle.std.proofs.lemmas.Option.{get_or_from_slice_get}
use Rattle.pl_update.specs.declared.timelines.line.Line.{Line}
use Rattle.pl_update.specs.Timelines.Named.{AreNamed, HoldsNamed}
use Rattle.pl_update.specs.Timelines.Mending.{IsMended}
use Rattle.pl_update.specs.Timelines.Moments.{at_moment, MayReach}
use Rattle.pl_update.proofs.AboutTimelines.Mending.{mended_line, named_line}
use Rattle.pl_update.proofs.AboutTimelines.MovingTime.{line_at, named_moment}
use Rattle.pl_update.proofs.timelines.lines.Lines.advance_one.Goals as goal

pub advance-requires : goal.advance-requires
advance-requires g c =
    let l : Line = c.index_mut-line.result.now in
    let e : l ≡ get_or c.args.self.now c.args.number l = c.index_mut-line.ensures.value ∙ ap (λ (xs : List Line). get_or xs c.args.number l) c.self.view_is in
    subst (MayReach c.args.now) (sym e) (c.requires.reach c.args.number l c.requires.number)

pub returns-clause-mended : goal.returns-clause-mended
returns-clause-mended g c =
    let l : Line = c.index_mut-line.result.now in
    let at : slice_get c.args.self.now c.args.number ≡ Some l = line_at c.self.inside.all.items c.args.self.now c.args.number l c.self.view_is c.requires.number c.index_mut-line.ensures.value in
    let named = c.requires.named c.args.number l at in
    subst (λ (xs : List Line). IsMended c.args.s.now c.args.self.now (set xs c.args.number c.advance.new.self) c.args.set.now c.apply_to.new.set) (sym c.self.view_is)
    (mended_line c.args.s.now c.args.self.now c.args.number l c.advance.new.self c.in_ok-exchange.exchange.went.items c.in_ok-exchange.exchange.came.items c.args.set.now c.apply_to.new.set
    at named (subst (HoldsNamed c.args.s.now c.args.number) (sym c.in_ok-exchange.ensures.moment) (named_moment c.args.s.now c.args.number c.args.now l named)) c.in_ok-exchange.ensures.exchanged
    c.in_ok-apply_to.ensures.members c.in_ok-apply_to.ensures.sorted)

pub returns-clause-moved : goal.returns-clause-moved
returns-clause-moved g c = λ d.
    let l : Line = c.index_mut-line.result.now in
    let at : slice_get c.args.self.now c.args.number ≡ Some l = line_at c.self.inside.all.items c.args.self.now c.args.number l c.self.view_is c.requires.number c.index_mut-line.ensures.value in
    ap (λ (xs : List Line). set xs c.args.number c.advance.new.self) c.self.view_is ∙ ap (set c.args.self.now c.args.number) (c.in_ok-exchange.ensures.moment ∙ ap (at_moment c.args.now) (sym (get_or_from_slice_get c.args.self.now c.args.number l d at)))

pub returns-clause-named : goal.returns-clause-named
returns-clause-named g c =
    let l : Line = c.index_mut-line.result.now in
    let at : slice_get c.args.self.now c.args.number ≡ Some l = line_at c.self.inside.all.items c.args.self.now c.args.number l c.self.view_is c.requires.number c.index_mut-line.ensures.value in
    let named = c.requires.named c.args.number l at in
    subst (λ (xs : List Line). AreNamed c.args.s.now (set xs c.args.number c.advance.new.self)) (sym c.self.view_is)
    (named_line c.args.s.now c.args.self.now c.args.number l c.advance.new.self c.in_ok-exchange.exchange.went.items c.in_ok-exchange.exchange.came.items c.args.set.now c.apply_to.new.set
    c.requires.named at (subst (HoldsNamed c.args.s.now c.args.number) (sym c.in_ok-exchange.ensures.moment) (named_moment c.args.s.now c.args.number c.args.now l named)))
