use Rattle.std.proofs.Common.{◌≡◌, List, ℤ, set, ap, sym, ◌∙◌, subst}
use mir.Syntax.{w64}
use Rattle.std.proofs.lemmas.Int.{to_z-of_z}
use Rattle.std.specs.Prelude.{slice_get, Some}
use Rattle.pl_update.specs.declared.timelines.line.Line.{Line}
use Rattle.pl_update.specs.Timelines.Named.{AreNamed, HoldsNamed}
use Rattle.pl_update.specs.Timelines.Mending.{IsMended}
use Rattle.pl_update.specs.Timelines.Moments.{based_on, CanHave, CanHaveAt, rebased_in}
use Rattle.pl_update.proofs.AboutTimelines.Mending.{mended_line, named_line}
use Rattle.pl_update.proofs.AboutTimelines.MovingTime.{line_at, has_line, named_based}
use Rattle.pl_update.proofs.timelines.lines.Lines.rebase.Goals as goal

pub rebase-requires : goal.rebase-requires
rebase-requires g c =
    let l : Line = c.index_mut-line.result.now in
    let at : slice_get c.args.self.now c.args.number ≡ Some l = line_at c.self.inside.all.items c.args.self.now c.args.number l c.self.view_is (has_line c.args.self.now c.args.number c.args.value c.requires.based) c.index_mut-line.ensures.value in
    subst (λ (z : ℤ). CanHave z l) (sym (to_z-of_z w64 c.args.value c.ranges.value)) (subst (CanHaveAt c.args.value) at c.requires.based)

pub returns-clause-mended : goal.returns-clause-mended
returns-clause-mended g c =
    let l : Line = c.index_mut-line.result.now in
    let at : slice_get c.args.self.now c.args.number ≡ Some l = line_at c.self.inside.all.items c.args.self.now c.args.number l c.self.view_is (has_line c.args.self.now c.args.number c.args.value c.requires.based) c.index_mut-line.ensures.value in
    let named = c.requires.named c.args.number l at in
    subst (λ (xs : List Line). IsMended c.args.s.now c.args.self.now (set xs c.args.number c.rebase.new.self) c.args.set.now c.apply_to.new.set) (sym c.self.view_is)
    (mended_line c.args.s.now c.args.self.now c.args.number l c.rebase.new.self c.in_ok-exchange.exchange.went.items c.in_ok-exchange.exchange.came.items c.args.set.now c.apply_to.new.set
    at named (subst (HoldsNamed c.args.s.now c.args.number) (sym c.in_ok-exchange.ensures.base) (named_based c.args.s.now c.args.number _ l named)) c.in_ok-exchange.ensures.exchanged
    c.in_ok-apply_to.ensures.members c.in_ok-apply_to.ensures.sorted)

pub returns-clause-moved : goal.returns-clause-moved
returns-clause-moved g c =
    let l : Line = c.index_mut-line.result.now in
    let at : slice_get c.args.self.now c.args.number ≡ Some l = line_at c.self.inside.all.items c.args.self.now c.args.number l c.self.view_is (has_line c.args.self.now c.args.number c.args.value c.requires.based) c.index_mut-line.ensures.value in
    let is : c.rebase.new.self ≡ based_on c.args.value l = c.in_ok-exchange.ensures.base ∙ ap (λ (z : ℤ). based_on z l) (to_z-of_z w64 c.args.value c.ranges.value) in
    subst (λ o. set c.self.inside.all.items c.args.number c.rebase.new.self ≡ rebased_in c.args.self.now c.args.number c.args.value o) (sym at)
    (ap (λ (xs : List Line). set xs c.args.number c.rebase.new.self) c.self.view_is ∙ ap (set c.args.self.now c.args.number) is)

pub returns-clause-named : goal.returns-clause-named
returns-clause-named g c =
    let l : Line = c.index_mut-line.result.now in
    let at : slice_get c.args.self.now c.args.number ≡ Some l = line_at c.self.inside.all.items c.args.self.now c.args.number l c.self.view_is (has_line c.args.self.now c.args.number c.args.value c.requires.based) c.index_mut-line.ensures.value in
    let named = c.requires.named c.args.number l at in
    subst (λ (xs : List Line). AreNamed c.args.s.now (set xs c.args.number c.rebase.new.self)) (sym c.self.view_is)
    (named_line c.args.s.now c.args.self.now c.args.number l c.rebase.new.self c.in_ok-exchange.exchange.went.items c.in_ok-exchange.exchange.came.items c.args.set.now c.apply_to.new.set
    c.requires.named at (subst (HoldsNamed c.args.s.now c.args.number) (sym c.in_ok-exchange.ensures.base) (named_based c.args.s.now c.args.number _ l named)))
