use Rattle.std.proofs.Common.{◌≡◌, ℕ, Bool, true, false, List, refl, sym, ◌∙◌, subst}
use Rattle.std.specs.Prelude.{All, not, nat_eq}
use Rattle.std.specs.Cmp.Lexicographic.{pointwise}
use Rattle.std.proofs.lemmas.Bool.Decides.{Decides-eqb}
use Rattle.std.proofs.lemmas.List.{take_all}
use Rattle.std.proofs.lemmas.List.Elements.{All-more}
use Rattle.std.proofs.lemmas.Slice.Eq.{slice_eq-Decides}
use Rattle.pl_choose.specs.declared.stages.Stage.{Stage}
use Rattle.pl_choose.specs.Stages.{TakesOut}
use Rattle.pl_choose.proofs.stages.take_out.Goals as goal

-- lists that are found not to differ
are_same : (xs ys : List ℕ) (r : Bool) → r ≡ not (pointwise nat_eq xs ys) → r ≡ false → xs ≡ ys
are_same xs ys r is e = (slice_eq-Decides Decides-eqb xs ys (pointwise nat_eq xs ys) refl).0 (by (pointwise nat_eq xs ys) (sym is ∙ e))
  where
    by : (b : Bool) → not b ≡ false → b ≡ true
    by true e = refl
    by false e = absurd (cc)

pub loop-stage-preserved : goal.loop-stage-preserved
loop-stage-preserved c =
    let stages : List Stage = c.args.stages.now in
    let gone : List ℕ = c.args.gone.now in
    let t : Stage = c.stage-item.result in
    let takes : TakesOut gone t = sym c.as_slice.ensures.value ∙ are_same c.as_slice.result.now gone c.ne.result c.ne.ensures c.if-ne.false in
    All-more (TakesOut gone) stages c.loop-stage.stage-index t c.loop-stage-test.true c.loop-stage.invariant (subst (λ (x : Stage). TakesOut gone x) c.stage-item.is takes)

pub returns : goal.returns
returns c = λ e. subst (λ (ts : List Stage). All (TakesOut c.args.gone.now) ts) (take_all c.loop-stage.stage-index c.args.stages.now c.loop-stage-test.false) c.loop-stage.invariant
