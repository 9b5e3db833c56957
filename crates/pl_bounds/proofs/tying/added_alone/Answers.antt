use Rattle.std.proofs.Common.{◌∙◌, ℕ, Option, None, sym, ap, subst}
use Rattle.pl_links.specs.declared.placed.Placed.{Placed}
use Rattle.pl_model.specs.declared.whole.Model.{Model}
use Rattle.pl_plan.specs.Firm.{end_of}
use Rattle.pl_plan.specs.Fitting.{Fits}
use Rattle.pl_bounds.proofs.tying.added_alone.Goals as goal

pub end-requires-clause-fits : goal.end-requires-clause-fits
end-requires-clause-fits c = subst (λ (m : Model). Fits m c.args.alone.now.plan.activities) (sym c.get.ensures) c.requires.whole.fits

pub returns : goal.returns
returns c =
    let own : Option ℕ → Placed = λ end. record { id = c.args.id; kind = c.args.kind; start = c.args.start; end = end; parent = None; detail = None } in
    ap own (c.end.ensures.value ∙ ap (λ (m : Model). end_of m c.args.alone.now.plan.activities c.args.id) c.get.ensures)
