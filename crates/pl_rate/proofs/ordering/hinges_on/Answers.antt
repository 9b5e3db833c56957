use Rattle.std.proofs.Common.{◌≡◌, ap, sym, ◌∙◌, subst}
use Rattle.pl_lists.specs.Lists.{front, back}
use Rattle.pl_rate.specs.Courses.{RiseFrom, sum_of}
use Rattle.pl_rate.specs.Orders.{AreOrdered, is_below, is_upto}
use Rattle.pl_rate.proofs.InOrder.{back_ordered, looser, rising_on, sums_on}
use Rattle.pl_rate.proofs.ordering.hinges_on.Goals as goal

pub count_upto-requires : goal.count_upto-requires
count_upto-requires c =
    let line = c.args.line in
    let hs = c.args.hinges.now in
    let is : c.behind-rest.result.now ≡ back (is_below line) hs = c.behind-rest.ensures ∙ c.count_below.ensures.rest in
    subst AreOrdered (sym is) (looser line 0 (back (is_below line) hs) (back_ordered line 0 0 hs c.requires))

pub returns-clause-rising : goal.returns-clause-rising
returns-clause-rising c =
    let line = c.args.line in
    let hs = c.args.hinges.now in
    let is : c.behind-rest.result.now ≡ back (is_below line) hs = c.behind-rest.ensures ∙ c.count_below.ensures.rest in
    let whole : c.up_to.result.now ≡ front (is_upto line) (back (is_below line) hs) = c.up_to.ensures ∙ (c.count_upto.ensures.before ∙ ap (front (is_upto line)) is) in
    subst (RiseFrom 0) (sym whole) (rising_on line 0 (back (is_below line) hs) (back_ordered line 0 0 hs c.requires))

pub returns-clause-sums : goal.returns-clause-sums
returns-clause-sums c = λ t.
    let line = c.args.line in
    let hs = c.args.hinges.now in
    let is : c.behind-rest.result.now ≡ back (is_below line) hs = c.behind-rest.ensures ∙ c.count_below.ensures.rest in
    let whole : c.up_to.result.now ≡ front (is_upto line) (back (is_below line) hs) = c.up_to.ensures ∙ (c.count_upto.ensures.before ∙ ap (front (is_upto line)) is) in
    ap (λ l. sum_of l t) whole ∙ sums_on line t 0 0 hs c.requires
