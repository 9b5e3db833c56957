use Rattle.std.proofs.Common.{ℕ, List, sym, subst, arith}
use Rattle.pl_state.specs.Keys.{Has}
use Rattle.pl_state.specs.declared.reservation.Must.{Must}
use Rattle.pl_semantics.specs.declared.demand.Demand.{Demand}
use Rattle.pl_semantics.specs.Whole.{IsWhole}
use Rattle.pl_bounds.specs.Afterwards.{coming_at}
use Rattle.pl_bounds.specs.Moved.{moved_to}
use Rattle.pl_bounds.specs.Seen.{EachSet}
use Rattle.pl_bounds.specs.Settings.{musts_asked}
use Rattle.pl_bounds.specs.UnmetMusts.{DecidesNot}
use Rattle.pl_bounds.specs.declared.unmet_musts.UnmetMust.{UnmetMust}
use Rattle.pl_bounds.proofs.StillUnmet.{comer_unmet, last_stands, must_moved_along}
use Rattle.pl_bounds.proofs.coming_musts.is_unmet_at.Goals as goal

pub returns : goal.returns
returns c = λ free gone more exchange.
    let s = c.args.board.now.state in
    let a = c.args.asking.now in
    let d = c.args.demand.now in
    let from : ℕ = a.start in
    let to : ℕ = c.args.start in
    let m : Must = record c.args.must.now { from = moved_to from to c.args.must.now.from; to = moved_to from to c.args.must.now.to } in
    let seen = c.in-Some.seen in
    let u : UnmetMust = record { must = c.args.must.now; seen = seen; set = c.last_set-set.result } in
    let whole : IsWhole s = subst IsWhole c.state-state.ensures.value (c.state-state.ensures.whole c.requires.unspoiled) in
    let goes : EachSet u.seen.line (DecidesNot s u) a.going.items = subst (λ (ds : List Demand). EachSet u.seen.line (DecidesNot s u) ds) c.as_slice.ensures.value (c.are_idle.ensures c.if-not-are_idle.false) in
    let comes : EachSet u.seen.line (DecidesNot s u) (coming_at a to) = rw c.as_slice-2.ensures.value at (c.are_idle_moved.ensures free) in
    let needed : Has m (musts_asked seen.line (coming_at a to)) = subst (λ (n : ℕ). Has m (musts_asked n (coming_at a to))) (sym c.in-Some.ensures.line) (must_moved_along from to d c.args.must.now a.coming.items c.requires.comes c.requires.asks) in
    comer_unmet s whole a.going.items (coming_at a to) u goes comes (last_stands s seen.line seen.at c.last_set-set.result (c.last_set-set.ensures c.requires.unspoiled)) gone more exchange c.in-Some.ensures.seen m needed
    (omega (arith, c.if-from-moved.false, c.from.ensures, c.moved.ensures, c.in-Some.ensures.at)) (omega (arith, c.if-moved-from.false, c.from-2.ensures, c.moved-2.ensures, c.in-Some.ensures.at)) (λ e. omega (arith, c.if-seen-must.false, e))
