use Rattle.std.proofs.Common.{ℕ, List, subst, arith, leb, ltb}
use Rattle.std.proofs.lemmas.Bool.{and_parts, leb-true, ltb-true}
use Rattle.pl_semantics.specs.declared.demand.Demand.{Demand}
use Rattle.pl_semantics.specs.Demands.{demands_of}
use Rattle.pl_semantics.specs.Whole.{IsWhole}
use Rattle.pl_state.specs.Keys.{Has}
use Rattle.pl_bounds.specs.Settings.{musts_asked}
use Rattle.pl_bounds.proofs.Breached.{broken_then}
use Rattle.pl_bounds.proofs.States.{must_asked}
use Rattle.pl_bounds.proofs.broken_musts.is_broken.Goals as goal

pub returns : goal.returns
returns c = λ free gone more x.
    let s = c.args.board.now.state in
    let a = c.args.asking.now in
    let set = c.args.set.now in
    let m = c.args.must.now in
    let whole : IsWhole s = subst IsWhole c.state-state.ensures.value (c.state-state.ensures.whole c.requires.unspoiled) in
    let stays : (k : ℕ) → Has m (musts_asked k a.going.items) → ⊥ = subst (λ (ds : List Demand). (k : ℕ) → Has m (musts_asked k ds) → ⊥) c.as_slice.ensures.value (c.are_of_others.ensures free) in
    let holds = and_parts (leb m.from set.at) (ltb set.at m.to) c.requires.holds in
    broken_then s whole a c.args.line set c.requires.new m (must_asked c.args.line (demands_of s) m c.requires.needed) stays (leb-true m.from set.at holds.0) (ltb-true set.at m.to holds.1) (λ e. omega (arith, c.if-must-set.false, e)) gone more x
