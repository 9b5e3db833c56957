use Rattle.std.proofs.Common.{ℕ, List, sym, subst, arith}
use Rattle.pl_state.specs.Keys.{Has}
use Rattle.pl_semantics.specs.declared.demand.Demand.{Demand}
use Rattle.pl_semantics.specs.Whole.{IsWhole}
use Rattle.pl_bounds.specs.Settings.{HangsOnNone, musts_asked}
use Rattle.pl_bounds.proofs.Arriving.{unmet_then}
use Rattle.pl_bounds.proofs.newcomers.is_unmet_at.Goals as goal

pub returns : goal.returns
returns c = λ free gone more exchange.
    let s = c.args.board.now.state in
    let u = c.in-Some.seen in
    let m = c.args.must.now in
    let a = c.args.asking.now in
    let whole : IsWhole s = subst IsWhole c.state-state.ensures.value (c.state-state.ensures.whole c.requires.unspoiled) in
    let going : HangsOnNone s u.line u.at a.going.items = subst (λ (ds : List Demand). HangsOnNone s u.line u.at ds) c.as_slice.ensures.value (c.hangs_on_none.ensures c.if-not-hangs_on_none.false) in
    let coming : HangsOnNone s u.line u.at a.coming.items = subst (λ (ds : List Demand). HangsOnNone s u.line u.at ds) c.as_slice-2.ensures.value (c.hangs_on_none-2.ensures free) in
    let needed : Has m (musts_asked u.line a.coming.items) = subst (λ (n : ℕ). Has m (musts_asked n a.coming.items)) (sym c.in-Some.ensures.line) c.requires.comes in
    unmet_then s gone more whole a.going.items a.coming.items exchange u c.in-Some.ensures.seen going m needed
    (omega (arith, c.if-at-must.false, c.in-Some.ensures.at)) (omega (arith, c.if-must-at.false, c.in-Some.ensures.at)) c.if-seen-must.false coming
