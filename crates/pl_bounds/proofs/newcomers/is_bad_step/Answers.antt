use Rattle.std.proofs.Common.{◌<◌, ◌≤◌, ℕ, List, sym, subst, arith}
use Rattle.std.specs.Prelude.{slice_get}
use Rattle.pl_state.specs.Keys.{Has}
use Rattle.pl_semantics.specs.declared.demand.Demand.{Demand}
use Rattle.pl_semantics.specs.Whole.{IsWhole}
use Rattle.pl_bounds.specs.Seen.{DoesNotAllow, EachSet, IsOtherBefore}
use Rattle.pl_bounds.specs.Settings.{HangsOnNone, sets_asked}
use Rattle.pl_bounds.proofs.Arriving.{bad_step_then}
use Rattle.pl_bounds.proofs.newcomers.is_bad_step.Goals as goal

pub returns : goal.returns
returns c = λ free gone more exchange.
    let s = c.args.board.now.state in
    let u = c.in-Some.seen in
    let x = c.args.set.now in
    let a = c.args.asking.now in
    let whole : IsWhole s = subst IsWhole c.state-state.ensures.value (c.state-state.ensures.whole c.requires.unspoiled) in
    let going : HangsOnNone s u.line u.at a.going.items = subst (λ (ds : List Demand). HangsOnNone s u.line u.at ds) c.as_slice.ensures.value (c.hangs_on_none.ensures c.if-not-hangs_on_none.false) in
    let coming : EachSet u.line (IsOtherBefore s u x) a.coming.items = subst (λ (ds : List Demand). EachSet u.line (IsOtherBefore s u x) ds) c.as_slice-2.ensures.value (c.hangs_on_none_before.ensures free) in
    let asked : Has x (sets_asked u.line a.coming.items) = subst (λ (n : ℕ). Has x (sets_asked n a.coming.items)) (sym c.in-Some.ensures.line) c.requires.comes in
    let newest : s.next_id ≤ x.id = omega (arith, c.if-set-next_id.false, c.next_id.ensures) in
    let later : s.moment < x.at = omega (arith, c.if-set-now.false, c.now.ensures) in
    let forbids : DoesNotAllow (slice_get s.model.timelines c.args.line) u.state x.state = rw c.model.ensures at (c.is_forbidden.ensures c.if-not-is_forbidden.false) in
    let forbids' : DoesNotAllow (slice_get s.model.timelines u.line) u.state x.state = subst (λ (n : ℕ). DoesNotAllow (slice_get s.model.timelines n) u.state x.state) (sym c.in-Some.ensures.line) forbids in
    bad_step_then s gone more whole a.going.items a.coming.items exchange u c.in-Some.ensures.seen going x asked newest c.in-Some.ensures.at later forbids' coming
