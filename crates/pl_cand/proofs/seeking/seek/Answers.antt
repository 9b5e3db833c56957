use Rattle.std.proofs.Common.{◌≡◌, ◌+◌, ◌<◌, ◌≤◌, ℕ, true, false, length, drop, rules, subst, sym, arith, ◌∙◌}
use Rattle.std.specs.Prelude.{◌||◌}
use Rattle.std.specs.List.{list_any}
use Rattle.pl_semantics.proofs.Found.{found_here}
use Rattle.pl_semantics.specs.Starts.{moves_of}
use Rattle.pl_semantics.specs.Candidates.{same_move}
use Rattle.pl_cand.specs.declared.told.Told.{Told}
use Rattle.pl_cand.specs.declared.told.Told.TheVariants as told
use Rattle.pl_cand.specs.Tests.{is_user}
use Rattle.pl_cand.specs.Telling.{TellsRest, away}
use Rattle.pl_cand.proofs.Behind.{left, told_all, all_found, all_seen, no_user, user_past, user_here}
use Rattle.pl_cand.proofs.seeking.seek.Goals as goal
use Rattle.pl_cand.proofs.seeking.seek.Goals.{then-branch+else-is_tried, else-branch}

pub is_user-requires-clause-live : goal.is_user-requires-clause-live
is_user-requires-clause-live c =
    found_here c.activities-x-items.result.now c.args.state.now.plan.activities c.activities-x-items.ensures.value c.requires.rising
    c.loop-x.x-index c.x-item.result c.loop-x-test.true c.x-item.is

pub returns-then-found-ge-USERS : goal.returns-then-found-ge-USERS
returns-then-found-ge-USERS c =
    let s = c.args.state.now in
    let acts = c.activities-x-items.result.now in
    told_all s c.args.role c.args.mv.now c.args.timeline acts c.activities-x-items.ensures.value told.Untried
    (all_found s c.args.role c.args.mv.now c.args.timeline acts c.loop-x.most c.loop-x.found c.loop-x.x-index c.loop-x.invariant.so_far c.if-found-ge-USERS.true)

pub returns : goal.returns
returns c =
    let s = c.args.state.now in
    let acts = c.activities-x-items.result.now in
    told_all s c.args.role c.args.mv.now c.args.timeline acts c.activities-x-items.ensures.value told.Untried
    (all_seen s c.args.role c.args.mv.now c.args.timeline acts c.loop-x.most c.loop-x.found c.loop-x.x-index c.loop-x.invariant.so_far (first_of (omega arith, search rules)))

pub is_tried-requires-clause-live : goal.is_tried-requires-clause-live
is_tried-requires-clause-live c =
    found_here c.activities-x-items.result.now c.args.state.now.plan.activities c.activities-x-items.ensures.value c.requires.rising
    c.loop-x.x-index c.x-item.result c.loop-x-test.true c.x-item.is

pub returns-then-is_tried : goal.returns-then-is_tried
returns-then-is_tried c =
    let s = c.args.state.now in
    let m = c.args.mv.now in
    let line = c.args.timeline in
    let acts = c.activities-x-items.result.now in
    let x = c.x-item.result in
    let k = c.most_moves-most.result in
    let room : c.loop-x.found < 8 = omega arith in
    let user : is_user s line c.args.role x ≡ true = sym c.in_ok-is_user.ensures ∙ c.if-branch.true in
    let few : length (moves_of s x) ≤ k = c.most_moves-most.ensures.moves s in
    let some : (list_any (same_move m) (away s c.args.role x) || list_any (same_move m) (moves_of s x)) ≡ true = sym c.is_tried.ensures ∙ c.if-is_tried.true in
    let tells = user_here s c.args.role m line acts c.loop-x.most c.loop-x.found c.loop-x.x-index c.loop-x.invariant.so_far x c.loop-x-test.true c.x-item.is k room user few some in
    told_all s c.args.role m line acts c.activities-x-items.ensures.value c.told_within.result
    (subst (λ (t : Told). TellsRest s c.args.role m 80 (left s c.args.role line 0 acts) t) (sym c.told_within.ensures) tells)

pub loop-x-preserved : goal.loop-x-preserved
loop-x-preserved c =
    let s = c.args.state.now in
    let m = c.args.mv.now in
    let part = c.args.role in
    let line = c.args.timeline in
    let acts = c.activities-x-items.result.now in
    let x = c.x-item.result in
    let i = c.loop-x.x-index in
    let room : c.loop-x.found < 8 = omega arith in
    elim c.if-branch.branch [
      | then-branch+else-is_tried w ↦ record {
        users = omega (arith, room, w.found-is);
        count = omega (arith, w.found-is, w.most-is, c.loop-x.invariant.count, w.most_moves-most.ensures.few);
        so_far = λ t tells.
            let k = w.most_moves-most.result in
            let user : is_user s line part x ≡ true = sym c.in_ok-is_user.ensures ∙ w.if-branch.true in
            let few : length (moves_of s x) ≤ k = w.most_moves-most.ensures.moves s in
            let none : (list_any (same_move m) (away s part x) || list_any (same_move m) (moves_of s x)) ≡ false = sym w.is_tried.ensures ∙ w.if-is_tried.false in
            let one = subst (λ (n : ℕ). TellsRest s part m n (left s part line c.if-branch.found (drop (i + 1) acts)) t) w.most-is tells in
            let two = subst (λ (n : ℕ). TellsRest s part m (c.loop-x.most + k) (left s part line n (drop (i + 1) acts)) t) w.found-is one in
            user_past s part m line acts c.loop-x.most c.loop-x.found i c.loop-x.invariant.so_far x c.loop-x-test.true c.x-item.is k room user few none t two;
      }
      | else-branch w ↦ record {
        users = omega (arith, room, w.found-is);
        count = omega (arith, w.found-is, w.most-is, c.loop-x.invariant.count);
        so_far = λ t tells.
            let other : is_user s line part x ≡ false = sym c.in_ok-is_user.ensures ∙ w.if-branch.false in
            let one = subst (λ (n : ℕ). TellsRest s part m n (left s part line c.if-branch.found (drop (i + 1) acts)) t) w.most-is tells in
            let two = subst (λ (n : ℕ). TellsRest s part m c.loop-x.most (left s part line n (drop (i + 1) acts)) t) w.found-is one in
            no_user s part m line acts c.loop-x.most c.loop-x.found i c.loop-x.invariant.so_far x c.loop-x-test.true c.x-item.is other t two;
      }
    ]
