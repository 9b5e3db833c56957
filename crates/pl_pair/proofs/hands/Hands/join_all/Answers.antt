use Rattle.std.proofs.Common.{◌≡◌, ◌∷◌, ◌++◌, [], List, map, sym, subst}
use Rattle.std.specs.List.{All}
use Rattle.std.specs.Vec.Iter.{into_iter_items}
use Rattle.std.proofs.lemmas.List.Elements.{All-head, All-tail}
use Rattle.pl_turn.specs.Passes.{mine_of, joined_by}
use Rattle.pl_pair.specs.declared.hands.Hand.{Hand}
use Rattle.pl_pair.specs.declared.endings.Met.{Met}
use Rattle.pl_pair.specs.Served.{IsServed}
use Rattle.pl_pair.specs.Workers.{IsHand, duty_of}
use Rattle.pl_pair.proofs.Closing.{still_leads}
use Rattle.pl_pair.proofs.Handing.{JoinsSome, met_with, joins_more}
use Rattle.pl_pair.proofs.hands.Hands.join_all.Goals as goal

pub join-requires-clause-other : goal.join-requires-clause-other
join-requires-clause-other g c =
    let is : into_iter_items c.loop-hand.hand-iterator ≡ c.in-Some.hand ∷ into_iter_items c.next.new.self = c.in-Some.ensures.steps.0 in
    let hands : All (IsHand c.args.plan.now) (c.in-Some.hand ∷ into_iter_items c.next.new.self) = subst (λ (hs : List Hand). All (IsHand c.args.plan.now) hs) is c.loop-hand.invariant.0 in
    let served : IsServed c.args.plan.now c.joined-worker.result =
    c.joined-worker.ensures.served c.args.plan.now (All-head (IsHand c.args.plan.now) c.in-Some.hand (into_iter_items c.next.new.self) hands) in
    served.own

pub loop-hand-preserved : goal.loop-hand-preserved
loop-hand-preserved g c =
    let is : into_iter_items c.loop-hand.hand-iterator ≡ c.in-Some.hand ∷ into_iter_items c.next.new.self = c.in-Some.ensures.steps.0 in
    let hands : All (IsHand c.args.plan.now) (c.in-Some.hand ∷ into_iter_items c.next.new.self) = subst (λ (hs : List Hand). All (IsHand c.args.plan.now) hs) is c.loop-hand.invariant.0 in
    let served : IsServed c.args.plan.now c.joined-worker.result =
    c.joined-worker.ensures.served c.args.plan.now (All-head (IsHand c.args.plan.now) c.in-Some.hand (into_iter_items c.next.new.self) hands) in
    let duties = map duty_of (into_iter_items c.into_iter-hand-iterator.result) in
    let J : Met → Type 0 = λ met. JoinsSome c.args.plan.now duties (into_iter_items c.next.new.self) c.args.pass.now met c.join.new.pass in (
      All-tail (IsHand c.args.plan.now) c.in-Some.hand (into_iter_items c.next.new.self) hands,
      subst J (sym {b = met_with c.loop-hand.met c.joined-worker.result.refusal} c.with-met.ensures)
          (joins_more c.args.plan.now duties c.in-Some.hand (into_iter_items c.next.new.self) (into_iter_items c.loop-hand.hand-iterator) c.args.pass.now c.loop-hand.pass c.join.new.pass c.loop-hand.met c.joined-worker.result is
          c.loop-hand.invariant.1 served c.joined-worker.ensures.duty c.join.ensures.own c.join.ensures.crew c.join.ensures.begins c.join.ensures.mine),
      still_leads c.loop-hand.pass c.join.new.pass (joined_by c.loop-hand.pass ++ mine_of c.joined-worker.result.pass ∷ []) c.join.ensures.crew c.loop-hand.invariant.2,
    )
