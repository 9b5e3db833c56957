use Rattle.std.proofs.Common.{◌∙◌, sym, arith, rules}
use Rattle.std.proofs.lemmas.Int.{ints}
use mir.Syntax.{w128}
use mir.Val.{SFits}
use Rattle.std.proofs.lemmas.Int.{to_z-of_z}
use Rattle.pl_prefs.proofs.Stepped.{unspoiled_then, fits_then, sum_made, holds_made, step_made, holds_none, step_none}
use Rattle.pl_prefs.proofs.scored.Scored.step.Goals as goal

pub step_on-requires-clause-next : goal.step_on-requires-clause-next
step_on-requires-clause-next g c = (c.self.invariant (sym c.if-spoiled.ensures)).next

pub step_on-requires-clause-fits : goal.step_on-requires-clause-fits
step_on-requires-clause-fits g c = rw c.deref.ensures.value (c.self.invariant (sym c.if-spoiled.ensures)).fits

pub step_on-requires-clause-few : goal.step_on-requires-clause-few
step_on-requires-clause-few g c = rw c.deref.ensures.value (c.self.invariant (sym c.if-spoiled.ensures)).few

pub raised-self-inside-requires-clause-unspoiled : goal.raised-self-inside-requires-clause-unspoiled
raised-self-inside-requires-clause-unspoiled g c =
    let chosen = rw (c.deref.ensures.value, c.in-Some.is) at c.in_ok-choice.ensures.chosen in
    unspoiled_then c.self.inside.board c.self.inside.prefers.items c.self.inside.score (sym c.if-spoiled.ensures) c.self.invariant c.in-Some.choice c.step_on.new.board c.step_on.ensures.whole chosen

pub raised-self-inside-requires-clause-fits : goal.raised-self-inside-requires-clause-fits
raised-self-inside-requires-clause-fits g c =
    let chosen = rw (c.deref.ensures.value, c.in-Some.is) at c.in_ok-choice.ensures.chosen in
    rw c.deref-in-Some.ensures.value (fits_then c.self.inside.board c.self.inside.prefers.items c.self.inside.score (sym c.if-spoiled.ensures) c.self.invariant c.in-Some.choice c.step_on.new.board c.step_on.ensures.whole chosen)

pub raised-self-inside-requires-clause-few : goal.raised-self-inside-requires-clause-few
raised-self-inside-requires-clause-few g c = rw c.deref-in-Some.ensures.value (c.self.invariant (sym c.if-spoiled.ensures)).few

pub raised-self-inside-requires-clause-sum : goal.raised-self-inside-requires-clause-sum
raised-self-inside-requires-clause-sum g c =
    let chosen = rw (c.deref.ensures.value, c.in-Some.is) at c.in_ok-choice.ensures.chosen in
    let sum = sum_made c.self.inside.board c.self.inside.prefers.items c.self.inside.score (sym c.if-spoiled.ensures) c.self.invariant c.in-Some.choice c.step_on.new.board c.step_on.ensures.whole chosen in
    let before : SFits w128 c.self.inside.score = search rules in
    let gained : SFits w128 c.in-Some.choice.gain = search rules in
    rw c.deref-in-Some.ensures.value (omega (arith, ints, sum))

pub invariant_of-self-in-Some : goal.invariant_of-self-in-Some
invariant_of-self-in-Some g c =
    let chosen = rw (c.deref.ensures.value, c.in-Some.is) at c.in_ok-choice.ensures.chosen in
    holds_made c.self.inside.board c.self.inside.prefers.items c.self.inside.score (sym c.if-spoiled.ensures) c.self.invariant c.in-Some.choice c.step_on.new.board c.step_on.ensures.whole chosen _ (to_z-of_z w128 c.raised-self-inside.result (let fits : SFits w128 c.raised-self-inside.result = search rules in fits) ∙ (rw c.deref-in-Some.ensures.value at c.raised-self-inside.ensures))

pub invariant_of-self-in-None : goal.invariant_of-self-in-None
invariant_of-self-in-None g c =
    let chosen = rw (c.deref.ensures.value, c.in-None.is) at c.in_ok-choice.ensures.chosen in
    holds_none c.self.inside.board c.self.inside.prefers.items c.self.inside.score (sym c.if-spoiled.ensures) c.self.invariant c.step_on.new.board chosen

pub returns-in-Some-clause-stepped : goal.returns-in-Some-clause-stepped
returns-in-Some-clause-stepped g c =
    let chosen = rw (c.deref.ensures.value, c.in-Some.is) at c.in_ok-choice.ensures.chosen in
    step_made c.self.inside.board c.self.inside.prefers.items c.self.inside.score (sym c.if-spoiled.ensures) c.self.invariant c.in-Some.choice c.step_on.new.board c.step_on.ensures.whole chosen c.args.self.now c.self.view_is _ (to_z-of_z w128 c.raised-self-inside.result (let fits : SFits w128 c.raised-self-inside.result = search rules in fits) ∙ (rw c.deref-in-Some.ensures.value at c.raised-self-inside.ensures))

pub returns-in-None-clause-stepped : goal.returns-in-None-clause-stepped
returns-in-None-clause-stepped g c =
    let chosen = rw (c.deref.ensures.value, c.in-None.is) at c.in_ok-choice.ensures.chosen in
    step_none c.self.inside.board c.self.inside.prefers.items c.self.inside.score (sym c.if-spoiled.ensures) c.self.invariant c.step_on.new.board chosen c.args.self.now c.self.view_is
