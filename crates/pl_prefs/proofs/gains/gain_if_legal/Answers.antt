use Rattle.std.proofs.Common.{◌≡◌, true, false, sym, subst, ◌∙◌, rules}
use mir.Syntax.{w128}
use mir.Val.{SFits}
use Rattle.std.proofs.lemmas.Int.{to_z-of_z}
use Rattle.pl_semantics.specs.Whole.{IsWhole}
use Rattle.pl_prefs.proofs.Stepped.{legal_may, not_legal}
use Rattle.pl_prefs.proofs.gains.gain_if_legal.Goals as goal

pub returns-then-not-is_legal-clause-gain : goal.returns-then-not-is_legal-clause-gain
returns-then-not-is_legal-clause-gain c = λ clear. absurd (let bad : true ≡ false = sym clear ∙ not_legal c.args.board.now.state c.args.mv.now (sym c.if-not-is_legal.ensures) in cc)

pub gain_of-requires-clause-whole : goal.gain_of-requires-clause-whole
gain_of-requires-clause-whole c = rw c.requires.of_board (subst IsWhole c.state-state.ensures.value (c.state-state.ensures.whole c.requires.unspoiled))

pub gain_of-requires-clause-next : goal.gain_of-requires-clause-next
gain_of-requires-clause-next c = rw c.requires.of_board c.requires.next

pub gain_of-requires-clause-allowed : goal.gain_of-requires-clause-allowed
gain_of-requires-clause-allowed c = rw c.requires.of_board (record { proper = c.requires.change.0; allowed = legal_may c.args.board.now.state c.args.mv.now (sym c.if-not-is_legal.ensures) })

pub is_legal-requires-clause-proper : goal.is_legal-requires-clause-proper
is_legal-requires-clause-proper c = c.requires.change.0

pub gain_of-requires-clause-activities : goal.gain_of-requires-clause-activities
gain_of-requires-clause-activities c = c.requires.change.1

pub gain_of-requires-clause-fits : goal.gain_of-requires-clause-fits
gain_of-requires-clause-fits c = rw c.requires.of_board c.requires.fits

pub returns-clause-gain : goal.returns-clause-gain
returns-clause-gain c = λ clear. to_z-of_z w128 c.in_ok-gain.gain (let fits : SFits w128 c.in_ok-gain.gain = search rules in fits) ∙ (rw c.requires.of_board at c.in_ok-gain.ensures.gain)
