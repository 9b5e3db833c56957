use Rattle.std.proofs.Common.{◌∙◌, rules}
use mir.Syntax.{w128}
use mir.Val.{SFits}
use Rattle.std.proofs.lemmas.Int.{to_z-of_z}
use Rattle.std.proofs.lemmas.Option.{slice_get-get_or}
use Rattle.pl_prefs.proofs.Chosen.{gained_more, gained_all}
use Rattle.pl_prefs.proofs.gains.gains.Goals as goal

pub gain_if_legal-requires-clause-change : goal.gain_if_legal-requires-clause-change
gain_if_legal-requires-clause-change c = c.requires.changes c.loop-mv.mv-index _ c.loop-mv-test.true

pub loop-mv-preserved : goal.loop-mv-preserved
loop-mv-preserved c =
    let s = c.args.board.now.state in
    record {
      gained = rw c.in_ok-push.ensures.items (gained_more s c.args.prefers.now c.args.moves.now c.loop-mv.all.items c.loop-mv.mv-index _ _ c.loop-mv.invariant.gained (slice_get-get_or c.args.moves.now c.loop-mv.mv-index _ c.loop-mv-test.true) (λ clear. to_z-of_z w128 c.in_ok-gain.gain (let fits : SFits w128 c.in_ok-gain.gain = search rules in fits) ∙ c.in_ok-gain.ensures.gain clear));
      same = c.in_ok-gain.ensures.same ∙ c.loop-mv.invariant.same;
    }

pub returns : goal.returns
returns c = gained_all c.args.board.now.state c.args.prefers.now c.args.moves.now c.loop-mv.all.items c.loop-mv.mv-index c.loop-mv.invariant.gained c.loop-mv-test.false
