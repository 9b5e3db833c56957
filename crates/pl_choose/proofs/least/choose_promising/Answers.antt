use Rattle.std.proofs.Common.{Some}
use Rattle.pl_semantics.specs.Legal.{left_after}
use Rattle.pl_choose.specs.Alone.{AreEnough}
use Rattle.pl_choose.specs.Picked.{enough_for}
use Rattle.pl_choose.proofs.Aims.{is_mended}
use Rattle.pl_choose.proofs.Promise.{first_allowed, made_kept, tried_kept}
use Rattle.pl_choose.proofs.least.choose_promising.Goals as goal

pub least_left-least-requires : goal.least_left-least-requires
least_left-least-requires c = rw c.state.ensures.value (first_allowed c.args.board.now.state c.args.proposal.conflict c.args.proposal.mv c.requires.promising.foremost.first)

pub try_alone-requires-clause-allowed : goal.try_alone-requires-clause-allowed
try_alone-requires-clause-allowed c = first_allowed c.args.board.now.state c.args.proposal.conflict c.args.proposal.mv c.requires.promising.foremost.first

pub returns-in-Made-clause-picks : goal.returns-in-Made-clause-picks
returns-in-Made-clause-picks c =
    let made = rw c.in-Made.is at c.in_ok-_told.ensures.tried in
    let enough : AreEnough (enough_for c.args.purpose (Some c.least_left-least.result)) (left_after c.args.board.now.state c.args.proposal.mv) = rw c.enough_for.ensures at made.0 in
    made_kept c.args.board.now.state c.args.proposal c.args.purpose c.least_left-least.result c.requires.promising (rw c.state.ensures.value at c.least_left-least.ensures.known) enough

pub returns-in-Made-clause-board : goal.returns-in-Made-clause-board
returns-in-Made-clause-board c =
    let made = rw c.in-Made.is at c.in_ok-_told.ensures.tried in
    let enough : AreEnough (enough_for c.args.purpose (Some c.least_left-least.result)) (left_after c.args.board.now.state c.args.proposal.mv) = rw c.enough_for.ensures at made.0 in
    rw (is_mended c.args.purpose (Some c.least_left-least.result) (left_after c.args.board.now.state c.args.proposal.mv) enough) made.1

pub choose_behind-requires-clause-best : goal.choose_behind-requires-clause-best
choose_behind-requires-clause-best c =
    let tried = rw c.in-Undone.is at c.in_ok-_told.ensures.tried in
    rw tried.2 (tried_kept c.args.board.now.state c.args.proposal c.in-Undone.left c.least_left-least.result c.requires.promising (rw c.state.ensures.value at c.least_left-least.ensures.known) tried.0)
