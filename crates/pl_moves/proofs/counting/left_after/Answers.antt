use Rattle.std.proofs.Common.{sym, subst}
use Rattle.pl_semantics.specs.declared.plan_state.PlanState.{PlanState}
use Rattle.pl_moves.specs.Changes.{IsNamedLive}
use Rattle.pl_moves.proofs.Made.{named_live}
use Rattle.pl_moves.proofs.counting.left_after.Goals as goal

pub refusal-requires-clause-named : goal.refusal-requires-clause-named
refusal-requires-clause-named g c = subst (λ (s : PlanState). IsNamedLive s c.args.mv.now) (sym c.state.ensures.value) (named_live c.args.board.now.state c.args.mv.now c.requires.proper)
