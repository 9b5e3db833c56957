use Rattle.std.proofs.Common.{◌≡◌, ◌+◌, ◌≤◌, None, sym, ap, subst, rules}
use Rattle.pl_semantics.specs.declared.plan_state.PlanState.{PlanState}
use Rattle.pl_semantics.specs.Moves.{refusal_of, applied}
use Rattle.pl_semantics.specs.Whole.{IsWhole}
use Rattle.pl_board.specs.Boards.{Standing}
use Rattle.pl_moves.specs.Keeping.{KeepsCommitted}
use Rattle.pl_moves.proofs.Keeping.{keeps, gives}
use Rattle.pl_moves.specs.Changes.{IsNamedLive}
use Rattle.pl_moves.proofs.Made.{named_live}
use Rattle.pl_moves.proofs.application.apply.Goals as goal

pub refusal-requires-clause-named : goal.refusal-requires-clause-named
refusal-requires-clause-named g c = subst (λ (s : PlanState). IsNamedLive s c.args.mv.now) (sym c.state.ensures.value) (named_live c.args.board.now.state c.args.mv.now c.requires.proper)

pub returns-in_ok-make-in-None-clause-committed : goal.returns-in_ok-make-in-None-clause-committed
returns-in_ok-make-in-None-clause-committed g c =
    let whole : IsWhole c.args.board.now.state = subst IsWhole c.state.ensures.value (c.state.ensures.whole c.requires.unspoiled) in
    let allowed : refusal_of c.args.board.now.state c.args.mv.now ≡ None = search rules in
    let made : c.make.new.board.state ≡ applied c.args.board.now.state c.args.mv.now = ap (λ (b : Standing). b.state) c.in_ok-make-in-None.ensures.ok in
    subst (λ (s : PlanState). KeepsCommitted c.args.board.now.state s) (sym made) (keeps c.args.board.now.state c.args.mv.now whole c.requires.proper allowed)

pub returns-in_ok-make-in-None-clause-ids : goal.returns-in_ok-make-in-None-clause-ids
returns-in_ok-make-in-None-clause-ids g c =
    let whole : IsWhole c.args.board.now.state = subst IsWhole c.state.ensures.value (c.state.ensures.whole c.requires.unspoiled) in
    let allowed : refusal_of c.args.board.now.state c.args.mv.now ≡ None = search rules in
    let made : c.make.new.board.state ≡ applied c.args.board.now.state c.args.mv.now = ap (λ (b : Standing). b.state) c.in_ok-make-in-None.ensures.ok in
    subst (λ (s : PlanState). s.next_id ≤ c.args.board.now.state.next_id + 16) (sym made) (gives c.args.board.now.state c.args.mv.now whole c.requires.proper allowed).most
