use Rattle.std.proofs.Common.{true, false, ap, ◌∙◌, sym, subst}
use Rattle.pl_board.specs.Boards.{Standing, after}
use Rattle.pl_update.specs.Changes.Changes.{IsOpenIn, without_goal}
use Rattle.pl_moves.proofs.Drops.{open_if, dropped_is}
use Rattle.pl_moves.proofs.Enough.{told}
use Rattle.pl_moves.proofs.attempting.attempt_drop.Goals as goal

pub drop_goal-requires : goal.drop_goal-requires
drop_goal-requires c = λ _. subst (λ (b : Standing). IsOpenIn b.state c.args.goal) (sym c.in_ok-left.ensures.same) (open_if c.args.board.now.state c.args.goal c.requires.proper)

pub returns-then-not-is_enough-clause-attempted : goal.returns-then-not-is_enough-clause-attempted
returns-then-not-is_enough-clause-attempted c = record {
  many = told c.args.enough _ _ false c.in_ok-left.ensures.count c.if-not-is_enough.ensures;
  count = c.in_ok-left.ensures.count;
  same = c.in_ok-left.ensures.same;
}

pub returns-clause-attempted : goal.returns-clause-attempted
returns-clause-attempted c = record {
  trial = λ none. none;
  few = told c.args.enough _ _ true c.in_ok-left.ensures.count c.if-not-is_enough.ensures;
  made = c.in_ok-drop_goal.ensures.ok ∙ (ap (λ (b : Standing). after (without_goal c.args.goal b.state)) c.in_ok-left.ensures.same ∙ ap after (dropped_is c.args.board.now.state c.args.goal));
}
