use Rattle.std.proofs.Common.{true, false, refl, sym}
use Rattle.pl_prefs.proofs.Stepped.{legal_may, clear_as, not_legal}
use Rattle.pl_prefs.proofs.trying.is_made.Goals as goal

pub is_legal-requires-clause-proper : goal.is_legal-requires-clause-proper
is_legal-requires-clause-proper g c = c.requires.change.0

pub returns-then-not-is_legal-clause-tried : goal.returns-then-not-is_legal-clause-tried
returns-then-not-is_legal-clause-tried g c = (not_legal c.args.board.now.state c.args.mv.now (sym c.if-not-is_legal.ensures), refl)

pub attempt-requires-clause-allowed : goal.attempt-requires-clause-allowed
attempt-requires-clause-allowed g c = record { proper = c.requires.change.0; allowed = legal_may c.args.board.now.state c.args.mv.now (sym c.if-not-is_legal.ensures) }

pub returns-in-Made-clause-tried : goal.returns-in-Made-clause-tried
returns-in-Made-clause-tried g c =
    let made = rw c.in-Made.is at c.in_ok-tried.ensures.attempted in
    (clear_as c.args.board.now.state c.args.mv.now true (sym c.if-not-is_legal.ensures) made.few, made.made)

pub returns-in-Undone-clause-tried : goal.returns-in-Undone-clause-tried
returns-in-Undone-clause-tried g c =
    let undone = rw c.in-Undone.is at c.in_ok-tried.ensures.attempted in
    (clear_as c.args.board.now.state c.args.mv.now false (sym c.if-not-is_legal.ensures) undone.many, undone.same)
