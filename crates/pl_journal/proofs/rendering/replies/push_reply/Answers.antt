-- The longer words.
use Rattle.pl_journal.proofs.rendering.replies.push_reply.Goals as goal

pub returns-in-UnknownName : goal.returns-in-UnknownName
returns-in-UnknownName c = rw c.in-UnknownName.is c.push_word-in-UnknownName.ensures

pub returns-in-DuplicateGoal : goal.returns-in-DuplicateGoal
returns-in-DuplicateGoal c = rw c.in-DuplicateGoal.is c.push_word-in-DuplicateGoal.ensures

pub returns-in-TickBeyond : goal.returns-in-TickBeyond
returns-in-TickBeyond c = rw c.in-TickBeyond.is c.push_word-in-TickBeyond.ensures

pub returns-in-TooManyGoals : goal.returns-in-TooManyGoals
returns-in-TooManyGoals c = rw c.in-TooManyGoals.is c.push_word-in-TooManyGoals.ensures
