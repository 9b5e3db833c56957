use Rattle.std.proofs.Common.{refl, subst, rules}
use mir.Syntax.{w64}
use mir.Val.{SFits, to_z, of_z}
use Rattle.std.proofs.lemmas.Int.{to_z-of_z}
use Rattle.pl_update.specs.Changes.Changes.{with_goal, told_now, moved_on, committed_to, measured_to, withdrawn}
use Rattle.pl_semantics.specs.Moves.{applied}
use Rattle.pl_machine.specs.Changes.{CanChange}
use Rattle.pl_machine.proofs.Changes.{due_on, due_tick, keeps_accept, keeps_tell, keeps_tick, keeps_on}
use Rattle.pl_machine.proofs.Granting.{due_committed, keeps_commit, commit_bounds}
use Rattle.pl_machine.proofs.Measured.{due_measured, keeps_measured}
use Rattle.pl_machine.proofs.Repairs.{due_applied, keeps_applied}
use Rattle.pl_machine.proofs.Withdrawn.{due_withdrawn, keeps_withdrawn}
use Rattle.pl_machine.proofs.machine.appending.change_board.Goals as goal

pub add_goal-requires : goal.add_goal-requires
add_goal-requires c = let can = subst (CanChange c.args.board.now.state) c.in-Accept.is c.requires.can in record { fresh = λ _. can.0; of_model = λ _. can.1; stays = can.2 }

pub telemetry-requires : goal.telemetry-requires
telemetry-requires c =
    let fits : SFits w64 c.in-Tell.value = search rules in
    λ _. rw (to_z-of_z w64 c.in-Tell.value fits) (subst (CanChange c.args.board.now.state) c.in-Tell.is c.requires.can)

pub tick-requires : goal.tick-requires
tick-requires c = let can = subst (CanChange c.args.board.now.state) c.in-Tick.is c.requires.can in record { later = λ _. can.0; bound = λ _. can.1 }

pub commit-requires : goal.commit-requires
commit-requires c = let can = subst (CanChange c.args.board.now.state) c.in-Commit.is c.requires.can in let bounds = commit_bounds c.args.board.now.state c.in-Commit.h can in record { least = λ _. bounds.0; most = λ _. bounds.1 }

pub make-requires : goal.make-requires
make-requires c = let can = subst (CanChange c.args.board.now.state) c.in-Repair.is c.requires.can in record { unspoiled = c.requires.unspoiled; proper = can.0; allowed = can.1; next = can.2 }

pub until-requires : goal.until-requires
until-requires c = λ _. subst (CanChange c.args.board.now.state) c.in-Measure.is c.requires.can

pub returns-in-Accept-clause-keeps : goal.returns-in-Accept-clause-keeps
returns-in-Accept-clause-keeps c = keeps_on _ _ (with_goal c.in-Accept.goal c.args.board.now.state) _ (keeps_accept c.args.board.now.state c.in-Accept.goal) c.add_goal.ensures.ok

pub returns-in-Tell-clause-keeps : goal.returns-in-Tell-clause-keeps
returns-in-Tell-clause-keeps c =
    let told = to_z w64 (of_z w64 c.in-Tell.value) in
    keeps_on _ _ (told_now c.in-Tell.line told c.args.board.now.state) _ (keeps_tell c.args.board.now.state c.in-Tell.line told) c.telemetry.ensures.ok

pub returns-in-Tick-clause-keeps : goal.returns-in-Tick-clause-keeps
returns-in-Tick-clause-keeps c =
    let can = subst (CanChange c.args.board.now.state) c.in-Tick.is c.requires.can in
    keeps_on _ _ (moved_on c.in-Tick.moment c.args.board.now.state) _ (keeps_tick c.args.board.now.state c.in-Tick.moment c.requires.whole.rising can.0) c.tick.ensures.ok

pub returns-in-Commit-clause-keeps : goal.returns-in-Commit-clause-keeps
returns-in-Commit-clause-keeps c =
    let can = subst (CanChange c.args.board.now.state) c.in-Commit.is c.requires.can in
    keeps_on _ _ (committed_to c.in-Commit.h c.args.board.now.state) _ (keeps_commit c.args.board.now.state c.in-Commit.h c.requires.whole can) c.commit.ensures.ok

pub returns-in-Repair-clause-keeps : goal.returns-in-Repair-clause-keeps
returns-in-Repair-clause-keeps c =
    let can = subst (CanChange c.args.board.now.state) c.in-Repair.is c.requires.can in
    keeps_on _ _ (applied c.args.board.now.state c.in-Repair.repair) _ (keeps_applied c.args.board.now.state c.in-Repair.repair c.requires.whole can.0 can.1) c.make.ensures.ok

pub returns-in-Measure-clause-keeps : goal.returns-in-Measure-clause-keeps
returns-in-Measure-clause-keeps c =
    let can = subst (CanChange c.args.board.now.state) c.in-Measure.is c.requires.can in
    keeps_on _ _ (measured_to c.in-Measure.id c.in-Measure.moment c.args.board.now.state) _ (keeps_measured c.args.board.now.state c.in-Measure.id c.in-Measure.moment c.requires.whole can) c.until.ensures.ok

pub returns-in-Withdraw-clause-keeps : goal.returns-in-Withdraw-clause-keeps
returns-in-Withdraw-clause-keeps c = keeps_on _ _ (withdrawn c.args.board.now.state) _ (keeps_withdrawn c.args.board.now.state) c.withdraw.ensures.ok

pub returns-in-Accept-clause-due : goal.returns-in-Accept-clause-due
returns-in-Accept-clause-due c = due_on _ c.args.change c.args.board.now.state (with_goal c.in-Accept.goal c.args.board.now.state) _ (λ _. refl) c.add_goal.ensures.ok

pub returns-in-Tell-clause-due : goal.returns-in-Tell-clause-due
returns-in-Tell-clause-due c =
    let told = to_z w64 (of_z w64 c.in-Tell.value) in
    due_on _ c.args.change c.args.board.now.state (told_now c.in-Tell.line told c.args.board.now.state) _ (λ _. refl) c.telemetry.ensures.ok

pub returns-in-Tick-clause-due : goal.returns-in-Tick-clause-due
returns-in-Tick-clause-due c = due_on _ c.args.change c.args.board.now.state (moved_on c.in-Tick.moment c.args.board.now.state) _ (due_tick c.args.change c.in-Tick.moment c.args.board.now.state (moved_on c.in-Tick.moment c.args.board.now.state) c.in-Tick.is) c.tick.ensures.ok

pub returns-in-Commit-clause-due : goal.returns-in-Commit-clause-due
returns-in-Commit-clause-due c =
    let can = subst (CanChange c.args.board.now.state) c.in-Commit.is c.requires.can in
    due_on _ c.args.change c.args.board.now.state (committed_to c.in-Commit.h c.args.board.now.state) _ (λ _. due_committed c.args.board.now.state c.in-Commit.h c.requires.whole can) c.commit.ensures.ok

pub returns-in-Repair-clause-due : goal.returns-in-Repair-clause-due
returns-in-Repair-clause-due c =
    let can = subst (CanChange c.args.board.now.state) c.in-Repair.is c.requires.can in
    due_on _ c.args.change c.args.board.now.state (applied c.args.board.now.state c.in-Repair.repair) _ (λ _. due_applied c.args.board.now.state c.in-Repair.repair c.requires.whole can.0 can.1) c.make.ensures.ok

pub returns-in-Measure-clause-due : goal.returns-in-Measure-clause-due
returns-in-Measure-clause-due c =
    due_on _ c.args.change c.args.board.now.state (measured_to c.in-Measure.id c.in-Measure.moment c.args.board.now.state) _ (λ _. due_measured c.args.board.now.state c.in-Measure.id c.in-Measure.moment) c.until.ensures.ok

pub returns-in-Withdraw-clause-due : goal.returns-in-Withdraw-clause-due
returns-in-Withdraw-clause-due c = due_on _ c.args.change c.args.board.now.state (withdrawn c.args.board.now.state) _ (λ _. due_withdrawn c.args.board.now.state) c.withdraw.ensures.ok
