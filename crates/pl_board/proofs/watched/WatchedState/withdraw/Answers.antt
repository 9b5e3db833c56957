use Rattle.std.proofs.Common.{◌+◌, ◌∙◌, sym, ap, subst, arith}
use Rattle.pl_semantics.specs.Whole.{IsWhole}
use Rattle.pl_update.specs.Changes.Changes.{committed_to}
use Rattle.pl_update.proofs.AboutChanges.Keeping.{whole_withdrawn}
use Rattle.pl_update.proofs.AboutTimelines.StandingLater.{lines_committed}
use Rattle.pl_board.specs.declared.watched.WatchedState.{WatchedState}
use Rattle.pl_board.proofs.Watching.{watched_anew, none_withdrawn, some_withdrawn}
use Rattle.pl_board.proofs.watched.WatchedState.withdraw.Goals as goal

pub returns-then-self-next-clause-state : goal.returns-then-self-next-clause-state
returns-then-self-next-clause-state c = none_withdrawn c.args.self.now.state c.if-self-next.true

pub look_anew-requires : goal.look_anew-requires
look_anew-requires c =
    let s = c.args.self.now.state in
    let less = c.if-self-next.false in
    subst IsWhole (sym (some_withdrawn s (omega (arith, less)))) (whole_withdrawn s c.requires.whole)

pub returns-clause-state : goal.returns-clause-state
returns-clause-state c =
    let s = c.args.self.now.state in
    let less = c.if-self-next.false in
    ap (λ (v : WatchedState). v.state) c.in_ok-look_anew.ensures.same ∙ some_withdrawn s (omega (arith, less))

pub returns-clause-watched : goal.returns-clause-watched
returns-clause-watched c =
    let w = c.args.self.now in
    let s = w.state in
    let less = c.if-self-next.false in
    watched_anew (record w { state = committed_to (s.moment + 1) s }) c.look_anew.new.self
    (subst IsWhole (sym (some_withdrawn s (omega (arith, less)))) (whole_withdrawn s c.requires.whole)) c.requires.values
    (lines_committed s (s.moment + 1) w.lines c.requires.timelines) c.requires.store c.in_ok-look_anew.ensures.same c.in_ok-look_anew.ensures.conflicts
