use Rattle.std.proofs.Common.{◌≡◌, List, ◌∷◌, [], ◌++◌, refl, sym, ◌∙◌, ap, subst}
use Rattle.pl_conflict.specs.declared.conflict.Conflict.{Conflict}
use Rattle.std.proofs.lemmas.List.{append-nil}
use Rattle.pl_semantics.specs.declared.plan_state.PlanState.{PlanState}
use Rattle.pl_semantics.specs.Conflicts.{conflicts_of}
use Rattle.pl_semantics.specs.Whole.{IsWhole}
use Rattle.pl_update.specs.Timelines.Framed.{AreLinesOf}
use Rattle.pl_update.proofs.AboutChanges.Keeping.{whole_with_goal}
use Rattle.pl_update.specs.Changes.Changes.{with_goal}
use Rattle.pl_update.specs.GoalsAndActivities.Near.{near}
use Rattle.pl_update.proofs.AboutTimelines.StandingLater.{lines_with_goal, told_with_goal}
use Rattle.pl_update.proofs.AboutGoalsAndActivities.OfGoals.{follows_goal}
use Rattle.pl_update.proofs.AboutLinks.Keeping.{keeps_with_goal}
use Rattle.pl_conflict.specs.Sorting.{exchanged}
use Rattle.pl_board.proofs.Watching.{stands_goal, near_fresh}
use Rattle.pl_board.proofs.watched.WatchedState.add_goal.Goals as goal

pub near_kept-requires-clause-whole : goal.near_kept-requires-clause-whole
near_kept-requires-clause-whole c = rw c.in_ok-push.ensures.ok (whole_with_goal c.args.self.now.state c.args.goal c.requires.watched.whole c.requires.fresh c.requires.of_model)

pub returns-clause-watched : goal.returns-clause-watched
returns-clause-watched c =
    let w = c.args.self.now in
    let s = w.state in
    let n = c.args.goal.number in
    let t = with_goal c.args.goal s in
    let whole_t = whole_with_goal s c.args.goal c.requires.watched.whole c.requires.fresh c.requires.of_model in
    let are_t = lines_with_goal s c.args.goal w.lines c.requires.watched.timelines in
    let is_t : record s { goals = c.push.new.self } ≡ t = ap (λ gs. record s { goals = gs }) c.in_ok-push.ensures.ok in
    let came : c.deref.result.now ≡ near (record s { goals = c.push.new.self }) (n ∷ []) [] = c.deref.ensures.value ∙ c.in_ok-near_kept.ensures ∙ ap (λ (ks : List Conflict). ks ++ near (record s { goals = c.push.new.self }) (n ∷ []) []) c.new-came.ensures.items in
    let found = stands_goal s t (record s { goals = c.push.new.self }) w.lines w.conflicts c.exchange.new.self n (n ∷ []) [] [] [] []
    c.requires.watched.whole c.requires.watched.timelines c.requires.watched.found is_t whole_t are_t (told_with_goal s c.args.goal w.lines w.conflicts) (follows_goal s c.args.goal c.requires.watched.whole) (keeps_with_goal s c.args.goal)
    refl refl (sym (near_fresh s n c.requires.fresh)) refl refl
    (c.in_ok-exchange.ensures.ok ∙ ap (exchanged w.conflicts []) (came ∙ sym (append-nil (near (record s { goals = c.push.new.self }) (n ∷ []) [])))) in
    record {
      whole = subst IsWhole (sym is_t) whole_t;
      values = c.requires.watched.values;
      timelines = subst (λ (x : PlanState). AreLinesOf x w.lines) (sym is_t) are_t;
      store = c.requires.watched.store;
      found = found ∙ ap conflicts_of (sym is_t);
    }
