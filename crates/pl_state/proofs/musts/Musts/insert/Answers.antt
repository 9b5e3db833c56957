use Rattle.std.proofs.Common.{◌≡◌, ap, sym, ◌∙◌, refl, subst}
use Rattle.pl_points.specs.Standing.{without}
use Rattle.pl_state.specs.Keys.{AreSorted}
use Rattle.pl_state.specs.Musts.{must_key, with_must}
use Rattle.pl_state.specs.Starts.{started, same_started, AreKept}
use Rattle.pl_state.proofs.Keys.{placed, put_in}
use Rattle.pl_state.proofs.Indexing.{kept_with, kept_undone}
use Rattle.pl_state.proofs.musts.Musts.insert.Goals as goal

pub invariant_of-self-in-Err : goal.invariant_of-self-in-Err
invariant_of-self-in-Err c =
    let xs = c.self.inside.items in
    let ys = c.self.inside.starts in
    let u = c.args.must in
    let undone : AreKept xs c.remove.new.self = subst (λ l. AreKept xs l) (sym (c.remove.ensures ∙ ap (without same_started (started u)) c.in_ok-insert.ensures.ok)) (kept_undone u xs ys c.self.invariant) in
    subst (λ l. AreKept l c.remove.new.self) (sym c.in-Err.ensures.err) undone

pub invariant_of-self-in-Ok : goal.invariant_of-self-in-Ok
invariant_of-self-in-Ok c =
    let xs = c.self.inside.items in
    let i = c.count-place.result in
    let p = placed must_key c.args.must c.key.result xs xs i refl c.key.ensures c.count-place.ensures.front c.count-place.ensures.rest in
    let new : c.insert-2.new.self ≡ with_must c.args.must xs = put_in must_key c.args.must xs c.insert-2.new.self i p c.in-Ok.ensures.ok in
    subst (λ l. AreKept l c.insert.new.self) (sym new) (subst (λ l. AreKept (with_must c.args.must xs) l) (sym c.in_ok-insert.ensures.ok) (kept_with c.args.must xs c.self.inside.starts c.self.invariant))

pub returns-in_err-insert-clause-sorted : goal.returns-in_err-insert-clause-sorted
returns-in_err-insert-clause-sorted c = subst (λ l. AreSorted must_key l) c.self.view_is c.self.invariant.sorted

pub returns-in-Err-clause-sorted : goal.returns-in-Err-clause-sorted
returns-in-Err-clause-sorted c = subst (λ l. AreSorted must_key l) c.self.view_is c.self.invariant.sorted

pub returns-in-Ok-clause-sorted : goal.returns-in-Ok-clause-sorted
returns-in-Ok-clause-sorted c = subst (λ l. AreSorted must_key l) c.self.view_is c.self.invariant.sorted

pub returns-in-Ok-clause-ok : goal.returns-in-Ok-clause-ok
returns-in-Ok-clause-ok c =
    let xs = c.self.inside.items in
    let i = c.count-place.result in
    let p = placed must_key c.args.must c.key.result xs xs i refl c.key.ensures c.count-place.ensures.front c.count-place.ensures.rest in
    put_in must_key c.args.must xs c.insert-2.new.self i p c.in-Ok.ensures.ok ∙ ap (with_must c.args.must) c.self.view_is
