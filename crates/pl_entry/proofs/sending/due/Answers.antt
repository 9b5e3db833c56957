use Rattle.std.proofs.Common.{◌≡◌, map, IfOk, subst}
use Rattle.pl_entry.specs.Due.{due_of}
use Rattle.pl_entry.proofs.DueLaws.{due_of_result}
use Rattle.pl_entry.proofs.sending.due.Goals as goal

pub returns : goal.returns
unfolding due_of
returns c =
    let ids : IfOk c.ids_in.result (λ ids. ids.items ≡ due_of c.args.model.now c.args.plan.now.activities c.args.now c.args.c) = subst (λ l. IfOk c.ids_in.result (λ ids. ids.items ≡ map (λ s. s.1) l)) c.in_ok-starts.ensures.starts c.ids_in.ensures in
    record { ids = ids; means = due_of_result c.args.model.now c.args.plan.now.activities c.due_starts.ensures.rising c.args.now c.args.c (λ v. v.items) c.ids_in.result ids }
