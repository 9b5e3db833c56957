use Rattle.std.proofs.Common.{Ok, Err, subst}
use Rattle.pl_marks.specs.declared.author.Author.{Author}
use Rattle.pl_locked.specs.Turns.{WorksOn}
use Rattle.pl_pair.proofs.Working.{served_on, served_until}
use Rattle.pl_pair.proofs.worker.serve.Goals as goal

pub returns-in-Ok : goal.returns-in-Ok
returns-in-Ok g c =
    let P : Author → Type 0 = λ a. WorksOn a c.role-role.result c.args.pass (Ok c.in-Ok.field-0) c.work_as.new.role c.work_as.new.pass in
    served_on c.args.plan.now c.args.pass c.work_as.new.pass c.role-role.result c.work_as.new.role c.args.duty c.in-Ok.field-0 c.requires c.role-role.ensures c.work_as.ensures.takes c.work_as.ensures.own
    (subst P c.author.ensures c.in-Ok.ensures.works)

pub returns-in-Err : goal.returns-in-Err
returns-in-Err g c =
    let P : Author → Type 0 = λ a. WorksOn a c.role-role.result c.args.pass (Err c.in-Err.stop) c.work_as.new.role c.work_as.new.pass in
    served_until c.args.plan.now c.args.pass c.work_as.new.pass c.role-role.result c.work_as.new.role c.args.duty c.in-Err.stop c.requires c.role-role.ensures c.work_as.ensures.takes c.work_as.ensures.own
    (subst P c.author.ensures c.in-Err.ensures.works)
