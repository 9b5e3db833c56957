use Rattle.std.proofs.Common.{Ok, Err, refl, subst}
use Rattle.pl_marks.specs.declared.author.Author.{Author}
use Rattle.pl_locked.specs.Turns.{Acts, Stops}
use Rattle.pl_pair.proofs.Working.{acts_on, acts_until}
use Rattle.pl_pair.proofs.worker.Worker.act_once.Goals as goal

pub returns-in-Ok-Did-clause-served : goal.returns-in-Ok-Did-clause-served
returns-in-Ok-Did-clause-served g c =
    let P : Author → Type 0 = λ a. Acts a c.args.self.now.role c.args.self.now.pass (Ok c.in-Ok-Did.field-0) c.act_as.new.role c.act_as.new.pass in
    acts_on c.args.plan.now c.args.self.now c.act_as.new.pass c.act_as.new.role c.in-Ok-Did.field-0 c.requires.served c.requires.going c.act_as.ensures.own c.act_as.ensures.takes (subst P c.author-by.ensures c.in-Ok-Did.ensures.acts)

pub returns-in-Ok : goal.returns-in-Ok
returns-in-Ok g c =
    let P : Author → Type 0 = λ a. Acts a c.args.self.now.role c.args.self.now.pass (Ok c.in-Ok.field-0) c.act_as.new.role c.act_as.new.pass in
    record {
      served = acts_on c.args.plan.now c.args.self.now c.act_as.new.pass c.act_as.new.role c.in-Ok.field-0 c.requires.served c.requires.going c.act_as.ensures.own c.act_as.ensures.takes (subst P c.author-by.ensures c.in-Ok.ensures.acts);
      duty = refl;
    }

pub returns-in-Err-clause-served : goal.returns-in-Err-clause-served
returns-in-Err-clause-served g c =
    let stop = c.stop_as.ensures in
    let P : Author → Type 0 = λ a. Acts a c.args.self.now.role c.args.self.now.pass (Err c.in-Err.stop) c.act_as.new.role c.act_as.new.pass in
    let Q : Author → Type 0 = λ a. Stops a c.act_as.new.pass c.stop_as.new.pass in
    acts_until c.args.plan.now c.args.self.now c.act_as.new.pass c.stop_as.new.pass c.act_as.new.role c.in-Err.stop c.requires.served c.requires.going c.act_as.ensures.own c.act_as.ensures.takes
    (subst P c.author-by.ensures c.in-Err.ensures.acts) stop.own stop.takes (subst Q c.author-by.ensures stop.stops)
