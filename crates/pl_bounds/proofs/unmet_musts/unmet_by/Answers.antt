use Rattle.std.proofs.Common.{ℕ, sym, subst, arith}
use Rattle.pl_semantics.specs.Demands.{demands_of}
use Rattle.pl_state.specs.Keys.{Has}
use Rattle.pl_bounds.specs.Settings.{musts_asked}
use Rattle.pl_bounds.proofs.StillUnmet.{last_stands, must_in_line}
use Rattle.pl_bounds.proofs.unmet_musts.unmet_by.Goals as goal

pub returns : goal.returns
returns c =
    let s = c.args.board.now.state in
    let d = c.args.demand.now in
    let m = c.in-Must.must in
    let u = c.in-Some.seen in
    let needed : Has m (musts_asked d.line (demands_of s)) = must_in_line d m (demands_of s) c.requires.asked c.in-Must.is in
    record {
      seen = c.in-Some.ensures.seen;
      needed = subst (λ (n : ℕ). Has m (musts_asked n (demands_of s))) (sym c.in-Some.ensures.line) needed;
      from = omega (arith, c.if-at-must.false, c.in-Some.ensures.at);
      to = omega (arith, c.if-must-at.false, c.in-Some.ensures.at);
      other = λ e. omega (arith, c.if-seen-must.false, e);
      set = last_stands s u.line u.at c.last_set-set.result (c.last_set-set.ensures c.requires.unspoiled);
    }
