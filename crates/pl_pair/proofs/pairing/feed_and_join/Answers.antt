use Rattle.std.proofs.Common.{subst, List}
use Rattle.pl_input.specs.Places.{place_of}
use Rattle.pl_pair.specs.declared.duty.Duty.{Duty}
use Rattle.pl_pair.specs.Joins.{JoinsTeam}
use Rattle.pl_pair.proofs.Running.{fed_leads}
use Rattle.pl_pair.proofs.pairing.feed_and_join.Goals as goal

pub join_all-met-requires-clause-first : goal.join_all-met-requires-clause-first
join_all-met-requires-clause-first g c =
    let start = place_of c.args.lines.now (g.S.Source.left c.args.src.now) in
    let fed = c.feed_or_stop-fed in
    fed_leads c.args.plan.now c.args.model.now c.args.pass fed.new.pass start (place_of fed.new.lines (g.S.Source.left fed.new.src)) (g.O.Sink.held c.args.out.now) (g.O.Sink.held fed.new.out) fed.result
    fed.ensures.feeds c.requires.first

pub returns-clause-feeds : goal.returns-clause-feeds
returns-clause-feeds g c = record {
  mid = c.feed_or_stop-fed.new.pass;
  own = c.feed_or_stop-fed.ensures.own;
  feeds = c.feed_or_stop-fed.ensures.feeds;
  team = subst (λ (ds : List Duty). JoinsTeam c.args.plan.now ds c.feed_or_stop-fed.new.pass c.join_all-met.result c.join_all-met.new.pass) c.feed_or_stop-fed.ensures.duties c.join_all-met.ensures;
}
