use Rattle.std.proofs.Common.{◌≡◌, [], drop, length, IfSome}
use Rattle.pl_semantics.specs.Candidates.{is_worth}
use Rattle.pl_cand.specs.Cuts.{standing}
use Rattle.pl_cand.specs.Marks.{AreMarked}
use Rattle.pl_cand.proofs.cuts.cut.Given as goal

-- what is kept and what comes of the other moves
abbrev pub invariant-loop-mv : goal.invariant-loop-mv
invariant-loop-mv l = record {
  stand : standing (is_worth l.state) l.kept.items (drop l.mv-index l.tried) ≡ standing (is_worth l.state) [] l.tried;
  count : length l.marks ≡ 1024;
  marked : AreMarked l.marks l.kept.items;
  last : IfSome l.last (λ k. k.worth ≡ is_worth l.state k.mv);
}
