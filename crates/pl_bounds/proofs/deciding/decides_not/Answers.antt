use Rattle.std.proofs.Common.{inl, inr}
use Rattle.pl_bounds.proofs.deciding.decides_not.Goals as goal

pub returns-then-is_behind : goal.returns-then-is_behind
returns-then-is_behind c = λ _ le. inr (c.is_behind.ensures c.if-is_behind.true)

pub returns : goal.returns
returns c = λ differs le. inl (c.differs_at.ensures differs le)
