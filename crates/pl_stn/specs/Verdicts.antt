-- What is said of a verdict's times, or of its cycle.
use Rattle.std.specs.Prelude.{ℕ, ℤ, List}
use Rattle.pl_stn.specs.declared.verdict.Verdict.{Verdict}
use Rattle.pl_stn.specs.declared.verdict.Verdict.TheVariants.{Times, Cycle}

abbrev pub IfTimes : Verdict → (List ℤ → Type 0) → Type 0
IfTimes (Times times) P = P times
IfTimes (Cycle edges) P = Unit {0}

abbrev pub IfCycle : Verdict → (List ℕ → Type 0) → Type 0
IfCycle (Times times) P = Unit {0}
IfCycle (Cycle edges) P = P edges
