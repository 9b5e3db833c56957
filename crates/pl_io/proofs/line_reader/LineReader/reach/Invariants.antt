use Rattle.std.proofs.Common.{◌≡◌, ◌+◌, ◌-◌, ◌<◌, ◌≤◌, true, length, Some, IfSome}
use Rattle.pl_io.specs.Lines.{ahead, first_line}
use Rattle.pl_io.specs.Sparing.{shows_next}
use Rattle.pl_io.proofs.line_reader.LineReader.reach.Given as goal

abbrev pub invariant-turns : goal.invariant-turns
invariant-turns g l =
    (l.self ≡ record l.initial.self { held = l.self.held })
    × (length l.initial.self.held ≤ length l.self.held)
    × (g.S.Source.faults l.initial.src ≤ g.S.Source.faults l.src)
    × IfSome (ahead l.initial.self.held (g.S.Source.left l.initial.src)) (λ bytes. ahead l.self.held (g.S.Source.left l.src) ≡ Some bytes)
    × (shows_next l.initial.self.limit l.initial.self.room l.initial.self.held ≡ true → (l.self ≡ l.initial.self) × (l.src ≡ l.initial.src))
    × (length l.initial.self.held < 4096 → (length l.self.held ≤ length (first_line l.self.held) + 4096) × (length l.self.held ≤ l.self.limit + 4096))

abbrev pub decreases-turns : goal.decreases-turns
decreases-turns g l = l.self.limit + 1 - length l.self.held
