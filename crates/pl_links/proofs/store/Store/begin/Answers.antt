use Rattle.std.proofs.Common.{◌≡◌, ℕ, List, [], ◌∷◌, length, arith}
use Rattle.pl_links.specs.declared.placed.Placed.{Placed}
use Rattle.pl_links.specs.declared.files.Files.{Files}
use Rattle.pl_links.specs.Filed.{AreFiles, IsStored}
use Rattle.pl_links.proofs.store.Store.begin.Goals as goal

begun : (es : List (ℕ × Placed)) (files new : Files) → IsStored es files → length es ≡ 0 → AreFiles [] new → IsStored es new
begun [] files new stored none filed = record { under = stored.under; rising = stored.rising; apart = stored.apart; filed = filed }
begun (e ∷ es) files new stored none filed = absurd (omega (arith, none))

pub invariant_of-self : goal.invariant_of-self
invariant_of-self c =
    begun c.self.inside.items.entries c.self.inside.files c.in_ok-files.files c.self.invariant
    (c.is_empty.ensures.0 c.if-not-is_empty.false) c.in_ok-files.ensures
