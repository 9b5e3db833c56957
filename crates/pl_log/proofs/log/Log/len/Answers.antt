use Rattle.std.proofs.Common.{◌≡◌, ◌+◌, ◌*◌, ◌++◌, ap, length, arith, length-append}
use Rattle.pl_log.specs.Logged.{Logged, joined}
use Rattle.pl_log.proofs.Packs.{length_joined}
use Rattle.pl_log.proofs.log.Log.len.Goals as goal

pub returns : goal.returns
returns c =
    let packs = c.self.inside.packs.items in
    let newest = c.self.inside.newest.items in
    let packed : length (joined packs) ≡ length packs * 256 = length_joined packs c.self.invariant.full in
    let all : length (joined packs ++ newest) ≡ length (joined packs) + length newest = length-append (joined packs) newest in
    let seen : length (joined packs ++ newest) ≡ length c.args.self.now.entries = ap (λ (l : Logged). length l.entries) c.self.view_is in
    omega (arith, packed, all, seen, c.len.ensures, c.len-2.ensures)
