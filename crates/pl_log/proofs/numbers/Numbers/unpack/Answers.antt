use Rattle.std.proofs.Common.{◌≡◌, ◌-◌, ◌++◌, ◌∙◌, ap, ℕ, List, [], arith}
use Rattle.pl_log.specs.Numbers.{unpacked, all_unpacked}
use Rattle.pl_log.proofs.Bytes.{one_unpacked, all_stand}
use Rattle.pl_log.proofs.numbers.Numbers.unpack.Goals as goal

pub loop-number-init : goal.loop-number-init
loop-number-init c =
    let count = c.self.inside.count in
    let rest = c.as_slice-rest.result.now in
    let whole : count - 0 ≡ count = omega arith in
    ap (λ (ns : List ℕ). ns ++ all_unpacked (count - 0) ns rest) c.in_ok-numbers.ensures.items ∙ ap (λ (n : ℕ). all_unpacked n [] rest) whole

pub loop-number-preserved : goal.loop-number-preserved
loop-number-preserved c =
    one_unpacked c.self.inside.count c.loop-number._number c.unpacked.result c.width.result c.loop-number.rest.now c.after-rest.result.now c.loop-number.numbers.items _ _ c.loop-number-test.true
    (c.unpacked.ensures ∙ ap (λ (ns : List ℕ). unpacked ns c.loop-number.rest.now) c.deref.ensures.value) c.width.ensures c.after-rest.ensures c.in_ok-push.ensures.items c.loop-number.invariant

pub returns : goal.returns
returns c =
    all_stand c.self.inside.count c.loop-number._number c.loop-number.rest.now c.loop-number.numbers.items _ c.loop-number-test.false c.loop-number.invariant
    ∙ ap (λ (bytes : List ℕ). all_unpacked c.self.inside.count [] bytes) c.as_slice-rest.ensures.value
    ∙ c.self.view_is
