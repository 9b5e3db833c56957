use Rattle.std.proofs.Common.{◌≡◌, ◌∙◌, ap, subst, ℕ, List, [], length, take, get_or, IfSome}
use Rattle.std.proofs.lemmas.List.{take_all}
use Rattle.pl_log.specs.Numbers.{earlier, all_unpacked}
use Rattle.pl_log.proofs.Bytes.{Tell, next_packed, all_back}
use Rattle.pl_log.proofs.numbers.Numbers.pack.Goals as goal

pub loop-place-preserved : goal.loop-place-preserved
loop-place-preserved c =
    let ns = c.args.numbers.now in
    let i = c.loop-place.place in
    let again = c.again-again.result in
    let same : IfSome again (λ back. earlier (take i ns) back ≡ get_or ns i 0) =
    subst (λ (l : List ℕ). IfSome again (λ back. earlier l back ≡ get_or ns i 0)) c.first_of.ensures c.again-again.ensures.same in
    next_packed ns i again c.loop-place.bytes.items _ c.loop-place-test.true c.again-again.ensures.near same c.in_ok-push_packed.ensures c.loop-place.invariant

pub returns : goal.returns
returns c =
    let ns = c.args.numbers.now in
    let bytes = c.loop-place.bytes.items in
    let all : take c.loop-place.place ns ≡ ns = take_all c.loop-place.place ns c.loop-place-test.false in
    let tell : Tell ns bytes = subst (λ (l : List ℕ). Tell l bytes) all c.loop-place.invariant in
    ap (λ (bs : List ℕ). all_unpacked (length ns) [] bs) (c.in_ok-from_slice.ensures.items ∙ c.deref.ensures.value) ∙ all_back ns bytes tell
