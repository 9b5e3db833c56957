use Rattle.std.proofs.Common.{◌≡◌, ◌<◌, ◌+◌, ◌-◌, suc, false, length, drop, sym, ◌∙◌, subst, arith}
use Rattle.std.proofs.lemmas.List.{drop_all}
use Rattle.pl_points.proofs.Parting.{NonePass}
use Rattle.pl_state.specs.Rows.{is_covered, last_passes, together}
use Rattle.pl_state.proofs.InRows.{parted_covered, parted_rows, none_from, passing_from, none_back}
use Rattle.pl_state.proofs.rows.covered_count.Goals as goal

pub loop-passed-init : goal.loop-passed-init
loop-passed-init g c = subst (NonePass (last_passes (is_covered g.T.Keyed.key c.args.bound))) (sym (drop_all (length c.args.rows.now - 0) c.args.rows.now (omega arith))) tt

pub loop-passed-preserved : goal.loop-passed-preserved
loop-passed-preserved g c =
    let p = last_passes (is_covered g.T.Keyed.key c.args.bound) in
    let rs = c.args.rows.now in
    let x = c.index-rows-row.result in
    let passed = c.loop-passed.passed in
    let some : passed < length rs = c.loop-passed-test.true in
    let up : length rs - passed ≡ suc (length rs - passed - 1) = omega (arith, some) in
    let next : length rs - passed - 1 ≡ length rs - (passed + 1) = omega arith in
    let fails : p x ≡ false = sym c.is_covered.ensures ∙ c.if-is_covered.false in
    let none : NonePass p (drop (suc (length rs - passed - 1)) rs) = subst (λ n. NonePass p (drop n rs)) up c.loop-passed.invariant in
    subst (λ n. NonePass p (drop n rs)) next (none_from p rs x (length rs - passed - 1) (omega (arith, some)) c.index-rows-row.is fails none)

pub returns-then-is_covered-clause-front : goal.returns-then-is_covered-clause-front
returns-then-is_covered-clause-front g c =
    let q = is_covered g.T.Keyed.key c.args.bound in
    let rs = c.args.rows.now in
    let parted = parted_rows q rs (parted_covered g.T.Keyed.key c.args.bound (together rs) c.requires.sorted) c.requires.filled in
    (passing_from (last_passes q) rs c.index-rows-row.result (length rs - c.loop-passed.passed) parted (omega (arith, c.loop-passed-test.true)) (omega arith) c.index-rows-row.is (sym c.is_covered.ensures ∙ c.if-is_covered.true) c.loop-passed.invariant).0

pub returns-then-is_covered-clause-rest : goal.returns-then-is_covered-clause-rest
returns-then-is_covered-clause-rest g c =
    let q = is_covered g.T.Keyed.key c.args.bound in
    let rs = c.args.rows.now in
    let parted = parted_rows q rs (parted_covered g.T.Keyed.key c.args.bound (together rs) c.requires.sorted) c.requires.filled in
    (passing_from (last_passes q) rs c.index-rows-row.result (length rs - c.loop-passed.passed) parted (omega (arith, c.loop-passed-test.true)) (omega arith) c.index-rows-row.is (sym c.is_covered.ensures ∙ c.if-is_covered.true) c.loop-passed.invariant).1

pub returns-clause-front : goal.returns-clause-front
returns-clause-front g c =
    let p = last_passes (is_covered g.T.Keyed.key c.args.bound) in
    let rs = c.args.rows.now in
    let none : length rs - c.loop-passed.passed ≡ 0 = omega (arith, c.loop-passed-test.false) in
    (none_back p rs (subst (λ n. NonePass p (drop n rs)) none c.loop-passed.invariant)).front

pub returns-clause-rest : goal.returns-clause-rest
returns-clause-rest g c =
    let p = last_passes (is_covered g.T.Keyed.key c.args.bound) in
    let rs = c.args.rows.now in
    let none : length rs - c.loop-passed.passed ≡ 0 = omega (arith, c.loop-passed-test.false) in
    (none_back p rs (subst (λ n. NonePass p (drop n rs)) none c.loop-passed.invariant)).rest
