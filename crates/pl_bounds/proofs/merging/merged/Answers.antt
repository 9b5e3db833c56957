use Rattle.std.proofs.Common.{◌<◌, length, pos, inl, inr, arith}
use Rattle.std.specs.Prelude.{◌⊎◌}
use Rattle.pl_bounds.specs.declared.outside.Look.{Look}
use Rattle.pl_bounds.proofs.Looked.{looks_ahead, right_next}
use Rattle.pl_bounds.proofs.merging.merged.Goals as goal
use Rattle.pl_bounds.proofs.merging.merged.Goals.{then-i-one, else-i-one+then-j-more}

pub looks-preserved-then-is_first : goal.looks-preserved-then-is_first
looks-preserved-then-is_first c =
    let o = c.args.outside.now in
    let one = c.as_slice-one.result.now in
    let some : Look = record { at = 0; value = pos 0 } in
    let lt : c.looks.i < length one = c.is_first.ensures.here c.if-is_first.true in
    record {
      looks = c.in_ok-keep.ensures;
      here = (right_next c.args.board.now.state o.side o.line one c.looks.i some lt c.looks.invariant.here).1;
      there = c.looks.invariant.there;
    }

pub looks-preserved : goal.looks-preserved
looks-preserved c =
    let o = c.args.outside.now in
    let one = c.as_slice-one.result.now in
    let more = c.args.more.now in
    let some : Look = record { at = 0; value = pos 0 } in
    let left : (c.looks.i < length one) ⊎ (c.looks.j < length more) = elim c.if-i-one.branch [ then-i-one w ↦ inl (omega (arith, w.if-i-one.true)) | else-i-one+then-j-more w ↦ inr (omega (arith, w.if-j-more.true)) ] in
    let lt : c.looks.j < length more = c.is_first.ensures.there c.if-is_first.false left in
    record {
      looks = c.in_ok-keep-2.ensures;
      here = c.looks.invariant.here;
      there = (right_next c.args.board.now.state o.side o.line more c.looks.j some lt c.looks.invariant.there).1;
    }

pub returns : goal.returns
returns c = looks_ahead c.args.board.now.state c.args.outside.now.side c.args.outside.now.line _ _ c.looks.invariant.looks
