use Rattle.std.proofs.Common.{◌≡◌, Bool, Some, sym, arith}
use Rattle.std.proofs.Math.ListN.{length-set}
use Rattle.pl_check.specs.Cycles.{next_of}
use Rattle.pl_check.proofs.CycleLemmas.{mark_next}
use Rattle.pl_check.proofs.cycles.reached.Goals as goal

pub marking-preserved : goal.marking-preserved
marking-preserved c =
    let seen : c.as_slice.result.now ≡ c.marking.marks.items = c.as_slice.ensures.value in
    let next : next_of c.args.graph.now c.args.start c.marking.marks.items ≡ Some c.in-Some.next = sym (rw seen at c.in-Some.ensures) in
    record {
      each_vertex = omega (arith, length-set {A = Bool}, c.marking.invariant.each_vertex);
      marked = mark_next c.args.graph.now c.args.start c.marking.marks.items c.in-Some.next next c.marking.invariant.marked;
    }
