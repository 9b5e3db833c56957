use Rattle.std.proofs.Common.{◌≡◌, ◌++◌, map, append_assoc, refl, ◌∙◌}
use Rattle.std.specs.List.{flat_map}
use Rattle.pl_plan.specs.Trees.{id_of}
use Rattle.pl_semantics.specs.LineRepairs.{first_eight, takes_in}
use Rattle.pl_cand.specs.ById.{around_id, moves_of_id}
use Rattle.pl_cand.proofs.Playing.{around_by_ids, moves_by_ids}
use Rattle.pl_cand.proofs.timelines.for_over.Goals as goal

pub returns : goal.returns
returns c =
    let s = c.args.state.now in
    let a = c.args.a in
    let b = c.args.b in
    let ids : c.in_ok-users.users.items ≡ map id_of (first_eight s (takes_in s c.args.timeline a b)) = c.in_ok-users.ensures in
    let first_slice : c.as_slice.result.now ≡ c.in_ok-users.users.items = c.as_slice.ensures.value in
    let slice : c.as_slice-2.result.now ≡ c.in_ok-users.users.items = c.as_slice-2.ensures.value in
    let last : c.add_all_moves.new.out.items ≡ c.add_all_around.new.out.items ++ flat_map (moves_of_id s) c.as_slice-2.result.now = c.in_ok-add_all_moves.ensures in
    let first : c.add_all_around.new.out.items ≡ c.args.out.now.items ++ flat_map (around_id s a b) c.as_slice.result.now = c.in_ok-add_all_around.ensures in
    last ∙ rw (slice, ids, moves_by_ids s c.requires (takes_in s c.args.timeline a b), first, first_slice, ids, around_by_ids s c.requires a b (takes_in s c.args.timeline a b), append_assoc) refl
