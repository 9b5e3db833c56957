use Rattle.std.proofs.Common.{◌≡◌, ◌++◌, map, append_assoc, refl, ◌∙◌}
use Rattle.std.specs.List.{flat_map}
use Rattle.pl_plan.specs.Trees.{id_of}
use Rattle.pl_semantics.specs.Starts.{help_until, helpers}
use Rattle.pl_semantics.specs.LineRepairs.{first_eight, lowers, raises_below}
use Rattle.pl_cand.specs.ById.{moves_of_id}
use Rattle.pl_cand.proofs.Playing.{moves_by_ids}
use Rattle.pl_cand.proofs.timelines.for_high.Goals as goal

pub returns : goal.returns
returns c =
    let s = c.args.state.now in
    let ids : c.in_ok-users.users.items ≡ map id_of (first_eight s (raises_below s c.args.timeline c.args.b)) = c.in_ok-users.ensures in
    let slice : c.as_slice.result.now ≡ c.in_ok-users.users.items = c.as_slice.ensures.value in
    let last : c.add_all_moves.new.out.items ≡ c.add_help.new.out.items ++ flat_map (moves_of_id s) c.as_slice.result.now = c.in_ok-add_all_moves.ensures in
    let first : c.add_help.new.out.items ≡ c.args.out.now.items ++ help_until s (helpers s (lowers c.args.timeline)) c.args.a = c.in_ok-add_help.ensures in
    last ∙ rw (slice, ids, moves_by_ids s c.requires (raises_below s c.args.timeline c.args.b), first, append_assoc) refl
