use Rattle.std.proofs.Common.{arith}
use Rattle.pl_log.proofs.Packs.{pack_unpacked, all_packs_unpacked}
use Rattle.pl_log.proofs.log.unpack_all.Goals as goal

pub loop-pack-preserved : goal.loop-pack-preserved
loop-pack-preserved c = record {
  gives = pack_unpacked c.args.packs.now c.loop-pack.pack-index c.loop-pack.left_out c.pack-item.result c.loop-pack.into _ _ c.loop-pack-test.true c.pack-item.is c.requires.full c.loop-pack.invariant.inside c.in_ok-unpack.ensures c.loop-pack.invariant.gives;
  inside = omega arith;
}

pub returns : goal.returns
returns c = all_packs_unpacked c.args.packs.now c.loop-pack.pack-index c.loop-pack.left_out c.loop-pack.into _ c.loop-pack-test.false c.loop-pack.invariant.gives
