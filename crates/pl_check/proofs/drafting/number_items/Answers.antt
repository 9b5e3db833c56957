use Rattle.std.proofs.Common.{◌≡◌, ◌<◌, ◌++◌, ◌∷◌, [], length, count_by, get_or, Ok, sym, arith}
use Rattle.std.proofs.lemmas.List.Elements.{All-push}
use Rattle.pl_check.specs.Finding.{is_kind}
use Rattle.pl_check.specs.Numbering.{numbered_item, numbered_items}
use Rattle.pl_check.specs.Sound.{IsSoundDraft}
use Rattle.pl_check.proofs.KindLemmas.{kinds_step, each_step}
use Rattle.pl_check.proofs.drafting.number_items.Goals as goal

pub loop-item-preserved : goal.loop-item-preserved
loop-item-preserved c =
    let pushed : c.push.new.self ≡ c.loop-item.all ++ c.in_ok-number_item.field-0 ∷ [] = c.in_ok-push.ensures.ok in
    let lt : c.loop-item.item-index < length c.args.items.now = omega arith in
    let same : get_or c.args.items.now c.loop-item.item-index c.item-item.result ≡ c.item-item.result = sym c.item-item.is in
    let made : numbered_item c.args.items.now c.item-item.result ≡ Ok c.in_ok-number_item.field-0 = c.in_ok-number_item.ensures.gives in
    record {
      kinds = rw pushed (kinds_step c.args.items.now c.loop-item.item-index c.item-item.result c.loop-item.all c.in_ok-number_item.field-0 lt same c.loop-item.invariant.kinds c.in_ok-number_item.ensures.sort);
      sound = rw pushed (All-push (IsSoundDraft (count_by is_kind c.args.items.now)) c.loop-item.all c.in_ok-number_item.field-0 c.loop-item.invariant.sound c.in_ok-number_item.ensures.sound);
      rest = rw pushed (each_step (numbered_item c.args.items.now) c.args.items.now c.loop-item.item-index c.item-item.result c.loop-item.all c.in_ok-number_item.field-0 (numbered_items c.args.items.now) lt same made c.loop-item.invariant.rest);
    }
