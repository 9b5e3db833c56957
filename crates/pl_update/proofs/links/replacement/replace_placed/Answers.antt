use Rattle.pl_update.proofs.AboutLinks.Storing.{whole_now, can_place, kept_now}
use Rattle.pl_update.proofs.links.replacement.replace_placed.Goals as goal

pub place_all-requires-clause-can : goal.place_all-requires-clause-can
place_all-requires-clause-can c =
    can_place c.args.s.now c.replace.new.s c.args.gone.now c.args.placed.now c.requires.whole c.requires.can c.in_ok-replace.ensures.ok
    c.args.links.now c.take_all.new.links c.requires.kept c.in_ok-take_all.ensures.items

pub returns-clause-whole : goal.returns-clause-whole
returns-clause-whole c =
    whole_now c.args.s.now c.replace.new.s c.args.gone.now c.args.placed.now c.requires.whole c.requires.can c.in_ok-replace.ensures.ok
    c.args.links.now c.take_all.new.links c.requires.kept c.in_ok-take_all.ensures.items

pub returns-clause-kept : goal.returns-clause-kept
returns-clause-kept c =
    kept_now c.args.s.now c.replace.new.s c.args.gone.now c.args.placed.now c.requires.whole c.requires.can c.in_ok-replace.ensures.ok
    c.args.links.now c.take_all.new.links c.requires.kept c.in_ok-take_all.ensures.items
    c.place_all.new.links c.in_ok-place_all.ensures.items c.in_ok-place_all.ensures.model
