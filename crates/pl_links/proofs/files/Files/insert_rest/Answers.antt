use Rattle.std.proofs.Common.{◌≡◌, subst}
use Rattle.std.specs.Prelude.{◌||◌}
use Rattle.pl_model.specs.declared.reservations.Point.TheVariants.{End}
use Rattle.pl_links.specs.declared.keys.Key.{Key}
use Rattle.pl_links.specs.Filed.{point_place, parent_place}
use Rattle.pl_links.specs.Keys.{has_key, is_key_of}
use Rattle.pl_links.proofs.Filed.{index_with}
use Rattle.pl_links.proofs.files.Files.insert_rest.Goals as goal

pub returns-in-Ok-clause-ends : goal.returns-in-Ok-clause-ends
returns-in-Ok-clause-ends c = λ items index absent.
    let p = c.args.item.now in
    index_with (point_place c.args.self.now.asked End) items p c.args.self.now.ends c.insert.new.self
    (subst (λ q. (k : Key) → has_key k c.insert.new.self ≡ (has_key k c.args.self.now.ends || is_key_of q p.id k)) c.point_place-place.ensures c.in_ok-insert.ensures.ok)
    absent index

pub returns-in-Ok-clause-children : goal.returns-in-Ok-clause-children
returns-in-Ok-clause-children c = λ items index absent. index_with parent_place items c.args.item.now c.args.self.now.children c.insert-2.new.self c.in-Ok.ensures.ok absent index
