use Rattle.std.proofs.Common.{◌≡◌, subst}
use Rattle.std.specs.Prelude.{◌&&◌, not}
use Rattle.pl_model.specs.declared.reservations.Point.TheVariants.{Start, End}
use Rattle.pl_links.specs.declared.keys.Key.{Key}
use Rattle.pl_links.specs.Filed.{point_place, parent_place}
use Rattle.pl_links.specs.Keys.{has_key, is_key_of}
use Rattle.pl_links.proofs.Filed.{index_without}
use Rattle.pl_links.proofs.files.Files.remove.Goals as goal

pub returns : goal.returns
returns c = λ items rising files placed.
    let p = c.args.item.now in
    record {
      starts = index_without (point_place c.args.self.now.asked Start) items p c.args.self.now.starts c.remove.new.self
          (subst (λ q. (k : Key) → has_key k c.remove.new.self ≡ (has_key k c.args.self.now.starts && not (is_key_of q p.id k))) c.point_place.ensures c.remove.ensures)
          rising placed files.starts;
      ends = index_without (point_place c.args.self.now.asked End) items p c.args.self.now.ends c.remove-2.new.self
          (subst (λ q. (k : Key) → has_key k c.remove-2.new.self ≡ (has_key k c.args.self.now.ends && not (is_key_of q p.id k))) c.point_place-2.ensures c.remove-2.ensures)
          rising placed files.ends;
      children = index_without parent_place items p c.args.self.now.children c.remove-3.new.self c.remove-3.ensures rising placed files.children;
    }
