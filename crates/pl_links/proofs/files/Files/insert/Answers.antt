use Rattle.std.proofs.Common.{◌≡◌, subst}
use Rattle.std.specs.Prelude.{◌||◌}
use Rattle.pl_model.specs.declared.reservations.Point.TheVariants.{Start}
use Rattle.pl_links.specs.declared.keys.Key.{Key}
use Rattle.pl_links.specs.Items.{with_item}
use Rattle.pl_links.specs.Filed.{point_place}
use Rattle.pl_links.specs.Keys.{has_key, is_key_of, IsIndexOf}
use Rattle.pl_links.proofs.Filed.{index_with}
use Rattle.pl_links.proofs.files.Files.insert.Goals as goal

pub returns-in-Ok-clause-ok : goal.returns-in-Ok-clause-ok
returns-in-Ok-clause-ok c = λ items files absent.
    let p = c.args.item.now in
    let starts : IsIndexOf (point_place c.args.self.now.asked Start) (with_item p items) c.insert.new.self =
    index_with (point_place c.args.self.now.asked Start) items p c.args.self.now.starts c.insert.new.self
    (subst (λ q. (k : Key) → has_key k c.insert.new.self ≡ (has_key k c.args.self.now.starts || is_key_of q p.id k)) c.point_place-place.ensures c.in_ok-insert.ensures.ok)
    absent files.starts in
    record {
      starts = rw (c.in-Ok.ensures.starts, c.in-Ok.ensures.asked) starts;
      ends = rw c.in-Ok.ensures.asked (c.in-Ok.ensures.ends items files.ends absent);
      children = c.in-Ok.ensures.children items files.children absent;
    }
