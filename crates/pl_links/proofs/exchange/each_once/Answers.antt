use Rattle.std.proofs.Common.{sym, ap, ◌∙◌}
use Rattle.std.specs.BTreeMap.{is_at}
use Rattle.std.proofs.lemmas.List.Filters.{dedup_is}
use Rattle.std.proofs.lemmas.List.Sorted.{list_any-IsPermutation}
use Rattle.pl_links.specs.Sets.{broken_cmp, has}
use Rattle.pl_links.specs.contracts.broken.BrokenOrd.TheImpl.Laws.{matches_eq-law}
use Rattle.pl_links.proofs.Marks.{has_once, once_sorted}
use Rattle.pl_links.proofs.exchange.each_once.Goals as goal

pub returns-clause-members : goal.returns-clause-members
returns-clause-members c = λ b.
    ap (has b) (dedup_is _ _ _ c.dedup.ensures.filtered)
    ∙ has_once _ matches_eq-law b c.sort_unstable.new.self.items
    ∙ sym (list_any-IsPermutation (is_at (broken_cmp b)) c.args.all.items c.sort_unstable.new.self.items c.sort_unstable.ensures.permutation)

pub returns-clause-ordered : goal.returns-clause-ordered
returns-clause-ordered c = let is = dedup_is _ _ _ c.dedup.ensures.filtered in rw is (once_sorted _ matches_eq-law _ c.sort_unstable.ensures.sorted)
