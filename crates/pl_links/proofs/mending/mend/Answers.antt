use Rattle.std.proofs.Common.{◌≡◌, ◌∙◌, ap, sym, false, List, filter}
use Rattle.std.specs.Prelude.{◌&&◌, not}
use Rattle.std.specs.List.Sorted.{IsStrictlySortedBy}
use Rattle.std.proofs.lemmas.List.Kept.{IsStrictlySortedBy-filter}
use Rattle.pl_links.specs.declared.broken.Broken.{Broken}
use Rattle.pl_links.specs.Filed.{left}
use Rattle.pl_links.specs.Kept.{before}
use Rattle.pl_links.specs.Sets.{broken_cmp, has}
use Rattle.pl_links.specs.Standing.{stands}
use Rattle.pl_links.proofs.Exchanging.{came_tells, went_tells, mended, absent_came}
use Rattle.pl_links.proofs.Keeping.{either_way}
use Rattle.pl_links.proofs.mending.mend.Goals as goal

pub insert_all-requires-clause-absent : goal.insert_all-requires-clause-absent
insert_all-requires-clause-absent c =
    rw (c.as_slice-2.ensures.value, c.in_ok-changes.ensures.came)
    (absent_came (stands c.args.model.now (left c.args.gone c.args.store.now)) c.args.listed.now.keys c.as_slice.result.now)

pub returns-clause-ok : goal.returns-clause-ok
returns-clause-ok c = λ b.
    let model = c.args.model.now in
    let items = c.args.store.now in
    let id = c.args.item.now.id in
    let kept : has b c.as_slice.result.now ≡ false → stands model (before c.args.gone id items) b ≡ stands model (left c.args.gone items) b = λ off.
    either_way model c.args.gone id items b c.requires.gone (c.in_ok-near.ensures.away b (sym (ap (has b) c.as_slice.ensures.value) ∙ off)) in
    c.remove_all.ensures.members b
    ∙ rw (c.in_ok-insert_all.ensures.members b, c.as_slice-2.ensures.value, c.in_ok-changes.ensures.came, c.as_slice-3.ensures.value, c.in_ok-changes.ensures.went)
    (mended (stands model (before c.args.gone id items)) (stands model (left c.args.gone items)) c.args.listed.now.keys c.as_slice.result.now b (c.requires.listed b) kept)

pub returns-clause-changes : goal.returns-clause-changes
returns-clause-changes c =
    let model = c.args.model.now in
    let items = c.args.store.now in
    let id = c.args.item.now.id in
    let f = stands model (before c.args.gone id items) in
    let g = stands model (left c.args.gone items) in
    let kept : (b : Broken) → has b c.as_slice.result.now ≡ false → stands model (before c.args.gone id items) b ≡ stands model (left c.args.gone items) b = λ b off.
    either_way model c.args.gone id items b c.requires.gone (c.in_ok-near.ensures.away b (sym (ap (has b) c.as_slice.ensures.value) ∙ off)) in
    let near_once : IsStrictlySortedBy broken_cmp c.as_slice.result.now = rw c.as_slice.ensures.value c.in_ok-near.ensures.ordered in
    record {
      came = λ b. rw (c.in_ok-changes.ensures.came, returns-clause-ok c b)
          (came_tells f g c.args.listed.now.keys c.as_slice.result.now b (c.requires.listed b) (kept b));
      went = λ b. rw (c.in_ok-changes.ensures.went, returns-clause-ok c b)
          (went_tells f g c.args.listed.now.keys c.as_slice.result.now b (c.requires.listed b) (kept b));
      came_once = rw c.in_ok-changes.ensures.came
          (IsStrictlySortedBy-filter broken_cmp (λ (b : Broken). g b && not (has b c.args.listed.now.keys)) c.as_slice.result.now near_once);
      went_once = rw c.in_ok-changes.ensures.went
          (IsStrictlySortedBy-filter broken_cmp (λ (b : Broken). not (g b) && has b c.args.listed.now.keys) c.as_slice.result.now near_once);
    }
