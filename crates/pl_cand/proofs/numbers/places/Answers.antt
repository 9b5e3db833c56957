use Rattle.std.proofs.Common.{◌≡◌, ◌∙◌}
use Rattle.std.proofs.lemmas.List.Elements.{All-same}
use Rattle.pl_semantics.specs.Starts.{places_of}
use Rattle.pl_semantics.specs.Whole.{IsWhole}
use Rattle.pl_cand.specs.Near.{IsSmall}
use Rattle.pl_cand.proofs.Small.{places_small}
use Rattle.pl_cand.proofs.numbers.places.Goals as goal

pub from_zero-requires : goal.from_zero-requires
from_zero-requires c =
    let s = c.state-state.result.now in
    let a = c.unwrap-a.result.now in
    let whole : IsWhole s = c.state-state.ensures.whole c.requires.unspoiled in
    let same : c.as_slice.result.now ≡ places_of s a = c.as_slice.ensures.value ∙ c.in_ok-starts.ensures in
    All-same IsSmall c.as_slice.result.now (places_of s a) same (places_small s whole a)
