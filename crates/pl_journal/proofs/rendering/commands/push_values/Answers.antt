use Rattle.std.proofs.Common.{◌≡◌, ◌++◌, List, ℕ, [], sym, ap, ◌∙◌}
use Rattle.std.proofs.lemmas.List.{append-nil}
use Rattle.std.proofs.lemmas.Slice.Zip.{either_empty_from_Zip}
use Rattle.std.specs.Slice.Iter.{iter_rest}
use Rattle.std.specs.Iterator.Adapters.{zip_first, zip_second}
use Rattle.pl_journal.specs.Rendering.Words.{spaced}
use Rattle.pl_journal.specs.Rendering.Lines.{values_words}
use Rattle.pl_journal.proofs.AboutRendering.Texts.{none_ahead}
use Rattle.pl_journal.proofs.rendering.commands.push_values.Goals as goal

pub returns : goal.returns
unfolding spaced
returns c =
    let none : values_words (iter_rest (zip_first c.loop-param.param-iterator)) (iter_rest (zip_second c.loop-param.param-iterator)) ≡ [] =
    none_ahead (iter_rest (zip_first c.loop-param.param-iterator)) (iter_rest (zip_second c.loop-param.param-iterator)) (either_empty_from_Zip c.loop-param.param-iterator c.next.new.self c.next.result c.in-None.is c.next.ensures.steps) in
    sym (append-nil c.loop-param.out.items) ∙ ap (λ (ws : List (List ℕ)). c.loop-param.out.items ++ spaced ws) (sym none) ∙ c.loop-param.invariant
