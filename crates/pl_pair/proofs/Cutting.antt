-- A journal that is cut short.
use Rattle.std.proofs.Common.{◌≡◌, ℕ, ◌+◌, ◌≤◌, ◌<◌, List, [], ◌++◌, length, Option, Some, None, refl, sym, ◌∙◌, ap, subst, arith, append_assoc, length-append}
use Rattle.std.proofs.lemmas.List.{take-append-le}
use Rattle.std.proofs.lemmas.List.Elements.{filter_map-append}
use mathlib.Core.List.{IsPrefix}
use Rattle.pl_io.specs.Writes.{AppendsFront}
use Rattle.pl_model.specs.declared.whole.Model.{Model}
use Rattle.pl_entry.specs.declared.entry.Entry.{Entry}
use Rattle.pl_machine.specs.Finished.{inputs_of}
use Rattle.pl_journal.specs.Rendering.Lines.{text_from, text_of_log}
use Rattle.pl_journal.proofs.AboutRendering.Texts.{text_joined}
use Rattle.pl_driver.specs.CutShort.{opens, IsCutShort}
use Rattle.pl_journal.specs.Written.{Adds}
use Rattle.pl_journal.proofs.AboutWriting.{some_held, appends_then}
use Rattle.pl_acts.specs.declared.noted.Noted.{Noted}
use Rattle.pl_acts.specs.Items.{entry_in, entries_in}
use Rattle.pl_pair.specs.Rounds.{lines_behind}
use Rattle.pl_pair.specs.Runs.{IsWrittenInPart, in_last_round, in_first_round}
use Rattle.pl_pair.proofs.Feeding.{entries_on, lines_rest}

-- a front that isn't all is one of what is longer
torn_more : (held now : Option (List ℕ)) (xs ys : List ℕ) → AppendsFront held now xs → AppendsFront held now (xs ++ ys)
torn_more None now xs ys torn = tt
torn_more (Some before) now xs ys torn =
    let long = length-append xs ys in
    let fits : torn.0 ≤ length xs = (let less = torn.1 in omega arith) in
    (torn.0, (let less = torn.1 in omega arith), torn.2 ∙ ap (λ (w : List ℕ). Some (before ++ w)) (sym (take-append-le torn.0 xs ys fits)))

-- a history goes on twice
abbrev pub twice_on : (front seen whole : List Noted) → IsPrefix front seen → IsPrefix seen whole → List Noted
twice_on front seen whole on onto = on.0 ++ onto.0

module _ (m : Model) (front seen whole : List Noted) (on : IsPrefix front seen) (onto : IsPrefix seen whole) (next : ℕ) (count : next ≡ length (entries_in front)) where
  pub twice_is : front ++ twice_on front seen whole on onto ≡ whole
  twice_is = sym (append_assoc front on.0 onto.0) ∙ ap (λ (xs : List Noted). xs ++ onto.0) on.1 ∙ onto.1

  rest_is : entries_in (twice_on front seen whole on onto) ≡ entries_in on.0 ++ entries_in onto.0
  rest_is = filter_map-append entry_in on.0 onto.0

  pub rest_some : next < length (entries_in seen) → 0 < length (entries_in (twice_on front seen whole on onto))
  rest_some less =
      let long = ap (λ (es : List Entry). length es) (entries_on front seen on) ∙ length-append (entries_in front) (entries_in on.0) in
      let rest = ap (λ (es : List Entry). length es) rest_is ∙ length-append (entries_in on.0) (entries_in onto.0) in
      omega (arith, long, rest, count, less)

  -- of all lines behind the front too a front was written, and not all of them
  pub rest_torn : (so_far now : Option (List ℕ)) → AppendsFront so_far now (lines_behind m next seen) → AppendsFront so_far now (text_from m (length (entries_in front)) (entries_in (twice_on front seen whole on onto)))
  rest_torn so_far now torn =
      let n = 0 + length (entries_in front) in
      let P : List ℕ → Type 0 = λ t. AppendsFront so_far now t in
      let Q : List Entry → Type 0 = λ es. AppendsFront so_far now (text_from m n es) in
      let R : ℕ → Type 0 = λ k. AppendsFront so_far now (text_from m k (entries_in (twice_on front seen whole on onto))) in
      let part : AppendsFront so_far now (text_from m n (entries_in on.0)) = subst P (lines_rest m front seen next on count) torn in
      let more = text_from m (n + length (entries_in on.0)) (entries_in onto.0) in
      let longer : AppendsFront so_far now (text_from m n (entries_in on.0 ++ entries_in onto.0)) = subst P (sym (text_joined m n (entries_in on.0) (entries_in onto.0))) (torn_more so_far now (text_from m n (entries_in on.0)) more part) in
      let same : n ≡ length (entries_in front) = omega arith in
      subst R same (subst Q (sym rest_is) longer)

-- so of the whole text
pub whole_torn : (m : Model) (held so_far now : Option (List ℕ)) (log earlier last : List Entry) → log ≡ earlier ++ last → Adds held so_far (text_of_log m earlier) → AppendsFront so_far now (text_from m (length earlier) last) → AppendsFront held now (text_of_log m log)
whole_torn m held so_far now log earlier last parts adds torn =
    let P : List Entry → Type 0 = λ es. AppendsFront held now (text_from m 0 es) in
    let Q : List ℕ → Type 0 = λ t. AppendsFront held now t in
    let R : ℕ → Type 0 = λ k. AppendsFront held now (text_from m 0 earlier ++ text_from m k last) in
    let same : length earlier ≡ 0 + length earlier = omega arith in
    subst P (sym parts) (subst Q (sym (text_joined m 0 earlier last)) (subst R same (appends_then held so_far now (text_from m 0 earlier) (text_from m (length earlier) last) adds torn)))

-- Where the log that was handed in had no message, one that was written in part was cut short.
pub cut_short : (m : Model) (log entries : List Entry) (held now : Option (List ℕ)) → inputs_of entries ≡ inputs_of log → IsWrittenInPart m log entries held now → IsCutShort m log held now
cut_short m log entries held now same (in_last_round cut) = cut
cut_short m log entries held now same (in_first_round none front) = record {
  earlier = [];
  last = log;
  parts = refl;
  round = opens refl (sym same ∙ none);
  written = held;
  whole = some_held held;
  part = front;
  front = front;
}
