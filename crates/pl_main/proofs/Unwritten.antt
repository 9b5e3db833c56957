-- The lines of a log of which none was written.
use Rattle.std.proofs.Common.{ℕ, ◌+◌, ◌<◌, ◌≤◌, List, [], ◌∷◌, length, drop, Option, Some, None, sym, ap, subst, length-append, length-drop, arith}
use Rattle.std.proofs.lemmas.List.{append-nil, drop_all}
use Rattle.pl_io.specs.Writes.{AppendsFront}
use Rattle.pl_model.specs.declared.whole.Model.{Model}
use Rattle.pl_entry.specs.declared.entry.Entry.{Entry}
use Rattle.pl_journal.specs.Rendering.Lines.{line_of, text_from}
use Rattle.pl_journal.specs.Written.{Adds}
use Rattle.pl_journal.proofs.AboutWriting.{some_held, front_line}

text_some : (m : Model) (n : ℕ) (entries : List Entry) → 0 < length entries → 0 < length (text_from m n entries)
text_some m n [] some = absurd (omega (arith, some))
text_some m n (e ∷ es) some =
    let line = front_line (Some []) m n e in omega (arith, line.1, length-append (line_of m n e) (text_from m (n + 1) es))

-- memory was wanting before the first line
pub log_unwritten : (held : Option (List ℕ)) (m : Model) (from : ℕ) (log : List Entry) → from < length log → AppendsFront held held (text_from m from (drop from log))
log_unwritten None m from log more = tt
log_unwritten (Some before) m from log more =
    (0, text_some m from (drop from log) (omega (arith, length-drop from log, more)), ap Some (sym (append-nil before)))

-- no entry is left to be written
pub log_ended : (held : Option (List ℕ)) (m : Model) (from : ℕ) (log : List Entry) → length log ≤ from → Adds held held (text_from m from (drop from log))
log_ended held m from log none = subst (λ (es : List Entry). Adds held held (text_from m from es)) (sym (drop_all from log none)) (some_held held)
