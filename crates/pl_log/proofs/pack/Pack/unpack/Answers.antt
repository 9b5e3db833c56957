use Rattle.std.proofs.Common.{◌≡◌, ◌+◌, ◌-◌, ◌++◌, ◌∙◌, refl, ap, ℕ, List, [], ◌∷◌, drop, get_or, arith}
use Rattle.pl_entry.specs.declared.entry.Entry.{Entry}
use Rattle.pl_log.specs.declared.form.Form.{Form}
use Rattle.pl_log.specs.declared.form.Form.TheVariants.{Whole}
use Rattle.pl_log.specs.Unpacking.{entry_in, entries_in}
use Rattle.pl_log.proofs.Entries.{next_entry, entry_left_out, entry_added}
use Rattle.pl_log.proofs.pack.Pack.unpack.Goals as goal
use Rattle.pl_log.proofs.pack.Pack.unpack.Goals.{then-from-place+in_ok-entry+in_ok-push, else-from-place}

pub loop-place-init : goal.loop-place-init
loop-place-init c =
    let all : List Entry = entries_in c.deref-form-items.result.now c.deref.result.now c.deref-2.result.now c.deref-3.result.now c.deref-4.result.now in
    let whole : c.args.from - 0 ≡ c.args.from = omega arith in
    ap (λ (n : ℕ). c.args.into.now ++ drop n all) whole

pub loop-place-preserved : goal.loop-place-preserved
loop-place-preserved c =
    let fs = c.deref-form-items.result.now in
    let i = c.loop-place.place in
    let left = c.loop-place.rest in
    let next = c.behind-rest.result in
    let f : Form = get_or fs i Whole in
    let e : Entry = entry_in f left.numbers.now left.bytes.now left.values.now left.whole.now in
    let more : List Entry = entries_in (drop (i + 1) fs) next.numbers.now next.bytes.now next.values.now next.whole.now in
    let is : entries_in (drop i fs) left.numbers.now left.bytes.now left.values.now left.whole.now ≡ e ∷ more =
    next_entry fs i Whole f left.numbers.now left.bytes.now left.values.now left.whole.now next.numbers.now next.bytes.now next.values.now next.whole.now c.loop-place-test.true refl
    (record { numbers = c.behind-rest.ensures.numbers; bytes = c.behind-rest.ensures.bytes; values = c.behind-rest.ensures.values; whole = c.behind-rest.ensures.whole }) in
    elim c.if-from-place.branch [
      | then-from-place+in_ok-entry+in_ok-push w ↦
          let adds : c.if-from-place.into ≡ c.loop-place.into ++ e ∷ [] = w.into-is ∙ w.in_ok-push.ensures.ok ∙ ap (λ (x : Entry). c.loop-place.into ++ x ∷ []) w.in_ok-entry.ensures in
          entry_added c.args.from i e _ more c.loop-place.into c.if-from-place.into _ w.if-from-place.true is adds c.loop-place.invariant
      | else-from-place w ↦
          ap (λ (es : List Entry). es ++ drop (c.args.from - (i + 1)) more) w.into-is ∙ entry_left_out c.args.from i e _ more c.loop-place.into _ w.if-from-place.false is c.loop-place.invariant
    ]
