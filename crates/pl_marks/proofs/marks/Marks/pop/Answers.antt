use Rattle.std.proofs.Common.{◌≡◌, ℕ, ◌-◌, ◌++◌, ◌∷◌, [], List, arith, sym, ◌∙◌, ap, subst, slice_index_or, slice_set}
use Rattle.pl_marks.specs.declared.mark.Mark.{Mark}
use Rattle.pl_marks.specs.Marks.{Signed, signed_by, AreCounted}
use Rattle.pl_marks.proofs.Counting.{authors_in, last_counted, popped, others_are}
use Rattle.pl_marks.proofs.marks.Marks.pop.Goals as goal

pub overflow_sub-self : goal.overflow_sub-self
overflow_sub-self c =
    let was : c.self.inside.marks.items ≡ c.pop.new.self.items ++ c.in-Some.mark ∷ [] = c.in-Some.ensures.items in
    let kept = subst (λ (ms : List Mark). AreCounted c.self.inside.opening ms c.self.inside.counts) was c.self.invariant in
    let some = last_counted c.self.inside.opening c.pop.new.self.items c.in-Some.mark c.self.inside.counts kept in
    rw c.slot-slot.ensures.slot (omega (arith, some))

pub invariant_of-self : goal.invariant_of-self
invariant_of-self c =
    let was : c.self.inside.marks.items ≡ c.pop.new.self.items ++ c.in-Some.mark ∷ [] = c.in-Some.ensures.items in
    let kept = subst (λ (ms : List Mark). AreCounted c.self.inside.opening ms c.self.inside.counts) was c.self.invariant in
    let P : ℕ → Type 0 = λ k. AreCounted c.self.inside.opening c.pop.new.self.items (slice_set c.self.inside.counts k (slice_index_or c.self.inside.counts k 0 - 1)) in
    subst P (sym c.slot-slot.ensures.slot) (popped c.self.inside.opening c.pop.new.self.items c.in-Some.mark c.self.inside.counts kept)

pub returns-in-Some : goal.returns-in-Some
returns-in-Some c = λ authors author e.
    let was : c.self.inside.marks.items ≡ c.pop.new.self.items ++ c.in-Some.mark ∷ [] = c.in-Some.ensures.items in
    let kept = subst (λ (ms : List Mark). AreCounted c.self.inside.opening ms c.self.inside.counts) was c.self.invariant in
    let same : c.args.self.now ≡ signed_by c.self.inside.opening c.self.inside.marks.items = sym c.self.view_is in
    let were : authors_in (c.pop.new.self.items ++ c.in-Some.mark ∷ []) ≡ authors ++ author ∷ [] = ap authors_in (sym was) ∙ sym (ap (λ (s : Signed). s.authors) same) ∙ e in
    others_are c.self.inside.opening c.pop.new.self.items c.in-Some.mark c.self.inside.counts kept authors author were
    ∙ ap (λ (n : ℕ). record { opening = n; authors = authors }) (sym (ap (λ (s : Signed). s.opening) same))
