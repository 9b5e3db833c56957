-- What was read is the entry of the line, and no line of an entry is refused.
use Rattle.std.proofs.Common.{◌≡◌, ℕ, ◌-◌, ◌≤◌, ◌<◌, ◌^◌, Bool, true, List, [], ◌∷◌, ◌++◌, length, take, Ok, Err, sym, ap, ◌∙◌, subst, arith}
use Rattle.std.specs.Prelude.{IfOk, bytes_eq}
use Rattle.std.proofs.lemmas.List.{take_at, length-append}
use Rattle.pl_model.specs.declared.whole.Model.{Model}
use Rattle.pl_model.specs.Checked.{IsChecked}
use Rattle.pl_entry.specs.declared.entry.Entry.{Entry}
use Rattle.pl_journal.specs.Rendering.Lines.{text_of, line_of}
use Rattle.pl_journal.proofs.AboutRendering.Naming.{told_apart}
use Rattle.pl_journal.specs.declared.parsing.fault.EntryFault.{EntryFault}
use Rattle.pl_journal.specs.declared.parsing.fault.EntryFault.TheVariants as fault
use Rattle.pl_journal.specs.Parsing.Journal.{IsLineOf}
use Rattle.pl_journal.specs.Parsing.Reads.{Read, Fails, Gives}
use Rattle.pl_journal.specs.Parsing.Entries.{candidate_in, MayStand, Confirms}
use Rattle.pl_journal.proofs.AboutParsing.Telling.{text_itself, text_true}
use Rattle.pl_journal.proofs.AboutParsing.Back.{candidate_back}
use Rattle.pl_journal.proofs.AboutParsing.Bounded.{IsRead, candidate_fits, may_be_entry, entry_may}

-- without its last byte the line of an entry is its text
text_cut : (m : Model) (n : ℕ) (e : Entry) (whole front : List ℕ) (size : ℕ) → whole ≡ line_of m n e → size ≡ length whole → front ≡ take (size - 1) whole → front ≡ text_of m n e
unfolding line_of
text_cut m n e whole front size is counted cut =
    let text = text_of m n e in
    let many : size ≡ length (text ++ 10 ∷ []) = counted ∙ ap (λ (w : List ℕ). length w) is in
    let short : length text ≡ size - 1 = omega (arith, many, length-append text (10 ∷ [])) in
    cut ∙ ap (λ (w : List ℕ). take (size - 1) w) is ∙ take_at text (10 ∷ []) (size - 1) short

abbrev pub TellsText : List ℕ → List ℕ → Bool → Type 0
TellsText line text same = (same ≡ true → line ≡ text) × (line ≡ text → same ≡ true)

pub text_told : (m : Model) (n : ℕ) (e : Entry) (whole front line : List ℕ) (size : ℕ) → whole ≡ line_of m n e → size ≡ length whole → front ≡ take (size - 1) whole → TellsText line (text_of m n e) (bytes_eq front line)
text_told m n e whole front line size is counted cut =
    let own = text_cut m n e whole front size is counted cut in
    (λ same. sym (text_true front line same) ∙ own, λ same. ap (λ (w : List ℕ). bytes_eq w line) (own ∙ sym same) ∙ text_itself line)

line_back : (m : Model) (line : List ℕ) (n : ℕ) (e : Entry) → IsChecked m → IsLineOf m line n e → candidate_in m line ≡ Ok (n, e)
line_back m line n e checked h =
    ap (λ (x : List ℕ). candidate_in m x) h.text ∙ candidate_back m n e (told_apart m checked) h.small h.entry.event h.entry.reply

-- ---- where the line cannot be read from its front

pub unread : (m : Model) (line : List ℕ) (f : EntryFault) → IsChecked m → Fails f (candidate_in m line) → (n : ℕ) (e : Entry) → IsLineOf m line n e → Fails f (let whole : Read (ℕ × Entry) = Ok (n, e) in whole)
unread m line f checked fails n e h = subst (λ (r : Read (ℕ × Entry)). Fails f r) (line_back m line n e checked h) fails

-- ---- where it can

abbrev Meets : Model → List ℕ → Read (ℕ × Entry) → Type 0
Meets m line r = IfOk r (λ p. IsLineOf m line p.0 p.1) × ((n : ℕ) (e : Entry) → IsLineOf m line n e → Gives r (let whole : Read (ℕ × Entry) = Ok (n, e) in whole))

module _ (m : Model) (line : List ℕ) (number : ℕ) (entry : Entry) (checked : IsChecked m) (few : length m.kinds ≤ 2 ^ 32) (is : candidate_in m line ≡ Ok (number, entry)) where
  only : (n : ℕ) (e : Entry) → IsLineOf m line n e → (let one : ℕ × Entry = (number, entry) in one) ≡ (n, e)
  only n e h =
      let same : (let one : Read (ℕ × Entry) = Ok (number, entry) in one) ≡ Ok (n, e) = sym is ∙ line_back m line n e checked h in
      cc

  stands : MayStand number entry.event → line ≡ text_of m number entry → IsLineOf m line number entry
  stands may text =
      let fits = subst (λ (r : Read (ℕ × Entry)). IfOk r (λ p. (p.0 < 2 ^ 32) × IsRead m p.1)) is (candidate_fits m line few) in
      record { small = fits.0; entry = may_be_entry m number entry fits.1 may; text = text }

  pub reread : (r : Read (ℕ × Entry)) → Confirms m line number entry r → Meets m line r
  reread (Ok read) h =
      let there = stands h.1 h.2 in
      (subst (λ (p : ℕ × Entry). IsLineOf m line p.0 p.1) (sym h.0) there, λ n e line_is. let same = only n e line_is in let read_is = h.0 in cc)
  reread (Err fault.NotALine) h = (
    tt,
    λ n e line_is. let same = only n e line_is in
        absurd (h (subst (λ (p : ℕ × Entry). MayStand p.0 p.1.event) (sym same) (entry_may m n e line_is.entry)) (subst (λ (p : ℕ × Entry). line ≡ text_of m p.0 p.1) (sym same) line_is.text)),
  )
  reread (Err fault.Memory) h = (tt, λ n e line_is. tt)
