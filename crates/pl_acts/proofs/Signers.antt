-- The author of each item, found by its place.
use Rattle.std.proofs.Common.{◌≡◌, ℕ, zero, suc, ◌+◌, ◌-◌, ◌<◌, List, [], ◌∷◌, ◌++◌, true, false, Option, Some, None, slice_get, refl, ap, arith}
use Rattle.pl_marks.specs.declared.author.Author.{Author}
use Rattle.pl_marks.specs.Marks.{marks_of, mark_of}
use Rattle.pl_marks.proofs.Numbering.{marked}
use Rattle.pl_model.specs.declared.whole.Model.{Model}
use Rattle.pl_entry.specs.declared.entry.Entry.{Entry}
use Rattle.pl_acts.specs.declared.noted.Noted.TheVariants.{Opened, Made}
use Rattle.pl_acts.specs.Items.{Signs, made_items, stop_items, items_of}

no_signer : (t : Option Author) (p : ℕ) (a : Author) (e : Entry) → slice_get (stop_items t) p ≡ Some (Made (Some a) e) → true ≡ false
no_signer (Some b) zero a e at = absurd (cc)
no_signer (Some b) (suc p) a e at = absurd (cc)
no_signer None p a e at = absurd (cc)

-- so many places behind these that were handed in
abbrev pub IsSigned : ℕ → List Author → ℕ → Author → Type 0
IsSigned handed authors p a = (q : ℕ) × (p ≡ handed + q) × (slice_get authors q ≡ Some a)

none_signed : (x e : Entry) (a : Author) → Some (Made None x) ≡ Some (Made (Some a) e) → true ≡ false
none_signed x e a at = (let h : Some (Made None x) ≡ Some (Made (Some a) e) = at in absurd (cc))

made_signed : (k : ℕ) (authors : List Author) (es : List Entry) (t : Option Author) (p : ℕ) (a : Author) (e : Entry) → slice_get (made_items k authors es ++ stop_items t) p ≡ Some (Made (Some a) e) → IsSigned k authors p a
made_signed (suc k) authors [] t p a e at = absurd (let h = no_signer t p a e at in cc)
made_signed (suc k) authors (x ∷ es) t zero a e at = absurd (let h = none_signed x e a at in cc)
made_signed (suc k) authors (x ∷ es) t (suc p) a e at = (let rest = made_signed k authors es t p a e at in let place = rest.1 in (rest.0, omega (arith, place), rest.2))
made_signed zero [] [] t p a e at = absurd (let h = no_signer t p a e at in cc)
made_signed zero [] (x ∷ es) t zero a e at = absurd (let h = none_signed x e a at in cc)
made_signed zero [] (x ∷ es) t (suc p) a e at = (let rest = made_signed zero [] es t p a e at in absurd (let h : slice_get [] rest.0 ≡ Some a = rest.2 in cc))
made_signed zero (b ∷ authors) [] t p a e at = absurd (let h = no_signer t p a e at in cc)
made_signed zero (b ∷ authors) (x ∷ es) t zero a e at = (let same : b ≡ a = (let h : Some (Made (Some b) x) ≡ Some (Made (Some a) e) = at in cc) in (zero, refl, ap (λ (c : Author). Some c) same))
made_signed zero (b ∷ authors) (x ∷ es) t (suc p) a e at = (let rest = made_signed zero authors es t p a e at in let place = rest.1 in (suc rest.0, omega (arith, place), rest.2))

items_signed_at : (m : Model) (log : List Entry) (s : Signs) (p : ℕ) (a : Author) (e : Entry) → 0 < s.by.opening → slice_get (items_of m log s) p ≡ Some (Made (Some a) e) → IsSigned s.by.opening s.by.authors p a
unfolding items_of
items_signed_at m [] s p a e some at = absurd (let h = no_signer s.stopper p a e at in cc)
items_signed_at m (first ∷ es) s zero a e some at = absurd (let h : Some (Opened m s.by.opening first) ≡ Some (Made (Some a) e) = at in cc)
items_signed_at m (first ∷ es) s (suc p) a e some at =
    let rest = made_signed (s.by.opening - 1) s.by.authors es s.stopper p a e at in
    let place = rest.1 in (rest.0, omega (arith, place, some), rest.2)

-- an entry that an author made has the author's mark
pub items_marked : (m : Model) (log : List Entry) (s : Signs) (p : ℕ) (a : Author) (e : Entry) → 0 < s.by.opening → slice_get (items_of m log s) p ≡ Some (Made (Some a) e)
    → (q : ℕ) × (p ≡ s.by.opening + q) × (slice_get (marks_of s.by) q ≡ Some (mark_of s.by q a))
items_marked m log s p a e some at = (let here = items_signed_at m log s p a e some at in (here.0, here.1, marked s.by here.0 a here.2))
