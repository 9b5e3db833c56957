-- The musts that need their states at a moment are found by their starts.
use Rattle.std.proofs.Common.{◌≡◌, ℕ, ◌-◌, ◌≤◌, Bool, true, false, cond, List, [], ◌∷◌, ◌++◌, refl, ap, sym, ◌∙◌, arith, inl, inr, leb, ltb}
use Rattle.std.specs.Prelude.{◌↔◌}
use Rattle.std.proofs.lemmas.Bool.{true≢false, and_parts, ltb-true}
use Rattle.pl_lists.specs.Lists.{front, back}
use Rattle.pl_state.specs.declared.bound.Bound.TheVariants.{By}
use Rattle.pl_state.specs.declared.reservation.Must.{Must}
use Rattle.pl_state.specs.declared.reservation.Started.{Started}
use Rattle.pl_state.specs.Keys.{key_of, is_before, Has}
use Rattle.pl_state.specs.Musts.{holds_at}
use Rattle.pl_state.specs.Rows.{is_covered}
use Rattle.pl_state.specs.Starts.{started, start_key, holding_at, IsIndex}
use Rattle.pl_state.proofs.Indexing.{has_behind, has_ahead, not_before_moment}
use Rattle.pl_state.proofs.InRows.{parted_covered}
use Rattle.pl_state.proofs.Parts.{sorted_back}

-- what stands in a part stands in the whole
has_front : {T : Type 0} (p : T → Bool) (x : T) (xs : List T) → Has x (front p xs) → Has x xs
has_front p x [] has = has
has_front p x (y ∷ ys) has = cases (p y) has (has_front p x ys)
  where
    cases : (b : Bool) → Has x (cond b (y ∷ front p ys) []) → (Has x (front p ys) → Has x ys) → Has x (y ∷ ys)
    cases true h more = elim h [
      | inl f ↦ inl f
      | inr g ↦ inr (more g)
    ]
    cases false h more = absurd h

has_back : {T : Type 0} (p : T → Bool) (x : T) (xs : List T) → Has x (back p xs) → Has x xs
has_back p x [] has = has
has_back p x (y ∷ ys) has = cases (p y) has (has_back p x ys)
  where
    cases : (b : Bool) → Has x (cond b (back p ys) (y ∷ ys)) → (Has x (back p ys) → Has x ys) → Has x (y ∷ ys)
    cases true h more = inr (more h)
    cases false h more = h

-- each that holds is listed, and no other
each_listed : (t : ℕ) (m : Must) (xs : List Started) → holds_at t m ≡ true → Has (started m) xs → Has m (holding_at t xs)
each_listed t m [] e has = absurd has
each_listed t m (x ∷ xs) e has = elim has [
  | inl f ↦ first (holds_at t x.must) (ap (λ (s : Started). holds_at t s.must) f ∙ e) f
  | inr g ↦ later (holds_at t x.must) (each_listed t m xs e g)
]
  where
    first : (b : Bool) → b ≡ true → x ≡ started m → Has m (cond b (x.must ∷ []) [] ++ holding_at t xs)
    first true e f = inl (ap (λ (s : Started). s.must) f)
    first false e f = absurd (true≢false (sym e))

    later : (b : Bool) → Has m (holding_at t xs) → Has m (cond b (x.must ∷ []) [] ++ holding_at t xs)
    later true h = inr h
    later false h = h

only_listed : (t : ℕ) (m : Must) (xs : List Started) → Has m (holding_at t xs) → Has (started m) xs × (holds_at t m ≡ true)
only_listed t m [] has = absurd has
only_listed t m (x ∷ xs) has = cases (holds_at t x.must) refl has (only_listed t m xs)
  where
    behind : Has (started m) xs × (holds_at t m ≡ true) → Has (started m) (x ∷ xs) × (holds_at t m ≡ true)
    behind h = (inr h.0, h.1)

    cases : (b : Bool) → holds_at t x.must ≡ b → Has m (cond b (x.must ∷ []) [] ++ holding_at t xs) → (Has m (holding_at t xs) → Has (started m) xs × (holds_at t m ≡ true)) → Has (started m) (x ∷ xs) × (holds_at t m ≡ true)
    cases true e h more = elim h [
      | inl f ↦ (inl (ap started f), sym (ap (holds_at t) f) ∙ e)
      | inr g ↦ behind (more g)
    ]
    cases false e h more = behind (more h)

-- none that holds starts later, or so early that the longest one would have ended
found_only : (t n : ℕ) (xs : List Started) (m : Must) → Has m (holding_at t (front (is_covered start_key (By t)) (back (is_before start_key (key_of (t - n) 0 0)) xs))) → Has (started m) xs × (holds_at t m ≡ true)
found_only t n xs m has =
    let rest : List Started = back (is_before start_key (key_of (t - n) 0 0)) xs in
    let listed = only_listed t m (front (is_covered start_key (By t)) rest) has in
    (has_back (is_before start_key (key_of (t - n) 0 0)) (started m) xs (has_front (is_covered start_key (By t)) (started m) rest listed.0), listed.1)

found_each : (t n : ℕ) (xs : List Started) (m : Must) → IsIndex n xs → Has (started m) xs → holds_at t m ≡ true → Has m (holding_at t (front (is_covered start_key (By t)) (back (is_before start_key (key_of (t - n) 0 0)) xs)))
found_each t n xs m index has e =
    let rest : List Started = back (is_before start_key (key_of (t - n) 0 0)) xs in
    let parts = and_parts (leb m.from t) (ltb t m.to) e in
    let low : t - n ≤ m.from = omega (arith, index.short (started m) has, ltb-true t m.to parts.1) in
    each_listed t m (front (is_covered start_key (By t)) rest) e
    (has_ahead (is_covered start_key (By t)) (started m) rest (parted_covered start_key (By t) rest (sorted_back start_key (is_before start_key (key_of (t - n) 0 0)) xs index.sorted)) parts.0
    (has_behind (is_before start_key (key_of (t - n) 0 0)) (started m) xs (not_before_moment (started m) (t - n) low) has))

pub found_here : (t n : ℕ) (xs : List Started) (m : Must) → IsIndex n xs
    → Has m (holding_at t (front (is_covered start_key (By t)) (back (is_before start_key (key_of (t - n) 0 0)) xs))) ↔ (Has (started m) xs × (holds_at t m ≡ true))
found_here t n xs m index = (found_only t n xs m, λ both. found_each t n xs m index both.0 both.1)
