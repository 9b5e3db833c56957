-- The last set up to a moment governs the state there, and goes on doing so while none behind it comes and it stays.
use Rattle.std.proofs.Common.{◌≡◌, ℕ, ◌<◌, ◌≤◌, eqb, ltb, leb, Bool, true, false, ◌&&◌, cond, List, [], ◌∷◌, refl, sym, ap, ◌∙◌, subst, arith, inl, inr}
use Rattle.std.specs.Prelude.{◌||◌, ◌≢◌, ◌⊎◌}
use Rattle.std.proofs.lemmas.Bool.{and_parts, leb-true, leb-false, le-leb, ltb-true, lt-ltb, or_left}
use Rattle.pl_state.specs.declared.reservation.Setting.{Setting}
use Rattle.pl_state.specs.Keys.{key_of, key_before, AreSorted, Has}
use Rattle.pl_state.specs.Sorted.{NoneHas, AreDistinct}
use Rattle.pl_state.specs.Sets.{set_key, state_from}
use Rattle.pl_state.proofs.Keys.{behind_both, follows, before_itself, one_way}
use Rattle.pl_state.proofs.Sorting.{has_none}

-- whether a set counts up to a moment
abbrev pub counts : ℕ → ℕ → Setting → Bool
counts base t x = ltb base x.at && leb x.at t

-- it stands among them and counts, and none that counts stands behind it
pub record Governs (base t : ℕ) (x : Setting) (xs : List Setting) : Type 0 where
  pub there : Has x xs
  pub here : counts base t x ≡ true
  pub last : (z : Setting) → Has z xs → counts base t z ≡ true → key_before (set_key x) (set_key z) ≡ false

abbrev pub NoneCounts : ℕ → ℕ → List Setting → Type 0
NoneCounts base t xs = (z : Setting) → Has z xs → counts base t z ≡ true → ⊥

-- the set that governs, if there is one
pub record IsGoverned (base t v : ℕ) (xs : List Setting) (x : Setting) : Type 0 where
  pub governs : Governs base t x xs
  pub state : state_from base t v xs ≡ x.state

pub record IsFree (base t v : ℕ) (xs : List Setting) : Type 0 where
  pub none : NoneCounts base t xs
  pub state : state_from base t v xs ≡ v

abbrev pub Governed : ℕ → ℕ → ℕ → List Setting → Type 0
Governed base t v xs = ((x : Setting) × IsGoverned base t v xs x) ⊎ IsFree base t v xs

pub governed : (base t v : ℕ) (xs : List Setting) → AreSorted set_key xs → Governed base t v xs
governed base t v [] sorted = inr (record { none = λ z has e. absurd has; state = refl })
governed base t v (y ∷ ys) sorted = by (counts base t y) refl (governed base t (cond (counts base t y) y.state v) ys sorted.1)
  where
    behind : (x : Setting) → Has x ys → (z : Setting) → y ≡ z → key_before (set_key x) (set_key z) ≡ false
    behind x has z e = subst (λ (u : Setting). key_before (set_key x) (set_key u) ≡ false) e (has_none set_key (set_key y) x ys sorted.0 has)

    by : (b : Bool) → counts base t y ≡ b → Governed base t (cond (counts base t y) y.state v) ys → Governed base t v (y ∷ ys)
    by b e (inl (x, g)) = inl (
      x,
      record {
        governs = record {
          there = inr g.governs.there;
          here = g.governs.here;
          last = λ z has c. elim has [ inl f ↦ behind x g.governs.there z f | inr more ↦ g.governs.last z more c ];
        };
        state = g.state;
      },
    )
    by true e (inr free) = inl (
      y,
      record {
        governs = record {
          there = inl refl;
          here = e;
          last = λ z has c. elim has [ inl f ↦ subst (λ (u : Setting). key_before (set_key y) (set_key u) ≡ false) f (before_itself (set_key y)) | inr more ↦ absurd (free.none z more c) ];
        };
        state = free.state ∙ ap (λ (b : Bool). cond b y.state v) e;
      },
    )
    by false e (inr free) = inr (record {
      none = λ z has c. elim has [ inl f ↦ absurd (let bad : true ≡ false = sym c ∙ (ap (counts base t) (sym f) ∙ e) in cc) | inr more ↦ free.none z more c ];
      state = free.state ∙ ap (λ (b : Bool). cond b y.state v) e;
    })

-- ---- two that govern are one

pub none_has : (k : Setting) (x : Setting) (xs : List Setting) → NoneHas set_key (set_key k) xs → Has x xs → set_key x ≡ set_key k → ⊥
none_has k x [] none has e = absurd has
none_has k x (y ∷ ys) none has e = elim has [ inl f ↦ none.0 (ap set_key f ∙ e) | inr more ↦ none_has k x ys none.1 more e ]

pub one_key : (x z : Setting) (xs : List Setting) → AreDistinct set_key xs → Has x xs → Has z xs → set_key x ≡ set_key z → x ≡ z
one_key x z [] distinct one two e = absurd one
one_key x z (y ∷ ys) distinct one two e = elim one [
  | inl f ↦ elim two [ inl g ↦ sym f ∙ g | inr more ↦ absurd (none_has y z ys distinct.0 more (sym e ∙ ap set_key (sym f))) ]
  | inr less ↦ elim two [ inl g ↦ absurd (none_has y x ys distinct.0 less (e ∙ ap set_key (sym g))) | inr more ↦ one_key x z ys distinct.1 less more e ]
]

pub same_key : (x z : Setting) → key_before (set_key x) (set_key z) ≡ false → key_before (set_key z) (set_key x) ≡ false → set_key x ≡ set_key z
same_key x z one two =
    let p = follows (set_key x) (set_key z) one in
    let q = follows (set_key z) (set_key x) two in
    let at : x.at ≡ z.at = omega (arith, p.0, q.0) in
    let p' = p.1 at in
    let q' = q.1 (sym at) in
    let id : x.id ≡ z.id = omega (arith, p'.0, q'.0) in
    let p'' = p'.1 id in
    let q'' = q'.1 (sym id) in
    let index : x.index ≡ z.index = omega (arith, p'', q'') in
    ap (λ (n : ℕ). key_of n x.id x.index) at ∙ (ap (λ (n : ℕ). key_of z.at n x.index) id ∙ ap (λ (n : ℕ). key_of z.at z.id n) index)

module _ (base t v : ℕ) (xs : List Setting) (sorted : AreSorted set_key xs) (distinct : AreDistinct set_key xs) where
  pub state_governed : (x : Setting) → Governs base t x xs → state_from base t v xs ≡ x.state
  state_governed x g = by (governed base t v xs sorted)
    where
      by : Governed base t v xs → state_from base t v xs ≡ x.state
      by (inl (z, h)) = h.state ∙ ap (λ (u : Setting). u.state) (one_key z x xs distinct h.governs.there g.there (same_key z x (h.governs.last x g.there g.here) (g.last z h.governs.there h.governs.here)))
      by (inr free) = absurd (free.none x g.there g.here)

  pub state_free : NoneCounts base t xs → state_from base t v xs ≡ v
  state_free none = by (governed base t v xs sorted)
    where
      by : Governed base t v xs → state_from base t v xs ≡ v
      by (inl (z, h)) = absurd (none z h.governs.there h.governs.here)
      by (inr free) = free.state

-- ---- at an earlier moment

counts_earlier : (base p t : ℕ) (x : Setting) → p ≤ t → counts base p x ≡ true → counts base t x ≡ true
counts_earlier base p t x le e =
    let parts = and_parts (ltb base x.at) (leb x.at p) e in
    let upto : x.at ≤ t = let low : x.at ≤ p = leb-true x.at p parts.1 in omega (arith, low, le) in
    rw (parts.0, le-leb x.at t upto) refl

-- ---- the state stays

-- Another one of them stands behind the set, at the moment or before it.
pub record HasBehind (t : ℕ) (xs : List Setting) (z : Setting) : Type 0 where
  pub w : Setting
  pub there : Has w xs
  pub upto : w.at ≤ t
  pub behind : key_before (set_key z) (set_key w) ≡ true

at_most : (z w : Setting) → key_before (set_key z) (set_key w) ≡ true → z.at ≤ w.at
at_most z w e = let back = follows (set_key w) (set_key z) (one_way (set_key z) (set_key w) e) in omega (arith, back.0)

-- Each that is only among one of both leaves a state that differs from the one at the moment, or another one stands behind it.
module _ (base t v : ℕ) (xs ys : List Setting) (sorted : AreSorted set_key xs) (distinct : AreDistinct set_key xs) (sorted' : AreSorted set_key ys) (distinct' : AreDistinct set_key ys)
    (Moves : Setting → Type 0) (goes : (x : Setting) → Has x xs → counts base t x ≡ true → Has x ys ⊎ Moves x) (comes : (x : Setting) → Has x ys → Has x xs ⊎ Moves x)
    (others : (x : Setting) → Moves x → x.at ≤ t → (state_from base x.at v xs ≢ state_from base t v xs) ⊎ HasBehind t xs x) where
  behind_counts : (z : Setting) → counts base t z ≡ true → (b : HasBehind t xs z) → counts base t b.w ≡ true
  behind_counts z c b =
      let after : base < z.at = ltb-true base z.at (and_parts (ltb base z.at) (leb z.at t) c).0 in
      let le : z.at ≤ b.w.at = at_most z b.w b.behind in
      rw (lt-ltb base b.w.at (omega (arith, after, le)), le-leb b.w.at t b.upto) refl

  -- what counts where it moves does not stand behind the one that governs, and is not that one
  earlier : (x : Setting) → Governs base t x xs → state_from base t v xs ≡ x.state → (z : Setting) → Moves z → counts base t z ≡ true → key_before (set_key z) (set_key x) ≡ true
  earlier x g is z moves c = elim (others z moves upto) [ inl differs ↦ by differs (leb x.at z.at) refl | inr b ↦ ahead_of b (key_before (set_key z) (set_key x)) refl ]
    where
      upto : z.at ≤ t
      upto = leb-true z.at t (and_parts (ltb base z.at) (leb z.at t) c).1

      first : z.at < x.at → key_before (set_key z) (set_key x) ≡ true
      first lt = or_left (ltb z.at x.at) (eqb z.at x.at && (ltb z.id x.id || (eqb z.id x.id && ltb z.index x.index))) (lt-ltb z.at x.at lt)

      by : state_from base z.at v xs ≢ state_from base t v xs → (b : Bool) → leb x.at z.at ≡ b → key_before (set_key z) (set_key x) ≡ true
      by differs false e = first (leb-false x.at z.at e)
      by differs true e =
          let own : counts base z.at x ≡ true = rw ((and_parts (ltb base x.at) (leb x.at t) g.here).0, e) refl in
          let there : state_from base z.at v xs ≡ x.state = state_governed base z.at v xs sorted distinct x (record { there = g.there; here = own; last = λ w has f. g.last w has (counts_earlier base z.at t w upto f) }) in
          absurd (differs (there ∙ sym is))

      ahead_of : (b : HasBehind t xs z) → (k : Bool) → key_before (set_key z) (set_key x) ≡ k → key_before (set_key z) (set_key x) ≡ true
      ahead_of b true e = e
      ahead_of b false e =
          let none : key_before (set_key z) (set_key b.w) ≡ false = behind_both (set_key z) (set_key x) (set_key b.w) e (g.last b.w b.there (behind_counts z c b)) in
          absurd (let bad : true ≡ false = sym b.behind ∙ none in cc)

  pub state_same_behind : state_from base t v ys ≡ state_from base t v xs
  state_same_behind = by (governed base t v xs sorted)
    where
      stands : (x : Setting) (h : IsGoverned base t v xs x) → Moves x → ⊥
      stands x h moves = absurd (let bad : true ≡ false = sym (earlier x h.governs h.state x moves h.governs.here) ∙ before_itself (set_key x) in cc)

      by : Governed base t v xs → state_from base t v ys ≡ state_from base t v xs
      by (inl (x, h)) = state_governed base t v ys sorted' distinct' x (record {
        there = elim (goes x h.governs.there h.governs.here) [ inl stays ↦ stays | inr moves ↦ absurd (stands x h moves) ];
        here = h.governs.here;
        last = λ z has c. elim (comes z has) [ inl was ↦ h.governs.last z was c | inr moves ↦ one_way (set_key z) (set_key x) (earlier x h.governs h.state z moves c) ];
      }) ∙ sym h.state
      by (inr free) = state_free base t v ys sorted' distinct' (λ z has c. elim (comes z has) [
        | inl was ↦ free.none z was c
        | inr moves ↦ elim (others z moves (leb-true z.at t (and_parts (ltb base z.at) (leb z.at t) c).1)) [
          | inl differs ↦ (
              let upto : z.at ≤ t = leb-true z.at t (and_parts (ltb base z.at) (leb z.at t) c).1 in
              let still : state_from base z.at v xs ≡ v = state_free base z.at v xs sorted distinct (λ w was f. free.none w was (counts_earlier base z.at t w upto f)) in
              differs (still ∙ sym free.state))
          | inr b ↦ free.none b.w b.there (behind_counts z c b)
        ]
      ]) ∙ sym free.state

-- each that is only among one of both leaves a state that differs from the one at the moment
pub state_same : (base t v : ℕ) (xs ys : List Setting) → AreSorted set_key xs → AreDistinct set_key xs → AreSorted set_key ys → AreDistinct set_key ys
    → (Moves : Setting → Type 0) → ((x : Setting) → Has x xs → counts base t x ≡ true → Has x ys ⊎ Moves x) → ((x : Setting) → Has x ys → Has x xs ⊎ Moves x)
    → ((x : Setting) → Moves x → x.at ≤ t → state_from base x.at v xs ≢ state_from base t v xs) → state_from base t v ys ≡ state_from base t v xs
state_same base t v xs ys sorted distinct sorted' distinct' Moves goes comes others = state_same_behind base t v xs ys sorted distinct sorted' distinct' Moves goes comes (λ x moves le. inl (others x moves le))
