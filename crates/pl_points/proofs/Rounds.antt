-- What a mended window leaves round it, and what is among spans that lie apart.
use Rattle.std.proofs.Common.{◌≡◌, ℕ, suc, ◌^◌, ◌<◌, ◌≤◌, Bool, true, false, ◌&&◌, ◌||◌, cond, List, [], ◌∷◌, ◌++◌, length, get_or, drop, refl, ap, sym, ◌∙◌, subst, arith, eqb, ltb, leb, Result, Ok, Err, IfOk, OnOk}
use Rattle.std.proofs.lemmas.Bool.{cond_both, eq-eqb, ne_eqb, ltb-true, ltb-false, leb-true, leb-false, le-leb, lt-leb, or_right}
use Rattle.std.proofs.lemmas.List.{drop_all, append-nil}
use Rattle.std.proofs.Math.Bool.{or-false, or_assoc}
use Rattle.pl_points.specs.declared.span.Span.{Span}
use Rattle.pl_lists.specs.Lists.{front, back}
use Rattle.pl_points.specs.Spans.{within, covers, AreApart, joined}
use Rattle.pl_points.specs.Mending.{ends_before, ends_by, begins_before, reached, beyond, before, behind, mended}
use Rattle.pl_points.specs.Changes.{same_span, IsChange}
use Rattle.pl_lists.specs.Lists.{is_among, left_out}
use Rattle.pl_points.specs.declared.span.Change.{Change}
use Rattle.pl_points.proofs.Parting.{drop_next, back_fails}
use Rattle.pl_points.proofs.Spanning.{apart_later, apart-joined, covers-joined, within_true}
use Rattle.pl_points.proofs.Cuts.{covers_low, covers_high, within_high, within_low, within_yes, apart_from, apart_to, covers_before, apart_behind, covers_behind}

other_begin : (p x : Span) → (p.from ≡ x.from → ⊥) → same_span p x ≡ false
other_begin p x h = let e : eqb p.from x.from ≡ false = ne_eqb p.from x.from h in rw e refl

-- spans that all begin later do not have it
pub not_among_high : (c e : ℕ) (s : List Span) (x : Span) → AreApart c e s → x.from < c → is_among same_span s x ≡ false
not_among_high c e [] x apart lt = refl
not_among_high c e (p ∷ s) x apart lt =
    let f : same_span p x ≡ false = other_begin p x (λ h. omega (arith, h, lt, apart.0)) in
    rw f (not_among_high (suc p.to) e s x apart.3 (omega (arith, lt, apart.0, apart.1)))

among_back : (s : List Span) (x : Span) → is_among same_span s x ≡ is_among same_span (back (begins_before x.from) s) x
among_back [] x = refl
among_back (p ∷ s) x = cases (begins_before x.from p) refl (among_back s x)
  where
    cases : (v : Bool) → begins_before x.from p ≡ v → is_among same_span s x ≡ is_among same_span (back (begins_before x.from) s) x → is_among same_span (p ∷ s) x ≡ is_among same_span (back (begins_before x.from) (p ∷ s)) x
    cases true f more =
        let g : same_span p x ≡ false = other_begin p x (λ h. omega (arith, h, ltb-true p.from x.from f)) in
        rw f (rw g more)
    cases false f more = rw f refl

apart_back : (at c e : ℕ) (s : List Span) → AreApart c e s → AreApart c e (back (begins_before at) s)
apart_back at c e [] apart = tt
apart_back at c e (p ∷ s) apart = cond_both (begins_before at p) (back (begins_before at) s) (p ∷ s) (λ l. AreApart c e l)
    (λ f. apart_later c (suc p.to) e (back (begins_before at) s) (omega (arith, apart.0, apart.1)) (apart_back at (suc p.to) e s apart.3)) (λ f. apart)

pub among_none : (s : List Span) (i : ℕ) (x : Span) → drop i s ≡ back (begins_before x.from) s → length s ≤ i → is_among same_span s x ≡ false
among_none s i x rest le = among_back s x ∙ ap (λ l. is_among same_span l x) (sym rest ∙ drop_all i s le)

pub among_some : (s : List Span) (i : ℕ) (p x : Span) → AreApart 0 (2 ^ 32) s → drop i s ≡ back (begins_before x.from) s → i < length s → p ≡ get_or s i p → is_among same_span s x ≡ same_span p x
among_some s i p x apart rest lt is =
    let e : back (begins_before x.from) s ≡ p ∷ drop (suc i) s = sym rest ∙ (drop_next s i p lt ∙ ap (λ q. q ∷ drop (suc i) s) (sym is)) in
    among_back s x ∙ (ap (λ l. is_among same_span l x) e ∙ first (drop (suc i) s) (fails e) (subst (λ l. AreApart 0 (2 ^ 32) l) e (apart_back x.from 0 (2 ^ 32) s apart)))
  where
    fails : back (begins_before x.from) s ≡ p ∷ drop (suc i) s → begins_before x.from p ≡ false
    fails e = back_fails (begins_before x.from) s p (drop (suc i) s) e

    first : (more : List Span) → begins_before x.from p ≡ false → AreApart 0 (2 ^ 32) (p ∷ more) → is_among same_span (p ∷ more) x ≡ same_span p x
    first more f apart =
        let g : is_among same_span more x ≡ false = not_among_high (suc p.to) (2 ^ 32) more x apart.3 (omega (arith, ltb-false p.from x.from f, apart.1)) in
        ap (λ b. same_span p x || b) g ∙ or-false (same_span p x)

-- a window between what lies before it and what lies behind
pub round : (a b t : ℕ) (c o : Bool) → a ≤ b → (((ltb t a && c) || (within a b t && o)) || (leb b t && c)) ≡ cond (within a b t) o c
round a b t c o le = cases (ltb t a) (ltb t b) refl refl
  where
    first : (c : Bool) → (((true && c) || (false && o)) || (false && c)) ≡ cond false o c
    first true = refl
    first false = refl

    middle : (o : Bool) → (((false && c) || (true && o)) || (false && c)) ≡ cond true o c
    middle true = refl
    middle false = refl

    cases : (v w : Bool) → ltb t a ≡ v → ltb t b ≡ w → (((ltb t a && c) || (within a b t && o)) || (leb b t && c)) ≡ cond (within a b t) o c
    cases true w f g =
        let lt : t < a = ltb-true t a f in
        rw f (rw (within_low a b t lt) (rw (lt-leb b t (omega (arith, lt, le))) (first c)))
    cases false true f g =
        let lt : t < b = ltb-true t b g in
        rw f (rw (within_yes a b t (ltb-false t a f) lt) (rw (lt-leb b t lt) (middle o)))
    cases false false f g =
        let high : b ≤ t = ltb-false t b g in
        rw f (rw (within_high a b t high) (rw (le-leb b t high) refl))

-- the three parts put after each other
pub renewed_apart : (a b : ℕ) (old now : List Span) → b < 2 ^ 32 → AreApart 0 (2 ^ 32) old → AreApart 0 b now → AreApart 0 (2 ^ 32) (joined now (behind b old))
renewed_apart a b old now lt apart new = apart-joined 0 b (2 ^ 32) now (behind b old) (omega arith) (omega (arith, lt)) new (apart_behind b 0 (2 ^ 32) old apart)

pub renewed_covers : (a b : ℕ) (old now : List Span) (q : ℕ → Bool) → a ≤ b → AreApart 0 (2 ^ 32) old → AreApart 0 b now
    → ((t : ℕ) → covers now t ≡ (covers (before a old) t || (within a b t && q t))) → (t : ℕ) → covers (joined now (behind b old)) t ≡ mended a b q old t
renewed_covers a b old now q le apart new says t =
    covers-joined 0 b (2 ^ 32) now (behind b old) new (apart_behind b 0 (2 ^ 32) old apart) t
    ∙ (ap (λ v. v || covers (behind b old) t) (says t)
    ∙ (ap (λ v. (v || (within a b t && q t)) || covers (behind b old) t) (covers_before a 0 (2 ^ 32) old t apart)
    ∙ (ap (λ v. ((ltb t a && covers old t) || (within a b t && q t)) || v) (covers_behind b 0 (2 ^ 32) old t apart)
    ∙ round a b t (covers old t) (q t) le)))

-- lists that follow each other
pub covers-append : (s t : List Span) (x : ℕ) → covers (s ++ t) x ≡ (covers s x || covers t x)
covers-append [] t x = refl
covers-append (p ∷ s) t x = ap (λ b. within p.from p.to x || b) (covers-append s t x) ∙ sym (or_assoc (within p.from p.to x) (covers s x) (covers t x))

-- the first moment at which a span can follow
abbrev pub next : ℕ → List Span → ℕ
next c [] = c
next c (p ∷ s) = next (suc p.to) s

apart_parts : (c e : ℕ) (s t : List Span) → AreApart c e (s ++ t) → AreApart c e s × AreApart (next c s) e t
apart_parts c e [] t apart = (tt, apart)
apart_parts c e (p ∷ s) t apart = let more : AreApart (suc p.to) e s × AreApart (next (suc p.to) s) e t = apart_parts (suc p.to) e s t apart.3 in ((apart.0, apart.1, apart.2, more.0), more.1)

apart-append : (c e : ℕ) (s t : List Span) → AreApart c e s → AreApart (next c s) e t → AreApart c e (s ++ t)
apart-append c e [] t one other = other
apart-append c e (p ∷ s) t one other = (one.0, one.1, one.2, apart-append (suc p.to) e s t one.3 other)

apart-after : (c x e : ℕ) (s t : List Span) → x ≤ e → c ≤ suc x → AreApart c x s → AreApart (suc x) e t → AreApart c e (s ++ t)
apart-after c x e [] t le low one other = apart_later c (suc x) e t low other
apart-after c x e (p ∷ s) t le low one other = (one.0, one.1, omega (arith, le, one.2), apart-after (suc p.to) x e s t le (omega (arith, one.2)) one.3 other)

front_back : (p : Span → Bool) (s : List Span) → front p s ++ back p s ≡ s
front_back p [] = refl
front_back p (x ∷ s) = cases (p x) refl (front_back p s)
  where
    cases : (v : Bool) → p x ≡ v → front p s ++ back p s ≡ s → front p (x ∷ s) ++ back p (x ∷ s) ≡ x ∷ s
    cases true f more = rw f (ap (λ l. x ∷ l) more)
    cases false f more = rw f refl

reached_beyond : (at : ℕ) (s : List Span) → reached at s ++ beyond at s ≡ s
reached_beyond at [] = refl
reached_beyond at (x ∷ s) = cases (ends_by at x) refl (reached_beyond at s)
  where
    cases : (v : Bool) → ends_by at x ≡ v → reached at s ++ beyond at s ≡ s → reached at (x ∷ s) ++ beyond at (x ∷ s) ≡ x ∷ s
    cases true f more = rw f (ap (λ l. x ∷ l) more)
    cases false f more = rw f refl

next_front : (c at : ℕ) (s : List Span) → c ≤ at → next c (front (ends_before at) s) ≤ at
next_front c at [] le = le
next_front c at (p ∷ s) le = cond_both (ends_before at p) (p ∷ front (ends_before at) s) [] (λ l. next c l ≤ at) (λ f. next_front (suc p.to) at s (ltb-true p.to at f)) (λ f. le)

covers_front : (at : ℕ) (s : List Span) (t : ℕ) → at ≤ t → covers (front (ends_before at) s) t ≡ false
covers_front at [] t le = refl
covers_front at (p ∷ s) t le = cond_both (ends_before at p) (p ∷ front (ends_before at) s) [] (λ l. covers l t ≡ false)
    (λ f. rw (within_high p.from p.to t (omega (arith, le, ltb-true p.to at f))) (covers_front at s t le)) (λ f. refl)

-- where those that a window may change end
abbrev Reach : ℕ → ℕ → ℕ → List Span → Type 0
Reach c e b s = (x : ℕ) × (b ≤ x) × (x ≤ e) × AreApart c x (reached b s) × AreApart (suc x) e (beyond b s)

reach : (c e b : ℕ) (s : List Span) → b ≤ e → AreApart c e s → Reach c e b s
reach c e b [] le apart = (e, le, omega arith, tt, tt)
reach c e b (p ∷ s) le apart = cases (ends_by b p) refl (reach (suc p.to) e b s le apart.3)
  where
    cases : (v : Bool) → ends_by b p ≡ v → Reach (suc p.to) e b s → Reach c e b (p ∷ s)
    cases true f more = (more.0, more.1, more.2, rw f (apart.0, apart.1, omega (arith, more.1, leb-true p.to b f), more.3), rw f more.4)
    cases false f more = (p.to, omega (arith, leb-false p.to b f), apart.2, rw f (apart.0, apart.1, omega arith, tt), rw f apart.3)

-- the spans before a window, those that it may change, and those behind
abbrev pub kept_front : ℕ → List Span → List Span
kept_front a s = front (ends_before a) s

abbrev pub touched : ℕ → ℕ → List Span → List Span
touched a b s = reached b (back (ends_before a) s)

abbrev pub tail : ℕ → ℕ → List Span → List Span
tail a b s = beyond b (back (ends_before a) s)

pub in_parts : (a b : ℕ) (s : List Span) → s ≡ kept_front a s ++ (touched a b s ++ tail a b s)
in_parts a b s = sym (ap (λ l. kept_front a s ++ l) (reached_beyond b (back (ends_before a) s)) ∙ front_back (ends_before a) s)

pub touched_apart : (a b : ℕ) (s : List Span) → AreApart 0 (2 ^ 32) s → AreApart 0 (2 ^ 32) (touched a b s)
touched_apart a b s apart =
    let rest = apart_parts 0 (2 ^ 32) (kept_front a s) (touched a b s ++ tail a b s) (subst (λ l. AreApart 0 (2 ^ 32) l) (in_parts a b s) apart) in
    let more = apart_parts (next 0 (kept_front a s)) (2 ^ 32) (touched a b s) (tail a b s) rest.1 in
    apart_later 0 (next 0 (kept_front a s)) (2 ^ 32) (touched a b s) (omega arith) more.0

-- what takes the place of those that it may change lies as they did
abbrev Fits : ℕ → ℕ → List Span → List Span → Type 0
Fits a b s f = (c : ℕ) × (x : ℕ) × (c ≤ suc x) × (next 0 (kept_front a s) ≡ c) × (b ≤ x) × (x ≤ 2 ^ 32) × AreApart 0 (2 ^ 32) (kept_front a s) × AreApart c x (touched a b s) × AreApart c x f × AreApart (suc x) (2 ^ 32) (tail a b s)

fits : (a b : ℕ) (q : ℕ → Bool) (s f : List Span) → a ≤ b → b < 2 ^ 32 → AreApart 0 (2 ^ 32) s → AreApart 0 (2 ^ 32) f → ((t : ℕ) → covers f t ≡ mended a b q (touched a b s) t) → Fits a b s f
fits a b q s f le lt apart new says =
    let front_apart = apart_parts 0 (2 ^ 32) (kept_front a s) (back (ends_before a) s) (subst (λ l. AreApart 0 (2 ^ 32) l) (sym (front_back (ends_before a) s)) apart) in
    let c = next 0 (kept_front a s) in
    let low : c ≤ a = next_front 0 a s (omega arith) in
    let far = reach c (2 ^ 32) b (back (ends_before a) s) (omega (arith, lt)) front_apart.1 in
    let x = far.0 in
    let from : AreApart c (2 ^ 32) f = apart_from 0 c (2 ^ 32) f new (λ t under. says t ∙ early t (omega (arith, under, low)) (covers_low c x (touched a b s) t far.3 under)) in
    let upto : AreApart c x f = apart_to c (2 ^ 32) x f from (λ t over. says t ∙ late t (omega (arith, over, far.1)) (covers_high c x (touched a b s) t far.3 over)) in
    (c, x, omega (arith, low, le, far.1), refl, far.1, far.2, front_apart.0, far.3, upto, far.4)
  where
    early : (t : ℕ) → t < a → covers (touched a b s) t ≡ false → mended a b q (touched a b s) t ≡ false
    early t under none = rw (within_low a b t under) none

    late : (t : ℕ) → b ≤ t → covers (touched a b s) t ≡ false → mended a b q (touched a b s) t ≡ false
    late t over none = rw (within_high a b t over) none

pub rounded_apart : (a b : ℕ) (q : ℕ → Bool) (s f : List Span) → a ≤ b → b < 2 ^ 32 → AreApart 0 (2 ^ 32) s → AreApart 0 (2 ^ 32) f → ((t : ℕ) → covers f t ≡ mended a b q (touched a b s) t)
    → AreApart 0 (2 ^ 32) (kept_front a s ++ (f ++ tail a b s))
rounded_apart a b q s f le lt apart new says =
    let h = fits a b q s f le lt apart new says in
    apart-append 0 (2 ^ 32) (kept_front a s) (f ++ tail a b s) h.6 (rw h.3 (apart-after h.0 h.1 (2 ^ 32) f (tail a b s) h.5 h.2 h.8 h.9))

pub rounded_covers : (a b : ℕ) (q : ℕ → Bool) (s f : List Span) → a ≤ b → b < 2 ^ 32 → AreApart 0 (2 ^ 32) s → AreApart 0 (2 ^ 32) f → ((t : ℕ) → covers f t ≡ mended a b q (touched a b s) t)
    → (t : ℕ) → covers (kept_front a s ++ (f ++ tail a b s)) t ≡ mended a b q s t
rounded_covers a b q s f le lt apart new says t =
    let h = fits a b q s f le lt apart new says in
    let whole : covers s t ≡ (covers (kept_front a s) t || (covers (touched a b s) t || covers (tail a b s) t)) =
    ap (λ l. covers l t) (in_parts a b s) ∙ (covers-append (kept_front a s) (touched a b s ++ tail a b s) t ∙ ap (λ v. covers (kept_front a s) t || v) (covers-append (touched a b s) (tail a b s) t)) in
    covers-append (kept_front a s) (f ++ tail a b s) t ∙ (ap (λ v. covers (kept_front a s) t || v) (covers-append f (tail a b s) t)
    ∙ cases (within a b t) refl whole (λ high. covers_low (suc h.1) (2 ^ 32) (tail a b s) t h.9 (omega (arith, high, h.4))))
  where
    cases : (v : Bool) → within a b t ≡ v → covers s t ≡ (covers (kept_front a s) t || (covers (touched a b s) t || covers (tail a b s) t)) → (t < b → covers (tail a b s) t ≡ false)
        → (covers (kept_front a s) t || (covers f t || covers (tail a b s) t)) ≡ mended a b q s t
    cases true e whole none =
        let in_window = within_true a b t e in
        let is : covers f t ≡ q t = says t ∙ (rw e refl) in
        rw e (rw (covers_front a s t in_window.0) (rw (none in_window.1) (or-false (covers f t) ∙ is)))
    cases false e whole none =
        let is : covers f t ≡ covers (touched a b s) t = says t ∙ (rw e refl) in
        rw e (rw is (sym whole))

-- what is among a list
is_among-append : (s t : List Span) (x : Span) → is_among same_span (s ++ t) x ≡ (is_among same_span s x || is_among same_span t x)
is_among-append [] t x = refl
is_among-append (p ∷ s) t x = ap (λ b. same_span p x || b) (is_among-append s t x) ∙ sym (or_assoc (same_span p x) (is_among same_span s x) (is_among same_span t x))

abbrev AllAmong : List Span → List Span → Type 0
AllAmong others [] = Unit {0}
AllAmong others (x ∷ xs) = (is_among same_span others x ≡ true) × AllAmong others xs

among_more : (p : Span) (others xs : List Span) → AllAmong others xs → AllAmong (p ∷ others) xs
among_more p others [] all = tt
among_more p others (x ∷ xs) all = (or_right (same_span p x) (is_among same_span others x) all.0, among_more p others xs all.1)

among_prefix : (ps others xs : List Span) → AllAmong others xs → AllAmong (ps ++ others) xs
among_prefix [] others xs all = all
among_prefix (p ∷ ps) others xs all = among_more p (ps ++ others) xs (among_prefix ps others xs all)

pub same_self : (x : Span) → same_span x x ≡ true
same_self x = rw (eq-eqb x.from x.from refl) (eq-eqb x.to x.to refl)

among_front : (s t : List Span) → AllAmong (s ++ t) s
among_front [] t = tt
among_front (x ∷ s) t = (rw (same_self x) refl, among_more x (s ++ t) s (among_front s t))

among_self : (s : List Span) → AllAmong s s
among_self [] = tt
among_self (x ∷ s) = (rw (same_self x) refl, among_more x s s (among_self s))

left_out_none : (others xs : List Span) → AllAmong others xs → left_out same_span others xs ≡ []
left_out_none others [] all = refl
left_out_none others (x ∷ xs) all = rw all.0 (left_out_none others xs all.1)

left_out-append : (others xs ys : List Span) → left_out same_span others (xs ++ ys) ≡ left_out same_span others xs ++ left_out same_span others ys
left_out-append others [] ys = refl
left_out-append others (x ∷ xs) ys = cases (is_among same_span others x) refl (left_out-append others xs ys)
  where
    cases : (v : Bool) → is_among same_span others x ≡ v → left_out same_span others (xs ++ ys) ≡ left_out same_span others xs ++ left_out same_span others ys → left_out same_span others (x ∷ (xs ++ ys)) ≡ left_out same_span others (x ∷ xs) ++ left_out same_span others ys
    cases true f more = rw f more
    cases false f more = rw f (ap (λ l. x ∷ l) more)

next_later : (c e : ℕ) (s : List Span) → AreApart c e s → c ≤ next c s
next_later c e [] apart = omega arith
next_later c e (p ∷ s) apart = omega (arith, apart.0, apart.1, next_later (suc p.to) e s apart.3)

not_among_low : (c e : ℕ) (s : List Span) (x : Span) → AreApart c e s → next c s ≤ x.from → is_among same_span s x ≡ false
not_among_low c e [] x apart le = refl
not_among_low c e (p ∷ s) x apart le =
    let f : same_span p x ≡ false = other_begin p x (λ h. omega (arith, h, le, apart.1, next_later (suc p.to) e s apart.3)) in
    rw f (not_among_low (suc p.to) e s x apart.3 le)

-- of those between, only those between are looked for
left_out_mid : (c x : ℕ) (s f b t : List Span) → AreApart 0 (2 ^ 32) s → next 0 s ≤ c → AreApart (suc x) (2 ^ 32) b → AreApart c x t → left_out same_span (s ++ (f ++ b)) t ≡ left_out same_span f t
left_out_mid c x s f b [] front_apart low tail_apart apart = refl
left_out_mid c x s f b (p ∷ t) front_apart low tail_apart apart =
    cases (is_among same_span f p) refl looked (left_out_mid (suc p.to) x s f b t front_apart (omega (arith, low, apart.0, apart.1)) tail_apart apart.3)
  where
    looked : is_among same_span (s ++ (f ++ b)) p ≡ is_among same_span f p
    looked =
        let not_front : is_among same_span s p ≡ false = not_among_low 0 (2 ^ 32) s p front_apart (omega (arith, low, apart.0)) in
        let not_tail : is_among same_span b p ≡ false = not_among_high (suc x) (2 ^ 32) b p tail_apart (omega (arith, apart.1, apart.2)) in
        is_among-append s (f ++ b) p ∙ (ap (λ v. v || is_among same_span (f ++ b) p) not_front ∙ (is_among-append f b p ∙ (ap (λ v. is_among same_span f p || v) not_tail ∙ or-false (is_among same_span f p))))

    cases : (v : Bool) → is_among same_span f p ≡ v → is_among same_span (s ++ (f ++ b)) p ≡ is_among same_span f p → left_out same_span (s ++ (f ++ b)) t ≡ left_out same_span f t → left_out same_span (s ++ (f ++ b)) (p ∷ t) ≡ left_out same_span f (p ∷ t)
    cases true e looked more = rw (looked ∙ e) (rw e more)
    cases false e looked more = rw (looked ∙ e) (rw e (ap (λ l. p ∷ l) more))

left_out_round : (c x : ℕ) (s f b t : List Span) → AreApart 0 (2 ^ 32) s → next 0 s ≤ c → AreApart (suc x) (2 ^ 32) b → AreApart c x t → left_out same_span (s ++ (f ++ b)) (s ++ (t ++ b)) ≡ left_out same_span f t
left_out_round c x s f b t front_apart low tail_apart apart =
    let all = s ++ (f ++ b) in
    left_out-append all s (t ++ b) ∙ (ap (λ l. l ++ left_out same_span all (t ++ b)) (left_out_none all s (among_front s (f ++ b)))
    ∙ (left_out-append all t b ∙ (ap (λ l. left_out same_span all t ++ l) (left_out_none all b (among_prefix s (f ++ b) b (among_prefix f b b (among_self b))))
    ∙ (append-nil (left_out same_span all t) ∙ left_out_mid c x s f b t front_apart low tail_apart apart))))

pub rounded_went : (a b : ℕ) (q : ℕ → Bool) (s f : List Span) → a ≤ b → b < 2 ^ 32 → AreApart 0 (2 ^ 32) s → AreApart 0 (2 ^ 32) f → ((t : ℕ) → covers f t ≡ mended a b q (touched a b s) t)
    → left_out same_span (kept_front a s ++ (f ++ tail a b s)) s ≡ left_out same_span f (touched a b s)
rounded_went a b q s f le lt apart new says =
    let h = fits a b q s f le lt apart new says in
    ap (left_out same_span (kept_front a s ++ (f ++ tail a b s))) (in_parts a b s) ∙ left_out_round h.0 h.1 (kept_front a s) f (tail a b s) (touched a b s) h.6 (omega (arith, h.3)) h.9 h.7

pub rounded_came : (a b : ℕ) (q : ℕ → Bool) (s f : List Span) → a ≤ b → b < 2 ^ 32 → AreApart 0 (2 ^ 32) s → AreApart 0 (2 ^ 32) f → ((t : ℕ) → covers f t ≡ mended a b q (touched a b s) t)
    → left_out same_span s (kept_front a s ++ (f ++ tail a b s)) ≡ left_out same_span (touched a b s) f
rounded_came a b q s f le lt apart new says =
    let h = fits a b q s f le lt apart new says in
    ap (λ l. left_out same_span l (kept_front a s ++ (f ++ tail a b s))) (in_parts a b s) ∙ left_out_round h.0 h.1 (kept_front a s) (touched a b s) (tail a b s) f h.6 (omega (arith, h.3)) h.9 h.8

pub rounded_change : (a b : ℕ) (q : ℕ → Bool) (s f new : List Span) (change : Change) → a ≤ b → b < 2 ^ 32 → AreApart 0 (2 ^ 32) s → AreApart 0 (2 ^ 32) f → ((t : ℕ) → covers f t ≡ mended a b q (touched a b s) t)
    → new ≡ kept_front a s ++ (f ++ tail a b s) → IsChange (touched a b s) f change → IsChange s new change
rounded_change a b q s f new change le lt apart fresh says is c = record {
  went = c.went ∙ sym (ap (λ l. left_out same_span l s) is ∙ rounded_went a b q s f le lt apart fresh says);
  came = c.came ∙ sym (ap (left_out same_span s) is ∙ rounded_came a b q s f le lt apart fresh says);
}

-- nothing went and nothing came
pub unchanged : (s : List Span) (change : Change) → change.went ≡ [] → change.came ≡ [] → IsChange s s change
unchanged s change went came =
    let none : left_out same_span s s ≡ [] = left_out_none s s (among_self s) in
    record {
      went = went ∙ sym none;
      came = came ∙ sym none;
    }

pub both_ok : {T E : Type 0} (A : Type 0) (P Q : T → Type 0) (r : Result T E) → ((x : T) → A → P x → Q x) → OnOk r A → IfOk r P → IfOk r Q
both_ok A P Q (Ok x) f a h = f x a h
both_ok A P Q (Err e) f a h = h

-- with nothing before a moment
pub behind_spans : (b : ℕ) (s : List Span) → AreApart 0 (2 ^ 32) s → AreApart 0 (2 ^ 32) (behind b s)
behind_spans b s apart = apart_later 0 b (2 ^ 32) (behind b s) (omega arith) (apart_behind b 0 (2 ^ 32) s apart)

pub forgot : (b : ℕ) (s : List Span) → AreApart 0 (2 ^ 32) s → (t : ℕ) → covers (behind b s) t ≡ mended 0 b (λ x. false) s t
forgot b s apart t = covers_behind b 0 (2 ^ 32) s t apart ∙ cases (leb b t) refl
  where
    cases : (v : Bool) → leb b t ≡ v → (v && covers s t) ≡ cond (within 0 b t) false (covers s t)
    cases true e = rw (within_high 0 b t (leb-true b t e)) refl
    cases false e = rw (within_yes 0 b t (omega arith) (leb-false b t e)) refl
