-- A text cut at one byte, and what does not hold that byte.
use Rattle.std.proofs.Common.{◌≡◌, ℕ, Bool, true, false, not, cond, ◌==◌, List, [], ◌∷◌, ◌++◌, refl, ap, sym, ◌∙◌}
use Rattle.std.specs.List.{list_all}
use Rattle.std.proofs.lemmas.Bool.{and_parts, not-true, eq-eqb, eqb-true, eqb-false}
use Rattle.std.proofs.lemmas.List.{append-nil}
use Rattle.pl_journal.specs.Rendering.Words.{spaced}

-- the byte is not in the text
abbrev pub lacks : ℕ → List ℕ → Bool
lacks c w = list_all (λ b. not (b == c)) w

pub lacks-append : (c : ℕ) (xs ys : List ℕ) → lacks c xs ≡ true → lacks c ys ≡ true → lacks c (xs ++ ys) ≡ true
lacks-append c [] ys h k = k
lacks-append c (x ∷ xs) ys h k =
    let p = and_parts (not (x == c)) (lacks c xs) h in
    rw (p.0, lacks-append c xs ys p.1 k) refl

-- ---- cut at each such byte

abbrev pub grown : ℕ → List (List ℕ) → List (List ℕ)
grown b [] = (b ∷ []) ∷ []
grown b (w ∷ ws) = (b ∷ w) ∷ ws

abbrev pub cut : ℕ → List ℕ → List (List ℕ)
cut c [] = [] ∷ []
cut c (b ∷ bs) = cond (b == c) ([] ∷ cut c bs) (grown b (cut c bs))

-- up to the first such byte
pub cut_behind : (c : ℕ) (w rest : List ℕ) → lacks c w ≡ true → cut c (w ++ c ∷ rest) ≡ w ∷ cut c rest
cut_behind c [] rest h = rw (eq-eqb c c refl) refl
cut_behind c (b ∷ w) rest h =
    let p = and_parts (not (b == c)) (lacks c w) h in
    rw (not-true (b == c) p.0, cut_behind c w rest p.1) refl

pub cut_last : (c : ℕ) (w : List ℕ) → lacks c w ≡ true → cut c w ≡ w ∷ []
cut_last c [] h = refl
cut_last c (b ∷ w) h =
    let p = and_parts (not (b == c)) (lacks c w) h in
    rw (not-true (b == c) p.0, cut_last c w p.1) refl

-- ---- words behind blanks

abbrev pub all_lack : ℕ → List (List ℕ) → Bool
all_lack c ws = list_all (lacks c) ws

pub all_lack-append : (c : ℕ) (xs ys : List (List ℕ)) → all_lack c xs ≡ true → all_lack c ys ≡ true → all_lack c (xs ++ ys) ≡ true
all_lack-append c [] ys h k = k
all_lack-append c (x ∷ xs) ys h k =
    let p = and_parts (lacks c x) (all_lack c xs) h in
    rw (p.0, all_lack-append c xs ys p.1 k) refl

-- the last word may have blanks
pub cut_spaced : (w : List ℕ) (ws : List (List ℕ)) (last : List ℕ) → lacks 32 w ≡ true → all_lack 32 ws ≡ true → cut 32 (w ++ spaced (ws ++ last ∷ [])) ≡ w ∷ (ws ++ cut 32 last)
unfolding spaced
cut_spaced w [] last h k = rw append-nil (cut_behind 32 w last h)
cut_spaced w (v ∷ ws) last h k =
    let p = and_parts (lacks 32 v) (all_lack 32 ws) k in
    cut_behind 32 w (v ++ spaced (ws ++ last ∷ [])) h ∙ ap (λ (x : List (List ℕ)). w ∷ x) (cut_spaced v ws last p.0 p.1)

pub cut_words : (w : List ℕ) (ws : List (List ℕ)) → lacks 32 w ≡ true → all_lack 32 ws ≡ true → cut 32 (w ++ spaced ws) ≡ w ∷ ws
unfolding spaced
cut_words w [] h k = rw append-nil (cut_last 32 w h)
cut_words w (v ∷ ws) h k =
    let p = and_parts (lacks 32 v) (all_lack 32 ws) k in
    cut_behind 32 w (v ++ spaced ws) h ∙ ap (λ (x : List (List ℕ)). w ∷ x) (cut_words v ws p.0 p.1)

-- the pieces, each behind a blank, but for the first
abbrev pub put_together : List (List ℕ) → List ℕ
put_together [] = []
put_together (w ∷ ws) = w ++ spaced ws

pub cut_grown : (b : ℕ) (ws : List (List ℕ)) → put_together (grown b ws) ≡ b ∷ put_together ws
unfolding spaced
cut_grown b [] = refl
cut_grown b (w ∷ ws) = refl

cut_first : (bs : List ℕ) → spaced (cut 32 bs) ≡ 32 ∷ put_together (cut 32 bs)
unfolding spaced
cut_first [] = refl
cut_first (b ∷ bs) = by_piece (b == 32) (cut 32 bs)
  where
    by_piece : (t : Bool) (ws : List (List ℕ)) → spaced (cond t ([] ∷ ws) (grown b ws)) ≡ 32 ∷ put_together (cond t ([] ∷ ws) (grown b ws))
    by_piece true ws = refl
    by_piece false [] = refl
    by_piece false (w ∷ ws) = refl

pub put_back : (bs : List ℕ) → put_together (cut 32 bs) ≡ bs
unfolding spaced
put_back [] = refl
put_back (b ∷ bs) = by_byte (b == 32) refl (put_back bs)
  where
    by_byte : (t : Bool) → (b == 32) ≡ t → put_together (cut 32 bs) ≡ bs → put_together (cond t ([] ∷ cut 32 bs) (grown b (cut 32 bs))) ≡ b ∷ bs
    by_byte true e ih = cut_first bs ∙ ap (λ (x : List ℕ). 32 ∷ x) ih ∙ ap (λ (x : ℕ). x ∷ bs) (sym (eqb-true b 32 e))
    by_byte false e ih = cut_grown b (cut 32 bs) ∙ ap (λ (x : List ℕ). b ∷ x) ih

-- ---- the front up to a byte is told by the byte

pub front_is : (c : ℕ) (xs ys r s : List ℕ) → lacks c xs ≡ true → lacks c ys ≡ true → xs ++ c ∷ r ≡ ys ++ c ∷ s → (xs ≡ ys) × (r ≡ s)
front_is c [] [] r s h k e = (refl, cc)
front_is c [] (y ∷ ys) r s h k e =
    let p = and_parts (not (y == c)) (lacks c ys) k in
    let same : c ≡ y = cc in
    absurd (eqb-false y c (not-true (y == c) p.0) (sym same))
front_is c (x ∷ xs) [] r s h k e =
    let p = and_parts (not (x == c)) (lacks c xs) h in
    let same : x ≡ c = cc in
    absurd (eqb-false x c (not-true (x == c) p.0) same)
front_is c (x ∷ xs) (y ∷ ys) r s h k e =
    let p = and_parts (not (x == c)) (lacks c xs) h in
    let q = and_parts (not (y == c)) (lacks c ys) k in
    let first : x ≡ y = cc in
    let rest : xs ++ c ∷ r ≡ ys ++ c ∷ s = cc in
    let more = front_is c xs ys r s p.1 q.1 rest in
    (cc (first, more.0), more.1)
