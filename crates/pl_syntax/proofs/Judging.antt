-- How an answer about the rest of a text becomes an answer about the text.
use Rattle.std.proofs.Common.{◌≡◌, suc, List, [], ◌∷◌, ◌++◌, length, Result, Ok, Err, refl, ap, subst}
use Rattle.pl_syntax.specs.declared.token.Token.{Token}
use Rattle.pl_syntax.specs.Faults.{Trouble, too_deep, unexpected, Stop, Language, Begins, Blames, Judged}

module _ {D : Type 0} (R F R' F' : Language D) (t : Token) where
  -- blame in the rest, where the languages of the rest are the rest of the languages
  blame_behind : ((ts : List Token) (d : D) → R (t ∷ ts) d → R' ts d) → ((ts : List Token) (d : D) → F (t ∷ ts) d → F' ts d) → ((ts : List Token) (d : D) → F' ts d → F (t ∷ ts) d) → (front : List Token) (trouble : Trouble) (rest : List Token) → Blames R' F' front trouble rest → Blames R F (t ∷ front) trouble rest
  blame_behind down down_free up_free front trouble [] b = b
  blame_behind down down_free up_free front too_deep (bad ∷ rest) b =
      (λ h. b.0 (h.0, h.1, down _ _ h.2, h.3), (b.1.0, b.1.1, up_free _ _ b.1.2, b.1.3))
  blame_behind down down_free up_free front unexpected (bad ∷ rest) b =
      (λ h. b.0 (h.0, h.1, down _ _ h.2, h.3), λ h. b.1 (h.0, h.1, down_free _ _ h.2, h.3))

  pub judged_behind : ((ts : List Token) (d : D) → R (t ∷ ts) d → R' ts d) → ((ts : List Token) (d : D) → R' ts d → R (t ∷ ts) d) → ((ts : List Token) (d : D) → F (t ∷ ts) d → F' ts d) → ((ts : List Token) (d : D) → F' ts d → F (t ∷ ts) d) → (ts : List Token) (r : Result D Stop) → Judged R' F' ts r → Judged R F (t ∷ ts) r
  judged_behind down up down_free up_free ts (Ok d) j = (up ts d j.0, λ e h. j.1 e (down ts e h))
  judged_behind down up down_free up_free ts (Err s) j = (
    λ e h. j.0 e (down ts e h),
    record {
      front = t ∷ j.1.front;
      rest = j.1.rest;
      counts = j.1.counts;
      parts = ap (λ (x : List Token). t ∷ x) j.1.parts;
      before = (j.1.before.0, j.1.before.1, up _ _ j.1.before.2, j.1.before.3);
      blames = blame_behind down down_free up_free j.1.front s.0 j.1.rest j.1.blames;
    },
  )

  -- a token that nothing begins with
  pub judged_stuck : Begins R [] → ((ts : List Token) (d : D) → R (t ∷ ts) d → ⊥) → ((ts : List Token) (d : D) → F (t ∷ ts) d → ⊥) → (ts : List Token) → Judged R F (t ∷ ts) (Err (unexpected, suc (length ts)))
  judged_stuck alive none none_free ts =
      (λ e h. none ts e h, record { front = []; rest = t ∷ ts; counts = refl; parts = refl; before = alive; blames = (λ h. none _ _ h.2, λ h. none_free _ _ h.2) })

  -- a token that only a text without limits begins with
  pub judged_deep : Begins R [] → ((ts : List Token) (d : D) → R (t ∷ ts) d → ⊥) → Begins F (t ∷ []) → (ts : List Token) → Judged R F (t ∷ ts) (Err (too_deep, suc (length ts)))
  judged_deep alive none some ts =
      (λ e h. none ts e h, record { front = []; rest = t ∷ ts; counts = refl; parts = refl; before = alive; blames = (λ h. none _ _ h.2, some) })

module _ {D : Type 0} (R F : Language D) where
  pub judged_ended : Begins R [] → ((d : D) → R [] d → ⊥) → Judged R F [] (Err (unexpected, 0))
  judged_ended alive none = (λ e h. none e h, record { front = []; rest = []; counts = refl; parts = refl; before = alive; blames = refl })

  -- a judged end shows that something begins here
  pub alive_of : (r : Result D Stop) → Judged R F [] r → Begins R []
  alive_of (Ok d) j = ([], d, j.0, tt)
  alive_of (Err s) j = alive_front j.1.front j.1.rest j.1.parts j.1.before
    where
      alive_front : (front rest : List Token) → [] ≡ front ++ rest → Begins R front → Begins R []
      alive_front [] rest e b = b
      alive_front (t ∷ front) rest e b = absurd cc

module _ {D : Type 0} (R F R' F' : Language D) where
  -- languages that are the same
  pub judged_same : ((ts : List Token) (d : D) → R ts d → R' ts d) → ((ts : List Token) (d : D) → R' ts d → R ts d) → ((ts : List Token) (d : D) → F ts d → F' ts d) → ((ts : List Token) (d : D) → F' ts d → F ts d) → (ts : List Token) (r : Result D Stop) → Judged R' F' ts r → Judged R F ts r
  judged_same down up down_free up_free ts (Ok d) j = (up ts d j.0, λ e h. j.1 e (down ts e h))
  judged_same down up down_free up_free ts (Err s) j = (
    λ e h. j.0 e (down ts e h),
    record {
      front = j.1.front;
      rest = j.1.rest;
      counts = j.1.counts;
      parts = j.1.parts;
      before = (j.1.before.0, j.1.before.1, up _ _ j.1.before.2, j.1.before.3);
      blames = blame j.1.front s.0 j.1.rest j.1.blames;
    },
  )
    where
      blame : (front : List Token) (trouble : Trouble) (rest : List Token) → Blames R' F' front trouble rest → Blames R F front trouble rest
      blame front trouble [] b = b
      blame front too_deep (bad ∷ rest) b = (λ h. b.0 (h.0, h.1, down _ _ h.2, h.3), (b.1.0, b.1.1, up_free _ _ b.1.2, b.1.3))
      blame front unexpected (bad ∷ rest) b = (λ h. b.0 (h.0, h.1, down _ _ h.2, h.3), λ h. b.1 (h.0, h.1, down_free _ _ h.2, h.3))

-- ---- where no token is taken: the languages agree from the next token on

at_token : {D : Type 0} (R R' : Language D) (t : Token) → ((ts : List Token) (d : D) → R (t ∷ ts) d → R' (t ∷ ts) d) → (u : Token) → t ≡ u → (ts : List Token) (d : D) → R (u ∷ ts) d → R' (u ∷ ts) d
at_token {D} R R' t down u e = let P : Token → Type 0 = λ x. (ts : List Token) (d : D) → R (x ∷ ts) d → R' (x ∷ ts) d in subst P e down

module _ {D : Type 0} (R F R' F' : Language D) (t : Token) where
  blame_here : ((u : Token) → t ≡ u → (ts : List Token) (d : D) → R (u ∷ ts) d → R' (u ∷ ts) d) → ((u : Token) → t ≡ u → (ts : List Token) (d : D) → F (u ∷ ts) d → F' (u ∷ ts) d) → ((ts : List Token) (d : D) → F' ts d → F ts d) → (front : List Token) (trouble : Trouble) (rest ts : List Token) → t ∷ ts ≡ front ++ rest → Blames R' F' front trouble rest → Blames R F front trouble rest
  blame_here down down_free up_free front trouble [] ts e b = b
  blame_here down down_free up_free [] too_deep (bad ∷ rest) ts e b =
      let same : t ≡ bad = cc in (λ h. b.0 (h.0, h.1, down bad same _ _ h.2, h.3), (b.1.0, b.1.1, up_free _ _ b.1.2, b.1.3))
  blame_here down down_free up_free [] unexpected (bad ∷ rest) ts e b =
      let same : t ≡ bad = cc in (λ h. b.0 (h.0, h.1, down bad same _ _ h.2, h.3), λ h. b.1 (h.0, h.1, down_free bad same _ _ h.2, h.3))
  blame_here down down_free up_free (u ∷ front) too_deep (bad ∷ rest) ts e b =
      let same : t ≡ u = cc in (λ h. b.0 (h.0, h.1, down u same _ _ h.2, h.3), (b.1.0, b.1.1, up_free _ _ b.1.2, b.1.3))
  blame_here down down_free up_free (u ∷ front) unexpected (bad ∷ rest) ts e b =
      let same : t ≡ u = cc in (λ h. b.0 (h.0, h.1, down u same _ _ h.2, h.3), λ h. b.1 (h.0, h.1, down_free u same _ _ h.2, h.3))

  pub judged_here : ((ts : List Token) (d : D) → R (t ∷ ts) d → R' (t ∷ ts) d) → ((ts : List Token) (d : D) → R' ts d → R ts d) → ((ts : List Token) (d : D) → F (t ∷ ts) d → F' (t ∷ ts) d) → ((ts : List Token) (d : D) → F' ts d → F ts d) → (ts : List Token) (r : Result D Stop) → Judged R' F' (t ∷ ts) r → Judged R F (t ∷ ts) r
  judged_here down up down_free up_free ts (Ok d) j = (up (t ∷ ts) d j.0, λ e h. j.1 e (down ts e h))
  judged_here down up down_free up_free ts (Err s) j = (
    λ e h. j.0 e (down ts e h),
    record {
      front = j.1.front;
      rest = j.1.rest;
      counts = j.1.counts;
      parts = j.1.parts;
      before = (j.1.before.0, j.1.before.1, up _ _ j.1.before.2, j.1.before.3);
      blames = blame_here (at_token R R' t down) (at_token F F' t down_free) up_free j.1.front s.0 j.1.rest ts j.1.parts j.1.blames;
    },
  )

module _ {D : Type 0} (R F R' F' : Language D) where
  blame_end : (front : List Token) (trouble : Trouble) (rest : List Token) → [] ≡ front ++ rest → Blames R' F' front trouble rest → Blames R F front trouble rest
  blame_end front trouble [] e b = b
  blame_end [] trouble (bad ∷ rest) e b = absurd cc
  blame_end (u ∷ front) trouble (bad ∷ rest) e b = absurd cc

  pub judged_end : ((d : D) → R [] d → R' [] d) → ((ts : List Token) (d : D) → R' ts d → R ts d) → (r : Result D Stop) → Judged R' F' [] r → Judged R F [] r
  judged_end down up (Ok d) j = (up [] d j.0, λ e h. j.1 e (down e h))
  judged_end down up (Err s) j = (
    λ e h. j.0 e (down e h),
    record {
      front = j.1.front;
      rest = j.1.rest;
      counts = j.1.counts;
      parts = j.1.parts;
      before = (j.1.before.0, j.1.before.1, up _ _ j.1.before.2, j.1.before.3);
      blames = blame_end j.1.front s.0 j.1.rest j.1.parts j.1.blames;
    },
  )
