-- Items made one after the other, as a loop goes.
use Rattle.std.proofs.Common.{◌≡◌, List, [], ◌∷◌, ◌++◌, Ok, Err, refl, sym, ap, ◌∙◌}
use Rattle.std.proofs.lemmas.List.{append-nil}
use Rattle.pl_lists.specs.Judgements.{◌>>=◌, each_made, behind}
use Rattle.pl_lists.proofs.Judging.{behind-cons}
use Rattle.pl_check.specs.Judgements.{Judged}

-- what is made of each item, behind what is made already, or the first fault
abbrev pub each_made_from : {X Y : Type 0} → (X → Judged Y) → List Y → List X → Judged (List Y)
each_made_from make made [] = Ok made
each_made_from make made (x ∷ xs) = make x >>= λ y. each_made_from make (made ++ y ∷ []) xs

module _ {X Y : Type 0} (make : X → Judged Y) where
  made_behind : (made : List Y) (xs : List X) → each_made_from make made xs ≡ behind made (each_made make xs)
  made_behind made [] = ap Ok (sym (append-nil made))
  made_behind made (x ∷ xs) = by (make x) (λ y. made_behind (made ++ y ∷ []) xs)
    where
      by : (r : Judged Y)
          → ((y : Y) → each_made_from make (made ++ y ∷ []) xs ≡ behind (made ++ y ∷ []) (each_made make xs))
          → (r >>= λ y. each_made_from make (made ++ y ∷ []) xs)
          ≡ behind made (r >>= λ y. each_made make xs >>= λ ys. Ok (y ∷ ys))
      by (Ok y) rest = rest y ∙ sym (behind-cons made y (each_made make xs))
      by (Err e) rest = refl

  -- with nothing made yet
  pub made_whole : (made : List Y) (xs : List X) → made ≡ [] → each_made_from make made xs ≡ each_made make xs
  made_whole made xs none = made_behind made xs ∙ ap (λ l. behind l (each_made make xs)) none ∙ by (each_made make xs)
    where
      by : (r : Judged (List Y)) → behind [] r ≡ r
      by (Ok ys) = refl
      by (Err e) = refl
