-- Broken spans in groups, one for each must.
use Rattle.std.proofs.Common.{◌≡◌, ℕ, zero, suc, ◌+◌, true, List, [], ◌∷◌, ◌++◌, drop, refl, ap, sym, ◌∙◌, arith}
use Rattle.std.proofs.lemmas.List.{append_assoc}
use Rattle.std.proofs.Math.Seq.{drop-nil}
use Rattle.pl_lists.proofs.Numbers.{eqb_itself}
use Rattle.pl_state.specs.declared.reservation.Must.{Must}
use Rattle.pl_state.specs.declared.answer.BrokenMust.{BrokenMust}
use Rattle.pl_state.specs.declared.answer.BadSet.{BadSet}
use Rattle.pl_state.specs.Musts.{broken_one, broken_all}
use Rattle.pl_state.specs.Timelines.{same_broken, same_bad}
use Rattle.pl_state.specs.Near.{all_of}

pub broken_itself : (x : BrokenMust) → same_broken x x ≡ true
broken_itself x = rw (eqb_itself x.id) (rw (eqb_itself x.index) (rw (eqb_itself x.from) (eqb_itself x.to)))

pub bad_itself : (x : BadSet) → same_bad x x ≡ true
bad_itself x = rw (eqb_itself x.at) (rw (eqb_itself x.id) (eqb_itself x.index))

pub all_is : (state : ℕ → ℕ) (moment horizon : ℕ) (ms : List Must) → broken_all state moment horizon ms ≡ all_of (broken_one state moment horizon) ms
all_is state moment horizon [] = refl
all_is state moment horizon (m ∷ ms) = ap (λ l. broken_one state moment horizon m ++ l) (all_is state moment horizon ms)

pub drop_drop : {T : Type 0} (k n : ℕ) (b : List T) → drop n (drop k b) ≡ drop (k + n) b
drop_drop zero n b = let e : n ≡ 0 + n = omega arith in ap (λ m. drop m b) e
drop_drop (suc k) n [] = drop-nil n ∙ sym (drop-nil (suc k + n))
drop_drop (suc k) n (x ∷ b) = let e : suc (k + n) ≡ suc k + n = omega arith in drop_drop k n b ∙ ap (λ m. drop m (x ∷ b)) e

-- the broken spans of two lists of musts
pub all_append : (F : Must → List BrokenMust) (xs ys : List Must) → all_of F (xs ++ ys) ≡ all_of F xs ++ all_of F ys
all_append F [] ys = refl
all_append F (x ∷ xs) ys = ap (λ l. F x ++ l) (all_append F xs ys) ∙ sym (append_assoc (F x) (all_of F xs) (all_of F ys))
