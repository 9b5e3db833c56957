-- After as many rounds as there are parameters all values stand: after k rounds all of a rank below k do.
use Rattle.std.proofs.Common.{◌≡◌, ℕ, zero, suc, ◌+◌, ◌<◌, ◌≤◌, ℤ, List, [], ◌∷◌, length, get_or, replicate, Option, Some, None, refl, sym, ap, ◌∙◌, arith, ⊎_elim, zero-add}
use Rattle.std.proofs.lemmas.Bool.{cases_lt}
use Rattle.std.proofs.lemmas.List.{get_or_past, ext_get_or, length-replicate}
use Rattle.pl_model.specs.declared.expressions.Expr.{Expr}
use Rattle.pl_model.specs.declared.parameters.Param.{Param}
use Rattle.pl_model.specs.declared.parameters.Origin.{Origin}
use Rattle.pl_model.specs.declared.parameters.Origin.TheVariants.{Free, Dependent}
use Rattle.pl_model.specs.Checked.{AreParamsRanked, IsOriginRanked}
use Rattle.pl_model.proofs.Naming.{value_same}
use Rattle.pl_plan.specs.Values.{Row, binding_of, own_value, value_by, round_from, rounds, settled}
use Rattle.pl_plan.specs.Laws.{MeansValue}

-- what a round gives at a place
round_at : (m : ℕ) (ps : List Param) (set : Row) (bs : List (ℕ × Expr)) (above own : Row) (n : ℕ) (d : Param) → n < length ps → get_or (round_from m ps set bs above own) n None ≡ value_by (binding_of (m + n) bs) (get_or ps n d).origin (get_or set (m + n) None) above own
round_at m [] set bs above own n d lt = absurd (omega (arith, lt))
round_at m (p ∷ ps) set bs above own zero d lt =
    let is : m ≡ m + 0 = omega arith in
    ap (λ k. value_by (binding_of k bs) p.origin (get_or set k None) above own) is
round_at m (p ∷ ps) set bs above own (suc n) d lt =
    let is : suc m + n ≡ m + suc n = omega arith in
    round_at (suc m) ps set bs above own n d (omega (arith, lt)) ∙ ap (λ k. value_by (binding_of k bs) (get_or ps n d).origin (get_or set k None) above own) is

round_here : (ps : List Param) (set : Row) (bs : List (ℕ × Expr)) (above own : Row) (n : ℕ) (d : Param) → n < length ps → get_or (round_from 0 ps set bs above own) n None ≡ value_by (binding_of n bs) (get_or ps n d).origin (get_or set n None) above own
round_here ps set bs above own n d lt = round_at 0 ps set bs above own n d lt ∙ ap (λ k. value_by (binding_of k bs) (get_or ps n d).origin (get_or set k None) above own) (zero-add n)

-- some parameter, where there is one
one_of : (ps : List Param) (n : ℕ) → n < length ps → Param
one_of [] n lt = absurd (omega (arith, lt))
one_of (p ∷ ps) n lt = p

length-round : (m : ℕ) (ps : List Param) (set : Row) (bs : List (ℕ × Expr)) (above own : Row) → length (round_from m ps set bs above own) ≡ length ps
length-round m [] set bs above own = refl
length-round m (p ∷ ps) set bs above own = ap suc (length-round (suc m) ps set bs above own)

-- the rules for one parameter
pub means_by : (binding : Option Expr) (origin : Origin) (set : Option ℤ) (above own : Row) (v : Option ℤ) → v ≡ value_by binding origin set above own → MeansValue binding origin set above own v
means_by binding origin set above own v is = record {
  bound = λ e b. is ∙ ap (λ o. value_by o origin set above own) b;
  dependent = λ e b o. is ∙ (ap (λ x. value_by x origin set above own) b ∙ ap (λ x. own_value x set own) o);
  free = λ default b o. is ∙ (ap (λ x. value_by x origin set above own) b ∙ ap (λ x. own_value x set own) o);
}

pub by_means : (binding : Option Expr) (origin : Origin) (set : Option ℤ) (above own : Row) (v : Option ℤ) → MeansValue binding origin set above own v → v ≡ value_by binding origin set above own
by_means (Some e) origin set above own v means = means.bound e refl
by_means None (Dependent e) set above own v means = means.dependent e refl refl
by_means None (Free default) set above own v means = means.free default refl refl

module _ (ps : List Param) (set : Row) (bs : List (ℕ × Expr)) (above : Row) (ranks : AreParamsRanked ps) where
  round : Row → Row
  round own = round_from 0 ps set bs above own

  -- they agree at the ranks below
  Agree : ℕ → Row → Row → Type 0
  Agree r x y = (p : ℕ) → ranks.rank p < r → get_or x p None ≡ get_or y p None

  same_own : (o : Origin) (s : Option ℤ) (r : ℕ) (x y : Row) → IsOriginRanked ranks.rank r o → Agree r x y → own_value o s x ≡ own_value o s y
  unfolding Agree
  same_own (Free default) s r x y ranked agree = refl
  same_own (Dependent e) s r x y ranked agree = value_same ranks.rank r x y agree e ranked

  same_by : (b : Option Expr) (o : Origin) (s : Option ℤ) (x y : Row) → own_value o s x ≡ own_value o s y → value_by b o s above x ≡ value_by b o s above y
  same_by (Some e) o s x y is = refl
  same_by None o s x y is = is

  agree_more : (r : ℕ) (x y : Row) → Agree r x y → Agree (suc r) (round x) (round y)
  unfolding Agree round
  agree_more r x y agree p below = ⊎_elim (λ (lt : p < length ps). within lt) (λ (le : length ps ≤ p). past le) (cases_lt p (length ps))
    where
      within : p < length ps → get_or (round_from 0 ps set bs above x) p None ≡ get_or (round_from 0 ps set bs above y) p None
      within lt =
          let d = one_of ps p lt in
          let origin : Origin = (get_or ps p d).origin in
          let own : own_value origin (get_or set p None) x ≡ own_value origin (get_or set p None) y = same_own origin (get_or set p None) (ranks.rank p) x y (ranks.falls p d lt) (λ q less. agree q (omega (arith, less, below))) in
          round_here ps set bs above x p d lt ∙ (same_by (binding_of p bs) origin (get_or set p None) x y own ∙ sym (round_here ps set bs above y p d lt))

      past : length ps ≤ p → get_or (round_from 0 ps set bs above x) p None ≡ get_or (round_from 0 ps set bs above y) p None
      past le =
          get_or_past (round_from 0 ps set bs above x) p None (omega (arith, length-round 0 ps set bs above x, le))
          ∙ sym (get_or_past (round_from 0 ps set bs above y) p None (omega (arith, length-round 0 ps set bs above y, le)))

  agree_rounds : (n : ℕ) (x y : Row) → Agree n (rounds n round x) (rounds n round y)
  unfolding Agree
  agree_rounds zero x y = λ p below. absurd (omega (arith, below))
  agree_rounds (suc n) x y = agree_more n (rounds n round x) (rounds n round y) (agree_rounds n x y)

  length-rounds : (n : ℕ) (x : Row) → length x ≡ length ps → length (rounds n round x) ≡ length ps
  unfolding round
  length-rounds zero x len = len
  length-rounds (suc n) x len = length-round 0 ps set bs above (rounds n round x)

  -- from whatever is begun, all rounds come to the same
  same_rounds : (x y : Row) → length x ≡ length ps → length y ≡ length ps → rounds (length ps) round x ≡ rounds (length ps) round y
  unfolding Agree
  same_rounds x y p q =
      let n = length ps in
      let len = length-rounds n x p in
      ext_get_or None (rounds n round x) (rounds n round y) (len ∙ sym (length-rounds n y q)) (λ i lt. agree_rounds n x y i (ranks.below i (omega (arith, lt, len))))

  round_last : (n : ℕ) (x : Row) → rounds n round (round x) ≡ round (rounds n round x)
  round_last zero x = refl
  round_last (suc n) x = ap round (round_last n x)

  stays : (n : ℕ) (x : Row) → round x ≡ x → rounds n round x ≡ x
  stays zero x is = refl
  stays (suc n) x is = ap round (stays n x is) ∙ is

  none : Row
  none = replicate (length ps) None

  -- one round more changes nothing
  pub settled_stays : round_from 0 ps set bs above (settled ps set bs above) ≡ settled ps set bs above
  unfolding round none
  settled_stays = sym (round_last (length ps) none) ∙ same_rounds (round none) none (length-round 0 ps set bs above none) (length-replicate (length ps) None)

  pub length-settled : length (settled ps set bs above) ≡ length ps
  unfolding round none
  length-settled = length-rounds (length ps) none (length-replicate (length ps) None)

  -- what a round leaves is what the rounds come to
  pub settled_only : (x : Row) → length x ≡ length ps → round_from 0 ps set bs above x ≡ x → x ≡ settled ps set bs above
  unfolding round none
  settled_only x len is = sym (stays (length ps) x is) ∙ same_rounds x none len (length-replicate (length ps) None)

  -- the settled values have their meanings
  pub settled_means : (n : ℕ) (d : Param) → n < length ps → MeansValue (binding_of n bs) (get_or ps n d).origin (get_or set n None) above (settled ps set bs above) (get_or (settled ps set bs above) n None)
  settled_means n d lt =
      let row = settled ps set bs above in
      means_by (binding_of n bs) (get_or ps n d).origin (get_or set n None) above row (get_or row n None)
      (sym (ap (λ l. get_or l n None) settled_stays) ∙ round_here ps set bs above row n d lt)

  -- and what has its meanings is settled
  pub meant_settled : (x : Row) → length x ≡ length ps → ((n : ℕ) (d : Param) → n < length ps → MeansValue (binding_of n bs) (get_or ps n d).origin (get_or set n None) above x (get_or x n None)) → x ≡ settled ps set bs above
  meant_settled x len means = settled_only x len (ext_get_or None (round_from 0 ps set bs above x) x (length-round 0 ps set bs above x ∙ sym len) (λ i lt. at i (omega (arith, lt, length-round 0 ps set bs above x))))
    where
      at : (i : ℕ) → i < length ps → get_or (round_from 0 ps set bs above x) i None ≡ get_or x i None
      at i lt =
          let d = one_of ps i lt in
          round_here ps set bs above x i d lt ∙ sym (by_means (binding_of i bs) (get_or ps i d).origin (get_or set i None) above x (get_or x i None) (means i d lt))
