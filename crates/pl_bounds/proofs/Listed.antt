-- The list of conflicts of links, and those of it that a move leaves.
use Rattle.std.proofs.Common.{◌≡◌, ℕ, suc, ◌≤◌, Bool, true, false, cond, List, [], ◌∷◌, ◌++◌, filter, length, Option, Some, None, refl, sym, ap, ◌∙◌, subst, append_assoc}
use Rattle.std.specs.Prelude.{option_to_list}
use Rattle.std.specs.List.{flat_map}
use Rattle.pl_conflict.specs.declared.conflict.Conflict.{Conflict}
use Rattle.pl_semantics.specs.declared.plan_state.PlanState.{PlanState}
use Rattle.pl_semantics.specs.Conflicts.{conflicts_of}
use Rattle.pl_bounds.specs.Remaining.{count_of_untouched, is_left, is_left_if, is_untouched, listed, listed_if, listed_links}
use Rattle.pl_bounds.specs.Standing.{IsStandingOf}
use Rattle.pl_bounds.specs.declared.link_conflicts.LinkConflict.{LinkConflict}
use Rattle.pl_bounds.specs.declared.standing.Standing.{Standing}

-- as many of the list are left as of the conflicts that stand
pub as_many_left : (s : PlanState) (gone kinds : List ℕ) (parent : Option ℕ) (ks : List Conflict) → length (filter (is_left gone kinds parent) (flat_map (listed_if s) ks)) ≡ length (filter (is_untouched s gone kinds parent) ks)
as_many_left s gone kinds parent [] = refl
as_many_left s gone kinds parent (k ∷ ks) = by (listed s k) (as_many_left s gone kinds parent ks)
  where
    by_left : (b : Bool) (x : LinkConflict) (xs : List LinkConflict) (qs : List Conflict) → length xs ≡ length qs → length (cond b (x ∷ xs) xs) ≡ length (cond b (k ∷ qs) qs)
    by_left true x xs qs e = ap (λ (n : ℕ). suc n) e
    by_left false x xs qs e = e

    by : (o : Option LinkConflict) → length (filter (is_left gone kinds parent) (flat_map (listed_if s) ks)) ≡ length (filter (is_untouched s gone kinds parent) ks)
        → length (filter (is_left gone kinds parent) (option_to_list o ++ flat_map (listed_if s) ks)) ≡ length (cond (is_left_if gone kinds parent o) (k ∷ filter (is_untouched s gone kinds parent) ks) (filter (is_untouched s gone kinds parent) ks))
    by None e = e
    by (Some x) e = by_left (is_left gone kinds parent x) x (filter (is_left gone kinds parent) (flat_map (listed_if s) ks)) (filter (is_untouched s gone kinds parent) ks) e

-- one more is listed
pub one_listed : (s : PlanState) (k : Conflict) (rest next : List Conflict) (all more whole : List LinkConflict) → rest ≡ k ∷ next → more ≡ all ++ option_to_list (listed s k) → all ++ flat_map (listed_if s) rest ≡ whole → more ++ flat_map (listed_if s) next ≡ whole
one_listed s k rest next all more whole is grown so_far =
    ap (λ (l : List LinkConflict). l ++ flat_map (listed_if s) next) grown
    ∙ (append_assoc all (option_to_list (listed s k)) (flat_map (listed_if s) next)
    ∙ (sym (ap (λ (l : List Conflict). all ++ flat_map (listed_if s) l) is) ∙ so_far))

-- no more are counted in the list than are left
pub few_left : (s : PlanState) (o : Standing) → IsStandingOf s o → (gone kinds : List ℕ) (parent : Option ℕ) (links : List LinkConflict) → links ≡ o.links.items → (n : ℕ) → n ≤ length (filter (is_left gone kinds parent) links) → n ≤ count_of_untouched s gone kinds parent
few_left s o of gone kinds parent links are n few =
    let all : links ≡ listed_links s = are ∙ of.links in
    let many : length (filter (is_left gone kinds parent) links) ≡ count_of_untouched s gone kinds parent = ap (λ (l : List LinkConflict). length (filter (is_left gone kinds parent) l)) all ∙ as_many_left s gone kinds parent (conflicts_of s) in
    subst (λ (m : ℕ). n ≤ m) many few
