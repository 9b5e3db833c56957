-- What tells the names of a model apart.
use Rattle.std.proofs.Common.{◌≡◌, ◌≢◌, ℕ, zero, suc, ◌<◌, true, cond, List, [], ◌∷◌, map, length, get_or, refl, ap, ◌∙◌, arith}
use Rattle.std.specs.List.{AllPairs, AllByRecursion}
use Rattle.pl_model.specs.declared.kinds.Kind.{Kind}
use Rattle.pl_model.specs.declared.parameters.Param.{Param}
use Rattle.pl_model.specs.declared.whole.Model.{Model}
use Rattle.std.specs.Prelude.{slice_get}
use Rattle.std.specs.Option.{option_map_or}
use Rattle.pl_journal.specs.Rendering.Lines.{kind_name, kind_params}
use Rattle.pl_journal.proofs.AboutRendering.Cutting.{lacks}
use Rattle.pl_journal.proofs.AboutRendering.Plain.{plain}
use Rattle.pl_journal.proofs.AboutRendering.Finding.{same, same_itself, same_not}

abbrev pub Differ : List (List ℕ) → Type 0
Differ xs = AllPairs (λ x y. x ≢ y) xs

abbrev pub kind_names : Model → List (List ℕ)
kind_names m = map (λ k. k.name) m.kinds

abbrev pub param_names : List Param → List (List ℕ)
param_names ps = map (λ p. p.name) ps

-- a word that has no sign of equality
abbrev pub IsPlainName : Param → Type 0
IsPlainName p = (plain p.name ≡ true) × (lacks 61 p.name ≡ true)

-- kinds and the parameters of each differ by their names, and their names are words
pub record AreTold (m : Model) : Type 0 where
  pub kinds : Differ (kind_names m)
  pub kind_plain : (kind : ℕ) → plain (kind_name m kind) ≡ true
  pub params : (kind : ℕ) → Differ (param_names (kind_params m kind))
  pub params_plain : (kind : ℕ) → AllByRecursion IsPlainName (kind_params m kind)

-- ---- a name found

abbrev pub index_of : List (List ℕ) → List ℕ → ℕ
index_of [] w = 0
index_of (n ∷ ns) w = cond (same n w) 0 (suc (index_of ns w))

pub index_found : (ns : List (List ℕ)) (i : ℕ) → Differ ns → i < length ns → index_of ns (get_or ns i []) ≡ i
index_found [] i d l = absurd (omega arith)
index_found (n ∷ ns) zero d l = rw (same_itself n) refl
index_found (n ∷ ns) (suc i) d l =
    let apart : n ≢ get_or ns i [] = d 0 (suc i) [] (omega arith) l in
    rw (same_not n (get_or ns i []) apart) (ap (λ (k : ℕ). suc k) (index_found ns i (λ a b e lt within. d (suc a) (suc b) e (omega arith) (omega arith)) (omega arith)))

name_at : (ks : List Kind) (i : ℕ) → option_map_or (λ k. k.name) (slice_get ks i) [] ≡ get_or (map (λ k. k.name) ks) i []
name_at [] i = refl
name_at (k ∷ ks) zero = refl
name_at (k ∷ ks) (suc i) = name_at ks i

length_names : (ks : List Kind) → length (map (λ k. k.name) ks) ≡ length ks
length_names [] = refl
length_names (k ∷ ks) = ap (λ (n : ℕ). suc n) (length_names ks)

pub kind_found : (m : Model) (kind : ℕ) → AreTold m → kind < length m.kinds → index_of (kind_names m) (kind_name m kind) ≡ kind
kind_found m kind told l =
    ap (λ (w : List ℕ). index_of (kind_names m) w) (name_at m.kinds kind) ∙ index_found (kind_names m) kind told.kinds (omega (arith, length_names m.kinds))

-- the first of names differs from each later one
pub first_differs : (n : List ℕ) (ns : List (List ℕ)) → Differ (n ∷ ns) → AllByRecursion (λ x. n ≢ x) ns
first_differs n [] d = tt
first_differs n (x ∷ ns) d = (d 0 1 [] (omega arith) (omega arith), first_differs n ns (without_second d))
  where
    without_second : Differ (n ∷ x ∷ ns) → Differ (n ∷ ns)
    without_second d zero zero e lt within = absurd (omega arith)
    without_second d zero (suc b) e lt within = d 0 (suc (suc b)) e (omega arith) (omega arith)
    without_second d (suc a) zero e lt within = absurd (omega arith)
    without_second d (suc a) (suc b) e lt within = d (suc (suc a)) (suc (suc b)) e (omega arith) (omega arith)

pub rest_differ : (n : List ℕ) (ns : List (List ℕ)) → Differ (n ∷ ns) → Differ ns
rest_differ n ns d a b e lt within = d (suc a) (suc b) e (omega arith) (omega arith)
