-- A kind found by its name.
use Rattle.std.proofs.Common.{◌≡◌, ◌≢◌, ℕ, zero, suc, ◌+◌, ◌<◌, List, [], ◌∷◌, map, length, get_or, Option, Some, Ok, refl, sym, ap, ◌∙◌, arith}
use Rattle.std.specs.Prelude.{slice_get}
use Rattle.std.specs.Option.{option_map_or}
use Rattle.pl_model.specs.declared.kinds.Kind.{Kind}
use Rattle.pl_model.specs.declared.whole.Model.{Model}
use Rattle.pl_journal.specs.Rendering.Lines.{kind_name, kind_params}
use Rattle.pl_journal.proofs.AboutRendering.Told.{Differ, AreTold}
use Rattle.pl_journal.specs.Parsing.Reads.{Read}
use Rattle.pl_journal.specs.Parsing.Moves.{kind_from, kind_named}
use Rattle.pl_journal.proofs.AboutParsing.Telling.{text_itself, text_not}

abbrev name_of : Option Kind → List ℕ
name_of k = option_map_or (λ k. k.name) k []

name_at : (ks : List Kind) (i : ℕ) → name_of (slice_get ks i) ≡ get_or (map (λ k. k.name) ks) i []
name_at [] i = refl
name_at (k ∷ ks) zero = refl
name_at (k ∷ ks) (suc i) = name_at ks i

kind_at : (ks : List Kind) (i place : ℕ) (k : Kind) → Differ (map (λ k. k.name) ks) → slice_get ks i ≡ Some k → kind_from k.name place ks ≡ Ok (place + i, k)
kind_at [] i place k d e = absurd cc
kind_at (x ∷ ks) zero place k d e =
    let same : x ≡ k = cc in
    let number : place + 0 ≡ place = omega arith in
    rw (same, text_itself k.name, number) refl
kind_at (x ∷ ks) (suc i) place k d e =
    let within : i < length (map (λ k. k.name) ks) = is_within ks i k e in
    let named : get_or (map (λ k. k.name) ks) i [] ≡ k.name = sym (name_at ks i) ∙ ap name_of e in
    let apart : x.name ≢ get_or (map (λ k. k.name) ks) i [] = d 0 (suc i) [] (omega arith) (omega arith) in
    let differs : x.name ≢ k.name = λ same. apart (same ∙ sym named) in
    let number : place + suc i ≡ place + 1 + i = omega arith in
    rw (text_not x.name k.name differs, number) (kind_at ks i (place + 1) k (λ a b e lt in_range. d (suc a) (suc b) e (omega arith) (omega arith)) e)
  where
    is_within : (ks : List Kind) (i : ℕ) (k : Kind) → slice_get ks i ≡ Some k → i < length (map (λ k. k.name) ks)
    is_within [] i k e = absurd cc
    is_within (y ∷ ks) zero k e = omega arith
    is_within (y ∷ ks) (suc i) k e = omega (arith, is_within ks i k e)

pub record IsKindOf (m : Model) (kind : ℕ) (k : Kind) : Type 0 where
  pub there : slice_get m.kinds kind ≡ Some k
  pub found : kind_named m (kind_name m kind) ≡ Ok (kind, k)
  pub params : kind_params m kind ≡ k.params

pub kind_back : (m : Model) (kind : ℕ) (k : Kind) → AreTold m → slice_get m.kinds kind ≡ Some k → IsKindOf m kind k
unfolding kind_named
kind_back m kind k told e =
    let name : kind_name m kind ≡ k.name = ap name_of e in
    let number : 0 + kind ≡ kind = omega arith in
    record {
      there = e;
      found = ap (λ (w : List ℕ). kind_from w 0 m.kinds) name ∙ kind_at m.kinds kind 0 k told.kinds e ∙ ap (λ (n : ℕ). let r : Read (ℕ × Kind) = Ok (n, k) in r) number;
      params = ap (λ (o : Option Kind). option_map_or (λ k. k.params) o []) e;
    }

pub kind_there : (ks : List Kind) (i : ℕ) → i < length ks → (k : Kind) × (slice_get ks i ≡ Some k)
kind_there [] i h = absurd (omega arith)
kind_there (k ∷ ks) zero h = (k, refl)
kind_there (k ∷ ks) (suc i) h = kind_there ks i (omega arith)
