-- The links of activities in whose window a moment lies.
use Rattle.std.proofs.Common.{◌≡◌, ℕ, ◌<◌, ◌^◌, eqb, Bool, List, [], ◌∷◌, Option, Some, None, refl, sym, ap, ◌∙◌, arith, map, filter}
use Rattle.std.specs.Prelude.{◌&&◌, All}
use Rattle.std.proofs.lemmas.List.Elements.{All-weaker}
use Rattle.std.proofs.Math.Bool.{and-false}
use Rattle.pl_links.specs.declared.keys.Key.{Key}
use Rattle.pl_links.specs.declared.broken.Broken.{Broken}
use Rattle.pl_links.specs.Windows.{in_window}
use Rattle.pl_links.specs.Keys.{lies_in, IsShort, AreShort}
use Rattle.pl_links.proofs.Anys.{filter_alike}

pub filter_within : (group : ℕ) (w : Option (ℕ × ℕ)) (lies : ℕ → Bool) (keys : List Key) → AreShort keys
    → ((m : ℕ) → m < 2 ^ 32 → in_window w m ≡ lies m)
    → filter (lies_in group w) keys ≡ filter (λ k. eqb k.group group && lies k.number) keys
filter_within group w lies keys short within =
    filter_alike (lies_in group w) (λ k. eqb k.group group && lies k.number) keys
    (All-weaker IsShort (λ k. lies_in group w k ≡ (eqb k.group group && lies k.number)) (λ k s. ap (λ b. eqb k.group group && b) (within k.number s.0)) keys short)

pub filter_none : (group : ℕ) (keys : List Key) → filter (lies_in group None) keys ≡ []
filter_none group [] = refl
filter_none group (k ∷ keys) = rw (and-false (eqb k.group group)) (filter_none group keys)
