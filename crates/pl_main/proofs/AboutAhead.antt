-- The words of a run that looks ahead.
use Rattle.std.proofs.Common.{◌≡◌, ℕ, ◌≤◌, List, [], ◌∷◌, ◌&&◌, Option, Some, None, nat_le, codes, map, subst}
use Rattle.std.specs.Prelude.{IfSome}
use Rattle.std.proofs.lemmas.Bool.{leb-true, and_parts}
use Rattle.std.specs.Str.{bytes_eq}
use Rattle.std.specs.String.{string_bytes}
use Rattle.std.specs.declared.string.String.{String}
use Rattle.std.specs.declared.alloc.Global.{Global}
use Rattle.pl_main.specs.declared.command.Ahead.{Ahead}
use Rattle.pl_main.specs.Numbers.{number_in}
use Rattle.pl_main.specs.Ahead.{ahead_by, ahead_in, ahead_of}
use Rattle.pl_main.proofs.Wording.{tested}

abbrev Fits : Ahead → Type 0
Fits a = (1 ≤ a.turns) × (a.turns ≤ 1000)

by_numbers : (turns worlds : Option ℕ) → IfSome (ahead_by turns worlds) Fits
by_numbers None worlds = tt
by_numbers (Some turns) None = tt
by_numbers (Some turns) (Some worlds) =
    tested Fits (nat_le 1 turns && (nat_le turns 1000 && nat_le worlds 1000000)) (Some (record { turns = turns; worlds = worlds }))
    (λ is.
    let low = and_parts (nat_le 1 turns) (nat_le turns 1000 && nat_le worlds 1000000) is in
    let high = and_parts (nat_le turns 1000) (nat_le worlds 1000000) low.1 in
    (leb-true 1 turns low.0, leb-true turns 1000 high.0))

by_words : (words : List (List ℕ)) → IfSome (ahead_in words) Fits
by_words (run ∷ turns ∷ worlds ∷ []) = tested Fits (bytes_eq run (codes "run")) (ahead_by (number_in turns) (number_in worlds)) (λ _. by_numbers (number_in turns) (number_in worlds))
by_words [] = tt
by_words (x ∷ []) = tt
by_words (x ∷ y ∷ []) = tt
by_words (x ∷ y ∷ z ∷ u ∷ more) = tt

pub ahead_fits : (words : List (String Global)) (a : Ahead) → ahead_of words ≡ Some a → (1 ≤ a.turns) × (a.turns ≤ 1000)
unfolding ahead_of
ahead_fits words a is = subst (λ (o : Option Ahead). IfSome o Fits) is (by_words (map string_bytes words))
