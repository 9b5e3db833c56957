-- Forms of a grammar by their tokens. A form is spelled with what is behind it.
use Rattle.std.specs.Prelude.{List, [], ◌∷◌}
use Rattle.pl_syntax.specs.declared.token.Token.{Token}

-- { x }
abbrev pub spell_many : {I : Type 0} → (I → List Token → List Token) → List I → List Token → List Token
spell_many spell [] rest = rest
spell_many spell (x ∷ xs) rest = spell x (spell_many spell xs rest)

abbrev pub AllFit : {I : Type 0} → (I → Type 0) → List I → Type 0
AllFit ok [] = Unit {0}
AllFit ok (x ∷ xs) = ok x × AllFit ok xs
