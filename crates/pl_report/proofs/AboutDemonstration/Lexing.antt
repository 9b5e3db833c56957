-- The tokens of the text.
use Rattle.std.proofs.Common.{◌≡◌, ℕ, ◌+◌, List, [], ◌∷◌, Ok, refl}
use Rattle.pl_text.specs.declared.token.TokenKind.TheVariants as kind
use Rattle.pl_text.specs.declared.token.Token.{Token}
use Rattle.pl_text.specs.Bytes.{class_of}
use Rattle.pl_text.specs.Tokens.{lexeme_of, tokens_at, tokens_of}
use Rattle.pl_report.specs.DemoModel.{demo_words}

-- a word, a number and a brace, by their places

abbrev named : ℕ → ℕ → Token
named from to = record { kind = kind.Name; from = from; to = to }

abbrev figure : ℕ → ℕ → ℕ → Token
figure n from to = record { kind = kind.Number n; from = from; to = to }

abbrev mark : ℕ → ℕ → Token
mark b from = record { kind = kind.Symbol b; from = from; to = from + 1 }

abbrev pub demo_tokens : List Token
demo_tokens =
    named 0 7 ∷ figure 1000000 8 15
    ∷ named 16 20 ∷ figure 100 21 24
    ∷ named 25 33 ∷ named 34 37 ∷ figure 10 38 40
    ∷ named 41 46 ∷ named 47 50 ∷ figure 0 51 52 ∷ figure 1000 53 57 ∷ figure 500 58 61
    ∷ named 62 66 ∷ named 67 70 ∷ mark 123 71 ∷ named 73 81 ∷ figure 5 82 83 ∷ named 84 87 ∷ named 88 91 ∷ figure 6 92 93 ∷ named 94 99 ∷ named 100 103 ∷ figure 3 104 105 ∷ named 106 108 ∷ named 109 112 ∷ mark 125 113
    ∷ named 115 119 ∷ named 120 124 ∷ mark 123 125 ∷ named 127 135 ∷ figure 4 136 137 ∷ named 138 141 ∷ named 142 145 ∷ figure 4 146 147 ∷ mark 125 148
    ∷ named 150 154 ∷ named 155 161 ∷ mark 123 162 ∷ named 164 172 ∷ figure 10 173 175 ∷ named 176 181 ∷ named 182 185 ∷ figure 200 186 189 ∷ named 190 192 ∷ named 193 196 ∷ mark 125 197
    ∷ named 199 203 ∷ named 204 208 ∷ mark 123 209 ∷ named 211 219 ∷ figure 10 220 222 ∷ named 223 234 ∷ mark 123 235
    ∷ named 237 241 ∷ named 242 243 ∷ named 244 248 ∷ named 249 253 ∷ named 254 255 ∷ named 256 260
    ∷ named 261 266 ∷ named 267 268 ∷ named 269 272 ∷ named 273 274 ∷ named 275 280 ∷ figure 0 281 282 ∷ figure 3 283 284 ∷ mark 125 285 ∷ mark 125 287
    ∷ []

pub demo_lexed : tokens_of demo_words ≡ Ok demo_tokens
unfolding demo_words tokens_at lexeme_of class_of
demo_lexed = refl
