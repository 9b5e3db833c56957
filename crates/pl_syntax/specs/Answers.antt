-- What reading a model text answers: the tree of exactly the texts of the grammar, and otherwise the first fault.
use Rattle.std.specs.Prelude.{◌≡◌, ℕ, ◌<◌, ◌≤◌, ◌-◌, List, length, Result, Ok, Err}
use Rattle.pl_text.specs.declared.token.Token.{Token as Piece}
use Rattle.pl_text.specs.declared.fault.TextFault.{TextFault}
use Rattle.pl_text.specs.declared.fault.TextFault.TheVariants as text_fault
use Rattle.pl_text.specs.Tokens.{tokens_of}
use Rattle.pl_syntax.specs.Faults.{Trouble, too_deep, unexpected, IsFirstBad}
use Rattle.pl_syntax.specs.declared.whole.Ast.{Ast}
use Rattle.pl_syntax.specs.declared.fault.SyntaxFault.{SyntaxFault}
use Rattle.pl_syntax.specs.declared.fault.SyntaxFault.TheVariants as fault
use Rattle.pl_syntax.specs.declared.fault.Stopped.{Stopped}
use Rattle.pl_syntax.specs.declared.fault.Stopped.TheVariants as stopped
use Rattle.pl_syntax.specs.Expressions.{limits}
use Rattle.pl_syntax.specs.Grammar.{Reads, ReadsFree}
use Rattle.pl_syntax.specs.Marks.{marks_of, place_of}

abbrev pub longest : ℕ
longest = 1048576

-- the text is one of the grammar, and this is its tree
pub record ReadsText (text : List ℕ) (ast : Ast) : Type 0 where
  pub tokens : List Piece
  pub lexed : tokens_of text ≡ Ok tokens
  pub reads : Reads limits (marks_of text tokens) ast

-- The first token with which no text of the grammar goes on stands at this place. Where there is none, it is the end.
pub record IsFirstBadAt (text : List ℕ) (trouble : Trouble) (at : ℕ) : Type 0 where
  pub tokens : List Piece
  pub lexed : tokens_of text ≡ Ok tokens
  pub index : ℕ
  pub first : IsFirstBad (Reads limits) ReadsFree (marks_of text tokens) trouble index
  pub place : at ≡ place_of tokens index (length text)

-- the answer for a text that is not too long
abbrev pub AnswersShort : List ℕ → Result Ast SyntaxFault → Type 0
AnswersShort text (Ok ast) = ReadsText text ast × ((other : Ast) → ReadsText text other → ast ≡ other)
AnswersShort text (Err fault.TooLong) = ⊥
AnswersShort text (Err (fault.BadByte at)) = tokens_of text ≡ Err (text_fault.BadByte at)
AnswersShort text (Err (fault.BadNumber at)) = tokens_of text ≡ Err (text_fault.BadNumber at)
AnswersShort text (Err (fault.BadName at)) = tokens_of text ≡ Err (text_fault.BadName at)
AnswersShort text (Err (fault.TooDeep at)) = IsFirstBadAt text too_deep at
AnswersShort text (Err (fault.Unexpected at)) = IsFirstBadAt text unexpected at
AnswersShort text (Err fault.Memory) = Unit {0}

abbrev pub Answers : List ℕ → Result Ast SyntaxFault → Type 0
Answers text (Err fault.TooLong) = longest < length text
Answers text (Err fault.Memory) = Unit {0}
Answers text result = (length text ≤ longest) × AnswersShort text result

-- want of memory, and nothing else
abbrev pub IsMemory : SyntaxFault → Type 0
IsMemory fault.Memory = Unit {0}
IsMemory _ = ⊥

-- this tree, unless memory runs out
abbrev pub IsTree : Ast → Result Ast SyntaxFault → Type 0
IsTree ast (Ok found) = found ≡ ast
IsTree ast (Err e) = IsMemory e

abbrev pub fault_of : TextFault → SyntaxFault
fault_of (text_fault.BadByte at) = fault.BadByte at
fault_of (text_fault.BadNumber at) = fault.BadNumber at
fault_of (text_fault.BadName at) = fault.BadName at
fault_of text_fault.Memory = fault.Memory

-- the fault with so many tokens left
abbrev pub placed : Stopped → List Piece → ℕ → SyntaxFault
placed (stopped.TooDeep left) ts end = fault.TooDeep (place_of ts (length ts - left) end)
placed (stopped.Unexpected left) ts end = fault.Unexpected (place_of ts (length ts - left) end)
placed stopped.Memory ts end = fault.Memory

-- the answer for a text with these tokens
abbrev pub AnswersTokens : List ℕ → List Piece → Result Ast SyntaxFault → Type 0
AnswersTokens text ts result = tokens_of text ≡ Ok ts → AnswersShort text result
