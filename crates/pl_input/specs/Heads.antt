-- The model's text at the front of an input.
use Rattle.std.specs.Prelude.{◌≡◌, ℕ, ◌≤◌, ◌<◌, List, [], ◌∷◌, ◌++◌, length, true, false, Option, Some, None, Result, Ok, Err}
use Rattle.std.specs.List.{flat_map}
use Rattle.std.specs.declared.vec.Vec.{Vec}
use Rattle.std.specs.declared.alloc.Global.{Global}
use Rattle.pl_io.specs.declared.errors.LineFault.{LineFault}
use Rattle.pl_io.specs.Reader.{Reader}
use Rattle.pl_io.specs.Lines.{with_newline}
use Rattle.pl_input.specs.Words.{is_line_of, begin_word, model_text_of, lines_behind}
use Rattle.pl_input.specs.declared.found.Found.{Found}
use Rattle.pl_input.specs.declared.found.Found.TheVariants as found
use Rattle.pl_input.specs.declared.found.Head.{Head}
use Rattle.pl_input.specs.declared.found.Head.TheVariants as head
use Rattle.pl_input.specs.Reads.{ReadsLines, Halts, IsUsedUp}

abbrev pub text_limit : ℕ
text_limit = 1048576

-- a text, or nothing where it is too long to be kept
abbrev pub Keeps : Option (Vec ℕ Global) → List ℕ → Type 0
Keeps (Some kept) text = (kept.items ≡ text) × (length text ≤ text_limit)
Keeps None text = text_limit < length text

-- lines up to and with the first `begin` line, with the text before it
pub record IsHead (lines : List (List ℕ)) (words : List ℕ) : Type 0 where
  pub text : model_text_of lines ≡ Some words
  pub behind : lines_behind lines ≡ []

-- the text of lines
abbrev pub text_of_lines : List (List ℕ) → List ℕ
text_of_lines lines = flat_map with_newline lines

-- The lines so far, none of them `begin`, and what is kept of them.
pub record IsBefore (old : Reader) (before : Option (List ℕ)) (kept : Option (Vec ℕ Global)) (new : Reader) (after : Option (List ℕ)) : Type 0 where
  pub lines : List (List ℕ)
  pub took : ReadsLines old before lines new after
  pub none : model_text_of lines ≡ None
  pub keeps : Keeps kept (text_of_lines lines)

-- The lines up to and with `begin`, and what is kept of their text.
pub record IsBegun (old : Reader) (before : Option (List ℕ)) (kept : Option (Vec ℕ Global)) (new : Reader) (after : Option (List ℕ)) : Type 0 where
  pub lines : List (List ℕ)
  pub words : List ℕ
  pub took : ReadsLines old before lines new after
  pub head : IsHead lines words
  pub keeps : Keeps kept words

-- All lines, none of them `begin`.
pub record HasNoBegin (old : Reader) (before : Option (List ℕ)) (new : Reader) (after : Option (List ℕ)) : Type 0 where
  pub lines : List (List ℕ)
  pub took : ReadsLines old before lines new after
  pub none : model_text_of lines ≡ None
  pub used_up : IsUsedUp before after

-- The reader stopped before a `begin` line.
pub record HeadHalts (old : Reader) (before : Option (List ℕ)) (f : LineFault) (new : Reader) (after : Option (List ℕ)) : Type 0 where
  pub lines : List (List ℕ)
  pub halts : Halts old before lines f new after
  pub none : model_text_of lines ≡ None

-- One more line, which isn't `begin`.
pub record ReadsTextLine (old : Reader) (before : Option (List ℕ)) (kept more : Option (Vec ℕ Global)) (new : Reader) (after : Option (List ℕ)) : Type 0 where
  pub line : List ℕ
  pub took : ReadsLines old before (line ∷ []) new after
  pub less : new.room < old.room
  pub other : is_line_of begin_word line ≡ false
  pub keeps : (text : List ℕ) → Keeps kept text → Keeps more (text ++ with_newline line)

-- The `begin` line.
pub record ReadsBeginLine (old : Reader) (before : Option (List ℕ)) (kept whole : Option (Vec ℕ Global)) (new : Reader) (after : Option (List ℕ)) : Type 0 where
  pub line : List ℕ
  pub took : ReadsLines old before (line ∷ []) new after
  pub begins : is_line_of begin_word line ≡ true
  pub keeps : (text : List ℕ) → Keeps kept text → Keeps whole text

abbrev pub ReadsHeadLine : Reader → Option (List ℕ) → Option (Vec ℕ Global) → Result Found LineFault → Reader → Option (List ℕ) → Type 0
ReadsHeadLine old before kept (Ok (found.More more)) new after = ReadsTextLine old before kept more new after
ReadsHeadLine old before kept (Ok (found.Text whole)) new after = ReadsBeginLine old before kept whole new after
ReadsHeadLine old before kept (Ok found.NoBegin) new after = ReadsLines old before [] new after × IsUsedUp before after
ReadsHeadLine old before kept (Err f) new after = Halts old before [] f new after

-- what a line of the text is, beside what was kept
abbrev pub FindsInLine : List ℕ → Option (Vec ℕ Global) → Found → Type 0
FindsInLine line kept (found.More more) = (is_line_of begin_word line ≡ false) × ((text : List ℕ) → Keeps kept text → Keeps more (text ++ with_newline line))
FindsInLine line kept (found.Text whole) = (is_line_of begin_word line ≡ true) × ((text : List ℕ) → Keeps kept text → Keeps whole text)
FindsInLine line kept found.NoBegin = ⊥

abbrev pub HeadGives : Reader → Option (List ℕ) → Result Head LineFault → Reader → Option (List ℕ) → Type 0
HeadGives old before (Ok (head.Text kept)) new after = IsBegun old before kept new after
HeadGives old before (Ok head.NoBegin) new after = HasNoBegin old before new after
HeadGives old before (Err f) new after = HeadHalts old before f new after
