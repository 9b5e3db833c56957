-- What the reader of the tokens answers is the answer for the text.
use Rattle.std.proofs.Common.{◌≡◌, ℕ, zero, suc, ◌-◌, ◌<◌, ◌≤◌, List, [], ◌∷◌, length, get_or, Result, Ok, Err, refl, sym, ap, subst, ◌∙◌, arith}
use Rattle.pl_text.specs.declared.token.Token.{Token as Piece}
use Rattle.pl_text.specs.Tokens.{tokens_of}
use Rattle.pl_syntax.specs.declared.token.Token.{Token}
use Rattle.pl_syntax.specs.Faults.{Trouble, too_deep, unexpected, Stop, Judged, IsFirstBad}
use Rattle.pl_syntax.specs.declared.whole.Ast.{Ast}
use Rattle.pl_syntax.specs.declared.fault.SyntaxFault.{SyntaxFault}
use Rattle.pl_syntax.specs.declared.fault.SyntaxFault.TheVariants as fault
use Rattle.pl_syntax.specs.declared.fault.Stopped.{Stopped}
use Rattle.pl_syntax.specs.declared.fault.Stopped.TheVariants as stopped
use Rattle.pl_syntax.specs.Expressions.{limits}
use Rattle.pl_syntax.specs.Grammar.{Reads, ReadsFree}
use Rattle.pl_syntax.specs.Reading.{read_all}
use Rattle.pl_syntax.specs.Gives.{Fails}
use Rattle.pl_syntax.specs.Marks.{marks_of, place_of}
use Rattle.pl_syntax.specs.Answers.{ReadsText, IsFirstBadAt, AnswersShort, IsTree, placed}
use Rattle.pl_syntax.proofs.Places.{first_bad}
use Rattle.pl_syntax.proofs.ReadExact.{read_exact}

abbrev Read : List Token → Result Ast Stop → Type 0
Read ts r = Judged (Reads limits) ReadsFree ts r

judged : (ts : List Token) (r : Result Ast Stop) → read_all 32 32 ts ≡ r → Read ts r
judged ts r e = subst (Read ts) e (read_exact 32 32 (omega arith) ts)

pub same_tokens : (text : List ℕ) (ts us : List Piece) → tokens_of text ≡ Ok ts → tokens_of text ≡ Ok us → ts ≡ us
same_tokens text ts us e f = let g = sym e ∙ f in cc

same_reads : (text : List ℕ) (ts : List Piece) (other : Ast) → tokens_of text ≡ Ok ts → ReadsText text other → Reads limits (marks_of text ts) other
same_reads text ts other e h =
    let P : List Piece → Type 0 = λ x. Reads limits (marks_of text x) other in
    subst P (same_tokens text h.tokens ts h.lexed e) h.reads

pub answer_ok : (text : List ℕ) (ts : List Piece) (ast : Ast) → read_all 32 32 (marks_of text ts) ≡ Ok ast → tokens_of text ≡ Ok ts → AnswersShort text (Ok ast)
answer_ok text ts ast e lexed =
    let j = judged (marks_of text ts) (Ok ast) e in
    (record { tokens = ts; lexed = lexed; reads = j.0 }, λ other h. j.1 other (same_reads text ts other lexed h))

length-marks : (text : List ℕ) (ts : List Piece) → length (marks_of text ts) ≡ length ts
length-marks text [] = refl
length-marks text (t ∷ ts) = ap (λ (n : ℕ). suc n) (length-marks text ts)

bad_at : (text : List ℕ) (ts : List Piece) (trouble : Trouble) (left : ℕ) → read_all 32 32 (marks_of text ts) ≡ Err (trouble, left) → tokens_of text ≡ Ok ts → IsFirstBadAt text trouble (place_of ts (length ts - left) (length text))
bad_at text ts trouble left e lexed =
    let j = judged (marks_of text ts) (Err (trouble, left)) e in
    let P : ℕ → Type 0 = λ n. IsFirstBad (Reads limits) ReadsFree (marks_of text ts) trouble (n - left) in
    record {
      tokens = ts;
      lexed = lexed;
      index = length ts - left;
      first = subst P (length-marks text ts) (first_bad (Reads limits) ReadsFree (marks_of text ts) trouble left j.0 j.1);
      place = refl;
    }

pub answer_err : (text : List ℕ) (ts : List Piece) (s : Stopped) → Fails s (read_all 32 32 (marks_of text ts)) → tokens_of text ≡ Ok ts → AnswersShort text (Err (placed s ts (length text)))
answer_err text ts (stopped.TooDeep left) e lexed = bad_at text ts too_deep left e lexed
answer_err text ts (stopped.Unexpected left) e lexed = bad_at text ts unexpected left e lexed
answer_err text ts stopped.Memory e lexed = tt

no_tree : (text : List ℕ) (trouble : Trouble) (at : ℕ) (ast : Ast) → IsFirstBadAt text trouble at → ReadsText text ast → ⊥
no_tree text trouble at ast bad h = bad.first.none ast (same_reads text bad.tokens ast bad.lexed h)

-- a tree of the text is the answer
pub found_short : (text : List ℕ) (r : Result Ast SyntaxFault) → AnswersShort text r → (ast : Ast) → ReadsText text ast → IsTree ast r
found_short text (Ok found) a ast h = a.1 ast h
found_short text (Err fault.TooLong) a ast h = absurd a
found_short text (Err (fault.BadByte at)) a ast h = let e = sym a ∙ h.lexed in absurd cc
found_short text (Err (fault.BadNumber at)) a ast h = let e = sym a ∙ h.lexed in absurd cc
found_short text (Err (fault.BadName at)) a ast h = let e = sym a ∙ h.lexed in absurd cc
found_short text (Err (fault.TooDeep at)) a ast h = absurd (no_tree text too_deep at ast a h)
found_short text (Err (fault.Unexpected at)) a ast h = absurd (no_tree text unexpected at ast a h)
found_short text (Err fault.Memory) a ast h = tt

pub place_get : (ts : List Piece) (index end : ℕ) (d : Piece) → index < length ts → place_of ts index end ≡ (get_or ts index d).from
place_get [] index end d below = absurd (omega (arith, below))
place_get (t ∷ ts) zero end d below = refl
place_get (t ∷ ts) (suc index) end d below = place_get ts index end d (omega (arith, below))

pub place_end : (ts : List Piece) (index end : ℕ) → length ts ≤ index → place_of ts index end ≡ end
place_end [] index end le = refl
place_end (t ∷ ts) zero end le = absurd (omega (arith, le))
place_end (t ∷ ts) (suc index) end le = place_end ts index end (omega (arith, le))
