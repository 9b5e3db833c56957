-- The head of an input, the text of its model: where it begins, where it does not, and where its reading stops.
use Rattle.std.proofs.Common.{◌≡◌, ℕ, List, [], ◌++◌, Option, Some, None, refl, sym, ◌∙◌, ap, subst, arith}
use Rattle.std.proofs.lemmas.List.{append-nil}
use Rattle.std.specs.declared.vec.Vec.{Vec}
use Rattle.std.specs.declared.alloc.Global.{Global}
use Rattle.pl_io.specs.declared.errors.LineFault.{LineFault}
use Rattle.pl_io.specs.Lines.{ahead, lines_of}
use Rattle.pl_io.specs.Reader.{Reader}
use Rattle.pl_input.specs.Words.{model_text_of, lines_behind, messages_of, split_of}
use Rattle.pl_input.specs.declared.halt.Halt.{Halt}
use Rattle.pl_input.specs.declared.halt.Halt.TheVariants as halt
use Rattle.pl_input.specs.Reads.{GivesLines}
use Rattle.pl_input.specs.Stops.{HaltFor, ReadLeaves, LimitLeaves, StopsBy}
use Rattle.pl_input.specs.Heads.{IsHead, IsBegun, HasNoBegin, HeadHalts}
use Rattle.pl_journal.specs.Written.{Adds}
use Rattle.pl_main.specs.Top.{ShowsNoLine, ShowsLimit, total_limit, fresh_reader, HasHead, no_begin_line, IsNoModel, no_begin}
use Rattle.pl_input.proofs.Reading.{gave_lines, known}
use Rattle.pl_input.proofs.Stopping.{read_leaves, limit_leaves, stops_by}
use Rattle.pl_input.proofs.Beginning.{head_then}

-- ---- what was read

pub record IsSplit (input words : List ℕ) (more : List (List ℕ)) : Type 0 where
  pub text : (split_of input).text ≡ Some words
  pub messages : (split_of input).messages ≡ messages_of more

pub split_is : (input : List ℕ) (heads : List (List ℕ)) (words : List ℕ) (more : List (List ℕ)) → IsHead heads words → lines_of input ≡ heads ++ more → IsSplit input words more
split_is input heads words more head is =
    let both = head_then heads words more head in
    record { text = ap model_text_of is ∙ both.0; messages = ap (λ (ls : List (List ℕ)). messages_of (lines_behind ls)) is ∙ ap messages_of both.1 }

-- ---- what a fault leaves

-- what a failed read leaves, where the bytes are known
pub shows_none : (limit left : ℕ) (told : Option (List ℕ)) (rest held : List ℕ) (after source_left : Option (List ℕ)) → ReadLeaves limit left told held after → told ≡ Some rest → ahead held source_left ≡ after → ShowsNoLine limit left rest source_left
shows_none limit left None rest held after source_left leaves is behind = absurd (let h : None ≡ Some rest = is in (cc))
shows_none limit left (Some bytes) rest held after source_left leaves is behind = record { came = held; shows = leaves.shows; behind = behind ∙ leaves.kept ∙ is }

-- what a fault of length leaves, where the bytes are known
pub shows_limit : (limit left : ℕ) (told : Option (List ℕ)) (rest held : List ℕ) (after source_left : Option (List ℕ)) → LimitLeaves limit left told held after → told ≡ Some rest → ahead held source_left ≡ after → ShowsLimit limit left rest source_left
shows_limit limit left None rest held after source_left leaves is behind = absurd (let h : None ≡ Some rest = is in (cc))
shows_limit limit left (Some bytes) rest held after source_left leaves is behind = record { came = held; few = leaves.few; shows = leaves.shows; behind = behind ∙ leaves.kept ∙ is }

-- ---- the end of a run whose text begins

pub begins_at : (limit : ℕ) (kept : Option (Vec ℕ Global)) (new : Reader) (input : List ℕ) (after source_left : Option (List ℕ))
    → (begun : IsBegun (fresh_reader limit) (Some input) kept new after) → ahead new.held source_left ≡ after → HasHead limit input begun.words source_left
begins_at limit kept new input after source_left begun behind =
    let k = known limit total_limit limit total_limit (Some input) input begun.lines new.room after refl refl refl begun.took.gave in
    record {
      lines = begun.lines;
      left = new.room;
      rest = k.rest;
      gave = k.gave;
      head = begun.head.text;
      no_further = begun.head.behind;
      text = (split_is input begun.lines begun.words (lines_of k.rest) begun.head (gave_lines limit total_limit input begun.lines new.room k.rest k.gave)).text;
      source = record { came = new.held; few = begun.took.few (omega arith); behind = behind ∙ k.is };
    }

-- ---- the end of a run whose text has no `begin`

pub begins_nowhere : (limit : ℕ) (new : Reader) (input : List ℕ) (after source_left held now : Option (List ℕ)) → HasNoBegin (fresh_reader limit) (Some input) new after → ahead new.held source_left ≡ after
    → Adds held now no_begin_line → IsNoModel limit input source_left held now
begins_nowhere limit new input after source_left held now head behind adds =
    let k = known limit total_limit limit total_limit (Some input) input head.lines new.room after refl refl refl head.took.gave in
    let none : k.rest ≡ [] = (let h : Some k.rest ≡ Some [] = sym k.is ∙ head.used_up in (cc)) in
    no_begin head.lines new.room (subst (λ (r : List ℕ). GivesLines limit total_limit input head.lines new.room r) none k.gave) (ap model_text_of (gave_lines limit total_limit input head.lines new.room k.rest k.gave ∙ ap (λ (r : List ℕ). head.lines ++ lines_of r) none ∙ append-nil head.lines) ∙ head.none)
    record { came = new.held; few = head.took.few (omega arith); behind = behind ∙ head.used_up } adds

-- ---- the end of a run that stops before `begin`

-- the lines before `begin` behind which no line was given
pub record IsHeadStopped (e : Halt) (limit : ℕ) (input : List ℕ) (source_left : Option (List ℕ)) : Type 0 where
  pub lines : List (List ℕ)
  pub left : ℕ
  pub rest : List ℕ
  pub gave : GivesLines limit total_limit input lines left rest
  pub why : StopsBy e limit left (Some rest)
  pub source : e ≡ halt.Read → ShowsNoLine limit left rest source_left
  pub past : e ≡ halt.Limit → ShowsLimit limit left rest source_left
  pub none : model_text_of lines ≡ None

pub head_stopped : (limit : ℕ) (new : Reader) (input : List ℕ) (source_left : Option (List ℕ)) (f : LineFault) (e : Halt) → HeadHalts (fresh_reader limit) (Some input) f new (ahead new.held source_left) → HaltFor f e → IsHeadStopped e limit input source_left
head_stopped limit new input source_left f e head is =
    let halts = head.halts in
    let k = known limit total_limit limit total_limit (Some input) input head.lines halts.left halts.rest refl refl refl halts.gave in
    record {
      lines = head.lines;
      left = halts.left;
      rest = k.rest;
      gave = k.gave;
      why = subst (λ (r : Option (List ℕ)). StopsBy e limit halts.left r) k.is (stops_by e limit halts.left halts.rest f is halts.why);
      source = λ read.
          shows_none limit halts.left halts.rest k.rest new.held (ahead new.held source_left) source_left
          (read_leaves (fresh_reader limit) new (Some input) (ahead new.held source_left) head.lines f halts (subst (λ (h : Halt). HaltFor f h) read is)) k.is refl;
      past = λ over.
          shows_limit limit halts.left halts.rest k.rest new.held (ahead new.held source_left) source_left
          (limit_leaves (fresh_reader limit) new (Some input) (ahead new.held source_left) head.lines f halts (subst (λ (h : Halt). HaltFor f h) over is) (omega arith)) k.is refl;
      none = head.none;
    }

-- ---- from the reader that a task begins with

none_ahead : (left : Option (List ℕ)) → ahead [] left ≡ left
none_ahead None = refl
none_ahead (Some bytes) = refl

pub fresh_begun : (limit : ℕ) (old : Reader) (kept : Option (Vec ℕ Global)) (new : Reader) (left after : Option (List ℕ)) → old ≡ fresh_reader limit → IsBegun old (ahead old.held left) kept new after → IsBegun (fresh_reader limit) left kept new after
fresh_begun limit old kept new left after is begun =
    subst (λ (b : Option (List ℕ)). IsBegun (fresh_reader limit) b kept new after) (none_ahead left) (subst (λ (r : Reader). IsBegun r (ahead r.held left) kept new after) is begun)

pub fresh_nowhere : (limit : ℕ) (old new : Reader) (left after : Option (List ℕ)) → old ≡ fresh_reader limit → HasNoBegin old (ahead old.held left) new after → HasNoBegin (fresh_reader limit) left new after
fresh_nowhere limit old new left after is head =
    subst (λ (b : Option (List ℕ)). HasNoBegin (fresh_reader limit) b new after) (none_ahead left) (subst (λ (r : Reader). HasNoBegin r (ahead r.held left) new after) is head)

pub fresh_halts : (limit : ℕ) (old new : Reader) (left after : Option (List ℕ)) (f : LineFault) → old ≡ fresh_reader limit → HeadHalts old (ahead old.held left) f new after → HeadHalts (fresh_reader limit) left f new after
fresh_halts limit old new left after f is head =
    subst (λ (b : Option (List ℕ)). HeadHalts (fresh_reader limit) b f new after) (none_ahead left) (subst (λ (r : Reader). HeadHalts r (ahead r.held left) f new after) is head)
