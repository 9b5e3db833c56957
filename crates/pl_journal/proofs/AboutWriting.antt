-- Lines written one after another.
use Rattle.std.proofs.Common.{◌≡◌, ℕ, suc, ◌+◌, ◌<◌, ◌≤◌, List, [], ◌∷◌, ◌++◌, length, take, drop, get_or, drop-cons, add-one, Option, Some, None, IfSome, Result, Ok, Err, OnErr, refl, sym, ◌∙◌, ap, subst, append_assoc, length-append, arith}
use Rattle.std.proofs.lemmas.List.{append-nil, take-append-le}
use Rattle.std.proofs.Math.Seq.{take-append-add}
use Rattle.pl_io.specs.Writes.{AppendsFront}
use Rattle.pl_model.specs.declared.whole.Model.{Model}
use Rattle.pl_entry.specs.declared.entry.Entry.{Entry}
use Rattle.pl_journal.specs.Rendering.Lines.{line_of, text_from}
use Rattle.pl_journal.specs.Written.{Adds}

-- what is still to be written gives the whole text
pub record AddsFront (old new : Option (List ℕ)) (rest whole : List ℕ) : Type 0 where
  pub text : List ℕ
  pub adds : Adds old new text
  pub all : text ++ rest ≡ whole

pub some_held : (bytes : Option (List ℕ)) → Adds bytes bytes []
some_held None = tt
some_held (Some bytes) = ap Some (sym (append-nil bytes))

pub adds_none : (old : Option (List ℕ)) (whole : List ℕ) → AddsFront old old whole whole
adds_none old whole = record { text = []; adds = some_held old; all = refl }

pub adds_then : (old mid new : Option (List ℕ)) (xs ys : List ℕ) → Adds old mid xs → Adds mid new ys → Adds old new (xs ++ ys)
adds_then None mid new xs ys first second = tt
adds_then (Some bytes) mid new xs ys first second =
    let second2 = subst (λ (m : Option (List ℕ)). IfSome m (λ before. new ≡ Some (before ++ ys))) first second in
    second2 ∙ ap Some (append_assoc bytes xs ys)

pub adds_more : (old mid new : Option (List ℕ)) (line rest whole : List ℕ) → AddsFront old mid (line ++ rest) whole → Adds mid new line → AddsFront old new rest whole
adds_more old mid new line rest whole front adds = record {
  text = front.text ++ line;
  adds = adds_then old mid new front.text line front.adds adds;
  all = append_assoc front.text line rest ∙ front.all;
}

line_some : (m : Model) (n : ℕ) (e : Entry) → 0 < length (line_of m n e)
unfolding line_of
line_some m n e = simp length-append (omega arith)

-- nothing of an entry's line was written
pub front_line : (held : Option (List ℕ)) (m : Model) (n : ℕ) (e : Entry) → AppendsFront held held (line_of m n e)
front_line None m n e = tt
front_line (Some before) m n e = (0, line_some m n e, ap Some (sym (append-nil before)))

-- the front of a line behind what is written is a front of the whole
pub front_behind : (old mid new : Option (List ℕ)) (line rest whole : List ℕ) → AddsFront old mid (line ++ rest) whole → AppendsFront mid new line → AppendsFront old new whole
front_behind None mid new line rest whole front appends = tt
front_behind (Some before) mid new line rest whole front appends =
    let part = subst (λ (m : Option (List ℕ)). AppendsFront m new line) front.adds appends in
    let long : length (front.text ++ (line ++ rest)) ≡ length front.text + (length line + length rest) = simp length-append in
    let less : length front.text + part.0 < length (front.text ++ (line ++ rest)) = omega (arith, part.1, long) in
    let fits : part.0 ≤ length line = omega (arith, part.1) in
    let taken : take (length front.text + part.0) (front.text ++ (line ++ rest)) ≡ front.text ++ take part.0 line =
    take-append-add front.text (line ++ rest) part.0 ∙ ap (λ (t : List ℕ). front.text ++ t) (take-append-le part.0 line rest fits) in (
      length front.text + part.0,
      subst (λ (w : List ℕ). length front.text + part.0 < length w) front.all less,
      part.2 ∙ ap Some (append_assoc before front.text (take part.0 line) ∙ ap (λ (t : List ℕ). before ++ t) (sym taken ∙ ap (λ (w : List ℕ). take (length front.text + part.0) w) front.all)),
    )

-- a front of what is written behind a text
pub appends_then : (old mid new : Option (List ℕ)) (xs ys : List ℕ) → Adds old mid xs → AppendsFront mid new ys → AppendsFront old new (xs ++ ys)
appends_then old mid new xs ys adds front =
    subst (λ (zs : List ℕ). AppendsFront old new (xs ++ zs)) (append-nil ys) (front_behind old mid new ys [] (xs ++ (ys ++ [])) (record { text = xs; adds = adds; all = refl }) front)

next_of_entries : (es : List Entry) (i : ℕ) (e : Entry) → i < length es → e ≡ get_or es i e → drop i es ≡ e ∷ drop (i + 1) es
next_of_entries es i e less is = drop-cons es i e less ∙ ap (λ (x : Entry). x ∷ drop (suc i) es) (sym is) ∙ ap (λ (k : ℕ). e ∷ drop k es) (sym (add-one i))

pub adds_entry : (old mid new : Option (List ℕ)) (m : Model) (n i : ℕ) (es : List Entry) (e : Entry) (whole : List ℕ) → i < length es → e ≡ get_or es i e
    → AddsFront old mid (text_from m n (drop i es)) whole → Adds mid new (line_of m n e) → AddsFront old new (text_from m (n + 1) (drop (i + 1) es)) whole
adds_entry old mid new m n i es e whole less is front adds =
    adds_more old mid new (line_of m n e) (text_from m (n + 1) (drop (i + 1) es)) whole (subst (λ (xs : List Entry). AddsFront old mid (text_from m n xs) whole) (next_of_entries es i e less is) front) adds

pub front_entry : (old mid new : Option (List ℕ)) (m : Model) (n i : ℕ) (es : List Entry) (e : Entry) (whole : List ℕ) → i < length es → e ≡ get_or es i e
    → AddsFront old mid (text_from m n (drop i es)) whole → AppendsFront mid new (line_of m n e) → AppendsFront old new whole
front_entry old mid new m n i es e whole less is front part =
    front_behind old mid new (line_of m n e) (text_from m (n + 1) (drop (i + 1) es)) whole (subst (λ (xs : List Entry). AddsFront old mid (text_from m n xs) whole) (next_of_entries es i e less is) front) part

pub front_stops : {T E : Type 0} (r : Result T E) (old new : Option (List ℕ)) (text : List ℕ) → AppendsFront old new text → OnErr r (AppendsFront old new text)
front_stops (Ok value) old new text front = tt
front_stops (Err e) old new text front = front
