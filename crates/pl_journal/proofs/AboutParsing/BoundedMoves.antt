-- What is read of a conflict, a kind or a move is within the bounds of an entry.
use Rattle.std.proofs.Common.{◌≡◌, ℕ, zero, suc, ℤ, pos, ◌+◌, ◌-◌, ◌*◌, ◌<◌, ◌≤◌, ◌^◌, Bool, true, false, cond, leb, ltb, List, [], ◌∷◌, length, Option, Some, None, Ok, Err, refl, sym, ap, ◌∙◌, arith}
use Rattle.std.specs.Prelude.{bytes_eq, codes, slice_get, IfOk}
use Rattle.std.proofs.lemmas.Bool.{ltb-true, leb-true}
use Rattle.std.proofs.lemmas.Int.{ints}
use Rattle.pl_lists.specs.Judgements.{◌>>=◌}
use Rattle.pl_text.specs.Bytes.{is_digit}
use Rattle.pl_model.specs.declared.kinds.Kind.{Kind}
use Rattle.pl_model.specs.declared.whole.Model.{Model}
use Rattle.pl_model.specs.Checked.{IsAmount}
use Rattle.pl_conflict.specs.declared.conflict.Code.{Code}
use Rattle.pl_conflict.specs.declared.conflict.Conflict.{Conflict}
use Rattle.pl_plan.specs.declared.repair.RepairMove.{RepairMove}
use Rattle.pl_plan.specs.declared.repair.RepairMove.TheVariants as repair
use Rattle.pl_entry.specs.Bounds.{IsWord, IsWordIf, IsConflictInRange, IsMoveInRange}
use Rattle.pl_journal.specs.declared.parsing.fault.EntryFault.TheVariants as fault
use Rattle.pl_journal.specs.Parsing.Reads.{Read}
use Rattle.pl_journal.specs.Parsing.Words.{word_or_none, with_digit, count_from, count_of, count_in, word_in, amount_of, amount_in}
use Rattle.pl_journal.specs.Parsing.Moves.{code_in, conflict_in, kind_from, kind_named, goal_in, addition_in, assignment_in, deletion_in, shift_in, detailing_in, abstraction_in, drop_in, move_by, move_in}

-- ---- one reading after the other

pub chain : {X Y : Type 0} (r : Read X) (f : X → Read Y) (P : X → Type 0) (Q : Y → Type 0) → IfOk r P → ((x : X) → P x → IfOk (f x) Q) → IfOk (r >>= f) Q
chain (Ok x) f P Q h k = k x h
chain (Err e) f P Q h k = tt

pub whatever : {X Y : Type 0} (r : Read X) (f : X → Read Y) (Q : Y → Type 0) → ((x : X) → IfOk (f x) Q) → IfOk (r >>= f) Q
whatever (Ok x) f Q k = k x
whatever (Err e) f Q k = tt

pub choice : {X : Type 0} (test : Bool) (a b : Read X) (P : X → Type 0) → (test ≡ true → IfOk a P) → IfOk b P → IfOk (cond test a b) P
choice true a b P h k = h refl
choice false a b P h k = k

-- ---- numbers

word_fits : (n : ℕ) → IfOk (word_or_none n) IsWord
word_fits n = choice (ltb n 4294967296) (Ok n) (Err fault.NotALine) IsWord (λ e. let below = ltb-true n 4294967296 e in omega (arith, below)) tt

digit_fits : (a byte : ℕ) → IfOk (with_digit a byte) IsWord
digit_fits a byte = choice (is_digit byte) (word_or_none (a * 10 + (byte - 48))) (Err fault.NotALine) IsWord (λ e. word_fits (a * 10 + (byte - 48))) tt

count_from_fits : (a : ℕ) (digits : List ℕ) → IsWord a → IfOk (count_from a digits) IsWord
count_from_fits a [] h = h
count_from_fits a (b ∷ bs) h = chain (with_digit a b) (λ n. count_from n bs) IsWord IsWord (digit_fits a b) (λ n fits. count_from_fits n bs fits)

pub count_of_fits : (digits : List ℕ) → IfOk (count_of digits) IsWord
unfolding count_of
count_of_fits digits = count_from_fits 0 digits (omega arith)

count_fits : (text : List ℕ) → IfOk (count_in text) (λ p. IsWord p.0)
count_fits text =
    whatever (word_in text) (λ w. count_of w.0 >>= λ n. Ok (n, w.1)) (λ p. IsWord p.0)
    (λ w. chain (count_of w.0) (λ n. Ok (n, w.1)) IsWord (λ p. IsWord p.0) (count_of_fits w.0) (λ n fits. fits))

pub amount_fits : (digits : List ℕ) → IfOk (amount_of digits) IsAmount
amount_fits digits =
    whatever (count_of digits) (λ n. cond (leb n 1000000000) (Ok (pos n)) (Err fault.NotALine)) IsAmount
    (λ n. choice (leb n 1000000000) (Ok (pos n)) (Err fault.NotALine) IsAmount (λ e. let low = leb-true n 1000000000 e in (omega (arith, ints), omega (arith, ints))) tt)

amount_in_fits : (text : List ℕ) → IfOk (amount_in text) (λ p. IsAmount p.0)
amount_in_fits text =
    whatever (word_in text) (λ w. amount_of w.0 >>= λ n. Ok (n, w.1)) (λ p. IsAmount p.0)
    (λ w. chain (amount_of w.0) (λ n. Ok (n, w.1)) IsAmount (λ p. IsAmount p.0) (amount_fits w.0) (λ n fits. fits))

-- what is read with a number that fits
pub counted : {Y : Type 0} (text : List ℕ) (f : ℕ × List ℕ → Read Y) (Q : Y → Type 0) → ((n : ℕ) (rest : List ℕ) → IsWord n → IfOk (f (n, rest)) Q) → IfOk (count_in text >>= f) Q
counted text f Q k = chain (count_in text) f (λ p. IsWord p.0) Q (count_fits text) (λ p fits. k p.0 p.1 fits)

-- ---- conflicts

abbrev pub ConflictFits : Conflict × List ℕ → Type 0
ConflictFits p = IsConflictInRange p.0

abbrev b_step : ℕ → Code → ℕ → ℕ → ℕ → ℕ × List ℕ → Read (Conflict × List ℕ)
b_step from code subject detail a b = Ok (record { from = from; code = code; subject = subject; detail = detail; a = a; b = b.0 }, b.1)

abbrev a_step : ℕ → Code → ℕ → ℕ → ℕ × List ℕ → Read (Conflict × List ℕ)
a_step from code subject detail a = count_in a.1 >>= b_step from code subject detail a.0

abbrev detail_step : ℕ → Code → ℕ → ℕ × List ℕ → Read (Conflict × List ℕ)
detail_step from code subject detail = count_in detail.1 >>= a_step from code subject detail.0

abbrev subject_step : ℕ → Code → ℕ × List ℕ → Read (Conflict × List ℕ)
subject_step from code subject = count_in subject.1 >>= detail_step from code subject.0

abbrev code_step : ℕ → Code × List ℕ → Read (Conflict × List ℕ)
code_step from code = count_in code.1 >>= subject_step from code.0

abbrev from_step : ℕ × List ℕ → Read (Conflict × List ℕ)
from_step from = code_in from.1 >>= code_step from.0

pub conflict_fits : (text : List ℕ) → IfOk (conflict_in text) ConflictFits
unfolding conflict_in
conflict_fits text =
    counted text from_step ConflictFits (λ from after_from from_fits.
    whatever (code_in after_from) (code_step from) ConflictFits (λ code.
    counted code.1 (subject_step from code.0) ConflictFits (λ subject after_subject subject_fits.
    counted after_subject (detail_step from code.0 subject) ConflictFits (λ detail after_detail detail_fits.
    counted after_detail (a_step from code.0 subject detail) ConflictFits (λ a after_a a_fits.
    counted after_a (b_step from code.0 subject detail a) ConflictFits (λ b rest b_fits. record { from = from_fits; subject = subject_fits; detail = detail_fits; a = a_fits; b = b_fits }))))))

-- ---- kinds

abbrev pub KindIs : Model → ℕ × Kind → Type 0
KindIs m p = slice_get m.kinds p.0 ≡ Some p.1

kind_from_at : (name : List ℕ) (ks all : List Kind) (place : ℕ) → ((i : ℕ) → slice_get all (place + i) ≡ slice_get ks i) → IfOk (kind_from name place ks) (λ p. slice_get all p.0 ≡ Some p.1)
kind_from_at name [] all place h = tt
kind_from_at name (k ∷ ks) all place h =
    choice (bytes_eq k.name name) (Ok (place, k)) (kind_from name (place + 1) ks) (λ p. slice_get all p.0 ≡ Some p.1)
    (λ e. let here : place + 0 ≡ place = omega arith in ap (λ (i : ℕ). slice_get all i) (sym here) ∙ h 0)
    (kind_from_at name ks all (place + 1) (λ i. let next : place + 1 + i ≡ place + suc i = omega arith in ap (λ (j : ℕ). slice_get all j) next ∙ h (suc i)))

pub kind_is : (m : Model) (name : List ℕ) → IfOk (kind_named m name) (KindIs m)
unfolding kind_named
kind_is m name = kind_from_at name m.kinds m.kinds 0 (λ i. let here : 0 + i ≡ i = omega arith in ap (λ (j : ℕ). slice_get m.kinds j) here)

pub got_within : (ks : List Kind) (i : ℕ) (k : Kind) → slice_get ks i ≡ Some k → i < length ks
got_within [] i k e = absurd cc
got_within (x ∷ ks) zero k e = omega arith
got_within (x ∷ ks) (suc i) k e = omega (arith, got_within ks i k e)

-- ---- moves

abbrev GoalFits : Option ℕ × List ℕ → Type 0
GoalFits p = IsWordIf p.0

abbrev some_goal : ℕ × List ℕ → Read (Option ℕ × List ℕ)
some_goal goal = Ok (Some goal.0, goal.1)

goal_fits : (text : List ℕ) → IfOk (goal_in text) GoalFits
unfolding goal_in
goal_fits text =
    whatever (word_in text) (λ w. cond (bytes_eq w.0 (codes "goal")) (count_in w.1 >>= some_goal) (Ok (None, text))) GoalFits (λ w.
    choice (bytes_eq w.0 (codes "goal")) (count_in w.1 >>= some_goal) (Ok (None, text)) GoalFits (λ e. counted w.1 some_goal GoalFits (λ n rest fits. fits)) tt)

abbrev Moved : Type 0
Moved = Read (RepairMove × List ℕ)

abbrev pub MovesWithin : Model → RepairMove × List ℕ → Type 0
MovesWithin m p = IsMoveInRange m p.0

abbrev add_goal : ℕ → ℕ → Option ℕ × List ℕ → Moved
add_goal kind start goal = Ok (repair.Add kind start goal.0, goal.1)

abbrev add_start : ℕ → ℕ × List ℕ → Moved
add_start kind start = goal_in start.1 >>= add_goal kind start.0

abbrev add_kind : List ℕ → ℕ × Kind → Moved
add_kind rest kind = count_in rest >>= add_start kind.0

abbrev add_name : Model → List ℕ × List ℕ → Moved
add_name m name = kind_named m name.0 >>= add_kind name.1

addition_fits : (m : Model) (text : List ℕ) → length m.kinds ≤ 2 ^ 32 → IfOk (addition_in m text) (MovesWithin m)
unfolding addition_in
addition_fits m text few =
    whatever (word_in text) (add_name m) (MovesWithin m) (λ name.
    chain (kind_named m name.0) (add_kind name.1) (KindIs m) (MovesWithin m) (kind_is m name.0) (λ kind there.
    counted name.1 (add_start kind.0) (MovesWithin m) (λ start rest start_fits.
    chain (goal_in rest) (add_goal kind.0 start) GoalFits (MovesWithin m) (goal_fits rest) (λ goal goal_within.
    let within : kind.0 < length m.kinds = got_within m.kinds kind.0 kind.1 there in (within, omega arith, start_fits, goal_within)))))

abbrev assign_value : ℕ → ℕ → ℤ × List ℕ → Moved
assign_value id param value = cond (ltb param 256) (Ok (repair.Assign id param value.0, value.1)) (Err fault.NotALine)

abbrev assign_param : ℕ → ℕ × List ℕ → Moved
assign_param id param = amount_in param.1 >>= assign_value id param.0

abbrev assign_id : ℕ × List ℕ → Moved
assign_id id = count_in id.1 >>= assign_param id.0

abbrev pub AmountFits : ℤ × List ℕ → Type 0
AmountFits p = IsAmount p.0

assignment_fits : (m : Model) (text : List ℕ) → IfOk (assignment_in text) (MovesWithin m)
unfolding assignment_in
assignment_fits m text =
    counted text assign_id (MovesWithin m) (λ id after_id id_fits.
    counted after_id (assign_param id) (MovesWithin m) (λ param after_param param_fits.
    chain (amount_in after_param) (assign_value id param) AmountFits (MovesWithin m) (amount_in_fits after_param) (λ value amount.
    choice (ltb param 256) (Ok (repair.Assign id param value.0, value.1)) (Err fault.NotALine) (MovesWithin m) (λ e. (id_fits, ltb-true param 256 e, amount)) tt)))

abbrev deleted : ℕ × List ℕ → Moved
deleted id = Ok (repair.Delete id.0, id.1)

abbrev abstracted : ℕ × List ℕ → Moved
abstracted id = Ok (repair.Abstract id.0, id.1)

abbrev dropped : ℕ × List ℕ → Moved
dropped goal = Ok (repair.Drop goal.0, goal.1)

abbrev shift_start : ℕ → ℕ × List ℕ → Moved
shift_start id start = Ok (repair.Shift id start.0, start.1)

abbrev shifted : ℕ × List ℕ → Moved
shifted id = count_in id.1 >>= shift_start id.0

abbrev detail_choice : ℕ → ℕ × List ℕ → Moved
detail_choice id alternative = Ok (repair.Detail id alternative.0, alternative.1)

abbrev detailed : ℕ × List ℕ → Moved
detailed id = count_in id.1 >>= detail_choice id.0

deletion_fits : (m : Model) (text : List ℕ) → IfOk (deletion_in text) (MovesWithin m)
unfolding deletion_in
deletion_fits m text = counted text deleted (MovesWithin m) (λ id rest fits. fits)

abstraction_fits : (m : Model) (text : List ℕ) → IfOk (abstraction_in text) (MovesWithin m)
unfolding abstraction_in
abstraction_fits m text = counted text abstracted (MovesWithin m) (λ id rest fits. fits)

drop_fits : (m : Model) (text : List ℕ) → IfOk (drop_in text) (MovesWithin m)
unfolding drop_in
drop_fits m text = counted text dropped (MovesWithin m) (λ goal rest fits. fits)

shift_fits : (m : Model) (text : List ℕ) → IfOk (shift_in text) (MovesWithin m)
unfolding shift_in
shift_fits m text = counted text shifted (MovesWithin m) (λ id rest id_fits. counted rest (shift_start id) (MovesWithin m) (λ start more start_fits. (id_fits, start_fits)))

detailing_fits : (m : Model) (text : List ℕ) → IfOk (detailing_in text) (MovesWithin m)
unfolding detailing_in
detailing_fits m text = counted text detailed (MovesWithin m) (λ id rest id_fits. counted rest (detail_choice id) (MovesWithin m) (λ alternative more fits. (id_fits, fits)))

move_by_fits : (m : Model) (word text : List ℕ) → length m.kinds ≤ 2 ^ 32 → IfOk (move_by m word text) (MovesWithin m)
unfolding move_by
move_by_fits m word text few =
    choice (bytes_eq word (codes "add")) _ _ (MovesWithin m) (λ e. addition_fits m text few)
    (choice (bytes_eq word (codes "delete")) _ _ (MovesWithin m) (λ e. deletion_fits m text)
    (choice (bytes_eq word (codes "shift")) _ _ (MovesWithin m) (λ e. shift_fits m text)
    (choice (bytes_eq word (codes "detail")) _ _ (MovesWithin m) (λ e. detailing_fits m text)
    (choice (bytes_eq word (codes "abstract")) _ _ (MovesWithin m) (λ e. abstraction_fits m text)
    (choice (bytes_eq word (codes "assign")) _ _ (MovesWithin m) (λ e. assignment_fits m text)
    (choice (bytes_eq word (codes "drop")) (drop_in text) (Err fault.NotALine) (MovesWithin m) (λ e. drop_fits m text) tt))))))

abbrev by_word : Model → List ℕ × List ℕ → Moved
by_word m w = move_by m w.0 w.1

pub move_fits : (m : Model) (text : List ℕ) → length m.kinds ≤ 2 ^ 32 → IfOk (move_in m text) (MovesWithin m)
unfolding move_in
move_fits m text few = whatever (word_in text) (by_word m) (MovesWithin m) (λ w. move_by_fits m w.0 w.1 few)
