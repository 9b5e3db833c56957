-- Moves that are the same are one.
use Rattle.std.proofs.Common.{◌≡◌, ℕ, ℤ, eqb, true, Option, Some, None, refl, ◌∙◌, ap, arith}
use Rattle.std.specs.Ordering.{int_eq}
use Rattle.std.proofs.lemmas.Bool.{eqb-true, and_parts}
use Rattle.std.proofs.lemmas.Int.{ints}
use Rattle.pl_plan.specs.declared.repair.RepairMove.{RepairMove}
use Rattle.pl_plan.specs.declared.repair.RepairMove.TheVariants as repair
use Rattle.pl_semantics.specs.Candidates.{same_move, same_number}

pub one_number : (x y : Option ℕ) → same_number x y ≡ true → x ≡ y
one_number None None e = refl
one_number None (Some n) e = absurd (cc)
one_number (Some m) None e = absurd (cc)
one_number (Some m) (Some n) e = ap (λ (k : ℕ). Some k) (eqb-true m n e)

one_value : (x y : ℤ) → int_eq x y ≡ true → x ≡ y
one_value x y e = grind (arith, ints)

same_two : (make : ℕ → ℕ → RepairMove) (a b x y : ℕ) → a ≡ b → x ≡ y → make a x ≡ make b y
same_two make a b x y e f = ap (λ (n : ℕ). make n x) e ∙ ap (make b) f

same_add : (a b x y : ℕ) (g h : Option ℕ) → a ≡ b → x ≡ y → g ≡ h → repair.Add a x g ≡ repair.Add b y h
same_add a b x y g h e f i = ap (λ (n : ℕ). repair.Add n x g) e ∙ ap (λ (n : ℕ). repair.Add b n g) f ∙ ap (λ (o : Option ℕ). repair.Add b y o) i

same_assign : (a b x y : ℕ) (v w : ℤ) → a ≡ b → x ≡ y → v ≡ w → repair.Assign a x v ≡ repair.Assign b y w
same_assign a b x y v w e f i = ap (λ (n : ℕ). repair.Assign n x v) e ∙ ap (λ (n : ℕ). repair.Assign b n v) f ∙ ap (λ (z : ℤ). repair.Assign b y z) i

pub one_move : (m x : RepairMove) → same_move m x ≡ true → m ≡ x
one_move (repair.Add kind start goal) (repair.Add kind2 start2 goal2) e = let first = and_parts (eqb kind kind2) _ e in let rest = and_parts (eqb start start2) _ first.1 in same_add kind kind2 start start2 goal goal2 (eqb-true kind kind2 first.0) (eqb-true start start2 rest.0) (one_number goal goal2 rest.1)
one_move (repair.Add kind start goal) (repair.Delete id2) e = absurd (cc)
one_move (repair.Add kind start goal) (repair.Shift id2 start2) e = absurd (cc)
one_move (repair.Add kind start goal) (repair.Detail id2 alternative2) e = absurd (cc)
one_move (repair.Add kind start goal) (repair.Abstract id2) e = absurd (cc)
one_move (repair.Add kind start goal) (repair.Assign id2 param2 value2) e = absurd (cc)
one_move (repair.Add kind start goal) (repair.Drop number2) e = absurd (cc)
one_move (repair.Delete id) (repair.Add kind2 start2 goal2) e = absurd (cc)
one_move (repair.Delete id) (repair.Delete id2) e = ap (λ (n : ℕ). repair.Delete n) (eqb-true id id2 e)
one_move (repair.Delete id) (repair.Shift id2 start2) e = absurd (cc)
one_move (repair.Delete id) (repair.Detail id2 alternative2) e = absurd (cc)
one_move (repair.Delete id) (repair.Abstract id2) e = absurd (cc)
one_move (repair.Delete id) (repair.Assign id2 param2 value2) e = absurd (cc)
one_move (repair.Delete id) (repair.Drop number2) e = absurd (cc)
one_move (repair.Shift id start) (repair.Add kind2 start2 goal2) e = absurd (cc)
one_move (repair.Shift id start) (repair.Delete id2) e = absurd (cc)
one_move (repair.Shift id start) (repair.Shift id2 start2) e = let both = and_parts (eqb id id2) _ e in same_two (λ x y. repair.Shift x y) id id2 start start2 (eqb-true id id2 both.0) (eqb-true start start2 both.1)
one_move (repair.Shift id start) (repair.Detail id2 alternative2) e = absurd (cc)
one_move (repair.Shift id start) (repair.Abstract id2) e = absurd (cc)
one_move (repair.Shift id start) (repair.Assign id2 param2 value2) e = absurd (cc)
one_move (repair.Shift id start) (repair.Drop number2) e = absurd (cc)
one_move (repair.Detail id alternative) (repair.Add kind2 start2 goal2) e = absurd (cc)
one_move (repair.Detail id alternative) (repair.Delete id2) e = absurd (cc)
one_move (repair.Detail id alternative) (repair.Shift id2 start2) e = absurd (cc)
one_move (repair.Detail id alternative) (repair.Detail id2 alternative2) e = let both = and_parts (eqb id id2) _ e in same_two (λ x y. repair.Detail x y) id id2 alternative alternative2 (eqb-true id id2 both.0) (eqb-true alternative alternative2 both.1)
one_move (repair.Detail id alternative) (repair.Abstract id2) e = absurd (cc)
one_move (repair.Detail id alternative) (repair.Assign id2 param2 value2) e = absurd (cc)
one_move (repair.Detail id alternative) (repair.Drop number2) e = absurd (cc)
one_move (repair.Abstract id) (repair.Add kind2 start2 goal2) e = absurd (cc)
one_move (repair.Abstract id) (repair.Delete id2) e = absurd (cc)
one_move (repair.Abstract id) (repair.Shift id2 start2) e = absurd (cc)
one_move (repair.Abstract id) (repair.Detail id2 alternative2) e = absurd (cc)
one_move (repair.Abstract id) (repair.Abstract id2) e = ap (λ (n : ℕ). repair.Abstract n) (eqb-true id id2 e)
one_move (repair.Abstract id) (repair.Assign id2 param2 value2) e = absurd (cc)
one_move (repair.Abstract id) (repair.Drop number2) e = absurd (cc)
one_move (repair.Assign id param value) (repair.Add kind2 start2 goal2) e = absurd (cc)
one_move (repair.Assign id param value) (repair.Delete id2) e = absurd (cc)
one_move (repair.Assign id param value) (repair.Shift id2 start2) e = absurd (cc)
one_move (repair.Assign id param value) (repair.Detail id2 alternative2) e = absurd (cc)
one_move (repair.Assign id param value) (repair.Abstract id2) e = absurd (cc)
one_move (repair.Assign id param value) (repair.Assign id2 param2 value2) e = let first = and_parts (eqb id id2) _ e in let rest = and_parts (eqb param param2) _ first.1 in same_assign id id2 param param2 value value2 (eqb-true id id2 first.0) (eqb-true param param2 rest.0) (one_value value value2 rest.1)
one_move (repair.Assign id param value) (repair.Drop number2) e = absurd (cc)
one_move (repair.Drop number) (repair.Add kind2 start2 goal2) e = absurd (cc)
one_move (repair.Drop number) (repair.Delete id2) e = absurd (cc)
one_move (repair.Drop number) (repair.Shift id2 start2) e = absurd (cc)
one_move (repair.Drop number) (repair.Detail id2 alternative2) e = absurd (cc)
one_move (repair.Drop number) (repair.Abstract id2) e = absurd (cc)
one_move (repair.Drop number) (repair.Assign id2 param2 value2) e = absurd (cc)
one_move (repair.Drop number) (repair.Drop number2) e = ap (λ (n : ℕ). repair.Drop n) (eqb-true number number2 e)
