-- The numbers of the words of a command line are within their bounds.
use Rattle.std.proofs.Common.{◌≡◌, ℕ, suc, ◌+◌, ◌-◌, ◌*◌, ◌^◌, ◌<◌, ◌≤◌, List, [], ◌∷◌, length, Bool, true, false, ◌&&◌, leb, nat_lt, nat_le, if◌then◌else◌, Option, Some, None, refl, subst, codes, map, arith}
use Rattle.std.specs.Prelude.{IfSome}
use Rattle.std.proofs.lemmas.Bool.{leb-true, and_parts}
use Rattle.std.specs.Str.{bytes_eq}
use Rattle.std.specs.String.{string_bytes}
use Rattle.std.specs.declared.string.String.{String}
use Rattle.std.specs.declared.alloc.Global.{Global}
use Rattle.pl_text.specs.Bytes.{is_digit}
use Rattle.pl_text.proofs.Digits.{power_step, power_below}
use Rattle.pl_main.specs.declared.command.Command.{Command}
use Rattle.pl_main.specs.declared.command.Command.TheVariants as command
use Rattle.pl_main.specs.declared.command.Team.TheVariants as team
use Rattle.pl_main.specs.declared.command.Task.{Task}
use Rattle.pl_main.specs.declared.command.Task.TheVariants as task
use Rattle.pl_main.specs.Numbers.{digits_on, number_in}
use Rattle.pl_main.specs.Words.{turns_by, pair_by, crew_by, goals_by, flex_by, improve_by, command_in, command_of}
use Rattle.pl_main.specs.Runs.{IsTeam}
use Rattle.pl_main.specs.Statuses.{IsTask}

-- ---- a number of at most 18 digits

-- one digit more
more_digits : (value k d : ℕ) → value < 10 ^ k → is_digit d ≡ true → value * 10 + (d - 48) < 10 ^ (k + 1)
more_digits value k d small is =
    let parts = and_parts (leb 48 d) (leb d 57) is in
    let low = leb-true 48 d parts.0 in
    let high = leb-true d 57 parts.1 in
    omega (arith, low, high, power_step k, small)

abbrev IsBelow : ℕ → Option ℕ → Type 0
IsBelow digits number = IfSome number (λ n. n < 10 ^ digits)

digit_by : (b : Bool) (k more : ℕ) (number : Option ℕ) → (b ≡ true → IsBelow (k + 1 + more) number) → IsBelow (k + suc more) (if b then number else None)
digit_by true k more number less = subst (λ (x : ℕ). IsBelow x number) (let same : k + 1 + more ≡ k + suc more = omega arith in same) (less refl)
digit_by false k more number less = tt

digits_small : (ds : List ℕ) (value k : ℕ) → value < 10 ^ k → IsBelow (k + length ds) (digits_on value ds)
digits_small [] value k small = subst (λ (x : ℕ). value < 10 ^ x) (let same : k ≡ k + 0 = omega arith in same) small
digits_small (d ∷ ds) value k small =
    digit_by (is_digit d) k (length ds) (digits_on (value * 10 + (d - 48)) ds) (λ is. digits_small ds (value * 10 + (d - 48)) (k + 1) (more_digits value k d small is))

abbrev IsSmall : Option ℕ → Type 0
IsSmall number = IfSome number (λ n. n ≤ 999999999999999999)

small_below : (digits : ℕ) (number : Option ℕ) → digits ≤ 18 → IsBelow digits number → IsSmall number
small_below digits None few less = tt
small_below digits (Some n) few less = (let most = power_below digits few in omega (arith, less, most))

number_by : (a b : Bool) (text : List ℕ) → nat_le (length text) 18 ≡ b → IsSmall (if a && b then digits_on 0 text else None)
number_by true true text few = small_below (0 + length text) (digits_on 0 text) (let le = leb-true (length text) 18 few in omega (arith, le)) (digits_small text 0 0 (omega arith))
number_by true false text few = tt
number_by false b text few = tt

number_small : (text : List ℕ) → IsSmall (number_in text)
unfolding number_in
number_small text = number_by (nat_lt 0 (length text)) (nat_le (length text) 18) text refl

-- ---- what is read where a test holds

pub tested : {C : Type 0} (P : C → Type 0) (b : Bool) (c : Option C) → (b ≡ true → IfSome c P) → IfSome (if b then c else None) P
tested P true c fits = fits refl
tested P false c fits = tt

within : (least n most : ℕ) → (nat_le least n && nat_le n most) ≡ true → (least ≤ n) × (n ≤ most)
within least n most is =
    let parts = and_parts (nat_le least n) (nat_le n most) is in
    (leb-true least n parts.0, leb-true n most parts.1)

-- ---- what the words ask for

-- what a command asks for is within its bounds
abbrev Fits : Command → Type 0
Fits (command.Alone t) = IsTask t
Fits (command.Pair turns seed) = (1 ≤ turns) × (turns ≤ 1000)
Fits (command.Crew turns planners seed) = ((1 ≤ turns) × (turns ≤ 1000)) × IsTeam (team.Crew planners seed)

abbrev FitsIfAny : Option Command → Type 0
FitsIfAny c = IfSome c Fits

by_turns : (n : Option ℕ) → FitsIfAny (turns_by n)
by_turns None = tt
by_turns (Some n) = tested Fits (nat_le 1 n && nat_le n 1000) (Some (command.Alone (task.Solo n))) (within 1 n 1000)

by_pair : (n seed : Option ℕ) → FitsIfAny (pair_by n seed)
by_pair None seed = tt
by_pair (Some n) None = tt
by_pair (Some n) (Some seed) = tested Fits (nat_le 1 n && nat_le n 1000) (Some (command.Pair n seed)) (within 1 n 1000)

by_crew : (n p seed : Option ℕ) → IsSmall seed → FitsIfAny (crew_by n p seed)
by_crew None p seed small = tt
by_crew (Some n) None seed small = tt
by_crew (Some n) (Some p) None small = tt
by_crew (Some n) (Some p) (Some seed) small =
    tested Fits (nat_le 1 n && nat_le n 1000 && (nat_le 2 p && nat_le p 8)) (Some (command.Crew n p seed))
    (λ is.
    let parts = and_parts (nat_le 1 n && nat_le n 1000) (nat_le 2 p && nat_le p 8) is in
    let planners = within 2 p 8 parts.1 in
    (within 1 n 1000 parts.0, (planners.0, planners.1, small)))

by_goals : (n : Option ℕ) → FitsIfAny (goals_by n)
by_goals None = tt
by_goals (Some n) = tested Fits (nat_le 1 n && nat_le n 4000) (Some (command.Alone (task.Demo n))) (within 1 n 4000)

by_flex : (id : Option ℕ) → FitsIfAny (flex_by id)
by_flex None = tt
by_flex (Some id) = tt

by_improve : (n : Option ℕ) → FitsIfAny (improve_by n)
by_improve None = tt
by_improve (Some n) = tested Fits (nat_le 1 n && nat_le n 1000) (Some (command.Alone (task.Improve n))) (within 1 n 1000)

by_word : (a b c d : Bool)
    → FitsIfAny (if a then Some (command.Alone task.Check) else if b then Some (command.Alone task.Replay) else if c then Some (command.Alone task.Report) else if d then Some (command.Alone task.Forecast) else None)
by_word true b c d = tt
by_word false true c d = tt
by_word false false true d = tt
by_word false false false true = tt
by_word false false false false = tt

by_two : (a b c : Bool) (n : Option ℕ) → FitsIfAny (if a then goals_by n else if b then flex_by n else if c then improve_by n else None)
by_two true b c n = by_goals n
by_two false true c n = by_flex n
by_two false false true n = by_improve n
by_two false false false n = tt

by_words : (ws : List (List ℕ)) → FitsIfAny (command_in ws)
by_words [] = tt
by_words (a ∷ []) = by_word (bytes_eq a (codes "check")) (bytes_eq a (codes "replay")) (bytes_eq a (codes "report")) (bytes_eq a (codes "forecast"))
by_words (a ∷ n ∷ []) = by_two (bytes_eq a (codes "demo")) (bytes_eq a (codes "flex")) (bytes_eq a (codes "improve")) (number_in n)
by_words (a ∷ b ∷ n ∷ []) = tested Fits (bytes_eq a (codes "run") && bytes_eq b (codes "solo")) (turns_by (number_in n)) (λ _. by_turns (number_in n))
by_words (a ∷ b ∷ n ∷ s ∷ []) = tested Fits (bytes_eq a (codes "run") && bytes_eq b (codes "pair")) (pair_by (number_in n) (number_in s)) (λ _. by_pair (number_in n) (number_in s))
by_words (a ∷ b ∷ n ∷ p ∷ s ∷ []) =
    tested Fits (bytes_eq a (codes "run") && bytes_eq b (codes "crew")) (crew_by (number_in n) (number_in p) (number_in s))
    (λ _. by_crew (number_in n) (number_in p) (number_in s) (number_small s))
by_words (a ∷ b ∷ n ∷ p ∷ s ∷ x ∷ xs) = tt

fits : (words : List (String Global)) (c : Command) → command_of words ≡ Some c → Fits c
unfolding command_of
fits words c is = subst (λ (o : Option Command). FitsIfAny o) is (by_words (map string_bytes words))

pub task_fits : (words : List (String Global)) (t : Task) → command_of words ≡ Some (command.Alone t) → IsTask t
task_fits words t is = fits words (command.Alone t) is

pub pair_fits : (words : List (String Global)) (turns seed : ℕ) → command_of words ≡ Some (command.Pair turns seed) → (1 ≤ turns) × (turns ≤ 1000)
pair_fits words turns seed is = fits words (command.Pair turns seed) is

pub crew_fits : (words : List (String Global)) (turns planners seed : ℕ) → command_of words ≡ Some (command.Crew turns planners seed) → ((1 ≤ turns) × (turns ≤ 1000)) × IsTeam (team.Crew planners seed)
crew_fits words turns planners seed is = fits words (command.Crew turns planners seed) is
