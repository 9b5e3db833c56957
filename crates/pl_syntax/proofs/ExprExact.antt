-- Expressions are read exactly, whatever follows them.
use Rattle.std.proofs.Common.{◌≡◌, ℕ, pos, zero, suc, ◌-◌, ◌≤◌, ◌<◌, ◌^◌, Bool, true, false, ltb, if◌then◌else◌, List, [], ◌∷◌, length, Result, Ok, Err, refl, sym, subst, ap, arith}
use Rattle.std.proofs.lemmas.Bool.{ltb-true, ltb-false}
use Rattle.pl_syntax.specs.declared.token.Token.{Token}
use Rattle.pl_syntax.specs.declared.token.Token.TheVariants as token
use Rattle.pl_text.specs.declared.word.Word.TheVariants as word
use Rattle.pl_syntax.specs.declared.symbol.Symbol.TheVariants as symbol
use Rattle.pl_syntax.specs.declared.expressions.AstExpr.TheVariants as tree
use Rattle.pl_model.specs.declared.expressions.Op.TheVariants as op
use Rattle.pl_syntax.specs.Expressions.{Sign, plus, minus, Pick, least, most, sign_op, pick_op, sign_token, pick_token, Factor, Expr, Products, Sums, number, named, group, pick, expr, no_product, times, no_sum, joined, spell_factor, Measured, apply, factor_tree, expr_tree, products_tree, sums_tree, factor_nests, expr_nests, products_nest, sums_nest}
use Rattle.pl_syntax.specs.Faults.{too_deep, Stop, Language, Begins, Judged}
use Rattle.pl_syntax.specs.Parsing.{Parser, follow, ◌>>=◌, ◌>>◌, pure, expect}
use Rattle.pl_syntax.specs.ReadingExpressions.{group_by, pick_by, inner_at, group_with, pick_with, factor_with, operand, products_by, sums_by, term_with, expr_with, expr_at}
use Rattle.pl_syntax.proofs.Judging.{judged_behind, judged_stuck, judged_deep, judged_ended, judged_here, judged_end, judged_same}
use Rattle.pl_syntax.proofs.ExprLanguages.{FactorThen, ExprThen, ProductsThen, SumsThen, TermThen, number_down, number_up, named_down, named_up, Grouped, group_down, group_up, Picked, pick_down, pick_up, no_pick, Multiplied, times_down, times_up, no_times_down, products_end_down, no_product_up, Summed, sign_down, sign_up, no_sign_down, sums_end_down, no_sum_up, Parted, expr_down, expr_up}
use Rattle.pl_syntax.proofs.Steps.{After, Exact, Exact-less, Exact-alive, judged_in_row, in_turn, judged_in_turn, expect_carries, after_lives}
use Rattle.pl_syntax.proofs.TokenTests.{same_symbol}
use Rattle.pl_syntax.proofs.ExprLevels.{products_grow, sums_grow, expr_some}

-- a number of a text
zero_small : 0 < 10 ^ 18
zero_small = omega arith

-- ---- what fits

abbrev pub FactorFits : ℕ → ℕ → Factor → Type 0
FactorFits l b f = ((factor_tree f).1 ≤ l) × factor_nests f b

abbrev pub ProductsFit : ℕ → ℕ → Measured → Products → Type 0
ProductsFit l b v ps = ((products_tree ps v).1 ≤ l) × products_nest ps b

abbrev pub SumsFit : ℕ → ℕ → Measured → Sums → Type 0
SumsFit l b v ss = ((sums_tree ss v).1 ≤ l) × sums_nest ss b

abbrev pub ExprFits : ℕ → ℕ → Expr → Type 0
ExprFits l b e = ((expr_tree e).1 ≤ l) × expr_nests e b

abbrev pub Any : {X : Type 0} → X → Type 0
Any x = Unit {0}

-- ---- what follows

pub record Ready {D : Type 0} (n l : ℕ) (k : Measured → List Token → Result D Stop) (R F : Measured → Language D) : Type 0 where
  pub exact : (v : Measured) → 1 ≤ v.1 → v.1 ≤ l → Exact n (k v) (R v) (F v)
  pub lives : (v : Measured) → Begins (F v) []

-- no operator follows
pub record Closes {D : Type 0} (R : Measured → Language D) : Type 0 where
  pub times : (v : Measured) (ts : List Token) (d : D) → R v (token.Symbol symbol.Times ∷ ts) d → ⊥
  pub sign : (s : Sign) (v : Measured) (ts : List Token) (d : D) → R v (sign_token s ∷ ts) d → ⊥

Ready-less : {D : Type 0} (m n l : ℕ) (k : Measured → List Token → Result D Stop) (R F : Measured → Language D) → m ≤ n → Ready n l k R F → Ready m l k R F
Ready-less m n l k R F le r = record { exact = λ v some fits. Exact-less m n (k v) (R v) (F v) le (r.exact v some fits); lives = r.lives }

Ready-alive : {D : Type 0} (n l : ℕ) (k : Measured → List Token → Result D Stop) (R F : Measured → Language D) → Ready n l k R F → (v : Measured) → 1 ≤ v.1 → v.1 ≤ l → Begins (R v) []
Ready-alive n l k R F r v some fits = Exact-alive n (k v) (R v) (F v) (r.exact v some fits)

abbrev pub ExprExact : (D : Type 0) → ℕ → ℕ → Type 1
ExprExact D l b = (n : ℕ) (k : Measured → List Token → Result D Stop) (R F : Measured → Language D) → Ready n l k R F → Closes R → Closes F → Exact n (λ ts. follow (expr_at b l ts) k) (ExprThen (ExprFits l b) R) (ExprThen Any F)

abbrev pub InnerExact : (D : Type 0) → ℕ → Type 1
InnerExact D zero = Unit {1}
InnerExact D (suc b) = (l : ℕ) → 1 ≤ l → ExprExact D l b

close_closes : {D : Type 0} (R : Measured → Language D) → Closes (λ v. After (token.Symbol symbol.Close) (R v))
close_closes R = record { times = λ v ts d h. let e = h.0 in absurd cc; sign = no_sign }
  where
    no_sign : (s : Sign) (v : Measured) (ts : List Token) (d : _) → After (token.Symbol symbol.Close) (R v) (sign_token s ∷ ts) d → ⊥
    no_sign plus v ts d h = let e = h.0 in absurd cc
    no_sign minus v ts d h = let e = h.0 in absurd cc

comma_closes : {D : Type 0} (R : Measured → Language D) → Closes (λ v. After (token.Symbol symbol.Comma) (R v))
comma_closes R = record { times = λ v ts d h. let e = h.0 in absurd cc; sign = no_sign }
  where
    no_sign : (s : Sign) (v : Measured) (ts : List Token) (d : _) → After (token.Symbol symbol.Comma) (R v) (sign_token s ∷ ts) d → ⊥
    no_sign plus v ts d h = let e = h.0 in absurd cc
    no_sign minus v ts d h = let e = h.0 in absurd cc

-- ---- a factor

-- what a factor can begin with
abbrev begins : Token → Bool
begins (token.Number (pos n)) = true
begins (token.Name n) = true
begins (token.Symbol symbol.Open) = true
begins (token.Word word.Min) = true
begins (token.Word word.Max) = true
begins t = false

factor_begins : (t : Token) (ts : List Token) (f : Factor) (rest : List Token) → t ∷ ts ≡ spell_factor f rest → begins t ≡ true
factor_begins t ts (number m) rest e = let is : t ≡ token.Number (pos m) = cc in ap begins is
factor_begins t ts (named m) rest e = let is : t ≡ token.Name m = cc in ap begins is
factor_begins t ts (group g) rest e = let is : t ≡ token.Symbol symbol.Open = cc in ap begins is
factor_begins t ts (pick least a b) rest e = let is : t ≡ token.Word word.Min = cc in ap begins is
factor_begins t ts (pick most a b) rest e = let is : t ≡ token.Word word.Max = cc in ap begins is

no_factor : {D : Type 0} (ok : Factor → Type 0) (R : Measured → Language D) (t : Token) → begins t ≡ false → (ts : List Token) (d : D) → FactorThen ok R (t ∷ ts) d → ⊥
no_factor ok R t none ts d h = let some = factor_begins t ts h.form h.rest h.spelled in absurd cc

factor_end : (f : Factor) (rest : List Token) → [] ≡ spell_factor f rest → ⊥
factor_end (number m) rest e = absurd cc
factor_end (named m) rest e = absurd cc
factor_end (group g) rest e = absurd cc
factor_end (pick p a b) rest e = absurd cc

module _ {D : Type 0} (n l b : ℕ) (some : 1 ≤ l) (k : Measured → List Token → Result D Stop) (R F : Measured → Language D) (ready : Ready n l k R F) where
  abbrev Here : Language D
  Here = FactorThen (FactorFits l b) R

  abbrev Free : Language D
  Free = FactorThen Any F

  factor_alive : Begins Here []
  factor_alive =
      let b = Ready-alive n l k R F ready (tree.Num (pos 0), 1) (omega arith) some in
      (token.Number (pos 0) ∷ b.0, b.1, number_up (FactorFits l _) R 0 (some, tt) b.0 b.1 b.2, (zero_small, b.3))

  pub factor_lives : Begins Free []
  factor_lives = let b = ready.lives (tree.Num (pos 0), 1) in (token.Number (pos 0) ∷ b.0, b.1, number_up Any F 0 tt b.0 b.1 b.2, (zero_small, b.3))

  group_free : Begins Free (token.Symbol symbol.Open ∷ [])
  group_free =
      let b = ready.lives (tree.Num (pos 0), 1) in
      (token.Number (pos 0) ∷ token.Symbol symbol.Close ∷ b.0, b.1, record { form = group (expr (number 0) no_product no_sum); rest = b.0; spelled = refl; fits = tt; goes = b.2 }, (zero_small, (tt, b.3)))

  pick_free : (p : Pick) → Begins Free (pick_token p ∷ [])
  pick_free p =
      let leaf = expr (number 0) no_product no_sum in
      let b = ready.lives (apply (pick_op p) (tree.Num (pos 0), 1) (tree.Num (pos 0), 1)) in
      (token.Symbol symbol.Open ∷ token.Number (pos 0) ∷ token.Symbol symbol.Comma ∷ token.Number (pos 0) ∷ token.Symbol symbol.Close ∷ b.0, b.1, record { form = pick p leaf leaf; rest = b.0; spelled = refl; fits = tt; goes = b.2 }, (tt, (zero_small, (tt, (zero_small, (tt, b.3))))))

-- ---- brackets, given that the inside is read exactly

pub expr_lives : {D : Type 0} (F : Measured → Language D) → ((v : Measured) → Begins (F v) []) → Begins (ExprThen Any F) []
expr_lives F lives =
    let b = lives (tree.Num (pos 0), 1) in
    (token.Number (pos 0) ∷ b.0, b.1, record { form = expr (number 0) no_product no_sum; rest = b.0; spelled = refl; fits = tt; goes = b.2 }, (zero_small, b.3))

-- an expression and a parser behind it
pub expr_carries : {A D : Type 0} (l b : ℕ) → ExprExact D l b → (n : ℕ) (f : Measured → Parser A) (k : A → List Token → Result D Stop) (R F : Measured → Language D) → Ready n l (λ v ts. follow (f v ts) k) R F → Closes R → Closes F → Exact n (λ ts. follow ((expr_at b l >>= f) ts) k) (ExprThen (ExprFits l b) R) (ExprThen Any F)
expr_carries l b exact n f k R F ready closes closes_free ts short =
    judged_in_row (ExprThen (ExprFits l b) R) (ExprThen Any F) ts (expr_at b l ts) f k (exact n (λ v us. follow (f v us) k) R F ready closes closes_free ts short)

module _ {D : Type 0} (n l : ℕ) (some : 1 ≤ l) (k : Measured → List Token → Result D Stop) (R F : Measured → Language D) (ready : Ready n l k R F) where
  group_ready : Ready n l (λ v ts. follow ((expect (token.Symbol symbol.Close) >> pure v) ts) k) (λ v. After (token.Symbol symbol.Close) (R v)) (λ v. After (token.Symbol symbol.Close) (F v))
  group_ready = record {
    exact = λ v some fits. expect_carries n (token.Symbol symbol.Close) (same_symbol symbol.Close) tt (λ _. pure v) k (R v) (F v) (ready.exact v some fits);
    lives = λ v. after_lives (token.Symbol symbol.Close) tt (F v) (ready.lives v);
  }

  group_exact : (b : ℕ) → InnerExact D b → (ts : List Token) → length (token.Symbol symbol.Open ∷ ts) ≤ n → Judged (FactorThen (FactorFits l b) R) (FactorThen Any F) (token.Symbol symbol.Open ∷ ts) (follow (group_with (inner_at b) l (token.Symbol symbol.Open) ts) k)
  group_exact zero inner ts short =
      judged_deep (FactorThen (FactorFits l 0) R) (FactorThen Any F) (FactorThen (FactorFits l 0) R) (FactorThen Any F) (token.Symbol symbol.Open)
      (factor_alive n l 0 some k R F ready)
      (λ us d h. (group_down (FactorFits l 0) R (λ g. ⊥) (λ g fits. fits.1) us d h).fits)
      (group_free n l 0 some k R F ready) ts
  group_exact (suc b) inner ts short =
      judged_behind (FactorThen (FactorFits l (suc b)) R) (FactorThen Any F) (Grouped (FactorFits l (suc b)) R (ExprFits l b)) (Grouped Any F Any) (token.Symbol symbol.Open)
      (group_down (FactorFits l (suc b)) R (ExprFits l b) (λ g fits. fits))
      (group_up (FactorFits l (suc b)) R (ExprFits l b) (λ g fits. fits))
      (group_down Any F Any (λ g fits. fits))
      (group_up Any F Any (λ g fits. fits))
      ts (follow (group_by (expr_at b l) ts) k)
      (expr_carries l b (inner l some) n (λ v. expect (token.Symbol symbol.Close) >> pure v) k (λ v. After (token.Symbol symbol.Close) (R v)) (λ v. After (token.Symbol symbol.Close) (F v)) group_ready (close_closes R) (close_closes F) ts (omega (arith, short)))

  -- the last part of a pick, behind the first argument
  abbrev second_part : Pick → Measured → Measured → Parser Measured
  second_part p a v = expect (token.Symbol symbol.Close) >> pure (apply (pick_op p) a v)

  second_ready : (p : Pick) (a : Measured) → suc a.1 ≤ l → Ready n (l - 1) (λ v ts. follow (second_part p a v ts) k) (λ v. After (token.Symbol symbol.Close) (R (apply (pick_op p) a v))) (λ v. After (token.Symbol symbol.Close) (F (apply (pick_op p) a v)))
  second_ready p a low = record {
    exact = λ v some fits. expect_carries n (token.Symbol symbol.Close) (same_symbol symbol.Close) tt (λ _. pure (apply (pick_op p) a v)) k (R (apply (pick_op p) a v)) (F (apply (pick_op p) a v)) (ready.exact (apply (pick_op p) a v) (omega arith) (omega (arith, low, fits)));
    lives = λ v. after_lives (token.Symbol symbol.Close) tt (F (apply (pick_op p) a v)) (ready.lives (apply (pick_op p) a v));
  }

  abbrev SecondThen : (b : ℕ) → Pick → Measured → Language D
  SecondThen b p a = ExprThen (ExprFits (l - 1) b) (λ v. After (token.Symbol symbol.Close) (R (apply (pick_op p) a v)))

  abbrev SecondFree : Pick → Measured → Language D
  SecondFree p a = ExprThen Any (λ v. After (token.Symbol symbol.Close) (F (apply (pick_op p) a v)))

  abbrev behind_comma : (b : ℕ) → Pick → Measured → Parser Measured
  behind_comma b p a = group_by (expr_at b (l - 1)) >>= λ v. pure (apply (pick_op p) a v)

  abbrev first_part : (b : ℕ) → Pick → Measured → Parser Measured
  first_part b p a = expect (token.Symbol symbol.Comma) >> behind_comma b p a

  same_second : (p : Pick) (a : Measured) (x : Result (Measured × List Token) Stop) → follow (follow x (λ v. expect (token.Symbol symbol.Close) >> pure v)) (λ v. pure (apply (pick_op p) a v)) ≡ follow x (second_part p a)
  same_second p a (Ok q) = in_turn (expect (token.Symbol symbol.Close) q.1) (λ u. q.0) (λ v. pure (apply (pick_op p) a v))
  same_second p a (Err s) = refl

  second_same : (b : ℕ) (p : Pick) (a : Measured) → Exact n (λ ts. follow ((expr_at b (l - 1) >>= second_part p a) ts) k) (SecondThen b p a) (SecondFree p a) → Exact n (λ ts. follow (behind_comma b p a ts) k) (SecondThen b p a) (SecondFree p a)
  second_same b p a h ts short =
      let P : Result (Measured × List Token) Stop → Type 0 = λ r. Judged (SecondThen b p a) (SecondFree p a) ts (follow r k) in
      subst P (sym (same_second p a (expr_at b (l - 1) ts))) (h ts short)

  first_ready : (b : ℕ) → 1 < l → ExprExact D (l - 1) b → (p : Pick) → Ready n (l - 1) (λ v ts. follow (first_part b p v ts) k) (λ v. After (token.Symbol symbol.Comma) (SecondThen b p v)) (λ v. After (token.Symbol symbol.Comma) (SecondFree p v))
  first_ready b two inner p = record {
    exact = λ v some fits. expect_carries n (token.Symbol symbol.Comma) (same_symbol symbol.Comma) tt (λ _. behind_comma b p v) k (SecondThen b p v) (SecondFree p v)
        (second_same b p v (expr_carries (l - 1) b inner n (second_part p v) k (λ w. After (token.Symbol symbol.Close) (R (apply (pick_op p) v w))) (λ w. After (token.Symbol symbol.Close) (F (apply (pick_op p) v w))) (second_ready p v (omega (arith, fits, two))) (close_closes (λ w. R (apply (pick_op p) v w))) (close_closes (λ w. F (apply (pick_op p) v w)))));
    lives = λ v. after_lives (token.Symbol symbol.Comma) tt (SecondFree p v) (expr_lives (λ w. After (token.Symbol symbol.Close) (F (apply (pick_op p) v w))) (λ w. after_lives (token.Symbol symbol.Close) tt (F (apply (pick_op p) v w)) (ready.lives (apply (pick_op p) v w))));
  }

  pick_inside : (b : ℕ) → 1 < l → ExprExact D (l - 1) b → (p : Pick) → Exact n (λ ts. follow (pick_by p (expr_at b (l - 1)) ts) k) (Picked (FactorFits l (suc b)) R p (ExprFits (l - 1) b)) (Picked Any F p Any)
  pick_inside b two inner p =
      expect_carries n (token.Symbol symbol.Open) (same_symbol symbol.Open) tt (λ _. expr_at b (l - 1) >>= first_part b p) k (ExprThen (ExprFits (l - 1) b) (λ v. After (token.Symbol symbol.Comma) (SecondThen b p v))) (ExprThen Any (λ v. After (token.Symbol symbol.Comma) (SecondFree p v)))
      (expr_carries (l - 1) b inner n (first_part b p) k (λ v. After (token.Symbol symbol.Comma) (SecondThen b p v)) (λ v. After (token.Symbol symbol.Comma) (SecondFree p v)) (first_ready b two inner p) (comma_closes (SecondThen b p)) (comma_closes (SecondFree p)))

  pick_fits_down : (b : ℕ) (p : Pick) (x y : Expr) → FactorFits l (suc b) (pick p x y) → ExprFits (l - 1) b x × ExprFits (l - 1) b y
  pick_fits_down b p x y h = ((omega (arith, h.0), h.1.0), (omega (arith, h.0), h.1.1))

  pick_fits_up : (b : ℕ) (p : Pick) (x y : Expr) → ExprFits (l - 1) b x → ExprFits (l - 1) b y → FactorFits l (suc b) (pick p x y)
  pick_fits_up b p x y f g = (omega (arith, some, f.0, g.0), (f.1, g.1))

  pick_tested : (b : ℕ) → InnerExact D (suc b) → (p : Pick) (ts : List Token) → length ts ≤ n → (more : Bool) → ltb 1 l ≡ more → Judged (FactorThen (FactorFits l (suc b)) R) (FactorThen Any F) (pick_token p ∷ ts) (follow (if more then pick_by p (expr_at b (l - 1)) ts else Err (too_deep, suc (length ts))) k)
  pick_tested b inner p ts short true e =
      judged_behind (FactorThen (FactorFits l (suc b)) R) (FactorThen Any F) (Picked (FactorFits l (suc b)) R p (ExprFits (l - 1) b)) (Picked Any F p Any) (pick_token p)
      (pick_down (FactorFits l (suc b)) R p (ExprFits (l - 1) b) (pick_fits_down b p))
      (pick_up (FactorFits l (suc b)) R p (ExprFits (l - 1) b) (pick_fits_up b p))
      (pick_down Any F p Any (λ x y fits. (tt, tt)))
      (pick_up Any F p Any (λ x y f g. tt))
      ts (follow (pick_by p (expr_at b (l - 1)) ts) k)
      (pick_inside b (ltb-true 1 l e) (inner (l - 1) (omega (arith, ltb-true 1 l e))) p ts short)
  pick_tested b inner p ts short false e =
      judged_deep (FactorThen (FactorFits l (suc b)) R) (FactorThen Any F) (FactorThen (FactorFits l (suc b)) R) (FactorThen Any F) (pick_token p)
      (factor_alive n l (suc b) some k R F ready)
      (no_pick (FactorFits l (suc b)) R p low)
      (pick_free n l (suc b) some k R F ready p) ts
    where
      low : (x y : Expr) → FactorFits l (suc b) (pick p x y) → ⊥
      low x y fits = omega (arith, fits.0, ltb-false 1 l e, expr_some x)

  pick_exact : (b : ℕ) → InnerExact D b → (p : Pick) (ts : List Token) → length ts ≤ n → Judged (FactorThen (FactorFits l b) R) (FactorThen Any F) (pick_token p ∷ ts) (follow (pick_with (inner_at b) l p (pick_token p) ts) k)
  pick_exact zero inner p ts short =
      judged_deep (FactorThen (FactorFits l 0) R) (FactorThen Any F) (FactorThen (FactorFits l 0) R) (FactorThen Any F) (pick_token p)
      (factor_alive n l 0 some k R F ready)
      (no_pick (FactorFits l 0) R p (λ x y fits. fits.1))
      (pick_free n l 0 some k R F ready p) ts
  pick_exact (suc b) inner p ts short = pick_tested b inner p ts short (ltb 1 l) refl

  pub factor_exact : (b : ℕ) → InnerExact D b → Exact n (λ ts. follow (factor_with (inner_at b) l ts) k) (FactorThen (FactorFits l b) R) (FactorThen Any F)
  unfolding factor_with
  factor_exact b inner [] short = judged_ended (FactorThen (FactorFits l b) R) (FactorThen Any F) (factor_alive n l b some k R F ready) (λ d h. factor_end h.form h.rest h.spelled)
  factor_exact b inner (token.Number (pos m) ∷ ts) short =
      judged_behind (FactorThen (FactorFits l b) R) (FactorThen Any F) (R (tree.Num (pos m), 1)) (F (tree.Num (pos m), 1)) (token.Number (pos m)) (number_down (FactorFits l b) R m) (number_up (FactorFits l b) R m (some, tt)) (number_down Any F m) (number_up Any F m tt) ts (k (tree.Num (pos m), 1) ts) (ready.exact (tree.Num (pos m), 1) (omega arith) some ts (omega (arith, short)))
  factor_exact b inner (token.Name m ∷ ts) short =
      judged_behind (FactorThen (FactorFits l b) R) (FactorThen Any F) (R (tree.Name m, 1)) (F (tree.Name m, 1)) (token.Name m) (named_down (FactorFits l b) R m) (named_up (FactorFits l b) R m (some, tt)) (named_down Any F m) (named_up Any F m tt) ts (k (tree.Name m, 1) ts) (ready.exact (tree.Name m, 1) (omega arith) some ts (omega (arith, short)))
  factor_exact b inner (token.Symbol symbol.Open ∷ ts) short = group_exact b inner ts short
  factor_exact b inner (token.Word word.Min ∷ ts) short = pick_exact b inner least ts (omega (arith, short))
  factor_exact b inner (token.Word word.Max ∷ ts) short = pick_exact b inner most ts (omega (arith, short))
  factor_exact b inner (t ∷ ts) short =
      judged_stuck (FactorThen (FactorFits l b) R) (FactorThen Any F) (FactorThen (FactorFits l b) R) (FactorThen Any F) t (factor_alive n l b some k R F ready) (no_factor (FactorFits l b) R t refl) (no_factor Any F t refl) ts

-- ---- products

abbrev pub NoTimes : {D : Type 0} → (Measured → Language D) → Type 0
NoTimes {D} R = (v : Measured) (ts : List Token) (d : D) → R v (token.Symbol symbol.Times ∷ ts) d → ⊥

abbrev pub NoSign : {D : Type 0} → (Measured → Language D) → Type 0
NoSign {D} R = (s : Sign) (v : Measured) (ts : List Token) (d : D) → R v (sign_token s ∷ ts) d → ⊥

products_fit_down : (l b : ℕ) (v : Measured) (f : Factor) (ps : Products) → ProductsFit l b v (times f ps) → FactorFits (l - 1) b f × ProductsFit l b (apply op.Mul v (factor_tree f)) ps
products_fit_down l b v f ps h = ((omega (arith, h.0, products_grow ps (apply op.Mul v (factor_tree f))), h.1.0), (h.0, h.1.1))

products_fit_up : (l b : ℕ) (v : Measured) (f : Factor) (ps : Products) → FactorFits (l - 1) b f → ProductsFit l b (apply op.Mul v (factor_tree f)) ps → ProductsFit l b v (times f ps)
products_fit_up l b v f ps g h = (h.0, (g.1, h.1))

products_lives : {D : Type 0} (F : Measured → Language D) → ((v : Measured) → Begins (F v) []) → (v : Measured) → Begins (ProductsThen v Any F) []
products_lives F lives v = let b = lives v in (b.0, b.1, no_product_up v Any F tt b.0 b.1 b.2, b.3)

module _ {D : Type 0} (b : ℕ) (inner : InnerExact D b) (l : ℕ) (low : 1 ≤ l) (k : Measured → List Token → Result D Stop) (R F : Measured → Language D) (closes : NoTimes R) (closes_free : NoTimes F) where
  abbrev multiplying : ℕ → Measured → Parser Measured
  multiplying m v = products_by (factor_with (inner_at b)) m l v

  times_free : ((v : Measured) → Begins (F v) []) → (v : Measured) → Begins (ProductsThen v Any F) (token.Symbol symbol.Times ∷ [])
  times_free lives v =
      let b = lives (apply op.Mul v (tree.Num (pos 0), 1)) in
      (token.Number (pos 0) ∷ b.0, b.1, record { form = times (number 0) no_product; rest = b.0; spelled = refl; fits = tt; goes = b.2 }, (zero_small, b.3))

  times_tested : (m : ℕ) → Ready (suc m) l k R F → (v : Measured) → 1 ≤ v.1 → v.1 ≤ l → ((r : Measured) → (apply op.Mul v r).1 ≤ l → Exact m (λ us. follow (multiplying m (apply op.Mul v r) us) k) (ProductsThen (apply op.Mul v r) (ProductsFit l b (apply op.Mul v r)) R) (ProductsThen (apply op.Mul v r) Any F)) → (ts : List Token) → length ts ≤ m → (more : Bool) → ltb v.1 l ≡ more → Judged (ProductsThen v (ProductsFit l b v) R) (ProductsThen v Any F) (token.Symbol symbol.Times ∷ ts) (follow (follow (if more then (factor_with (inner_at b) (l - 1) >>= λ r. pure (apply op.Mul v r)) ts else Err (too_deep, suc (length ts))) (multiplying m)) k)
  times_tested m ready v some fits ih ts short true e =
      judged_behind (ProductsThen v (ProductsFit l b v) R) (ProductsThen v Any F)
      (Multiplied v (ProductsFit l b v) R (FactorFits (l - 1) b) (λ r. ProductsFit l b (apply op.Mul v r))) (Multiplied v Any F Any (λ r. Any)) (token.Symbol symbol.Times)
      (times_down v (ProductsFit l b v) R (FactorFits (l - 1) b) (λ r. ProductsFit l b (apply op.Mul v r)) (products_fit_down l b v) closes)
      (times_up v (ProductsFit l b v) R (FactorFits (l - 1) b) (λ r. ProductsFit l b (apply op.Mul v r)) (products_fit_up l b v))
      (times_down v Any F Any (λ r. Any) (λ f ps h. (tt, tt)) closes_free)
      (times_up v Any F Any (λ r. Any) (λ f ps g h. tt))
      ts (follow (follow ((factor_with (inner_at b) (l - 1) >>= λ r. pure (apply op.Mul v r)) ts) (multiplying m)) k)
      (judged_in_turn (Multiplied v (ProductsFit l b v) R (FactorFits (l - 1) b) (λ r. ProductsFit l b (apply op.Mul v r))) (Multiplied v Any F Any (λ r. Any)) ts (factor_with (inner_at b) (l - 1) ts) (apply op.Mul v) (multiplying m) k
      (factor_exact m (l - 1) (omega (arith, some, ltb-true v.1 l e)) (λ r us. follow (multiplying m (apply op.Mul v r) us) k) (λ r. ProductsThen (apply op.Mul v r) (ProductsFit l b (apply op.Mul v r)) R) (λ r. ProductsThen (apply op.Mul v r) Any F)
      (record { exact = λ r some_r fits_r. ih r (omega (arith, fits_r, low, some, ltb-true v.1 l e)); lives = λ r. products_lives F ready.lives (apply op.Mul v r) })
      b inner ts short))
  times_tested m ready v some fits ih ts short false e =
      judged_deep (ProductsThen v (ProductsFit l b v) R) (ProductsThen v Any F) (R v) (F v) (token.Symbol symbol.Times)
      (let a = Ready-alive (suc m) l k R F ready v some fits in (a.0, a.1, no_product_up v (ProductsFit l b v) R (fits, tt) a.0 a.1 a.2, a.3))
      (λ us d h. (times_down v (ProductsFit l b v) R (λ f. ⊥) (λ r. Any) (λ f ps g. absurd (full f ps g)) closes us d h).fits)
      (times_free ready.lives v) ts
    where
      full : (f : Factor) (ps : Products) → ProductsFit l b v (times f ps) → ⊥
      full f ps g = omega (arith, g.0, products_grow ps (apply op.Mul v (factor_tree f)), ltb-false v.1 l e)

  pub products_exact : (m : ℕ) → Ready m l k R F → (v : Measured) → 1 ≤ v.1 → v.1 ≤ l → Exact m (λ ts. follow (products_by (factor_with (inner_at b)) m l v ts) k) (ProductsThen v (ProductsFit l b v) R) (ProductsThen v Any F)
  unfolding products_by operand
  products_exact zero ready v some fits [] short =
      judged_end (ProductsThen v (ProductsFit l b v) R) (ProductsThen v Any F) (R v) (F v) (products_end_down v (ProductsFit l b v) R) (no_product_up v (ProductsFit l b v) R (fits, tt)) (k v []) (ready.exact v some fits [] short)
  products_exact zero ready v some fits (t ∷ ts) short = absurd (omega (arith, short))
  products_exact (suc m) ready v some fits [] short =
      judged_end (ProductsThen v (ProductsFit l b v) R) (ProductsThen v Any F) (R v) (F v) (products_end_down v (ProductsFit l b v) R) (no_product_up v (ProductsFit l b v) R (fits, tt)) (k v []) (ready.exact v some fits [] short)
  products_exact (suc m) ready v some fits (token.Symbol symbol.Times ∷ ts) short =
      times_tested m ready v some fits (λ r fits_r. products_exact m (Ready-less m (suc m) l k R F (omega arith) ready) (apply op.Mul v r) (omega arith) fits_r) ts (omega (arith, short)) (ltb v.1 l) refl
  products_exact (suc m) ready v some fits (t ∷ ts) short =
      judged_here (ProductsThen v (ProductsFit l b v) R) (ProductsThen v Any F) (R v) (F v) t (no_times_down v (ProductsFit l b v) R t (λ e. absurd cc)) (no_product_up v (ProductsFit l b v) R (fits, tt)) (no_times_down v Any F t (λ e. absurd cc)) (no_product_up v Any F tt) ts (k v (t ∷ ts)) (ready.exact v some fits (t ∷ ts) short)

-- ---- a term

pub term_exact : {D : Type 0} (b : ℕ) (inner : InnerExact D b) (n l : ℕ) (low : 1 ≤ l) (k : Measured → List Token → Result D Stop) (R F : Measured → Language D) → NoTimes R → NoTimes F → Ready n l k R F → Exact n (λ ts. follow (term_with (inner_at b) l ts) k) (TermThen (FactorFits l b) (ProductsFit l b) R) (TermThen Any (λ v. Any) F)
unfolding term_with
term_exact {D} b inner n l low k R F closes closes_free ready ts short =
    judged_in_row (TermThen (FactorFits l b) (ProductsFit l b) R) (TermThen Any (λ v. Any) F) ts (factor_with (inner_at b) l ts) (λ left us. products_by (factor_with (inner_at b)) (length us) l left us) k
    (factor_exact n l low (λ v us. follow (products_by (factor_with (inner_at b)) (length us) l v us) k) (λ v. ProductsThen v (ProductsFit l b v) R) (λ v. ProductsThen v Any F)
    (record {
      exact = λ v some fits us few. products_exact b inner l low k R F closes closes_free (length us) (Ready-less (length us) n l k R F few ready) v some fits us (omega arith);
      lives = λ v. products_lives F ready.lives v;
    })
    b inner ts short)

-- ---- sums

sums_fit_down : (l b : ℕ) (s : Sign) (v : Measured) (f : Factor) (ps : Products) (ss : Sums) → SumsFit l b v (joined s f ps ss) → FactorFits (l - 1) b f × ProductsFit (l - 1) b (factor_tree f) ps × SumsFit l b (apply (sign_op s) v (products_tree ps (factor_tree f))) ss
sums_fit_down l b s v f ps ss h =
    let grown = sums_grow ss (apply (sign_op s) v (products_tree ps (factor_tree f))) in
    let more = products_grow ps (factor_tree f) in
    ((omega (arith, h.0, grown, more), h.1.0), (omega (arith, h.0, grown), h.1.1), (h.0, h.1.2))

sums_fit_up : (l b : ℕ) (s : Sign) (v : Measured) (f : Factor) (ps : Products) (ss : Sums) → FactorFits (l - 1) b f → ProductsFit (l - 1) b (factor_tree f) ps → SumsFit l b (apply (sign_op s) v (products_tree ps (factor_tree f))) ss → SumsFit l b v (joined s f ps ss)
sums_fit_up l b s v f ps ss g h i = (i.0, (g.1, h.1, i.1))

sums_lives : {D : Type 0} (F : Measured → Language D) → ((v : Measured) → Begins (F v) []) → (v : Measured) → Begins (SumsThen v Any F) []
sums_lives F lives v = let b = lives v in (b.0, b.1, no_sum_up v Any F tt b.0 b.1 b.2, b.3)

sign_is_not_times : (s : Sign) → sign_token s ≡ token.Symbol symbol.Times → ⊥
sign_is_not_times plus e = absurd cc
sign_is_not_times minus e = absurd cc

sums_close : {D : Type 0} (f : Measured → Measured) (ok : Measured → Sums → Type 0) (R : Measured → Language D) → NoTimes R → NoTimes (λ v. SumsThen (f v) (ok v) R)
sums_close f ok R closes v ts d h = closes (f v) ts d (no_sign_down (f v) (ok v) R (token.Symbol symbol.Times) sign_is_not_times ts d h)

module _ {D : Type 0} (b : ℕ) (inner : InnerExact D b) (l : ℕ) (low : 1 ≤ l) (k : Measured → List Token → Result D Stop) (R F : Measured → Language D) (closes : Closes R) (closes_free : Closes F) where
  abbrev adding : ℕ → Measured → Parser Measured
  adding m v = sums_by (term_with (inner_at b)) m l v

  sign_free : ((v : Measured) → Begins (F v) []) → (s : Sign) (v : Measured) → Begins (SumsThen v Any F) (sign_token s ∷ [])
  sign_free lives s v =
      let b = lives (apply (sign_op s) v (tree.Num (pos 0), 1)) in
      (token.Number (pos 0) ∷ b.0, b.1, record { form = joined s (number 0) no_product no_sum; rest = b.0; spelled = refl; fits = tt; goes = b.2 }, (zero_small, b.3))

  sign_tested : (m : ℕ) → Ready (suc m) l k R F → (s : Sign) (v : Measured) → 1 ≤ v.1 → v.1 ≤ l → ((r : Measured) → (apply (sign_op s) v r).1 ≤ l → Exact m (λ us. follow (adding m (apply (sign_op s) v r) us) k) (SumsThen (apply (sign_op s) v r) (SumsFit l b (apply (sign_op s) v r)) R) (SumsThen (apply (sign_op s) v r) Any F)) → (ts : List Token) → length ts ≤ m → (more : Bool) → ltb v.1 l ≡ more → Judged (SumsThen v (SumsFit l b v) R) (SumsThen v Any F) (sign_token s ∷ ts) (follow (follow (if more then (term_with (inner_at b) (l - 1) >>= λ r. pure (apply (sign_op s) v r)) ts else Err (too_deep, suc (length ts))) (adding m)) k)
  sign_tested m ready s v some fits ih ts short true e =
      judged_behind (SumsThen v (SumsFit l b v) R) (SumsThen v Any F)
      (Summed v (SumsFit l b v) R s (FactorFits (l - 1) b) (ProductsFit (l - 1) b) (λ r. SumsFit l b (apply (sign_op s) v r))) (Summed v Any F s Any (λ r. Any) (λ r. Any)) (sign_token s)
      (sign_down v (SumsFit l b v) R s (FactorFits (l - 1) b) (ProductsFit (l - 1) b) (λ r. SumsFit l b (apply (sign_op s) v r)) (sums_fit_down l b s v) (closes.sign s))
      (sign_up v (SumsFit l b v) R s (FactorFits (l - 1) b) (ProductsFit (l - 1) b) (λ r. SumsFit l b (apply (sign_op s) v r)) (sums_fit_up l b s v))
      (sign_down v Any F s Any (λ r. Any) (λ r. Any) (λ f ps ss h. (tt, tt, tt)) (closes_free.sign s))
      (sign_up v Any F s Any (λ r. Any) (λ r. Any) (λ f ps ss g h i. tt))
      ts (follow (follow ((term_with (inner_at b) (l - 1) >>= λ r. pure (apply (sign_op s) v r)) ts) (adding m)) k)
      (judged_in_turn (Summed v (SumsFit l b v) R s (FactorFits (l - 1) b) (ProductsFit (l - 1) b) (λ r. SumsFit l b (apply (sign_op s) v r))) (Summed v Any F s Any (λ r. Any) (λ r. Any)) ts (term_with (inner_at b) (l - 1) ts) (apply (sign_op s) v) (adding m) k
      (term_exact b inner m (l - 1) (omega (arith, some, ltb-true v.1 l e)) (λ r us. follow (adding m (apply (sign_op s) v r) us) k) (λ r. SumsThen (apply (sign_op s) v r) (SumsFit l b (apply (sign_op s) v r)) R) (λ r. SumsThen (apply (sign_op s) v r) Any F)
      (sums_close (apply (sign_op s) v) (λ r. SumsFit l b (apply (sign_op s) v r)) R closes.times)
      (sums_close (apply (sign_op s) v) (λ r. Any) F closes_free.times)
      (record { exact = λ r some_r fits_r. ih r (omega (arith, fits_r, low, some, ltb-true v.1 l e)); lives = λ r. sums_lives F ready.lives (apply (sign_op s) v r) })
      ts short))
  sign_tested m ready s v some fits ih ts short false e =
      judged_deep (SumsThen v (SumsFit l b v) R) (SumsThen v Any F) (R v) (F v) (sign_token s)
      (let a = Ready-alive (suc m) l k R F ready v some fits in (a.0, a.1, no_sum_up v (SumsFit l b v) R (fits, tt) a.0 a.1 a.2, a.3))
      (λ us d h. (sign_down v (SumsFit l b v) R s (λ f. ⊥) (λ r. Any) (λ r. Any) (λ f ps ss g. absurd (full f ps ss g)) (closes.sign s) us d h).fits)
      (sign_free ready.lives s v) ts
    where
      full : (f : Factor) (ps : Products) (ss : Sums) → SumsFit l b v (joined s f ps ss) → ⊥
      full f ps ss g = omega (arith, g.0, sums_grow ss (apply (sign_op s) v (products_tree ps (factor_tree f))), ltb-false v.1 l e)

  pub sums_exact : (m : ℕ) → Ready m l k R F → (v : Measured) → 1 ≤ v.1 → v.1 ≤ l → Exact m (λ ts. follow (sums_by (term_with (inner_at b)) m l v ts) k) (SumsThen v (SumsFit l b v) R) (SumsThen v Any F)
  unfolding sums_by operand
  sums_exact zero ready v some fits [] short =
      judged_end (SumsThen v (SumsFit l b v) R) (SumsThen v Any F) (R v) (F v) (sums_end_down v (SumsFit l b v) R) (no_sum_up v (SumsFit l b v) R (fits, tt)) (k v []) (ready.exact v some fits [] short)
  sums_exact zero ready v some fits (t ∷ ts) short = absurd (omega (arith, short))
  sums_exact (suc m) ready v some fits [] short =
      judged_end (SumsThen v (SumsFit l b v) R) (SumsThen v Any F) (R v) (F v) (sums_end_down v (SumsFit l b v) R) (no_sum_up v (SumsFit l b v) R (fits, tt)) (k v []) (ready.exact v some fits [] short)
  sums_exact (suc m) ready v some fits (token.Symbol symbol.Plus ∷ ts) short =
      sign_tested m ready plus v some fits (λ r fits_r. sums_exact m (Ready-less m (suc m) l k R F (omega arith) ready) (apply (sign_op plus) v r) (omega arith) fits_r) ts (omega (arith, short)) (ltb v.1 l) refl
  sums_exact (suc m) ready v some fits (token.Symbol symbol.Minus ∷ ts) short =
      sign_tested m ready minus v some fits (λ r fits_r. sums_exact m (Ready-less m (suc m) l k R F (omega arith) ready) (apply (sign_op minus) v r) (omega arith) fits_r) ts (omega (arith, short)) (ltb v.1 l) refl
  sums_exact (suc m) ready v some fits (t ∷ ts) short =
      judged_here (SumsThen v (SumsFit l b v) R) (SumsThen v Any F) (R v) (F v) t (no_sign_down v (SumsFit l b v) R t other) (no_sum_up v (SumsFit l b v) R (fits, tt)) (no_sign_down v Any F t other) (no_sum_up v Any F tt) ts (k v (t ∷ ts)) (ready.exact v some fits (t ∷ ts) short)
    where
      other : (s : Sign) → sign_token s ≡ t → ⊥
      other plus e = absurd cc
      other minus e = absurd cc

-- ---- an expression

expr_fit_down : (l b : ℕ) (f : Factor) (ps : Products) (ss : Sums) → ExprFits l b (expr f ps ss) → FactorFits l b f × ProductsFit l b (factor_tree f) ps × SumsFit l b (products_tree ps (factor_tree f)) ss
expr_fit_down l b f ps ss h =
    let grown = sums_grow ss (products_tree ps (factor_tree f)) in
    let more = products_grow ps (factor_tree f) in
    ((omega (arith, h.0, grown, more), h.1.0), (omega (arith, h.0, grown), h.1.1), (h.0, h.1.2))

expr_fit_up : (l b : ℕ) (f : Factor) (ps : Products) (ss : Sums) → FactorFits l b f → ProductsFit l b (factor_tree f) ps → SumsFit l b (products_tree ps (factor_tree f)) ss → ExprFits l b (expr f ps ss)
expr_fit_up l b f ps ss g h i = (i.0, (g.1, h.1, i.1))

expr_with_exact : {D : Type 0} (b : ℕ) (inner : InnerExact D b) (n l : ℕ) (low : 1 ≤ l) (k : Measured → List Token → Result D Stop) (R F : Measured → Language D) → Closes R → Closes F → Ready n l k R F → Exact n (λ ts. follow (expr_with (inner_at b) l ts) k) (ExprThen (ExprFits l b) R) (ExprThen Any F)
unfolding expr_with
expr_with_exact {D} b inner n l low k R F closes closes_free ready ts short =
    judged_same (ExprThen (ExprFits l b) R) (ExprThen Any F) (Parted (ExprFits l b) R (FactorFits l b) (ProductsFit l b) (SumsFit l b)) (Parted Any F Any (λ v. Any) (λ v. Any))
    (expr_down (ExprFits l b) R (FactorFits l b) (ProductsFit l b) (SumsFit l b) (expr_fit_down l b))
    (expr_up (ExprFits l b) R (FactorFits l b) (ProductsFit l b) (SumsFit l b) (expr_fit_up l b))
    (expr_down Any F Any (λ v. Any) (λ v. Any) (λ f ps ss h. (tt, tt, tt)))
    (expr_up Any F Any (λ v. Any) (λ v. Any) (λ f ps ss g h i. tt))
    ts (follow (follow (term_with (inner_at b) l ts) (λ left us. sums_by (term_with (inner_at b)) (length us) l left us)) k)
    (judged_in_row (Parted (ExprFits l b) R (FactorFits l b) (ProductsFit l b) (SumsFit l b)) (Parted Any F Any (λ v. Any) (λ v. Any)) ts (term_with (inner_at b) l ts) (λ left us. sums_by (term_with (inner_at b)) (length us) l left us) k
    (term_exact b inner n l low (λ v us. follow (sums_by (term_with (inner_at b)) (length us) l v us) k) (λ v. SumsThen v (SumsFit l b v) R) (λ v. SumsThen v Any F)
    (sums_close (λ v. v) (SumsFit l b) R closes.times)
    (sums_close (λ v. v) (λ v. Any) F closes_free.times)
    (record {
      exact = λ v some fits us few. sums_exact b inner l low k R F closes closes_free (length us) (Ready-less (length us) n l k R F few ready) v some fits us (omega arith);
      lives = λ v. sums_lives F ready.lives v;
    })
    ts short))

pub expr_exact : {D : Type 0} (b l : ℕ) → 1 ≤ l → ExprExact D l b
unfolding expr_at
expr_exact {D} zero l low n k R F ready closes closes_free ts short = expr_with_exact 0 tt n l low k R F closes closes_free ready ts short
expr_exact {D} (suc b) l low n k R F ready closes closes_free ts short = expr_with_exact (suc b) (λ l' low'. expr_exact b l' low') n l low k R F closes closes_free ready ts short

-- with brackets or without
pub expr_at_is : (b l : ℕ) → expr_at b l ≡ expr_with (inner_at b) l
unfolding expr_at
expr_at_is zero l = refl
expr_at_is (suc b) l = refl
