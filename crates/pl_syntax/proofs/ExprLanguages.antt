-- The languages of what is still to be read, and how they split at a token.
use Rattle.std.proofs.Common.{◌≡◌, ℕ, pos, List, [], ◌∷◌, refl, ap, ◌∙◌}
use Rattle.pl_syntax.specs.declared.token.Token.{Token}
use Rattle.pl_syntax.specs.declared.token.Token.TheVariants as token
use Rattle.pl_syntax.specs.declared.symbol.Symbol.TheVariants as symbol
use Rattle.pl_syntax.specs.declared.expressions.AstExpr.TheVariants as tree
use Rattle.pl_model.specs.declared.expressions.Op.TheVariants as op
use Rattle.pl_syntax.specs.Expressions.{Sign, plus, minus, Pick, least, most, sign_op, pick_op, sign_token, pick_token, Factor, Expr, Products, Sums, number, named, group, pick, expr, no_product, times, no_sum, joined, spell_factor, spell_expr, spell_products, spell_sums, Measured, apply, factor_tree, expr_tree, products_tree, sums_tree}
use Rattle.pl_syntax.specs.Faults.{Language}
use Rattle.pl_syntax.proofs.Steps.{After}

-- a form of the grammar, and then R of its tree
pub record FactorThen {D : Type 0} (ok : Factor → Type 0) (R : Measured → Language D) (ts : List Token) (d : D) : Type 0 where
  pub form : Factor
  pub rest : List Token
  pub spelled : ts ≡ spell_factor form rest
  pub fits : ok form
  pub goes : R (factor_tree form) rest d

pub record ExprThen {D : Type 0} (ok : Expr → Type 0) (R : Measured → Language D) (ts : List Token) (d : D) : Type 0 where
  pub form : Expr
  pub rest : List Token
  pub spelled : ts ≡ spell_expr form rest
  pub fits : ok form
  pub goes : R (expr_tree form) rest d

pub record ProductsThen {D : Type 0} (left : Measured) (ok : Products → Type 0) (R : Measured → Language D) (ts : List Token) (d : D) : Type 0 where
  pub form : Products
  pub rest : List Token
  pub spelled : ts ≡ spell_products form rest
  pub fits : ok form
  pub goes : R (products_tree form left) rest d

pub record SumsThen {D : Type 0} (left : Measured) (ok : Sums → Type 0) (R : Measured → Language D) (ts : List Token) (d : D) : Type 0 where
  pub form : Sums
  pub rest : List Token
  pub spelled : ts ≡ spell_sums form rest
  pub fits : ok form
  pub goes : R (sums_tree form left) rest d

-- ---- a factor, by its first token

module _ {D : Type 0} (ok : Factor → Type 0) (R : Measured → Language D) where
  number_down_at : (n : ℕ) (ts : List Token) (d : D) (f : Factor) (rest : List Token) → token.Number (pos n) ∷ ts ≡ spell_factor f rest → R (factor_tree f) rest d → R (tree.Num (pos n), 1) ts d
  number_down_at n ts d (number m) rest e h = let en : n ≡ m = cc in let er : ts ≡ rest = cc in rw (en, er) h
  number_down_at n ts d (named m) rest e h = absurd cc
  number_down_at n ts d (group g) rest e h = absurd cc
  number_down_at n ts d (pick least a b) rest e h = absurd cc
  number_down_at n ts d (pick most a b) rest e h = absurd cc

  pub number_down : (n : ℕ) (ts : List Token) (d : D) → FactorThen ok R (token.Number (pos n) ∷ ts) d → R (tree.Num (pos n), 1) ts d
  number_down n ts d h = number_down_at n ts d h.form h.rest h.spelled h.goes

  pub number_up : (n : ℕ) → ok (number n) → (ts : List Token) (d : D) → R (tree.Num (pos n), 1) ts d → FactorThen ok R (token.Number (pos n) ∷ ts) d
  number_up n fits ts d h = record { form = number n; rest = ts; spelled = refl; fits = fits; goes = h }

  named_down_at : (n : List ℕ) (ts : List Token) (d : D) (f : Factor) (rest : List Token) → token.Name n ∷ ts ≡ spell_factor f rest → R (factor_tree f) rest d → R (tree.Name n, 1) ts d
  named_down_at n ts d (named m) rest e h = let en : n ≡ m = cc in let er : ts ≡ rest = cc in rw (en, er) h
  named_down_at n ts d (number m) rest e h = absurd cc
  named_down_at n ts d (group g) rest e h = absurd cc
  named_down_at n ts d (pick least a b) rest e h = absurd cc
  named_down_at n ts d (pick most a b) rest e h = absurd cc

  pub named_down : (n : List ℕ) (ts : List Token) (d : D) → FactorThen ok R (token.Name n ∷ ts) d → R (tree.Name n, 1) ts d
  named_down n ts d h = named_down_at n ts d h.form h.rest h.spelled h.goes

  pub named_up : (n : List ℕ) → ok (named n) → (ts : List Token) (d : D) → R (tree.Name n, 1) ts d → FactorThen ok R (token.Name n ∷ ts) d
  named_up n fits ts d h = record { form = named n; rest = ts; spelled = refl; fits = fits; goes = h }

  -- brackets
  abbrev pub Grouped : (Expr → Type 0) → Language D
  Grouped ok_inner = ExprThen ok_inner (λ v. After (token.Symbol symbol.Close) (R v))

  group_down_at : (ok_inner : Expr → Type 0) → ((g : Expr) → ok (group g) → ok_inner g) → (ts : List Token) (d : D) (f : Factor) (rest : List Token) → token.Symbol symbol.Open ∷ ts ≡ spell_factor f rest → ok f → R (factor_tree f) rest d → Grouped ok_inner ts d
  group_down_at ok_inner fit ts d (number m) rest e fits h = absurd cc
  group_down_at ok_inner fit ts d (named m) rest e fits h = absurd cc
  group_down_at ok_inner fit ts d (group g) rest e fits h =
      record { form = g; rest = token.Symbol symbol.Close ∷ rest; spelled = cc; fits = fit g fits; goes = (refl, h) }
  group_down_at ok_inner fit ts d (pick least a b) rest e fits h = absurd cc
  group_down_at ok_inner fit ts d (pick most a b) rest e fits h = absurd cc

  pub group_down : (ok_inner : Expr → Type 0) → ((g : Expr) → ok (group g) → ok_inner g) → (ts : List Token) (d : D) → FactorThen ok R (token.Symbol symbol.Open ∷ ts) d → Grouped ok_inner ts d
  group_down ok_inner fit ts d h = group_down_at ok_inner fit ts d h.form h.rest h.spelled h.fits h.goes

  group_up_at : (ok_inner : Expr → Type 0) → ((g : Expr) → ok_inner g → ok (group g)) → (ts : List Token) (d : D) (g : Expr) (rest : List Token) → ts ≡ spell_expr g rest → ok_inner g → After (token.Symbol symbol.Close) (R (expr_tree g)) rest d → FactorThen ok R (token.Symbol symbol.Open ∷ ts) d
  group_up_at ok_inner fit ts d g [] e fits h = absurd h
  group_up_at ok_inner fit ts d g (t ∷ rest) e fits h =
      record { form = group g; rest = rest; spelled = ap (λ (x : List Token). token.Symbol symbol.Open ∷ x) (e ∙ ap (λ (x : Token). spell_expr g (x ∷ rest)) h.0); fits = fit g fits; goes = h.1 }

  pub group_up : (ok_inner : Expr → Type 0) → ((g : Expr) → ok_inner g → ok (group g)) → (ts : List Token) (d : D) → Grouped ok_inner ts d → FactorThen ok R (token.Symbol symbol.Open ∷ ts) d
  group_up ok_inner fit ts d h = group_up_at ok_inner fit ts d h.form h.rest h.spelled h.fits h.goes

pub after_parts : {D : Type 0} (t : Token) (R : Language D) (ts : List Token) (d : D) → After t R ts d → (rest : List Token) × (ts ≡ t ∷ rest) × R rest d
after_parts t R [] d h = absurd h
after_parts t R (u ∷ ts) d h = (ts, ap (λ (x : Token). x ∷ ts) h.0, h.1)

-- `min` or `max`
module _ {D : Type 0} (ok : Factor → Type 0) (R : Measured → Language D) where
  abbrev pub Picked : Pick → (Expr → Type 0) → Language D
  Picked p ok_inner = After (token.Symbol symbol.Open) (ExprThen ok_inner (λ a. After (token.Symbol symbol.Comma) (ExprThen ok_inner (λ b. After (token.Symbol symbol.Close) (R (apply (pick_op p) a b))))))

  picked : (p : Pick) (ok_inner : Expr → Type 0) (a b : Expr) → ok_inner a → ok_inner b → (ts rest : List Token) (d : D) → ts ≡ token.Symbol symbol.Open ∷ spell_expr a (token.Symbol symbol.Comma ∷ spell_expr b (token.Symbol symbol.Close ∷ rest)) → R (apply (pick_op p) (expr_tree a) (expr_tree b)) rest d → Picked p ok_inner ts d
  picked p ok_inner a b fits_a fits_b ts rest d e h =
      let second : ExprThen ok_inner (λ v. After (token.Symbol symbol.Close) (R (apply (pick_op p) (expr_tree a) v))) (spell_expr b (token.Symbol symbol.Close ∷ rest)) d = record { form = b; rest = token.Symbol symbol.Close ∷ rest; spelled = refl; fits = fits_b; goes = (refl, h) } in
      rw e (refl, record { form = a; rest = token.Symbol symbol.Comma ∷ spell_expr b (token.Symbol symbol.Close ∷ rest); spelled = refl; fits = fits_a; goes = (refl, second) })

  pick_down_at : (p : Pick) (ok_inner : Expr → Type 0) → ((a b : Expr) → ok (pick p a b) → ok_inner a × ok_inner b) → (ts : List Token) (d : D) (f : Factor) (rest : List Token) → pick_token p ∷ ts ≡ spell_factor f rest → ok f → R (factor_tree f) rest d → Picked p ok_inner ts d
  pick_down_at least ok_inner fit ts d (number m) rest e fits h = absurd cc
  pick_down_at least ok_inner fit ts d (named m) rest e fits h = absurd cc
  pick_down_at least ok_inner fit ts d (group g) rest e fits h = absurd cc
  pick_down_at least ok_inner fit ts d (pick least a b) rest e fits h = picked least ok_inner a b (fit a b fits).0 (fit a b fits).1 ts rest d (cc) h
  pick_down_at least ok_inner fit ts d (pick most a b) rest e fits h = absurd cc
  pick_down_at most ok_inner fit ts d (number m) rest e fits h = absurd cc
  pick_down_at most ok_inner fit ts d (named m) rest e fits h = absurd cc
  pick_down_at most ok_inner fit ts d (group g) rest e fits h = absurd cc
  pick_down_at most ok_inner fit ts d (pick most a b) rest e fits h = picked most ok_inner a b (fit a b fits).0 (fit a b fits).1 ts rest d (cc) h
  pick_down_at most ok_inner fit ts d (pick least a b) rest e fits h = absurd cc

  pub pick_down : (p : Pick) (ok_inner : Expr → Type 0) → ((a b : Expr) → ok (pick p a b) → ok_inner a × ok_inner b) → (ts : List Token) (d : D) → FactorThen ok R (pick_token p ∷ ts) d → Picked p ok_inner ts d
  pick_down p ok_inner fit ts d h = pick_down_at p ok_inner fit ts d h.form h.rest h.spelled h.fits h.goes

  pub no_pick : (p : Pick) → ((a b : Expr) → ok (pick p a b) → ⊥) → (ts : List Token) (d : D) → FactorThen ok R (pick_token p ∷ ts) d → ⊥
  no_pick p none ts d h =
      let inside = after_parts (token.Symbol symbol.Open) (ExprThen (λ g. ⊥) (λ a. After (token.Symbol symbol.Comma) (ExprThen (λ g. ⊥) (λ b. After (token.Symbol symbol.Close) (R (apply (pick_op p) a b)))))) ts d (pick_down p (λ g. ⊥) (λ a b fits. absurd (none a b fits)) ts d h) in
      inside.2.fits

  arguments : (a b : Expr) (ts t1 t2 t3 t4 t5 : List Token) → ts ≡ token.Symbol symbol.Open ∷ t1 → t1 ≡ spell_expr a t2 → t2 ≡ token.Symbol symbol.Comma ∷ t3 → t3 ≡ spell_expr b t4 → t4 ≡ token.Symbol symbol.Close ∷ t5 → ts ≡ token.Symbol symbol.Open ∷ spell_expr a (token.Symbol symbol.Comma ∷ spell_expr b (token.Symbol symbol.Close ∷ t5))
  arguments a b ts t1 t2 t3 t4 t5 e1 e2 e3 e4 e5 = rw (e1, e2, e3, e4, e5) refl

  pub pick_up : (p : Pick) (ok_inner : Expr → Type 0) → ((a b : Expr) → ok_inner a → ok_inner b → ok (pick p a b)) → (ts : List Token) (d : D) → Picked p ok_inner ts d → FactorThen ok R (pick_token p ∷ ts) d
  pick_up p ok_inner fit ts d h =
      let opened = after_parts (token.Symbol symbol.Open) (ExprThen ok_inner (λ a. After (token.Symbol symbol.Comma) (ExprThen ok_inner (λ b. After (token.Symbol symbol.Close) (R (apply (pick_op p) a b)))))) ts d h in
      let first = opened.2 in
      let comma = after_parts (token.Symbol symbol.Comma) (ExprThen ok_inner (λ b. After (token.Symbol symbol.Close) (R (apply (pick_op p) (expr_tree first.form) b)))) first.rest d first.goes in
      let second = comma.2 in
      let closed = after_parts (token.Symbol symbol.Close) (R (apply (pick_op p) (expr_tree first.form) (expr_tree second.form))) second.rest d second.goes in
      record { form = pick p first.form second.form; rest = closed.0; spelled = ap (λ (x : List Token). pick_token p ∷ x) (arguments first.form second.form ts opened.0 first.rest comma.0 second.rest closed.0 opened.1 first.spelled comma.1 second.spelled closed.1); fits = fit first.form second.form first.fits second.fits; goes = closed.2 }

-- ---- products and sums: the next one, or none

module _ {D : Type 0} (left : Measured) (ok : Products → Type 0) (R : Measured → Language D) where
  -- behind a `*`. `more v` is what is asked of the products behind a factor of the value v.
  abbrev pub Multiplied : (Factor → Type 0) → (Measured → Products → Type 0) → Language D
  Multiplied ok_factor more = FactorThen ok_factor (λ v. ProductsThen (apply op.Mul left v) (more v) R)

  times_down_at : (ok_factor : Factor → Type 0) (more : Measured → Products → Type 0) → ((f : Factor) (ps : Products) → ok (times f ps) → ok_factor f × more (factor_tree f) ps) → ((v : Measured) (ts : List Token) (d : D) → R v (token.Symbol symbol.Times ∷ ts) d → ⊥) → (ts : List Token) (d : D) (form : Products) (rest : List Token) → token.Symbol symbol.Times ∷ ts ≡ spell_products form rest → ok form → R (products_tree form left) rest d → Multiplied ok_factor more ts d
  times_down_at ok_factor more fit closes ts d no_product rest e fits h = absurd (closes left ts d (rw e h))
  times_down_at ok_factor more fit closes ts d (times f ps) rest e fits h =
      record { form = f; rest = spell_products ps rest; spelled = cc; fits = (fit f ps fits).0; goes = record { form = ps; rest = rest; spelled = refl; fits = (fit f ps fits).1; goes = h } }

  pub times_down : (ok_factor : Factor → Type 0) (more : Measured → Products → Type 0) → ((f : Factor) (ps : Products) → ok (times f ps) → ok_factor f × more (factor_tree f) ps) → ((v : Measured) (ts : List Token) (d : D) → R v (token.Symbol symbol.Times ∷ ts) d → ⊥) → (ts : List Token) (d : D) → ProductsThen left ok R (token.Symbol symbol.Times ∷ ts) d → Multiplied ok_factor more ts d
  times_down ok_factor more fit closes ts d h = times_down_at ok_factor more fit closes ts d h.form h.rest h.spelled h.fits h.goes

  pub times_up : (ok_factor : Factor → Type 0) (more : Measured → Products → Type 0) → ((f : Factor) (ps : Products) → ok_factor f → more (factor_tree f) ps → ok (times f ps)) → (ts : List Token) (d : D) → Multiplied ok_factor more ts d → ProductsThen left ok R (token.Symbol symbol.Times ∷ ts) d
  times_up ok_factor more fit ts d h =
      let e1 = h.spelled in
      let e2 = h.goes.spelled in
      record { form = times h.form h.goes.form; rest = h.goes.rest; spelled = ap (λ (x : List Token). token.Symbol symbol.Times ∷ x) (rw (e1, e2) refl); fits = fit h.form h.goes.form h.fits h.goes.fits; goes = h.goes.goes }

  none_down_at : (t : Token) → (token.Symbol symbol.Times ≡ t → ⊥) → (ts : List Token) (d : D) (form : Products) (rest : List Token) → t ∷ ts ≡ spell_products form rest → R (products_tree form left) rest d → R left (t ∷ ts) d
  none_down_at t other ts d no_product rest e h = rw e h
  none_down_at t other ts d (times f ps) rest e h = absurd (other cc)

  -- another token
  pub no_times_down : (t : Token) → (token.Symbol symbol.Times ≡ t → ⊥) → (ts : List Token) (d : D) → ProductsThen left ok R (t ∷ ts) d → R left (t ∷ ts) d
  no_times_down t other ts d h = none_down_at t other ts d h.form h.rest h.spelled h.goes

  end_down_at : (d : D) (form : Products) (rest : List Token) → [] ≡ spell_products form rest → R (products_tree form left) rest d → R left [] d
  end_down_at d no_product rest e h = rw e h
  end_down_at d (times f ps) rest e h = absurd cc

  pub products_end_down : (d : D) → ProductsThen left ok R [] d → R left [] d
  products_end_down d h = end_down_at d h.form h.rest h.spelled h.goes

  pub no_product_up : ok no_product → (ts : List Token) (d : D) → R left ts d → ProductsThen left ok R ts d
  no_product_up fits ts d h = record { form = no_product; rest = ts; spelled = refl; fits = fits; goes = h }

-- a term: a factor and its products
abbrev pub TermThen : {D : Type 0} → (Factor → Type 0) → (Measured → Products → Type 0) → (Measured → Language D) → Language D
TermThen ok_factor ok_products R = FactorThen ok_factor (λ v. ProductsThen v (ok_products v) R)

module _ {D : Type 0} (left : Measured) (ok : Sums → Type 0) (R : Measured → Language D) where
  abbrev pub Summed : Sign → (Factor → Type 0) → (Measured → Products → Type 0) → (Measured → Sums → Type 0) → Language D
  Summed s ok_factor ok_products more = TermThen ok_factor ok_products (λ v. SumsThen (apply (sign_op s) left v) (more v) R)

  summed : (s : Sign) (ok_factor : Factor → Type 0) (ok_products : Measured → Products → Type 0) (more : Measured → Sums → Type 0) → ((f : Factor) (ps : Products) (ss : Sums) → ok (joined s f ps ss) → ok_factor f × ok_products (factor_tree f) ps × more (products_tree ps (factor_tree f)) ss) → (ts : List Token) (d : D) (f : Factor) (ps : Products) (ss : Sums) (rest : List Token) → ts ≡ spell_factor f (spell_products ps (spell_sums ss rest)) → ok (joined s f ps ss) → R (sums_tree ss (apply (sign_op s) left (products_tree ps (factor_tree f)))) rest d → Summed s ok_factor ok_products more ts d
  summed s ok_factor ok_products more fit ts d f ps ss rest e fits h =
      record { form = f; rest = spell_products ps (spell_sums ss rest); spelled = e; fits = (fit f ps ss fits).0; goes = record { form = ps; rest = spell_sums ss rest; spelled = refl; fits = (fit f ps ss fits).1; goes = record { form = ss; rest = rest; spelled = refl; fits = (fit f ps ss fits).2; goes = h } } }

  sign_down_at : (s : Sign) (ok_factor : Factor → Type 0) (ok_products : Measured → Products → Type 0) (more : Measured → Sums → Type 0) → ((f : Factor) (ps : Products) (ss : Sums) → ok (joined s f ps ss) → ok_factor f × ok_products (factor_tree f) ps × more (products_tree ps (factor_tree f)) ss) → ((v : Measured) (ts : List Token) (d : D) → R v (sign_token s ∷ ts) d → ⊥) → (ts : List Token) (d : D) (form : Sums) (rest : List Token) → sign_token s ∷ ts ≡ spell_sums form rest → ok form → R (sums_tree form left) rest d → Summed s ok_factor ok_products more ts d
  sign_down_at s ok_factor ok_products more fit closes ts d no_sum rest e fits h = absurd (closes left ts d (rw e h))
  sign_down_at plus ok_factor ok_products more fit closes ts d (joined plus f ps ss) rest e fits h = summed plus ok_factor ok_products more fit ts d f ps ss rest (cc) fits h
  sign_down_at plus ok_factor ok_products more fit closes ts d (joined minus f ps ss) rest e fits h = absurd cc
  sign_down_at minus ok_factor ok_products more fit closes ts d (joined minus f ps ss) rest e fits h = summed minus ok_factor ok_products more fit ts d f ps ss rest (cc) fits h
  sign_down_at minus ok_factor ok_products more fit closes ts d (joined plus f ps ss) rest e fits h = absurd cc

  pub sign_down : (s : Sign) (ok_factor : Factor → Type 0) (ok_products : Measured → Products → Type 0) (more : Measured → Sums → Type 0) → ((f : Factor) (ps : Products) (ss : Sums) → ok (joined s f ps ss) → ok_factor f × ok_products (factor_tree f) ps × more (products_tree ps (factor_tree f)) ss) → ((v : Measured) (ts : List Token) (d : D) → R v (sign_token s ∷ ts) d → ⊥) → (ts : List Token) (d : D) → SumsThen left ok R (sign_token s ∷ ts) d → Summed s ok_factor ok_products more ts d
  sign_down s ok_factor ok_products more fit closes ts d h = sign_down_at s ok_factor ok_products more fit closes ts d h.form h.rest h.spelled h.fits h.goes

  pub sign_up : (s : Sign) (ok_factor : Factor → Type 0) (ok_products : Measured → Products → Type 0) (more : Measured → Sums → Type 0) → ((f : Factor) (ps : Products) (ss : Sums) → ok_factor f → ok_products (factor_tree f) ps → more (products_tree ps (factor_tree f)) ss → ok (joined s f ps ss)) → (ts : List Token) (d : D) → Summed s ok_factor ok_products more ts d → SumsThen left ok R (sign_token s ∷ ts) d
  sign_up s ok_factor ok_products more fit ts d h =
      let e1 = h.spelled in
      let e2 = h.goes.spelled in
      let e3 = h.goes.goes.spelled in
      record { form = joined s h.form h.goes.form h.goes.goes.form; rest = h.goes.goes.rest; spelled = ap (λ (x : List Token). sign_token s ∷ x) (rw (e1, e2, e3) refl); fits = fit h.form h.goes.form h.goes.goes.form h.fits h.goes.fits h.goes.goes.fits; goes = h.goes.goes.goes }

  no_sign_at : (t : Token) → ((s : Sign) → sign_token s ≡ t → ⊥) → (ts : List Token) (d : D) (form : Sums) (rest : List Token) → t ∷ ts ≡ spell_sums form rest → R (sums_tree form left) rest d → R left (t ∷ ts) d
  no_sign_at t other ts d no_sum rest e h = rw e h
  no_sign_at t other ts d (joined s f ps ss) rest e h = absurd (other s cc)

  pub no_sign_down : (t : Token) → ((s : Sign) → sign_token s ≡ t → ⊥) → (ts : List Token) (d : D) → SumsThen left ok R (t ∷ ts) d → R left (t ∷ ts) d
  no_sign_down t other ts d h = no_sign_at t other ts d h.form h.rest h.spelled h.goes

  sums_end_at : (d : D) (form : Sums) (rest : List Token) → [] ≡ spell_sums form rest → R (sums_tree form left) rest d → R left [] d
  sums_end_at d no_sum rest e h = rw e h
  sums_end_at d (joined s f ps ss) rest e h = absurd cc

  pub sums_end_down : (d : D) → SumsThen left ok R [] d → R left [] d
  sums_end_down d h = sums_end_at d h.form h.rest h.spelled h.goes

  pub no_sum_up : ok no_sum → (ts : List Token) (d : D) → R left ts d → SumsThen left ok R ts d
  no_sum_up fits ts d h = record { form = no_sum; rest = ts; spelled = refl; fits = fits; goes = h }

-- ---- an expression: a term and its sums

module _ {D : Type 0} (ok : Expr → Type 0) (R : Measured → Language D) where
  abbrev pub Parted : (Factor → Type 0) → (Measured → Products → Type 0) → (Measured → Sums → Type 0) → Language D
  Parted ok_factor ok_products ok_sums = TermThen ok_factor ok_products (λ v. SumsThen v (ok_sums v) R)

  expr_down_at : (ok_factor : Factor → Type 0) (ok_products : Measured → Products → Type 0) (ok_sums : Measured → Sums → Type 0) → ((f : Factor) (ps : Products) (ss : Sums) → ok (expr f ps ss) → ok_factor f × ok_products (factor_tree f) ps × ok_sums (products_tree ps (factor_tree f)) ss) → (ts : List Token) (d : D) (form : Expr) (rest : List Token) → ts ≡ spell_expr form rest → ok form → R (expr_tree form) rest d → Parted ok_factor ok_products ok_sums ts d
  expr_down_at ok_factor ok_products ok_sums fit ts d (expr f ps ss) rest e fits h =
      record { form = f; rest = spell_products ps (spell_sums ss rest); spelled = e; fits = (fit f ps ss fits).0; goes = record { form = ps; rest = spell_sums ss rest; spelled = refl; fits = (fit f ps ss fits).1; goes = record { form = ss; rest = rest; spelled = refl; fits = (fit f ps ss fits).2; goes = h } } }

  pub expr_down : (ok_factor : Factor → Type 0) (ok_products : Measured → Products → Type 0) (ok_sums : Measured → Sums → Type 0) → ((f : Factor) (ps : Products) (ss : Sums) → ok (expr f ps ss) → ok_factor f × ok_products (factor_tree f) ps × ok_sums (products_tree ps (factor_tree f)) ss) → (ts : List Token) (d : D) → ExprThen ok R ts d → Parted ok_factor ok_products ok_sums ts d
  expr_down ok_factor ok_products ok_sums fit ts d h = expr_down_at ok_factor ok_products ok_sums fit ts d h.form h.rest h.spelled h.fits h.goes

  pub expr_up : (ok_factor : Factor → Type 0) (ok_products : Measured → Products → Type 0) (ok_sums : Measured → Sums → Type 0) → ((f : Factor) (ps : Products) (ss : Sums) → ok_factor f → ok_products (factor_tree f) ps → ok_sums (products_tree ps (factor_tree f)) ss → ok (expr f ps ss)) → (ts : List Token) (d : D) → Parted ok_factor ok_products ok_sums ts d → ExprThen ok R ts d
  expr_up ok_factor ok_products ok_sums fit ts d h =
      let e1 = h.spelled in
      let e2 = h.goes.spelled in
      let e3 = h.goes.goes.spelled in
      record { form = expr h.form h.goes.form h.goes.goes.form; rest = h.goes.goes.rest; spelled = rw (e1, e2, e3) refl; fits = fit h.form h.goes.form h.goes.goes.form h.fits h.goes.fits h.goes.goes.fits; goes = h.goes.goes.goes }
