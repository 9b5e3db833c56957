-- The canonical text of a tree that was read is read as that tree.
use Rattle.std.proofs.Common.{◌≡◌, ℕ, zero, suc, ℤ, pos, negsuc, max, ◌<◌, ◌≤◌, ◌^◌, true, List, [], ◌∷◌, ◌++◌, refl, sym, ap, subst, ◌∙◌, arith}
use Rattle.pl_text.specs.declared.word.Word.TheVariants as word
use Rattle.pl_text.specs.Words.{is_name}
use Rattle.pl_syntax.specs.declared.token.Token.{Token}
use Rattle.pl_syntax.specs.declared.token.Token.TheVariants as token
use Rattle.pl_syntax.specs.declared.symbol.Symbol.TheVariants as symbol
use Rattle.pl_syntax.specs.Tokens.{AreReal}
use Rattle.pl_model.specs.declared.expressions.Op.{Op}
use Rattle.pl_model.specs.declared.expressions.Op.TheVariants as op
use Rattle.pl_syntax.specs.declared.expressions.AstExpr.{AstExpr, fold-AstExpr, roll-AstExpr}
use Rattle.pl_syntax.specs.declared.expressions.AstExpr.TheFolds.{fold-roll-AstExpr}
use Rattle.pl_syntax.specs.declared.expressions.AstExpr.TheOpen.{AstExpr-F}
use Rattle.pl_syntax.specs.declared.expressions.AstExpr.TheVariants as tree
use Rattle.pl_syntax.specs.Expressions.{plus, minus, least, most, Factor, Expr, Products, Sums, number, named, group, pick, expr, no_product, times, no_sum, joined, sign_op, pick_op, spell_factor, spell_expr, spell_products, spell_sums, Measured, apply, factor_tree, expr_tree, products_tree, sums_tree, factor_nests, Limits, Fits}
use Rattle.pl_syntax.specs.Canonical.{node_tokens, expr_tokens_at, expr_tokens}

-- ---- a negative number is two tokens of the grammar

abbrev pub spread : List Token → List Token → List Token
spread [] rest = rest
spread (token.Number (negsuc n) ∷ ts) rest = token.Symbol symbol.Minus ∷ token.Number (pos (suc n)) ∷ spread ts rest
spread (t ∷ ts) rest = t ∷ spread ts rest

pub spread_append : (xs ys rest : List Token) → spread (xs ++ ys) rest ≡ spread xs (spread ys rest)
spread_append [] ys rest = refl
spread_append (token.Number (negsuc n) ∷ xs) ys rest = ap (λ (x : List Token). token.Symbol symbol.Minus ∷ token.Number (pos (suc n)) ∷ x) (spread_append xs ys rest)
spread_append (token.Number (pos n) ∷ xs) ys rest = ap (λ (x : List Token). token.Number (pos n) ∷ x) (spread_append xs ys rest)
spread_append (token.Name n ∷ xs) ys rest = ap (λ (x : List Token). token.Name n ∷ x) (spread_append xs ys rest)
spread_append (token.Word w ∷ xs) ys rest = ap (λ (x : List Token). token.Word w ∷ x) (spread_append xs ys rest)
spread_append (token.Symbol s ∷ xs) ys rest = ap (λ (x : List Token). token.Symbol s ∷ x) (spread_append xs ys rest)

-- ---- expressions

abbrev pub magnitude : ℤ → ℕ
magnitude (pos n) = n
magnitude (negsuc n) = suc n

abbrev pub levels_at : AstExpr-F ℕ → ℕ
levels_at (AstExpr-F.Num n) = 1
levels_at (AstExpr-F.Name n) = 1
levels_at (AstExpr-F.Apply o a b) = suc (max a b)

abbrev pub levels_of : AstExpr → ℕ
levels_of t = fold-AstExpr ℕ levels_at t

abbrev pub alone : Factor → Expr
alone f = expr f no_product no_sum

abbrev pub bracketed : Op → Factor → Factor → Factor
bracketed op.Add a b = group (expr a no_product (joined plus b no_product no_sum))
bracketed op.Sub a b = group (expr a no_product (joined minus b no_product no_sum))
bracketed op.Mul a b = group (expr a (times b no_product) no_sum)
bracketed op.Min a b = pick least (alone a) (alone b)
bracketed op.Max a b = pick most (alone a) (alone b)

abbrev pub canonical_at : AstExpr-F Factor → Factor
canonical_at (AstExpr-F.Num n) = number (magnitude n)
canonical_at (AstExpr-F.Name n) = named n
canonical_at (AstExpr-F.Apply o a b) = bracketed o a b

abbrev pub canonical : AstExpr → Factor
canonical t = fold-AstExpr Factor canonical_at t

-- The canonical form of a tree has its value, few brackets, its tokens, and tokens of a text.
pub record IsCanonical (t : AstExpr) : Type 0 where
  pub value : factor_tree (canonical t) ≡ (t, levels_of t)
  pub some : 1 ≤ levels_of t
  pub nests : (n : ℕ) → levels_of t ≤ suc n → factor_nests (canonical t) n
  pub written : (rest : List Token) → spread (expr_tokens t) rest ≡ spell_factor (canonical t) rest
  pub real : (rest : List Token) → AreReal rest → AreReal (spell_factor (canonical t) rest)

bracketed_tree : (o : Op) (a b : Factor) → factor_tree (bracketed o a b) ≡ apply o (factor_tree a) (factor_tree b)
bracketed_tree op.Add a b = refl
bracketed_tree op.Sub a b = refl
bracketed_tree op.Mul a b = refl
bracketed_tree op.Min a b = refl
bracketed_tree op.Max a b = refl

bracketed_nests : (o : Op) (a b : Factor) (n : ℕ) → factor_nests a n → factor_nests b n → factor_nests (bracketed o a b) (suc n)
bracketed_nests op.Add a b n f g = (f, tt, (g, tt, tt))
bracketed_nests op.Sub a b n f g = (f, tt, (g, tt, tt))
bracketed_nests op.Mul a b n f g = (f, (g, tt), tt)
bracketed_nests op.Min a b n f g = ((f, tt, tt), (g, tt, tt))
bracketed_nests op.Max a b n f g = ((f, tt, tt), (g, tt, tt))

bracketed_real : (o : Op) (a b : Factor) → ((r : List Token) → AreReal r → AreReal (spell_factor a r)) → ((r : List Token) → AreReal r → AreReal (spell_factor b r)) → (rest : List Token) → AreReal rest → AreReal (spell_factor (bracketed o a b) rest)
bracketed_real op.Add a b ra rb rest h = (tt, ra _ (tt, rb _ (tt, h)))
bracketed_real op.Sub a b ra rb rest h = (tt, ra _ (tt, rb _ (tt, h)))
bracketed_real op.Mul a b ra rb rest h = (tt, ra _ (tt, rb _ (tt, h)))
bracketed_real op.Min a b ra rb rest h = (tt, (tt, ra _ (tt, rb _ (tt, h))))
bracketed_real op.Max a b ra rb rest h = (tt, (tt, ra _ (tt, rb _ (tt, h))))

around : (ta tb : List Token) (m : Token) (rest : List Token) (sa sb : List Token → List Token) → ((ts r : List Token) → spread (m ∷ ts) r ≡ m ∷ spread ts r) → ((r : List Token) → spread ta r ≡ sa r) → ((r : List Token) → spread tb r ≡ sb r) → spread (ta ++ m ∷ (tb ++ token.Symbol symbol.Close ∷ [])) rest ≡ sa (m ∷ sb (token.Symbol symbol.Close ∷ rest))
around ta tb m rest sa sb plain wa wb =
    spread_append ta (m ∷ (tb ++ token.Symbol symbol.Close ∷ [])) rest
    ∙ ap (λ (x : List Token). spread ta x) (plain (tb ++ token.Symbol symbol.Close ∷ []) rest)
    ∙ ap (λ (x : List Token). spread ta (m ∷ x)) (spread_append tb (token.Symbol symbol.Close ∷ []) rest)
    ∙ ap (λ (x : List Token). spread ta (m ∷ x)) (wb (token.Symbol symbol.Close ∷ rest))
    ∙ wa (m ∷ sb (token.Symbol symbol.Close ∷ rest))

node_written : (o : Op) (a b : AstExpr) (fa fb : Factor) → ((r : List Token) → spread (expr_tokens a) r ≡ spell_factor fa r) → ((r : List Token) → spread (expr_tokens b) r ≡ spell_factor fb r) → (rest : List Token) → spread (node_tokens o (expr_tokens a) (expr_tokens b)) rest ≡ spell_factor (bracketed o fa fb) rest
node_written op.Add a b fa fb wa wb rest = ap (λ (x : List Token). token.Symbol symbol.Open ∷ x) (around (expr_tokens a) (expr_tokens b) (token.Symbol symbol.Plus) rest (spell_factor fa) (spell_factor fb) (λ ts r. refl) wa wb)
node_written op.Sub a b fa fb wa wb rest = ap (λ (x : List Token). token.Symbol symbol.Open ∷ x) (around (expr_tokens a) (expr_tokens b) (token.Symbol symbol.Minus) rest (spell_factor fa) (spell_factor fb) (λ ts r. refl) wa wb)
node_written op.Mul a b fa fb wa wb rest = ap (λ (x : List Token). token.Symbol symbol.Open ∷ x) (around (expr_tokens a) (expr_tokens b) (token.Symbol symbol.Times) rest (spell_factor fa) (spell_factor fb) (λ ts r. refl) wa wb)
node_written op.Min a b fa fb wa wb rest = ap (λ (x : List Token). token.Word word.Min ∷ token.Symbol symbol.Open ∷ x) (around (expr_tokens a) (expr_tokens b) (token.Symbol symbol.Comma) rest (spell_factor fa) (spell_factor fb) (λ ts r. refl) wa wb)
node_written op.Max a b fa fb wa wb rest = ap (λ (x : List Token). token.Word word.Max ∷ token.Symbol symbol.Open ∷ x) (around (expr_tokens a) (expr_tokens b) (token.Symbol symbol.Comma) rest (spell_factor fa) (spell_factor fb) (λ ts r. refl) wa wb)

abbrev level_pair : AstExpr → ℕ → Measured
level_pair t n = (t, n)

module _ (o : Op) (a b : AstExpr) (ca : IsCanonical a) (cb : IsCanonical b) where
  abbrev node : AstExpr
  node = roll-AstExpr (AstExpr-F.Apply o a b)

  canonical_node : canonical node ≡ bracketed o (canonical a) (canonical b)
  canonical_node = fold-roll-AstExpr Factor canonical_at (AstExpr-F.Apply o a b)

  levels_node : levels_of node ≡ suc (max (levels_of a) (levels_of b))
  levels_node = fold-roll-AstExpr ℕ levels_at (AstExpr-F.Apply o a b)

  tokens_node : expr_tokens node ≡ node_tokens o (expr_tokens a) (expr_tokens b)
  tokens_node = fold-roll-AstExpr (List Token) expr_tokens_at (AstExpr-F.Apply o a b)

  node_nests : (n : ℕ) → suc (max (levels_of a) (levels_of b)) ≤ suc n → factor_nests (bracketed o (canonical a) (canonical b)) n
  node_nests zero le = absurd (omega (arith, le, ca.some))
  node_nests (suc n) le = bracketed_nests o (canonical a) (canonical b) n (ca.nests n (omega (arith, le))) (cb.nests n (omega (arith, le)))

  node_text : (rest : List Token) → spread (expr_tokens node) rest ≡ spell_factor (canonical node) rest
  node_text rest =
      ap (λ (x : List Token). spread x rest) tokens_node
      ∙ node_written o a b (canonical a) (canonical b) ca.written cb.written rest
      ∙ ap (λ (x : Factor). spell_factor x rest) (sym canonical_node)

  node_real : (rest : List Token) → AreReal rest → AreReal (spell_factor (canonical node) rest)
  node_real rest h =
      let P : Factor → Type 0 = λ f. AreReal (spell_factor f rest) in
      subst P (sym canonical_node) (bracketed_real o (canonical a) (canonical b) ca.real cb.real rest h)

  rolled_canonical : IsCanonical node
  rolled_canonical = record {
    value = ap factor_tree canonical_node ∙ bracketed_tree o (canonical a) (canonical b)
        ∙ ap (λ (x : Measured). apply o x (factor_tree (canonical b))) ca.value
        ∙ ap (λ (x : Measured). apply o (a, levels_of a) x) cb.value
        ∙ ap (λ (x : AstExpr). level_pair x (suc (max (levels_of a) (levels_of b)))) (sym (tree.rolls-Apply o a b))
        ∙ ap (λ (x : ℕ). level_pair node x) (sym levels_node);
    some = rw levels_node (omega arith);
    nests = rw (canonical_node, levels_node) node_nests;
    written = node_text;
    real = node_real;
  }

  pub apply_canonical : IsCanonical (tree.Apply o a b)
  apply_canonical = let P : AstExpr → Type 0 = λ t. IsCanonical t in subst P (tree.rolls-Apply o a b) rolled_canonical

num_canonical : (n : ℕ) → n < 10 ^ 18 → IsCanonical (roll-AstExpr (AstExpr-F.Num (pos n)))
num_canonical n small =
    let text = fold-roll-AstExpr Factor canonical_at (AstExpr-F.Num (pos n)) in
    let levels = fold-roll-AstExpr ℕ levels_at (AstExpr-F.Num (pos n)) in
    let tokens = fold-roll-AstExpr (List Token) expr_tokens_at (AstExpr-F.Num (pos n)) in
    record {
      value = ap factor_tree text ∙ ap (λ (x : AstExpr). level_pair x 1) (sym (tree.rolls-Num (pos n))) ∙ ap (λ (x : ℕ). level_pair (roll-AstExpr (AstExpr-F.Num (pos n))) x) (sym levels);
      some = rw levels (omega arith);
      nests = λ m le. rw text tt;
      written = λ rest. ap (λ (x : List Token). spread x rest) tokens ∙ ap (λ (x : Factor). spell_factor x rest) (sym text);
      real = λ rest h. rw text (small, h);
    }

name_canonical : (n : List ℕ) → is_name n ≡ true → IsCanonical (roll-AstExpr (AstExpr-F.Name n))
name_canonical n named_so =
    let text = fold-roll-AstExpr Factor canonical_at (AstExpr-F.Name n) in
    let levels = fold-roll-AstExpr ℕ levels_at (AstExpr-F.Name n) in
    let tokens = fold-roll-AstExpr (List Token) expr_tokens_at (AstExpr-F.Name n) in
    record {
      value = ap factor_tree text ∙ ap (λ (x : AstExpr). level_pair x 1) (sym (tree.rolls-Name n)) ∙ ap (λ (x : ℕ). level_pair (roll-AstExpr (AstExpr-F.Name n)) x) (sym levels);
      some = rw levels (omega arith);
      nests = λ m le. rw text tt;
      written = λ rest. ap (λ (x : List Token). spread x rest) tokens ∙ ap (λ (x : Factor). spell_factor x rest) (sym text);
      real = λ rest h. rw text (named_so, h);
    }

abbrev Canonical : AstExpr → Type 0
Canonical t = IsCanonical t

pub number_canonical : (n : ℕ) → n < 10 ^ 18 → IsCanonical (tree.Num (pos n))
number_canonical n small = subst Canonical (tree.rolls-Num (pos n)) (num_canonical n small)

pub named_canonical : (n : List ℕ) → is_name n ≡ true → IsCanonical (tree.Name n)
named_canonical n so = subst Canonical (tree.rolls-Name n) (name_canonical n so)

-- ---- the tree of a form whose tokens are those of a text, and what is behind it

mutual
  pub factor_good : (f : Factor) (rest : List Token) → AreReal (spell_factor f rest) → IsCanonical (factor_tree f).0 × AreReal rest
  factor_good (number n) rest h = (number_canonical n h.0, h.1)
  factor_good (named n) rest h = (named_canonical n h.0, h.1)
  factor_good (group e) rest h = let inner = expr_good e (token.Symbol symbol.Close ∷ rest) h.1 in (inner.0, inner.1.1)
  factor_good (pick p a b) rest h =
      let first = expr_good a (token.Symbol symbol.Comma ∷ spell_expr b (token.Symbol symbol.Close ∷ rest)) h.1.1 in
      let second = expr_good b (token.Symbol symbol.Close ∷ rest) first.1.1 in
      (apply_canonical (pick_op p) (expr_tree a).0 (expr_tree b).0 first.0 second.0, second.1.1)

  pub expr_good : (e : Expr) (rest : List Token) → AreReal (spell_expr e rest) → IsCanonical (expr_tree e).0 × AreReal rest
  expr_good (expr f ps ss) rest h =
      let one = factor_good f (spell_products ps (spell_sums ss rest)) h in
      let two = products_good ps (factor_tree f) one.0 (spell_sums ss rest) one.1 in
      sums_good ss (products_tree ps (factor_tree f)) two.0 rest two.1

  products_good : (ps : Products) (v : Measured) → IsCanonical v.0 → (rest : List Token) → AreReal (spell_products ps rest) → IsCanonical (products_tree ps v).0 × AreReal rest
  products_good no_product v c rest h = (c, h)
  products_good (times f ps) v c rest h =
      let one = factor_good f (spell_products ps rest) h.1 in
      products_good ps (apply op.Mul v (factor_tree f)) (apply_canonical op.Mul v.0 (factor_tree f).0 c one.0) rest one.1

  sums_good : (ss : Sums) (v : Measured) → IsCanonical v.0 → (rest : List Token) → AreReal (spell_sums ss rest) → IsCanonical (sums_tree ss v).0 × AreReal rest
  sums_good no_sum v c rest h = (c, h)
  sums_good (joined s f ps ss) v c rest h =
      let one = factor_good f (spell_products ps (spell_sums ss rest)) h.1 in
      let two = products_good ps (factor_tree f) one.0 (spell_sums ss rest) one.1 in
      sums_good ss (apply (sign_op s) v (products_tree ps (factor_tree f))) (apply_canonical (sign_op s) v.0 (products_tree ps (factor_tree f)).0 c two.0) rest two.1

-- ---- the levels of a form are those of its tree

levels-apply : (o : Op) (a b : Measured) → a.1 ≡ levels_of a.0 → b.1 ≡ levels_of b.0 → (apply o a b).1 ≡ levels_of (apply o a b).0
levels-apply o a b ea eb =
    ap (λ (n : ℕ). suc (max n b.1)) ea ∙ ap (λ (n : ℕ). suc (max (levels_of a.0) n)) eb ∙ sym (fold-roll-AstExpr ℕ levels_at (AstExpr-F.Apply o a.0 b.0)) ∙ ap levels_of (tree.rolls-Apply o a.0 b.0)

mutual
  factor_levels : (f : Factor) → (factor_tree f).1 ≡ levels_of (factor_tree f).0
  factor_levels (number n) = sym (fold-roll-AstExpr ℕ levels_at (AstExpr-F.Num (pos n))) ∙ ap levels_of (tree.rolls-Num (pos n))
  factor_levels (named n) = sym (fold-roll-AstExpr ℕ levels_at (AstExpr-F.Name n)) ∙ ap levels_of (tree.rolls-Name n)
  factor_levels (group e) = expr_levels e
  factor_levels (pick p a b) = levels-apply (pick_op p) (expr_tree a) (expr_tree b) (expr_levels a) (expr_levels b)

  pub expr_levels : (e : Expr) → (expr_tree e).1 ≡ levels_of (expr_tree e).0
  expr_levels (expr f ps ss) = sums_levels ss (products_tree ps (factor_tree f)) (products_levels ps (factor_tree f) (factor_levels f))

  products_levels : (ps : Products) (v : Measured) → v.1 ≡ levels_of v.0 → (products_tree ps v).1 ≡ levels_of (products_tree ps v).0
  products_levels no_product v e = e
  products_levels (times f ps) v e = products_levels ps (apply op.Mul v (factor_tree f)) (levels-apply op.Mul v (factor_tree f) e (factor_levels f))

  sums_levels : (ss : Sums) (v : Measured) → v.1 ≡ levels_of v.0 → (sums_tree ss v).1 ≡ levels_of (sums_tree ss v).0
  sums_levels no_sum v e = e
  sums_levels (joined s f ps ss) v e = sums_levels ss (apply (sign_op s) v (products_tree ps (factor_tree f))) (levels-apply (sign_op s) v (products_tree ps (factor_tree f)) e (products_levels ps (factor_tree f) (factor_levels f)))

abbrev pub again_expr : Expr → Expr
again_expr e = alone (canonical (expr_tree e).0)

-- what the canonical form of a form keeps
pub record IsAgain {I X : Type 0} (spell : I → List Token → List Token) (value : I → X) (ok : I → Type 0) (tokens : X → List Token) (f g : I) : Type 0 where
  pub same : value g ≡ value f
  pub fits : ok f → ok g
  pub written : (rest : List Token) → spread (tokens (value f)) rest ≡ spell g rest
  pub real : (rest : List Token) → AreReal rest → AreReal (spell g rest)

abbrev pub tree_of : Expr → AstExpr
tree_of e = (expr_tree e).0

module _ (l b : ℕ) (deep : l ≤ suc b) where
  abbrev pub lim : Limits
  lim = record { levels = l; deep = b }

  pub expr_again : (e : Expr) (rest : List Token) → AreReal (spell_expr e rest) → IsAgain spell_expr tree_of (Fits lim) expr_tokens e (again_expr e) × AreReal rest
  expr_again e rest h =
      let good = expr_good e rest h in
      let c = good.0 in (
        record {
          same = ap (λ (x : Measured). x.0) c.value;
          fits = λ fit. (omega (arith, ap (λ (x : Measured). x.1) c.value, expr_levels e, fit.0), (c.nests b (omega (arith, deep, expr_levels e, fit.0)), tt, tt));
          written = c.written;
          real = c.real;
        },
        good.1,
      )
