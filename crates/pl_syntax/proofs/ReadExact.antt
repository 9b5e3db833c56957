-- A model is read exactly: the tree of a text of the grammar, or the first bad token.
use Rattle.std.proofs.Common.{◌≡◌, ℕ, ◌≤◌, true, List, [], ◌∷◌, length, refl, sym, ap, ◌∙◌, arith}
use Rattle.pl_syntax.specs.declared.token.Token.{Token}
use Rattle.pl_syntax.specs.Faults.{Language, Judged}
use Rattle.pl_syntax.specs.Parsing.{follow, ended}
use Rattle.pl_syntax.specs.Spelling.{AllFit}
use Rattle.pl_syntax.specs.declared.whole.Ast.{Ast}
use Rattle.pl_syntax.specs.Expressions.{Limits}
use Rattle.pl_syntax.specs.Forms.{ModelForm, spell_model}
use Rattle.pl_syntax.specs.Trees.{model_tree}
use Rattle.pl_syntax.specs.Grammar.{ItemFits, Reads, ReadsFree}
use Rattle.pl_syntax.specs.Reading.{signed_at, step_at, steps_list_at, steps_at, names_at, capacity_at, level_at, states_at, timeline_at, origin_at, param_at, params_at, take_at, when_at, raise_at, lower_at, put_at, must_at, reservation_at, reservations_at, link_at, links_at, binding_at, further_at, given_at, bindings_at, slot_at, order_at, slots_at, orders_at, alternative_at, alternatives_at, kind_at, item_at, items_at, model_at, read_all}
use Rattle.pl_syntax.proofs.Judging.{judged_stuck, judged_same}
use Rattle.pl_syntax.proofs.Steps.{Exact}
use Rattle.pl_syntax.proofs.Loops.{Any, FormThen, Onward, RuleExact}
use Rattle.pl_syntax.proofs.Sets.{Set, has}
use Rattle.pl_syntax.proofs.ModelRules.{a_model}

-- ---- the end

abbrev End : {D : Type 0} → D → Language D
End x ts d = (ts ≡ []) × (x ≡ d)

ended_exact : {D : Type 0} (n : ℕ) (x : D) → Exact n (ended x) (End x) (End x)
ended_exact n x [] short = ((refl, refl), λ e h. h.1)
ended_exact n x (t ∷ ts) short = judged_stuck (End x) (End x) (End x) (End x) t ([], x, (refl, refl), tt) (λ us d h. let e = h.0 in absurd cc) (λ us d h. let e = h.0 in absurd cc) ts

ended_onward : {D : Type 0} (n : ℕ) (bars : Set) → Onward n (has bars) (λ (x : D) ts. ended x ts) End End
ended_onward n bars = record {
  exact = λ x. ended_exact n x;
  lives = λ x. ([], x, (refl, refl), tt);
  refuses = λ x t ts d e h. let is = h.0 in absurd cc;
  refuses_free = λ x t ts d e h. let is = h.0 in absurd cc;
}

module _ (l b : ℕ) (low : 1 ≤ l) where
  abbrev lim : Limits
  lim = record { levels = l; deep = b }

  abbrev ItemsFit : ModelForm → Type 0
  ItemsFit m = AllFit (ItemFits lim) m.items

  model_rule : (D : Type 0) → RuleExact D true (has (a_model l b low).stops) spell_model model_tree ItemsFit (model_at b l)
  unfolding model_at items_at item_at kind_at params_at param_at origin_at reservations_at reservation_at take_at raise_at lower_at put_at must_at when_at links_at link_at alternatives_at alternative_at slots_at slot_at bindings_at given_at further_at binding_at orders_at order_at timeline_at capacity_at level_at states_at names_at steps_at steps_list_at step_at signed_at
  model_rule D = (a_model l b low).exact D

  reads_down : (ts : List Token) (d : Ast) → Reads lim ts d → FormThen spell_model model_tree ItemsFit End ts d
  reads_down ts d h = record { form = h.form; rest = []; spelled = h.spelled; fits = h.fits; goes = (refl, sym h.tree) }

  reads_up : (ts : List Token) (d : Ast) → FormThen spell_model model_tree ItemsFit End ts d → Reads lim ts d
  reads_up ts d h = record { form = h.form; spelled = h.spelled ∙ ap (λ (x : List Token). spell_model h.form x) h.goes.0; tree = sym h.goes.1; fits = h.fits }

  free_down : (ts : List Token) (d : Ast) → ReadsFree ts d → FormThen spell_model model_tree Any End ts d
  free_down ts d h = record { form = h.form; rest = []; spelled = h.spelled; fits = tt; goes = (refl, sym h.tree) }

  free_up : (ts : List Token) (d : Ast) → FormThen spell_model model_tree Any End ts d → ReadsFree ts d
  free_up ts d h = record { form = h.form; spelled = h.spelled ∙ ap (λ (x : List Token). spell_model h.form x) h.goes.0; tree = sym h.goes.1 }

  pub read_exact : (ts : List Token) → Judged (Reads lim) ReadsFree ts (read_all b l ts)
  unfolding read_all
  read_exact ts =
      judged_same (Reads lim) ReadsFree (FormThen spell_model model_tree ItemsFit End) (FormThen spell_model model_tree Any End) reads_down reads_up free_down free_up ts (follow (model_at b l ts) ended)
      (model_rule Ast (length ts) ended End End (ended_onward (length ts) (a_model l b low).stops) ts (omega arith))
