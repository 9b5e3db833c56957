-- The form of the text in the grammar.
use Rattle.std.proofs.Common.{◌≡◌, ℕ, ◌≤◌, List, [], ◌∷◌, Some, codes, length, refl, lit≤}
use Rattle.pl_text.specs.Words.{word_of}
use Rattle.pl_syntax.specs.Symbols.{symbol_of}
use Rattle.pl_syntax.specs.Spelling.{AllFit}
use Rattle.pl_model.specs.declared.reservations.Point.TheVariants as point
use Rattle.pl_syntax.specs.declared.whole.Ast.{Ast}
use Rattle.pl_syntax.specs.Expressions.{Expr, expr, number, no_product, no_sum, Fits, limits}
use Rattle.pl_syntax.specs.Forms.{bare, capacity, level, ReservationForm, take, raise, lower, no_binding, SlotForm, OrderForm, AlternativeForm, KindForm, ItemForm, timeline, kind, ModelForm, spell_model}
use Rattle.pl_syntax.specs.Trees.{model_tree}
use Rattle.pl_syntax.specs.Grammar.{ItemFits, Reads}
use Rattle.pl_syntax.specs.Marks.{mark_of, marks_of}
use Rattle.pl_syntax.specs.Answers.{ReadsText, longest}
use Rattle.pl_report.specs.DemoModel.{demo_words}
use Rattle.pl_report.proofs.AboutDemonstration.Lexing.{demo_tokens, demo_lexed}

-- an expression that is a number alone
abbrev pub num : ℕ → Expr
num n = expr (number n) no_product no_sum

abbrev pub fixed_form : List ℕ → ℕ → List ReservationForm → List AlternativeForm → KindForm
fixed_form name duration reservations alternatives =
    record { name = name; params = []; duration = num duration; reservations = reservations; links = []; alternatives = alternatives }

abbrev pub shot_form : List ℕ → SlotForm
shot_form name = record { name = name; kind = codes "shot"; given = no_binding }

abbrev pub order_form : OrderForm
order_form = record { first = Some (codes "a"); first_end = point.End; second = Some (codes "b"); second_end = point.Start; low = bare 0; high = bare 3 }

abbrev pub scan_form : AlternativeForm
scan_form = record { first = shot_form (codes "a"); others = shot_form (codes "b") ∷ []; orders = order_form ∷ [] }

abbrev pub demo_items : List ItemForm
demo_items =
    timeline (capacity (codes "cam") 10)
    ∷ timeline (level (codes "bat") 0 1000 500)
    ∷ kind (fixed_form (codes "obs") 5 (take (codes "cam") (num 6) ∷ lower (codes "bat") (num 3) point.End ∷ []) [])
    ∷ kind (fixed_form (codes "shot") 4 (take (codes "cam") (num 4) ∷ []) [])
    ∷ kind (fixed_form (codes "charge") 10 (raise (codes "bat") (num 200) point.End ∷ []) [])
    ∷ kind (fixed_form (codes "scan") 10 [] (scan_form ∷ []))
    ∷ []

abbrev pub demo_form : ModelForm
demo_form = record { horizon = 1000000; lead = 100; items = demo_items }

abbrev pub demo_ast : Ast
demo_ast = model_tree demo_form

demo_spelled : marks_of demo_words demo_tokens ≡ spell_model demo_form []
unfolding demo_words mark_of word_of symbol_of
demo_spelled = refl

num_fits : (n : ℕ) → Fits limits (num n)
num_fits n = (lit≤ tt, (tt, tt, tt))

demo_fits : AllFit (ItemFits limits) demo_items
demo_fits = (
  tt,
  (
    tt,
    (
      (tt, num_fits 5, (num_fits 6, (num_fits 3, tt)), tt),
      (
        (tt, num_fits 4, (num_fits 4, tt), tt),
        (
          (tt, num_fits 10, (num_fits 200, tt), tt),
          (
            (tt, num_fits 10, tt, ((tt, (tt, tt)), tt)),
            tt,
          ),
        ),
      ),
    ),
  ),
)

pub demo_short : length demo_words ≤ longest
unfolding demo_words
demo_short = lit≤ tt

demo_derived : Reads limits (marks_of demo_words demo_tokens) demo_ast
demo_derived = record { form = demo_form; spelled = demo_spelled; tree = refl; fits = demo_fits }

pub demo_reads : ReadsText demo_words demo_ast
demo_reads = record { tokens = demo_tokens; lexed = demo_lexed; reads = demo_derived }
