-- The texts of a model, by their tokens, and the tree of each: with the two depth limits of expressions, and without them.
use Rattle.std.specs.Prelude.{◌≡◌, List, []}
use Rattle.pl_syntax.specs.declared.token.Token.{Token}
use Rattle.pl_syntax.specs.Spelling.{AllFit}
use Rattle.pl_syntax.specs.declared.whole.Ast.{Ast}
use Rattle.pl_syntax.specs.Expressions.{Limits, Fits}
use Rattle.pl_syntax.specs.Forms.{OriginForm, plain, default, equals, ParamForm, ReservationForm, take, raise, lower, put, must, BindingForm, BindingsForm, no_binding, bindings, SlotForm, AlternativeForm, KindForm, ItemForm, timeline, kind, ModelForm, spell_model}
use Rattle.pl_syntax.specs.Trees.{model_tree}

abbrev pub OriginFits : Limits → OriginForm → Type 0
OriginFits limits plain = Unit {0}
OriginFits limits (default n) = Unit {0}
OriginFits limits (equals e) = Fits limits e

abbrev pub ParamFits : Limits → ParamForm → Type 0
ParamFits limits p = OriginFits limits p.origin

abbrev pub ReservationFits : Limits → ReservationForm → Type 0
ReservationFits limits (take n e) = Fits limits e
ReservationFits limits (raise n e p) = Fits limits e
ReservationFits limits (lower n e p) = Fits limits e
ReservationFits limits (put n s p) = Unit {0}
ReservationFits limits (must n s) = Unit {0}

abbrev pub BindingFits : Limits → BindingForm → Type 0
BindingFits limits b = Fits limits b.value

abbrev pub BindingsFit : Limits → BindingsForm → Type 0
BindingsFit limits no_binding = Unit {0}
BindingsFit limits (bindings b bs) = BindingFits limits b × AllFit (BindingFits limits) bs

abbrev pub SlotFits : Limits → SlotForm → Type 0
SlotFits limits s = BindingsFit limits s.given

abbrev pub AlternativeFits : Limits → AlternativeForm → Type 0
AlternativeFits limits a = SlotFits limits a.first × AllFit (SlotFits limits) a.others

abbrev pub KindFits : Limits → KindForm → Type 0
KindFits limits k = AllFit (ParamFits limits) k.params × Fits limits k.duration × AllFit (ReservationFits limits) k.reservations × AllFit (AlternativeFits limits) k.alternatives

abbrev pub ItemFits : Limits → ItemForm → Type 0
ItemFits limits (timeline t) = Unit {0}
ItemFits limits (kind k) = KindFits limits k

-- The tokens are a text of the grammar, and this is its tree.
pub record Reads (limits : Limits) (tokens : List Token) (ast : Ast) : Type 0 where
  pub form : ModelForm
  pub spelled : tokens ≡ spell_model form []
  pub tree : ast ≡ model_tree form
  pub fits : AllFit (ItemFits limits) form.items

-- without the limits
pub record ReadsFree (tokens : List Token) (ast : Ast) : Type 0 where
  pub form : ModelForm
  pub spelled : tokens ≡ spell_model form []
  pub tree : ast ≡ model_tree form
