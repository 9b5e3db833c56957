-- What a preference that is read names is there, and its weight is in range.
use Rattle.std.proofs.Common.{◌≡◌, ℕ, ◌<◌, ◌&&◌, List, length, Ok, Err, refl, sym, subst, arith, ℤ, pos}
use Rattle.std.specs.Prelude.{Option, Some, None, IfOk, bytes_eq, nat_le}
use Rattle.std.proofs.lemmas.Option.{slice_get_within}
use Rattle.std.proofs.lemmas.Bool.{leb-true, and_parts}
use Rattle.std.proofs.lemmas.Int.{ints}
use Rattle.pl_lists.specs.Judgements.{◌>>=◌}
use Rattle.pl_lists.proofs.Judging.{bind_ok, if_ok}
use Rattle.pl_text.specs.declared.token.Token.{Token}
use Rattle.pl_text.specs.Tokens.{token_text}
use Rattle.pl_model.specs.declared.kinds.Kind.{Kind}
use Rattle.pl_model.specs.declared.parameters.Param.{Param}
use Rattle.pl_model.specs.declared.whole.Model.{Model}
use Rattle.pl_model.specs.Checked.{params_of}
use Rattle.pl_msg.specs.declared.fault.ParseFault.TheVariants as fault
use Rattle.pl_msg.specs.Reads.{Read}
use Rattle.pl_msg.specs.Names.{kind_in, level_in}
use Rattle.pl_msg.proofs.Within.{first_from-Some}
use Rattle.pl_msg.proofs.Naming.{kind_there, level_there}
use Rattle.pl_prefs.specs.declared.form.PreferForm.{PreferForm}
use Rattle.pl_prefs.specs.declared.form.PreferForm.TheVariants as form
use Rattle.pl_prefs.specs.declared.prefer.Prefer.{Prefer}
use Rattle.pl_prefs.specs.declared.prefer.Prefer.TheVariants as prefer
use Rattle.pl_prefs.specs.Prefers.{param_named, param_found, param_by, weight_of, early_with, late_with, value_with, level_with, prefer_with, IsWeight, HasParam, IsPreferOf}

param_there : (params : List Param) (text : List ℕ) (n : ℕ) (o : Option (ℕ × Param)) → param_named params text ≡ o → param_found o ≡ Ok n → n < length params
param_there params text n None is e = absurd (cc)
param_there params text n (Some (m, param)) is e =
    let found = first_from-Some (λ (d : Param). bytes_eq d.name text) 0 params m param is in
    let lt = slice_get_within params found.0 param found.2 in
    let same : m ≡ n = cc in
    omega (arith, found.1, lt, same)

weight_there : (w : ℕ) (z : ℤ) → weight_of w ≡ Ok z → IsWeight z
weight_there w z e =
    let ranged = if_ok (nat_le 1 w && nat_le w 1000) (Ok (pos w)) fault.OutOfRange z e in
    let both = and_parts (nat_le 1 w) (nat_le w 1000) ranged.0 in
    let same : pos w ≡ z = cc (ranged.1) in
    subst IsWeight same (omega (arith, ints, leb-true 1 w both.0), omega (arith, ints, leb-true w 1000 both.1))

-- ---- each form

early_fits : (model : Model) (line : List ℕ) (kind : Token) (weight : ℕ) (p : Prefer) → early_with model line kind weight ≡ Ok p → IsPreferOf model p
unfolding early_with
early_fits model line kind weight p e =
    let k = bind_ok (kind_in model line kind) (λ k. weight_of weight >>= λ w. Ok (prefer.Early k.0 w)) p e in
    let w = bind_ok (weight_of weight) (λ w. Ok (prefer.Early k.0.0 w)) p k.2 in
    let there = kind_there model line kind k.0 k.1 in
    let same : prefer.Early k.0.0 w.0 ≡ p = cc (w.2) in
    subst (IsPreferOf model) same (there.0, weight_there weight w.0 w.1)

late_fits : (model : Model) (line : List ℕ) (kind : Token) (weight : ℕ) (p : Prefer) → late_with model line kind weight ≡ Ok p → IsPreferOf model p
unfolding late_with
late_fits model line kind weight p e =
    let k = bind_ok (kind_in model line kind) (λ k. weight_of weight >>= λ w. Ok (prefer.Late k.0 w)) p e in
    let w = bind_ok (weight_of weight) (λ w. Ok (prefer.Late k.0.0 w)) p k.2 in
    let there = kind_there model line kind k.0 k.1 in
    let same : prefer.Late k.0.0 w.0 ≡ p = cc (w.2) in
    subst (IsPreferOf model) same (there.0, weight_there weight w.0 w.1)

value_fits : (model : Model) (line : List ℕ) (kind param : Token) (weight : ℕ) (p : Prefer) → value_with model line kind param weight ≡ Ok p → IsPreferOf model p
unfolding value_with
value_fits model line kind param weight p e =
    let k = bind_ok (kind_in model line kind) (λ k. param_by k.1.params line param >>= λ n. weight_of weight >>= λ w. Ok (prefer.Value k.0 n w)) p e in
    let n = bind_ok (param_by k.0.1.params line param) (λ n. weight_of weight >>= λ w. Ok (prefer.Value k.0.0 n w)) p k.2 in
    let w = bind_ok (weight_of weight) (λ w. Ok (prefer.Value k.0.0 n.0 w)) p n.2 in
    let there = kind_there model line kind k.0 k.1 in
    let within = param_there k.0.1.params (token_text line param) n.0 (param_named k.0.1.params (token_text line param)) refl n.1 in
    let has : HasParam model k.0.0 n.0 = subst (λ (o : Option Kind). n.0 < length (params_of o)) (sym there.1) within in
    let same : prefer.Value k.0.0 n.0 w.0 ≡ p = cc (w.2) in
    subst (IsPreferOf model) same (there.0, has, weight_there weight w.0 w.1)

level_fits : (model : Model) (line : List ℕ) (level : Token) (weight : ℕ) (p : Prefer) → level_with model line level weight ≡ Ok p → IsPreferOf model p
unfolding level_with
level_fits model line level weight p e =
    let l = bind_ok (level_in model line level) (λ l. weight_of weight >>= λ w. Ok (prefer.Level l w)) p e in
    let w = bind_ok (weight_of weight) (λ w. Ok (prefer.Level l.0 w)) p l.2 in
    let same : prefer.Level l.0 w.0 ≡ p = cc (w.2) in
    subst (IsPreferOf model) same (level_there model line level l.0 l.1, weight_there weight w.0 w.1)

with_fits : (model : Model) (line : List ℕ) (f : PreferForm) (p : Prefer) → prefer_with model line f ≡ Ok p → IsPreferOf model p
with_fits model line (form.Early kind weight) p e = early_fits model line kind weight p e
with_fits model line (form.Late kind weight) p e = late_fits model line kind weight p e
with_fits model line (form.Value kind param weight) p e = value_fits model line kind param weight p e
with_fits model line (form.Level level weight) p e = level_fits model line level weight p e

pub fits_all : (model : Model) (line : List ℕ) (f : PreferForm) (o : Read Prefer) → o ≡ prefer_with model line f → IfOk o (IsPreferOf model)
fits_all model line f (Ok p) is = with_fits model line f p (sym is)
fits_all model line f (Err e) is = tt
