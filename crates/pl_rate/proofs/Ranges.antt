-- What a rate that is read names is there, and its change is in range.
use Rattle.std.proofs.Common.{◌≡◌, ℕ, ◌<◌, ◌≤◌, Bool, true, false, List, length, Ok, Err, sym, subst, arith, pos, ◌≤ℤ◌, if◌then◌else◌}
use Rattle.std.specs.Prelude.{Option, Some, None, IfSome, IfOk, nat_le, neg_ℤ}
use Rattle.std.proofs.lemmas.Bool.{leb-true}
use Rattle.std.proofs.lemmas.Int.{ints}
use Rattle.pl_lists.specs.Judgements.{◌>>=◌}
use Rattle.pl_lists.proofs.Judging.{bind_ok, if_ok}
use Rattle.pl_text.specs.declared.token.Token.{Token}
use Rattle.pl_model.specs.declared.whole.Model.{Model}
use Rattle.pl_msg.specs.declared.fault.ParseFault.TheVariants as fault
use Rattle.pl_msg.specs.Reads.{Read}
use Rattle.pl_msg.specs.Names.{kind_in, level_in}
use Rattle.pl_msg.proofs.Naming.{kind_there, level_there}
use Rattle.pl_rate.specs.declared.form.RateForm.{RateForm}
use Rattle.pl_rate.specs.declared.rate.Rate.{Rate}
use Rattle.pl_rate.specs.Rates.{kind_by, signed, rate_by, rate_with, IsRateOf}

signed_within : (down : Bool) (n : ℕ) → n ≤ 1000000 → (neg_ℤ (pos 1000000) ≤ℤ (if down then neg_ℤ (pos n) else pos n)) × ((if down then neg_ℤ (pos n) else pos n) ≤ℤ pos 1000000)
signed_within true n le = (omega (arith, ints, le), omega (arith, ints, le))
signed_within false n le = (omega (arith, ints, le), omega (arith, ints, le))

kind_fits : (model : Model) (line : List ℕ) (t : Option Token) (k : Option ℕ) → kind_by model line t ≡ Ok k → IfSome k (λ n. n < length model.kinds)
kind_fits model line None k e = let none : None ≡ k = cc in subst (λ (o : Option ℕ). IfSome o (λ m. m < length model.kinds)) none tt
kind_fits model line (Some t) k e =
    let found = bind_ok (kind_in model line t) (λ p. Ok (Some p.0)) k e in
    let some : Some found.0.0 ≡ k = cc (found.2) in
    subst (λ (o : Option ℕ). IfSome o (λ m. m < length model.kinds)) some (kind_there model line t found.0 found.1).0

with_fits : (model : Model) (line : List ℕ) (form : RateForm) (r : Rate) → rate_with model line form ≡ Ok r → IsRateOf model r
unfolding rate_with
with_fits model line form r e =
    let k = bind_ok (kind_by model line form.kind) (λ k. level_in model line form.level >>= λ l. rate_by k l form.change) r e in
    let l = bind_ok (level_in model line form.level) (λ l. rate_by k.0 l form.change) r k.2 in
    let ranged = if_ok (nat_le form.change.amount 1000000) (Ok (record { kind = k.0; level = l.0; change = signed form.change })) fault.OutOfRange r l.2 in
    let near = signed_within form.change.down form.change.amount (leb-true form.change.amount 1000000 ranged.0) in
    let made : Rate = record { kind = k.0; level = l.0; change = signed form.change } in
    let same : made ≡ r = cc (ranged.1) in
    subst (λ (x : Rate). IsRateOf model x) same (record {
      kind_is = kind_fits model line form.kind k.0 k.1;
      level_is = level_there model line form.level l.0 l.1;
      low = near.0;
      high = near.1;
    })

pub fits_all : (model : Model) (line : List ℕ) (form : RateForm) (o : Read Rate) → o ≡ rate_with model line form → IfOk o (IsRateOf model)
fits_all model line form (Ok r) is = with_fits model line form r (sym is)
fits_all model line form (Err e) is = tt
