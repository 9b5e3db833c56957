-- Reading one thing after the other, as a loop does.
use Rattle.std.proofs.Common.{◌≡◌, ℕ, ◌<◌, List, [], ◌∷◌, ◌++◌, length, Ok, Err, sym, ap, ◌∙◌, arith}
use Rattle.std.specs.Prelude.{◌==◌, false}
use Rattle.pl_text.specs.declared.token.Token.{Token}
use Rattle.pl_msg.specs.declared.fault.ParseFault.{ParseFault}
use Rattle.pl_msg.specs.declared.fault.ParseFault.TheVariants as fault
use Rattle.pl_msg.specs.declared.presets.Preset.{Preset}
use Rattle.pl_lists.specs.Judgements.{◌>>=◌, behind}
use Rattle.pl_lists.proofs.Judging.{behind-cons, behind-none}
use Rattle.pl_msg.specs.Reads.{Read, Fails}
use Rattle.pl_msg.specs.Goals.{preset_in, preset_at, each_preset}

-- ---- presets

abbrev with_rest : List Token → Preset → Read (Preset × List Token)
with_rest more p = Ok (p, more)

ok_is : {X : Type 0} (x y : X) → (let one : Read X = Ok x in one) ≡ Ok y → x ≡ y
ok_is x y e = cc

read_so : (r : Read Preset) (m : List Token) (p : Preset) (more : List Token) → (r >>= with_rest m) ≡ Ok (p, more) → (r ≡ Ok p) × (m ≡ more)
read_so (Ok q) m p more e = let same = ok_is (q, m) (p, more) e in (ap Ok (ap (λ (w : Preset × List Token). w.0) same), ap (λ (w : Preset × List Token). w.1) same)
read_so (Err d) m p more e = absurd (cc)

fails_as : (r : Read Preset) (m : List Token) (e : ParseFault) → (r >>= with_rest m) ≡ Err e → r ≡ Err e
fails_as (Ok q) m e h = absurd (cc)
fails_as (Err d) m e h = cc

pub preset_goes_on : (line : List ℕ) (found : List Preset) (rest more : List Token) (p : Preset) (whole : Read (List Preset)) → preset_at line rest ≡ Ok (p, more) → behind found (each_preset line rest) ≡ whole → behind (found ++ p ∷ []) (each_preset line more) ≡ whole
unfolding each_preset
preset_goes_on line found [] more p whole e h = absurd (cc)
preset_goes_on line found (a ∷ []) more p whole e h = absurd (cc)
preset_goes_on line found (a ∷ b ∷ []) more p whole e h = absurd (cc)
preset_goes_on line found (a ∷ b ∷ c ∷ rest) more p whole e h =
    let same = read_so (preset_in line a b c) rest p more e in
    ap (λ r. behind (found ++ p ∷ []) (each_preset line r)) (sym same.1)
    ∙ sym (behind-cons found p (each_preset line rest))
    ∙ ap (λ r. behind found (r >>= λ q. each_preset line rest >>= λ qs. Ok (q ∷ qs))) (sym same.0) ∙ h

preset_ends : (line : List ℕ) (found : List Preset) (rest : List Token) (e : ParseFault) (whole : Read (List Preset)) → 0 < length rest → preset_at line rest ≡ Err e → behind found (each_preset line rest) ≡ whole → whole ≡ Err e
unfolding each_preset
preset_ends line found [] e whole some bad h = absurd (omega arith)
preset_ends line found (a ∷ []) e whole some bad h = let same : fault.BadLine ≡ e = cc in sym h ∙ ap Err same
preset_ends line found (a ∷ b ∷ []) e whole some bad h = let same : fault.BadLine ≡ e = cc in sym h ∙ ap Err same
preset_ends line found (a ∷ b ∷ c ∷ rest) e whole some bad h =
    let same = fails_as (preset_in line a b c) rest e bad in
    sym h ∙ ap (λ r. behind found (r >>= λ q. each_preset line rest >>= λ qs. Ok (q ∷ qs))) same

pub preset_fails : (line : List ℕ) (found : List Preset) (rest : List Token) (e : ParseFault) (whole : Read (List Preset)) → 0 < length rest → Fails e (preset_at line rest) → behind found (each_preset line rest) ≡ whole → Fails e whole
preset_fails line found rest fault.BadLine whole some bad h = preset_ends line found rest fault.BadLine whole some bad h
preset_fails line found rest fault.UnknownName whole some bad h = preset_ends line found rest fault.UnknownName whole some bad h
preset_fails line found rest fault.OutOfRange whole some bad h = preset_ends line found rest fault.OutOfRange whole some bad h
preset_fails line found rest fault.Memory whole some bad h = tt

pub preset_done : (line : List ℕ) (found : List Preset) (rest : List Token) (whole : Read (List Preset)) → length rest ≡ 0 → behind found (each_preset line rest) ≡ whole → whole ≡ Ok found
unfolding each_preset
preset_done line found [] whole none h = behind-none found whole h
preset_done line found (a ∷ rest) whole none h = absurd (omega arith)

pub some_left : {X : Type 0} (xs : List X) → (length xs == 0) ≡ false → 0 < length xs
some_left [] e = absurd (cc)
some_left (x ∷ xs) e = omega arith
