-- Why no further line is given.
use Rattle.std.proofs.Common.{◌≡◌, ℕ, ◌<◌, List, length, Option, Some, None, inl, inr, refl, sym, ◌∙◌, subst, false}
use Rattle.pl_io.specs.declared.errors.LineFault.{LineFault}
use Rattle.pl_io.specs.declared.errors.LineFault.TheVariants as fault
use Rattle.pl_io.specs.Reader.{Reader, FaultShown}
use Rattle.pl_io.specs.Sparing.{shows_next, read_size}
use Rattle.pl_input.specs.declared.halt.Halt.{Halt}
use Rattle.pl_input.specs.declared.halt.Halt.TheVariants as halt
use Rattle.pl_input.specs.Reads.{WhyKnown, StopsAt, Halts}
use Rattle.pl_input.specs.Stops.{HaltFor, IsStuck, IsStuckKnown, ReadLeaves, LimitLeaves, StopsBy}

pub never_full : (f : LineFault) → HaltFor f halt.Full → ⊥
never_full fault.Read is = let h : halt.Full ≡ halt.Read = is in (cc)
never_full fault.Memory is = let h : halt.Full ≡ halt.Memory = is in (cc)
never_full _ is = let h : halt.Full ≡ halt.Limit = is in (cc)

pub never_writes : (f : LineFault) → HaltFor f halt.Write → ⊥
never_writes fault.Read is = let h : halt.Write ≡ halt.Read = is in (cc)
never_writes fault.Memory is = let h : halt.Write ≡ halt.Memory = is in (cc)
never_writes _ is = let h : halt.Write ≡ halt.Limit = is in (cc)

pub only_reads : (f : LineFault) → HaltFor f halt.Read → f ≡ fault.Read
only_reads fault.Read is = refl
only_reads fault.Memory is = absurd (let h : halt.Read ≡ halt.Memory = is in (cc))
only_reads _ is = absurd (let h : halt.Read ≡ halt.Limit = is in (cc))

is_stuck : (limit room : ℕ) (rest : Option (List ℕ)) (f : LineFault) → HaltFor f halt.Limit → WhyKnown limit room rest f → IsStuckKnown limit room rest
is_stuck limit room None f is why = tt
is_stuck limit room (Some rest) fault.Read is why = absurd (let h : halt.Limit ≡ halt.Read = is in (cc))
is_stuck limit room (Some rest) (fault.Long n) is why = inl why
is_stuck limit room (Some rest) fault.Total is why = inr why
is_stuck limit room (Some rest) fault.Memory is why = absurd (let h : halt.Limit ≡ halt.Memory = is in (cc))

pub stops_by : (e : Halt) (limit room : ℕ) (rest : Option (List ℕ)) (f : LineFault) → HaltFor f e → WhyKnown limit room rest f → StopsBy e limit room rest
stops_by halt.Limit limit room rest f is why = is_stuck limit room rest f is why
stops_by _ limit room rest f is why = tt

pub read_leaves : (old new : Reader) (before after : Option (List ℕ)) (lines : List (List ℕ)) (f : LineFault) → (halts : Halts old before lines f new after) → HaltFor f halt.Read → ReadLeaves old.limit halts.left halts.rest new.held after
read_leaves old new before after lines f halts is =
    let read : f ≡ fault.Read = only_reads f is in
    let stops = halts.stops (λ lacks. let h : fault.Read ≡ fault.Memory = sym read ∙ lacks in (cc)) in
    let shown : shows_next new.limit new.room new.held ≡ false = subst (λ (g : LineFault). FaultShown new new g) read stops.shown in
    record {
      shows = subst (λ n. shows_next n halts.left new.held ≡ false) stops.limit (subst (λ n. shows_next new.limit n new.held ≡ false) stops.room shown);
      kept = stops.kept;
    }

-- ---- a fault of length

never_lacks : (f : LineFault) → HaltFor f halt.Limit → f ≡ fault.Memory → ⊥
never_lacks f is lacks = let h : halt.Limit ≡ halt.Memory = subst (λ (g : LineFault). HaltFor g halt.Limit) lacks is in (cc)

stuck_shown : (new : Reader) (f : LineFault) → HaltFor f halt.Limit → FaultShown new new f → IsStuck new.limit new.room new.held
stuck_shown new fault.Read is shown = absurd (let h : halt.Limit ≡ halt.Read = is in (cc))
stuck_shown new (fault.Long n) is shown = inl shown.0
stuck_shown new fault.Total is shown = inr shown
stuck_shown new fault.Memory is shown = absurd (let h : halt.Limit ≡ halt.Memory = is in (cc))

pub limit_stops : (old new : Reader) (lines : List (List ℕ)) (left : ℕ) (rest after : Option (List ℕ)) (f : LineFault) → StopsAt old lines left rest f new after → HaltFor f halt.Limit → length old.held < read_size
    → LimitLeaves old.limit left rest new.held after
limit_stops old new lines left rest after f stops is small =
    let shown : IsStuck new.limit new.room new.held = stuck_shown new f is stops.shown in
    record {
      shows = subst (λ n. IsStuck n left new.held) stops.limit (subst (λ n. IsStuck new.limit n new.held) stops.room shown);
      few = stops.few small;
      kept = stops.kept;
    }

pub limit_leaves : (old new : Reader) (before after : Option (List ℕ)) (lines : List (List ℕ)) (f : LineFault) → (halts : Halts old before lines f new after) → HaltFor f halt.Limit → length old.held < read_size
    → LimitLeaves old.limit halts.left halts.rest new.held after
limit_leaves old new before after lines f halts is small = limit_stops old new lines halts.left halts.rest after f (halts.stops (never_lacks f is)) is small
