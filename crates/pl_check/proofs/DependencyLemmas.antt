-- The first vertex of a graph that reaches itself is the fault of its row.
use Rattle.std.proofs.Common.{◌≡◌, ℕ, ◌<◌, ◌≤◌, List, All, Some, slice_get, length, get_or, take, refl, sym, ap, subst, ◌∙◌, arith}
use Rattle.std.proofs.lemmas.List.{length-map, take_all}
use Rattle.std.proofs.lemmas.Option.{slice_get-get_or}
use Rattle.pl_model.specs.declared.parameters.Param.{Param}
use Rattle.pl_check.specs.declared.fault.ModelFault.{ModelFault}
use Rattle.pl_check.specs.declared.fault.ModelFault.TheVariants as fault
use Rattle.pl_check.specs.declared.drafts.DraftKind.{DraftKind}
use Rattle.pl_check.specs.Cycles.{IsAcyclic, IsFirstCyclic}
use Rattle.pl_check.specs.Dependencies.{param_graph, param_needs, kind_graph, contained_kinds, IsWellFounded, IsFirstCircularIn, IsFirstRecursive, IsCircularIn, IsCircularFault}

pub read_at : {X : Type 0} (xs : List X) (i : ℕ) (x : X) → i < length xs → x ≡ get_or xs i x → slice_get xs i ≡ Some x
read_at xs i x lt e = slice_get-get_or xs i x lt ∙ ap Some (sym e)

-- what holds of all that were taken
pub all_taken : {X : Type 0} (P : X → Type 0) (xs : List X) (n : ℕ) → length xs ≤ n → All P (take n xs) → All P xs
all_taken P xs n le h = let e : take n xs ≡ xs = take_all n xs le in subst (λ ys. All P ys) e h

pub well_founded : (kind : DraftKind) → IsAcyclic (param_graph kind) → IsWellFounded kind
well_founded kind h = record { acyclic = h }

pub circular_at : (kind : DraftKind) (number : ℕ) (stands : Param) → IsFirstCyclic (param_graph kind) number → stands ≡ get_or kind.params number stands → IsFirstCircularIn kind kind.name stands.name
circular_at kind number stands first e =
    let lt : number < length kind.params = omega (arith, first.vertex, length-map kind.params param_needs) in
    record { number = number; first = first; stands = stands; found = read_at kind.params number stands lt e; named = refl; param_named = refl }

pub recursive_at : (kinds : List DraftKind) (number : ℕ) (kind : DraftKind) → IsFirstCyclic (kind_graph kinds) number → kind ≡ get_or kinds number kind → IsFirstRecursive kinds kind.name
recursive_at kinds number kind first e =
    let lt : number < length kinds = omega (arith, first.vertex, length-map kinds contained_kinds) in
    record { place = number; kind = kind; found = read_at kinds number kind lt e; first = first; named = refl }

pub first_circular : (kinds : List DraftKind) (place : ℕ) (kind : DraftKind) (e : ModelFault) → place < length kinds → kind ≡ get_or kinds place kind → All IsWellFounded (take place kinds) → IsCircularIn kind e → IsCircularFault kinds e
first_circular kinds place kind (fault.Circular n p) lt same earlier h = record { place = place; kind = kind; found = read_at kinds place kind lt same; earlier = earlier; first = h }
first_circular kinds place kind fault.Memory lt same earlier h = tt
first_circular kinds place kind (fault.Twice n) lt same earlier h = absurd h
first_circular kinds place kind (fault.TooMany w) lt same earlier h = absurd h
first_circular kinds place kind (fault.Unknown n) lt same earlier h = absurd h
first_circular kinds place kind (fault.Range w) lt same earlier h = absurd h
first_circular kinds place kind (fault.Recursive n) lt same earlier h = absurd h
first_circular kinds place kind (fault.NoSchedule n a c) lt same earlier h = absurd h
