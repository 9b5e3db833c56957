-- The parts of a checked model can be numbered, and what a token names is there.
use Rattle.std.proofs.Common.{◌≡◌, ℕ, ◌<◌, ◌≤◌, List, length, Option, Some, None, Ok, slice_get, refl, sym, subst, arith}
use Rattle.std.specs.Prelude.{bytes_eq}
use Rattle.std.proofs.lemmas.Option.{slice_get_within, get_or_from_slice_get}
use Rattle.std.proofs.lemmas.List.Elements.{All-weaker}
use Rattle.pl_text.specs.declared.token.Token.{Token}
use Rattle.pl_text.specs.Tokens.{token_text}
use Rattle.pl_model.specs.declared.kinds.Kind.{Kind}
use Rattle.pl_model.specs.declared.timelines.Timeline.{Timeline}
use Rattle.pl_model.specs.declared.timelines.Timeline.TheVariants as timeline
use Rattle.pl_model.specs.declared.whole.Model.{Model}
use Rattle.pl_model.specs.Checked.{IsChecked, IsCheckedKind, IsCheckedLine, IsLevelLine}
use Rattle.pl_msg.specs.Names.{kind_named, timeline_name, timeline_named, kind_found, kind_in, level_found, level_in}
use Rattle.pl_msg.specs.Limits.{IsNumbered, HasFewStates}
use Rattle.pl_msg.proofs.Within.{first_from-Some}

few_states : (t : Timeline) → IsCheckedLine t → HasFewStates t
few_states (timeline.Capacity name most) checked = tt
few_states (timeline.Level name least most start) checked = tt
few_states (timeline.States name states start any steps) checked = let few = checked.0 in omega arith

pub is_numbered_model : (m : Model) → IsChecked m → IsNumbered m
is_numbered_model m checked =
    let kinds = checked.few_kinds in
    let timelines = checked.few_timelines in
    record { kinds = omega arith; timelines = omega arith; states = All-weaker IsCheckedLine HasFewStates few_states m.timelines checked.timelines }

kind_found_there : (model : Model) (text : List ℕ) (k : ℕ × Kind) (o : Option (ℕ × Kind)) → kind_named model text ≡ o → kind_found o ≡ Ok k → (k.0 < length model.kinds) × (slice_get model.kinds k.0 ≡ Some k.1)
kind_found_there model text k None is e = absurd (cc)
kind_found_there model text k (Some (n, kind)) is e =
    let found = first_from-Some (λ (d : Kind). bytes_eq d.name text) 0 model.kinds n kind is in
    let lt = slice_get_within model.kinds found.0 kind found.2 in
    let same : (n, kind) ≡ k = cc in
    let at : found.0 ≡ n = omega (arith, found.1) in
    subst (λ (p : ℕ × Kind). (p.0 < length model.kinds) × (slice_get model.kinds p.0 ≡ Some p.1)) same (omega (arith, found.1, lt), subst (λ m. slice_get model.kinds m ≡ Some kind) at found.2)

-- the kind is one of the model's, and it is the one that its number names
pub kind_there : (model : Model) (line : List ℕ) (t : Token) (k : ℕ × Kind) → kind_in model line t ≡ Ok k → (k.0 < length model.kinds) × (slice_get model.kinds k.0 ≡ Some k.1)
kind_there model line t k e = kind_found_there model (token_text line t) k (kind_named model (token_text line t)) refl e

level_found_there : (model : Model) (text : List ℕ) (l : ℕ) (o : Option (ℕ × Timeline)) → timeline_named model text ≡ o → level_found o ≡ Ok l → IsLevelLine (slice_get model.timelines l)
level_found_there model text l None is e = absurd (cc)
level_found_there model text l (Some (n, timeline.Capacity name most)) is e = absurd (cc)
level_found_there model text l (Some (n, timeline.Level name least most start)) is e =
    let found = first_from-Some (λ (d : Timeline). bytes_eq (timeline_name d) text) 0 model.timelines n (timeline.Level name least most start) is in
    let same : n ≡ l = cc in
    let at : found.0 ≡ l = omega (arith, found.1, same) in
    subst (λ m. IsLevelLine (slice_get model.timelines m)) at (subst (λ (o : Option Timeline). IsLevelLine o) (sym found.2) tt)
level_found_there model text l (Some (n, timeline.States name states start any steps)) is e = absurd (cc)

-- the level is one of the model's
pub level_there : (model : Model) (line : List ℕ) (t : Token) (l : ℕ) → level_in model line t ≡ Ok l → IsLevelLine (slice_get model.timelines l)
level_there model line t l e = level_found_there model (token_text line t) l (timeline_named model (token_text line t)) refl e

-- a kind that is found has at most 16 parameters
pub kind_few : (model : Model) → IsChecked model → (text : List ℕ) (n : ℕ) (kind : Kind) → Some (n, kind) ≡ kind_named model text → length kind.params ≤ 16
kind_few model checked text n kind is =
    let found = first_from-Some (λ (d : Kind). bytes_eq d.name text) 0 model.kinds n kind (sym is) in
    let there : IsCheckedKind model kind = subst (IsCheckedKind model) (get_or_from_slice_get model.kinds found.0 kind kind found.2) (checked.kinds found.0 kind (slice_get_within model.kinds found.0 kind found.2)) in
    there.few_params
