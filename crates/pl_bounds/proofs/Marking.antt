-- Marks of conflicts that stand are no more than the conflicts of states.
use Rattle.std.proofs.Common.{◌≡◌, ℕ, suc, ◌+◌, ◌<◌, ◌≤◌, true, false, List, [], ◌∷◌, ◌++◌, take, length, get_or, refl, sym, ap, ◌∙◌, subst, arith, inl, inr, filter}
use Rattle.std.proofs.lemmas.Bool.{or_cases, false_from_ne_true}
use Rattle.std.proofs.lemmas.List.{take_more}
use Rattle.std.proofs.lemmas.List.Kept.{IsStrictlySortedBy-filter}
use Rattle.pl_conflict.specs.declared.conflict.Conflict.{Conflict}
use Rattle.pl_conflict.specs.Order.{conflict_cmp, has}
use Rattle.pl_conflict.proofs.Sorting.{same, same_is}
use Rattle.pl_state.specs.Keys.{Has}
use Rattle.pl_semantics.specs.declared.plan_state.PlanState.{PlanState}
use Rattle.pl_semantics.specs.Conflicts.{conflicts_of}
use Rattle.pl_semantics.proofs.Standing.{ordered}
use Rattle.pl_bounds.specs.Counts.{AreApart}
use Rattle.pl_bounds.specs.Marks.{is_state_one, count_of_states, mark_of, Stands, AreOther, AreMarks}
use Rattle.pl_bounds.specs.declared.marks.Mark.{Mark}
use Rattle.pl_bounds.proofs.Counted.{held_are_few}
use Rattle.pl_bounds.proofs.Having.{has_either}
use Rattle.pl_bounds.proofs.Leaving.{passing}

-- ---- one more

other_push : (ks : List Mark) (k : Mark) → AreOther ks → (Has k ks → ⊥) → AreOther (ks ++ k ∷ [])
other_push [] k other new = (λ has. has, tt)
other_push (m ∷ ks) k other new = (
  λ has. elim (has_either m ks (k ∷ []) has) [
    | inl more ↦ other.0 more
    | inr last ↦ elim last [ inl is ↦ new (inl (sym is)) | inr none ↦ absurd none ]
  ],
  other_push ks k other.1 (λ has. new (inr has)),
)

pub marks_push : (s : PlanState) (ks : List Mark) (k : Mark) → (Has k ks → ⊥) → Stands s k → AreMarks s ks → AreMarks s (ks ++ k ∷ [])
marks_push s ks k new stands are = record {
  stand = λ m has. elim (has_either m ks (k ∷ []) has) [
    | inl more ↦ are.stand m more
    | inr last ↦ elim last [ inl is ↦ subst (λ (n : Mark). Stands s n) is stands | inr none ↦ absurd none ]
  ];
  other = other_push ks k are.other new;
}

pub none_yet : (s : PlanState) → AreMarks s []
none_yet s = record { stand = λ k has. absurd has; other = tt }

pub new_more : (k : Mark) (ks : List Mark) (i : ℕ) (d : Mark) → i < length ks → (Has k (take i ks) → ⊥) → (get_or ks i d ≡ k → ⊥) → Has k (take (i + 1) ks) → ⊥
new_more k ks i d lt before differs has = elim (has_either k (take i ks) (get_or ks i d ∷ []) (subst (λ (l : List Mark). Has k l) (take_more ks i d lt) has)) [
  | inl more ↦ before more
  | inr last ↦ elim last [ inl is ↦ differs is | inr none ↦ absurd none ]
]

-- ---- how many

record AreOf (s : PlanState) (ks : List Mark) (qs : List Conflict) : Type 0 where
  apart : AreApart qs
  stand : (q : Conflict) → has q qs ≡ true → has q (filter is_state_one (conflicts_of s)) ≡ true
  from : (q : Conflict) → has q qs ≡ true → Has (mark_of q.code q.subject q.detail) ks
  many : length qs ≡ length ks

told : (s : PlanState) (ks : List Mark) → AreMarks s ks → (qs : List Conflict) × AreOf s ks qs
told s [] are = ([], record { apart = tt; stand = λ q e. absurd (let bad : false ≡ true = e in cc); from = λ q e. absurd (let bad : false ≡ true = e in cc); many = refl })
told s (k ∷ ks) are =
    let rest = told s ks (record { stand = λ m has. are.stand m (inr has); other = are.other.1 }) in
    let one = are.stand k (inl refl) in (
      one.q ∷ rest.0,
      record {
        apart = (false_from_ne_true (has one.q rest.0) (λ e. are.other.0 (subst (λ (m : Mark). Has m ks) one.is (rest.1.from one.q e))), rest.1.apart);
        stand = λ q e. elim (or_cases (same q one.q) (has q rest.0) e) [
          | inl here ↦ subst (λ (z : Conflict). has z (filter is_state_one (conflicts_of s)) ≡ true) (sym (same_is q one.q here)) (passing is_state_one (conflicts_of s) one.q one.there one.states)
          | inr more ↦ rest.1.stand q more
        ];
        from = λ q e. elim (or_cases (same q one.q) (has q rest.0) e) [
          | inl here ↦ inl (sym (ap (λ (z : Conflict). mark_of z.code z.subject z.detail) (same_is q one.q here) ∙ one.is))
          | inr more ↦ inr (rest.1.from q more)
        ];
        many = ap suc rest.1.many;
      },
    )

pub marks_few : (s : PlanState) (ks : List Mark) (n : ℕ) → n ≤ length ks → AreMarks s ks → n ≤ count_of_states s
marks_few s ks n le are =
    let all = told s ks are in
    let few : length all.0 ≤ count_of_states s = held_are_few all.0 (filter is_state_one (conflicts_of s)) all.1.apart (IsStrictlySortedBy-filter conflict_cmp is_state_one (conflicts_of s) (ordered s)) all.1.stand in
    omega (arith, few, le, all.1.many)
