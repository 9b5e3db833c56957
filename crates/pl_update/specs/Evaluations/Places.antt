-- Where an id stands among entries, and where an entry of it would go.
use Rattle.std.specs.Prelude.{◌≡◌, ◌==◌, ℕ, ◌<◌, ◌≤◌, Some, None, length, slice_index_or, slice_set, if◌then◌else◌}
use Rattle.std.specs.List.{insert, remove}
use Rattle.pl_plan.specs.declared.evaluated.Evaluated.{Evaluated}
use Rattle.pl_update.specs.Evaluations.Kept.{Entries, AreRising, kept_at}

-- the entry of this id stands here
pub record IsPlaceOf (id : ℕ) (entries : Entries) (at : ℕ) : Type 0 where
  pub in_range : at < length entries
  pub is : (d : ℕ × Evaluated) → (slice_index_or entries at d).0 ≡ id
  pub here : (d : ℕ × Evaluated) → kept_at id entries ≡ Some (slice_index_or entries at d).1
  pub put : (e : Evaluated) (q : ℕ) → kept_at q (slice_set entries at (id, e)) ≡ (if id == q then Some e else kept_at q entries)
  pub put_rise : (e : Evaluated) → AreRising (slice_set entries at (id, e))
  pub taken : (q : ℕ) → kept_at q (remove entries at) ≡ (if id == q then None else kept_at q entries)
  pub taken_rise : AreRising (remove entries at)

-- no entry has this id, and one of it would go here
pub record IsGapFor (id : ℕ) (entries : Entries) (at : ℕ) : Type 0 where
  pub in_range : at ≤ length entries
  pub none : kept_at id entries ≡ None
  pub put : (e : Evaluated) (q : ℕ) → kept_at q (insert entries at (id, e)) ≡ (if id == q then Some e else kept_at q entries)
  pub put_rise : (e : Evaluated) → AreRising (insert entries at (id, e))
