-- The links that are kept of a plan with nothing in it.
use Rattle.std.proofs.Common.{◌≡◌, [], map, ap, sym, ◌∙◌}
use Rattle.pl_links.specs.Kept.{Kept, kept_of}
use Rattle.pl_semantics.specs.Links.{placed_in, placed_of}
use Rattle.pl_semantics.specs.declared.plan_state.PlanState.{PlanState}

-- nothing planned breaks nothing
pub kept_none : (s : PlanState) (kept : Kept) → s.plan.activities ≡ [] → kept.items ≡ [] → kept.broken ≡ [] → kept ≡ kept_of s.model (placed_in s)
kept_none s kept none items broken =
    ap (λ l. record { items = l; broken = kept.broken }) items ∙ ap (λ bs. record { items = []; broken = bs }) broken ∙ ap (λ xs. kept_of s.model (map (placed_of s) xs)) (sym none)
