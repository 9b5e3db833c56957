-- The passes are joined, and all of them close into one history.
use Rattle.std.proofs.Common.{◌≡◌, ℕ, ◌+◌, List, [], ◌∷◌, ◌++◌, length, true, Some, get_or, sym, ◌∙◌, ap, subst, arith}
use Rattle.std.specs.List.{All}
use Rattle.std.proofs.lemmas.List.{length-map}
use mathlib.Core.List.{IsPrefix}
use Rattle.pl_turn.specs.History.{IsEachOnce, StandsIn, times_in}
use Rattle.pl_turn.specs.Passes.{seen_of, mine_of, crew_of, leads, made_by, joined_by, opening_of, lists_of}
use Rattle.pl_turn.proofs.Histories.{prefix_trans}
use Rattle.pl_marks.specs.Marks.{Signed}
use Rattle.pl_model.specs.declared.whole.Model.{Model}
use Rattle.pl_machine.specs.Sound.{State}
use Rattle.pl_acts.specs.declared.noted.Noted.{Noted}
use Rattle.pl_acts.specs.Items.{items_of, model_in}
use Rattle.pl_acts.specs.Seen.{IsPlan}
use Rattle.pl_locked.specs.declared.plan.SharedPlan.{SharedPlan}
use Rattle.pl_locked.specs.Plans.{PlanPass, Closes}
use Rattle.pl_acts.proofs.Items.{model_in_items, model_in_prefix}
use Rattle.pl_pair.specs.declared.worker.Worker.{Worker}
use Rattle.pl_pair.specs.Joins.{JoinsAll, own_lists_of}
use Rattle.pl_pair.specs.Runs.{ClosesAll}

-- what was seen has the model of the whole
pub same_model : (seen whole : List Noted) (m : Model) → IsPlan seen → IsPrefix seen whole → model_in whole ≡ Some m → model_in seen ≡ Some m
same_model seen whole m plan on is =
    let here : model_in seen ≡ Some plan.model = ap model_in plan.is ∙ model_in_items plan.model plan.log plan.signs plan.legal in
    let there : Some plan.model ≡ Some m = sym (model_in_prefix seen whole plan.model on here) ∙ is in
    here ∙ there

module _ (plan : SharedPlan) (workers : List Worker) (first last : PlanPass) (joins : JoinsAll plan workers first last) (none : joined_by first ≡ []) where
  joined_is : joined_by last ≡ own_lists_of workers
  joined_is = ap (λ c. c.joined) joins.crew ∙ ap (λ (ls : List (List (ℕ × Noted))). ls ++ own_lists_of workers) none

  pub joined_lists : lists_of last ≡ mine_of first ∷ own_lists_of workers
  joined_lists = ap (λ (l : List (ℕ × Noted)). l ∷ joined_by last) joins.mine ∙ ap (λ (ls : List (List (ℕ × Noted))). mine_of first ∷ ls) joined_is

  -- every pass that was split off is joined
  pub all_joined : made_by first ≡ length workers → made_by last ≡ length (joined_by last)
  all_joined made = ap (λ c. c.made) joins.crew ∙ made ∙ sym (ap (λ (ls : List (List (ℕ × Noted))). length ls) joined_is ∙ length-map workers (λ (w : Worker). mine_of w.pass))

  unfoldable pub closes_all : (machine : State) (by : Signed) → IsPlan (seen_of first) → Closes last machine by → ClosesAll first workers machine
  closes_all machine by plan' closes =
      let items = items_of machine.model machine.log closes.signs in
      let opening : opening_of last ≡ opening_of first = ap (λ c. c.opening) joins.crew in
      let O : (ℕ × List (List (ℕ × Noted))) → Type 0 = λ t. IsEachOnce t.0 (length items) (λ place. times_in place t.1) in
      record {
        signs = closes.signs;
        some = (let is = ap (λ (s : Signed). s.opening) closes.signed in let some = closes.some in omega (arith, is, some));
        each = ap (λ (s : Signed). s.opening + length s.authors) closes.signed ∙ closes.each;
        legal = closes.legal;
        model = same_model (seen_of first) (seen_of last) machine.model plan' joins.longer closes.model;
        first_seen = prefix_trans (seen_of first) (seen_of last) items joins.longer closes.history;
        workers_seen = λ k w lt. prefix_trans (seen_of (get_or workers k w).pass) (seen_of last) items (joins.begins k w lt) closes.history;
        stands = subst (λ (ls : List (List (ℕ × Noted))). All (StandsIn items) ls) joined_lists closes.stands;
        owners = subst O (λ i. (opening i, joined_lists i)) closes.owners;
      }

pub still_leads : (old new : PlanPass) (joined : List (List (ℕ × Noted))) → crew_of new ≡ record (crew_of old) { joined = joined } → leads old ≡ true → leads new ≡ true
still_leads old new joined crew first = ap (λ c. c.leads) crew ∙ first
