-- What is told adds up.
use Rattle.std.proofs.Common.{◌≡◌, Bool, true, false, List, ◌++◌, refl, sym, ◌∙◌}
use Rattle.std.specs.Prelude.{◌||◌, ◌&&◌, not}
use Rattle.std.specs.BTreeMap.{is_at}
use Rattle.std.proofs.lemmas.List.Folds.{list_any-append}
use Rattle.pl_lists.proofs.Tests.{or_first_false, or_second_false}
use Rattle.pl_links.specs.declared.broken.Broken.{Broken}
use Rattle.pl_links.specs.declared.changes.Changes.{Changes}
use Rattle.pl_links.specs.Changes.{Tells}
use Rattle.pl_links.specs.Sets.{broken_cmp, has}
use Rattle.pl_update.specs.Links.Telling.{TellsAll}

pub has-append : (xs ys : List Broken) (b : Broken) → has b (xs ++ ys) ≡ (has b xs || has b ys)
has-append xs ys b = list_any-append (is_at (broken_cmp b)) xs ys

-- nothing is told
pub tells_itself : (told bs : List Broken) → TellsAll told told bs bs
tells_itself told bs = record { untold = λ b e. e; unchanged = λ b e. refl }

pub tells_then : (a b c x y z : List Broken) → TellsAll a b x y → TellsAll b c y z → TellsAll a c x z
tells_then a b c x y z one two = record {
  untold = λ k e. one.untold k (two.untold k e);
  unchanged = λ k e. two.unchanged k e ∙ one.unchanged k (two.untold k e);
}

neither : (new old : Bool) → (new && not old) ≡ false → (old && not new) ≡ false → new ≡ old
neither true true e f = refl
neither true false e f = absurd (cc)
neither false true e f = absurd (cc)
neither false false e f = refl

pub tells_changes : (told old new : List Broken) (changes : Changes) → Tells old new changes → TellsAll told ((told ++ changes.came.items) ++ changes.went.items) old new
tells_changes told old new changes tells = record {
  untold = λ b e. or_first_false (has b told) (has b changes.came.items) (first b e);
  unchanged = λ b e. neither (has b new) (has b old)
      (sym (tells.came b) ∙ or_second_false (has b told) (has b changes.came.items) (first b e))
      (sym (tells.went b) ∙ or_second_false (has b (told ++ changes.came.items)) (has b changes.went.items) (parts b e));
}
  where
    parts : (b : Broken) → has b ((told ++ changes.came.items) ++ changes.went.items) ≡ false → (has b (told ++ changes.came.items) || has b changes.went.items) ≡ false
    parts b e = sym (has-append (told ++ changes.came.items) changes.went.items b) ∙ e

    first : (b : Broken) → has b ((told ++ changes.came.items) ++ changes.went.items) ≡ false → (has b told || has b changes.came.items) ≡ false
    first b e = sym (has-append told changes.came.items b) ∙ or_first_false (has b (told ++ changes.came.items)) (has b changes.went.items) (parts b e)
