-- A fault of one row is that of the rows up to it.
use Rattle.std.proofs.Common.{◌≡◌, List, Ok, Err, ap, ◌∙◌}
use Rattle.pl_lists.proofs.Judging.{fails_through, fails_so}
use Rattle.pl_syntax.specs.declared.whole.Ast.{Ast}
use Rattle.pl_check.specs.declared.fault.ModelFault.{ModelFault}
use Rattle.pl_check.specs.declared.drafts.Draft.{Draft}
use Rattle.pl_check.specs.Judgements.{Judged, pass, ◌>>◌, ◌>>=◌, is_memory, Fails}
use Rattle.pl_check.specs.Names.{twice_in}
use Rattle.pl_check.specs.Counts.{counts_in}
use Rattle.pl_check.specs.Numbering.{numbered_items}
use Rattle.pl_check.specs.Ranges.{range_in}
use Rattle.pl_check.specs.Checked.{drafted, ranged}

-- a fault that memory does not come into
pub fails_self : {X : Type 0} (e : ModelFault) (judged : Judged X) → judged ≡ Err e → Fails e judged
fails_self e judged same = fails_so is_memory e judged same

module _ (ast : Ast) where
  pub drafted_twice : (e : ModelFault) → Fails e (twice_in ast) → Fails e (drafted ast)
  unfolding drafted
  drafted_twice e h = fails_through is_memory (twice_in ast) (drafted ast) e (λ f p. ap (λ x. x >> (counts_in ast >> (numbered_items ast.items >>= ranged ast))) p) h

  pub drafted_counts : (e : ModelFault) → twice_in ast ≡ pass → Fails e (counts_in ast) → Fails e (drafted ast)
  unfolding drafted
  drafted_counts e t h = fails_through is_memory (counts_in ast) (drafted ast) e (λ f p. ap (λ x. x >> (counts_in ast >> (numbered_items ast.items >>= ranged ast))) t ∙ ap (λ x. x >> (numbered_items ast.items >>= ranged ast)) p) h

  pub drafted_numbered : (e : ModelFault) → twice_in ast ≡ pass → counts_in ast ≡ pass → Fails e (numbered_items ast.items) → Fails e (drafted ast)
  unfolding drafted
  drafted_numbered e t c h = fails_through is_memory (numbered_items ast.items) (drafted ast) e (λ f p. ap (λ x. x >> (counts_in ast >> (numbered_items ast.items >>= ranged ast))) t ∙ ap (λ x. x >> (numbered_items ast.items >>= ranged ast)) c ∙ ap (λ x. x >>= ranged ast) p) h

  pub drafted_ranges : (e : ModelFault) (drafts : List Draft) → twice_in ast ≡ pass → counts_in ast ≡ pass → numbered_items ast.items ≡ Ok drafts → Fails e (range_in ast.horizon ast.lead drafts) → Fails e (drafted ast)
  unfolding drafted
  drafted_ranges e drafts t c n h = fails_through is_memory (range_in ast.horizon ast.lead drafts) (drafted ast) e (λ f p. ap (λ x. x >> (counts_in ast >> (numbered_items ast.items >>= ranged ast))) t ∙ ap (λ x. x >> (numbered_items ast.items >>= ranged ast)) c ∙ ap (λ x. x >>= ranged ast) n ∙ ap (λ x. x >> Ok drafts) p) h

  pub drafted_passes : (drafts : List Draft) → twice_in ast ≡ pass → counts_in ast ≡ pass → numbered_items ast.items ≡ Ok drafts → range_in ast.horizon ast.lead drafts ≡ pass → drafted ast ≡ Ok drafts
  unfolding drafted
  drafted_passes drafts t c n r = ap (λ x. x >> (counts_in ast >> (numbered_items ast.items >>= ranged ast))) t ∙ ap (λ x. x >> (numbered_items ast.items >>= ranged ast)) c ∙ ap (λ x. x >>= ranged ast) n ∙ ap (λ x. x >> Ok drafts) r
