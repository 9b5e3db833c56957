-- The text passes every check, and this is its model.
use Rattle.std.proofs.Common.{◌≡◌, List, Ok, refl, sym, subst}
use Rattle.pl_check.specs.declared.drafts.Draft.{Draft}
use Rattle.pl_check.specs.Judgements.{Judged, Judgement, ◌>>=◌, ◌>>◌}
use Rattle.pl_check.specs.Names.{twice_in}
use Rattle.pl_check.specs.Counts.{counts_in}
use Rattle.pl_check.specs.Numbering.{numbered_items}
use Rattle.pl_check.specs.Ranges.{range_in}
use Rattle.pl_check.specs.Checked.{drafted, IsModelOf, AnswersJudged, Answers}
use Rattle.pl_check.specs.Accepting.{IsModelText}
use Rattle.pl_report.specs.DemoModel.{demo_words, demo_model}
use Rattle.pl_report.proofs.AboutDemonstration.Parsing.{demo_ast, demo_short, demo_reads}
use Rattle.pl_report.proofs.AboutDemonstration.Drafts.{demo_drafts}
use Rattle.pl_report.proofs.AboutDemonstration.Counting.{demo_once, demo_counts}
use Rattle.pl_report.proofs.AboutDemonstration.Numbering.{demo_numbered}
use Rattle.pl_report.proofs.AboutDemonstration.Ranging.{demo_ranges}
use Rattle.pl_report.proofs.AboutDemonstration.Graphs.{demo_well_founded, demo_uncontained}
use Rattle.pl_report.proofs.AboutDemonstration.Finishing.{demo_finished}

-- rows that pass, one after the other
all_pass : (names counts : Judgement) (drafts : Judged (List Draft)) (ranges : List Draft → Judgement) (ds : List Draft)
    → names ≡ Ok tt → counts ≡ Ok tt → drafts ≡ Ok ds → ranges ds ≡ Ok tt
    → (names >> (counts >> (drafts >>= λ d. ranges d >> Ok d))) ≡ Ok ds
all_pass names counts drafts ranges ds p q r s = rw (p, q, r, s) refl

demo_drafted : drafted demo_ast ≡ Ok demo_drafts
unfolding drafted
demo_drafted =
    all_pass (twice_in demo_ast) (counts_in demo_ast) (numbered_items demo_ast.items) (range_in demo_ast.horizon demo_ast.lead) demo_drafts
    demo_once demo_counts demo_numbered demo_ranges

demo_is_model : IsModelOf demo_ast demo_drafts demo_model
unfolding demo_model
demo_is_model = record {
  params = demo_well_founded;
  contained = demo_uncontained;
  horizon = refl;
  lead = refl;
  timelines = refl;
  kinds = demo_finished;
}

demo_passes : Answers demo_ast (Ok demo_model)
demo_passes = subst (λ (drafts : Judged (List Draft)). AnswersJudged demo_ast drafts (Ok demo_model)) (sym demo_drafted) demo_is_model

pub demo_accepted : IsModelText demo_words demo_model
demo_accepted = record { ast = demo_ast; short = demo_short; reads = demo_reads; passes = demo_passes }
