-- No number is out of range. The durations are those that are written.
use Rattle.std.proofs.Common.{◌≡◌, ℤ, pos, Bool, [], Ok}
use Rattle.pl_model.specs.declared.expressions.Expr.{Num}
use Rattle.pl_model.specs.Bounds.{bounds_at, bounds_of, clipped_both}
use Rattle.pl_model.proofs.Induction.{fold_num}
use Rattle.pl_check.specs.Ranges.{is_between, is_amount, literals_at, literals_fit, range_in_order, range_in_draft, range_in}
use Rattle.pl_check.specs.Networks.{span_of}
use Rattle.pl_check.specs.Checked.{spans_in}
use Rattle.pl_report.proofs.AboutDemonstration.Drafts.{scan_kind, demo_drafts, lasting, demo_spans}

literals_num : (n : ℤ) → literals_fit (Num n) ≡ is_amount n
literals_num n = fold_num Bool literals_at n

pub bounds_num : (n : ℤ) → bounds_of (Num n) [] ≡ clipped_both (n, n)
bounds_num n = fold_num (ℤ × ℤ) (bounds_at []) n

pub demo_ranges : range_in (pos 1000000) (pos 100) demo_drafts ≡ Ok tt
unfolding is_between range_in_order range_in_draft
demo_ranges = simp (literals_num, bounds_num)

pub demo_spans_are : spans_in (pos 1000000) demo_drafts ≡ demo_spans
demo_spans_are = simp bounds_num

pub scan_span_is : span_of (pos 1000000) scan_kind ≡ lasting 10
scan_span_is = simp bounds_num
