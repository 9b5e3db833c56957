use Rattle.std.proofs.Common.{◌≡◌, ◌∙◌, length, All, subst, sym}
use Rattle.pl_check.specs.Drafting.{kinds_in}
use Rattle.pl_check.specs.Sound.{IsSoundKind}
use Rattle.pl_check.specs.Ranges.{NamesOwn}
use Rattle.pl_check.specs.Networks.{IsNearKind}
use Rattle.pl_check.proofs.RangeLemmas.{sound_kinds, kind_names, near_kinds}
use Rattle.pl_check.proofs.checking.complete.Goals as goal

pub spans_of-requires-clause-names : goal.spans_of-requires-clause-names
spans_of-requires-clause-names c =
    let same : c.as_slice-all.result.now ≡ kinds_in c.args.drafts.now = c.as_slice-all.ensures ∙ c.in_ok-kinds.ensures in
    subst (λ kinds. All NamesOwn kinds) (sym same) (kind_names (length (kinds_in c.args.drafts.now)) (kinds_in c.args.drafts.now) (sound_kinds (length (kinds_in c.args.drafts.now)) c.args.drafts.now c.requires.sound))

pub finish_kinds-requires-clause-sound : goal.finish_kinds-requires-clause-sound
finish_kinds-requires-clause-sound c =
    let same : c.as_slice-all.result.now ≡ kinds_in c.args.drafts.now = c.as_slice-all.ensures ∙ c.in_ok-kinds.ensures in
    subst (λ kinds. All (IsSoundKind (length kinds)) kinds) (sym same) (sound_kinds (length (kinds_in c.args.drafts.now)) c.args.drafts.now c.requires.sound)

pub finish_kinds-requires-clause-near : goal.finish_kinds-requires-clause-near
finish_kinds-requires-clause-near c =
    let same : c.as_slice-all.result.now ≡ kinds_in c.args.drafts.now = c.as_slice-all.ensures ∙ c.in_ok-kinds.ensures in
    subst (λ kinds. All IsNearKind kinds) (sym same) (near_kinds c.args.ast.now.horizon c.args.ast.now.lead c.args.drafts.now c.requires.ranges)
