use Rattle.pl_journal.proofs.AboutRendering.Texts.{text_joined}
use Rattle.pl_journal.proofs.rendering.laws.text_laws.Goals as goal

pub returns : goal.returns
returns c = text_joined
