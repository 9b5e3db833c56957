use Rattle.pl_update.proofs.AboutTimelines.ReplacingLines.{gone_held, gone_askable, rest_named, rest_told, rest_room, come_askable, lines_after}
use Rattle.pl_update.proofs.timelines.laws.laws_of_replacements.Goals as goal

pub returns-clause-held : goal.returns-clause-held
returns-clause-held c = λ s gone more lines whole can once are. gone_held s gone more whole can once lines are

pub returns-clause-may_go : goal.returns-clause-may_go
returns-clause-may_go c = λ s gone lines whole are. gone_askable s gone whole lines are

pub returns-clause-named : goal.returns-clause-named
returns-clause-named c = λ s gone more lines rest whole can once are moved. rest_named s gone more whole can once lines rest are moved

pub returns-clause-told : goal.returns-clause-told
returns-clause-told c = λ s gone more lines rest set whole can once are moved told. rest_told s gone more whole can once lines rest are moved set told

pub returns-clause-room : goal.returns-clause-room
returns-clause-room c = λ s gone more lines rest whole can once are moved. rest_room s gone more whole can once lines rest are moved

pub returns-clause-may_come : goal.returns-clause-may_come
returns-clause-may_come c = λ s gone more lines rest whole can once are moved. come_askable s gone more whole can once lines rest are moved

pub returns-clause-after : goal.returns-clause-after
returns-clause-after c = λ s gone more lines rest full whole can once are moved placed. lines_after s gone more whole can once lines rest are moved full placed
