-- The loader's next command is told by what it purges.
use Rattle.std.proofs.Common.{Some, ap, ◌∙◌}
use Rattle.word_permit.specs.Purged.{purging_command}
use Rattle.word_permit.proofs.purging.begin_purge.Goals as goal

pub begin_softly-requires-clause-next : goal.begin_softly-requires-clause-next
begin_softly-requires-clause-next g c = c.requires.next ∙ ap (λ purged. Some (purging_command purged)) c.in-Softly.is

pub begin_wholly-requires-clause-next : goal.begin_wholly-requires-clause-next
begin_wholly-requires-clause-next g c = c.requires.next ∙ ap (λ purged. Some (purging_command purged)) c.in-Wholly.is
