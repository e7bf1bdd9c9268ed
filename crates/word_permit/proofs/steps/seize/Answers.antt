-- Nothing waits while nobody has the permission; who has it keeps it.
use Rattle.std.proofs.Common.{refl}
use Rattle.word_permit.proofs.Calls.{kept_as_is, seized_kept}
use Rattle.word_permit.proofs.steps.seize.Goals as goal

pub returns-in-Free-clause-kept : goal.returns-in-Free-clause-kept
returns-in-Free-clause-kept c = seized_kept c.args.book.now c.args.who c.in-Free.is c.requires

pub returns-in-Held-clause-kept : goal.returns-in-Held-clause-kept
returns-in-Held-clause-kept c = kept_as_is c.args.book.now

pub returns-in-Held-2-clause-kept : goal.returns-in-Held-2-clause-kept
returns-in-Held-2-clause-kept c = kept_as_is c.args.book.now

pub returns-in-Held-3-clause-kept : goal.returns-in-Held-3-clause-kept
returns-in-Held-3-clause-kept c = kept_as_is c.args.book.now

pub returns-in-Free-clause-waits : goal.returns-in-Free-clause-waits
returns-in-Free-clause-waits c = record { waiting = refl; need = refl; look = refl }

pub returns-in-Held-clause-waits : goal.returns-in-Held-clause-waits
returns-in-Held-clause-waits c = record { waiting = refl; need = refl; look = refl }

pub returns-in-Held-2-clause-waits : goal.returns-in-Held-2-clause-waits
returns-in-Held-2-clause-waits c = record { waiting = refl; need = refl; look = refl }

pub returns-in-Held-3-clause-waits : goal.returns-in-Held-3-clause-waits
returns-in-Held-3-clause-waits c = record { waiting = refl; need = refl; look = refl }
