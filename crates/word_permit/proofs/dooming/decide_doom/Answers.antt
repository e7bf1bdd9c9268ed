-- Nothing is doomed yet, so the table has a case for it.
use Rattle.server_core.specs.declared.command.Cmd.TheVariants.{Doom}
use Rattle.write_permit.specs.Book.{shown}
use Rattle.write_permit.proofs.Dooms.{doom_enabled}
use Rattle.write_permit.proofs.EndBooks.{held_rest}
use Rattle.word_permit.proofs.Dropped.{decided_made}
use Rattle.word_permit.proofs.dooming.decide_doom.Goals as goal

pub decide-requires-clause-enabled : goal.decide-requires-clause-enabled
decide-requires-clause-enabled c =
    doom_enabled c.args.book.now.script.modules c.args.book.now.server c.args.code.«module» c.args.code.serial (held_rest c.args.book.now c.requires.book c.args._who c.args.code c.requires.holds c.requires.next c.requires.code) c.requires.code

pub returns-clause-made : goal.returns-clause-made
returns-clause-made c = decided_made (shown c.args.book.now) (Doom c.args.code.«module») c.decide.result c.decide.ensures.fits c.decide.ensures.given c.decide.ensures.answer c.decide.ensures.cmd
