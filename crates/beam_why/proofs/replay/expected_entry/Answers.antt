-- The command of an entry has terms that a text can say.
use Rattle.std.proofs.Common.{sym}
use Rattle.beam_why.proofs.Commands.{command_at}
use Rattle.beam_why.proofs.replay.expected_entry.Goals as goal

pub say_entry-requires-clause-said : goal.say_entry-requires-clause-said
say_entry-requires-clause-said c = command_at c.args.log.now.journal c.args.place c.in-Some.entry.now c.requires.put (sym (rw c.in-Some.is at c.get.ensures))
