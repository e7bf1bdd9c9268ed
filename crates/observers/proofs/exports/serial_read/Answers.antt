-- A name with a number reaches what the active code index has there.
use Rattle.std.proofs.Common.{sym, ◌∙◌}
use Rattle.progress_words.specs.Tokens.{watched_by}
use Rattle.observers.proofs.Exporting.{leads_from, reached_nowhere, reached_there}
use Rattle.observers.proofs.Reading.{read_none}
use Rattle.observers.proofs.exports.serial_read.Goals as goal

pub serial_of-requires-clause-leads : goal.serial_of-requires-clause-leads
serial_of-requires-clause-leads g c = leads_from c.args.exports.now (watched_by c.args.watcher.now) c.requires.served c.args.to c.in-Some.entry (sym c.entry.ensures.value ∙ c.in-Some.is)

pub returns-in-Some-clause-serial : goal.returns-in-Some-clause-serial
returns-in-Some-clause-serial g c = c.serial_of.ensures.serial ∙ reached_there c.args.exports.now (watched_by c.args.watcher.now) c.requires.served c.args.to c.in-Some.entry (sym c.entry.ensures.value ∙ c.in-Some.is)

pub returns-in-None-clause-read : goal.returns-in-None-clause-read
returns-in-None-clause-read g c = read_none c.args.watcher.now

pub returns-in-None-clause-serial : goal.returns-in-None-clause-serial
returns-in-None-clause-serial g c = reached_nowhere c.args.exports.now (watched_by c.args.watcher.now) c.requires.served c.args.to (sym c.entry.ensures.value ∙ c.in-None.is)
