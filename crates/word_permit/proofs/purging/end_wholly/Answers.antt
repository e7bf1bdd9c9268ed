-- The look was clear, or it named the old code.
use Rattle.std.proofs.Common.{refl}
use Rattle.server_core.specs.declared.command.Cmd.TheVariants as cmds
use Rattle.progress_words.specs.Tokens.{written_by}
use Rattle.write_permit.proofs.EndBooks.{close_ends}
use Rattle.word_permit.proofs.PurgeCalls.{clear_whole, doomed_learns, found_as, found_clear, looks_ok, none_looked}
use Rattle.word_permit.proofs.PurgeCommands.{purging_holds, whole_told}
use Rattle.word_permit.proofs.purging.end_wholly.Goals as goal

pub drop_code-requires-clause-holds : goal.drop_code-requires-clause-holds
drop_code-requires-clause-holds g c = purging_holds c.args.book.now.plain c.args.who c.args.code.«module» c.requires.holds

pub drop_code-requires-clause-ends : goal.drop_code-requires-clause-ends
drop_code-requires-clause-ends g c = close_ends c.args.book.now.plain c.requires.book.has.book c.args.who c.args.code c.in-Clear.killed c.requires.holds

pub drop_code-requires-clause-clear : goal.drop_code-requires-clause-clear
drop_code-requires-clause-clear g c = found_clear (written_by c.args.book.now.tables.writer) c.args.code.serial c.in-Clear.killed (found_as (written_by c.args.book.now.tables.writer) c.args.code.serial c.args.scan _ c.in-Clear.is c.requires.found)

pub drop_code-requires-clause-told : goal.drop_code-requires-clause-told
drop_code-requires-clause-told g c =
    whole_told c.args.book.now.plain.server (written_by c.args.book.now.tables.writer) c.args.code.«module» c.args.code.serial c.in-Clear.killed c.requires.code (found_as (written_by c.args.book.now.tables.writer) c.args.code.serial c.args.scan _ c.in-Clear.is c.requires.found)

pub returns-in-Named-clause-ok : goal.returns-in-Named-clause-ok
returns-in-Named-clause-ok g c = record { found = c.in-Named.is; same = refl; published = refl; learnt = doomed_learns c.args.book.now c.args.who c.args.code.«module» c.args.code.serial _ _ _ c.requires.holds; none = c.requires.none }

pub returns-in-Clear-clause-ok : goal.returns-in-Clear-clause-ok
returns-in-Clear-clause-ok g c =
    looks_ok c.args.book.now c.args.book.now (none_looked c.args.book.now) c.args.who c.args.code.serial c.args.scan (cmds.Purge c.args.code.«module» c.in-Clear.killed) c.requires.code c.drop_code.new.book c.drop_code.result
    (clear_whole c.args.code.serial c.args.scan c.args.code.«module» (written_by c.args.book.now.tables.writer) (written_by c.drop_code.new.book.tables.writer) c.in-Clear.killed c.drop_code.result c.in-Clear.is c.drop_code.ensures.dropped) c.drop_code.ensures.ok
