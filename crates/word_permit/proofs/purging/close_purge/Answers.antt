-- The look is waited for, and then tells.
use Rattle.std.proofs.Common.{refl, ◌∙◌}
use Rattle.progress_words.specs.Tokens.{written_by}
use Rattle.script_core.specs.declared.script.ScriptCmd.TheVariants as commands
use Rattle.write_permit.specs.Book.{shown}
use Rattle.write_permit.specs.declared.holder.Holder.TheVariants as holders
use Rattle.word_permit.proofs.PurgeCalls.{code_still, found_ok, holder_still, late_behind, taken_behind}
use Rattle.word_permit.proofs.PurgeCommands.{next_purges, none_waits, purging_holds, second_begun, second_next}
use Rattle.word_permit.proofs.purging.close_purge.Goals as goal

pub look_for_code-requires-clause-none : goal.look_for_code-requires-clause-none
look_for_code-requires-clause-none g c =
    none_waits g.K.Naming.names (shown c.args.book.now.plain) c.args.book.now.tables c.args.book.now.waiting c.args.who (purging_holds c.args.book.now.plain c.args.who c.args.code.«module» c.requires.holds) (next_purges (shown c.args.book.now.plain) c.args.who (commands.Purge c.args.code.«module») (second_next c.args.book.now.plain c.requires.book.has.book c.args.who c.args.code c.requires.holds) refl) c.requires.book.words

pub end_wholly-requires-clause-none : goal.end_wholly-requires-clause-none
end_wholly-requires-clause-none g c =
    c.look_for_code.ensures.same.waiting ∙ none_waits g.K.Naming.names (shown c.args.book.now.plain) c.args.book.now.tables c.args.book.now.waiting c.args.who (purging_holds c.args.book.now.plain c.args.who c.args.code.«module» c.requires.holds) (next_purges (shown c.args.book.now.plain) c.args.who (commands.Purge c.args.code.«module») (second_next c.args.book.now.plain c.requires.book.has.book c.args.who c.args.code c.requires.holds) refl) c.requires.book.words

pub end_wholly-requires-clause-holds : goal.end_wholly-requires-clause-holds
end_wholly-requires-clause-holds g c = holder_still c.args.book.now c.look_for_code.new.book (holders.Purging c.args.who c.args.code.«module») c.look_for_code.ensures.same c.requires.holds

pub end_wholly-requires-clause-code : goal.end_wholly-requires-clause-code
end_wholly-requires-clause-code g c = code_still c.args.book.now c.look_for_code.new.book c.args.code.«module».0 c.args.code.serial c.look_for_code.ensures.same c.requires.code

pub end_wholly-requires-clause-found : goal.end_wholly-requires-clause-found
end_wholly-requires-clause-found g c = (written_by c.args.book.now.tables.writer, c.in-Ok.ensures.found)

pub returns-in-Ok-clause-ok : goal.returns-in-Ok-clause-ok
returns-in-Ok-clause-ok g c =
    found_ok c.args.who c.args.book.now c.look_for_code.new.book (commands.Purge c.args.code.«module») c.args.code.serial c.in-Ok.scan
    (second_begun c.args.book.now c.args.who c.args.code.«module» c.requires.holds (second_next c.args.book.now.plain c.requires.book.has.book c.args.who c.args.code c.requires.holds)) (second_next c.args.book.now.plain c.requires.book.has.book c.args.who c.args.code c.requires.holds) c.requires.code c.requires.holds
    c.look_for_code.ensures.same c.in-Ok.ensures.found c.end_wholly.new.book c.end_wholly.result c.end_wholly.ensures.ok

pub returns-in-Ok-clause-err : goal.returns-in-Ok-clause-err
returns-in-Ok-clause-err g c = taken_behind c.args.book.now c.look_for_code.new.book c.look_for_code.ensures.same c.end_wholly.new.book c.end_wholly.result c.end_wholly.ensures.err

pub returns-in-Err-clause-ok : goal.returns-in-Err-clause-ok
returns-in-Err-clause-ok g c =
    late_behind c.args.book.now c.look_for_code.new.book c.look_for_code.ensures.same c.args.who c.in-Err.answer
    (none_waits g.K.Naming.names (shown c.args.book.now.plain) c.args.book.now.tables c.args.book.now.waiting c.args.who (purging_holds c.args.book.now.plain c.args.who c.args.code.«module» c.requires.holds) (next_purges (shown c.args.book.now.plain) c.args.who (commands.Purge c.args.code.«module») (second_next c.args.book.now.plain c.requires.book.has.book c.args.who c.args.code c.requires.holds) refl) c.requires.book.words)
    (second_begun c.args.book.now c.args.who c.args.code.«module» c.requires.holds (second_next c.args.book.now.plain c.requires.book.has.book c.args.who c.args.code c.requires.holds))
    c.in-Err.ensures.late c.in-Err.ensures.still c.look_for_code.ensures.loads

pub returns-in-Ok-clause-need : goal.returns-in-Ok-clause-need
returns-in-Ok-clause-need g c = c.end_wholly.ensures.need ∙ c.look_for_code.ensures.need
