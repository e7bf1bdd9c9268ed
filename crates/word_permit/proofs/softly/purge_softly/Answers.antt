-- The look is waited for, and then tells.
use Rattle.std.proofs.Common.{refl, ◌∙◌}
use Rattle.progress_words.specs.Tokens.{written_by}
use Rattle.script_core.specs.declared.script.ScriptCmd.TheVariants as commands
use Rattle.write_permit.specs.Book.{shown}
use Rattle.write_permit.specs.declared.holder.Holder.TheVariants as holders
use Rattle.word_permit.proofs.PurgeCalls.{code_still, found_ok, holder_still, late_behind, next_still, taken_behind}
use Rattle.word_permit.proofs.PurgeCommands.{held_holds, next_purges, none_waits, soft_begun}
use Rattle.word_permit.proofs.softly.purge_softly.Goals as goal

pub look_for_code-requires-clause-none : goal.look_for_code-requires-clause-none
look_for_code-requires-clause-none g c =
    none_waits g.K.Naming.names (shown c.args.book.now.plain) c.args.book.now.tables c.args.book.now.waiting c.args.who (held_holds c.args.book.now.plain c.args.who c.requires.holds) (next_purges (shown c.args.book.now.plain) c.args.who (commands.SoftPurge c.args.code.«module») (c.requires.next) refl) c.requires.book.words

pub end_softly-requires-clause-none : goal.end_softly-requires-clause-none
end_softly-requires-clause-none g c =
    c.look_for_code.ensures.same.waiting ∙ none_waits g.K.Naming.names (shown c.args.book.now.plain) c.args.book.now.tables c.args.book.now.waiting c.args.who (held_holds c.args.book.now.plain c.args.who c.requires.holds) (next_purges (shown c.args.book.now.plain) c.args.who (commands.SoftPurge c.args.code.«module») (c.requires.next) refl) c.requires.book.words

pub end_softly-requires-clause-holds : goal.end_softly-requires-clause-holds
end_softly-requires-clause-holds g c = holder_still c.args.book.now c.look_for_code.new.book (holders.Held c.args.who) c.look_for_code.ensures.same c.requires.holds

pub end_softly-requires-clause-next : goal.end_softly-requires-clause-next
end_softly-requires-clause-next g c = next_still c.args.book.now c.look_for_code.new.book c.args.who (commands.SoftPurge c.args.code.«module») c.look_for_code.ensures.same c.requires.next

pub end_softly-requires-clause-code : goal.end_softly-requires-clause-code
end_softly-requires-clause-code g c = code_still c.args.book.now c.look_for_code.new.book c.args.code.«module».0 c.args.code.serial c.look_for_code.ensures.same c.requires.code

pub end_softly-requires-clause-found : goal.end_softly-requires-clause-found
end_softly-requires-clause-found g c = (written_by c.args.book.now.tables.writer, c.in-Ok.ensures.found)

pub returns-in-Ok-clause-ok : goal.returns-in-Ok-clause-ok
returns-in-Ok-clause-ok g c =
    found_ok c.args.who c.args.book.now c.look_for_code.new.book (commands.SoftPurge c.args.code.«module») c.args.code.serial c.in-Ok.scan (soft_begun c.args.book.now c.args.who c.args.code.«module» c.requires.next) c.requires.next c.requires.code c.requires.holds c.look_for_code.ensures.same c.in-Ok.ensures.found
    c.end_softly.new.book c.end_softly.result c.end_softly.ensures.ok

pub returns-in-Ok-clause-err : goal.returns-in-Ok-clause-err
returns-in-Ok-clause-err g c = taken_behind c.args.book.now c.look_for_code.new.book c.look_for_code.ensures.same c.end_softly.new.book c.end_softly.result c.end_softly.ensures.err

pub returns-in-Err-clause-ok : goal.returns-in-Err-clause-ok
returns-in-Err-clause-ok g c =
    late_behind c.args.book.now c.look_for_code.new.book c.look_for_code.ensures.same c.args.who c.in-Err.answer
    (none_waits g.K.Naming.names (shown c.args.book.now.plain) c.args.book.now.tables c.args.book.now.waiting c.args.who (held_holds c.args.book.now.plain c.args.who c.requires.holds) (next_purges (shown c.args.book.now.plain) c.args.who (commands.SoftPurge c.args.code.«module») (c.requires.next) refl) c.requires.book.words)
    (soft_begun c.args.book.now c.args.who c.args.code.«module» c.requires.next)
    c.in-Err.ensures.late c.in-Err.ensures.still c.look_for_code.ensures.loads

pub returns-in-Ok-clause-need : goal.returns-in-Ok-clause-need
returns-in-Ok-clause-need g c = c.end_softly.ensures.need ∙ c.look_for_code.ensures.need
