-- The look was clear, or it named the old code.
use Rattle.std.proofs.Common.{Some, None, ap, refl, ◌∙◌}
use Rattle.server_core.specs.declared.command.Cmd.TheVariants as cmds
use Rattle.script_core.specs.declared.script.ScriptCmd.TheVariants as commands
use Rattle.write_permit.specs.declared.holder.Holder.TheVariants as holders
use Rattle.write_permit.specs.Book.{shown}
use Rattle.progress_words.specs.Tokens.{written_by}
use Rattle.word_permit.proofs.PurgeCalls.{clear_soft, code_still, found_as, found_clear, held_learns, holder_still, kept_still, looks_ok, named_soft, next_still, none_looked, taken_behind}
use Rattle.word_permit.proofs.PurgeCommands.{held_holds, soft_ends, soft_told}
use Rattle.word_permit.proofs.softly.end_softly.Goals as goal

pub drop_code-requires-clause-holds : goal.drop_code-requires-clause-holds
drop_code-requires-clause-holds g c = held_holds c.args.book.now.plain c.args.who c.requires.holds

pub drop_code-requires-clause-ends : goal.drop_code-requires-clause-ends
drop_code-requires-clause-ends g c = soft_ends c.args.book.now.plain c.args.who c.args.code.«module» c.requires.holds c.requires.next

pub drop_code-requires-clause-clear : goal.drop_code-requires-clause-clear
drop_code-requires-clause-clear g c = found_clear (written_by c.args.book.now.tables.writer) c.args.code.serial _ (found_as (written_by c.args.book.now.tables.writer) c.args.code.serial c.args.scan _ c.in-Clear.is c.requires.found)

pub drop_code-requires-clause-told : goal.drop_code-requires-clause-told
drop_code-requires-clause-told g c = soft_told c.args.book.now.plain.server (written_by c.args.book.now.tables.writer) c.args.code.«module» c.args.code.serial c.requires.code

pub returns-in-Clear-clause-ok : goal.returns-in-Clear-clause-ok
returns-in-Clear-clause-ok g c =
    looks_ok c.args.book.now c.args.book.now (none_looked c.args.book.now) c.args.who c.args.code.serial c.args.scan (cmds.SoftPurge c.args.code.«module» None) c.requires.code c.drop_code.new.book c.drop_code.result
    (clear_soft c.args.code.serial c.args.scan c.args.code.«module» (written_by c.args.book.now.tables.writer) (written_by c.drop_code.new.book.tables.writer) _ c.drop_code.result c.in-Clear.is c.drop_code.ensures.dropped) c.drop_code.ensures.ok

pub keep_lingering-requires-clause-found : goal.keep_lingering-requires-clause-found
keep_lingering-requires-clause-found g c = found_as (written_by c.args.book.now.tables.writer) c.args.code.serial c.args.scan _ c.in-Named.is c.requires.found

pub end_lingering-requires-clause-none : goal.end_lingering-requires-clause-none
end_lingering-requires-clause-none g c = c.keep_lingering.ensures.same.waiting ∙ c.requires.none

pub end_lingering-requires-clause-holds : goal.end_lingering-requires-clause-holds
end_lingering-requires-clause-holds g c = holder_still c.args.book.now c.keep_lingering.new.book (holders.Held c.args.who) c.keep_lingering.ensures.same c.requires.holds

pub end_lingering-requires-clause-next : goal.end_lingering-requires-clause-next
end_lingering-requires-clause-next g c = next_still c.args.book.now c.keep_lingering.new.book c.args.who (commands.SoftPurge c.args.code.«module») c.keep_lingering.ensures.same c.requires.next

pub end_lingering-requires-clause-code : goal.end_lingering-requires-clause-code
end_lingering-requires-clause-code g c = code_still c.args.book.now c.keep_lingering.new.book c.args.code.«module».0 c.args.code.serial c.keep_lingering.ensures.same c.requires.code

pub end_lingering-requires-clause-lingers : goal.end_lingering-requires-clause-lingers
end_lingering-requires-clause-lingers g c = kept_still c.args.book.now c.keep_lingering.new.book c.args.code.serial c.in-Some.linger c.keep_lingering.ensures.same c.in-Some.ensures.kept

pub returns-in-Some-clause-ok : goal.returns-in-Some-clause-ok
returns-in-Some-clause-ok g c =
    looks_ok c.args.book.now c.keep_lingering.new.book c.keep_lingering.ensures.same c.args.who c.args.code.serial c.args.scan (cmds.SoftPurge c.args.code.«module» (Some c.in-Some.linger)) c.requires.code c.end_lingering.new.book c.end_lingering.result
    (named_soft c.args.code.serial c.args.scan c.args.code.«module» (written_by c.args.book.now.tables.writer) c.keep_lingering.new.book c.end_lingering.new.book _ _ _ _ c.in-Some.linger c.end_lingering.result c.in-Named.is c.in-Some.ensures.lingers c.end_lingering.ensures.tables) c.end_lingering.ensures.ok

pub returns-in-Some-clause-err : goal.returns-in-Some-clause-err
returns-in-Some-clause-err g c = taken_behind c.args.book.now c.keep_lingering.new.book c.keep_lingering.ensures.same c.end_lingering.new.book c.end_lingering.result c.end_lingering.ensures.err

pub returns-in-None-clause-ok : goal.returns-in-None-clause-ok
returns-in-None-clause-ok g c = record {
  found = c.in-Named.is;
  same = ap shown c.keep_lingering.ensures.same.plain;
  published = c.keep_lingering.ensures.same.published;
  learnt = held_learns c.args.book.now c.args.who c.args.code.serial _ _ _ (written_by c.keep_lingering.new.book.tables.writer) c.requires.holds (c.in-None.ensures.left refl);
  none = c.keep_lingering.ensures.same.waiting ∙ c.requires.none;
}

pub returns-in-Some-clause-need : goal.returns-in-Some-clause-need
returns-in-Some-clause-need g c = c.end_lingering.ensures.need ∙ c.keep_lingering.ensures.need
