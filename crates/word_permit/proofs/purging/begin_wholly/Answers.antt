-- There is old code of the module, or none.
use Rattle.std.proofs.Common.{Some, false, ap, refl, sym, ◌∙◌}
use Rattle.server_core.specs.declared.command.Cmd.TheVariants as cmds
use Rattle.script_core.specs.declared.script.ScriptCmd.TheVariants as commands
use Rattle.progress_words.specs.Tokens.{written_by}
use Rattle.write_permit.specs.Book.{shown}
use Rattle.write_permit.proofs.Ends.{purges_code}
use Rattle.word_permit.proofs.PurgeCalls.{ends_ok, whole_unlooked}
use Rattle.word_permit.proofs.PurgeCommands.{code_none, held_holds, module_found, next_purges, none_waits, whole_ends, whole_leaves, whole_tells}
use Rattle.word_permit.proofs.purging.begin_wholly.Goals as goal

pub doom_code-requires-clause-next : goal.doom_code-requires-clause-next
doom_code-requires-clause-next g c = c.requires.next ∙ ap (λ name. Some (commands.Purge name)) (module_found c.args.book.now.plain.server c.args.«module» c.in-Some.code (sym c.in-Some.ensures))

pub doom_code-requires-clause-code : goal.doom_code-requires-clause-code
doom_code-requires-clause-code g c = let e = purges_code c.args.book.now.plain.server (commands.Purge c.args.«module») c.in-Some.code (sym c.in-Some.ensures) in e.old

pub doom_code-requires-clause-none : goal.doom_code-requires-clause-none
doom_code-requires-clause-none g c =
    none_waits g.K.Naming.names (shown c.args.book.now.plain) c.args.book.now.tables c.args.book.now.waiting c.args.who (held_holds c.args.book.now.plain c.args.who c.requires.holds) (next_purges (shown c.args.book.now.plain) c.args.who (commands.Purge c.args.«module») c.requires.next refl) c.requires.book.words

pub end_quietly-requires-clause-none : goal.end_quietly-requires-clause-none
end_quietly-requires-clause-none g c =
    none_waits g.K.Naming.names (shown c.args.book.now.plain) c.args.book.now.tables c.args.book.now.waiting c.args.who (held_holds c.args.book.now.plain c.args.who c.requires.holds) (next_purges (shown c.args.book.now.plain) c.args.who (commands.Purge c.args.«module») c.requires.next refl) c.requires.book.words

pub end_quietly-requires-clause-holds : goal.end_quietly-requires-clause-holds
end_quietly-requires-clause-holds g c = held_holds c.args.book.now.plain c.args.who c.requires.holds

pub end_quietly-requires-clause-ends : goal.end_quietly-requires-clause-ends
end_quietly-requires-clause-ends g c = whole_ends c.args.book.now.plain c.args.who c.args.«module» c.requires.holds c.requires.next (code_none c.args.book.now.plain.server c.args.«module» (sym c.in-None.ensures))

pub end_quietly-requires-clause-leaves : goal.end_quietly-requires-clause-leaves
end_quietly-requires-clause-leaves g c = whole_leaves c.args.book.now.plain.script.modules c.args.book.now.plain.server c.args.«module» (code_none c.args.book.now.plain.server c.args.«module» (sym c.in-None.ensures))

pub end_quietly-requires-clause-told : goal.end_quietly-requires-clause-told
end_quietly-requires-clause-told g c = whole_tells c.args.book.now.plain.server (written_by c.args.book.now.tables.writer) _ c.args.«module» (code_none c.args.book.now.plain.server c.args.«module» (sym c.in-None.ensures))

pub returns-in-None-clause-ok : goal.returns-in-None-clause-ok
returns-in-None-clause-ok g c =
    ends_ok c.args.who c.args.book.now c.end_quietly.new.book (cmds.Purge c.args.«module» false)
    (whole_unlooked c.args.book.now.plain.server c.args.book.now c.end_quietly.new.book c.args.«module» (code_none c.args.book.now.plain.server c.args.«module» (sym c.in-None.ensures)) c.end_quietly.ensures.tables)
    c.end_quietly.result c.end_quietly.ensures.ok
