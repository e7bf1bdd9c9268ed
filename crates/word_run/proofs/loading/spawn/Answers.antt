use Rattle.std.proofs.Common.{subst, ◌∙◌}
use Rattle.progress_words.specs.Tokens.{written_by}
use Rattle.write_permit.specs.Book.{shown}
use Rattle.word_permit.specs.Notes.{HandsOut, next_spawned}
use Rattle.word_permit.proofs.Runs.{book_of_run}
use Rattle.word_run.proofs.Making.{makes_posted}
use Rattle.word_run.proofs.Noting.{generation_counted, handed_note, handed_number}
use Rattle.word_run.proofs.loading.spawn.Goals as goal

-- its note is of the generations that were published then
pub post_home-requires-clause-note : goal.post_home-requires-clause-note
post_home-requires-clause-note g c =
    handed_note g.K.Naming.names g.N.RunName.run g.T.TableName.table _ _ c.args.permit.now c.args.who _ _ c.in-Some.spawned c.generation-published.result c.requires.words c.requires.table c.journal.ensures.kept
    (book_of_run g.K.Naming.names g.N.RunName.run _ c.journal.ensures.kept).permit c.generation-published.ensures c.requires.next (subst (HandsOut _ (written_by c.args.permit.now.tables.writer) (next_spawned (shown c.args.permit.now.plain) c.args.who)) c.in-Some.is c.in_ok-spawned.ensures.spawned)

-- the process is posted home, or memory for that was refused
pub returns-in-Some-clause-made : goal.returns-in-Some-clause-made
returns-in-Some-clause-made g c =
    let permit = (book_of_run g.K.Naming.names g.N.RunName.run _ c.journal.ensures.kept).permit in
    let handed = subst (HandsOut _ (written_by c.args.permit.now.tables.writer) (next_spawned (shown c.args.permit.now.plain) c.args.who)) c.in-Some.is c.in_ok-spawned.ensures.spawned in
    makes_posted (shown c.args.permit.now.plain) (shown c.at_once.new.self.plain) c.args.who _ _ _ c.in-Some.spawned.process c.generation-published.result c.args.posters.now c.post_home.new.posters c.requires.some permit c.requires.next c.in_ok-spawned.ensures.ok
    (handed_number (shown c.args.permit.now.plain) c.args.who _ _ _ (written_by c.args.permit.now.tables.writer) c.in-Some.spawned c.requires.next handed) (c.generation-published.ensures ∙ generation_counted (shown c.args.permit.now.plain) permit)
    _ c.post_home.result c.post_home.ensures.ok c.post_home.ensures.err
